use Rattle.std.proofs.Common.{inl, inr, arith}
use Rattle.text.proofs.EncodingLaws.{read_three}
use Rattle.text.proofs.characters.of_three.Goals as goal

pub returns-in_default : goal.returns-in_default
returns-in_default c = λ rest.
    read_three c.args.a c.args.b c.args.c _ rest (omega arith) (omega arith) (omega arith) (omega arith) (inl (omega arith)) (omega arith)

pub returns-in_default-2 : goal.returns-in_default-2
returns-in_default-2 c = λ rest.
    read_three c.args.a c.args.b c.args.c _ rest (omega arith) (omega arith) (omega arith) (omega arith) (inr (omega arith)) (omega arith)
