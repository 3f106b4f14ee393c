use Rattle.std.proofs.Common.{arith}
use Rattle.text.proofs.EncodingLaws.{read_four}
use Rattle.text.proofs.characters.of_four.Goals as goal

pub returns-in_default : goal.returns-in_default
returns-in_default c = λ rest.
    read_four c.args.a c.args.b c.args.c c.args.d _ rest (omega arith) (omega arith) (omega arith) (omega arith) (omega arith) (omega arith) (omega arith)
