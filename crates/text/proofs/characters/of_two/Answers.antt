use Rattle.std.proofs.Common.{arith}
use Rattle.text.proofs.EncodingLaws.{read_two}
use Rattle.text.proofs.characters.of_two.Goals as goal

pub returns-in_default : goal.returns-in_default
returns-in_default c = λ rest.
    read_two c.args.a c.args.b _ rest (omega arith) (omega arith) (omega arith) (omega arith)
