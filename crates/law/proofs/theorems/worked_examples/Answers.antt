use Rattle.law.proofs.ExampleLaws.{worked}
use Rattle.law.proofs.theorems.worked_examples.Goals as goal

pub returns : goal.returns
returns c = record { holds = worked }
