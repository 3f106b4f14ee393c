use Rattle.theory.proofs.KeepLaws.{brackets_truth}
use Rattle.theory.proofs.theorems.brackets_truth.Goals as goal

pub returns : goal.returns
returns c = record { holds = brackets_truth }
