use Rattle.theory.proofs.KeepLaws.{insertion_keeps}
use Rattle.theory.proofs.theorems.insertion_keeps.Goals as goal

pub returns : goal.returns
returns c = record { holds = insertion_keeps }
