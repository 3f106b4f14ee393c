use Rattle.theory.proofs.KeepLaws.{empty_keeps}
use Rattle.theory.proofs.theorems.empty_keeps.Goals as goal

pub returns : goal.returns
returns c = record { holds = empty_keeps }
