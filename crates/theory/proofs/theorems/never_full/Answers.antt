use Rattle.theory.proofs.FullLaws.{never_full}
use Rattle.theory.proofs.theorems.never_full.Goals as goal

pub returns : goal.returns
returns c = record { holds = never_full }
