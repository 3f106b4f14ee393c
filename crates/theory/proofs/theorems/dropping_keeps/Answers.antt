use Rattle.theory.proofs.KeepLaws.{dropping_keeps}
use Rattle.theory.proofs.theorems.dropping_keeps.Goals as goal

pub returns : goal.returns
returns c = record { holds = dropping_keeps }
