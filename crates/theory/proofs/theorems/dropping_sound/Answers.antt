use Rattle.theory.proofs.FullLaws.{dropping_sound}
use Rattle.theory.proofs.theorems.dropping_sound.Goals as goal

pub returns : goal.returns
returns c = record { holds = dropping_sound }
