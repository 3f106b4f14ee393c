use Rattle.theory.proofs.FullLaws.{insertion_sound}
use Rattle.theory.proofs.theorems.insertion_sound.Goals as goal

pub returns : goal.returns
returns c = record { holds = insertion_sound }
