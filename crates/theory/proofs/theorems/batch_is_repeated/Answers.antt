use Rattle.theory.proofs.BatchLaws.{level_law_lem}
use Rattle.theory.proofs.KeepLaws.{insertions_by_levels}
use Rattle.theory.proofs.theorems.batch_is_repeated.Goals as goal

pub returns : goal.returns
returns c = record { holds = record { by_levels = insertions_by_levels; level_law = level_law_lem } }
