use Rattle.theory.proofs.FullLaws.{window_few}
use Rattle.theory.proofs.theorems.arrivals_in_window.Goals as goal

pub returns : goal.returns
returns c = record { holds = window_few }
