use Rattle.law.proofs.LargestLaws.{largest_is}
use Rattle.law.proofs.theorems.largest_is_largest.Goals as goal

pub returns : goal.returns
returns c = record { holds = largest_is }
