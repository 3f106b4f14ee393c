use Rattle.theory.proofs.FullLaws.{few_buckets}
use Rattle.theory.proofs.theorems.few_buckets.Goals as goal

pub returns : goal.returns
returns c = record { holds = few_buckets }
