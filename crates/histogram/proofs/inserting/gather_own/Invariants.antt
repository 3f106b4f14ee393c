use Rattle.std.proofs.Common.{◌≡◌, ◌++◌, drop}
use Rattle.histogram.specs.Raising.{own_of}
use Rattle.histogram.proofs.inserting.gather_own.Given as goal

abbrev pub invariant-loop-bucket : goal.invariant-loop-bucket
invariant-loop-bucket l =
    l.held.items ++ own_of l.exponent (drop l.bucket-index l.buckets) ≡ l.initial.held.items ++ own_of l.exponent l.buckets
