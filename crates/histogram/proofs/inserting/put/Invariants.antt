use Rattle.std.proofs.Common.{◌≡◌, map}
use lib.Seq.{paste}
use Rattle.histogram.specs.Raising.{of_size}
use Rattle.histogram.proofs.inserting.put.Given as goal

abbrev pub invariant-loop-k : goal.invariant-loop-k
invariant-loop-k l = l.place ≡ paste l.initial.place l.new (map (of_size l.exponent) l.olds) l.k
