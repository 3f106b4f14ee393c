use Rattle.buckets.proofs.NumberLaws.{Begun}
use Rattle.buckets.proofs.numbers.read_number.Given as goal

abbrev pub invariant-loop-byte : goal.invariant-loop-byte
invariant-loop-byte l = Begun l.line l.most l.byte-index l.number
