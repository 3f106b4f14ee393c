use Rattle.std.proofs.Common.{◌≡◌, ◌++◌}
use Rattle.std.specs.Slice.Iter.{chunks_rest, chunks_size}
use Rattle.theory.specs.Levels.{newer}
use Rattle.histogram.proofs.inserting.gather_newer.Given as goal

abbrev pub invariant-loop-pair : goal.invariant-loop-pair
invariant-loop-pair l = record {
  can_next : (goal.iterator-loop-pair).can_next l.pair-iterator;
  is_finite : (goal.iterator-loop-pair).is_finite l.pair-iterator;
  pairs : chunks_size l.pair-iterator ≡ 2;
  so_far : l.held.items ++ newer (chunks_rest l.pair-iterator) ≡ l.initial.held.items ++ newer l.olds;
}
