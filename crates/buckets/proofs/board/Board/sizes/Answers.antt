use Rattle.std.proofs.Common.{All, sym, subst}
use Rattle.buckets.proofs.CountLaws.{buckets_small}
use Rattle.buckets.specs.Reports.{Small}
use Rattle.buckets.proofs.board.Board.sizes.Goals as goal

pub invariant_of-result : goal.invariant_of-result
invariant_of-result c = record { small = subst (All Small) (sym c.buckets.ensures.value) (buckets_small c.args.self.now) }
