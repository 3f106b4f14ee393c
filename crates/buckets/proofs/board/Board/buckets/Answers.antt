use Rattle.std.proofs.Common.{arith}
use Rattle.buckets.proofs.CountLaws.{buckets_inside}
use Rattle.buckets.proofs.board.Board.buckets.Goals as goal

pub shared_ref_as_front-result : goal.shared_ref_as_front-result
shared_ref_as_front-result c = omega (arith, buckets_inside c.args.self.now)
