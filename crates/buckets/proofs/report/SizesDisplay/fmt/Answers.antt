use Rattle.std.proofs.Common.{refl}
use Rattle.std.proofs.Output.{has_written_append, has_written_of_eq}
use Rattle.std.specs.Iterator.Adapters.{rev_source}
use Rattle.std.specs.Slice.Iter.{iter_rest}
use Rattle.buckets.proofs.SizeLaws.{next_front, next_within, next_small, next_sizes}
use Rattle.buckets.proofs.report.SizesDisplay.fmt.Goals as goal

pub size_of-requires-in-loop-bucket : goal.size_of-requires-in-loop-bucket
size_of-requires-in-loop-bucket g c =
    let i = c.loop-bucket.invariant in
    next_small c.args.self.now.buckets.now (iter_rest (rev_source c.loop-bucket.bucket-iterator)) (iter_rest (rev_source c.next.new.self))
    c.in-Some.bucket.now i.front i.within c.in-Some.ensures.steps c.args.self.now.small

pub loop-bucket-preserved : goal.loop-bucket-preserved
loop-bucket-preserved g c =
    let i = c.loop-bucket.invariant in
    let all = c.args.self.now.buckets.now in
    let rest = iter_rest (rev_source c.loop-bucket.bucket-iterator) in
    let rest' = iter_rest (rev_source c.next.new.self) in
    let b = c.in-Some.bucket.now in
    let last = c.in-Some.ensures.steps in
    record {
      front = next_front all rest rest' b i.front i.within last;
      within = next_within all rest rest' b i.front i.within last;
      written = λ p.
          has_written_of_eq _ _ _ _ _
          (next_sizes all rest rest' b i.front i.within last c.size_of-in-loop-bucket.result c.size_of-in-loop-bucket.ensures)
          (has_written_append _ _ _ _ _ _ (i.written p) (c.in_ok-write-2.ensures.writes (i.written p).plain refl));
    }
