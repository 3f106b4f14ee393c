use Rattle.std.proofs.Common.{◌≡◌, ◌<◌, length, take, drop}
use Rattle.std.specs.Fmt.{HasWritten, IsPlainFormatter}
use Rattle.std.specs.Iterator.Adapters.{rev_source}
use Rattle.std.specs.Slice.Iter.{iter_rest}
use Rattle.buckets.proofs.report.SizesDisplay.fmt.Given as goal
use Rattle.buckets.specs.Reports.{sizes_list}

abbrev pub invariant-loop-bucket : goal.invariant-loop-bucket
invariant-loop-bucket g l =
    let rest = iter_rest (rev_source l.bucket-iterator) in
    record {
      front : rest ≡ take (length rest) l.self.buckets.now;
      within : length rest < length l.self.buckets.now;
      written : IsPlainFormatter l.fn.f →
          HasWritten g.W.Write.write_str_gives l.fn.f (sizes_list (drop (length rest) l.self.buckets.now)) l.f;
    }
