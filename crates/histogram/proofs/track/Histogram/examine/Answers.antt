use Rattle.std.proofs.Common.{◌≤◌, take, Some, Option, sym, ap, ◌∙◌, arith}
use Rattle.histogram.proofs.StretchLaws.{buckets_live, buckets_tail, surveyed_none, surveyed-some, tail_buckets, tail_facts}
use Rattle.histogram.specs.declared.surveys.Survey.{Survey}
use Rattle.std.proofs.ByRecursion.{All-get_or}
use Rattle.std.proofs.lemmas.List.{take_rest}
use Rattle.std.proofs.lemmas.Bool.{false≢true}
use Rattle.theory.specs.Sound.{every, is_zero}
use Rattle.histogram.proofs.track.Histogram.examine.Goals as goal
use Rattle.histogram.proofs.track.Histogram.examine.Goals.{then-stretch-most-via-then-stretch-most, then-stretch-most-via-else-stretch-most+then-buckets-most, then-stretch-most-via-else-stretch-most+else-buckets-most+then-not-all_zero}

pub returns-then-stretch-most : goal.returns-then-stretch-most
returns-then-stretch-most c =
    let h = c.args.self.now in
    let xs = c.args.stretch.now in
    record {
      value = surveyed_none h c.args.window xs (λ f.
          elim c.then-stretch-most.branch [
            | then-stretch-most-via-then-stretch-most w ↦ omega (arith, w.if-stretch-most.true, f.roomy, c.most_buckets-most.ensures.value)
            | then-stretch-most-via-else-stretch-most+then-buckets-most w ↦ omega
                (arith, w.if-buckets-most.true, f.few, c.most_buckets-most.ensures.value)
            | then-stretch-most-via-else-stretch-most+else-buckets-most+then-not-all_zero w ↦
                false≢true (sym w.if-not-all_zero.true ∙ w.all_zero.ensures.value ∙ ap (every is_zero) (take_rest xs h.standing.buckets) ∙
                f.past)
          ]);
    }

pub returns-in_err-sizes : goal.returns-in_err-sizes
returns-in_err-sizes c =
    let h = c.args.self.now in
    let s = h.settings in
    record {
      value = c.from_residual.ensures ∙ surveyed_none h c.args.window c.args.stretch.now (λ f.
          c.in_err-sizes.ensures.value (buckets_tail s.half s.top s.window h.standing.tick _ f.buckets));
    }

pub returns-then-not-oldest_lives : goal.returns-then-not-oldest_lives
returns-then-not-oldest_lives c =
    let h = c.args.self.now in
    let s = h.settings in
    let dead = rw c.longest.ensures.value at c.if-not-oldest_lives.ensures.value in
    record {
      value = surveyed_none h c.args.window c.args.stretch.now (λ f.
          false≢true (dead ∙ buckets_live s.half s.top s.window h.standing.tick _ f.buckets));
    }

pub invariant_of-windowed : goal.invariant_of-windowed
invariant_of-windowed c =
    let h = c.args.self.now in
    let s = h.settings in
    let bs = take h.standing.buckets c.args.stretch.now in
    let f = tail_facts s.half s.top h.standing.tick bs c.in_ok-sizes.ensures.value.0 in
    record { small = λ k d lt. omega (arith, All-get_or (λ b. b.exponent ≤ s.top) bs k d lt f.small, s.small) }

pub windowed-requires : goal.windowed-requires
windowed-requires c =
    let h = c.args.self.now in
    let s = h.settings in
    let found = c.in_ok-sizes.ensures.value in
    let f = tail_facts s.half s.top h.standing.tick (take h.standing.buckets c.args.stretch.now) found.0 in
    record { falling = f.falling; sum = found.1 }

pub returns : goal.returns
returns c =
    let h = c.args.self.now in
    let s = h.settings in
    let b = h.standing.buckets in
    let xs = c.args.stretch.now in
    let alive = rw c.longest.ensures.value at c.if-not-oldest_lives.ensures.value in
    record {
      value = ap {B = Option Survey} (λ (v : Survey). Some v) c.windowed.ensures.value
          ∙ surveyed-some h c.args.window xs (record {
            roomy = omega (arith, c.most_buckets-most.ensures.value, c.if-stretch-most.false);
            few = omega (arith, c.most_buckets-most.ensures.value, c.if-buckets-most.false);
            past = ap (every is_zero) (sym (take_rest xs b)) ∙ sym c.if-not-all_zero.ensures.value;
            buckets = tail_buckets s.half s.top s.window h.standing.tick (take b xs) c.in_ok-sizes.ensures.value.0
                (sym alive);
          });
    }
