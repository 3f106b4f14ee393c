use Rattle.std.proofs.Common.{◌*◌, List, take, replicate, sym, refl, ap, ◌∙◌, subst, arith}
use Rattle.buckets.proofs.CountLaws.{chosen, empty_sound}
use Rattle.buckets.specs.Counts.{Begun}
use Rattle.histogram.specs.Histogram.{is_sound}
use Rattle.histogram.specs.declared.track.Histogram.{Histogram}
use Rattle.theory.specs.Buckets.{total}
use Rattle.theory.specs.Sound.{zero_entry}
use Rattle.theory.specs.declared.entries.Entry.{Entry}
use Rattle.buckets.proofs.board.Board.new.Goals as goal

pub invariant_of-result : goal.invariant_of-result
invariant_of-result c =
    let m = chosen c.args.k c.new.result _ c.new.ensures.value c.in_ok-settings.ensures.value in
    let h = c.new-histogram.ensures.value in
    let entries : List Entry = replicate 460 zero_entry in
    record {
      window = ap (λ (x : Histogram). x.settings.window) h ∙ m.1;
      cap = ap (λ (x : Histogram). x.settings.cap) h ∙ m.2;
      ticks = omega (arith, ap (λ (x : Histogram). x.standing.tick) h);
      counts = omega arith;
      whole = refl;
      sound = ap (λ (x : Histogram). is_sound x entries) h ∙ empty_sound c.in_ok-settings.settings entries m.1 m.2 refl refl;
      sum = ap (λ (x : Histogram). total (take x.standing.buckets entries)) h;
    }

pub returns : goal.returns
returns c =
    let m = chosen c.args.k c.new.result _ c.new.ensures.value c.in_ok-settings.ensures.value in
    let h = c.new-histogram.ensures.value in
    let entries : List Entry = replicate 460 zero_entry in
    record {
      value = (
        m.0 ∙ ap (λ (x : Histogram). 2 * x.settings.half) (sym h),
        ap (λ (x : Histogram). take x.standing.buckets entries) h,
        ap (λ (x : Histogram). x.standing.tick) h,
        refl,
      );
    }

pub returns-in_err-settings : goal.returns-in_err-settings
returns-in_err-settings c =
    let m = chosen c.args.k c.new.result _ c.new.ensures.value c.in_err-settings.ensures.value in
    record { value = subst (Begun c.args.k) (sym c.from_residual.ensures) m }
