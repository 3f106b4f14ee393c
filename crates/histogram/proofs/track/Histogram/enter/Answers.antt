use Rattle.std.proofs.Common.{◌≡◌, ℕ, ◌+◌, ◌≤◌, List, length, take, Some, Option, sym, refl, ap, ◌∙◌, arith, rules}
use Rattle.histogram.proofs.EnterLaws.{Kept, enter_past, enter_places, entered_keeps, entered-sound, kept_formed, kept_inside, kept_says, not_refused}
use Rattle.histogram.specs.Entering.{buckets_after, changed, kept_at, padded, standing_after, unless, weight_before}
use Rattle.histogram.specs.Surveys.{surveyed}
use Rattle.histogram.specs.declared.surveys.Survey.{Survey}
use Rattle.histogram.specs.declared.track.EnterFault.{EnterFault}
use Rattle.histogram.specs.declared.track.Histogram.{Histogram}
use Rattle.histogram.specs.declared.track.Standing.{Standing}
use Rattle.std.proofs.lemmas.Bool.{leb-true}
use Rattle.theory.specs.Buckets.{closing_figure, insertions, total}
use Rattle.theory.specs.Sound.{formed}
use Rattle.theory.specs.declared.entries.Entry.{Entry}
use Rattle.histogram.proofs.track.Histogram.enter.Goals as goal
use Rattle.histogram.proofs.track.Histogram.enter.Goals.{Else-not-fits}

-- what the tests leave
record Accepted (was : Histogram) (t v : ℕ) (xs : List Entry) (kept : Survey) (weight : ℕ) : Type 0 where
  stays : Kept was t xs kept
  fits : total (kept_at was t xs) + v ≤ closing_figure was.settings.half was.settings.top
  grows : weight ≡ weight_before was.standing t + v
  capped : weight ≤ was.settings.cap

accepted : (c : Else-not-fits) → Accepted c.args.self.now c.args.tick c.args.arrivals c.args.stretch.now c.in_ok-kept.kept c.in_ok-weight.weight
accepted c =
    let was = c.args.self.now in
    let t = c.args.tick in
    let s = was.settings in
    let said : Some c.in_ok-kept.kept ≡ surveyed was (record { ticks = s.window; at = t }) c.args.stretch.now = search rules in
    let k = kept_says was t c.args.stretch.now c.in_ok-kept.kept c.if-tick-self.false said in
    let weight : (c.in_ok-weight.weight ≡ weight_before was.standing t + c.args.arrivals) × (c.in_ok-weight.weight ≤ s.cap) = search rules in
    record {
      stays = k;
      fits = omega (
        arith,
        k.sizes,
        leb-true (c.in_ok-kept.kept.sizes + c.args.arrivals) (closing_figure s.half s.top)
            (sym c.if-not-fits.ensures.value),
      );
      grows = weight.0;
      capped = weight.1;
    }

pub insert-buckets-requires : goal.insert-buckets-requires
insert-buckets-requires c =
    let was = c.args.self.now in
    let s = was.settings in
    let t = c.args.tick in
    let v = c.args.arrivals in
    let xs = c.args.stretch.now in
    let later : was.standing.tick ≤ t = c.if-tick-self.false in
    let a = accepted (goal.at.insert-buckets-requires c).Else-not-fits in
    let sound = a.stays.sound in
    let places = enter_places was t v xs sound later in
    record {
      places = (omega (arith, a.stays.many, kept_inside was t v xs sound later), (places.0, places.1));
      past = enter_past was t v xs sound later;
      form = ap (formed s.half t) a.stays.front ∙ kept_formed was t v xs sound later;
      room = (omega (arith, s.fills, a.grows, a.capped), omega (arith, ap total a.stays.front, a.fits));
    }

pub returns : goal.returns
returns c =
    let was = c.args.self.now in
    let s = was.settings in
    let t = c.args.tick in
    let v = c.args.arrivals in
    let xs = c.args.stretch.now in
    let later : was.standing.tick ≤ t = c.if-tick-self.false in
    let a = accepted (goal.at.returns c).Else-not-fits in
    let sound = a.stays.sound in
    let same : insertions s.half v t (take c.in_ok-kept.kept.buckets xs) ≡ buckets_after was t v xs = ap (insertions s.half v t) a.stays.front in
    let many : c.insert-buckets.result ≡ length (buckets_after was t v xs) = c.insert-buckets.ensures.many ∙ ap length same in
    let laid_out : c.insert-buckets.new.stretch ≡ padded (length xs) (buckets_after was t v xs) = c.insert-buckets.ensures.after ∙
    ap (padded (length xs)) same in
    let none = not_refused was t v xs sound later a.fits (omega (arith, a.grows, a.capped)) in
    let stands : record { tick = t; weight = c.in_ok-weight.weight; buckets = c.insert-buckets.result } ≡ standing_after was t v xs =
    rw (a.grows, many) refl in
    record {
      value = ap (λ (r : Option EnterFault). unless {T = Unit {0}} r tt) (sym none);
      standing = ap {B = Histogram} (λ (x : Standing). record { settings = s; standing = x }) stands
          ∙ ap (λ (r : Option EnterFault). changed {T = Histogram} r was (record { settings = s; standing = standing_after was t v xs })) (sym none);
      after = laid_out ∙ ap (λ (r : Option EnterFault). changed {T = List Entry} r xs (padded (length xs) (buckets_after was t v xs))) (sym none);
      keeps = (
        refl,
        entered-sound was t v xs sound later a.fits c.insert-buckets.result c.insert-buckets.new.stretch many laid_out,
        entered_keeps was t v xs sound later a.fits c.insert-buckets.result c.insert-buckets.new.stretch many laid_out,
      );
    }
