-- A line of arrivals: what stays, what it becomes, and that the stretch is sound again.
use Rattle.std.proofs.Common.{◌≡◌, ℕ, zero, suc, ◌+◌, ◌-◌, ◌*◌, ◌≤◌, true, ltb, List, [], ◌∷◌, ◌++◌, length, take, drop, replicate, Some, None, sym, refl, ap, ◌∙◌, subst, arith, not}
use Rattle.histogram.proofs.StretchLaws.{StretchFacts, stretch_from, stretch_says, survey_tells}
use Rattle.histogram.specs.Entering.{buckets_after, kept_at, padded, refusal, weight_before}
use Rattle.histogram.specs.Histogram.{is_sound, HistogramOf}
use Rattle.histogram.specs.Surveys.{surveyed}
use Rattle.histogram.specs.declared.surveys.Survey.{Survey}
use Rattle.histogram.specs.declared.settings.Settings.{Settings}
use Rattle.histogram.specs.declared.track.Histogram.{Histogram}
use Rattle.std.proofs.lemmas.List.{drop_at, length-append, length-replicate, length-take-le, take_at, take-take}
use Rattle.std.proofs.lemmas.List.Filters.{length-filter_both}
use Rattle.std.proofs.lemmas.Bool.{cond_both, cond-false, le-ltb, ltb-false}
use Rattle.std.specs.List.{AllByRecursion}
use Rattle.theory.proofs.FullLaws.{insertion_sound}
use Rattle.theory.proofs.KeepLaws.{dropping_keeps, insertions_keep, own_keeps, own_arrivals}
use Rattle.theory.proofs.SoundLaws.{SoundBuckets, sound_says}
use Rattle.theory.specs.Arrivals.{Falling, Keeps}
use Rattle.theory.specs.Buckets.{closing_figure, stamps, total, within}
use Rattle.theory.specs.Sound.{every, formed, is_zero, sound, sound_buckets, zero_entry, zeros}
use Rattle.theory.specs.declared.entries.Entry.{Entry}

none_after : (W a s : ℕ) (bs : List Entry) → AllByRecursion (λ u. u ≤ s) (stamps bs) → s + W ≤ a → within W a bs ≡ []
none_after W a s [] b h = refl
none_after W a s (x ∷ bs) b h =
    cond-false (ltb a (x.stamp + W)) (x ∷ within W a bs) (within W a bs) (le-ltb a (x.stamp + W) (omega (arith, b.0)))
    ∙ none_after W a s bs b.1 h

-- the buckets in a window are the first
pub within_front : (W a : ℕ) (bs : List Entry) → Falling (stamps bs) → take (length (within W a bs)) bs ≡ within W a bs
within_front W a [] f = refl
within_front W a (b ∷ bs) f =
    cond_both (ltb a (b.stamp + W)) (b ∷ within W a bs) (within W a bs) (λ (r : List Entry). take (length r) (b ∷ bs) ≡ r)
    (λ _. ap {B = List Entry} (λ r. b ∷ r) (within_front W a bs f.1))
    (λ q. let out : within W a bs ≡ [] = none_after W a b.stamp bs f.0 (ltb-false a (b.stamp + W) q) in rw out refl)

pub length_within : (W a : ℕ) (bs : List Entry) → length (within W a bs) ≤ length bs
length_within W a bs =
    omega (arith, length-filter_both (λ b. ltb a (b.stamp + W)) (λ b. not (ltb a (b.stamp + W))) (λ _. refl) bs)

pub zeros-zero : (n : ℕ) → every is_zero (zeros n) ≡ true
zeros-zero zero = refl
zeros-zero (suc n) = zeros-zero n

module _ (was : Histogram) (t v : ℕ) (xs : List Entry) (yes : is_sound was xs ≡ true) (later : was.standing.tick ≤ t) where
  abbrev s : Settings
  s = was.settings

  abbrev own : ℕ
  own = was.standing.tick

  abbrev b : ℕ
  b = was.standing.buckets

  facts : StretchFacts s.half s.top s.window own b xs
  facts = stretch_says s.half s.top s.window own b xs yes

  parts : SoundBuckets s.half s.top s.window own (take b xs)
  parts = sound_says s.half s.top s.window own (take b xs) facts.buckets

  -- the buckets that stay are the first
  pub kept_inside : length (kept_at was t xs) ≤ was.standing.buckets
  kept_inside = omega (arith, length_within s.window t (take b xs), length-take-le b xs (omega (arith, facts.few, facts.roomy)))

  pub kept_is : take (length (kept_at was t xs)) xs ≡ kept_at was t xs
  kept_is = sym (take-take (length (kept_at was t xs)) b xs kept_inside) ∙ within_front s.window t (take b xs) parts.form.falling

  pub kept_formed : formed was.settings.half t (kept_at was t xs) ≡ true
  kept_formed =
      (dropping_keeps s.half s.window own t (own_arrivals (take b xs)) (take b xs) later
      (own_keeps s.half s.window own (take b xs) parts.form parts.arrived)).formed

  pub enter_places : (was.standing.buckets ≤ length xs) × ((was.settings.half + 1) * (was.settings.top + 1) ≤ length xs)
  enter_places = (omega (arith, facts.few, facts.roomy), facts.roomy)

  pub enter_past : every is_zero (drop was.standing.buckets xs) ≡ true
  enter_past = facts.past

  module _ (fits : total (kept_at was t xs) + v ≤ closing_figure was.settings.half was.settings.top) where
    abbrev new : List Entry
    new = buckets_after was t v xs

    after_sound : (sound_buckets s.half s.top s.window t new ≡ true) × (length new ≤ (s.half + 1) * (s.top + 1))
    after_sound = insertion_sound s.half s.top s.window own t v (take b xs) s.some s.opens later facts.buckets fits

    front_new : (n : ℕ) (ys : List Entry) → n ≡ length new → ys ≡ padded (length xs) new → take n ys ≡ new
    front_new n ys q w = ap (take n) w ∙ take_at new (zeros (length xs - length new)) n (sym q)

    length_new : (ys : List Entry) → ys ≡ padded (length xs) new → length ys ≡ length xs
    length_new ys w =
        ap length w ∙ omega (
          arith,
          length-append new (zeros (length xs - length new)),
          length-replicate (length xs - length new) zero_entry,
          after_sound.1,
          facts.roomy,
        )

    pub entered-sound : (n : ℕ) (ys : List Entry) → n ≡ length new → ys ≡ padded (length xs) new
        → sound was.settings.half was.settings.top was.settings.window t n ys ≡ true
    entered-sound n ys q w = stretch_from s.half s.top s.window t n ys (record {
      roomy = omega (arith, length_new ys w, facts.roomy);
      few = omega (arith, after_sound.1);
      past = ap (every is_zero) (ap (drop n) w ∙ drop_at new (zeros (length xs - length new)) n (sym q)) ∙ zeros-zero (length xs - length new);
      buckets = ap (sound_buckets s.half s.top s.window t) (front_new n ys q w) ∙ after_sound.0;
    })

    pub entered_keeps : (n : ℕ) (ys : List Entry) → n ≡ length new → ys ≡ padded (length xs) new
        → (us : List ℕ) → HistogramOf was us xs → Keeps was.settings.half was.settings.window t (replicate v t ++ us) (take n ys)
    entered_keeps n ys q w us k =
        subst (Keeps s.half s.window t (replicate v t ++ us)) (sym (front_new n ys q w))
        (insertions_keep s.half s.window t v us (kept_at was t xs) s.some
        (dropping_keeps s.half s.window own t us (take b xs) later k))

    pub not_refused : weight_before was.standing t + v ≤ was.settings.cap → refusal was t v xs ≡ None
    not_refused cap =
        rw (
          le-ltb t own later,
          yes,
          le-ltb s.cap (weight_before was.standing t + v) cap,
          le-ltb (closing_figure s.half s.top) (total (kept_at was t xs) + v) fits,
        )

-- what a survey of the buckets that stay tells
pub record Kept (was : Histogram) (t : ℕ) (xs : List Entry) (kept : Survey) : Type 0 where
  pub sound : is_sound was xs ≡ true
  pub many : kept.buckets ≡ length (kept_at was t xs)
  pub sizes : kept.sizes ≡ total (kept_at was t xs)
  pub front : take kept.buckets xs ≡ kept_at was t xs

pub kept_says : (was : Histogram) (t : ℕ) (xs : List Entry) (kept : Survey) → was.standing.tick ≤ t
    → Some kept ≡ surveyed was (record { ticks = was.settings.window; at = t }) xs → Kept was t xs kept
kept_says was t xs kept later q =
    let says = survey_tells was (record { ticks = was.settings.window; at = t }) xs kept q in
    record {
      sound = says.sound;
      many = says.many;
      sizes = says.sizes;
      front = ap (λ (k : ℕ). take k xs) says.many ∙ kept_is was t 0 xs says.sound later;
    }
