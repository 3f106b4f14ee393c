-- A sound stretch as a test and as facts.
use Rattle.std.proofs.Common.{◌≡◌, ℕ, suc, ◌+◌, ◌*◌, ◌<◌, ◌≤◌, true, false, ◌&&◌, leb, List, [], ◌∷◌, length, take, drop, Some, None, sym, refl, ap, subst, arith}
use Rattle.histogram.proofs.SurveyLaws.{all_lives, lives_all}
use Rattle.histogram.specs.Histogram.{is_sound}
use Rattle.histogram.specs.Surveys.{Bracketed, figures, held, lives, surveyed, told}
use Rattle.histogram.specs.Tails.{Tail}
use Rattle.histogram.specs.declared.surveys.Survey.{Survey}
use Rattle.histogram.specs.declared.track.Histogram.{Histogram}
use Rattle.histogram.specs.declared.window.Window.{Window}
use Rattle.std.proofs.ByRecursion.{All-weaker}
use Rattle.std.proofs.lemmas.Bool.{and_from, and_parts, false_from_ne_true, le-leb, leb-true}
use Rattle.std.proofs.lemmas.Option.{cond_some}
use Rattle.std.specs.List.{AllByRecursion}
use Rattle.theory.proofs.FormLaws.{formed_levels}
use Rattle.theory.proofs.FullLaws.{flat_small}
use Rattle.theory.proofs.KeepLaws.{brackets_truth}
use Rattle.theory.proofs.LevelLaws.{levels_of}
use Rattle.theory.proofs.SoundLaws.{formed_from, formed_says, rise_says, sound_from, sound_says}
use Rattle.theory.proofs.Views.{Formed}
use Rattle.theory.specs.Arrivals.{Falling}
use Rattle.theory.specs.Buckets.{high, low, oldest, stamps, total}
use Rattle.theory.specs.Levels.{Canonical, flat, row}
use Rattle.theory.specs.Sound.{every, filled, formed, is_zero, never_rise, sound, sound_buckets, start_at_zero}
use Rattle.theory.specs.declared.entries.Entry.{Entry}

all_older : (P : Entry → Type 0) (e : ℕ) (ss : List ℕ) (older : List Entry) → AllByRecursion P (row e ss older) → AllByRecursion P older
all_older P e [] older h = h
all_older P e (s ∷ ss) older h = all_older P e ss older h.1

tops_small : (l r e : ℕ) (levels : List (List ℕ)) → Canonical l levels → AllByRecursion (λ b. b.exponent ≤ r) (flat e levels) → e ≤ r + 1
    → e + length levels ≤ r + 1
tops_small l r e [] c h le = omega arith
tops_small l r e ([] ∷ rest) c h le = absurd (omega (arith, c.0))
tops_small l r e ((s ∷ ss) ∷ rest) c h le =
    omega (arith, tops_small l r (suc e) rest c.3 (all_older (λ b. b.exponent ≤ r) e ss (flat (suc e) rest) h.1) (omega (arith, h.0)))

-- buckets whose levels go on from the start are formed
pub record TailFacts (l r own : ℕ) (bs : List Entry) : Type 0 where
  pub form : formed l own bs ≡ true
  pub falling : Falling (stamps bs)
  pub small : AllByRecursion (λ b. b.exponent ≤ r) bs

pub tail_facts : (l r own : ℕ) (bs : List Entry) → Tail l r 0 own bs → TailFacts l r own bs
tail_facts l r own bs t =
    let rise = rise_says own bs t.falls in
    let form : Formed l bs = subst (Formed l) (sym t.whole) (formed_levels l t.levels t.canonical
    (subst (λ (xs : List Entry). Falling (stamps xs)) t.whole rise.1)) in
    record {
      form = formed_from l own bs form rise.0;
      falling = rise.1;
      small = subst (AllByRecursion (λ b. b.exponent ≤ r)) (sym t.whole)
          (All-weaker (λ b. b.exponent < r + 1) (λ b. b.exponent ≤ r) (λ b q. omega arith) (flat 0 t.levels)
          (flat_small (r + 1) 0 t.levels t.tops));
    }

pub facts_tail : (l r own : ℕ) (bs : List Entry) → formed l own bs ≡ true → AllByRecursion (λ b. b.exponent ≤ r) bs → Tail l r 0 own bs
facts_tail l r own bs f s =
    let form = formed_says l own bs f in
    let ls = levels_of l bs form.0 in
    record {
      levels = ls.0;
      whole = sym ls.1;
      canonical = ls.2;
      falls = (and_parts (never_rise own bs) (start_at_zero bs && filled l bs) f).0;
      tops = tops_small l r 0 ls.0 ls.2 (subst (AllByRecursion (λ b. b.exponent ≤ r)) (sym ls.1) s) (omega arith);
    }

pub record StretchFacts (l r N own b : ℕ) (xs : List Entry) : Type 0 where
  pub roomy : (l + 1) * (r + 1) ≤ length xs
  pub few : b ≤ (l + 1) * (r + 1)
  pub past : every is_zero (drop b xs) ≡ true
  pub buckets : sound_buckets l r N own (take b xs) ≡ true

pub stretch_says : (l r N own b : ℕ) (xs : List Entry) → sound l r N own b xs ≡ true → StretchFacts l r N own b xs
unfolding sound
stretch_says l r N own b xs h =
    let w = and_parts (leb ((l + 1) * (r + 1)) (length xs) && leb b ((l + 1) * (r + 1)))
    (every is_zero (drop b xs) && sound_buckets l r N own (take b xs)) h in
    let v = and_parts (leb ((l + 1) * (r + 1)) (length xs)) (leb b ((l + 1) * (r + 1))) w.0 in
    let u = and_parts (every is_zero (drop b xs)) (sound_buckets l r N own (take b xs)) w.1 in
    record { roomy = leb-true ((l + 1) * (r + 1)) (length xs) v.0; few = leb-true b ((l + 1) * (r + 1)) v.1; past = u.0; buckets = u.1 }

pub stretch_from : (l r N own b : ℕ) (xs : List Entry) → StretchFacts l r N own b xs → sound l r N own b xs ≡ true
unfolding sound
stretch_from l r N own b xs s =
    and_from (leb ((l + 1) * (r + 1)) (length xs) && leb b ((l + 1) * (r + 1))) (every is_zero (drop b xs) && sound_buckets l r N own (take b xs))
    (and_from (leb ((l + 1) * (r + 1)) (length xs)) (leb b ((l + 1) * (r + 1))) (le-leb ((l + 1) * (r + 1)) (length xs) s.roomy)
    (le-leb b ((l + 1) * (r + 1)) s.few))
    (and_from (every is_zero (drop b xs)) (sound_buckets l r N own (take b xs)) s.past s.buckets)

-- what the pass over a stretch finds out, and what it is told by
pub buckets_tail : (l r N own : ℕ) (bs : List Entry) → sound_buckets l r N own bs ≡ true → Tail l r 0 own bs
buckets_tail l r N own bs h =
    let s = sound_says l r N own bs h in
    facts_tail l r own bs (formed_from l own bs s.form s.arrived) s.small

pub buckets_live : (l r N own : ℕ) (bs : List Entry) → sound_buckets l r N own bs ≡ true → lives N own bs ≡ true
buckets_live l r N own bs h = all_lives N own bs (sound_says l r N own bs h).live

pub tail_buckets : (l r N own : ℕ) (bs : List Entry) → Tail l r 0 own bs → lives N own bs ≡ true → sound_buckets l r N own bs ≡ true
tail_buckets l r N own bs t h =
    let f = tail_facts l r own bs t in
    let g = formed_says l own bs f.form in
    sound_from l r N own bs (record { form = g.0; arrived = g.1; live = lives_all N own own bs t.falls h; small = f.small })

-- what a survey is, by whether the stretch is sound
module _ (h : Histogram) (w : Window) (xs : List Entry) where
  abbrev pub Facts : Type 0
  Facts = StretchFacts h.settings.half h.settings.top h.settings.window h.standing.tick h.standing.buckets xs

  pub surveyed_none : (Facts → ⊥) → None ≡ surveyed h w xs
  surveyed_none f =
      let no : is_sound h xs ≡ false = false_from_ne_true (is_sound h xs)
      (λ y. f (stretch_says h.settings.half h.settings.top h.settings.window h.standing.tick h.standing.buckets xs y)) in
      rw no refl

  pub surveyed-some : Facts → Some (told (held h w xs)) ≡ surveyed h w xs
  surveyed-some f =
      let sure : is_sound h xs ≡ true = stretch_from h.settings.half h.settings.top h.settings.window h.standing.tick h.standing.buckets xs f in
      rw sure refl

  -- what a survey tells
  pub record Tells (v : Survey) : Type 0 where
    pub sound : is_sound h xs ≡ true
    pub many : v.buckets ≡ length (held h w xs)
    pub sizes : v.sizes ≡ total (held h w xs)
    pub old : v.oldest ≡ oldest 0 (held h w xs)

  pub survey_tells : (v : Survey) → Some v ≡ surveyed h w xs → Tells v
  survey_tells v q =
      let e = cond_some (is_sound h xs) (told (held h w xs)) v (sym q) in
      record {
        sound = e.0;
        many = ap (λ (s : Survey). s.buckets) (sym e.1);
        sizes = ap (λ (s : Survey). s.sizes) (sym e.1);
        old = ap (λ (s : Survey). s.oldest) (sym e.1);
      }

  -- figures that are low and high of the buckets in the window are the stated ones, and bracket the truth
  pub figures_are : (l m : ℕ) → is_sound h xs ≡ true → l ≡ low (held h w xs) → m ≡ high (held h w xs)
      → (Some (record { low = l; high = m }) ≡ figures h w xs) × Bracketed h w xs (Some (record { low = l; high = m }))
  figures_are l m sure p q = rw (p, q) (
    rw sure refl,
    λ us k wn ta. brackets_truth h.settings.half h.settings.window h.standing.tick us (take h.standing.buckets xs) w.ticks w.at k wn ta,
  )
