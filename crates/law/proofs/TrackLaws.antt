-- One open track: what its history makes of its record and its stretch.
use Rattle.std.proofs.Common.{◌≡◌, ℕ, zero, suc, ◌+◌, ◌-◌, ◌*◌, ◌/◌, ◌^◌, ◌<◌, ◌≤◌, true, List, [], ◌++◌, length, take, drop, sym, refl, ap, ◌∙◌, mul-le-mul, mul-le-mul_left, arith}
use Rattle.histogram.proofs.EnterLaws.{zeros-zero}
use Rattle.histogram.proofs.StretchLaws.{stretch_from}
use Rattle.histogram.specs.Settings.{room}
use Rattle.law.proofs.ArrivalLaws.{InOrder, at_same, at_sum, in_order_later, none_at, truth-sum, units}
use Rattle.law.proofs.LargestLaws.{largest_is}
use Rattle.law.proofs.SlabLaws.{padded-length}
use Rattle.law.specs.Calls.{answer, is_sound, padded, weight_at}
use Rattle.law.specs.Law.{ExponentFor, FewBuckets, KeptAs, Right}
use Rattle.law.specs.Runs.{Since, buckets_of, lined, own_sum, sum_at, sum_in}
use Rattle.law.specs.Tracks.{Held, largest}
use Rattle.law.specs.declared.kinds.Answer.{Answer}
use Rattle.std.proofs.lemmas.List.{drop_at, length-append, length-replicate, length-take, places, same_lists, take_at}
use Rattle.std.proofs.lemmas.Bool.Decides.{nat_tests}
use Rattle.theory.proofs.FormLaws.{formed_levels}
use Rattle.theory.proofs.FullLaws.{few_buckets, insertion_sound, never_full, window_few, within_all}
use Rattle.theory.proofs.KeepLaws.{brackets_truth, dropping_keeps, empty_keeps, insertions_keep}
use Rattle.theory.proofs.SoundLaws.{sound_from, sound_says}
use Rattle.theory.specs.Arrivals.{Keeps, truth}
use Rattle.theory.specs.Buckets.{closing_figure, top, total, within}
use Rattle.theory.specs.Sound.{every, is_zero, sound_buckets, zeros}
use Rattle.theory.specs.declared.entries.Entry.{Entry}

-- a stretch with buckets that fit it
pub padded_is : (p : ℕ) (bs : List Entry) → length bs ≤ p → padded p bs ≡ bs ++ zeros (p - length bs)
padded_is p bs h = same_lists _ _ (simp (length-take, length-append, length-replicate) (omega arith)) (λ k d lt. grind (arith, places))

pub padded-take : (p : ℕ) (bs : List Entry) → length bs ≤ p → take (length bs) (padded p bs) ≡ bs
padded-take p bs h = ap (take (length bs)) (padded_is p bs h) ∙ take_at bs (zeros (p - length bs)) (length bs) refl

padded-drop : (p : ℕ) (bs : List Entry) → length bs ≤ p → drop (length bs) (padded p bs) ≡ zeros (p - length bs)
padded-drop p bs h = ap (drop (length bs)) (padded_is p bs h) ∙ drop_at bs (zeros (p - length bs)) (length bs) refl

-- low and high round the truth: the middle of the two is within one k-th of it
pub right_from : (truth k buckets : ℕ) (x : Answer) → x.low ≤ truth → truth ≤ x.high → x.k * (x.high - x.low) ≤ 2 * truth
    → x.k ≡ k → x.buckets ≡ buckets → Right truth k buckets x
right_from truth k buckets x under over close own_k own_buckets =
    let near : ((x.low + x.high) - 2 * truth) + (2 * truth - (x.low + x.high)) ≤ x.high - x.low = omega arith in
    record {
      under = under;
      over = over;
      close = close;
      middle = omega (arith, mul-le-mul_left x.k near);
      own_k = own_k;
      own_buckets = own_buckets;
    }

abbrev pub half_of : Since → ℕ
half_of x = x.k / 2

abbrev pub top_of : Since → ℕ
top_of x = largest (x.k / 2) (x.window * x.cap)

-- the record that a history leaves
abbrev pub held_from : Since → Held
held_from x =
    record {
      half = half_of x;
      window = x.window;
      cap = x.cap;
      top = top_of x;
      tick = x.tick;
      weight = sum_at x.tick x.lines;
      buckets = length (buckets_of x);
    }

-- what holds of a track since its opening, in a stretch of p entries
pub record Fits (p : ℕ) (x : Since) : Type 0 where
  pub half_pos : 1 ≤ half_of x
  pub even : x.k ≡ 2 * half_of x
  pub window-pos : 1 ≤ x.window
  pub cap-pos : 1 ≤ x.cap
  pub room_fits : room (half_of x) (top_of x) ≤ p
  pub order : InOrder x.tick x.lines
  pub capped : (t : ℕ) → sum_at t x.lines ≤ x.cap
  pub keeps : Keeps (half_of x) x.window x.tick (units x.lines) (buckets_of x)
  pub buckets_sound : sound_buckets (half_of x) (top_of x) x.window x.tick (buckets_of x) ≡ true
  pub few : length (buckets_of x) ≤ (half_of x + 1) * (top_of x + 1)

-- a track that was just opened
pub opened_fits : (p t k N R : ℕ) → k ≡ 2 * (k / 2) → 1 ≤ k / 2 → 1 ≤ N → 1 ≤ R → room (k / 2) (largest (k / 2) (N * R)) ≤ p
    → Fits p (record { k = k; window = N; cap = R; tick = t; lines = [] })
opened_fits p t k N R even half window cap fit =
    record {
      half_pos = half;
      even = even;
      window-pos = window;
      cap-pos = cap;
      room_fits = fit;
      order = tt;
      capped = λ u. omega arith;
      keeps = empty_keeps (k / 2) N t;
      buckets_sound = sound_from (k / 2) (largest (k / 2) (N * R)) N t []
          (record { form = formed_levels (k / 2) [] tt tt; arrived = tt; live = tt; small = tt });
      few = omega arith;
    }

module _ (p : ℕ) (x : Since) (h : Fits p x) where
  pub buckets_fit : length (buckets_of x) ≤ p
  buckets_fit = omega (arith, h.few, h.room_fits)

  -- the soundness test passes
  pub passes : is_sound (held_from x) (padded p (buckets_of x)) ≡ true
  passes = stretch_from (half_of x) (top_of x) x.window x.tick (length (buckets_of x)) (padded p (buckets_of x)) (record {
    roomy = omega (arith, padded-length p (buckets_of x), h.room_fits);
    few = h.few;
    past = ap (every is_zero) (padded-drop p (buckets_of x) buckets_fit) ∙ zeros-zero (p - length (buckets_of x));
    buckets = ap (sound_buckets (half_of x) (top_of x) x.window x.tick) (padded-take p (buckets_of x) buckets_fit) ∙ h.buckets_sound;
  })

  -- an answer lies round the true sum
  pub answer_right : (a W : ℕ) → x.tick ≤ a → W ≤ x.window
      → Right (sum_in W a x.lines) x.k (length (buckets_of x)) (answer a W (held_from x) (padded p (buckets_of x)))
  answer_right a W ta wn =
      let bs : List Entry = buckets_of x in
      let is : truth W a (units x.lines) ≡ sum_in W a x.lines = truth-sum W a x.tick x.lines h.order ta in
      let b = brackets_truth (half_of x) x.window x.tick (units x.lines) bs W a h.keeps wn ta in
      rw (padded-take p bs buckets_fit)
      (right_from (sum_in W a x.lines) x.k (length bs) _
      (omega (arith, b.under, is)) (omega (arith, b.over, is)) (omega (arith, b.close, is)) (sym h.even) refl)

  -- few buckets, by the own sum; none are few
  few_if : (r : ℕ) → (1 ≤ length (buckets_of x) → length (buckets_of x) ≤ (half_of x + 1) * (r + 1))
      → length (buckets_of x) ≤ (half_of x + 1) * (r + 1)
  few_if r f = grind arith

  exponent_own : (sum : ℕ) → (1 ≤ length (buckets_of x) → half_of x * (2 ^ top (buckets_of x) - 1) < sum) → FewBuckets (half_of x) sum (length (buckets_of x))
  exponent_own zero below = record { r = 0; largest = refl; few = few_if 0 (λ some. absurd (omega (arith, below some))) }
  exponent_own (suc m) below =
      let r : ℕ = largest (half_of x) (suc m) in
      let is : ExponentFor (half_of x) (suc m) r = largest_is (half_of x) (suc m) h.half_pos (omega arith) in
      record {
        r = r;
        largest = is;
        few = few_if r (λ some.
            let up : top (buckets_of x) + 1 ≤ r + 1 = omega (arith, is.last (top (buckets_of x)) (below some)) in
            omega (
              arith,
              (few_buckets (half_of x) x.window x.tick (units x.lines) (buckets_of x) h.keeps some).few,
              mul-le-mul_left (half_of x + 1) up,
            ));
      }

  pub few_own : FewBuckets (half_of x) (own_sum x) (length (buckets_of x))
  few_own = exponent_own (own_sum x) (λ some.
      let all = within_all x.window x.tick (buckets_of x)
      (sound_says (half_of x) (top_of x) x.window x.tick (buckets_of x) h.buckets_sound).live in
      omega (
        arith,
        (few_buckets (half_of x) x.window x.tick (units x.lines) (buckets_of x) h.keeps some).by_window all,
        truth-sum x.window x.tick x.tick x.lines h.order (omega arith),
      ))

  pub kept_as : KeptAs x (held_from x) (padded p (buckets_of x))
  kept_as =
      record {
        count = refl;
        fits = omega (arith, padded-length p (buckets_of x), buckets_fit);
        entries = padded_is p (buckets_of x) buckets_fit
            ∙ ap (λ (n : ℕ). buckets_of x ++ zeros (n - length (buckets_of x))) (sym (padded-length p (buckets_of x)));
        few = few_own;
      }

module _ (p : ℕ) (x : Since) (h : Fits p x) (t v : ℕ) (later : x.tick ≤ t) where
  -- the weight at the tick, by the record and by the history
  pub weight_is : weight_at (held_from x) t ≡ sum_at t x.lines
  weight_is =
      let past : x.tick < t → sum_at t x.lines ≡ 0 = none_at x.tick t x.lines h.order in
      grind (arith, nat_tests)

  pub new_weight : weight_at (held_from x) t + v ≡ sum_at t (lined x t v).lines
  new_weight = omega (arith, weight_is, at_same t v)

  module _ (under : sum_at t x.lines + v ≤ x.cap) where
    lined_capped : (u : ℕ) → sum_at u (lined x t v).lines ≤ x.cap
    lined_capped u = let c = h.capped u in grind (arith, nat_tests)

    lined_keeps : Keeps (half_of x) x.window t (units (lined x t v).lines) (buckets_of (lined x t v))
    lined_keeps =
        insertions_keep (half_of x) x.window t v (units x.lines) (within x.window t (buckets_of x)) h.half_pos
        (dropping_keeps (half_of x) x.window x.tick t (units x.lines) (buckets_of x) later h.keeps)

    -- the closing test passes
    pub closes : total (within x.window t (buckets_of x)) + v ≤ closing_figure (half_of x) (top_of x)
    closes =
        let most : truth x.window t (units (lined x t v).lines) ≤ x.window * x.cap =
        window_few x.cap t (units (lined x t v).lines) (λ s. omega (arith, at_sum s (lined x t v).lines, lined_capped s))
        lined_keeps.arrived x.window in
        (never_full (half_of x) (top_of x) (x.window * x.cap) x.window x.tick t v (units x.lines) (buckets_of x) h.half_pos
        h.window-pos later (largest_is (half_of x) (x.window * x.cap) h.half_pos (mul-le-mul h.window-pos h.cap-pos))
        h.keeps most).closing

    pub lined_fits : Fits p (lined x t v)
    lined_fits =
        let sound = insertion_sound (half_of x) (top_of x) x.window x.tick t v (buckets_of x) h.half_pos h.window-pos later
        h.buckets_sound closes in
        record {
          half_pos = h.half_pos;
          even = h.even;
          window-pos = h.window-pos;
          cap-pos = h.cap-pos;
          room_fits = h.room_fits;
          order = (omega arith, in_order_later x.tick t x.lines later h.order);
          capped = lined_capped;
          keeps = lined_keeps;
          buckets_sound = sound.0;
          few = sound.1;
        }
