-- A total over the tracks: its tests are the causes that the history tells, and its answer lies round the sum of the true sums.
use Rattle.std.proofs.Common.{◌≡◌, ℕ, zero, suc, ◌+◌, ◌-◌, ◌*◌, ◌<◌, ◌≤◌, min, List, [], ◌∷◌, length, get_or, Option, refl, ap, ◌∙◌, mul-le-mul_right, arith}
use Rattle.law.proofs.LocalLaws.{Holds, ask_tests_lem}
use Rattle.law.proofs.TestLaws.{Passed, is_between, not_below}
use Rattle.law.proofs.TrackLaws.{Fits, answer_right, held_from, right_from}
use Rattle.law.specs.Calls.{answer, ask_tests, joined, nothing, padded, smaller, stretch_at, total_answer, total_tests}
use Rattle.law.specs.Law.{Right, causes_over, join_causes}
use Rattle.law.specs.Runs.{History, Opened, Shut, Since, Standing, buckets_of, count_of, count_over, join_k, least_k, since, sum_over, true_sum}
use Rattle.law.specs.Tests.{verdict}
use Rattle.law.specs.Tracks.{Held, Open, Track, Unopened}
use Rattle.law.specs.declared.faults.CallFault.TheVariants.{BadWindow, EarlyTick}
use Rattle.law.specs.declared.faults.CallFault.{CallFault}
use Rattle.law.specs.declared.kinds.Answer.{Answer}
use Rattle.law.specs.declared.shapes.Shape.{Shape}
use Rattle.theory.specs.declared.entries.Entry.{Entry}

-- the gap of a sum of answers
both_gaps : (c k m g f X Y : ℕ) → c ≤ k → c ≤ m → k * g ≤ 2 * X → m * f ≤ 2 * Y → c * (g + f) ≤ 2 * (X + Y)
both_gaps c k m g f X Y ck cm h j = omega (arith, mul-le-mul_right g ck, mul-le-mul_right f cm)

join_gap : (k m g f X Y : ℕ) → 1 ≤ k → k * g ≤ 2 * X → m * f ≤ 2 * Y → (m ≡ 0 → f ≡ 0) → smaller k m * (g + f) ≤ 2 * (X + Y)
join_gap zero m g f X Y pos h j z = absurd (omega arith)
join_gap (suc k) zero g f X Y pos h j z = let e : g + f ≡ g = omega (arith, z refl) in rw e (omega arith)
join_gap (suc k) (suc m) g f X Y pos h j z = both_gaps (min (suc k) (suc m)) (suc k) (suc m) g f X Y (omega arith) (omega arith) h j

smaller-pos : (k m : ℕ) → 1 ≤ k → smaller k m ≡ 0 → ⊥
smaller-pos zero m h e = omega arith
smaller-pos (suc k) zero h e = omega arith
smaller-pos (suc k) (suc m) h e = omega arith

-- the answer over some tracks; without an open one there is nothing
pub record TotalRight (X K B : ℕ) (x : Answer) : Type 0 where
  pub right : Right X K B x
  pub none : x.k ≡ 0 → x.high ≡ 0

module _ (p a W : ℕ) where
  answer_shut : (y : Standing) (es : List Entry) → Holds p y Unopened es → (X K B : ℕ) (x : Answer) → TotalRight X K B x
      → TotalRight (true_sum W a y + X) (join_k y K) (count_of y + B) x
  answer_shut Shut es h X K B x g =
      let e : 0 + X ≡ X = omega arith in
      let d : 0 + B ≡ B = omega arith in
      rw (e, d) g
  answer_shut (Opened y) es h X K B x g = absurd (cc)

  answer_one : (y : Since) → Fits p y → W ≤ y.window → y.tick ≤ a → (X K B : ℕ) (x : Answer) → TotalRight X K B x
      → TotalRight (true_sum W a (Opened y) + X) (join_k (Opened y) K) (count_of (Opened y) + B)
      (joined (answer a W (held_from y) (padded p (buckets_of y))) x)
  answer_one y h wn ta X K B x g =
      let b = answer_right p y h a W ta wn in
      let c = g.right in
      let u : Answer = answer a W (held_from y) (padded p (buckets_of y)) in
      let pos : 1 ≤ u.k = omega (arith, h.half_pos) in
      let gap : smaller u.k x.k * ((u.high - u.low) + (x.high - x.low)) ≤ 2 * (true_sum W a (Opened y) + X) =
      join_gap u.k x.k (u.high - u.low) (x.high - x.low) (true_sum W a (Opened y)) X pos b.close c.close
      (λ e. omega (arith, g.none e)) in
      let same : (u.high + x.high) - (u.low + x.low) ≡ (u.high - u.low) + (x.high - x.low) =
      omega (arith, b.under, b.over, c.under, c.over) in
      record {
        right = right_from (true_sum W a (Opened y) + X) (smaller y.k K) (count_of (Opened y) + B) (joined u x)
            (omega (arith, b.under, c.under)) (omega (arith, b.over, c.over))
            (rw same gap)
            (ap (λ (n : ℕ). smaller n x.k) b.own_k ∙ ap (smaller y.k) c.own_k)
            (ap (λ (n : ℕ). count_of (Opened y) + n) c.own_buckets);
        none = λ e. absurd (smaller-pos u.k x.k pos e);
      }

  answer_open : (y : Standing) (held : Held) (es : List Entry) → Holds p y (Open held) es → held.tick ≤ a → W ≤ held.window
      → (X K B : ℕ) (x : Answer) → TotalRight X K B x
      → TotalRight (true_sum W a y + X) (join_k y K) (count_of y + B) (joined (answer a W held es) x)
  answer_open Shut held es h ta wn X K B x g = absurd (cc)
  answer_open (Opened y) held es h ta wn X K B x g =
      let e : held ≡ held_from y = cc in
      rw (e, h.2) (answer_one y h.0 (rw e at wn) (rw e at ta) X K B x g)

  -- what a total asks of the open tracks
  abbrev pub Asks : List Track → Type 0
  Asks [] = Unit {0}
  Asks (Unopened ∷ tracks) = Asks tracks
  Asks (Open held ∷ tracks) = (held.tick ≤ a) × (W ≤ held.window) × Asks tracks

  pub total_asks : (i : ℕ) (slab : List Entry) (tracks : List Track) → Passed (total_tests p a W i slab tracks) → Asks tracks
  total_asks i slab [] t = tt
  total_asks i slab (Unopened ∷ tracks) t = total_asks (suc i) slab tracks t
  total_asks i slab (Open held ∷ tracks) t = (
    not_below a held.tick (EarlyTick i) t.0,
    (is_between 1 held.window W (BadWindow i) t.1.0).1,
    total_asks (suc i) slab tracks t.1.1.1,
  )

module _ (s : Shape) (w : ℕ → ℕ) (a W : ℕ) where
  tests_shut : (i : ℕ) (y : Standing) (es : List Entry) → Holds s.stretch y Unopened es → (tests causes : List (Option CallFault))
      → verdict tests ≡ verdict causes → verdict tests ≡ verdict (join_causes i a W y causes)
  tests_shut i Shut es h tests causes e = e
  tests_shut i (Opened x) es h tests causes e = absurd (cc)

  tests_open : (i : ℕ) (y : Standing) (held : Held) (es : List Entry) → Holds s.stretch y (Open held) es → (tests causes : List (Option CallFault))
      → verdict tests ≡ verdict causes → verdict (ask_tests i a W held es tests) ≡ verdict (join_causes i a W y causes)
  tests_open i Shut held es h tests causes e = absurd (cc)
  tests_open i (Opened x) held es h tests causes e =
      let same : held ≡ held_from x = cc in
      rw (same, h.2) (ask_tests_lem s w i x h.0 a W tests causes e)

  module _ (h : History) (slab : List Entry) where
    -- the tracks from i on hold what the history says
    abbrev pub Tracks : ℕ → List Track → Type 0
    Tracks i [] = Unit {0}
    Tracks i (track ∷ tracks) = Holds s.stretch (since w i h) track (stretch_at s.stretch i slab) × Tracks (suc i) tracks

    pub tracks_from : (i : ℕ) (tracks : List Track)
        → ((q : ℕ) → q < length tracks → Holds s.stretch (since w (i + q) h) (get_or tracks q Unopened) (stretch_at s.stretch (i + q) slab))
        → Tracks i tracks
    tracks_from i [] f = tt
    tracks_from i (track ∷ tracks) f = (
      let e : i + 0 ≡ i = omega arith in rw e at (f 0 (omega arith)),
      tracks_from (suc i) tracks (λ q lt. let e : i + suc q ≡ suc i + q = omega arith in rw e at (f (suc q) (omega arith))),
    )

    pub total_tests_lem : (i : ℕ) (tracks : List Track) → Tracks i tracks
        → verdict (total_tests s.stretch a W i slab tracks) ≡ verdict (causes_over w a W i (length tracks) h)
    total_tests_lem i [] tr = refl
    total_tests_lem i (Unopened ∷ tracks) tr =
        tests_shut i (since w i h) (stretch_at s.stretch i slab) tr.0 (total_tests s.stretch a W (suc i) slab tracks)
        (causes_over w a W (suc i) (length tracks) h) (total_tests_lem (suc i) tracks tr.1)
    total_tests_lem i (Open held ∷ tracks) tr =
        tests_open i (since w i h) held (stretch_at s.stretch i slab) tr.0 (total_tests s.stretch a W (suc i) slab tracks)
        (causes_over w a W (suc i) (length tracks) h) (total_tests_lem (suc i) tracks tr.1)

    pub total_right : (i : ℕ) (tracks : List Track) → Tracks i tracks → Asks s.stretch a W tracks
        → TotalRight (sum_over w W a i (length tracks) h) (least_k w i (length tracks) h) (count_over w i (length tracks) h)
        (total_answer s.stretch a W i slab tracks)
    total_right i [] tr asks = record {
      right = right_from 0 0 0 nothing (omega arith) (omega arith) (omega arith) refl refl;
      none = λ e. refl;
    }
    total_right i (Unopened ∷ tracks) tr asks =
        answer_shut s.stretch a W (since w i h) (stretch_at s.stretch i slab) tr.0 (sum_over w W a (suc i) (length tracks) h)
        (least_k w (suc i) (length tracks) h) (count_over w (suc i) (length tracks) h) (total_answer s.stretch a W (suc i) slab tracks)
        (total_right (suc i) tracks tr.1 asks)
    total_right i (Open held ∷ tracks) tr asks =
        answer_open s.stretch a W (since w i h) held (stretch_at s.stretch i slab) tr.0 asks.0 asks.1
        (sum_over w W a (suc i) (length tracks) h) (least_k w (suc i) (length tracks) h) (count_over w (suc i) (length tracks) h)
        (total_answer s.stretch a W (suc i) slab tracks) (total_right (suc i) tracks tr.1 asks.2)
