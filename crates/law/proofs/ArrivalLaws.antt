-- Accepted lines as single arrivals: their order and their sums.
use Rattle.std.proofs.Common.{◌≡◌, ℕ, zero, suc, ◌+◌, ◌<◌, ◌≤◌, cond, ◌&&◌, eqb, ltb, leb, List, [], ◌∷◌, ◌++◌, replicate, refl, arith}
use Rattle.law.specs.Runs.{Arrival, sum_at, sum_in}
use Rattle.std.proofs.lemmas.Bool.Decides.{nat_tests}
use Rattle.theory.specs.Arrivals.{at_tick, truth}

-- one arrival for each unit of weight, newest first
abbrev pub units : List Arrival → List ℕ
units [] = []
units (x ∷ xs) = replicate x.weight x.tick ++ units xs

-- ticks never fall from one line to the next, and none is past now
abbrev pub InOrder : ℕ → List Arrival → Type 0
InOrder now [] = Unit {0}
InOrder now (x ∷ xs) = (x.tick ≤ now) × InOrder x.tick xs

pub in_order_later : (t later : ℕ) (xs : List Arrival) → t ≤ later → InOrder t xs → InOrder later xs
in_order_later t later [] h o = tt
in_order_later t later (x ∷ xs) h o = (omega (arith, o.0), o.1)

-- what v copies of a tick add to a count
truth_copies : (W a v t : ℕ) (us : List ℕ) → truth W a (replicate v t ++ us) ≡ cond (ltb a (t + W)) v 0 + truth W a us
truth_copies W a zero t us = grind (arith, nat_tests)
truth_copies W a (suc v) t us = grind (arith, nat_tests, truth_copies W a v t us)

at_copies : (s v t : ℕ) (us : List ℕ) → at_tick s (replicate v t ++ us) ≡ cond (eqb t s) v 0 + at_tick s us
at_copies s zero t us = grind (arith, nat_tests)
at_copies s (suc v) t us = grind (arith, nat_tests, at_copies s v t us)

-- of ticks up to a, the second test of a window says nothing
one_test : (W a t v : ℕ) → t ≤ a → cond (ltb a (t + W)) v 0 ≡ cond (ltb a (t + W) && leb t a) v 0
one_test W a t v h = grind (arith, nat_tests)

-- the true count of the arrivals is the sum of the lines
pub truth-sum : (W a now : ℕ) (xs : List Arrival) → InOrder now xs → now ≤ a → truth W a (units xs) ≡ sum_in W a xs
truth-sum W a now [] o h = refl
truth-sum W a now (x ∷ xs) o h = omega (
  arith,
  truth_copies W a x.weight x.tick (units xs),
  one_test W a x.tick x.weight (omega (arith, o.0)),
  truth-sum W a x.tick xs o.1 (omega (arith, o.0)),
)

pub at_sum : (s : ℕ) (xs : List Arrival) → at_tick s (units xs) ≡ sum_at s xs
at_sum s [] = refl
at_sum s (x ∷ xs) = omega (arith, at_copies s x.weight x.tick (units xs), at_sum s xs)

-- no line is after the last one
pub none_at : (now t : ℕ) (xs : List Arrival) → InOrder now xs → now < t → sum_at t xs ≡ 0
none_at now t [] o h = refl
none_at now t (x ∷ xs) o h = let later : x.tick < t = omega (arith, o.0) in grind (arith, nat_tests, none_at x.tick t xs o.1 later)

pub at_same : (t v : ℕ) → cond (eqb t t) v 0 ≡ v
at_same t v = grind (arith, nat_tests)

pub at_other : (t u v : ℕ) → (t ≡ u → ⊥) → ◌≡◌ {A = ℕ} (cond (eqb t u) v 0) 0
at_other t u v h = grind (arith, nat_tests)
