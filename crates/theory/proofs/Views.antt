-- The views in which the proofs are done: buckets by the places of their arrivals, form as facts, dropping by levels.
use Rattle.std.proofs.Common.{◌≡◌, ℕ, ◌+◌, ◌<◌, ◌≤◌, cond, ltb, leb, List, [], ◌∷◌, length, get_or}
use Rattle.std.specs.List.{AllByRecursion}
use Rattle.theory.specs.Arrivals.{Falling}
use Rattle.theory.specs.Buckets.{size, how_many, stamps, top}
use Rattle.theory.specs.declared.entries.Entry.{Entry}

abbrev pub Below : ℕ → List ℕ → Type 0
Below s us = AllByRecursion (λ u. u ≤ s) us

-- all arrivals from place p on have expired
abbrev pub Gone : ℕ → ℕ → List ℕ → ℕ → Type 0
Gone N t us p = (k : ℕ) → p ≤ k → k < length us → get_or us k 0 + N ≤ t

-- the buckets stand for the arrivals from place p on, group by group; what comes after them has expired
abbrev pub Stands : (N t : ℕ) (us : List ℕ) → ℕ → List Entry → Type 0
Stands N t us p [] = Gone N t us p
Stands N t us p (b ∷ bs) = (p + size b ≤ length us) × (get_or us p 0 ≡ b.stamp) × Stands N t us (p + size b) bs

-- after exponent e, exponents never fall and rise by at most 1
abbrev pub Steps : ℕ → List Entry → Type 0
Steps e [] = Unit {0}
Steps e (b ∷ bs) = (e ≤ b.exponent) × (b.exponent ≤ e + 1) × Steps b.exponent bs

abbrev pub Begins : List Entry → Type 0
Begins [] = Unit {0}
Begins (b ∷ bs) = (b.exponent ≡ 0) × Steps 0 bs

-- formed buckets, as facts
pub record Formed (l : ℕ) (bs : List Entry) : Type 0 where
  pub falling : Falling (stamps bs)
  pub begins : Begins bs
  pub enough : (e : ℕ) → e < top bs → l ≤ how_many e bs
  pub few : (e : ℕ) → how_many e bs ≤ l + 1

-- the buckets up to the first that has expired
abbrev pub kept : ℕ → ℕ → List Entry → List Entry
kept N t [] = []
kept N t (b ∷ bs) = cond (ltb t (b.stamp + N)) (b ∷ kept N t bs) []

-- dropping by levels: each level keeps its live front; the first level that loses something is the last
abbrev pub fresh : ℕ → ℕ → List ℕ → List ℕ
fresh N t [] = []
fresh N t (s ∷ ss) = cond (ltb t (s + N)) (s ∷ fresh N t ss) []

abbrev pub cap : List ℕ → List (List ℕ)
cap [] = []
cap (s ∷ ss) = (s ∷ ss) ∷ []

abbrev pub trim : ℕ → ℕ → List (List ℕ) → List (List ℕ)
trim N t [] = []
trim N t (ss ∷ rest) = cond (leb (length ss) (length (fresh N t ss))) (ss ∷ trim N t rest) (cap (fresh N t ss))
