-- What buckets stand for. Arrivals are the list of their ticks, newest first.
use Rattle.std.specs.Prelude.{◌≡◌, ℕ, ◌+◌, ◌-◌, ◌*◌, ◌^◌, ◌<◌, ◌≤◌, true, cond, List, [], ◌∷◌, ◌++◌, length, ◌==◌, nat_lt, slice_index}
use Rattle.std.specs.List.{AllByRecursion}
use Rattle.theory.specs.Buckets.{size}
use Rattle.theory.specs.Sound.{formed}
use Rattle.theory.specs.declared.entries.Entry.{Entry}

-- ticks never rise from one arrival to the one before it
abbrev pub Falling : List ℕ → Type 0
Falling [] = Unit {0}
Falling (u ∷ us) = AllByRecursion (λ s. s ≤ u) us × Falling us

-- the arrivals split into consecutive groups, one for each bucket: 2^exponent of them, the newest at the bucket's stamp
abbrev pub Groups : List Entry → List ℕ → Type 0
Groups [] us = us ≡ []
Groups (b ∷ bs) us =
    (group : List ℕ) × (rest : List ℕ) × (us ≡ group ++ rest) × (length group ≡ size b) × (slice_index group 0 ≡ b.stamp) × Groups bs rest

-- the buckets stand for the newest arrivals; all older ones have tick + N at most t
pub record StandFor (N t : ℕ) (us : List ℕ) (bs : List Entry) : Type 0 where
  pub covered : List ℕ
  pub lost : List ℕ
  pub split : us ≡ covered ++ lost
  pub groups : Groups bs covered
  pub expired : AllByRecursion (λ u. u + N ≤ t) lost

-- bs is a histogram, at tick t, of the arrivals us up to that tick
pub record Keeps (l N t : ℕ) (us : List ℕ) (bs : List Entry) : Type 0 where
  pub falling : Falling us
  pub arrived : AllByRecursion (λ u. u ≤ t) us
  pub formed : formed l t bs ≡ true
  pub stand_for : StandFor N t us bs

-- the true count of the window W at a: how many arrivals have tick + W above a
abbrev pub truth : (W a : ℕ) → List ℕ → ℕ
truth W a [] = 0
truth W a (u ∷ us) = cond (nat_lt a (u + W)) 1 0 + truth W a us

-- how many came at tick s
abbrev pub at_tick : ℕ → List ℕ → ℕ
at_tick s [] = 0
at_tick s (u ∷ us) = cond (u == s) 1 0 + at_tick s us

-- low and high bracket a count; with k = 2 × l, k times their gap is at most twice the count
pub record Brackets (l count low high : ℕ) : Type 0 where
  pub under : low ≤ count
  pub over : count ≤ high
  pub close : (2 * l) * (high - low) ≤ 2 * count

-- r is the largest whole number with l × (2^r − 1) below m
pub record Largest (l m r : ℕ) : Type 0 where
  pub below : l * (2 ^ r - 1) < m
  pub last : (s : ℕ) → l * (2 ^ s - 1) < m → s ≤ r
