-- Sound buckets and a sound stretch.
use Rattle.std.specs.Prelude.{ℕ, zero, suc, ◌+◌, ◌*◌, Bool, true, ◌&&◌, List, [], ◌∷◌, length, take, drop, replicate, ◌==◌, nat_le, nat_lt}
use Rattle.theory.specs.Buckets.{how_many, top}
use Rattle.theory.specs.declared.entries.Entry.{Entry}

abbrev pub every : (Entry → Bool) → List Entry → Bool
every p [] = true
every p (b ∷ bs) = p b && every p bs

abbrev pub every_below : ℕ → (ℕ → Bool) → Bool
every_below zero p = true
every_below (suc n) p = p n && every_below n p

-- stamps never rise, and none is above s
abbrev pub never_rise : ℕ → List Entry → Bool
never_rise s [] = true
never_rise s (b ∷ bs) = nat_le b.stamp s && never_rise b.stamp bs

-- after exponent e, exponents never fall and rise by at most 1
abbrev pub step_up : ℕ → List Entry → Bool
step_up e [] = true
step_up e (b ∷ bs) = (nat_le e b.exponent && nat_le b.exponent (e + 1)) && step_up b.exponent bs

-- exponents start at 0, never fall and rise by at most 1
abbrev pub start_at_zero : List Entry → Bool
start_at_zero [] = true
start_at_zero (b ∷ bs) = b.exponent == 0 && step_up 0 bs

-- the largest exponent has 1 to l + 1 buckets, each smaller one l or l + 1
abbrev pub filled : ℕ → List Entry → Bool
filled l bs = every_below (top bs) (λ e. nat_le l (how_many e bs)) && every_below (suc (top bs)) (λ e. nat_le (how_many e bs) (l + 1))

-- buckets as insertion leaves them, the last at tick t
abbrev pub formed : (l t : ℕ) → List Entry → Bool
formed l t bs = never_rise t bs && (start_at_zero bs && filled l bs)

-- sound buckets: formed, none expired, and no exponent above r
abbrev pub sound_buckets : (l r N t : ℕ) → List Entry → Bool
sound_buckets l r N t bs =
    formed l t bs && (every (λ b. nat_lt t (b.stamp + N)) bs && every (λ b. nat_le b.exponent r) bs)

-- what an entry holds where no bucket is
abbrev pub zero_entry : Entry
zero_entry = record { stamp = 0; exponent = 0 }

abbrev pub zeros : ℕ → List Entry
zeros n = replicate n zero_entry

abbrev pub is_zero : Entry → Bool
is_zero b = b.stamp == 0 && b.exponent == 0

-- a sound stretch of a track with b buckets and own tick t: it has (l + 1) × (r + 1) entries at least, its first b are
-- sound buckets, and the rest are zero
unfoldable pub sound : (l r N t b : ℕ) → List Entry → Bool
sound l r N t b stretch =
    (nat_le ((l + 1) * (r + 1)) (length stretch) && nat_le b ((l + 1) * (r + 1)))
    && (every is_zero (drop b stretch) && sound_buckets l r N t (take b stretch))
