-- The same histogram exponent by exponent: a list of levels, the e-th holding the stamps of the buckets of exponent e,
-- newest first. Insertion in one pass works on this view.
use Rattle.std.specs.Prelude.{ℕ, suc, ◌+◌, ◌-◌, ◌*◌, ◌/◌, ◌%◌, ◌≤◌, min, cond, List, [], ◌∷◌, ◌++◌, length, take, drop, replicate, nat_le, slice_index}
use Rattle.theory.specs.declared.entries.Entry.{Entry}

-- buckets of exponent e with these stamps, and older ones after them
abbrev pub row : ℕ → List ℕ → List Entry → List Entry
row e [] older = older
row e (s ∷ ss) older = record { stamp = s; exponent = e } ∷ row e ss older

-- the levels from exponent e on, laid out as buckets
abbrev pub flat : ℕ → List (List ℕ) → List Entry
flat e [] = []
flat e (ss ∷ rest) = row e ss (flat (suc e) rest)

-- one bucket more at the newest end of the lowest level: of l + 2, the newer stamp of the two oldest goes up
abbrev pub push : ℕ → ℕ → List (List ℕ) → List (List ℕ)
push l s [] = (s ∷ []) ∷ []
push l s (ss ∷ rest) =
    cond (nat_le (length ss) l)
    ((s ∷ ss) ∷ rest)
    (take l (s ∷ ss) ∷ push l (slice_index (s ∷ ss) l) rest)

-- several more, given newest first: the oldest goes in first
abbrev pub push_all : ℕ → List ℕ → List (List ℕ) → List (List ℕ)
push_all l [] levels = levels
push_all l (s ∷ ss) levels = push l s (push_all l ss levels)

-- only the last level may have fewer than l
abbrev pub Filled : ℕ → List ℕ → List (List ℕ) → Type 0
Filled l ss [] = Unit {0}
Filled l ss (next ∷ rest) = l ≤ length ss

-- each level has 1 to l + 1 stamps, and at least l unless it is the last
abbrev pub Canonical : ℕ → List (List ℕ) → Type 0
Canonical l [] = Unit {0}
Canonical l (ss ∷ rest) = (1 ≤ length ss) × (length ss ≤ l + 1) × Filled l ss rest × Canonical l rest

-- the newer of each pair
abbrev pub newer : List ℕ → List ℕ
newer [] = []
newer (s ∷ []) = s ∷ []
newer (s ∷ (r ∷ ss)) = s ∷ newer ss

-- of n buckets at a level so many stay; the rest goes up in pairs
abbrev pub staying : ℕ → ℕ → ℕ
staying l n = n - 2 * ((n - l) / 2)

-- m buckets of stamp t and then older ones at a level: which stay there, how many of stamp t go up, and which older ones
abbrev pub stay : (l m t : ℕ) → List ℕ → List ℕ
stay l m t olds = replicate (min (staying l (m + length olds)) m) t ++ take (staying l (m + length olds) - m) olds

abbrev pub ups : (l m : ℕ) → List ℕ → ℕ
ups l m olds = (m - staying l (m + length olds) + 1) / 2

abbrev pub up_olds : (l m : ℕ) → List ℕ → List ℕ
up_olds l m olds = newer (drop ((staying l (m + length olds) - m) + (m - staying l (m + length olds)) % 2) olds)
