-- Words for the inner functions of the insertion.
use Rattle.std.specs.Prelude.{◌≡◌, ℕ, ◌+◌, ◌≤◌, cond, List, [], ◌∷◌, ◌++◌, length, take, drop, replicate, slice_range, ◌==◌}
use Rattle.theory.specs.Levels.{flat, push_all, newer, Canonical}
use Rattle.theory.specs.declared.entries.Entry.{Entry}
use Rattle.histogram.specs.declared.inserting.Turn.{Turn}

-- the list xs with ws written over it from o on. lib.Seq's paste also takes how many of ws, which is always all of them here
abbrev pub laid : {X : Type 0} → ℕ → List X → List X → List X
laid o ws xs = take o xs ++ (ws ++ drop (o + length ws) xs)

-- the bucket of exponent e and stamp s
abbrev pub of_size : ℕ → ℕ → Entry
of_size e s = record { stamp = s; exponent = e }

-- the stamps of the buckets of exponent e at the front
abbrev pub own_of : ℕ → List Entry → List ℕ
own_of e [] = []
own_of e (x ∷ xs) = cond (x.exponent == e) (x.stamp ∷ own_of e xs) []

-- what a level is given: m buckets of stamp t, and the newer of each pair of older ones
abbrev pub incoming : ℕ → ℕ → List ℕ → List ℕ
incoming m t from = replicate m t ++ newer from

-- what becomes of the levels from the turn's exponent on
abbrev pub raised : Turn → (olds : List ℕ) → List (List ℕ) → List Entry
raised turn olds levels = flat turn.exponent (push_all turn.half (incoming turn.new turn.tick olds) levels)

-- the buckets of the turn are those levels from its exponent on, and there is room from where it writes on for what they become
pub record Ready (turn : Turn) (olds : List ℕ) (xs : List Entry) (levels : List (List ℕ)) : Type 0 where
  pub whole : slice_range xs turn.read turn.end ≡ flat turn.exponent levels
  pub canon : Canonical turn.half levels
  pub room : turn.write + length (raised turn olds levels) ≤ length xs
  pub tops : turn.exponent + length (push_all turn.half (incoming turn.new turn.tick olds) levels) ≤ 64
