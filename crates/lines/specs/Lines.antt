-- How a stream of bytes is cut into lines: a line ends before byte 10, which is not part of it.
use Rattle.std.specs.Prelude.{◌≡◌, ℕ, ◌+◌, ◌<◌, ◌≤◌, cond, not, List, [], ◌∷◌, ◌++◌, length, take, drop, ◌==◌, ◌≢◌}
use Rattle.std.specs.List.{flat_map, prefix_len, AllByRecursion}

-- how many bytes stand before the first byte 10, all of them if there is none
abbrev pub line_length : List ℕ → ℕ
line_length s = prefix_len (λ b. not (b == 10)) s

-- the lines that end in these bytes, when `held` has come before of the first of them
abbrev pub ended : List ℕ → List ℕ → List (List ℕ)
ended held [] = []
ended held (b ∷ bs) = cond (b == 10) (held ∷ ended [] bs) (ended (held ++ b ∷ []) bs)

-- what has come of the line that has not ended yet
abbrev pub unended : List ℕ → List ℕ → List ℕ
unended held [] = held
unended held (b ∷ bs) = cond (b == 10) (unended [] bs) (unended (held ++ b ∷ []) bs)

-- what stands after the last byte 10 is a line too, if it has at least one byte
abbrev pub last_line : List ℕ → List (List ℕ)
last_line [] = []
last_line (b ∷ bs) = (b ∷ bs) ∷ []

-- all lines of a stream
abbrev pub lines_of : List ℕ → List (List ℕ)
lines_of s = ended [] s ++ last_line (unended [] s)

-- however the bytes arrive in pieces, the lines are the same
abbrev pub Pieces : Type 0
Pieces = (held xs ys : List ℕ)
    → (ended held (xs ++ ys) ≡ ended held xs ++ ended (unended held xs) ys)
    × (unended held (xs ++ ys) ≡ unended (unended held xs) ys)

-- to keep the first bytes as pieces come is to keep the first bytes of the whole
abbrev pub Kept : Type 0
Kept = (limit : ℕ) (a b : List ℕ) → take limit (take limit a ++ b) ≡ take limit (a ++ b)

-- a line that ends in s ends at its length, and what stands after its byte 10 is cut the same way
abbrev pub Ends : List ℕ → List ℕ → ℕ → Type 0
Ends held s n = (ended held s ≡ (held ++ take n s) ∷ ended [] (drop (n + 1) s))
    × (unended held s ≡ unended [] (drop (n + 1) s))

-- where no line ends in s, all of it is part of the line that has not ended
abbrev pub GoesOn : List ℕ → List ℕ → Type 0
GoesOn held s = (ended held s ≡ []) × (unended held s ≡ held ++ s)

-- the line's length says whether it ends, and where
abbrev pub ByLength : Type 0
ByLength = (held s : List ℕ)
    → (line_length s < length s → Ends held s (line_length s)) × (length s ≤ line_length s → GoesOn held s)

-- no byte of these is byte 10
abbrev pub Unbroken : List ℕ → Type 0
Unbroken line = AllByRecursion (λ b. b ≢ 10) line

-- the lines, each followed by byte 10, and then the rest
abbrev pub written : List (List ℕ) → List ℕ → List ℕ
written lines rest = flat_map (λ line. line ++ 10 ∷ []) lines ++ rest

-- s is these lines and this rest, and byte 10 stands in none of them
abbrev pub Cut : List ℕ → List (List ℕ) → List ℕ → Type 0
Cut s lines rest = (written lines rest ≡ s) × AllByRecursion Unbroken lines × Unbroken rest

-- the ended lines and the unended rest are a cut of the stream, and it has no other
abbrev pub Cuts : Type 0
Cuts = ((s : List ℕ) → Cut s (ended [] s) (unended [] s))
    × ((s : List ℕ) (lines others : List (List ℕ)) (rest other : List ℕ)
    → Cut s lines rest → Cut s others other → (lines ≡ others) × (rest ≡ other))
