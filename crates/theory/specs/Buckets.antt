-- What is done with the buckets of a histogram. A list of buckets runs from the newest to the oldest.
use Rattle.std.specs.Prelude.{ℕ, zero, suc, ◌+◌, ◌-◌, ◌*◌, ◌^◌, max, cond, ◌&&◌, List, [], ◌∷◌, length, drop, filter, ◌==◌, nat_lt, slice_index}
use Rattle.theory.specs.declared.entries.Entry.{Entry}

-- how many arrivals a bucket stands for
abbrev pub size : Entry → ℕ
size b = 2 ^ b.exponent

-- the sum of the sizes
abbrev pub total : List Entry → ℕ
total [] = 0
total (b ∷ bs) = size b + total bs

-- how many buckets have exponent e
abbrev pub how_many : ℕ → List Entry → ℕ
how_many e [] = 0
how_many e (b ∷ bs) = cond (b.exponent == e) 1 0 + how_many e bs

abbrev pub stamps : List Entry → List ℕ
stamps [] = []
stamps (b ∷ bs) = b.stamp ∷ stamps bs

-- the two oldest buckets of exponent e become one of the next exponent, with the later of the two stamps
abbrev pub merge_at : ℕ → List Entry → List Entry
merge_at e [] = []
merge_at e (b ∷ bs) =
    cond (b.exponent == e && how_many e bs == 1)
    (record { stamp = max b.stamp (slice_index (stamps bs) 0); exponent = suc e } ∷ drop 1 bs)
    (b ∷ merge_at e bs)

-- for each of so many exponents from e upward: if it has l + 2 buckets, its two oldest become one
abbrev pub merge_up : (exponents l e : ℕ) → List Entry → List Entry
merge_up zero l e bs = bs
merge_up (suc n) l e bs = merge_up n l (suc e) (cond (how_many e bs == l + 2) (merge_at e bs) bs)

-- one arrival at tick t: a bucket of size 1 at the newest end, then the merges
abbrev pub insert : (l t : ℕ) → List Entry → List Entry
insert l t bs = merge_up (length bs + 1) l 0 (record { stamp = t; exponent = 0 } ∷ bs)

-- v arrivals at tick t, one after another
abbrev pub insertions : (l v t : ℕ) → List Entry → List Entry
insertions l zero t bs = bs
insertions l (suc v) t bs = insert l t (insertions l v t bs)

-- the buckets with stamp + W above a. What a question of the window W at a counts; and what dropping leaves, which drops
-- those with stamp + N at most t
abbrev pub within : (W a : ℕ) → List Entry → List Entry
within W a bs = filter (λ b. nat_lt a (b.stamp + W)) bs

-- the size of the oldest bucket, c without any
abbrev pub oldest : ℕ → List Entry → ℕ
oldest c [] = c
oldest c (b ∷ bs) = oldest (size b) bs

-- what counted buckets tell: at most the sum T of their sizes; at least T − C + 1, C being the size of the oldest
abbrev pub high : List Entry → ℕ
high bs = total bs

abbrev pub low : List Entry → ℕ
low [] = 0
low (b ∷ bs) = (total (b ∷ bs) - oldest 0 (b ∷ bs)) + 1

-- the exponent of the oldest bucket, which is the largest of a sound stretch; e without any
abbrev pub top_from : ℕ → List Entry → ℕ
top_from e [] = e
top_from e (b ∷ bs) = top_from b.exponent bs

abbrev pub top : List Entry → ℕ
top bs = top_from 0 bs

-- the most that l + 1 buckets of each exponent up to r stand for: the closing figure
abbrev pub closing_figure : (l r : ℕ) → ℕ
closing_figure l r = (l + 1) * (2 ^ (r + 1) - 1)
