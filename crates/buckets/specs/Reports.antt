-- What the program prints.
use Rattle.std.specs.Prelude.{ℕ, ◌≤◌, List, [], ◌∷◌, ◌++◌, map, reverse, codes, decimal}
use Rattle.theory.specs.Buckets.{size}
use Rattle.theory.specs.declared.entries.Entry.{Entry}
use Rattle.buckets.specs.declared.report.Refusal.{Refusal}
use Rattle.buckets.specs.declared.report.Refusal.TheVariants.{NotK, NotACount, NoTick}

-- a bucket whose size is far below 2^64
abbrev pub Small : Entry → Type 0
Small b = b.exponent ≤ 40

-- numbers in decimal, separated by one blank
abbrev pub spaced : List ℕ → List ℕ
spaced [] = []
spaced (n ∷ []) = decimal n
spaced (n ∷ (m ∷ ns)) = decimal n ++ (codes " " ++ spaced (m ∷ ns))

-- the sizes of buckets that are given newest first, from the oldest to the newest
abbrev pub sizes_list : List Entry → List ℕ
sizes_list bs = spaced (map size (reverse bs))

-- and on one line
abbrev pub sizes_text : List Entry → List ℕ
sizes_text bs = sizes_list bs ++ codes "\n"

-- the line cannot be k
abbrev pub refused_k : ℕ → List ℕ
refused_k line = codes "line " ++ (decimal line ++ codes ": refused, k is an even number from 2 to 32\n")

-- the line cannot be a count
abbrev pub refused_count : ℕ → List ℕ
refused_count line = codes "line " ++ (decimal line ++ codes ": refused, a count is a number from 0 to 960\n")

-- no tick is left for the line
abbrev pub refused_full : ℕ → List ℕ
refused_full line = codes "line " ++ (decimal line ++ codes ": refused, no more ticks are left\n")

-- why a line is refused
abbrev pub reason : Refusal → List ℕ
reason NotK = codes "k is an even number from 2 to 32"
reason NotACount = codes "a count is a number from 0 to 960"
reason NoTick = codes "no more ticks are left"

-- the line is refused
abbrev pub refused : ℕ → Refusal → List ℕ
refused line NotK = refused_k line
refused line NotACount = refused_count line
refused line NoTick = refused_full line

-- how many arrivals stand in how many buckets
abbrev pub summary_words : ℕ → ℕ → List ℕ
summary_words arrivals buckets = decimal arrivals ++ (codes " arrivals stand in " ++ (decimal buckets ++ codes " buckets"))

-- and on one line
abbrev pub summary_text : ℕ → ℕ → List ℕ
summary_text arrivals buckets = decimal arrivals ++ (codes " arrivals stand in " ++ (decimal buckets ++ codes " buckets\n"))
