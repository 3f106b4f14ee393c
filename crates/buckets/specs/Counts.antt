-- Counts of arrivals, taken in one after another.
use Rattle.std.specs.Prelude.{◌≡◌, ℕ, ◌+◌, ◌*◌, ◌⊎◌, List, [], take, Some, None, Ok, Err, Option, Result}
use Rattle.histogram.specs.Settings.{GoodK}
use Rattle.theory.specs.Buckets.{insertions}
use Rattle.theory.specs.declared.entries.Entry.{Entry}
use Rattle.buckets.specs.Numbers.{number_up_to}
use Rattle.buckets.specs.Reports.{sizes_text, refused_k, refused_count, refused_full, summary_text}
use Rattle.buckets.specs.declared.board.Board.{Board}
use Rattle.buckets.specs.declared.report.Refusal.{Refusal}
use Rattle.buckets.specs.declared.report.Refusal.TheVariants.{NotK, NotACount, NoTick}

-- the buckets of a board
abbrev pub board_buckets : Board → List Entry
board_buckets b = take b.histogram.standing.buckets b.entries

-- an empty board of k, or there is none
abbrev pub Begun : ℕ → Option Board → Type 0
Begun k (Some b) = (k ≡ 2 * b.histogram.settings.half) × (board_buckets b ≡ []) × (b.histogram.standing.tick ≡ 0) × (b.arrivals ≡ 0)
Begun k None = GoodK k → ⊥

-- v arrivals at the next tick: they are inserted one after another; where no tick is left, nothing changes
abbrev pub Added : ℕ → Board → Result (Unit {0}) Refusal → Board → Type 0
Added v b (Ok _) b' =
    (board_buckets b' ≡ insertions b.histogram.settings.half v (b.histogram.standing.tick + 1) (board_buckets b))
    × (b'.histogram.settings ≡ b.histogram.settings) × (b'.histogram.standing.tick ≡ b.histogram.standing.tick + 1) × (b'.arrivals ≡ b.arrivals + v)
Added v b (Err r) b' = (r ≡ NoTick) × (b.histogram.standing.tick ≡ 1048575) × (b' ≡ b)

-- what a line does to the board, by the number up to 960 that it spells
abbrev pub CountAdded : Board → Result (Unit {0}) Refusal → Board → Option ℕ → Type 0
CountAdded b r b' None = (r ≡ Err NotACount) × (b' ≡ b)
CountAdded b r b' (Some v) = Added v b r b'

-- and which text it prints
abbrev pub Taken : (line : ℕ) → Board → Board → List ℕ → Option ℕ → Type 0
Taken line b b' text None = (b' ≡ b) × (text ≡ refused_count line)
Taken line b b' text (Some v) =
    (Added v b (Ok tt) b' × (text ≡ sizes_text (board_buckets b'))) ⊎ (Added v b (Err NoTick) b' × (text ≡ refused_full line))

-- the line that is to be k begins a board by the number up to 32 that it spells, or there is none
abbrev pub BoardRead : Result Board Refusal → Option ℕ → Type 0
BoardRead (Ok b) None = ⊥
BoardRead (Ok b) (Some k) = Begun k (Some b)
BoardRead (Err r) None = r ≡ NotK
BoardRead (Err r) (Some k) = Begun k None × (r ≡ NotK)

-- and which text it prints
abbrev pub Opened : (line : ℕ) → Option Board → List ℕ → Option ℕ → Type 0
Opened line None text None = text ≡ refused_k line
Opened line (Some b) text None = ⊥
Opened line None text (Some k) = Begun k None × (text ≡ refused_k line)
Opened line (Some b) text (Some k) = Begun k (Some b) × (text ≡ [])

-- what any line does: as long as there is no board it is to be k, and then a count
abbrev pub LineTaken : (at : ℕ) → Option Board → Option Board → List ℕ → (line : List ℕ) → Type 0
LineTaken at None b' text line = Opened at b' text (number_up_to 32 line)
LineTaken at (Some b) None text line = ⊥
LineTaken at (Some b) (Some b') text line = Taken at b b' text (number_up_to 960 line)

-- how many arrivals stand in how many buckets in the end
abbrev pub summed : Option Board → List ℕ
summed None = summary_text 0 0
summed (Some b) = summary_text b.arrivals b.histogram.standing.buckets
