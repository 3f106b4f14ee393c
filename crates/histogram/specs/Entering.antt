-- Entering arrivals into a track's histogram.
use Rattle.std.specs.Prelude.{◌≡◌, ℕ, ◌+◌, ◌-◌, true, cond, List, ◌++◌, length, take, replicate, Some, None, Ok, Err, Option, Result, nat_lt}
use Rattle.theory.specs.Buckets.{total, insertions, within, closing_figure}
use Rattle.theory.specs.Sound.{zeros}
use Rattle.theory.specs.declared.entries.Entry.{Entry}
use Rattle.histogram.specs.Histogram.{is_sound, HistogramOf}
use Rattle.histogram.specs.declared.track.EnterFault.{EnterFault}
use Rattle.histogram.specs.declared.track.EnterFault.TheVariants.{Early, Unsound, OverCap, Full}
use Rattle.histogram.specs.declared.track.Histogram.{Histogram}
use Rattle.histogram.specs.declared.track.Standing.{Standing}

-- a stretch of p entries that holds the buckets bs, and zero entries after them
abbrev pub padded : ℕ → List Entry → List Entry
padded p bs = bs ++ zeros (p - length bs)

-- the weight accepted at tick t before: it starts at 0 if t is later than the own tick
abbrev pub weight_before : Standing → ℕ → ℕ
weight_before was t = cond (nat_lt was.tick t) 0 was.weight

-- the buckets that stay when tick t has come
abbrev pub kept_at : Histogram → ℕ → List Entry → List Entry
kept_at was t stretch = within was.settings.window t (take was.standing.buckets stretch)

-- the buckets after v arrivals at tick t: the expired ones are dropped, then the arrivals come one after another
abbrev pub buckets_after : Histogram → (t v : ℕ) → List Entry → List Entry
buckets_after was t v stretch = insertions was.settings.half v t (kept_at was t stretch)

-- why the arrivals are refused: the first cause that holds
abbrev pub refusal : Histogram → (t v : ℕ) → List Entry → Option EnterFault
refusal was t v stretch =
    cond (nat_lt t was.standing.tick) (Some Early)
    (cond (is_sound was stretch)
    (cond (nat_lt was.settings.cap (weight_before was.standing t + v)) (Some OverCap)
    (cond (nat_lt (closing_figure was.settings.half was.settings.top) (total (kept_at was t stretch) + v)) (Some Full) None))
    (Some Unsound))

abbrev pub unless : {T : Type 0} → Option EnterFault → T → Result T EnterFault
unless (Some f) x = Err f
unless None x = Ok x

-- what is told of v arrivals at tick t: that they are entered, or the refusal
abbrev pub entered : Histogram → (t v : ℕ) → List Entry → Result (Unit {0}) EnterFault
entered was t v stretch = unless (refusal was t v stretch) tt

-- the track's standing after v arrivals at tick t
abbrev pub standing_after : Histogram → (t v : ℕ) → List Entry → Standing
standing_after was t v stretch =
    record { tick = t; weight = weight_before was.standing t + v; buckets = length (buckets_after was t v stretch) }

abbrev pub changed : {T : Type 0} → Option EnterFault → T → T → T
changed (Some f) old new = old
changed None old new = new

-- the histogram after it: its settings stay; as it was on a refusal
abbrev pub histogram_after : Histogram → (t v : ℕ) → List Entry → Histogram
histogram_after was t v stretch =
    changed (refusal was t v stretch) was (record { settings = was.settings; standing = standing_after was t v stretch })

-- the stretch after it: the buckets and then zero entries; as it was on a refusal
abbrev pub stretch_after : Histogram → (t v : ℕ) → List Entry → List Entry
stretch_after was t v stretch =
    changed (refusal was t v stretch) stretch (padded (length stretch) (buckets_after was t v stretch))

-- entered arrivals leave the settings as they were and the stretch sound; and a histogram of arrivals becomes one of these and the new ones
abbrev pub Entered : Histogram → (t v : ℕ) → List Entry → Result (Unit {0}) EnterFault → Histogram → List Entry → Type 0
Entered was t v old (Err f) is new = Unit {0}
Entered was t v old (Ok done) is new =
    (is.settings ≡ was.settings)
    × (is_sound is new ≡ true)
    × ((us : List ℕ) → HistogramOf was us old → HistogramOf is (replicate v t ++ us) new)
