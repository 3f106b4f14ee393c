-- What a pass over a stretch tells of the buckets in a window.
use Rattle.std.specs.Prelude.{ℕ, ◌+◌, ◌≤◌, Bool, true, cond, List, [], ◌∷◌, length, take, Some, None, Option, nat_lt}
use Rattle.theory.specs.Arrivals.{Brackets, truth}
use Rattle.theory.specs.Buckets.{total, oldest, within, low, high}
use Rattle.theory.specs.declared.entries.Entry.{Entry}
use Rattle.histogram.specs.Histogram.{is_sound, HistogramOf}
use Rattle.histogram.specs.declared.surveys.Figures.{Figures}
use Rattle.histogram.specs.declared.surveys.Survey.{Survey}
use Rattle.histogram.specs.declared.track.Histogram.{Histogram}
use Rattle.histogram.specs.declared.window.Window.{Window}

-- the size fits a word: 2^30 at most
abbrev pub Small : Entry → Type 0
Small b = b.exponent ≤ 30

-- whether the stamp s is in the window
abbrev pub holds : Window → ℕ → Bool
holds w s = nat_lt w.at (s + w.ticks)

-- whether the oldest bucket, if there is one, has not expired
abbrev pub lives : (N own : ℕ) → List Entry → Bool
lives N own [] = true
lives N own (b ∷ []) = nat_lt own (b.stamp + N)
lives N own (b ∷ (c ∷ bs)) = lives N own (c ∷ bs)

-- how many buckets, the sum of their sizes, and the size of the oldest
abbrev pub told : List Entry → Survey
told bs = record { buckets = length bs; sizes = total bs; oldest = oldest 0 bs }

-- the buckets of a track that a window holds
abbrev pub held : Histogram → Window → List Entry → List Entry
held h w stretch = within w.ticks w.at (take h.standing.buckets stretch)

-- a survey of a track in a window; nothing where its stretch is not sound
abbrev pub surveyed : Histogram → Window → List Entry → Option Survey
surveyed h w stretch = cond (is_sound h stretch) (Some (told (held h w stretch))) None

-- low and high of a window
abbrev pub figures : Histogram → Window → List Entry → Option Figures
figures h w stretch = cond (is_sound h stretch) (Some (record { low = low (held h w stretch); high = high (held h w stretch) })) None

-- whatever arrivals the buckets are a histogram of, low and high bracket their true count
abbrev pub Bracketed : Histogram → Window → List Entry → Option Figures → Type 0
Bracketed h w stretch None = Unit {0}
Bracketed h w stretch (Some f) =
    (us : List ℕ) → HistogramOf h us stretch → w.ticks ≤ h.settings.window → h.standing.tick ≤ w.at
    → Brackets h.settings.half (truth w.ticks w.at us) f.low f.high
