-- What a track keeps of its histogram, and the stretch that its buckets lie in.
use Rattle.std.specs.Prelude.{ℕ, Bool, List, take}
use Rattle.theory.specs.Arrivals.{Keeps}
use Rattle.theory.specs.Sound.{sound}
use Rattle.theory.specs.declared.entries.Entry.{Entry}
use Rattle.histogram.specs.declared.settings.Settings.{Settings}
use Rattle.histogram.specs.declared.track.Histogram.{Histogram}

-- the histogram of a track that begins at tick t
abbrev pub begun : Settings → (t : ℕ) → Histogram
begun s t = record { settings = s; standing = record { tick = t; weight = 0; buckets = 0 } }

-- whether the stretch is sound
abbrev pub is_sound : Histogram → List Entry → Bool
is_sound h stretch = sound h.settings.half h.settings.top h.settings.window h.standing.tick h.standing.buckets stretch

-- the buckets in the stretch are a histogram, at the track's own tick, of the arrivals us
abbrev pub HistogramOf : Histogram → List ℕ → List Entry → Type 0
HistogramOf h us stretch = Keeps h.settings.half h.settings.window h.standing.tick us (take h.standing.buckets stretch)
