-- Which settings there are, and what they ask of a stretch.
use Rattle.std.specs.Prelude.{◌≡◌, ℕ, ◌+◌, ◌*◌, ◌%◌, ◌≤◌, ◌⊎◌, Some, None, Ok, Err, Option, Result}
use Rattle.theory.specs.Arrivals.{Largest}
use Rattle.histogram.specs.declared.settings.SettingsFault.{SettingsFault}
use Rattle.histogram.specs.declared.settings.SettingsFault.TheVariants.{K, Window, Cap}
use Rattle.histogram.specs.declared.settings.Settings.{Settings}

-- the largest exponent for m arrivals, or none where there is no largest
abbrev pub Exponent : (l m : ℕ) → Option ℕ → Type 0
Exponent l m (Some r) = Largest l m r
Exponent l m None = (l ≡ 0) ⊎ (m ≡ 0)

-- the most buckets that there can be: l + 1 of each exponent up to r
abbrev pub most_buckets : (l r : ℕ) → ℕ
most_buckets l r = (l + 1) * (r + 1)

-- how many entries a stretch must have
abbrev pub room : (l r : ℕ) → ℕ
room l r = most_buckets l r + 1

-- k is even, and from 2 to 32
abbrev pub GoodK : ℕ → Type 0
GoodK k = (k % 2 ≡ 0) × (2 ≤ k) × (k ≤ 32)

abbrev pub GoodWindow : ℕ → Type 0
GoodWindow N = (1 ≤ N) × (N ≤ 1048576)

abbrev pub GoodCap : ℕ → Type 0
GoodCap R = (1 ≤ R) × (R ≤ 1024)

-- the settings of k, N and R, with the largest exponent for N × R arrivals; or the first cause why there are none
abbrev pub Made : (k N R : ℕ) → Result Settings SettingsFault → Type 0
Made k N R (Ok s) = (k ≡ 2 * s.half) × (N ≡ s.window) × (R ≡ s.cap) × Largest s.half (N * R) s.top
Made k N R (Err K) = GoodK k → ⊥
Made k N R (Err Window) = GoodK k × (GoodWindow N → ⊥)
Made k N R (Err Cap) = GoodK k × GoodWindow N × (GoodCap R → ⊥)
