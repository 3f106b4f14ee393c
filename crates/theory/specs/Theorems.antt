-- The theorems about histograms, as the functions in src/theorems.rt promise them.
use Rattle.std.specs.Prelude.{◌≡◌, ℕ, ◌+◌, ◌-◌, ◌*◌, ◌^◌, ◌<◌, ◌≤◌, true, List, [], ◌∷◌, ◌++◌, length, take, drop, replicate}
use Rattle.std.specs.List.{AllByRecursion}
use Rattle.theory.specs.Arrivals.{Keeps, truth, at_tick, Brackets, Largest}
use Rattle.theory.specs.Buckets.{total, insert, insertions, within, low, high, top, closing_figure}
use Rattle.theory.specs.Levels.{flat, push_all, newer, staying, Canonical}
use Rattle.theory.specs.Sound.{formed, sound_buckets}
use Rattle.theory.specs.declared.entries.Entry.{Entry}

-- no buckets are a histogram of no arrivals
abbrev pub EmptyKeeps : Type 0
EmptyKeeps = (l N t : ℕ) → Keeps l N t [] []

-- one more arrival at the tick
abbrev pub InsertionKeeps : Type 0
InsertionKeeps = (l N t : ℕ) (us : List ℕ) (bs : List Entry) → 1 ≤ l → Keeps l N t us bs
    → Keeps l N t (t ∷ us) (insert l t bs)

-- a later tick comes, and what has expired is dropped
abbrev pub DroppingKeeps : Type 0
DroppingKeeps = (l N t later : ℕ) (us : List ℕ) (bs : List Entry) → t ≤ later → Keeps l N t us bs
    → Keeps l N later us (within N later bs)

-- low and high bracket the truth, for every window up to N and every tick from t on
abbrev pub BracketsTruth : Type 0
BracketsTruth = (l N t : ℕ) (us : List ℕ) (bs : List Entry) (W a : ℕ) → Keeps l N t us bs → W ≤ N → t ≤ a
    → Brackets l (truth W a us) (low (within W a bs)) (high (within W a bs))

-- few buckets, by the arrivals they stand for, and by the arrivals in the window where none has expired
pub record Few (l N t : ℕ) (us covered : List ℕ) (bs : List Entry) : Type 0 where
  pub few : length bs ≤ (l + 1) * (top bs + 1)
  pub by_covered : l * (2 ^ top bs - 1) < length covered
  pub by_window : within N t bs ≡ bs → l * (2 ^ top bs - 1) < truth N t us

abbrev pub FewBuckets : Type 0
FewBuckets = (l N t : ℕ) (us : List ℕ) (bs : List Entry) (keeps : Keeps l N t us bs) → 1 ≤ length bs
    → Few l N t us keeps.stand_for.covered bs

-- with at most R arrivals at each tick, and none after a, a window of W ticks has at most W × R
abbrev pub ArrivalsInWindow : Type 0
ArrivalsInWindow = (R a : ℕ) (us : List ℕ) → ((s : ℕ) → at_tick s us ≤ R) → AllByRecursion (λ u. u ≤ a) us
    → (W : ℕ) → truth W a us ≤ W * R

-- sound buckets from which the expired ones are dropped are sound
abbrev pub DroppingSound : Type 0
DroppingSound = (l r N own t : ℕ) (bs : List Entry) → own ≤ t → sound_buckets l r N own bs ≡ true → sound_buckets l r N t (within N t bs) ≡ true

-- sound buckets to which v arrivals come at tick t are sound again, if the closing figure is not passed
abbrev pub InsertionSound : Type 0
InsertionSound = (l r N own t v : ℕ) (bs : List Entry) → 1 ≤ l → 0 < N → own ≤ t → sound_buckets l r N own bs ≡ true
    → total (within N t bs) + v ≤ closing_figure l r
    → (sound_buckets l r N t (insertions l v t (within N t bs)) ≡ true)
    × (length (insertions l v t (within N t bs)) ≤ (l + 1) * (r + 1))

-- v arrivals at tick t, those of the last N ticks then being at most m, with r the largest exponent for m: the closing
-- figure is not passed, no exponent is above r, and the buckets leave one entry of the room (l + 1) × (r + 1) + 1 free
pub record Fits (l r N t v : ℕ) (bs : List Entry) : Type 0 where
  pub closing : total (within N t bs) + v ≤ closing_figure l r
  pub exponents : top (insertions l v t (within N t bs)) ≤ r
  pub room : length (insertions l v t (within N t bs)) ≤ (l + 1) * (r + 1)

abbrev pub NeverFull : Type 0
NeverFull = (l r m N own t v : ℕ) (us : List ℕ) (bs : List Entry) → 1 ≤ l → 0 < N → own ≤ t → Largest l m r → Keeps l N own us bs
    → truth N t (replicate v t ++ us) ≤ m → Fits l r N t v bs

-- arrivals at a level, all at once: of them and the level's own, the newest stay, and the newer of each pair of the rest goes up
abbrev pub LevelLaw : Type 0
LevelLaw = (l : ℕ) (new ss : List ℕ) (rest : List (List ℕ)) → length ss ≤ l + 1
    → push_all l new (ss ∷ rest)
    ≡ take (staying l (length (new ++ ss))) (new ++ ss)
    ∷ push_all l (newer (drop (staying l (length (new ++ ss))) (new ++ ss))) rest

-- v single insertions are one batch by levels
abbrev pub InsertionsByLevels : Type 0
InsertionsByLevels = (l t v : ℕ) (bs : List Entry) → 1 ≤ l → formed l t bs ≡ true
    → (levels : List (List ℕ)) × Canonical l levels × (bs ≡ flat 0 levels)
    × (insertions l v t bs ≡ flat 0 (push_all l (replicate v t) levels))

pub record BatchIsRepeated : Type 0 where
  pub by_levels : InsertionsByLevels
  pub level_law : LevelLaw
