-- Words for the pass over the levels of a stretch.
use Rattle.std.specs.Prelude.{◌≡◌, ℕ, ◌+◌, ◌<◌, ◌≤◌, Bool, true, cond, ◌&&◌, ◌⊎◌, List, [], ◌∷◌, length, take, Some, None, Option, ◌==◌, ◌≢◌, nat_le, slice_index_or}
use Rattle.theory.specs.Buckets.{total}
use Rattle.theory.specs.Levels.{flat, Canonical}
use Rattle.theory.specs.Sound.{never_rise, zero_entry}
use Rattle.theory.specs.declared.entries.Entry.{Entry}

-- all have exponent e, and their stamps never rise from last on
abbrev pub levelled : (e last : ℕ) → List Entry → Bool
levelled e last [] = true
levelled e last (b ∷ bs) = (b.exponent == e && nat_le b.stamp last) && levelled e b.stamp bs

-- the stamp of the last, last without any; none where they are not levelled
abbrev pub level_end : (e last : ℕ) → List Entry → Option ℕ
level_end e last [] = Some last
level_end e last (b ∷ bs) = cond (b.exponent == e && nat_le b.stamp last) (level_end e b.stamp bs) None

-- the rest of formed buckets, from exponent e on: canonical levels, none above r, with stamps that never rise from last on
pub record Tail (l r e last : ℕ) (rest : List Entry) : Type 0 where
  pub levels : List (List ℕ)
  pub whole : rest ≡ flat e levels
  pub canonical : Canonical l levels
  pub falls : never_rise last rest ≡ true
  pub tops : e + length levels ≤ r + 1

-- the first n are one level, as far as can be seen from the buckets up to the next
pub record Level (l e last : ℕ) (rest : List Entry) (n : ℕ) : Type 0 where
  pub level : levelled e last (take n rest) ≡ true
  pub some : 1 ≤ n
  pub few : n ≤ l + 1
  pub inside : n ≤ length rest
  pub filled : n < length rest → l ≤ n
  pub ends : (n ≡ l + 1) ⊎ ((n ≡ length rest) ⊎ ((slice_index_or rest n zero_entry).exponent ≢ e))

-- the level at the front has n buckets, or there is none that could be continued
abbrev pub LevelOf : (l e last : ℕ) → List Entry → Option ℕ → Type 0
LevelOf l e last rest (Some n) = Level l e last rest n
LevelOf l e last rest None = (r : ℕ) → Tail l r e last rest → ⊥

-- the sum of the sizes of formed buckets, or they are not formed
abbrev pub SizesOf : (l r own : ℕ) → List Entry → Option ℕ → Type 0
SizesOf l r own bs (Some s) = Tail l r 0 own bs × (s ≡ total bs)
SizesOf l r own bs None = Tail l r 0 own bs → ⊥
