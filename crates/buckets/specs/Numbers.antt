-- The number that a line spells.
use Rattle.std.specs.Prelude.{◌≡◌, ℕ, zero, suc, ◌≤◌, cond, ◌↔◌, List, Some, None, decimal, Option}
use Rattle.std.specs.Str.{bytes_eq}

-- the line is the decimal digits of n, without leading zeros
abbrev pub Spells : List ℕ → ℕ → Type 0
Spells line n = line ≡ decimal n

-- the number below n that the line spells, found among all of them by its digits
unfoldable pub number_below : ℕ → List ℕ → Option ℕ
number_below zero line = None
number_below (suc n) line = cond (bytes_eq line (decimal n)) (Some n) (number_below n line)

-- the number up to `most` that the line spells
unfoldable pub number_up_to : ℕ → List ℕ → Option ℕ
number_up_to most line = number_below (suc most) line

-- what is read from a line: a number just where the line spells it and it is at most `most`, and nothing just where there
-- is none; `value` says the same by a function
pub record NumberRead (line : List ℕ) (most : ℕ) (r : Option ℕ) : Type 0 where
  pub number : (n : ℕ) → (r ≡ Some n) ↔ ((n ≤ most) × Spells line n)
  pub nothing : (r ≡ None) ↔ ((n : ℕ) → n ≤ most → Spells line n → ⊥)
  pub value : r ≡ number_up_to most line
