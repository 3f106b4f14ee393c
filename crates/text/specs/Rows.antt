-- What a row table weighs, and what adding a row answers and leaves.
use Rattle.std.specs.Prelude.{◌≡◌, ℕ, ◌<◌, ◌≤◌, Bool, true, false, cond, ◌&&◌, ◌||◌, ◌⊎◌, List, [], ◌∷◌, ◌++◌, reverse, Ok, Err, Result, nat_le, nat_lt}
use Rattle.std.specs.List.{AllByRecursion}
use Rattle.text.specs.declared.rows.RowFault.{RowFault}
use Rattle.text.specs.declared.rows.RowFault.TheVariants.{TableFull, BadRange, TooHeavy}
use Rattle.text.specs.Weights.{code_point_weight}

-- a row by its three figures
pub record Figures : Type 0 where
  pub first : ℕ
  pub last : ℕ
  pub weight : ℕ

-- whether c lies from the row's first code point to its last
abbrev pub holds : ℕ → Figures → Bool
holds c row = nat_le row.first c && nat_le c row.last

-- the weight that the first row to hold c gives, and 1 without one
abbrev pub first_holding : ℕ → List Figures → ℕ
first_holding c [] = 1
first_holding c (row ∷ rows) = cond (holds c row) row.weight (first_holding c rows)

-- the row-table rule: the last row that holds a code point decides
abbrev pub row_table : List Figures → ℕ → ℕ
row_table rows c = code_point_weight c (first_holding c (reverse rows))

-- what adding a row answers where there are n rows: the first cause that holds, in this order
abbrev pub row_answer : ℕ → ℕ → ℕ → ℕ → Result (Unit {0}) RowFault
row_answer n first last weight =
    cond (nat_le 32 n) (Err TableFull)
    (cond (nat_lt last first || nat_lt 1114111 last) (Err (BadRange first last))
    (cond (nat_lt 4 weight) (Err (TooHeavy weight)) (Ok tt)))

-- why there is no row of three figures: the first cause that holds, in this order
abbrev pub RowRefused : ℕ → ℕ → ℕ → RowFault → Type 0
RowRefused first last weight TableFull = ⊥
RowRefused first last weight (BadRange a b) = (a ≡ first) × (b ≡ last) × ((last < first) ⊎ (1114111 < last))
RowRefused first last weight (TooHeavy w) = (w ≡ weight) × (first ≤ last) × (last ≤ 1114111) × (4 < weight)

-- the rows after it: one more at the end, or as they were
abbrev pub rows_after : {T E : Type 0} → Result T E → List Figures → ℕ → ℕ → ℕ → List Figures
rows_after (Ok _) rows first last weight = rows ++ record { first = first; last = last; weight = weight } ∷ []
rows_after (Err _) rows first last weight = rows

-- the number of a refusal
abbrev pub row_fault_number : RowFault → ℕ
row_fault_number TableFull = 19
row_fault_number (BadRange first last) = 20
row_fault_number (TooHeavy weight) = 21

-- the rule in words: a row that holds c, with no later row that does, gives its weight; and where no row holds c the weight is 1
abbrev pub LastDecides : Type 0
LastDecides =
    (c : ℕ) → c ≤ 1114111
    → ((earlier later : List Figures) (row : Figures) → holds c row ≡ true → AllByRecursion (λ other. holds c other ≡ false) later → row_table (earlier ++ row ∷ later) c ≡ row.weight)
    × ((rows : List Figures) → AllByRecursion (λ row. holds c row ≡ false) rows → row_table rows c ≡ 1)
