-- Laws of row tables: one row more, rows that do not hold a code point, and the bound on the weight.
use Rattle.std.specs.Prelude.{◌≡◌, ℕ, ◌+◌, ◌<◌, ◌≤◌, false, cond, ◌⊎◌, List, [], ◌∷◌, ◌++◌, map, reverse, length, take, Ok, Err, nat_lt, slice_index_or, slice_set}
use mathlib.Core.List.{reverse_aux, append_assoc, append-nil}
use Rattle.std.proofs.Common.{sym, ap, ◌∙◌, arith}
use Rattle.std.proofs.lemmas.Bool.Decides.{nat_tests}
use Rattle.std.proofs.lemmas.List.{reverse-append, map_more, map_push, take_more_set, length-map, length-take-le}
use Rattle.std.proofs.lemmas.Bool.{cond-true, cond-false, cond_both, le-leb, lt-leb, le-ltb, or_from}
use Rattle.std.specs.List.{AllByRecursion}
use Rattle.text.specs.declared.rows.Row.{Row}
use Rattle.text.specs.declared.rows.RowTable.{RowTable}
use Rattle.text.specs.Rows.{Figures, holds, first_holding, row_table, row_answer, LastDecides}
use Rattle.text.specs.Tables.{figures, rows_of}
use Rattle.text.specs.declared.rows.RowFault.TheVariants.{TableFull, BadRange, TooHeavy}

-- with one row more, that row decides where it holds the code point
pub latest_decides : (c : ℕ) (rows : List Figures) (row : Figures) → first_holding c (reverse (rows ++ row ∷ [])) ≡ cond (holds c row) row.weight (first_holding c (reverse rows))
latest_decides c rows row = ap (first_holding c) (reverse-append rows (row ∷ []))

pub table_more : (c : ℕ) (rows : List Row) (i : ℕ) (row : Row) → i < length rows → row ≡ slice_index_or rows i row
    → first_holding c (reverse (map figures (take (i + 1) rows))) ≡ cond (holds c (figures row)) row.weight (first_holding c (reverse (map figures (take i rows))))
table_more c rows i row h read =
    ap (λ l. first_holding c (reverse l)) (map_more figures rows i row h)
    ∙ latest_decides c (map figures (take i rows)) (figures (slice_index_or rows i row))
    ∙ ap (λ r. cond (holds c (figures r)) r.weight (first_holding c (reverse (map figures (take i rows))))) (sym read)

-- later rows that do not hold the code point change nothing
later_passed : (c : ℕ) (rows later : List Figures) → AllByRecursion (λ row. holds c row ≡ false) later → first_holding c (reverse (rows ++ later)) ≡ first_holding c (reverse rows)
later_passed c rows [] h = ap (λ l. first_holding c (reverse l)) (append-nil rows)
later_passed c rows (row ∷ later) h =
    ap (λ l. first_holding c (reverse l)) (sym (append_assoc rows (row ∷ []) later))
    ∙ later_passed c (rows ++ row ∷ []) later h.1
    ∙ latest_decides c rows row
    ∙ cond-false _ _ _ h.0

pub last_decides : LastDecides
last_decides c known = (
  λ earlier later row h none.
      cond-true _ _ _ (le-leb c 1114111 known)
      ∙ ap (λ l. first_holding c (reverse l)) (sym (append_assoc earlier (row ∷ []) later))
      ∙ later_passed c (earlier ++ row ∷ []) later none
      ∙ latest_decides c earlier row
      ∙ cond-true _ _ _ h,
  λ rows none. cond-true _ _ _ (le-leb c 1114111 known) ∙ later_passed c [] rows none,
)

-- no row weighs more than 4, so no code point does
pub never_heavier : (c : ℕ) (rows : List Row) (seen : List Figures) → first_holding c seen ≤ 4 → first_holding c (reverse_aux (map figures rows) seen) ≤ 4
never_heavier c [] seen h = h
never_heavier c (row ∷ rows) seen h =
    never_heavier c rows (figures row ∷ seen) (cond_both (holds c (figures row)) row.weight (first_holding c seen) (λ w. w ≤ 4) (λ _. row.small) (λ _. h))

pub at_most_four : (table : RowTable) (c : ℕ) → row_table (rows_of table) c ≤ 4
at_most_four table c = let h = never_heavier c (take table.len table.rows) [] (omega arith) in grind (arith, nat_tests)

-- a row is written behind the others
pub rows_push : (rows : List Row) (n : ℕ) (row : Row) → n < length rows → map figures (take (n + 1) (slice_set rows n row)) ≡ map figures (take n rows) ++ figures row ∷ []
rows_push rows n row h = ap (map figures) (take_more_set rows n row h) ∙ map_push figures (take n rows) row

pub rows_count : (rows : List Row) (n : ℕ) → n ≤ length rows → length (map figures (take n rows)) ≡ n
rows_count rows n h = length-map (take n rows) figures ∙ length-take-le n rows h

-- what adding a row answers, by the first cause that holds
module _ (n first last weight : ℕ) where
  pub answer_full : 32 ≤ n → Err TableFull ≡ row_answer n first last weight
  answer_full full = grind (arith, nat_tests)

  pub answer_range : n < 32 → (last < first) ⊎ (1114111 < last) → Err (BadRange first last) ≡ row_answer n first last weight
  answer_range room bad = grind (arith, nat_tests)

  past_range : n < 32 → first ≤ last → last ≤ 1114111 → cond (nat_lt 4 weight) (Err (TooHeavy weight)) (Ok tt) ≡ row_answer n first last weight
  past_range room ordered known =
      sym (cond-false _ _ _ (lt-leb 32 n room) ∙ cond-false _ _ _ (or_from _ _ (le-ltb last first ordered) (le-ltb 1114111 last known)))

  pub answer_heavy : n < 32 → first ≤ last → last ≤ 1114111 → 4 < weight → Err (TooHeavy weight) ≡ row_answer n first last weight
  answer_heavy room ordered known heavy = grind (arith, nat_tests)

  pub answer-added : n < 32 → first ≤ last → last ≤ 1114111 → weight ≤ 4 → Ok tt ≡ row_answer n first last weight
  answer-added room ordered known small = grind (arith, nat_tests)
