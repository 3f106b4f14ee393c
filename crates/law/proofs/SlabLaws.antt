-- The stretches of a slab: their lengths, what is read of a stretch that was put, and that stretches of different tracks lie apart.
use Rattle.std.proofs.Common.{◌≡◌, ℕ, suc, ◌+◌, ◌*◌, ◌<◌, ◌≤◌, ◌⊎◌, List, ◌++◌, length, take, drop, ap, ◌∙◌, inl, inr, mul-le-mul_right, arith}
use Rattle.law.specs.Calls.{padded, put_stretch, stretch_at}
use Rattle.std.proofs.lemmas.List.{drop_at, length-append, length-drop, length-replicate, length-take, length-take-le, places, same_lists, take_at}
use Rattle.std.proofs.lemmas.Bool.{cases_lt}
use Rattle.theory.specs.declared.entries.Entry.{Entry}

pub padded-length : (p : ℕ) (bs : List Entry) → length (padded p bs) ≡ p
padded-length p bs = simp (length-take, length-append, length-replicate) (omega arith)

pub part_length : (p i : ℕ) (xs : List Entry) → i * p + p ≤ length xs → length (stretch_at p i xs) ≡ p
part_length p i xs fits = simp (length-take, length-drop) (omega arith)

-- ONE STRETCH IS PUT

module _ (p i : ℕ) (es xs : List Entry) (fits : i * p + p ≤ length xs) (size : length es ≡ p) where
  pub put_length : length (put_stretch p i es xs) ≡ length xs
  put_length = simp (length-append, length-take, length-drop) (omega arith)

  pub part_put : stretch_at p i (put_stretch p i es xs) ≡ es
  part_put =
      ap (take p) (drop_at (take (i * p) xs) (es ++ drop (i * p + p) xs) (i * p) (length-take-le (i * p) xs (omega arith)))
      ∙ take_at es (drop (i * p + p) xs) p size

-- TWO TRACKS

-- the stretches of two tracks lie apart
apart : (p i j : ℕ) → (i ≡ j → ⊥) → (i * p + p ≤ j * p) ⊎ (j * p + p ≤ i * p)
apart p i j ne = by_order (cases_lt i j)
  where
    by_order : (i < j) ⊎ (j ≤ i) → (i * p + p ≤ j * p) ⊎ (j * p + p ≤ i * p)
    by_order (inl lt) = inl (omega (arith, mul-le-mul_right p lt))
    by_order (inr le) = let lt : suc j ≤ i = omega arith in inr (omega (arith, mul-le-mul_right p lt))

-- a stretch that is put leaves those of the other tracks
pub part_other : (p i j : ℕ) (es xs : List Entry) → i * p + p ≤ length xs → j * p + p ≤ length xs → length es ≡ p → (i ≡ j → ⊥)
    → stretch_at p j (put_stretch p i es xs) ≡ stretch_at p j xs
part_other p i j es xs fi fj size ne =
    let o : (i * p + p ≤ j * p) ⊎ (j * p + p ≤ i * p) = apart p i j ne in
    same_lists _ _ (simp (length-append, length-take, length-drop) (omega arith)) (λ k d h. grind (arith, places))

-- stretches of different tracks are put in either order
pub put_comm : (p i j : ℕ) (es fs xs : List Entry) → i * p + p ≤ length xs → j * p + p ≤ length xs
    → length es ≡ p → length fs ≡ p → (i ≡ j → ⊥)
    → put_stretch p j fs (put_stretch p i es xs) ≡ put_stretch p i es (put_stretch p j fs xs)
put_comm p i j es fs xs fi fj ei ej ne =
    let o : (i * p + p ≤ j * p) ⊎ (j * p + p ≤ i * p) = apart p i j ne in
    same_lists _ _ (simp (length-append, length-take, length-drop) (omega arith)) (λ k d h. grind (arith, places))
