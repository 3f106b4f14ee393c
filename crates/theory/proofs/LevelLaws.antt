-- Formed buckets have levels.
use Rattle.std.proofs.Common.{◌≡◌, ℕ, suc, ◌+◌, ◌<◌, ◌≤◌, ◌≢◌, cond, eqb, List, [], ◌∷◌, length, refl, arith}
use Rattle.std.proofs.lemmas.Bool.{cond_both}
use Rattle.std.proofs.lemmas.Bool.Decides.{nat_tests}
use Rattle.theory.proofs.FormLaws.{many_low, many_other, many_same}
use Rattle.theory.proofs.TopLaws.{top-row_from}
use Rattle.theory.proofs.Views.{Formed, Steps}
use Rattle.theory.specs.Buckets.{how_many, top, top_from}
use Rattle.theory.specs.Levels.{Canonical, Filled, flat}
use Rattle.theory.specs.declared.entries.Entry.{Entry}

abbrev onto : ℕ → List (List ℕ) → List (List ℕ)
onto s [] = (s ∷ []) ∷ []
onto s (ss ∷ rest) = (s ∷ ss) ∷ rest

abbrev gather : Entry → List Entry → List (List ℕ)
gather b [] = (b.stamp ∷ []) ∷ []
gather b (c ∷ bs) = cond (eqb b.exponent c.exponent) (onto b.stamp (gather c bs)) ((b.stamp ∷ []) ∷ gather c bs)

flat_onto : (e s : ℕ) (levels : List (List ℕ)) → flat e (onto s levels) ≡ record { stamp = s; exponent = e } ∷ flat e levels
flat_onto e s [] = refl
flat_onto e s (ss ∷ rest) = refl

flat_gather : (b : Entry) (bs : List Entry) → Steps b.exponent bs → flat b.exponent (gather b bs) ≡ b ∷ bs
flat_gather b [] h = refl
flat_gather b (c ∷ bs) h =
    let ih : flat c.exponent (gather c bs) ≡ c ∷ bs = flat_gather c bs h.2 in
    let up : b.exponent ≢ c.exponent → suc b.exponent ≡ c.exponent = λ n. omega (arith, h.0, h.1) in
    grind (arith, nat_tests, flat_onto b.exponent b.stamp (gather c bs))

abbrev Rows : List (List ℕ) → Type 0
Rows [] = Unit {0}
Rows (ss ∷ rest) = (1 ≤ length ss) × Rows rest

rows_onto : (s : ℕ) (levels : List (List ℕ)) → Rows levels → Rows (onto s levels)
rows_onto s [] h = (omega arith, tt)
rows_onto s (ss ∷ rest) h = (omega arith, h.1)

rows_gather : (b : Entry) (bs : List Entry) → Rows (gather b bs)
rows_gather b [] = (omega arith, tt)
rows_gather b (c ∷ bs) =
    cond_both (eqb b.exponent c.exponent) (onto b.stamp (gather c bs)) ((b.stamp ∷ []) ∷ gather c bs) Rows
    (λ _. rows_onto b.stamp (gather c bs) (rows_gather c bs)) (λ _. (omega arith, rows_gather c bs))

top_rows : (e : ℕ) (rest : List (List ℕ)) → Rows rest → top_from e (flat (suc e) rest) ≡ e + length rest
top_rows e [] c = omega arith
top_rows e (ss ∷ rest) c = omega (arith, top-row_from e (suc e) ss (flat (suc (suc e)) rest) c.0, top_rows (suc e) rest c.1)

canon_from : (l e : ℕ) (levels : List (List ℕ)) → Rows levels
    → ((x : ℕ) → e ≤ x → how_many x (flat e levels) ≤ l + 1)
    → ((x : ℕ) → e ≤ x → suc x < e + length levels → l ≤ how_many x (flat e levels))
    → Canonical l levels
canon_from l e [] r few enough = tt
canon_from l e (ss ∷ rest) r few enough =
    let here : how_many e (flat e (ss ∷ rest)) ≡ length ss =
    omega (arith, many_same e ss (flat (suc e) rest), many_low e (suc e) (omega arith) rest) in (
      r.0,
      omega (arith, few e (omega arith)),
      filled ss rest here enough,
      canon_from l (suc e) rest r.1
          (λ x h. omega (arith, many_other x e (λ q. omega arith) ss (flat (suc e) rest), few x (omega arith)))
          (λ x h lt. omega (arith, many_other x e (λ q. omega arith) ss (flat (suc e) rest), enough x (omega arith) (omega arith))),
    )
  where
    filled : (ss : List ℕ) (rest : List (List ℕ)) → how_many e (flat e (ss ∷ rest)) ≡ length ss
        → ((x : ℕ) → e ≤ x → suc x < e + length (ss ∷ rest) → l ≤ how_many x (flat e (ss ∷ rest))) → Filled l ss rest
    filled ss [] here enough = tt
    filled ss (next ∷ rest) here enough = omega (arith, enough e (omega arith) (omega arith))

pub levels_of : (l : ℕ) (bs : List Entry) → Formed l bs → (levels : List (List ℕ)) × (flat 0 levels ≡ bs) × Canonical l levels
levels_of l [] h = ([], refl, tt)
levels_of l (b ∷ bs) h =
    let levels = gather b bs in
    let zero-first : b.exponent ≡ 0 = h.begins.0 in
    let steps : Steps b.exponent bs = rw zero-first h.begins.1 in
    let same : flat 0 (gather b bs) ≡ b ∷ bs = rw (← zero-first) (flat_gather b bs steps) in (
      gather b bs,
      same,
      canon_from l 0 (gather b bs) (rows_gather b bs)
          (λ x _. rw same (h.few x))
          (λ x _ lt. rw same (h.enough x (rw same at (high (gather b bs) (rows_gather b bs) x (omega arith))))),
    )
  where
    high : (levels : List (List ℕ)) → Rows levels → (x : ℕ) → suc x < length levels → x < top (flat 0 levels)
    high [] r x lt = absurd (omega arith)
    high (ss ∷ rest) r x lt = omega (arith, top-row_from 0 0 ss (flat 1 rest) r.0, top_rows 0 rest r.1)
