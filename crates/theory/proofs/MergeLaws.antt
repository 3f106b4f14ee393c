-- Merging upward over the list of buckets is the push into the levels.
use Rattle.std.proofs.Common.{◌≡◌, ℕ, zero, suc, ◌+◌, ◌<◌, ◌≤◌, max, leb, ◌⊎◌, List, [], ◌∷◌, ◌++◌, length, get_or, take, sym, refl, ap, ◌∙◌, inl, inr, append_assoc, arith}
use Rattle.std.proofs.lemmas.Bool.{cases_eq, cond_both, eq-eqb, leb-false, leb-true, ne_eqb}
use Rattle.theory.proofs.FormLaws.{few_flat, many_low, many_other, many_same, one_other}
use Rattle.std.proofs.ByRecursion.{All-append, All-weaker}
use Rattle.std.specs.List.{AllByRecursion}
use Rattle.theory.proofs.TopLaws.{length-row, row_small}
use Rattle.theory.proofs.Views.{Below}
use Rattle.theory.specs.Arrivals.{Falling}
use Rattle.theory.specs.Buckets.{how_many, insert, merge_at, merge_up, stamps}
use Rattle.theory.specs.Levels.{Canonical, flat, push, row}
use Rattle.theory.specs.declared.entries.Entry.{Entry}

-- all exponents below e
abbrev Under : ℕ → List Entry → Type 0
Under e bs = AllByRecursion (λ b. b.exponent < e) bs

under_more : (e : ℕ) (bs : List Entry) → Under e bs → Under (suc e) bs
under_more e bs h = All-weaker (λ b. b.exponent < e) (λ b. b.exponent < suc e) (λ b q. omega arith) bs h

pub row-append : (e : ℕ) (ss : List ℕ) (older : List Entry) → row e ss older ≡ row e ss [] ++ older
row-append e [] older = refl
row-append e (s ∷ ss) older = ap {B = List Entry} (λ r. record { stamp = s; exponent = e } ∷ r) (row-append e ss older)

many_under : (x e : ℕ) → e ≤ x → (pre bs : List Entry) → Under e pre → how_many x (pre ++ bs) ≡ how_many x bs
many_under x e h [] bs u = refl
many_under x e h (b ∷ pre) bs u = omega (arith, one_other b.exponent x (λ q. omega (arith, u.0)), many_under x e h pre bs u.1)

idle : (n l e : ℕ) (bs : List Entry) → ((x : ℕ) → e ≤ x → how_many x bs ≤ l + 1) → merge_up n l e bs ≡ bs
idle zero l e bs h = refl
idle (suc n) l e bs h =
    rw (ne_eqb (how_many e bs) (l + 2) (λ q. omega (arith, h e (omega arith)))) (idle n l (suc e) bs (λ x le. h x (omega arith)))

merge_under : (e : ℕ) (pre bs : List Entry) → Under e pre → merge_at e (pre ++ bs) ≡ pre ++ merge_at e bs
merge_under e [] bs u = refl
merge_under e (b ∷ pre) bs u = rw (ne_eqb b.exponent e (λ q. omega (arith, u.0)), merge_under e pre bs u.1) refl

merge_row : (l e : ℕ) (ss : List ℕ) (older : List Entry) → length ss ≡ suc (suc l) → how_many e older ≡ 0 → Falling (stamps (row e ss older))
    → merge_at e (row e ss older) ≡ row e (take l ss) (record { stamp = get_or ss l 0; exponent = suc e } ∷ older)
merge_row l e [] older h z f = absurd (omega arith)
merge_row zero e (x ∷ []) older h z f = absurd (omega arith)
merge_row zero e (x ∷ (y ∷ [])) older h z f =
    let later : max x y ≡ x = omega (arith, f.0.0) in
    rw (eq-eqb e e refl, z, later) refl
merge_row zero e (x ∷ (y ∷ (w ∷ ss))) older h z f = absurd (omega arith)
merge_row (suc l) e (x ∷ ss) older h z f =
    rw (
      eq-eqb e e refl,
      ne_eqb (how_many e (row e ss older)) 1 (λ q. omega (arith, many_same e ss older)),
      merge_row l e ss older (omega arith) z f.1,
    ) refl

below_row : (s e : ℕ) (ss : List ℕ) (older : List Entry) → Below s (stamps (row e ss older)) → Below s (stamps older)
below_row s e [] older b = b
below_row s e (r ∷ ss) older b = below_row s e ss older b.1

fall_row : (e : ℕ) (ss : List ℕ) (older : List Entry) → Falling (stamps (row e ss older)) → Falling (stamps older)
fall_row e [] older f = f
fall_row e (s ∷ ss) older f = fall_row e ss older f.1

fall_carry : (l e : ℕ) (ss : List ℕ) (older : List Entry) → l < length ss → Falling (stamps (row e ss older)) → Falling (get_or ss l 0 ∷ stamps older)
fall_carry l e [] older h f = absurd (omega arith)
fall_carry zero e (s ∷ ss) older h f = (below_row s e ss older f.0, fall_row e ss older f.1)
fall_carry (suc l) e (s ∷ ss) older h f = fall_carry l e ss older (omega arith) f.1

abbrev Carried : (l n e s : ℕ) (levels : List (List ℕ)) → Type 0
Carried l n e s levels = (pre : List Entry) → Under e pre → Canonical l levels → length levels < n
    → Falling (s ∷ stamps (flat e levels))
    → merge_up n l e (pre ++ (record { stamp = s; exponent = e } ∷ flat e levels)) ≡ pre ++ flat e (push l s levels)

carry_fits : (l n e s : ℕ) (ss : List ℕ) (rest : List (List ℕ)) (pre : List Entry) → Under e pre → Canonical l rest → length ss ≤ l
    → merge_up n l e (pre ++ row e (s ∷ ss) (flat (suc e) rest)) ≡ pre ++ row e (s ∷ ss) (flat (suc e) rest)
carry_fits l n e s ss rest pre u c h = idle n l e (pre ++ row e (s ∷ ss) (flat (suc e) rest)) (λ x le. each x le (cases_eq e x))
  where
    each : (x : ℕ) → e ≤ x → (e ≡ x) ⊎ (e ≡ x → ⊥) → how_many x (pre ++ row e (s ∷ ss) (flat (suc e) rest)) ≤ l + 1
    each x le (inl q) =
        rw (← q) (omega (
          arith,
          many_under e e (omega arith) pre (row e (s ∷ ss) (flat (suc e) rest)) u,
          many_same e (s ∷ ss) (flat (suc e) rest),
          many_low e (suc e) (omega arith) rest,
        ))
    each x le (inr d) =
        omega (
          arith,
          many_under x e le pre (row e (s ∷ ss) (flat (suc e) rest)) u,
          many_other x e d (s ∷ ss) (flat (suc e) rest),
          few_flat l x (suc e) rest c,
        )

carry_full : (l n e s : ℕ) (ss : List ℕ) (rest : List (List ℕ)) → Carried l n (suc e) (get_or (s ∷ ss) l 0) rest
    → (pre : List Entry) → Under e pre → Canonical l rest → length ss ≡ suc l → length rest < n
    → Falling (stamps (row e (s ∷ ss) (flat (suc e) rest)))
    → merge_up (suc n) l e (pre ++ row e (s ∷ ss) (flat (suc e) rest))
    ≡ pre ++ row e (take l (s ∷ ss)) (flat (suc e) (push l (get_or (s ∷ ss) l 0) rest))
carry_full l n e s ss rest ih pre u c h fuel f =
    let older : List Entry = flat (suc e) rest in
    let here : List Entry = pre ++ row e (s ∷ ss) (flat (suc e) rest) in
    let up : Entry = record { stamp = get_or (s ∷ ss) l 0; exponent = suc e } in
    let stays : List Entry = row e (take l (s ∷ ss)) [] in
    let many : how_many e here ≡ l + 2 =
    omega (arith, many_under e e (omega arith) pre (row e (s ∷ ss) older) u, many_same e (s ∷ ss) older, many_low e (suc e) (omega arith) rest) in
    let merged : merge_at e here ≡ (pre ++ stays) ++ (up ∷ older) =
    rw (
      merge_under e pre (row e (s ∷ ss) older) u,
      merge_row l e (s ∷ ss) older (omega arith) (many_low e (suc e) (omega arith) rest) f,
      row-append e (take l (s ∷ ss)) (up ∷ older),
      append_assoc pre stays (up ∷ older),
    ) refl in
    rw (eq-eqb (how_many e here) (l + 2) many, merged)
    (ih (pre ++ stays) (All-append (λ b. b.exponent < suc e) pre stays (under_more e pre u) (row_small (suc e) e (omega arith) (take l (s ∷ ss)) [] tt)) c fuel
    (fall_carry l e (s ∷ ss) older (omega arith) f)
    ∙ append_assoc pre stays (flat (suc e) (push l (get_or (s ∷ ss) l 0) rest))
    ∙ ap (λ r. pre ++ r) (sym (row-append e (take l (s ∷ ss)) (flat (suc e) (push l (get_or (s ∷ ss) l 0) rest)))))

pub carried : (l n e s : ℕ) (levels : List (List ℕ)) → Carried l n e s levels
carried l zero e s levels = λ pre u c fuel f. absurd (omega arith)
carried l (suc n) e s [] = λ pre u c fuel f. carry_fits l (suc n) e s [] [] pre u tt (omega arith)
carried l (suc n) e s (ss ∷ rest) = λ pre u c fuel f.
    cond_both (leb (length ss) l) ((s ∷ ss) ∷ rest) (take l (s ∷ ss) ∷ push l (get_or (s ∷ ss) l 0) rest)
    (λ ls. merge_up (suc n) l e (pre ++ row e (s ∷ ss) (flat (suc e) rest)) ≡ pre ++ flat e ls)
    (λ q. carry_fits l (suc n) e s ss rest pre u c.3 (leb-true (length ss) l q))
    (λ q. carry_full l n e s ss rest (carried l n (suc e) (get_or (s ∷ ss) l 0) rest) pre u c.3
    (omega (arith, leb-false (length ss) l q)) (omega arith) f)

levels_le : (l e : ℕ) (levels : List (List ℕ)) → Canonical l levels → length levels ≤ length (flat e levels)
levels_le l e [] c = omega arith
levels_le l e (ss ∷ rest) c = omega (arith, length-row e ss (flat (suc e) rest), levels_le l (suc e) rest c.3)

pub push-insert : (l t : ℕ) (levels : List (List ℕ)) → Canonical l levels → Falling (t ∷ stamps (flat 0 levels))
    → insert l t (flat 0 levels) ≡ flat 0 (push l t levels)
push-insert l t levels c f = carried l (length (flat 0 levels) + 1) 0 t levels [] tt c (omega (arith, levels_le l 0 levels c)) f
