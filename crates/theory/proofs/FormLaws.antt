-- Canonical levels, laid out, are formed buckets.
use Rattle.std.proofs.Common.{◌≡◌, ℕ, suc, ◌+◌, ◌<◌, ◌≤◌, cond, eqb, List, [], ◌∷◌, length, get_or, refl, ◌∙◌, arith, pow_pos}
use Rattle.std.proofs.lemmas.Bool.{cases_eq, cond-false, cond-true, eq-eqb, ne_eqb}
use Rattle.theory.proofs.BracketLaws.{falls_at}
use Rattle.theory.proofs.TopLaws.{top-flat, top-row_from}
use Rattle.theory.proofs.Views.{Begins, Below, Formed, Stands, Steps}
use Rattle.theory.specs.Arrivals.{Falling}
use Rattle.theory.specs.Buckets.{how_many, size, stamps, top}
use Rattle.theory.specs.Levels.{Canonical, flat, row}
use Rattle.theory.specs.declared.entries.Entry.{Entry}

-- stamps never rise

below_from : (us : List ℕ) → Falling us → (N t p q : ℕ) → p ≤ q → (bs : List Entry) → Stands N t us q bs → Below (get_or us p 0) (stamps bs)
below_from us f N t p q le [] h = tt
below_from us f N t p q le (b ∷ bs) h = (
  omega (arith, h.1, falls_at us f p q le (omega (arith, h.0, pow_pos b.exponent))),
  below_from us f N t p (q + size b) (omega arith) bs h.2,
)

pub stamps_fall : (us : List ℕ) → Falling us → (N t p : ℕ) (bs : List Entry) → Stands N t us p bs → Falling (stamps bs)
stamps_fall us f N t p [] h = tt
stamps_fall us f N t p (b ∷ bs) h = (
  rw h.1 at (below_from us f N t p (p + size b) (omega arith) bs h.2),
  stamps_fall us f N t (p + size b) bs h.2,
)

-- exponents

steps_row : (e : ℕ) (ss : List ℕ) (older : List Entry) → Steps e older → Steps e (row e ss older)
steps_row e [] older h = h
steps_row e (s ∷ ss) older h = (omega arith, omega arith, steps_row e ss older h)

steps_flat : (l e : ℕ) (rest : List (List ℕ)) → Canonical l rest → Steps e (flat (suc e) rest)
steps_flat l e [] c = tt
steps_flat l e ([] ∷ rest) c = absurd (omega arith)
steps_flat l e ((s ∷ ss) ∷ rest) c =
    (omega arith, omega arith, steps_row (suc e) ss (flat (suc (suc e)) rest) (steps_flat l (suc e) rest c.3))

begins_flat : (l : ℕ) (levels : List (List ℕ)) → Canonical l levels → Begins (flat 0 levels)
begins_flat l [] c = tt
begins_flat l ([] ∷ rest) c = absurd (omega arith)
begins_flat l ((s ∷ ss) ∷ rest) c = (refl, steps_row 0 ss (flat 1 rest) (steps_flat l 0 rest c.3))

-- how many of each exponent

pub one_same : (x e : ℕ) → x ≡ e → ◌≡◌ {A = ℕ} (cond (eqb x e) 1 0) 1
one_same x e h = cond-true (eqb x e) 1 0 (eq-eqb x e h)

pub one_other : (x e : ℕ) → (x ≡ e → ⊥) → ◌≡◌ {A = ℕ} (cond (eqb x e) 1 0) 0
one_other x e h = cond-false (eqb x e) 1 0 (ne_eqb x e h)

pub many_same : (e : ℕ) (ss : List ℕ) (older : List Entry) → how_many e (row e ss older) ≡ length ss + how_many e older
many_same e [] older = omega arith
many_same e (s ∷ ss) older = omega (arith, one_same e e refl, many_same e ss older)

pub many_other : (x e : ℕ) → (e ≡ x → ⊥) → (ss : List ℕ) (older : List Entry) → how_many x (row e ss older) ≡ how_many x older
many_other x e n [] older = refl
many_other x e n (s ∷ ss) older = omega (arith, one_other e x n, many_other x e n ss older)

pub many_low : (x e : ℕ) → x < e → (levels : List (List ℕ)) → how_many x (flat e levels) ≡ 0
many_low x e h [] = refl
many_low x e h (ss ∷ rest) = many_other x e (λ q. omega arith) ss (flat (suc e) rest) ∙ many_low x (suc e) (omega arith) rest

few_row : (l x e : ℕ) (ss : List ℕ) (rest : List (List ℕ)) → length ss ≤ l + 1 → how_many x (flat (suc e) rest) ≤ l + 1
    → how_many x (row e ss (flat (suc e) rest)) ≤ l + 1
few_row l x e ss rest h ih =
    let o = cases_eq e x in grind (arith, many_same e ss (flat (suc e) rest), many_low e (suc e) (omega arith) rest, many_other x e)

pub few_flat : (l x e : ℕ) (levels : List (List ℕ)) → Canonical l levels → how_many x (flat e levels) ≤ l + 1
few_flat l x e [] c = omega arith
few_flat l x e (ss ∷ rest) c = few_row l x e ss rest c.1 (few_flat l x (suc e) rest c.3)

enough_row : (l x e : ℕ) (ss next : List ℕ) (rest : List (List ℕ)) → l ≤ length ss
    → (suc e ≤ x → l ≤ how_many x (flat (suc e) (next ∷ rest))) → e ≤ x
    → l ≤ how_many x (row e ss (flat (suc e) (next ∷ rest)))
enough_row l x e ss next rest h ih le =
    let o = cases_eq e x in grind (arith, many_same e ss (flat (suc e) (next ∷ rest)), many_other x e)

enough_flat : (l x e : ℕ) (levels : List (List ℕ)) → Canonical l levels → e ≤ x → suc x < e + length levels → l ≤ how_many x (flat e levels)
enough_flat l x e [] c le lt = absurd (omega arith)
enough_flat l x e (ss ∷ []) c le lt = absurd (omega arith)
enough_flat l x e (ss ∷ (next ∷ rest)) c le lt =
    enough_row l x e ss next rest c.2 (λ h. enough_flat l x (suc e) (next ∷ rest) c.3 h (omega arith)) le

top_levels : (l : ℕ) (levels : List (List ℕ)) → Canonical l levels → (e : ℕ) → e < top (flat 0 levels) → suc e < length levels
top_levels l [] c e h = absurd (omega arith)
top_levels l (ss ∷ rest) c e h = omega (arith, top-row_from 0 0 ss (flat 1 rest) c.0, top-flat l 0 rest c.3)

pub formed_levels : (l : ℕ) (levels : List (List ℕ)) → Canonical l levels → Falling (stamps (flat 0 levels)) → Formed l (flat 0 levels)
formed_levels l levels c f = record {
  falling = f;
  begins = begins_flat l levels c;
  enough = λ e lt. enough_flat l e 0 levels c (omega arith) (omega (arith, top_levels l levels c e lt));
  few = λ e. few_flat l e 0 levels c;
}
