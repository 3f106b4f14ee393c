-- The sum of the sizes, by levels: how it grows, and how it bounds the number of levels.
use Rattle.std.proofs.Common.{◌≡◌, ℕ, zero, suc, ◌+◌, ◌-◌, ◌*◌, ◌^◌, ◌<◌, ◌≤◌, leb, ◌⊎◌, List, [], ◌∷◌, length, get_or, take, refl, ap, ◌∙◌, inl, inr, mul-le-mul_right, mul-le-mul_left, arith, pow_pos, pow_mono}
use native.Mathlib.Nat.{two-pow-succ}
use Rattle.std.proofs.lemmas.List.{length-take-le}
use Rattle.std.proofs.lemmas.Bool.{cases_lt, cond_both, leb-false}
use Rattle.theory.proofs.PushLaws.{all_canon}
use Rattle.theory.specs.Buckets.{oldest, total}
use Rattle.theory.specs.Levels.{Canonical, flat, push, push_all, row}
use Rattle.theory.specs.declared.entries.Entry.{Entry}

pub total-row : (e : ℕ) (ss : List ℕ) (older : List Entry) → total (row e ss older) ≡ length ss * 2 ^ e + total older
total-row e [] older = omega arith
total-row e (s ∷ ss) older = omega (arith, total-row e ss older)

total-push : (l e s : ℕ) (levels : List (List ℕ)) → Canonical l levels → total (flat e (push l s levels)) ≡ 2 ^ e + total (flat e levels)
total-push l e s [] c = refl
total-push l e s (ss ∷ rest) c =
    cond_both (leb (length ss) l) ((s ∷ ss) ∷ rest) (take l (s ∷ ss) ∷ push l (get_or (s ∷ ss) l 0) rest)
    (λ ls. total (flat e ls) ≡ 2 ^ e + total (flat e (ss ∷ rest)))
    (λ _. refl)
    (λ f.
    let n : length ss ≡ suc l = omega (arith, leb-false (length ss) l f, c.1) in
    let k : length (take l (s ∷ ss)) ≡ l = length-take-le l (s ∷ ss) (omega arith) in
    let ih = total-push l (suc e) (get_or (s ∷ ss) l 0) rest c.3 in
    let a = rw k at (total-row e (take l (s ∷ ss)) (flat (suc e) (push l (get_or (s ∷ ss) l 0) rest))) in
    let b = rw n at (total-row e ss (flat (suc e) rest)) in
    omega (arith, a, b, ih, two-pow-succ e))

pub all_total : (l : ℕ) → 1 ≤ l → (new : List ℕ) (levels : List (List ℕ)) → Canonical l levels
    → total (flat 0 (push_all l new levels)) ≡ length new + total (flat 0 levels)
all_total l h [] levels c = omega arith
all_total l h (s ∷ new) levels c = omega (arith, total-push l 0 s (push_all l new levels) (all_canon l h new levels c), all_total l h new levels c)

pub low_total : (l e : ℕ) (ss : List ℕ) (rest : List (List ℕ)) → Canonical l (ss ∷ rest)
    → (l + 1) * 2 ^ (e + length rest) ≤ total (flat e (ss ∷ rest)) + l * 2 ^ e
low_total l e ss [] c =
    let z : e + 0 ≡ e = omega arith in
    let m : 1 * 2 ^ e ≤ length ss * 2 ^ e = mul-le-mul_right (2 ^ e) c.0 in
    rw z (omega (arith, total-row e ss [], m))
low_total l e ss (next ∷ rest) c =
    let z : e + suc (length rest) ≡ suc e + length rest = omega arith in
    let m : l * 2 ^ e ≤ length ss * 2 ^ e = mul-le-mul_right (2 ^ e) c.2 in
    let ih = low_total l (suc e) next rest c.3 in
    let p : l * 2 ^ suc e ≡ l * 2 ^ e + l * 2 ^ e = rw (two-pow-succ e) (omega arith) in
    rw z (omega (arith, total-row e ss (flat (suc e) (next ∷ rest)), m, ih, p))

pub few_levels : (l r : ℕ) (levels : List (List ℕ)) → Canonical l levels → total (flat 0 levels) ≤ (l + 1) * (2 ^ (r + 1) - 1) → length levels ≤ r + 1
few_levels l r [] c h = omega arith
few_levels l r (ss ∷ rest) c h = go (cases_lt (length rest) (r + 1))
  where
    go : (length rest < r + 1) ⊎ (r + 1 ≤ length rest) → suc (length rest) ≤ r + 1
    go (inl lt) = lt
    go (inr le) =
        let z : 0 + length rest ≡ length rest = omega arith in
        let low = rw z at (low_total l 0 ss rest c) in
        absurd (big (2 ^ (r + 1)) (2 ^ length rest) (pow_pos (r + 1)) (pow_mono le) (total (flat 0 (ss ∷ rest))) h (omega (arith, low)))
      where
        big : (p q : ℕ) → 1 ≤ p → p ≤ q → (n : ℕ) → n ≤ (l + 1) * (p - 1) → (l + 1) * q ≤ n + l → ⊥
        big zero q a b n x y = omega arith
        big (suc p) q a b n x y =
            let e : suc p - 1 ≡ p = omega arith in
            let m : (l + 1) * suc p ≤ (l + 1) * q = mul-le-mul_left (l + 1) b in
            let x' : n ≤ (l + 1) * p = rw e at x in
            omega (arith, m, x', y)

-- totals from above
pub high_total : (l e : ℕ) (levels : List (List ℕ)) → Canonical l levels → total (flat e levels) + (l + 1) * 2 ^ e ≤ (l + 1) * 2 ^ (e + length levels)
high_total l e [] c = let z : e + 0 ≡ e = omega arith in rw z (omega arith)
high_total l e (ss ∷ rest) c =
    let z : e + suc (length rest) ≡ suc e + length rest = omega arith in
    let m : length ss * 2 ^ e ≤ (l + 1) * 2 ^ e = mul-le-mul_right (2 ^ e) c.1 in
    let p : (l + 1) * 2 ^ suc e ≡ (l + 1) * 2 ^ e + (l + 1) * 2 ^ e = rw (two-pow-succ e) (omega arith) in
    rw z (omega (arith, total-row e ss (flat (suc e) rest), m, p, high_total l (suc e) rest c.3))

-- the oldest is of the last level
pub last_row : (x e : ℕ) (ss : List ℕ) (older : List Entry) → 1 ≤ length ss → oldest x (row e ss older) ≡ oldest (2 ^ e) older
last_row x e [] older h = absurd (omega arith)
last_row x e (s ∷ []) older h = refl
last_row x e (s ∷ (r ∷ ss)) older h = last_row (2 ^ e) e (r ∷ ss) older (omega arith)

pub last_flat : (l e : ℕ) (rest : List (List ℕ)) → Canonical l rest → oldest (2 ^ e) (flat (suc e) rest) ≡ 2 ^ (e + length rest)
last_flat l e [] c = let z : e ≡ e + 0 = omega arith in ap (λ (k : ℕ). 2 ^ k) z
last_flat l e (ss ∷ rest) c =
    let z : suc e + length rest ≡ e + suc (length rest) = omega arith in
    last_row (2 ^ e) (suc e) ss (flat (suc (suc e)) rest) c.0 ∙ last_flat l (suc e) rest c.3 ∙ ap (λ (k : ℕ). 2 ^ k) z
