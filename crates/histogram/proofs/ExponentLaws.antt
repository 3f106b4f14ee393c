-- The largest exponent, from the leading zeros of a quotient.
use Rattle.std.proofs.Common.{◌≡◌, ℕ, suc, ◌+◌, ◌-◌, ◌*◌, ◌/◌, ◌^◌, ◌<◌, ◌≤◌, ◌⊎◌, sym, subst, inl, inr, mul-le-mul_right, mul_comm, div-lt_iff_lt-mul, mul-le-mul_left, le-div_iff_mul-le, div-le_self, add-one, arith, pow_mono}
use lib.Count.{leading_top, count_leading_zeros}
use Rattle.std.proofs.lemmas.Bool.{cases_lt}
use Rattle.theory.specs.Arrivals.{Largest}

-- r, where l × (2^r − 1) is below m and l × (2^(r + 1) − 1) is not
pub largest-between : (l m r : ℕ) → l * (2 ^ r - 1) < m → m ≤ l * (2 ^ (r + 1) - 1) → Largest l m r
largest-between l m r low high = record { below = low; last = λ s h. at_most s h (cases_lt r s) }
  where
    at_most : (s : ℕ) → l * (2 ^ s - 1) < m → (r < s) ⊎ (s ≤ r) → s ≤ r
    at_most s h (inr le) = le
    at_most s h (inl lt) =
        let k : r + 1 ≤ s = omega arith in
        let p : 2 ^ (r + 1) ≤ 2 ^ s = pow_mono k in
        let d : 2 ^ (r + 1) - 1 ≤ 2 ^ s - 1 = omega (arith, p) in
        absurd (omega (arith, h, high, mul-le-mul_left l d))

-- the two sides of it, at the place of the quotient's highest bit
pub record Sides (m l r : ℕ) : Type 0 where
  pub low : l * (2 ^ r - 1) < m
  pub high : m ≤ l * (2 ^ (r + 1) - 1)

pub sides : (m l : ℕ) → 1 ≤ l → 1 ≤ m → m < 2 ^ 64 → Sides m l (63 - count_leading_zeros 64 ((m - 1) / l + 1))
sides m l hl hm hb =
    let q : ℕ = (m - 1) / l in
    let small : q ≤ m - 1 = div-le_self (m - 1) l in
    let top = leading_top 64 ((m - 1) / l + 1) (omega arith) (omega arith) in
    let j : ℕ = top.0 in
    let lowq : 2 ^ j - 1 ≤ (m - 1) / l = omega (arith, top.2) in
    let below : (2 ^ j - 1) * l ≤ m - 1 = (le-div_iff_mul-le hl).0 lowq in
    let highq : (m - 1) / l < 2 ^ suc j - 1 = omega (arith, top.3) in
    let above : m - 1 < (2 ^ suc j - 1) * l = (div-lt_iff_lt-mul hl).0 highq in
    let is : 63 - count_leading_zeros 64 ((m - 1) / l + 1) ≡ j = omega (arith, top.1) in
    subst (Sides m l) (sym is) (record {
      low = omega (arith, below, mul_comm l (2 ^ j - 1));
      high = subst (λ (k : ℕ). m ≤ l * (2 ^ k - 1)) (sym (add-one j)) (omega (arith, above, mul_comm l (2 ^ suc j - 1)));
    })

-- the settings' arrivals need no exponent above 30
pub at_most_30 : (l m r : ℕ) → 1 ≤ l → m ≤ 2 ^ 30 → l * (2 ^ r - 1) < m → r ≤ 30
at_most_30 l m r one h lt = go (cases_lt 30 r)
  where
    go : (30 < r) ⊎ (r ≤ 30) → r ≤ 30
    go (inr le) = le
    go (inl big) =
        let k : 31 ≤ r = omega arith in
        let p : 2 ^ 31 ≤ 2 ^ r = pow_mono k in
        let d : 2 ^ 30 ≤ 2 ^ r - 1 = omega (arith, p) in
        absurd (omega (arith, lt, h, mul-le-mul_right (2 ^ r - 1) one))
