-- The largest exponent that the tests of an opening name is the largest.
use Rattle.std.proofs.Common.{◌≡◌, ℕ, zero, suc, ◌-◌, ◌*◌, ◌^◌, ◌<◌, ◌≤◌, mul-le-mul_right, arith}
use native.Mathlib.Nat.{two-pow-succ}
use Rattle.law.specs.Tracks.{largest, largest_up_to}
use Rattle.std.proofs.lemmas.Bool.Decides.{nat_tests}
use Rattle.theory.specs.Arrivals.{Largest}

less_pow : (q : ℕ) → q < 2 ^ q
less_pow zero = omega arith
less_pow (suc q) = omega (arith, less_pow q, two-pow-succ q)

-- up to the limit it is the largest
up_to_last : (n l m q : ℕ) → q ≤ n → l * (2 ^ q - 1) < m → q ≤ largest_up_to n l m
unfolding largest_up_to
up_to_last zero l m q h k = h
up_to_last (suc n) l m q h k = grind (arith, nat_tests, up_to_last n l m q)

-- and one of those below
up_to_below : (n l m : ℕ) → 1 ≤ m → l * (2 ^ largest_up_to n l m - 1) < m
unfolding largest_up_to
up_to_below zero l m one = omega arith
up_to_below (suc n) l m one = grind (arith, nat_tests, up_to_below n l m one)

pub largest_is : (l m : ℕ) → 1 ≤ l → 1 ≤ m → Largest l m (largest l m)
unfolding largest
largest_is l m one some =
    record {
      below = up_to_below m l m some;
      last = λ q h. up_to_last m l m q (omega (arith, less_pow q, mul-le-mul_right (2 ^ q - 1) one)) h;
    }

-- there is one largest
pub largest_one : (l m q : ℕ) → 1 ≤ l → Largest l m q → q ≡ largest l m
largest_one l m q one h =
    let is : Largest l m (largest l m) = largest_is l m one (omega (arith, h.below)) in
    omega (arith, is.last q h.below, h.last (largest l m) is.below)
