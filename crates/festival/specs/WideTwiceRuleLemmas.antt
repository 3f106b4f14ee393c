-- Lemmas for the terms of a counting rule: no weight is above 4, and above the last code point the answer is 0.
use Rattle.std.specs.Prelude.{◌≡◌, ℕ, ◌<◌, ◌≤◌, Bool, true, false, cond, ◌&&◌, List, [], ◌∷◌, nat_le, refl}
use Rattle.std.proofs.Common.{arith}
use Rattle.std.proofs.lemmas.Bool.{leb-true, lt-leb, and_parts, and_right, or_from}
use Rattle.festival.specs.Wide.{in_blocks}

pub at_most_two : (wide known : Bool) → cond wide 2 (cond known 1 0) ≤ 4
at_most_two wide known = grind arith

-- whether each block ends at a code point: a test that is computed over the whole table
abbrev pub known : List (ℕ × ℕ) → Bool
known [] = true
known (block ∷ blocks) = nat_le block.1 1114111 && known blocks

pub none_above : (c : ℕ) (blocks : List (ℕ × ℕ)) → 1114111 < c → known blocks ≡ true → in_blocks c blocks ≡ false
none_above c [] above h = refl
none_above c (block ∷ blocks) above h =
    let t = and_parts (nat_le block.1 1114111) (known blocks) h in
    or_from _ _ (and_right _ _ (lt-leb c block.1 (omega (arith, leb-true block.1 1114111 t.0)))) (none_above c blocks above t.1)
