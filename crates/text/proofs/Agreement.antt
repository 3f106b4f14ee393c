-- The encoding of RFC 3629's table and the one of the language's library are the same.
use Rattle.std.proofs.Common.{◌≡◌, ℕ, ◌+◌, ◌/◌, ◌<◌, ◌≤◌, true, ◌↔◌, List, [], ◌∷◌, ◌++◌, sym, refl, ◌∙◌, inl, inr, ⊎_elim, arith}
use lib.Utf8 as library
use Rattle.std.proofs.lemmas.Bool.{cases_lt, and_parts, and_from}
use Rattle.std.proofs.lemmas.Str.{encode_ascii}
use Rattle.std.proofs.lemmas.Bool.Decides.{nat_tests}
use Rattle.std.specs.List.{AllByRecursion}
use Rattle.text.specs.Encoding.{Scalar, later, encode, encode_all, Agrees}
use Rattle.text.proofs.EncodingLaws.{encode_one, encode_two, encode_three, encode_four}

scalar_agrees : (c : ℕ) → Scalar c ↔ (library.scalar c ≡ true)
scalar_agrees c = (λ h. grind (arith, nat_tests), λ h. ⊎_elim (λ low. (omega arith, inl low)) (λ high. (omega arith, inr (omega arith))) (library.scalar_cases c h))

-- the library divides at once where the table's bits are taken six by six
library_two : (c : ℕ) → 0x7F < c → c ≤ 0x7FF → library.encode c ≡ (0b1100_0000 + c / 64) ∷ later c ∷ []
unfolding library.encode
library_two c g h = grind (arith, nat_tests)

library_three : (c : ℕ) → 0x7FF < c → c ≤ 0xFFFF → library.encode c ≡ (0b1110_0000 + c / 64 / 64) ∷ later (c / 64) ∷ later c ∷ []
unfolding library.encode
library_three c g h = let q : c / 4096 ≡ c / 64 / 64 = omega arith in grind (arith, nat_tests)

library_four : (c : ℕ) → 0xFFFF < c → library.encode c ≡ (0b1111_0000 + c / 64 / 64 / 64) ∷ later (c / 64 / 64) ∷ later (c / 64) ∷ later c ∷ []
unfolding library.encode
library_four c g =
    let q : c / 4096 ≡ c / 64 / 64 = omega arith in
    let p : c / 262144 ≡ c / 64 / 64 / 64 = omega arith in
    grind (arith, nat_tests)

encode_agrees : (c : ℕ) → encode c ≡ library.encode c
encode_agrees c =
    ⊎_elim (λ g. ⊎_elim (λ g2. ⊎_elim (λ g3. encode_four c g3 ∙ sym (library_four c g3))
    (λ h. encode_three c g2 h ∙ sym (library_three c g2 h)) (cases_lt 0xFFFF c))
    (λ h. encode_two c g h ∙ sym (library_two c g h)) (cases_lt 0x7FF c))
    (λ h. encode_one c h ∙ sym (encode_ascii c (omega arith))) (cases_lt 0x7F c)

scalars_agree : (cs : List ℕ) → AllByRecursion Scalar cs ↔ (library.scalars cs ≡ true)
scalars_agree [] = (λ _. refl, λ _. tt)
scalars_agree (c ∷ cs) = (
  λ h. and_from _ _ ((scalar_agrees c).0 h.0) ((scalars_agree cs).0 h.1),
  λ h. let p = and_parts (library.scalar c) (library.scalars cs) h in ((scalar_agrees c).1 p.0, (scalars_agree cs).1 p.1),
)

encodings_agree : (cs : List ℕ) → encode_all cs ≡ library.encodes cs
encodings_agree [] = refl
encodings_agree (c ∷ cs) = λ i. encode_agrees c i ++ encodings_agree cs i

pub agrees : Agrees
agrees = (
  scalar_agrees,
  encode_agrees,
  λ bs. (
    λ w. (w.0, ((scalars_agree w.0).0 w.1.0, sym (encodings_agree w.0) ∙ w.1.1)),
    λ w. (w.0, ((scalars_agree w.0).1 w.1.0, encodings_agree w.0 ∙ w.1.1)),
  ),
)
