-- What a text holds, which texts pass, and what a text weighs under a rule.
use Rattle.std.specs.Prelude.{◌≡◌, ℕ, zero, suc, ◌<◌, ◌≤◌, Bool, true, false, cond, ◌&&◌, ◌||◌, ◌↔◌, List, [], ◌∷◌, ◌++◌, length, drop, Some, None, Ok, Err, sum_by, Option, Result, ◌==◌, nat_le, nat_lt}
use Rattle.std.specs.List.{AllByRecursion}
use Rattle.text.specs.Characters.{NoneBegins}
use Rattle.text.specs.Encoding.{Scalar, encode, encode_all, Spells}
use Rattle.text.specs.declared.faults.TextFault.{TextFault}
use Rattle.text.specs.declared.faults.TextFault.TheVariants.{TooLong, Malformed}

-- cs are the characters of s up to rest, and no character begins rest
pub record Reading (s cs rest : List ℕ) : Type 0 where
  pub scalars : AllByRecursion Scalar cs
  pub split : s ≡ encode_all cs ++ rest
  pub stops : NoneBegins rest

-- a text has one reading: one list of characters, and one rest
abbrev pub OneReading : Type 0
OneReading = (s cs rest ds other : List ℕ) → Reading s cs rest → Reading s ds other → (cs ≡ ds) × (rest ≡ other)

-- a well-formed text is spelled by one list of characters
abbrev pub OneSpelling : Type 0
OneSpelling = (s cs ds : List ℕ) → Spells cs s → Spells ds s → cs ≡ ds

-- the text s weighs v, where a character c weighs w c: the sum over its characters
abbrev pub Weighs : (ℕ → ℕ) → List ℕ → ℕ → Type 0
Weighs w s v = (cs : List ℕ) × Spells cs s × (v ≡ sum_by w cs)

-- the first character of s that fails begins at the byte `at`: s splits into encodings up to there, and no scalar value's encoding begins the rest
abbrev pub FailsAt : List ℕ → ℕ → Type 0
FailsAt s at = (cs : List ℕ) × (rest : List ℕ) × Reading s cs rest × (0 < length rest) × (at ≡ length (encode_all cs))

-- what is answered of the text s: a value that Value allows, or the one refusal whose cause holds, its length first
pub record Answered {T : Type 0} (Value : T → Type 0) (s : List ℕ) (r : Result T TextFault) : Type 0 where
  pub accepts : (v : T) → (r ≡ Ok v) ↔ ((length s ≤ 240) × Value v)
  pub too_long : (r ≡ Err TooLong) ↔ (240 < length s)
  pub malformed : (at : ℕ) → (r ≡ Err (Malformed at)) ↔ ((length s ≤ 240) × FailsAt s at)

-- whether s begins with p
abbrev pub starts_with : List ℕ → List ℕ → Bool
starts_with [] s = true
starts_with (b ∷ p) [] = false
starts_with (b ∷ p) (x ∷ s) = b == x && starts_with p s

-- whether c is a scalar value
abbrev pub is_scalar : ℕ → Bool
is_scalar c = nat_le c 0x10FFFF && (nat_lt c 0xD800 || nat_lt 0xDFFF c)

-- the scalar value below n whose encoding begins s
unfoldable pub first_below : ℕ → List ℕ → Option ℕ
first_below zero s = None
first_below (suc n) s = cond (is_scalar n && starts_with (encode n) s) (Some n) (first_below n s)

-- the character that begins s, found among all code points by its encoding
unfoldable pub first_character : List ℕ → Option ℕ
first_character s = first_below 0x110000 s

-- the characters of s, n at most, as long as one begins what is left
unfoldable pub characters_up_to : ℕ → List ℕ → List ℕ
characters_up_to zero s = []
characters_up_to (suc n) s = elim (first_character s) [ Some c ↦ c ∷ characters_up_to n (drop (length (encode c)) s) | None ↦ [] ]

-- the characters of s, of which it has no more than bytes
unfoldable pub characters : List ℕ → List ℕ
characters s = characters_up_to (length s) s

-- the weight of s, or why it is refused: it is too long, or its characters end before it does
unfoldable pub weighed : (ℕ → ℕ) → List ℕ → Result ℕ TextFault
weighed w s =
    cond (nat_lt 240 (length s)) (Err TooLong)
    (cond (length (encode_all (characters s)) == length s) (Ok (sum_by w (characters s))) (Err (Malformed (length (encode_all (characters s))))))
