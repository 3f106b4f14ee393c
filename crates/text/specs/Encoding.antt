-- UTF-8 from the encoder's side, as RFC 3629 has it: which numbers are characters, and the bytes of each.
use Rattle.std.specs.Prelude.{◌≡◌, ℕ, ◌+◌, ◌/◌, ◌%◌, ◌<◌, ◌≤◌, true, cond, ◌⊎◌, ◌↔◌, List, [], ◌∷◌, IsUtf8, nat_le}
use Rattle.std.proofs.Math.Utf8 as library
use Rattle.std.specs.List.{flat_map, AllByRecursion}

-- a scalar value: a code point that is no surrogate
abbrev pub Scalar : ℕ → Type 0
Scalar c = (c ≤ 0x10FFFF) × ((c < 0xD800) ⊎ (0xDFFF < c))

-- a later byte of a sequence: the bits 10, and then the six lowest of the bits
abbrev pub later : ℕ → ℕ
later bits = 0b1000_0000 + bits % 64

-- the table of section 3: each row has the code points of the left column, and the bytes of the right one
abbrev pub encode : ℕ → List ℕ
encode c =
    cond (nat_le c 0x7F) (c ∷ [])
    (cond (nat_le c 0x7FF) ((0b1100_0000 + c / 64) ∷ later c ∷ [])
    (cond (nat_le c 0xFFFF) ((0b1110_0000 + c / 64 / 64) ∷ later (c / 64) ∷ later c ∷ [])
    ((0b1111_0000 + c / 64 / 64 / 64) ∷ later (c / 64 / 64) ∷ later (c / 64) ∷ later c ∷ [])))

-- the encodings of a list of characters, one after another
abbrev pub encode_all : List ℕ → List ℕ
encode_all cs = flat_map encode cs

-- bs is the concatenation of the encodings of the scalar values cs
abbrev pub Spells : List ℕ → List ℕ → Type 0
Spells cs bs = AllByRecursion Scalar cs × (encode_all cs ≡ bs)

-- bs is well formed: some list of scalar values spells it
abbrev pub WellFormed : List ℕ → Type 0
WellFormed bs = (cs : List ℕ) × Spells cs bs

-- two authors agree: the language's own library has the same scalar values, the same bytes for each, and the same well-formed texts
abbrev pub Agrees : Type 0
Agrees =
    ((c : ℕ) → Scalar c ↔ (library.scalar c ≡ true))
    × ((c : ℕ) → encode c ≡ library.encode c)
    × ((bs : List ℕ) → WellFormed bs ↔ IsUtf8 bs)
