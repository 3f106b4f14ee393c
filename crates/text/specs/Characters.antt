-- Reading one character: which scalar value's encoding a text begins with.
use Rattle.std.specs.Prelude.{◌≡◌, ℕ, ◌+◌, ◌<◌, ◌⊎◌, ◌↔◌, List, ◌++◌, length, Ok, Err, Result}
use Rattle.text.specs.Encoding.{Scalar, encode}
use Rattle.text.specs.declared.faults.TextFault.{TextFault}
use Rattle.text.specs.declared.faults.TextFault.TheVariants.{Malformed}

-- s begins with the encoding of the scalar value c
abbrev pub Begins : List ℕ → ℕ → Type 0
Begins s c = Scalar c × ((rest : List ℕ) × (s ≡ encode c ++ rest))

-- no scalar value's encoding begins s
abbrev pub NoneBegins : List ℕ → Type 0
NoneBegins s = (c : ℕ) → Begins s c → ⊥

-- the six bits that a byte carries behind its mark, and the bytes that lack the mark
abbrev pub LaterBits : ℕ → Result ℕ TextFault → Type 0
LaterBits byte (Ok bits) = (bits < 64) × (byte ≡ 0x80 + bits)
LaterBits byte (Err fault) = (fault ≡ Malformed 0) × ((byte < 0x80) ⊎ (0xBF < byte))

-- what reading answers, by its cases
abbrev pub Reads : List ℕ → Result (ℕ × ℕ) TextFault → Type 0
Reads s (Ok p) = Begins s p.0 × (p.1 ≡ length (encode p.0))
Reads s (Err fault) = (fault ≡ Malformed 0) × NoneBegins s

-- the same as equivalences: (c, n) is answered exactly where c's encoding begins s and has n bytes, and s is refused exactly where no encoding begins it
pub record ReadsExactly (s : List ℕ) (r : Result (ℕ × ℕ) TextFault) : Type 0 where
  pub answers : (c n : ℕ) → (r ≡ Ok (c, n)) ↔ (Begins s c × (n ≡ length (encode c)))
  pub refuses : (r ≡ Err (Malformed 0)) ↔ NoneBegins s

-- no encoding begins another: a text begins with one character at most
abbrev pub OneBegins : Type 0
OneBegins = (s : List ℕ) (c d : ℕ) → Begins s c → Begins s d → c ≡ d
