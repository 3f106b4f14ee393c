-- What the festival's rule weighs: a wide character 2, every other code point 1, and 0 above the last one.
use Rattle.std.specs.Prelude.{ℕ, Bool, false, cond, ◌&&◌, ◌||◌, List, [], ◌∷◌, nat_le}

-- the blocks of wide characters, each by its first and last code point
abbrev pub wide_blocks : List (ℕ × ℕ)
wide_blocks =
    (0x1100, 0x115F)
    ∷ (0x2E80, 0x303E)
    ∷ (0x3041, 0x33FF)
    ∷ (0x3400, 0x4DBF)
    ∷ (0x4E00, 0x9FFF)
    ∷ (0xA000, 0xA4CF)
    ∷ (0xAC00, 0xD7A3)
    ∷ (0xF900, 0xFAFF)
    ∷ (0xFE30, 0xFE4F)
    ∷ (0xFF01, 0xFF60)
    ∷ (0xFFE0, 0xFFE6)
    ∷ (0x20000, 0x3FFFD)
    ∷ []

-- whether one of the blocks holds c
abbrev pub in_blocks : ℕ → List (ℕ × ℕ) → Bool
in_blocks c [] = false
in_blocks c (block ∷ blocks) = (nat_le block.0 c && nat_le c block.1) || in_blocks c blocks

-- a character of one of the blocks weighs 2, and any other code point 1
abbrev pub wide_twice : ℕ → ℕ
wide_twice c = cond (in_blocks c wide_blocks) 2 (cond (nat_le c 1114111) 1 0)
