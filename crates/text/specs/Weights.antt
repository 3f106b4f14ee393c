-- What the supplied counting rules weigh: the weight of each code point from 0 to 1,114,111, and 0 above.
use Rattle.std.specs.Prelude.{ℕ, Bool, cond, ◌||◌, ◌==◌, nat_le}

-- the weight w where c is a code point, and 0 where it is above the last one
abbrev pub code_point_weight : ℕ → ℕ → ℕ
code_point_weight c w = cond (nat_le c 1114111) w 0

-- the blank-counting rule: every code point weighs 1
abbrev pub blank_counting : ℕ → ℕ
blank_counting c = code_point_weight c 1

-- the blanks: space, no-break space and tab
abbrev pub blank : ℕ → Bool
blank c = c == 0x20 || (c == 0xA0 || c == 0x09)

-- the blank-free rule: a blank weighs 0 and every other code point 1
abbrev pub blank_free : ℕ → ℕ
blank_free c = code_point_weight c (cond (blank c) 0 1)
