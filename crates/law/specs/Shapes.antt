-- Which shapes there are, and how their tracks share a slab.
use Rattle.std.specs.Prelude.{◌≡◌, ℕ, ◌*◌, ◌≤◌, Ok, Err, Result}
use Rattle.law.specs.declared.shapes.ShapeFault.{ShapeFault}
use Rattle.law.specs.declared.shapes.ShapeFault.TheVariants.{Tracks, Stretch, Rate}
use Rattle.law.specs.declared.shapes.Shape.{Shape}

-- x is from a to b
abbrev pub From : (a b x : ℕ) → Type 0
From a b x = (a ≤ x) × (x ≤ b)

-- the shape of n, p and F; or the first cause why there is none
abbrev pub Made : (n p F : ℕ) → Result Shape ShapeFault → Type 0
Made n p F (Ok s) = (s.tracks ≡ n) × (s.stretch ≡ p) × (s.rate ≡ F) × From 1 16 n × From 3 460 p × From 1 1000 F
Made n p F (Err (Tracks tracks)) = (tracks ≡ n) × (From 1 16 n → ⊥)
Made n p F (Err (Stretch stretch)) = (stretch ≡ p) × From 1 16 n × (From 3 460 p → ⊥)
Made n p F (Err (Rate rate)) = (rate ≡ F) × From 1 16 n × From 3 460 p × (From 1 1000 F → ⊥)

-- how many entries a slab has: n × p
abbrev pub entries : Shape → ℕ
entries s = s.tracks * s.stretch

-- the number of a refusal
abbrev pub shape_fault_number : ShapeFault → ℕ
shape_fault_number (Tracks tracks) = 1
shape_fault_number (Stretch stretch) = 2
shape_fault_number (Rate rate) = 3
