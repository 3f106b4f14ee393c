-- How many buckets there are, and how large the oldest is.
use Rattle.std.proofs.Common.{◌≡◌, ℕ, zero, suc, ◌+◌, ◌-◌, ◌*◌, ◌^◌, ◌<◌, ◌≤◌, List, [], ◌∷◌, length, refl, ◌∙◌, arith, pow_pos}
use Rattle.std.specs.List.{AllByRecursion}
use Rattle.theory.proofs.BracketLaws.{Wide, wide_flat}
use Rattle.theory.proofs.Views.{Stands}
use Rattle.theory.specs.Buckets.{size, top, top_from}
use Rattle.theory.specs.Levels.{Canonical, flat, row}
use Rattle.theory.specs.declared.entries.Entry.{Entry}

pub length-row : (e : ℕ) (ss : List ℕ) (older : List Entry) → length (row e ss older) ≡ length ss + length older
length-row e [] older = omega arith
length-row e (s ∷ ss) older = omega (arith, length-row e ss older)

pub length-flat : (l e : ℕ) (levels : List (List ℕ)) → Canonical l levels → length (flat e levels) ≤ (l + 1) * length levels
length-flat l e [] c = omega arith
length-flat l e (ss ∷ rest) c = omega (arith, length-row e ss (flat (suc e) rest), length-flat l (suc e) rest c.3)

pub row_small : (m e : ℕ) → e < m → (ss : List ℕ) (older : List Entry) → AllByRecursion (λ x. x.exponent < m) older → AllByRecursion (λ x. x.exponent < m) (row e ss older)
row_small m e h [] older o = o
row_small m e h (s ∷ ss) older o = (h, row_small m e h ss older o)

top-row : (e : ℕ) (ss : List ℕ) (older : List Entry) → top_from e (row e ss older) ≡ top_from e older
top-row e [] older = refl
top-row e (s ∷ ss) older = top-row e ss older

pub top-row_from : (x e : ℕ) (ss : List ℕ) (older : List Entry) → 1 ≤ length ss → top_from x (row e ss older) ≡ top_from e older
top-row_from x e [] older h = absurd (omega arith)
top-row_from x e (s ∷ ss) older h = top-row e ss older

pub top-flat : (l e : ℕ) (rest : List (List ℕ)) → Canonical l rest → top_from e (flat (suc e) rest) ≡ e + length rest
top-flat l e [] c = omega arith
top-flat l e (ss ∷ rest) c =
    omega (arith, top-row_from e (suc e) ss (flat (suc (suc e)) rest) c.0, top-flat l (suc e) rest c.3)

top_arrivals : (l N t : ℕ) (us : List ℕ) (p : ℕ) (x : ℕ) (bs : List Entry) → Wide l p bs → Stands N t us p bs
    → l * 2 ^ x < length us + l → l * 2 ^ top_from x bs < length us + l
top_arrivals l N t us p x [] w h k = k
top_arrivals l N t us p x (b ∷ bs) w h k =
    top_arrivals l N t us (p + size b) b.exponent bs w.1 h.2 (omega (arith, w.0, h.0, pow_pos b.exponent))

less_one : (l c n : ℕ) → 1 ≤ c → l * c < n + l → l * (c - 1) < n
less_one l zero n h k = absurd (omega arith)
less_one l (suc c) n h k = let e : suc c - 1 ≡ c = omega arith in rw e (omega arith)

pub count_bound : (l N t : ℕ) (us : List ℕ) (ss : List ℕ) (rest : List (List ℕ)) → Canonical l (ss ∷ rest)
    → Stands N t us 0 (flat 0 (ss ∷ rest))
    → (length (flat 0 (ss ∷ rest)) ≤ (l + 1) * (top (flat 0 (ss ∷ rest)) + 1))
    × (l * (2 ^ top (flat 0 (ss ∷ rest)) - 1) < length us)
count_bound l N t us [] rest c h = absurd (omega arith)
count_bound l N t us (s ∷ ss) rest c h =
    let e : top (flat 0 ((s ∷ ss) ∷ rest)) ≡ length rest =
    top-row_from 0 0 (s ∷ ss) (flat 1 rest) c.0 ∙ (omega (arith, top-flat l 0 rest c.3)) in (
      rw e (omega (arith, length-flat l 0 ((s ∷ ss) ∷ rest) c)),
      less_one l (2 ^ top (flat 0 ((s ∷ ss) ∷ rest))) (length us) (pow_pos (top (flat 0 ((s ∷ ss) ∷ rest))))
          (top_arrivals l N t us 0 0 (flat 0 ((s ∷ ss) ∷ rest)) (wide_flat l 0 ((s ∷ ss) ∷ rest) 0 c (omega arith)) h (omega (arith, h.0))),
    )
