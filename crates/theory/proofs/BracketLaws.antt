-- Low and high bracket the truth.
use Rattle.std.proofs.Common.{◌≡◌, ℕ, zero, suc, ◌+◌, ◌-◌, ◌*◌, ◌^◌, ◌<◌, ◌≤◌, ltb, List, [], ◌∷◌, length, get_or, refl, mul-le-mul_right, arith, pow_pos}
use native.Mathlib.Nat.{two-pow-succ}
use Rattle.std.proofs.lemmas.Bool.{cond_both, le-ltb, ltb-false, ltb-true}
use Rattle.std.proofs.ByRecursion.{All-get_or}
use Rattle.std.proofs.lemmas.Bool.Decides.{nat_tests}
use Rattle.theory.proofs.Views.{Below, Gone, Stands}
use Rattle.theory.specs.Arrivals.{Falling, truth}
use Rattle.theory.specs.Buckets.{high, low, oldest, size, total, within}
use Rattle.theory.specs.Levels.{Canonical, flat, row}
use Rattle.theory.specs.declared.entries.Entry.{Entry}

pub below_at : (s : ℕ) (us : List ℕ) → Below s us → (k : ℕ) → k < length us → get_or us k 0 ≤ s
below_at s us b k lt = All-get_or (λ u. u ≤ s) us k 0 lt b

pub falls_at : (us : List ℕ) → Falling us → (i k : ℕ) → i ≤ k → k < length us → get_or us k 0 ≤ get_or us i 0
falls_at [] f i k le lt = absurd (omega arith)
falls_at (u ∷ us) f zero zero le lt = omega arith
falls_at (u ∷ us) f zero (suc k) le lt = below_at u us f.0 k (omega arith)
falls_at (u ∷ us) f (suc i) zero le lt = absurd (omega arith)
falls_at (u ∷ us) f (suc i) (suc k) le lt = falls_at us f.1 i k (omega arith) (omega arith)

module _ (W a : ℕ) where
  pub at_least : (us : List ℕ) → Falling us → (n : ℕ) → n < length us → a < get_or us n 0 + W → n < truth W a us
  at_least [] f n lt h = absurd (omega arith)
  at_least (u ∷ us) f zero lt h = let live : a < u + W = h in grind (arith, nat_tests)
  at_least (u ∷ us) f (suc n) lt h =
      let ih : n < truth W a us = at_least us f.1 n (omega arith) h in
      let live : a < u + W = omega (arith, below_at u us f.0 n (omega arith)) in
      grind (arith, nat_tests)

  pub at_most : (us : List ℕ) → Falling us → (n : ℕ) → (n < length us → get_or us n 0 + W ≤ a) → truth W a us ≤ n
  at_most [] f n h = omega arith
  at_most (u ∷ us) f zero h =
      let out : u + W ≤ a = h (omega arith) in
      let ih : truth W a us ≤ 0 = at_most us f.1 0 (λ lt. omega (arith, below_at u us f.0 0 lt)) in
      grind (arith, nat_tests)
  at_most (u ∷ us) f (suc n) h =
      let ih : truth W a us ≤ n = at_most us f.1 n (λ lt. h (omega arith)) in
      grind (arith, nat_tests)

-- a bucket of size c at place p has l × (c − 1) arrivals in front of it
abbrev pub Wide : ℕ → ℕ → List Entry → Type 0
Wide l p [] = Unit {0}
Wide l p (b ∷ bs) = (l * size b ≤ p + l) × Wide l (p + size b) bs

wide_row : (l e : ℕ) (ss : List ℕ) (older : List Entry) (p : ℕ) → l * 2 ^ e ≤ p + l
    → ((q : ℕ) → q ≡ p + length ss * 2 ^ e → Wide l q older) → Wide l p (row e ss older)
wide_row l e [] older p h f = f p (omega arith)
wide_row l e (s ∷ ss) older p h f = (h, wide_row l e ss older (p + 2 ^ e) (omega arith) (λ q eq. f q (omega arith)))

pub wide_flat : (l e : ℕ) (levels : List (List ℕ)) (p : ℕ) → Canonical l levels → l * 2 ^ e ≤ p + l → Wide l p (flat e levels)
wide_flat l e [] p c h = tt
wide_flat l e (ss ∷ []) p c h = wide_row l e ss [] p h (λ q eq. tt)
wide_flat l e (ss ∷ (next ∷ rest)) p c h =
    wide_row l e ss (flat (suc e) (next ∷ rest)) p h
    (λ q eq. wide_flat l (suc e) (next ∷ rest) q c.3 (rw (two-pow-succ e) (omega (arith, mul-le-mul_right (2 ^ e) c.2))))

-- what the walk over the buckets finds out
abbrev Bracket : ℕ → ℕ → ℕ → List Entry → Type 0
Bracket l X p [] = X ≤ p
Bracket l X p (c ∷ cs) =
    (X ≤ p + total (c ∷ cs)) × (p + total (c ∷ cs) < X + oldest (size c) cs) × (l * oldest (size c) cs + oldest (size c) cs ≤ p + total (c ∷ cs) + l)

extend : (l X p : ℕ) (b : Entry) (cs : List Entry) → p < X → l * size b ≤ p + l → Bracket l X (p + size b) cs → Bracket l X p (b ∷ cs)
extend l X p b [] h w i = (omega arith, omega arith, omega arith)
extend l X p b (c ∷ cs) h w i = (omega arith, omega arith, omega arith)

module _ (N t : ℕ) (us : List ℕ) (falls : Falling us) (W a : ℕ) where
  pub none_within : (p : ℕ) (bs : List Entry) → Gone W a us p → Stands N t us p bs → within W a bs ≡ []
  none_within p [] g h = refl
  none_within p (b ∷ bs) g h =
      let out : b.stamp + W ≤ a = omega (arith, h.1, g p (omega arith) (omega (arith, h.0, pow_pos b.exponent))) in
      rw (le-ltb a (b.stamp + W) out) (none_within (p + size b) bs (λ k le lt. g k (omega arith) lt) h.2)

  pub bracket : (l : ℕ) → W ≤ N → t ≤ a → (p : ℕ) (bs : List Entry) → Wide l p bs → Stands N t us p bs
      → Bracket l (truth W a us) p (within W a bs)
  bracket l wn ta p [] w h = at_most W a us falls p (λ lt. omega (arith, h p (omega arith) lt))
  bracket l wn ta p (b ∷ bs) w h =
      let inside : p < length us = omega (arith, h.0, pow_pos b.exponent) in
      cond_both (ltb a (b.stamp + W)) (b ∷ within W a bs) (within W a bs) (Bracket l (truth W a us) p)
      (λ e. extend l (truth W a us) p b (within W a bs)
      (at_least W a us falls p inside (rw h.1 (ltb-true a (b.stamp + W) e))) w.0
      (bracket l wn ta (p + size b) bs w.1 h.2))
      (λ e. let d : get_or us p 0 + W ≤ a = rw h.1 (ltb-false a (b.stamp + W) e) in
      rw (none_within (p + size b) bs (λ k le lt. omega (arith, falls_at us falls p k (omega arith) lt)) h.2)
      (at_most W a us falls p (λ _. d)))

pub oldest-pos : (c : ℕ) (bs : List Entry) → 1 ≤ c → 1 ≤ oldest c bs
oldest-pos c [] h = h
oldest-pos c (b ∷ bs) h = oldest-pos (size b) bs (pow_pos b.exponent)

pub oldest_le : (c : ℕ) (bs : List Entry) → oldest c bs ≤ c + total bs
oldest_le c [] = omega arith
oldest_le c (b ∷ bs) = omega (arith, oldest_le (size b) bs)

gap : (l d C T X : ℕ) → d + 1 ≡ C → T < X + C → l * C + C ≤ T + l → (2 * l) * d ≤ 2 * X
gap l d C T X e h w = let w' : l * (d + 1) + C ≤ T + l = rw e w in omega arith

finish : (l X : ℕ) (cs : List Entry) → Bracket l X 0 cs → (low cs ≤ X) × (X ≤ high cs) × ((2 * l) * (high cs - low cs) ≤ 2 * X)
finish l X [] b = (omega arith, omega arith, omega arith)
finish l X (c ∷ cs) b =
    let pos : 1 ≤ oldest (size c) cs = oldest-pos (size c) cs (pow_pos c.exponent) in
    let le : oldest (size c) cs ≤ total (c ∷ cs) = oldest_le (size c) cs in (
      omega arith,
      omega arith,
      gap l (high (c ∷ cs) - low (c ∷ cs)) (oldest (size c) cs) (total (c ∷ cs)) X (omega arith) (omega arith) (omega arith),
    )

pub error_bound : (l N t : ℕ) (us : List ℕ) (levels : List (List ℕ)) (W a : ℕ) → Canonical l levels → Falling us
    → Stands N t us 0 (flat 0 levels) → W ≤ N → t ≤ a
    → (low (within W a (flat 0 levels)) ≤ truth W a us) × (truth W a us ≤ high (within W a (flat 0 levels)))
    × ((2 * l) * (high (within W a (flat 0 levels)) - low (within W a (flat 0 levels))) ≤ 2 * truth W a us)
error_bound l N t us levels W a c f h wn ta =
    finish l (truth W a us) (within W a (flat 0 levels))
    (bracket N t us f W a l wn ta 0 (flat 0 levels) (wide_flat l 0 levels 0 c (omega arith)) h)
