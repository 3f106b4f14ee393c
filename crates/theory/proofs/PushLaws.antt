-- One bucket pushed into the levels.
use Rattle.std.proofs.Common.{◌≡◌, ℕ, zero, suc, ◌+◌, ◌^◌, ◌≤◌, leb, List, [], ◌∷◌, length, get_or, take, refl, add_assoc, suc-add, arith}
use native.Mathlib.Nat.{two-pow-succ}
use Rattle.std.proofs.lemmas.List.{length-take-le}
use Rattle.std.proofs.lemmas.Bool.{cond_both, leb-false, leb-true}
use Rattle.theory.proofs.Views.{Gone, Stands}
use Rattle.theory.specs.Buckets.{size}
use Rattle.theory.specs.Levels.{Canonical, Filled, flat, push, push_all, row}
use Rattle.theory.specs.declared.entries.Entry.{Entry}

-- the levels stay canonical
pub filled_from : (l : ℕ) (ss : List ℕ) (rest : List (List ℕ)) → l ≤ length ss → Filled l ss rest
filled_from l ss [] h = tt
filled_from l ss (next ∷ rest) h = h

pub filled_more : (l s : ℕ) (ss : List ℕ) (rest : List (List ℕ)) → Filled l ss rest → Filled l (s ∷ ss) rest
filled_more l s ss [] h = tt
filled_more l s ss (next ∷ rest) h = omega arith

pub push-canon : (l : ℕ) → 1 ≤ l → (s : ℕ) (levels : List (List ℕ)) → Canonical l levels → Canonical l (push l s levels)
push-canon l h s [] c = (omega arith, omega arith, tt, tt)
push-canon l h s (ss ∷ rest) c =
    cond_both (leb (length ss) l) ((s ∷ ss) ∷ rest) (take l (s ∷ ss) ∷ push l (get_or (s ∷ ss) l 0) rest) (Canonical l)
    (λ e. (omega arith, omega (arith, leb-true (length ss) l e), filled_more l s ss rest c.2, c.3))
    (λ e. let k : length (take l (s ∷ ss)) ≡ l = length-take-le l (s ∷ ss) (omega (arith, leb-false (length ss) l e)) in (
      omega arith,
      omega arith,
      filled_from l (take l (s ∷ ss)) (push l (get_or (s ∷ ss) l 0) rest) (omega arith),
      push-canon l h (get_or (s ∷ ss) l 0) rest c.3,
    ))

-- what the buckets stand for: one arrival more shifts all places by one, a merge joins two neighbours
module _ (N t : ℕ) where
  gone_shift : (s : ℕ) (us : List ℕ) (p : ℕ) → Gone N t us p → Gone N t (s ∷ us) (suc p)
  gone_shift s us p g zero le lt = absurd (omega arith)
  gone_shift s us p g (suc k) le lt = g k (omega arith) (omega arith)

  pub shift : (s : ℕ) (us : List ℕ) (p : ℕ) (bs : List Entry) → Stands N t us p bs → Stands N t (s ∷ us) (suc p) bs
  shift s us p [] h = gone_shift s us p h
  shift s us p (b ∷ bs) h = (omega (arith, h.0), h.1, rw (suc-add p (size b)) (shift s us (p + size b) bs h.2))

  module _ (us : List ℕ) where
    pub row_under : (e : ℕ) (ss : List ℕ) (xs ys : List Entry)
        → ((q : ℕ) → Stands N t us q xs → Stands N t us q ys)
        → (p : ℕ) → Stands N t us p (row e ss xs) → Stands N t us p (row e ss ys)
    row_under e [] xs ys f p h = f p h
    row_under e (s ∷ ss) xs ys f p h = (h.0, h.1, row_under e ss xs ys f (p + 2 ^ e) h.2)

    pub merge : (l e : ℕ) (ss : List ℕ) (older : List Entry) (p : ℕ) → length ss ≡ suc (suc l)
        → Stands N t us p (row e ss older)
        → Stands N t us p (row e (take l ss) (record { stamp = get_or ss l 0; exponent = suc e } ∷ older))
    merge l e [] older p eq h = absurd (omega arith)
    merge zero e (x ∷ []) older p eq h = absurd (omega arith)
    merge zero e (x ∷ (y ∷ [])) older p eq h =
        (omega (arith, two-pow-succ e, h.2.0), h.1, rw (two-pow-succ e, ← add_assoc p (2 ^ e) (2 ^ e)) h.2.2)
    merge zero e (x ∷ (y ∷ (z ∷ ss))) older p eq h = absurd (omega arith)
    merge (suc l) e (x ∷ ss) older p eq h = (h.0, h.1, merge l e ss older (p + 2 ^ e) (omega arith) h.2)

    pub push-level : (l e s : ℕ) (levels : List (List ℕ)) (p : ℕ) → Canonical l levels
        → Stands N t us p (record { stamp = s; exponent = e } ∷ flat e levels)
        → Stands N t us p (flat e (push l s levels))
    push-level l e s [] p c h = h
    push-level l e s (ss ∷ rest) p c h =
        cond_both (leb (length ss) l) ((s ∷ ss) ∷ rest) (take l (s ∷ ss) ∷ push l (get_or (s ∷ ss) l 0) rest)
        (λ ls. Stands N t us p (flat e ls))
        (λ _. h)
        (λ f. row_under e (take l (s ∷ ss)) (record { stamp = get_or (s ∷ ss) l 0; exponent = suc e } ∷ flat (suc e) rest)
        (flat (suc e) (push l (get_or (s ∷ ss) l 0) rest))
        (λ q. push-level l (suc e) (get_or (s ∷ ss) l 0) rest q c.3) p
        (merge l e (s ∷ ss) (flat (suc e) rest) p (omega (arith, leb-false (length ss) l f)) h))

  pub push_stands : (l s : ℕ) (us : List ℕ) (levels : List (List ℕ)) → Canonical l levels
      → Stands N t us 0 (flat 0 levels) → Stands N t (s ∷ us) 0 (flat 0 (push l s levels))
  push_stands l s us levels c h = push-level (s ∷ us) l 0 s levels 0 c (omega arith, refl, shift s us 0 (flat 0 levels) h)

pub all_canon : (l : ℕ) → 1 ≤ l → (new : List ℕ) (levels : List (List ℕ)) → Canonical l levels → Canonical l (push_all l new levels)
all_canon l h [] levels c = c
all_canon l h (s ∷ new) levels c = push-canon l h s (push_all l new levels) (all_canon l h new levels c)
