-- Buckets that stand for groups of arrivals, and buckets by the places of their arrivals, are the same.
use Rattle.std.proofs.Common.{◌≡◌, ℕ, ◌+◌, ◌-◌, ◌≤◌, List, [], ◌∷◌, ◌++◌, length, get_or, take, drop, sym, refl, ap, ◌∙◌, append_assoc, arith, pow_pos}
use Rattle.std.proofs.ByRecursion.{All-from_get_or, All-get_or}
use Rattle.std.proofs.lemmas.List.{drop-drop, get_or-append_right, get_or-drop, get_or-take, length-append, length-drop, length-take-le, places, take-append-drop}
use Rattle.std.specs.List.{AllByRecursion}
use Rattle.theory.proofs.Views.{Stands}
use Rattle.theory.specs.Arrivals.{Groups}
use Rattle.theory.specs.Buckets.{size}
use Rattle.theory.specs.declared.entries.Entry.{Entry}

pub groups : (N t : ℕ) (us : List ℕ) (p : ℕ) (bs : List Entry) → Stands N t us p bs
    → (front : List ℕ) × (back : List ℕ) × (drop p us ≡ front ++ back) × Groups bs front × AllByRecursion (λ u. u + N ≤ t) back
groups N t us p [] h = (
  [],
  drop p us,
  refl,
  refl,
  All-from_get_or (λ u. u + N ≤ t) (drop p us) 0 (λ k lt. rw (get_or-drop p us k 0) (h (p + k) (omega arith) (omega (arith, length-drop p us)))),
)
groups N t us p (b ∷ bs) h =
    let ih = groups N t us (p + size b) bs h.2 in
    let g : List ℕ = take (size b) (drop p us) in
    let fits : size b ≤ length (drop p us) = omega (arith, h.0, length-drop p us) in
    let first : get_or g 0 0 ≡ get_or us p 0 =
    get_or-take (size b) (drop p us) 0 0 (pow_pos b.exponent) ∙ get_or-drop p us 0 0 ∙ ap (λ i. get_or us i 0) (omega arith) in (
      g ++ ih.0,
      ih.1,
      rw (append_assoc g ih.0 ih.1, ← ih.2, ← drop-drop (size b) p us) (sym (take-append-drop (size b) (drop p us))),
      (g, ih.0, refl, length-take-le (size b) (drop p us) fits, first ∙ h.1, ih.3),
      ih.4,
    )

from_groups : (N t : ℕ) (us back : List ℕ) → AllByRecursion (λ u. u + N ≤ t) back → (pre front : List ℕ) (bs : List Entry) → us ≡ pre ++ (front ++ back)
    → Groups bs front → Stands N t us (length pre) bs
from_groups N t us back h pre front [] e r =
    λ k le lt.
    let n : length us ≡ length pre + length back = rw (e, r) (length-append pre back) in
    rw (e, r, get_or-append_right pre back (length pre) k 0 refl le) (All-get_or (λ u. u + N ≤ t) back (k - length pre) 0 (omega arith) h)
from_groups N t us back h pre front (b ∷ bs) e r =
    let g = r.0 in
    let rest = r.1 in
    let e' : us ≡ (pre ++ g) ++ (rest ++ back) = rw (e, r.2) (simp append_assoc) in
    let size-is : length g ≡ size b = r.3 in
    let pos : 1 ≤ size b = pow_pos b.exponent in
    let stamp-is : get_or g 0 0 ≡ b.stamp = r.4 in
    let n : length us ≡ (length pre + length g) + length (rest ++ back) = rw e' (simp length-append) in
    let first : get_or us (length pre) 0 ≡ b.stamp = rw e' (grind (arith, places)) in
    let next : length (pre ++ g) ≡ length pre + size b = omega (arith, length-append pre g) in
    (omega arith, first, rw (← next) (from_groups N t us back h (pre ++ g) rest bs e' r.5))

pub groups_stand : (N t : ℕ) (front back : List ℕ) (bs : List Entry) → Groups bs front → AllByRecursion (λ u. u + N ≤ t) back → Stands N t (front ++ back) 0 bs
groups_stand N t front back bs r h = from_groups N t (front ++ back) back h [] front bs refl r
