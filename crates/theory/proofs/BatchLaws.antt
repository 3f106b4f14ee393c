-- Several buckets pushed into a level at once.
use Rattle.std.proofs.Common.{◌≡◌, ℕ, zero, suc, ◌+◌, ◌-◌, ◌*◌, ◌/◌, ◌%◌, ◌<◌, ◌≤◌, min, ◌⊎◌, List, [], ◌∷◌, ◌++◌, length, get_or, take, drop, replicate, refl, ap, ◌∙◌, inl, inr, append_assoc, arith}
use Rattle.std.proofs.lemmas.List.{length-take, places, same_lists, drop_all, drop-drop, get_or-take, length-append, length-drop, length-replicate, length-take-le, take_all, take-take}
use Rattle.std.proofs.lemmas.Bool.{cases_lt, le-leb, lt-leb}
use Rattle.theory.specs.Levels.{newer, push, push_all, stay, staying, up_olds, ups}

-- the oldest pair of a level is the first to come out of the pairs that went up before
newer_more : (zs : List ℕ) (n : ℕ) → suc n < length zs → newer (drop n zs) ≡ get_or zs n 0 ∷ newer (drop (suc (suc n)) zs)
newer_more [] n h = absurd (omega arith)
newer_more (x ∷ []) n h = absurd (omega arith)
newer_more (x ∷ (y ∷ zs)) zero h = refl
newer_more (x ∷ (y ∷ zs)) (suc n) h = newer_more (y ∷ zs) n (omega arith)

staying_le : (l n : ℕ) → staying l n ≤ n
staying_le l n = omega arith

same : (l n : ℕ) → staying l n ≤ l → staying l (suc n) ≡ suc (staying l n)
same l n h = omega arith

full : (l n : ℕ) → l < staying l n → (staying l n ≡ suc l) × (staying l (suc n) ≡ l)
full l n h = (omega arith, omega arith)

step_stay : (l y k : ℕ) (zs : List ℕ) (levels : List (List ℕ)) → k ≤ length zs → k ≤ l
    → push l y (take k zs ∷ levels) ≡ (y ∷ take k zs) ∷ levels
step_stay l y k zs levels h g = rw (le-leb (length (take k zs)) l (omega (arith, length-take-le k zs h))) refl

step_full : (l y : ℕ) (zs : List ℕ) (rest : List (List ℕ)) → suc l ≤ length zs
    → push l y (take (suc l) zs ∷ push_all l (newer (drop (suc l) zs)) rest) ≡ take l (y ∷ zs) ∷ push_all l (newer (drop l (y ∷ zs))) rest
step_full l y zs rest h =
    let e₁ : take l (y ∷ take (suc l) zs) ≡ take l (y ∷ zs) = take-take l (suc (suc l)) (y ∷ zs) (omega arith) in
    let e₂ : get_or (y ∷ take (suc l) zs) l 0 ≡ get_or (y ∷ zs) l 0 = get_or-take (suc (suc l)) (y ∷ zs) l 0 (omega arith) in
    let e₃ : newer (drop l (y ∷ zs)) ≡ get_or (y ∷ zs) l 0 ∷ newer (drop (suc l) zs) = newer_more (y ∷ zs) l (omega arith) in
    rw (lt-leb (length (take (suc l) zs)) l (omega (arith, length-take-le (suc l) zs h)), e₃, e₁, e₂) refl

step : (l y : ℕ) (zs : List ℕ) (rest : List (List ℕ))
    → (l < staying l (length zs)) ⊎ (staying l (length zs) ≤ l)
    → push l y (take (staying l (length zs)) zs ∷ push_all l (newer (drop (staying l (length zs)) zs)) rest)
    ≡ take (staying l (suc (length zs))) (y ∷ zs) ∷ push_all l (newer (drop (staying l (suc (length zs))) (y ∷ zs))) rest
step l y zs rest (inl h) =
    let f = full l (length zs) h in
    rw (f.0, f.1) (step_full l y zs rest (omega (arith, f.0, staying_le l (length zs))))
step l y zs rest (inr h) =
    rw (same l (length zs) h) (step_stay l y (staying l (length zs)) zs
    (push_all l (newer (drop (staying l (length zs)) zs)) rest) (staying_le l (length zs)) h)

pub level_law_lem : (l : ℕ) (new ss : List ℕ) (rest : List (List ℕ)) → length ss ≤ l + 1
    → push_all l new (ss ∷ rest)
    ≡ take (staying l (length (new ++ ss))) (new ++ ss)
    ∷ push_all l (newer (drop (staying l (length (new ++ ss))) (new ++ ss))) rest
level_law_lem l [] ss rest h =
    let e : staying l (length ss) ≡ length ss = omega arith in
    rw (e, take_all (length ss) ss (omega arith), drop_all (length ss) ss (omega arith)) refl
level_law_lem l (y ∷ new) ss rest h =
    ap (push l y) (level_law_lem l new ss rest h) ∙ step l y (new ++ ss) rest (cases_lt l (staying l (length (new ++ ss))))

pub new_level : (l s : ℕ) (ss : List ℕ) → push_all l (s ∷ ss) [] ≡ push_all l (s ∷ ss) ([] ∷ [])
new_level l s [] = rw (le-leb 0 l (omega arith)) refl
new_level l s (r ∷ ss) = ap (push l s) (new_level l r ss)

-- copies of one stamp, and then older ones
take_copies : (r m t : ℕ) (xs : List ℕ) → take r (replicate m t ++ xs) ≡ replicate (min r m) t ++ take (r - m) xs
take_copies r m t xs = same_lists _ _ (simp (length-take, length-append, length-replicate) (omega arith)) (λ k d lt. grind (arith, places))

drop_copies : (r m t : ℕ) (xs : List ℕ) → drop r (replicate m t ++ xs) ≡ replicate (m - r) t ++ drop (r - m) xs
drop_copies r m t xs = same_lists _ _ (simp (length-drop, length-append, length-replicate) (omega arith)) (λ k d lt. grind (arith, places))

newer_copies : (j t : ℕ) (xs : List ℕ) → newer (replicate j t ++ xs) ≡ replicate ((j + 1) / 2) t ++ newer (drop (j % 2) xs)
newer_copies zero t xs = refl
newer_copies (suc zero) t [] = refl
newer_copies (suc zero) t (x ∷ xs) = refl
newer_copies (suc (suc j)) t xs =
    let e : (suc (suc j) + 1) / 2 ≡ suc ((j + 1) / 2) = omega arith in let d : suc (suc j) % 2 ≡ j % 2 = omega arith in
    rw (e, d) (ap {B = List ℕ} (λ ys. t ∷ ys) (newer_copies j t xs))

pub length_copies : (m t : ℕ) (xs : List ℕ) → length (replicate m t ++ xs) ≡ m + length xs
length_copies m t xs = omega (arith, length-append (replicate m t) xs, length-replicate m t)

pub batch_level : (l m t : ℕ) (olds ss : List ℕ) (rest : List (List ℕ)) → length ss ≤ l + 1
    → push_all l (replicate m t ++ olds) (ss ∷ rest)
    ≡ stay l m t (olds ++ ss) ∷ push_all l (replicate (ups l m (olds ++ ss)) t ++ up_olds l m (olds ++ ss)) rest
batch_level l m t olds ss rest h =
    let r = staying l (m + length (olds ++ ss)) in
    let law = level_law_lem l (replicate m t ++ olds) ss rest h in
    let assoc : (replicate m t ++ olds) ++ ss ≡ replicate m t ++ (olds ++ ss) = append_assoc (replicate m t) olds ss in
    law ∙ rw (
      assoc,
      length_copies m t (olds ++ ss),
      take_copies r m t (olds ++ ss),
      drop_copies r m t (olds ++ ss),
      newer_copies (m - r) t (drop (r - m) (olds ++ ss)),
      drop-drop ((m - r) % 2) (r - m) (olds ++ ss),
    ) refl

pub length-newer : (xs : List ℕ) → length (newer xs) ≤ (length xs + 1) / 2
length-newer [] = omega arith
length-newer (x ∷ []) = omega arith
length-newer (x ∷ (y ∷ xs)) = omega (arith, length-newer xs)

share : (r m o k u : ℕ) → r + 2 * k ≡ m + o → u ≤ (o - ((r - m) + (m - r) % 2) + 1) / 2 → (m - r + 1) / 2 + u ≤ k
share r m o k u e h = omega arith

-- at most half of what is above l goes up
pub up_count : (l m : ℕ) (olds : List ℕ) → ups l m olds + length (up_olds l m olds) ≤ (m + length olds - l) / 2
up_count l m olds = halves l m (length olds) (length (up_olds l m olds))
    (rw length-drop at (length-newer (drop cut olds)))
  where
    cut : ℕ
    cut = (staying l (m + length olds) - m) + (m - staying l (m + length olds)) % 2

    halves : (l m o u : ℕ) → u ≤ (o - ((staying l (m + o) - m) + (m - staying l (m + o)) % 2) + 1) / 2
        → (m - staying l (m + o) + 1) / 2 + u ≤ (m + o - l) / 2
    halves l m o u h = share (staying l (m + o)) m o ((m + o - l) / 2) u (omega arith) h

pub new_level' : (l : ℕ) (xs : List ℕ) → 1 ≤ length xs → push_all l xs [] ≡ push_all l xs ([] ∷ [])
new_level' l [] h = absurd (omega arith)
new_level' l (x ∷ xs) h = new_level l x xs
