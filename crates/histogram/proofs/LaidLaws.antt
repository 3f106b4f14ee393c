-- A list with another written over it, and what is gathered from one.
use Rattle.std.proofs.Common.{◌≡◌, ℕ, ◌+◌, ◌-◌, ◌/◌, ◌<◌, ◌≤◌, min, eqb, List, [], ◌∷◌, ◌++◌, map, length, get_or, take, drop, replicate, set, sym, refl, ap, ◌∙◌, ap₂, append_assoc, arith}
use lib.LanesLaws.{map-replicate}
use lib.Seq.{paste}
use Rattle.histogram.specs.Raising.{laid, of_size, own_of}
use Rattle.std.proofs.lemmas.List.{append-nil, drop_all, drop_at, drop_more, get_or-map, length-append, length-drop, length-map, length-replicate, length-take, length-take-le, map-append, take-append-le, take_at, take-take}
use Rattle.std.proofs.lemmas.List.Edits.{paste_all, paste_more}
use Rattle.std.proofs.lemmas.Bool.{cond-true, eq-eqb}
use Rattle.theory.specs.Levels.{newer}
use Rattle.theory.specs.declared.entries.Entry.{Entry}

-- the newer of each pair, one pair on
pub newer_pair : (before pair after : List ℕ) (n : ℕ) → n ≡ 2 → before ≡ pair ++ after → length pair ≡ min n (length before) → 0 < length before
    → newer before ≡ get_or pair 0 0 ∷ newer after
newer_pair before pair after n two e few some = ap newer e ∙ go pair after (omega (arith, ap length e)) (omega arith)
  where
    go : (pair after : List ℕ) → length pair ≡ min 2 (length (pair ++ after)) → 0 < length pair → newer (pair ++ after) ≡ get_or pair 0 0 ∷ newer after
    go [] after few some = absurd (omega arith)
    go (x ∷ []) [] few some = refl
    go (x ∷ []) (y ∷ after) few some = absurd (omega arith)
    go (x ∷ (y ∷ [])) after few some = refl
    go (x ∷ (y ∷ (z ∷ pair))) after few some = absurd (omega arith)

pub length-newer_is : (zs : List ℕ) → length (newer zs) ≡ (length zs + 1) / 2
length-newer_is [] = refl
length-newer_is (x ∷ []) = refl
length-newer_is (x ∷ (y ∷ zs)) = let ih = length-newer_is zs in omega arith

-- the bucket at k is one of those at the front
pub own_some : (e : ℕ) (bs : List Entry) (k : ℕ) (d : Entry) → k < length bs → (get_or bs k d).exponent ≡ e → 1 ≤ length (own_of e (drop k bs))
own_some e bs k d h q =
    let x = get_or bs k d in
    let more = ap (own_of e) (drop_more bs k d h)
    ∙ cond-true (eqb x.exponent e) (x.stamp ∷ own_of e (drop (k + 1) bs)) [] (eq-eqb x.exponent e q) in
    omega (arith, ap length more)

-- one more of a row of buckets is written
pub row_more : (e at k : ℕ) (ss : List ℕ) (d place : List Entry) → k < length ss → at + k < length d → place ≡ paste d at (map (of_size e) ss) k
    → set place (at + k) (of_size e (get_or ss k 0)) ≡ paste d at (map (of_size e) ss) (k + 1)
row_more e at k ss d place h fits w =
    ap (λ (z : List Entry). set z (at + k) (of_size e (get_or ss k 0))) w
    ∙ ap (λ (x : Entry). set (paste d at (map (of_size e) ss) k) (at + k) x) (sym (get_or-map (of_size e) ss k 0 (of_size e 0) h))
    ∙ paste_more d at (map (of_size e) ss) k (of_size e 0) fits (omega (arith, length-map ss (of_size e)))

-- new buckets, and older ones written after them
pub row_filled : (e t new n k : ℕ) (olds : List ℕ) (front after place : List Entry) → front ≡ replicate n (of_size e t) → n ≡ new
    → length after ≡ length olds → k ≡ length olds → place ≡ paste (front ++ after) new (map (of_size e) olds) k
    → place ≡ map (of_size e) (replicate new t ++ olds)
row_filled e t new n k olds front after place f same few all w =
    let row : List Entry = map (of_size e) olds in
    let fresh : front ≡ replicate new (of_size e t) = f ∙ ap (λ (m : ℕ). replicate m (of_size e t)) same in
    let long : length front ≡ new = ap length fresh ∙ length-replicate new (of_size e t) in
    w ∙ paste_all (front ++ after) new row k (all ∙ sym (length-map olds (of_size e)))
    ∙ ap₂ (λ (x y : List Entry). x ++ (row ++ y)) (take_at front after new long ∙ fresh ∙ sym (map-replicate (of_size e) new t))
    (drop_all (new + k) (front ++ after) (omega (arith, length-append front after)))
    ∙ ap (λ (z : List Entry). map (of_size e) (replicate new t) ++ z) (append-nil row) ∙ sym (map-append (of_size e) (replicate new t) olds)

module _ {X : Type 0} where
  -- what lies below is written after what lies above
  pub laid-under : (o q : ℕ) (ws vs xs : List X) → q ≡ o + length ws → q ≤ length xs
      → laid o ws (laid q vs xs) ≡ laid o (ws ++ vs) xs
  laid-under o q ws vs xs e h =
      let front : length (take q xs) ≡ q = length-take-le q xs h in
      let tail : List X = vs ++ drop (q + length vs) xs in
      let a : take o (take q xs ++ tail) ≡ take o xs =
      take-append-le o (take q xs) tail (omega arith) ∙ take-take o q xs (omega arith) in
      let b : drop (o + length ws) (take q xs ++ tail) ≡ tail = drop_at (take q xs) tail (o + length ws) (front ∙ e) in
      let n : q + length vs ≡ o + length (ws ++ vs) = omega (arith, length-append ws vs) in
      ap₂ (λ (x y : List X). x ++ (ws ++ y)) a (b ∙ ap (λ k. vs ++ drop k xs) n)
      ∙ ap (λ r. take o xs ++ r) (sym (append_assoc ws vs (drop (o + length (ws ++ vs)) xs)))

  -- a part of the list, copied to another place
  pub copied : (xs : List X) (o i b : ℕ) → i ≤ b → b ≤ length xs → paste xs o (drop i xs) (b - i) ≡ laid o (take (b - i) (drop i xs)) xs
  copied xs o i b h g =
      let n : b - i ≡ length (take (b - i) (drop i xs)) = omega (arith, length-drop i xs, length-take (b - i) (drop i xs)) in
      append_assoc (take o xs) (take (b - i) (drop i xs)) (drop (o + (b - i)) xs)
      ∙ ap (λ (k : ℕ). take o xs ++ (take (b - i) (drop i xs) ++ drop (o + k) xs)) n
