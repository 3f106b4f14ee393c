-- Laws of the sizes that are printed oldest first.
use Rattle.std.proofs.Common.{◌≡◌, ℕ, ◌+◌, ◌<◌, List, [], ◌∷◌, ◌++◌, map, reverse, length, take, drop, All, codes, decimal, sym, refl, ap, ◌∙◌, subst, append_assoc, length-append, arith}
use Rattle.buckets.specs.Reports.{Small, spaced, sizes_list}
use Rattle.std.proofs.lemmas.List.Elements.{All-head, All-drop}
use Rattle.std.proofs.lemmas.List.{reverse-append, map_push, take_at, drop_at, take-append-drop, length-map, length-reverse, length-drop}
use Rattle.theory.specs.Buckets.{size}
use Rattle.theory.specs.declared.entries.Entry.{Entry}

-- one number more at the end: a blank, and its digits
spaced-push : (n : ℕ) (ns : List ℕ) (m : ℕ) → spaced ((n ∷ ns) ++ m ∷ []) ≡ spaced (n ∷ ns) ++ (codes " " ++ decimal m)
spaced-push n [] m = refl
spaced-push n (k ∷ ns) m =
    ap (λ (l : List ℕ). decimal n ++ (codes " " ++ l)) (spaced-push k ns m)
    ∙ sym (append_assoc (decimal n) (codes " " ++ spaced (k ∷ ns)) (codes " " ++ decimal m))

spaced_more : (ns : List ℕ) (m : ℕ) → 0 < length ns → spaced (ns ++ m ∷ []) ≡ spaced ns ++ (codes " " ++ decimal m)
spaced_more [] m some = absurd (omega arith)
spaced_more (n ∷ ns) m some = spaced-push n ns m

-- the size of a bucket stands after those of the older ones and a blank
sizes_more : (b : Entry) (bs : List Entry) → 0 < length bs → sizes_list (b ∷ bs) ≡ sizes_list bs ++ (codes " " ++ decimal (size b))
sizes_more b bs some =
    ap spaced (ap (map size) (reverse-append (b ∷ []) bs) ∙ map_push size (reverse bs) b)
    ∙ spaced_more (map size (reverse bs)) (size b) (simp (length-map, length-reverse) some)

-- the buckets `rest` are left to print, of all the last is next
module _ (bs rest rest' : List Entry) (b : Entry) (front : rest ≡ take (length rest) bs) (within : length rest < length bs)
    (last : rest ≡ rest' ++ b ∷ []) where
  length_next : length rest ≡ length rest' + 1
  length_next = ap length last ∙ length-append rest' (b ∷ [])

  whole : bs ≡ rest' ++ (b ∷ drop (length rest) bs)
  whole =
      sym (take-append-drop (length rest) bs)
      ∙ ap (λ (l : List Entry). l ++ drop (length rest) bs) (sym front ∙ last)
      ∙ append_assoc rest' (b ∷ []) (drop (length rest) bs)

  pub next_front : rest' ≡ take (length rest') bs
  next_front = sym (ap (take (length rest')) whole ∙ take_at rest' (b ∷ drop (length rest) bs) (length rest') refl)

  pub next_within : length rest' < length bs
  next_within = omega (arith, length_next, within)

  pub next_small : All Small bs → Small b
  next_small small = All-head Small b (drop (length rest) bs)
      (subst (All Small) (ap (drop (length rest')) whole ∙ drop_at rest' (b ∷ drop (length rest) bs) (length rest') refl)
      (All-drop Small (length rest') bs small))

  -- its size stands after those of the older ones and a blank
  pub next_sizes : (n : ℕ) → n ≡ size b
      → sizes_list (drop (length rest) bs) ++ (codes " " ++ decimal n) ≡ sizes_list (drop (length rest') bs)
  next_sizes n told =
      ap (λ (m : ℕ). sizes_list (drop (length rest) bs) ++ (codes " " ++ decimal m)) told
      ∙ sym (ap sizes_list (ap (drop (length rest')) whole ∙ drop_at rest' (b ∷ drop (length rest) bs) (length rest') refl)
      ∙ sizes_more b (drop (length rest) bs) (simp length-drop (omega (arith, within))))
