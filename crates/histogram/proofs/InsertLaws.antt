-- The whole insertion: from buckets to their levels and back, and the zero entries after them.
use Rattle.std.proofs.Common.{◌≡◌, ℕ, ◌+◌, ◌-◌, ◌*◌, ◌≤◌, true, eqb, List, [], ◌∷◌, ◌++◌, length, take, drop, replicate, sym, refl, ap, ◌∙◌, ap₂, mul-le-mul_left, arith}
use borrow.Rule.Slice.PartMut.{put_mid}
use Rattle.histogram.specs.Entering.{padded}
use Rattle.histogram.specs.Raising.{Ready, incoming, laid, of_size, raised}
use Rattle.histogram.specs.declared.inserting.Turn.{Turn}
use Rattle.std.proofs.lemmas.Bool.{and_parts, eqb-true}
use Rattle.std.proofs.lemmas.List.{append-nil, drop_at, drop-drop, drop-replicate, length-drop, length-replicate, replicate-append-replicate, take-append-drop, take_at}
use Rattle.std.proofs.lemmas.Slice.{between_from_start}
use Rattle.theory.proofs.KeepLaws.{insertions_by_levels}
use Rattle.theory.proofs.PushLaws.{all_canon}
use Rattle.theory.proofs.SizeLaws.{all_total, few_levels}
use Rattle.theory.proofs.TopLaws.{length-flat}
use Rattle.theory.specs.Buckets.{insertions, closing_figure, total}
use Rattle.theory.specs.Levels.{Canonical, flat, push_all}
use Rattle.theory.specs.Sound.{every, formed, is_zero, zero_entry, zeros}
use Rattle.theory.specs.declared.entries.Entry.{Entry}

-- the turn of level 0: all arrivals come in there
abbrev pub first : (l v t kept : ℕ) → Turn
first l v t kept = record { half = l; tick = t; end = kept; exponent = 0; read = 0; write = 0; new = v }

-- the levels of formed buckets, ready to be raised
pub record Start (l v t kept : ℕ) (xs : List Entry) : Type 0 where
  pub levels : List (List ℕ)
  pub ready : Ready (first l v t kept) [] xs levels
  pub same : insertions l v t (take kept xs) ≡ raised (first l v t kept) [] levels

pub start : (l r v t kept : ℕ) (xs : List Entry) → 1 ≤ l → r ≤ 30 → (l + 1) * (r + 1) ≤ length xs → formed l t (take kept xs) ≡ true
    → total (take kept xs) + v ≤ closing_figure l r → Start l v t kept xs
start l r v t kept xs one small room form fits =
    let by = insertions_by_levels l t v (take kept xs) one form in
    let after : List (List ℕ) = push_all l (replicate v t) by.0 in
    let ca : Canonical l after = all_canon l one (replicate v t) by.0 by.1 in
    let sizes : total (flat 0 after) ≤ closing_figure l r = omega (
      arith,
      all_total l one (replicate v t) by.0 by.1,
      length-replicate v t,
      ap
          total by.2,
      fits,
    ) in
    let few : length after ≤ r + 1 = few_levels l r after ca sizes in
    let m : (l + 1) * length after ≤ (l + 1) * (r + 1) = mul-le-mul_left (l + 1) few in
    let new : incoming v t [] ≡ replicate v t = append-nil (replicate v t) in
    let raised_is : raised (first l v t kept) [] by.0 ≡ flat 0 after = ap (λ (z : List ℕ). flat 0 (push_all l z by.0)) new in
    record {
      levels = by.0;
      ready = record {
        whole = between_from_start xs kept ∙ by.2;
        canon = by.1;
        room = omega (arith, ap length raised_is, length-flat l 0 after ca, m, room);
        tops = omega (arith, ap (λ (z : List ℕ). length (push_all l z by.0)) new, few, small);
      };
      same = by.3 ∙ sym raised_is;
    }

-- zero entries are zeros
pub all_zeros : (xs : List Entry) → every is_zero xs ≡ true → xs ≡ zeros (length xs)
all_zeros [] h = refl
all_zeros (x ∷ xs) h =
    let all = and_parts (is_zero x) (every is_zero xs) h in
    let zero = and_parts (eqb x.stamp 0) (eqb x.exponent 0) all.0 in
    ap₂ (λ (y : Entry) (ys : List Entry). y ∷ ys) (ap₂ (λ (s e : ℕ). of_size e s) (eqb-true x.stamp 0 zero.0) (eqb-true x.exponent 0 zero.1))
    (all_zeros xs all.1)

pub past_zeros : (b : ℕ) (xs : List Entry) → every is_zero (drop b xs) ≡ true → drop b xs ≡ zeros (length xs - b)
past_zeros b xs h = all_zeros (drop b xs) h ∙ ap zeros (length-drop b xs)

later_zeros : (b n : ℕ) (xs : List Entry) → b ≤ n → drop b xs ≡ zeros (length xs - b) → drop n xs ≡ zeros (length xs - n)
later_zeros b n xs h e =
    let q : b + (n - b) ≡ n = omega arith in
    let k : (length xs - b) - (n - b) ≡ length xs - n = omega arith in
    ap (λ (z : ℕ). drop z xs) (sym q) ∙ sym (drop-drop (n - b) b xs) ∙ ap (drop (n - b)) e ∙ drop-replicate (n - b) (length xs - b)
    zero_entry ∙ ap zeros k

module _ (F xs ys : List Entry) (n b : ℕ) (past : drop b xs ≡ zeros (length xs - b)) (is : n ≡ length F) (w : ys ≡ laid 0 F xs) where
  front : take n ys ≡ F
  front = ap (take n) w ∙ take_at F (drop (0 + length F) xs) n (sym is)

  rest : drop n ys ≡ drop n xs
  rest = ap (drop n) w ∙ drop_at F (drop (0 + length F) xs) n (sym is) ∙ ap (λ (k : ℕ). drop k xs) (omega arith)

  -- buckets written over a stretch reach past the old ones
  pub none_left : b ≤ n → ys ≡ padded (length xs) F
  none_left h =
      sym (take-append-drop n ys)
      ∙ ap₂ (λ (x y : List Entry). x ++ y) front (rest ∙ later_zeros b n xs h past ∙ ap (λ (m : ℕ). zeros (length xs - m)) is)

  -- or what is left of the old ones is zeroed
  pub rest_zeroed : (zs : List Entry) (k : ℕ) → n ≤ b → b ≤ length xs → k ≡ b - n → zs ≡ zeros k → put_mid n (b - n) ys zs ≡ padded (length xs) F
  rest_zeroed zs k h inside e z =
      let on : n + (b - n) ≡ b = omega arith in
      let all : k + (length xs - b) ≡ length xs - length F = omega (arith, is) in
      ap₂ (λ (x y : List Entry). x ++ (zs ++ y)) front
      (ap (drop (b - n)) rest ∙ drop-drop (b - n) n xs ∙ ap (λ (j : ℕ). drop j xs) on ∙ past)
      ∙ ap (λ (r : List Entry). F ++ r)
      (ap (λ (r : List Entry). r ++ zeros (length xs - b)) z ∙ replicate-append-replicate k (length xs - b) zero_entry ∙ ap zeros all)
