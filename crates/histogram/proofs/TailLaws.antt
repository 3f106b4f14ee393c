-- The pass over the levels: what one level tells of the buckets from it on.
use Rattle.std.proofs.Common.{◌≡◌, ℕ, zero, suc, ◌+◌, ◌-◌, ◌*◌, ◌%◌, ◌^◌, ◌<◌, ◌≤◌, Bool, true, false, cond, ◌&&◌, eqb, leb, ◌⊎◌, List, [], ◌∷◌, ◌++◌, length, get_or, take, drop, Some, None, Option, sym, refl, ap, ◌∙◌, subst, ap₂, inl, inr, mul-le-mul_right, mul-le-mul, add-one, arith, pow_mono}
use native.Mathlib.Nat.{two-pow-succ}
use Rattle.histogram.proofs.RaiseLaws.{drop-row}
use Rattle.histogram.specs.Raising.{of_size}
use Rattle.histogram.specs.Tails.{Level, Tail, level_end, levelled}
use Rattle.std.proofs.lemmas.List.{drop_more, get_or-take, length-drop, length-take-le, take-append-drop, take_more}
use Rattle.std.proofs.lemmas.Bool.{and_from, and_parts, cases_lt, cond-true, eq-eqb, eqb-true, le-leb, leb-true}
use Rattle.std.proofs.lemmas.Option.{cond_some, none-some}
use Rattle.theory.proofs.MergeLaws.{row-append}
use Rattle.theory.proofs.TopLaws.{length-row}
use Rattle.theory.specs.Buckets.{stamps, total}
use Rattle.theory.specs.Levels.{Canonical, Filled, flat, row}
use Rattle.theory.specs.Sound.{never_rise, zero_entry}
use Rattle.theory.specs.declared.entries.Entry.{Entry}

-- one bucket of a level
pub level_yes : (e last : ℕ) (b : Entry) (bs : List Entry) → b.exponent ≡ e → b.stamp ≤ last → levelled e last (b ∷ bs) ≡ levelled e b.stamp bs
level_yes e last b bs x s = ap₂ (λ (p t : Bool). (p && t) && levelled e b.stamp bs) (eq-eqb b.exponent e x) (le-leb b.stamp last s)

-- the stamp before what follows xs
abbrev pub last_stamp : ℕ → List Entry → ℕ
last_stamp s [] = s
last_stamp s (b ∷ bs) = last_stamp b.stamp bs

level_ends : (e s : ℕ) (xs : List Entry) → level_end e s xs ≡ cond (levelled e s xs) (Some (last_stamp s xs)) None
level_ends e s [] = refl
level_ends e s (x ∷ xs) = join (eqb x.exponent e && leb x.stamp s) (levelled e x.stamp xs) (last_stamp x.stamp xs) (level_end e x.stamp xs)
    (level_ends e x.stamp xs)
  where
    join : (p q : Bool) (t : ℕ) (o : Option ℕ) → o ≡ cond q (Some t) None → cond p o None ≡ cond (p && q) (Some t) None
    join true q t o h = h
    join false q t o h = refl

-- what the end of a level tells
pub level_end_some : (e s t : ℕ) (xs : List Entry) → Some t ≡ level_end e s xs → (levelled e s xs ≡ true) × (last_stamp s xs ≡ t)
level_end_some e s t xs h = cond_some (levelled e s xs) (last_stamp s xs) t (sym (h ∙ level_ends e s xs))

pub level_end_none : (e s : ℕ) (xs : List Entry) → None ≡ level_end e s xs → levelled e s xs ≡ true → ⊥
level_end_none e s xs h y = none-some (last_stamp s xs) (h ∙ level_ends e s xs ∙ cond-true (levelled e s xs) (Some (last_stamp s xs)) None y)

last_of : (s i : ℕ) (rest : List Entry) (d : Entry) → i < length rest → last_stamp s (take (suc i) rest) ≡ (get_or rest i d).stamp
last_of s i [] d h = absurd (omega arith)
last_of s zero (b ∷ rest) d h = refl
last_of s (suc i) (b ∷ rest) d h = last_of b.stamp i rest d (omega arith)

last_at : (s n : ℕ) (rest : List Entry) (d : Entry) → 1 ≤ n → n ≤ length rest → last_stamp s (take n rest) ≡ (get_or rest (n - 1) d).stamp
last_at s n rest d h g =
    let e : n ≡ suc (n - 1) = omega arith in
    ap (λ (k : ℕ). last_stamp s (take k rest)) e ∙ last_of s (n - 1) rest d (omega arith)

rise_split : (s : ℕ) (xs ys : List Entry) → never_rise s (xs ++ ys) ≡ true → never_rise (last_stamp s xs) ys ≡ true
rise_split s [] ys h = h
rise_split s (x ∷ xs) ys h = rise_split x.stamp xs ys (and_parts (leb x.stamp s) (never_rise x.stamp (xs ++ ys)) h).1

record Leveled (e s : ℕ) (x : Entry) (xs : List Entry) : Type 0 where
  same : x.exponent ≡ e
  falls : leb x.stamp s ≡ true
  rest : levelled e x.stamp xs ≡ true

level_says : (e s : ℕ) (x : Entry) (xs : List Entry) → levelled e s (x ∷ xs) ≡ true → Leveled e s x xs
level_says e s x xs h =
    let w = and_parts (eqb x.exponent e && leb x.stamp s) (levelled e x.stamp xs) h in
    let v = and_parts (eqb x.exponent e) (leb x.stamp s) w.0 in
    record { same = eqb-true x.exponent e v.0; falls = v.1; rest = w.1 }

rise_join : (e s : ℕ) (xs ys : List Entry) → levelled e s xs ≡ true → never_rise (last_stamp s xs) ys ≡ true → never_rise s (xs ++ ys) ≡ true
rise_join e s [] ys h g = g
rise_join e s (x ∷ xs) ys h g =
    let w = level_says e s x xs h in
    and_from (leb x.stamp s) (never_rise x.stamp (xs ++ ys)) w.falls (rise_join e x.stamp xs ys w.rest g)

level-row : (e s : ℕ) (xs : List Entry) → levelled e s xs ≡ true → xs ≡ row e (stamps xs) []
level-row e s [] h = refl
level-row e s (x ∷ xs) h =
    let w = level_says e s x xs h in
    ap₂ (λ (y : ℕ) (ys : List Entry). of_size y x.stamp ∷ ys) w.same (level-row e x.stamp xs w.rest)

level-push : (e s : ℕ) (xs : List Entry) (x : Entry) → levelled e s xs ≡ true → x.exponent ≡ e → x.stamp ≤ last_stamp s xs
    → levelled e s (xs ++ x ∷ []) ≡ true
level-push e s [] x h q le = level_yes e s x [] q le
level-push e s (y ∷ xs) x h q le =
    let w = level_says e s y xs h in
    level_yes e s y (xs ++ x ∷ []) w.same (leb-true y.stamp s w.falls) ∙ level-push e y.stamp xs x
    w.rest q le

-- one bucket more of the level
pub level_more : (e s n : ℕ) (rest : List Entry) (d : Entry) → levelled e s (take n rest) ≡ true → n < length rest
    → (get_or rest n d).exponent ≡ e → (get_or rest n d).stamp ≤ last_stamp s (take n rest) → levelled e s (take (n + 1) rest) ≡ true
level_more e s n rest d h lt q le =
    ap (levelled e s) (take_more rest n d lt) ∙ level-push e s (take n rest) (get_or rest n d) h q le

level_at : (e s : ℕ) (xs : List Entry) (k : ℕ) (d : Entry) → levelled e s xs ≡ true → k < length xs → (get_or xs k d).exponent ≡ e
level_at e s [] k d h lt = absurd (omega arith)
level_at e s (x ∷ xs) zero d h lt = (level_says e s x xs h).same
level_at e s (x ∷ xs) (suc k) d h lt = level_at e x.stamp xs k d (level_says e s x xs h).rest (omega arith)

pub level-total : (e s : ℕ) (xs : List Entry) → levelled e s xs ≡ true → total xs ≡ length xs * 2 ^ e
level-total e s [] h = omega arith
level-total e s (x ∷ xs) h =
    let w = level_says e s x xs h in
    omega (arith, ap (λ (y : ℕ). 2 ^ y) w.same, level-total e x.stamp xs w.rest)

length-stamps : (xs : List Entry) → length (stamps xs) ≡ length xs
length-stamps [] = refl
length-stamps (x ∷ xs) = omega (arith, length-stamps xs)

-- a row and what is older
row_front : (e s : ℕ) (ss : List ℕ) (older : List Entry) (m : ℕ) → m ≤ length ss → never_rise s (row e ss older) ≡ true
    → levelled e s (take m (row e ss older)) ≡ true
row_front e s ss older zero h g = refl
row_front e s [] older (suc m) h g = absurd (omega arith)
row_front e s (x ∷ ss) older (suc m) h g =
    let w = and_parts (leb x s) (never_rise x (row e ss older)) g in
    and_from (eqb e e && leb x s) (levelled e x (take m (row e ss older))) (and_from (eqb e e) (leb x s) (eq-eqb e e refl) w.0)
    (row_front e x ss older m (omega arith) w.1)

row_at : (e : ℕ) (ss : List ℕ) (older : List Entry) (k : ℕ) (d : Entry) → k < length ss → (get_or (row e ss older) k d).exponent ≡ e
row_at e [] older k d h = absurd (omega arith)
row_at e (s ∷ ss) older zero d h = refl
row_at e (s ∷ ss) older (suc k) d h = row_at e ss older k d (omega arith)

row_past : (e : ℕ) (ss : List ℕ) (older : List Entry) (d : Entry) → get_or (row e ss older) (length ss) d ≡ get_or older 0 d
row_past e [] older d = refl
row_past e (s ∷ ss) older d = row_past e ss older d

flat_first : (l e : ℕ) (levels : List (List ℕ)) (d : Entry) → Canonical l levels → 1 ≤ length (flat e levels) → (get_or (flat e levels) 0 d).exponent ≡ e
flat_first l e [] d c h = absurd (omega arith)
flat_first l e ([] ∷ rest) d c h = absurd (omega (arith, c.0))
flat_first l e ((s ∷ ss) ∷ rest) d c h = refl

-- the front of a level is told by the first l buckets
short_level : (l e : ℕ) (ss : List ℕ) (more : List (List ℕ)) → Filled l ss more → (m : ℕ) → m ≤ l
    → m ≤ length (row e ss (flat (suc e) more)) → m ≤ length ss
short_level l e ss [] f m a b = omega (arith, length-row e ss [])
short_level l e ss (next ∷ more) f m a b = omega (arith, f)

pub tail_front : (l r e s : ℕ) (rest : List Entry) → Tail l r e s rest → (m : ℕ) → m ≤ l → m ≤ length rest → levelled e s (take m rest) ≡ true
tail_front l r e s rest t m a b = go t.levels t.whole t.canonical t.falls
  where
    go : (ls : List (List ℕ)) → rest ≡ flat e ls → Canonical l ls → never_rise s rest ≡ true → levelled e s (take m rest) ≡ true
    go [] w c f = let z : m ≡ 0 = omega (arith, ap length w) in ap (λ (k : ℕ). levelled e s (take k rest)) z
    go (ss ∷ more) w c f =
        subst (λ (xs : List Entry). levelled e s (take m xs) ≡ true) (sym w)
        (row_front e s ss (flat (suc e) more) m (short_level l e ss more c.2 m a (omega (arith, ap length w)))
        (subst (λ (xs : List Entry). never_rise s xs ≡ true) w f))

-- a stamp that rises
pub tail_rises : (l r e s n : ℕ) (rest : List Entry) (d : Entry) → n < length rest
    → last_stamp s (take n rest) < (get_or rest n d).stamp → Tail l r e s rest → ⊥
tail_rises l r e s n rest d lt up t =
    let x : Entry = get_or rest n d in
    let front : never_rise (last_stamp s (take n rest)) (x ∷ drop (n + 1) rest) ≡ true =
    ap (never_rise (last_stamp s (take n rest))) (sym (drop_more rest n d lt))
    ∙ rise_split s (take n rest) (drop n rest) (ap (never_rise s) (take-append-drop n rest) ∙ t.falls) in
    omega (
      arith,
      up,
      leb-true x.stamp (last_stamp s (take n rest))
          (and_parts (leb x.stamp (last_stamp s (take n rest))) (never_rise x.stamp (drop (n + 1) rest)) front).0,
    )

-- one level on, and back
module _ (l r e s n : ℕ) (rest : List Entry) (v : Level l e s rest n) where
  whole_is : rest ≡ take n rest ++ drop n rest
  whole_is = sym (take-append-drop n rest)

  last_is : last_stamp s (take n rest) ≡ (get_or rest (n - 1) zero_entry).stamp
  last_is = last_at s n rest zero_entry v.some v.inside

  -- the level has n buckets
  level_is : (ss : List ℕ) (more : List (List ℕ)) → rest ≡ row e ss (flat (suc e) more) → Canonical l (ss ∷ more) → length ss ≡ n
  level_is ss more w c = exact (cases_lt (length ss) n) v.ends
    where
      sizes : length rest ≡ length ss + length (flat (suc e) more)
      sizes = ap length w ∙ length-row e ss (flat (suc e) more)

      -- the one after the level would have its exponent
      not_short : length ss < n → ⊥
      not_short lt =
          let at : (get_or rest (length ss) zero_entry).exponent ≡ e =
          subst (λ (x : Entry). x.exponent ≡ e) (get_or-take n rest (length ss) zero_entry lt)
          (level_at e s (take n rest) (length ss) zero_entry v.level (omega (arith, length-take-le n rest v.inside))) in
          let older : (get_or rest (length ss) zero_entry).exponent ≡ suc e =
          ap (λ (xs : List Entry). (get_or xs (length ss) zero_entry).exponent) w ∙ ap (λ (x : Entry). x.exponent)
          (row_past e ss (flat (suc e) more) zero_entry)
          ∙ flat_first l (suc e) more zero_entry c.3 (omega (arith, sizes, v.inside)) in
          omega (arith, at, older)

      exact : (length ss < n) ⊎ (n ≤ length ss) → (n ≡ l + 1) ⊎ ((n ≡ length rest) ⊎ ((get_or rest n zero_entry).exponent ≡ e → ⊥)) → length ss ≡ n
      exact (inl lt) q = absurd (not_short lt)
      exact (inr le) (inl q) = omega (arith, c.1)
      exact (inr le) (inr (inl q)) = omega (arith, sizes)
      exact (inr le) (inr (inr q)) = go (cases_lt n (length ss))
        where
          go : (n < length ss) ⊎ (length ss ≤ n) → length ss ≡ n
          go (inr x) = omega arith
          go (inl x) = absurd (q (ap (λ (xs : List Entry). (get_or xs n zero_entry).exponent) w ∙ row_at e ss (flat (suc e) more) n zero_entry x))

  pub tail_after : Tail l r e s rest → Tail l r (e + 1) (get_or rest (n - 1) zero_entry).stamp (drop n rest)
  tail_after t = go t.levels t.whole t.canonical t.tops
    where
      falls : never_rise (get_or rest (n - 1) zero_entry).stamp (drop n rest) ≡ true
      falls = subst (λ (x : ℕ). never_rise x (drop n rest) ≡ true) last_is
          (rise_split s (take n rest) (drop n rest) (subst (λ (xs : List Entry). never_rise s xs ≡ true) whole_is t.falls))

      go : (ls : List (List ℕ)) → rest ≡ flat e ls → Canonical l ls → e + length ls ≤ r + 1
          → Tail l r (e + 1) (get_or rest (n - 1) zero_entry).stamp (drop n rest)
      go [] w c h = absurd (omega (arith, ap length w, v.some, v.inside))
      go (ss ∷ more) w c h =
          let one : suc e ≡ e + 1 = omega arith in
          record {
            levels = more;
            whole = ap₂ (λ (k : ℕ) (xs : List Entry). drop k xs) (sym (level_is ss more w c)) w ∙ drop-row e ss (flat (suc e) more) ∙ ap
                (λ (x : ℕ). flat x more) one;
            canonical = c.3;
            falls = falls;
            tops = omega (arith, h);
          }

  pub tail_before : Tail l r (e + 1) (get_or rest (n - 1) zero_entry).stamp (drop n rest) → Tail l r e s rest
  tail_before t =
      let one : e + 1 ≡ suc e = omega arith in
      let ss : List ℕ = stamps (take n rest) in
      let len : length ss ≡ n = length-stamps (take n rest) ∙ length-take-le n rest v.inside in
      record {
        levels = ss ∷ t.levels;
        whole = whole_is ∙ ap₂ (λ (xs ys : List Entry). xs ++ ys) (level-row e s (take n rest) v.level)
            (t.whole ∙ ap (λ (x : ℕ). flat x t.levels) one) ∙ sym (row-append e ss (flat (suc e) t.levels));
        canonical = (omega (arith, len, v.some), omega (arith, len, v.few), fill t.levels t.whole t.canonical, t.canonical);
        falls = subst (λ (xs : List Entry). never_rise s xs ≡ true) (sym whole_is)
            (rise_join e s (take n rest) (drop n rest) v.level (subst (λ (x : ℕ). never_rise x (drop n rest) ≡ true) (sym last_is) t.falls));
        tops = omega (arith, t.tops);
      }
    where
      fill : (ls : List (List ℕ)) → drop n rest ≡ flat (e + 1) ls → Canonical l ls → Filled l (stamps (take n rest)) ls
      fill [] w c = tt
      fill (ss ∷ more) w c =
          omega (
            arith,
            length-stamps (take n rest),
            length-take-le n rest v.inside,
            v.filled (omega (arith, ap length w, length-drop n rest, length-row (e + 1) ss (flat (suc (e + 1)) more), c.0)),
          )

-- the start and the end of the pass
pub tail_end : (l r e s : ℕ) → e ≤ r + 1 → Tail l r e s []
tail_end l r e s h = record { levels = []; whole = refl; canonical = tt; falls = refl; tops = omega arith }

pub tail_over : (l r e s : ℕ) (rest : List Entry) → 1 ≤ length rest → r < e → Tail l r e s rest → ⊥
tail_over l r e s rest h g t = go t.levels t.whole t.tops
  where
    go : (ls : List (List ℕ)) → rest ≡ flat e ls → e + length ls ≤ r + 1 → ⊥
    go [] w q = omega (arith, ap length w)
    go (ss ∷ more) w q = omega arith

-- the sum of the sizes, one level on: it fits a word
pub record Summed (l e n sizes : ℕ) : Type 0 where
  pub shifted : (n * 2 ^ e) % 2 ^ 64 ≡ n * 2 ^ e
  pub bounded : (sizes + n * 2 ^ e) + (l + 1) ≤ (l + 1) * 2 ^ (e + 1)
  pub fits : sizes + n * 2 ^ e < 2 ^ 64

pub summed : (l e n sizes : ℕ) → n ≤ l + 1 → e ≤ 30 → l ≤ 16 → sizes + (l + 1) ≤ (l + 1) * 2 ^ e → Summed l e n sizes
summed l e n sizes few small half h =
    let m : n * 2 ^ e ≤ (l + 1) * 2 ^ e = mul-le-mul_right (2 ^ e) few in
    let p : 2 ^ e ≤ 2 ^ 30 = pow_mono small in
    let w : l + 1 ≤ 17 = omega arith in
    let b : (l + 1) * 2 ^ e ≤ 17 * 2 ^ 30 = mul-le-mul w p in
    let up : (l + 1) * 2 ^ (e + 1) ≡ (l + 1) * 2 ^ e + (l + 1) * 2 ^ e = rw (add-one e, two-pow-succ e) (omega arith) in
    record {
      shifted = omega (arith, m, b);
      bounded = omega (arith, m, up);
      fits = omega (arith, m, b);
    }
