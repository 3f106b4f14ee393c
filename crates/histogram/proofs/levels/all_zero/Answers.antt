use Rattle.std.proofs.Common.{◌≡◌, ℕ, Bool, true, false, ◌&&◌, eqb, List, [], ◌∷◌, map, fold, Bor, refl, sym, ap, ap₂, ◌∙◌, inl, inr, arith, rules}
use lib.Bits.{bit_or}
use Rattle.std.proofs.lemmas.Bool.{cases_eq, eq-eqb, ne_eqb}
use Rattle.std.proofs.lemmas.List.Folds.{fold-map}
use Rattle.std.proofs.lemmas.Nat.{le_or_l}
use Rattle.std.specs.Int.Bits.{or_zero_l}
use Rattle.theory.specs.Sound.{every, is_zero}
use Rattle.theory.specs.declared.entries.Entry.{Entry}
use Rattle.histogram.proofs.levels.all_zero.Goals as goal

abbrev gathered : ℕ × ℕ → Entry → ℕ × ℕ
gathered bits b = (bit_or bits.0 b.stamp, bit_or bits.1 b.exponent)

-- a disjunction is 0 exactly when both are
or_test : (a b : ℕ) → eqb (bit_or a b) 0 ≡ (eqb a 0 && eqb b 0)
or_test a b =
    elim (cases_eq a 0) [
      | inl e ↦ ap (λ (x : ℕ). eqb (bit_or x b) 0) e ∙ ap (λ (x : ℕ). eqb x 0) (or_zero_l b)
          ∙ ap (λ (x : Bool). x && eqb b 0) (sym (eq-eqb a 0 e))
      | inr n ↦ ne_eqb (bit_or a b) 0 (λ z. n (omega (arith, le_or_l a b, z))) ∙ ap (λ (x : Bool). x && eqb b 0) (sym (ne_eqb a 0 n))
    ]

abbrev none : ℕ × ℕ → Bool
none bits = eqb bits.0 0 && eqb bits.1 0

bits_tell : (bits : ℕ × ℕ) (xs : List Entry) → none (fold gathered bits xs) ≡ (none bits && every is_zero xs)
bits_tell bits [] = and_true (none bits)
  where
    and_true : (p : Bool) → p ≡ (p && true)
    and_true true = refl
    and_true false = refl
bits_tell bits (x ∷ xs) =
    bits_tell (gathered bits x) xs
    ∙ ap₂ (λ (p q : Bool). (p && q) && every is_zero xs) (or_test bits.0 x.stamp) (or_test bits.1 x.exponent)
    ∙ regroup (eqb bits.0 0) (eqb x.stamp 0) (eqb bits.1 0) (eqb x.exponent 0) (every is_zero xs)
  where
    regroup : (p q r s t : Bool) → (((p && q) && (r && s)) && t) ≡ ((p && r) && ((q && s) && t))
    regroup true true true s t = refl
    regroup true true false s t = refl
    regroup true false true s t = refl
    regroup true false false s t = refl
    regroup false q r s t = refl

pub returns : goal.returns
returns c =
    let xs = c.args.part.now in
    let run = c.fold-stamps.ensures.runs in
    let items : map (λ (y : Bor Entry). y.now) run.0.items ≡ xs = search rules in
    let bits : c.fold-stamps.result ≡ fold (λ (a : ℕ × ℕ) (y : Bor Entry). gathered a y.now) (0, 0) run.0.items =
    run.3 (λ (a : ℕ × ℕ) (y : Bor Entry). gathered a y.now) (λ x y r f' k. search rules) in
    let all : c.fold-stamps.result ≡ fold gathered (0, 0) xs =
    bits ∙ sym (fold-map gathered (λ (y : Bor Entry). y.now) (0, 0) run.0.items) ∙ ap (fold gathered (0, 0)) items in
    record { value = or_test c.fold-stamps.result.0 c.fold-stamps.result.1 ∙ ap none all ∙ bits_tell (0, 0) xs }
