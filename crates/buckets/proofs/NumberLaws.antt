-- Laws of reading a number digit by digit.
use Rattle.std.proofs.Common.{◌≡◌, ℕ, zero, suc, ◌+◌, ◌-◌, ◌*◌, ◌^◌, ◌<◌, ◌≤◌, List, length, get_or, take, Some, None, decimal, sym, refl, ap, ◌∙◌, subst, ⊎_elim, arith}
use Rattle.buckets.specs.Numbers.{Spells, number_below, number_up_to, NumberRead}
use Rattle.std.proofs.lemmas.Fmt.{digits_decimal, digits_value-decimal, decimal-digits_value, decimal_nonempty, first_decimal, decimal_digit, decimal_injective}
use Rattle.std.proofs.lemmas.Int.Digits.{digits_value_more, digits_more}
use Rattle.std.proofs.lemmas.Slice.Eq.{bytes_eq-Decides}
use Rattle.std.proofs.lemmas.List.{take_all}
use Rattle.std.proofs.lemmas.Str.Parse.{IsNumeralModel, numerals_by_value, tells_digits, tells_by_index, digits_value-take-le}
use Rattle.std.proofs.lemmas.Bool.{cond-true, cond-false, cond_both, both_ways, lt-ltb, le-ltb, cases_lt}
use Rattle.std.specs.Str.Parse.{AllDigits, digits_value}
use Rattle.std.specs.Int.{IsInRange}
use Rattle.std.specs.Char.{digit_value}
use Rattle.std.specs.Str.{bytes_eq}

own : IsNumeralModel (AllDigits 10) (digits_value 10)
own = numerals_by_value (AllDigits 10) tells_digits

digit_is : (c : ℕ) → 48 ≤ c → c ≤ 57 → digit_value c ≡ c - 48
digit_is c g h = cond-false _ _ _ (le-ltb c 48 g) ∙ cond-true _ _ _ (lt-ltb c 58 (omega arith))

-- a line spells one number at most, which is found among all of them
below_some : (line : List ℕ) (m n : ℕ) → m ≤ 2 ^ 64 → n < m → Spells line n → number_below m line ≡ Some n
unfolding number_below
below_some line zero n fits l e = absurd (omega arith)
below_some line (suc k) n fits l e =
    let tells = bytes_eq-Decides line (decimal k) in
    cond_both (bytes_eq line (decimal k)) (Some k) (number_below k line) (λ o. o ≡ Some n)
    (λ t. ap Some (decimal_injective k n (omega arith) (omega arith) (sym (tells.0 t) ∙ e)))
    (λ f. let other : n ≡ k → ⊥ = λ same. both_ways _ f (tells.1 (e ∙ ap decimal same)) in below_some line k n (omega arith) (omega arith) e)

below_none : (line : List ℕ) (m : ℕ) → ((n : ℕ) → n < m → Spells line n → ⊥) → number_below m line ≡ None
unfolding number_below
below_none line zero none = refl
below_none line (suc k) none =
    cond_both (bytes_eq line (decimal k)) (Some k) (number_below k line) (λ o. o ≡ None)
    (λ t. absurd (none k (omega arith) ((bytes_eq-Decides line (decimal k)).0 t)))
    (λ _. below_none line k (λ n l. none n (omega arith)))

-- what the loop has read: i digits, and the number that they come to, which is within bounds
pub record Begun (line : List ℕ) (most i number : ℕ) : Type 0 where
  pub within : i ≤ length line
  pub digits : AllDigits 10 (take i line)
  pub is : number ≡ digits_value 10 (take i line)
  pub small : number ≤ most

module _ (line : List ℕ) (most : ℕ) (fits : most < 2 ^ 64) where
  found : (n : ℕ) → n ≤ most → Spells line n → NumberRead line most (Some n)
  unfolding number_up_to
  found n le e = record {
    number = λ m. (
      λ p. let same : n ≡ m = cc in (omega arith, e ∙ ap decimal same),
      λ q. ap Some (decimal_injective n m (omega arith) (omega (arith, q.0)) (sym e ∙ q.1)),
    );
    nothing = (λ p. cc, λ none. absurd (none n le e));
    value = sym (below_some line (suc most) n (omega arith) (omega arith) e);
  }

  refused : ((n : ℕ) → n ≤ most → Spells line n → ⊥) → NumberRead line most None
  unfolding number_up_to
  refused none = record {
    number = λ m. (λ p. cc, λ q. absurd (none m q.0 q.1));
    nothing = (λ _. none, λ _. refl);
    value = sym (below_none line (suc most) (λ n l. none n (omega arith)));
  }

  pub refused_empty : length line ≡ 0 → NumberRead line most None
  refused_empty h = refused (λ n le e. omega (arith, decimal_nonempty n (omega arith), ap length e))

  -- only 0 begins with a zero
  pub refused_zero : get_or line 0 0 ≡ 48 → 1 < length line → NumberRead line most None
  refused_zero h long = refused (λ n le e.
      let first : get_or line 0 0 ≡ get_or (decimal n) 0 0 = ap (λ (l : List ℕ). get_or l 0 0) e in
      ⊎_elim (λ (l : n < 1). omega (arith, ap length (e ∙ decimal_digit n (omega arith))))
      (λ (g : 1 ≤ n). omega (arith, first, first_decimal n g (omega arith))) (cases_lt n 1))

  pub refused_byte : (i : ℕ) → i < length line → (IsInRange 48 57 (get_or line i 0) → ⊥) → NumberRead line most None
  refused_byte i l none = refused (λ n le e.
      none (subst (λ (ds : List ℕ). IsInRange 48 57 (get_or ds i 0)) (sym e)
      (digits_decimal (numerals_by_value _ tells_by_index) n (omega arith) i (omega (arith, ap length e)))))

  begun_value : (i number : ℕ) → Begun line most i number → i < length line → 48 ≤ get_or line i 0 → get_or line i 0 ≤ 57
      → number * 10 + (get_or line i 0 - 48) ≡ digits_value 10 (take (i + 1) line)
  begun_value i number h l g k =
      (λ j. h.is j * 10 + sym (digit_is (get_or line i 0) g k) j) ∙ sym (digits_value_more 10 line i l)

  pub refused_passed : (i number : ℕ) → Begun line most i number → i < length line → 48 ≤ get_or line i 0 → get_or line i 0 ≤ 57
      → most < number * 10 + (get_or line i 0 - 48) → NumberRead line most None
  refused_passed i number h l g k passed = refused (λ n le e.
      omega (arith, begun_value i number h l g k, digits_value-take-le 10 line (i + 1) (omega arith), ap (digits_value 10) e, digits_value-decimal own n (omega arith)))

  pub begun_more : (i number : ℕ) → Begun line most i number → i < length line → 48 ≤ get_or line i 0 → get_or line i 0 ≤ 57
      → number * 10 + (get_or line i 0 - 48) ≤ most → Begun line most (i + 1) (number * 10 + (get_or line i 0 - 48))
  begun_more i number h l g k small = record {
    within = omega arith;
    digits = digits_more 10 line i l h.digits (omega (arith, digit_is (get_or line i 0) g k));
    is = begun_value i number h l g k;
    small = small;
  }

  pub begun_all : (i number : ℕ) → Begun line most i number → length line ≤ i → 0 < length line → (get_or line 0 0 ≡ 48 → length line ≡ 1)
      → NumberRead line most (Some number)
  begun_all i number h l some lead =
      let all = take_all i line l in
      let digits : AllDigits 10 line = subst (AllDigits 10) all h.digits in
      let is : number ≡ digits_value 10 line = h.is ∙ ap (digits_value 10) all in
      found number h.small (sym (ap decimal is ∙ decimal-digits_value own line digits some lead (omega (arith, h.small))))
