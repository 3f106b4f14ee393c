-- Laws of texts: one reading, what the definitions find, and that an answer is pinned by its causes.
use Rattle.std.proofs.Common.{◌≡◌, ℕ, zero, suc, ◌+◌, ◌-◌, ◌*◌, ◌<◌, ◌≤◌, Bool, true, false, cond, ◌&&◌, List, [], ◌∷◌, ◌++◌, length, drop, Some, None, Ok, Err, sum_by, Option, Result, sym, refl, ap, ◌∙◌, subst, ⊎_elim, append_assoc, append-nil, arith, length-append, length-drop, MatchOption}
use Rattle.std.proofs.ByRecursion.{All-push}
use Rattle.std.proofs.lemmas.List.Prefix.{front_rest}
use Rattle.std.proofs.lemmas.List.{append_cancel_left, flat_map_more, nil_from_length}
use Rattle.std.proofs.lemmas.List.Sums.{sum_by_push}
use Rattle.std.proofs.lemmas.Bool.{cond_both, cases_lt, eqb-true, eqb-false, leb-true, le-leb, ltb-true, ltb-false, false≢true}
use Rattle.std.proofs.lemmas.Bool.Decides.{Decides-and, Decides-or, Decides-eqb, Decides-ltb, Decides-like}
use Rattle.std.specs.Bool.{Decides}
use Rattle.std.specs.List.{AllByRecursion}
use Rattle.text.specs.Characters.{Begins, NoneBegins}
use Rattle.text.specs.Encoding.{Scalar, encode, encode_all, Spells, WellFormed}
use Rattle.text.specs.Texts.{Reading, OneReading, OneSpelling, Weighs, FailsAt, Answered, starts_with, is_scalar, first_below, first_character, characters_up_to, characters, weighed}
use Rattle.text.specs.declared.faults.TextFault.{TextFault}
use Rattle.text.specs.declared.faults.TextFault.TheVariants.{TooLong, Malformed}
use Rattle.text.proofs.EncodingLaws.{begins_shape, one_begins}

-- a character has a byte at least
pub begins_long : (s : List ℕ) (c : ℕ) → Begins s c → 1 ≤ length s
begins_long s c b = let h = begins_shape s c b in omega arith

pub encode_long : (c : ℕ) → Scalar c → 1 ≤ length (encode c)
encode_long c h = begins_long (encode c) c (h, ([], sym (append-nil (encode c))))

pub none_begins_nil : NoneBegins []
none_begins_nil c b = let h = begins_long [] c b in omega arith

-- a reading that has a character begins with it
first_begins : (s : List ℕ) (c : ℕ) (cs rest : List ℕ) → AllByRecursion Scalar (c ∷ cs) → s ≡ encode_all (c ∷ cs) ++ rest → Begins s c
first_begins s c cs rest h e = (h.0, (encode_all cs ++ rest, e ∙ append_assoc (encode c) (encode_all cs) rest))

pub one_reading : OneReading
unfolding first_begins
one_reading s [] rest [] other p q = (refl, sym p.split ∙ q.split)
one_reading s [] rest (d ∷ ds) other p q = absurd (p.stops d (subst (λ (l : List ℕ). Begins l d) p.split (first_begins s d ds other q.scalars q.split)))
one_reading s (c ∷ cs) rest [] other p q = absurd (q.stops c (subst (λ (l : List ℕ). Begins l c) q.split (first_begins s c cs rest p.scalars p.split)))
one_reading s (c ∷ cs) rest (d ∷ ds) other p q =
    let b = first_begins s c cs rest p.scalars p.split in
    let b' = first_begins s d ds other q.scalars q.split in
    let same : c ≡ d = one_begins s c d b b' in
    let left : encode_all cs ++ rest ≡ encode_all ds ++ other =
    append_cancel_left (encode c) (encode_all cs ++ rest) (encode_all ds ++ other)
    (sym b.1.1 ∙ b'.1.1 ∙ ap (λ x. encode x ++ (encode_all ds ++ other)) (sym same)) in
    let on = one_reading (encode_all cs ++ rest) cs rest ds other
    (record { scalars = p.scalars.1; split = refl; stops = p.stops })
    (record { scalars = q.scalars.1; split = left; stops = q.stops }) in
    ((λ i. same i ∷ on.0 i), on.1)

-- a spelled text is read to its end
pub spells_reading : (s cs : List ℕ) → Spells cs s → Reading s cs []
spells_reading s cs h = record { scalars = h.0; split = sym h.1 ∙ sym (append-nil (encode_all cs)); stops = none_begins_nil }

pub one_spelling : OneSpelling
one_spelling s cs ds p q = (one_reading s cs [] ds [] (spells_reading s cs p) (spells_reading s ds q)).0

-- the tests of the definitions decide what they are named for
starts_decides : (p s : List ℕ) → Decides (starts_with p s) ((rest : List ℕ) × (s ≡ p ++ rest))
starts_decides [] s = (λ _. (s, refl), λ _. refl)
starts_decides (b ∷ p) [] = (λ h. cc, λ h. let e = h.1 in cc)
starts_decides (b ∷ p) (x ∷ s) =
    Decides-like _ (λ h. (h.1.0, (λ i. sym h.0 i ∷ h.1.1 i))) (λ h. let e = h.1 in (cc, (h.0, cc))) (Decides-and _ _ (Decides-eqb b x) (starts_decides p s))

scalar_decides : (c : ℕ) → Decides (is_scalar c) (Scalar c)
scalar_decides c = Decides-and _ _ (leb-true c 0x10FFFF, le-leb c 0x10FFFF) (Decides-or _ _ (Decides-ltb c 0xD800) (Decides-ltb 0xDFFF c))

begins_test : List ℕ → ℕ → Bool
begins_test s c = is_scalar c && starts_with (encode c) s

begins_decides : (s : List ℕ) (c : ℕ) → Decides (begins_test s c) (Begins s c)
unfolding begins_test
begins_decides s c = Decides-and _ _ (scalar_decides c) (starts_decides (encode c) s)

-- what is found is a character that begins s, and where none is found none below n does
abbrev Found : ℕ → List ℕ → Option ℕ → Type 0
Found n s r = MatchOption r ((c : ℕ) → c < n → Begins s c → ⊥) (Begins s)

found_more : (n : ℕ) (s : List ℕ) (r : Option ℕ) (b : Bool) → b ≡ begins_test s n → Found n s r → Found (suc n) s (cond b (Some n) r)
found_more n s r true e h = (begins_decides s n).0 (sym e)
found_more n s (Some c) false e h = h
found_more n s None false e h = λ c l b. ⊎_elim (λ below. h c below b)
    (λ above. false≢true (e ∙ ap (begins_test s) (let same : n ≡ c = omega arith in same) ∙ (begins_decides s c).1 b)) (cases_lt c n)

first_below_lem : (n : ℕ) (s : List ℕ) → Found n s (first_below n s)
unfolding first_below begins_test
first_below_lem zero s = λ c l b. omega arith
first_below_lem (suc n) s = found_more n s (first_below n s) (begins_test s n) refl (first_below_lem n s)

none_from_found : (n : ℕ) (s : List ℕ) (r : Option ℕ) → n ≡ 0x110000 → Found n s r → MatchOption r (NoneBegins s) (Begins s)
none_from_found n s (Some c) e h = h
none_from_found n s None e h = λ c b. let known = b.0.0 in h c (omega arith) b

pub first_character_lem : (s : List ℕ) → MatchOption (first_character s) (NoneBegins s) (Begins s)
unfolding first_character
first_character_lem s = none_from_found 0x110000 s (first_below 0x110000 s) refl (first_below_lem 0x110000 s)

-- a reading with one character more in front
reading_cons : (s : List ℕ) (c : ℕ) (cs rest : List ℕ) → Begins s c → Reading (drop (length (encode c)) s) cs rest → Reading s (c ∷ cs) rest
reading_cons s c cs rest b h =
    let back : drop (length (encode c)) s ≡ b.1.0 = front_rest s (encode c) b.1.0 b.1.1 in
    record {
      scalars = (b.0, h.scalars);
      split = b.1.1 ∙ ap (λ (l : List ℕ). encode c ++ l) (sym back ∙ h.split) ∙ sym (append_assoc (encode c) (encode_all cs) rest);
      stops = h.stops;
    }

-- one character more of those that the definition finds, or the end of them
step : (n : ℕ) (s : List ℕ) (r : Option ℕ) → MatchOption r (NoneBegins s) (Begins s) → length s ≤ suc n
    → ((t : List ℕ) → length t ≤ n → (rest : List ℕ) × Reading t (characters_up_to n t) rest)
    → (rest : List ℕ) × Reading s (elim r [ Some c ↦ c ∷ characters_up_to n (drop (length (encode c)) s) | None ↦ [] ]) rest
step n s None none long on = (s, record { scalars = tt; split = refl; stops = none })
step n s (Some c) b long on =
    let t = drop (length (encode c)) s in
    let h = on t (omega (arith, length-drop (length (encode c)) s, encode_long c b.0)) in
    (h.0, reading_cons s c (characters_up_to n t) h.0 b h.1)

up_to_reading : (n : ℕ) (s : List ℕ) → length s ≤ n → (rest : List ℕ) × Reading s (characters_up_to n s) rest
unfolding characters_up_to
up_to_reading zero s long = ([], record { scalars = tt; split = nil_from_length s (omega arith); stops = none_begins_nil })
up_to_reading (suc n) s long = step n s (first_character s) (first_character_lem s) long (up_to_reading n)

pub characters_reading : (s : List ℕ) → (rest : List ℕ) × Reading s (characters s) rest
unfolding characters
characters_reading s = up_to_reading (length s) s (omega arith)

-- an answer by its cases
abbrev pub Verdict : {T : Type 0} → (T → Type 0) → List ℕ → Result T TextFault → Type 0
Verdict Value s (Ok v) = (length s ≤ 240) × Value v
Verdict Value s (Err TooLong) = 240 < length s
Verdict Value s (Err (Malformed at)) = (length s ≤ 240) × FailsAt s at

fails_once : (s : List ℕ) (at at' : ℕ) → FailsAt s at → FailsAt s at' → at ≡ at'
fails_once s at at' (cs, rest, p, _, e) (ds, other, q, _, e') = e ∙ ap (λ (l : List ℕ). length (encode_all l)) (one_reading s cs rest ds other p q).0 ∙ sym e'

formed_never_fails : (s : List ℕ) (at : ℕ) → WellFormed s → FailsAt s at → ⊥
formed_never_fails s at (cs, h) (ds, other, q, some, _) =
    let left : [] ≡ other = (one_reading s cs [] ds other (spells_reading s cs h) q).1 in omega (arith, ap length left)

-- only one answer has its cause, and so the cases are equivalences
module _ {T : Type 0} (Value : T → Type 0) (s : List ℕ) (one : (v u : T) → Value v → Value u → v ≡ u) (formed : (v : T) → Value v → WellFormed s) where
  one_verdict : (r q : Result T TextFault) → Verdict Value s r → Verdict Value s q → r ≡ q
  one_verdict (Ok v) (Ok u) p h = ap Ok (one v u p.1 h.1)
  one_verdict (Ok v) (Err TooLong) p h = absurd (omega arith)
  one_verdict (Ok v) (Err (Malformed at)) p h = absurd (formed_never_fails s at (formed v p.1) h.1)
  one_verdict (Err TooLong) (Ok u) p h = absurd (omega arith)
  one_verdict (Err TooLong) (Err TooLong) p h = refl
  one_verdict (Err TooLong) (Err (Malformed at)) p h = absurd (omega arith)
  one_verdict (Err (Malformed at)) (Ok u) p h = absurd (formed_never_fails s at (formed u h.1) p.1)
  one_verdict (Err (Malformed at)) (Err TooLong) p h = absurd (omega arith)
  one_verdict (Err (Malformed at)) (Err (Malformed at')) p h = ap (λ (k : ℕ). Err (Malformed k)) (fails_once s at at' p.1 h.1)

  pub answered : (r : Result T TextFault) → Verdict Value s r → Answered Value s r
  answered r h = record {
    accepts = λ v. (λ e. subst (Verdict Value s) e h, λ p. one_verdict r (Ok v) h p);
    too_long = (λ e. subst (Verdict Value s) e h, λ p. one_verdict r (Err TooLong) h p);
    malformed = λ at. (λ e. subst (Verdict Value s) e h, λ p. one_verdict r (Err (Malformed at)) h p);
  }

pub one_weight : (w : ℕ → ℕ) (s : List ℕ) (v u : ℕ) → Weighs w s v → Weighs w s u → v ≡ u
one_weight w s v u (cs, p, e) (ds, q, e') = e ∙ ap (sum_by w) (one_spelling s cs ds p q) ∙ sym e'

-- characters to the end of s spell it
spelled : (s cs rest : List ℕ) → AllByRecursion Scalar cs → s ≡ encode_all cs ++ rest → length rest ≡ 0 → Spells cs s
spelled s cs rest scalars split end = (scalars, sym (split ∙ ap (λ l. encode_all cs ++ l) (nil_from_length rest (omega arith)) ∙ append-nil (encode_all cs)))

-- the defined answer has its cause
all_read : (s cs rest : List ℕ) → Reading s cs rest → length (encode_all cs) ≡ length s → Spells cs s
all_read s cs rest h e = spelled s cs rest h.scalars h.split (omega (arith, ap length h.split, length-append (encode_all cs) rest))

some_left : (s cs rest : List ℕ) → Reading s cs rest → (length (encode_all cs) ≡ length s → ⊥) → FailsAt s (length (encode_all cs))
some_left s cs rest h short =
    (cs, rest, h, ⊎_elim (λ l. l) (λ l. absurd (short (omega (arith, ap length h.split, length-append (encode_all cs) rest)))) (cases_lt 0 (length rest)), refl)

pub weighed-verdict : (w : ℕ → ℕ) (s : List ℕ) → Verdict (Weighs w s) s (weighed w s)
unfolding weighed
weighed-verdict w s =
    let cs = characters s in
    let h = characters_reading s in
    cond_both _ (Err TooLong) _ (Verdict (Weighs w s) s) (ltb-true 240 (length s))
    (λ e.
    let short = ltb-false 240 (length s) e in
    cond_both _ (Ok (sum_by w cs)) (Err (Malformed (length (encode_all cs)))) (Verdict (Weighs w s) s) (λ all. (short, (cs, all_read s cs h.0 h.1 (eqb-true _ _ all), refl)))
    (λ some. (short, some_left s cs h.0 h.1 (eqb-false _ _ some))))

pub verdict-weighed : (w : ℕ → ℕ) (s : List ℕ) (r : Result ℕ TextFault) → Verdict (Weighs w s) s r → r ≡ weighed w s
verdict-weighed w s r h = one_verdict (Weighs w s) s (one_weight w s) (λ v p. (p.0, p.1)) r (weighed w s) h (weighed-verdict w s)

-- an answer that has its cause is the defined one, and tells its cause exactly
pub record Told (w : ℕ → ℕ) (s : List ℕ) (r : Result ℕ TextFault) : Type 0 where
  pub value : r ≡ weighed w s
  pub exact : Answered (Weighs w s) s r

pub weight_answered : (w : ℕ → ℕ) (s : List ℕ) (r : Result ℕ TextFault) → Verdict (Weighs w s) s r → Answered (Weighs w s) s r
weight_answered w s = answered (Weighs w s) s (one_weight w s) (λ v p. (p.0, p.1))

pub told : (w : ℕ → ℕ) (s : List ℕ) (r : Result ℕ TextFault) → Verdict (Weighs w s) s r → Told w s r
told w s r h = record { value = verdict-weighed w s r h; exact = weight_answered w s r h }

-- what the loop has read of s: the characters up to rest, which weigh total
pub record Sofar (w : ℕ → ℕ) (s rest : List ℕ) (total : ℕ) : Type 0 where
  pub cs : List ℕ
  pub scalars : AllByRecursion Scalar cs
  pub split : s ≡ encode_all cs ++ rest
  pub long : length s ≡ length (encode_all cs) + length rest
  pub sum : total ≡ sum_by w cs
  pub few : total ≤ 4 * length (encode_all cs)

-- one character more
pub sofar_more : (w : ℕ → ℕ) (s rest : List ℕ) (total c n : ℕ) → w c ≤ 4 → Sofar w s rest total → Begins rest c → n ≡ length (encode c) → Sofar w s (drop n rest) (total + w c)
sofar_more w s rest total c n small h b e =
    let some = encode_long c b.0 in
    let left : rest ≡ encode c ++ drop n rest = b.1.1 ∙ ap (λ t. encode c ++ t) (sym (ap (λ k. drop k rest) e ∙ front_rest rest (encode c) b.1.0 b.1.1)) in
    let more : encode_all h.cs ++ encode c ≡ encode_all (h.cs ++ c ∷ []) = flat_map_more encode [] h.cs c in
    let split : s ≡ encode_all (h.cs ++ c ∷ []) ++ drop n rest =
    h.split ∙ ap (λ l. encode_all h.cs ++ l) left ∙ sym (append_assoc (encode_all h.cs) (encode c) (drop n rest)) ∙ ap (λ l. l ++ drop n rest) more in
    let long : length (encode_all (h.cs ++ c ∷ [])) ≡ length (encode_all h.cs) + length (encode c) = sym (ap length more) ∙ length-append (encode_all h.cs) (encode c) in
    record {
      cs = h.cs ++ c ∷ [];
      scalars = All-push Scalar h.cs c h.scalars b.0;
      split = split;
      long = ap length split ∙ length-append (encode_all (h.cs ++ c ∷ [])) (drop n rest);
      sum = ap (λ k. k + w c) h.sum ∙ sym (sum_by_push w h.cs c);
      few = omega arith;
    }

pub sofar_all : (w : ℕ → ℕ) (s rest : List ℕ) (total : ℕ) → length s ≤ 240 → Sofar w s rest total → length rest ≡ 0 → Told w s (Ok total)
sofar_all w s rest total short h end = told w s (Ok total) (short, (h.cs, spelled s h.cs rest h.scalars h.split end, h.sum))

pub sofar_fails : (w : ℕ → ℕ) (s rest : List ℕ) (at total : ℕ) → length s ≤ 240 → Sofar w s rest total → 0 < length rest → NoneBegins rest → at ≡ length s - length rest → Told w s (Err (Malformed at))
sofar_fails w s rest at total short h some none e = told w s (Err (Malformed at))
    (short, (h.cs, rest, record { scalars = h.scalars; split = h.split; stops = none }, some, omega arith))

pub answered_verdict : {T : Type 0} (Value : T → Type 0) (s : List ℕ) (r : Result T TextFault) → Answered Value s r → Verdict Value s r
answered_verdict Value s (Ok v) h = (h.accepts v).0 refl
answered_verdict Value s (Err TooLong) h = h.too_long.0 refl
answered_verdict Value s (Err (Malformed at)) h = (h.malformed at).0 refl

-- a text that is weighed passes the check, and one that is refused fails it for the same cause
module _ (w : ℕ → ℕ) (s : List ℕ) where
  abbrev Formed : Unit {0} → Type 0
  Formed _ = WellFormed s

  pub formed_answered : (r : Result (Unit {0}) TextFault) → Verdict Formed s r → Answered Formed s r
  formed_answered = answered Formed s (λ _ _ _ _. refl) (λ _ h. h)

  pub check_passes : (v : ℕ) → Answered (Weighs w s) s (Ok v) → Answered Formed s (Ok tt)
  check_passes v h = let p = answered_verdict (Weighs w s) s (Ok v) h in formed_answered (Ok tt) (p.0, (p.1.0, p.1.1))

  check_cause : (fault : TextFault) → Verdict (Weighs w s) s (Err fault) → Verdict Formed s (Err fault)
  check_cause TooLong h = h
  check_cause (Malformed at) h = h

  pub check_fails : (fault : TextFault) → Answered (Weighs w s) s (Err fault) → Answered Formed s (Err fault)
  check_fails fault h = formed_answered (Err fault) (check_cause fault (answered_verdict (Weighs w s) s (Err fault) h))

-- a text that is too long is refused unread
pub weighed_too_long : (w : ℕ → ℕ) (s : List ℕ) → 240 < length s → weighed w s ≡ Err TooLong
weighed_too_long w s long = sym (verdict-weighed w s (Err TooLong) long)
