-- Laws of the encoding: the bytes of each length, what a text begins with, and that the language's library agrees.
use Rattle.std.proofs.Common.{◌≡◌, ℕ, ◌+◌, ◌-◌, ◌*◌, ◌/◌, ◌%◌, ◌<◌, ◌≤◌, ◌⊎◌, List, [], ◌∷◌, ◌++◌, length, get_or, drop, Ok, Err, Result, sym, refl, ap, ◌∙◌, subst, inl, inr, ⊎_elim, arith}
use Rattle.std.proofs.Math.Seq.{drop-cons}
use Rattle.std.proofs.lemmas.Bool.{cases_lt}
use Rattle.std.proofs.lemmas.Bool.Decides.{nat_tests}
use Rattle.text.specs.Characters.{Begins, Reads, ReadsExactly, OneBegins}
use Rattle.text.specs.Encoding.{later, encode}
use Rattle.text.specs.declared.faults.TextFault.{TextFault}
use Rattle.text.specs.declared.faults.TextFault.TheVariants.{Malformed}

pub encode_one : (c : ℕ) → c ≤ 0x7F → encode c ≡ c ∷ []
encode_one c h = grind (arith, nat_tests)

pub encode_two : (c : ℕ) → 0x7F < c → c ≤ 0x7FF → encode c ≡ (0b1100_0000 + c / 64) ∷ later c ∷ []
encode_two c g h = grind (arith, nat_tests)

pub encode_three : (c : ℕ) → 0x7FF < c → c ≤ 0xFFFF → encode c ≡ (0b1110_0000 + c / 64 / 64) ∷ later (c / 64) ∷ later c ∷ []
encode_three c g h = grind (arith, nat_tests)

pub encode_four : (c : ℕ) → 0xFFFF < c → encode c ≡ (0b1111_0000 + c / 64 / 64 / 64) ∷ later (c / 64 / 64) ∷ later (c / 64) ∷ later c ∷ []
encode_four c g = grind (arith, nat_tests)

-- the first bytes of a text that begins with c, by the four lengths of a sequence
pub record One (s : List ℕ) (c : ℕ) : Type 0 where
  pub below : c ≤ 0x7F
  pub long : 1 ≤ length s
  pub byte0 : get_or s 0 0 ≡ c

pub record Two (s : List ℕ) (c : ℕ) : Type 0 where
  pub above : 0x7F < c
  pub below : c ≤ 0x7FF
  pub long : 2 ≤ length s
  pub byte0 : get_or s 0 0 ≡ 0xC0 + c / 64
  pub byte1 : get_or s 1 0 ≡ 0x80 + c % 64

pub record Three (s : List ℕ) (c : ℕ) : Type 0 where
  pub above : 0x7FF < c
  pub below : c ≤ 0xFFFF
  pub apart : (c < 0xD800) ⊎ (0xDFFF < c)
  pub long : 3 ≤ length s
  pub byte0 : get_or s 0 0 ≡ 0xE0 + c / 64 / 64
  pub byte1 : get_or s 1 0 ≡ 0x80 + c / 64 % 64
  pub byte2 : get_or s 2 0 ≡ 0x80 + c % 64

pub record Four (s : List ℕ) (c : ℕ) : Type 0 where
  pub above : 0xFFFF < c
  pub below : c ≤ 0x10FFFF
  pub long : 4 ≤ length s
  pub byte0 : get_or s 0 0 ≡ 0xF0 + c / 64 / 64 / 64
  pub byte1 : get_or s 1 0 ≡ 0x80 + c / 64 / 64 % 64
  pub byte2 : get_or s 2 0 ≡ 0x80 + c / 64 % 64
  pub byte3 : get_or s 3 0 ≡ 0x80 + c % 64

abbrev pub Shape : List ℕ → ℕ → Type 0
Shape s c = One s c ⊎ (Two s c ⊎ (Three s c ⊎ Four s c))

pub begins_shape : (s : List ℕ) (c : ℕ) → Begins s c → Shape s c
begins_shape s c (scalar, (t, e)) =
    ⊎_elim (λ g. ⊎_elim (λ g2. ⊎_elim (λ g3. inr (inr (inr (four g3 (e ∙ ap (λ l. l ++ t) (encode_four c g3))))))
    (λ h. inr (inr (inl (three g2 h (e ∙ ap (λ l. l ++ t) (encode_three c g2 h)))))) (cases_lt 0xFFFF c))
    (λ h. inr (inl (two g h (e ∙ ap (λ l. l ++ t) (encode_two c g h))))) (cases_lt 0x7FF c))
    (λ h. inl (one h (e ∙ ap (λ l. l ++ t) (encode_one c h)))) (cases_lt 0x7F c)
  where
    at : {x : List ℕ} (i : ℕ) → s ≡ x → get_or s i 0 ≡ get_or x i 0
    at i p = ap (λ l. get_or l i 0) p

    one : c ≤ 0x7F → s ≡ c ∷ t → One s c
    one h p = record { below = h; long = omega (arith, ap length p); byte0 = at 0 p }

    two : 0x7F < c → c ≤ 0x7FF → s ≡ (0xC0 + c / 64) ∷ (0x80 + c % 64) ∷ t → Two s c
    two g h p = record { above = g; below = h; long = omega (arith, ap length p); byte0 = at 0 p; byte1 = at 1 p }

    three : 0x7FF < c → c ≤ 0xFFFF → s ≡ (0xE0 + c / 64 / 64) ∷ (0x80 + c / 64 % 64) ∷ (0x80 + c % 64) ∷ t → Three s c
    three g h p = record { above = g; below = h; apart = scalar.1; long = omega (arith, ap length p); byte0 = at 0 p; byte1 = at 1 p; byte2 = at 2 p }

    four : 0xFFFF < c → s ≡ (0xF0 + c / 64 / 64 / 64) ∷ (0x80 + c / 64 / 64 % 64) ∷ (0x80 + c / 64 % 64) ∷ (0x80 + c % 64) ∷ t → Four s c
    four g p = record { above = g; below = scalar.0; long = omega (arith, ap length p); byte0 = at 0 p; byte1 = at 1 p; byte2 = at 2 p; byte3 = at 3 p }

pub one_begins : OneBegins
one_begins s c d x y = let p = begins_shape s c x in let q = begins_shape s d y in omega arith

-- a text that is long enough, by its first bytes
module _ (s : List ℕ) where
  pub front1 : 1 ≤ length s → s ≡ get_or s 0 0 ∷ drop 1 s
  front1 h = drop-cons s 0 0 h

  pub front2 : 2 ≤ length s → s ≡ get_or s 0 0 ∷ get_or s 1 0 ∷ drop 2 s
  front2 h = front1 (omega arith) ∙ ap (λ l. get_or s 0 0 ∷ l) (drop-cons s 1 0 h)

  pub front3 : 3 ≤ length s → s ≡ get_or s 0 0 ∷ get_or s 1 0 ∷ get_or s 2 0 ∷ drop 3 s
  front3 h = front2 (omega arith) ∙ ap (λ l. get_or s 0 0 ∷ get_or s 1 0 ∷ l) (drop-cons s 2 0 h)

  pub front4 : 4 ≤ length s → s ≡ get_or s 0 0 ∷ get_or s 1 0 ∷ get_or s 2 0 ∷ get_or s 3 0 ∷ drop 4 s
  front4 h = front3 (omega arith) ∙ ap (λ l. get_or s 0 0 ∷ get_or s 1 0 ∷ get_or s 2 0 ∷ l) (drop-cons s 3 0 h)

-- and the other way round: first bytes in their ranges are a character's
pub shape_begins : (s : List ℕ) (c : ℕ) → Shape s c → Begins s c
shape_begins s c =
    ⊎_elim one (⊎_elim two (⊎_elim three four))
  where
    one : One s c → Begins s c
    one h =
        let p : get_or s 0 0 ≡ c = h.byte0 in
        ((omega arith, inl (omega arith)), (drop 1 s, front1 s h.long ∙ (λ i. p i ∷ drop 1 s) ∙ ap (λ l. l ++ drop 1 s) (sym (encode_one c h.below))))

    two : Two s c → Begins s c
    two h =
        ((omega arith, inl (omega arith)), (drop 2 s, front2 s h.long ∙ (λ i. h.byte0 i ∷ h.byte1 i ∷ drop 2 s) ∙ ap (λ l. l ++ drop 2 s) (sym (encode_two c h.above h.below))))

    three : Three s c → Begins s c
    three h =
        ((omega arith, h.apart), (drop 3 s, front3 s h.long ∙ (λ i. h.byte0 i ∷ h.byte1 i ∷ h.byte2 i ∷ drop 3 s) ∙ ap (λ l. l ++ drop 3 s) (sym (encode_three c h.above h.below))))

    four : Four s c → Begins s c
    four h =
        ((h.below, inr (omega arith)), (drop 4 s, front4 s h.long ∙ (λ i. h.byte0 i ∷ h.byte1 i ∷ h.byte2 i ∷ h.byte3 i ∷ drop 4 s) ∙ ap (λ l. l ++ drop 4 s) (sym (encode_four c h.above))))

-- what is read from the first bytes of a text: the code point v and the sequence's length
abbrev Later : ℕ → Type 0
Later b = (0x80 ≤ b) × (b ≤ 0xBF)

pub read_one : (a : ℕ) (rest : List ℕ) → a ≤ 0x7F → Reads (a ∷ rest) (Ok (a, 1))
read_one a rest h =
    (shape_begins (a ∷ rest) a (inl (record { below = h; long = omega arith; byte0 = refl })), sym (ap length (encode_one a h)))

pub read_two : (a b v : ℕ) (rest : List ℕ) → (0xC0 ≤ a) × (a < 0xE0) → Later b → 0x80 ≤ v
    → v ≡ (a - 0xC0) * 64 + (b - 0x80) → Reads (a ∷ b ∷ rest) (Ok (v, 2))
read_two a b v rest ha hb above e =
    let below : v ≤ 0x7FF = omega arith in (
      shape_begins (a ∷ b ∷ rest) v (inr (inl (record { above = above; below = below; long = omega arith; byte0 = omega arith; byte1 = omega arith }))),
      sym (ap length (encode_two v above below)),
    )

pub read_three : (a b c v : ℕ) (rest : List ℕ) → (0xE0 ≤ a) × (a < 0xF0) → Later b → Later c → 0x800 ≤ v → (v < 0xD800) ⊎ (0xDFFF < v)
    → v ≡ ((a - 0xE0) * 64 + (b - 0x80)) * 64 + (c - 0x80) → Reads (a ∷ b ∷ c ∷ rest) (Ok (v, 3))
read_three a b c v rest ha hb hc above apart e =
    let below : v ≤ 0xFFFF = omega arith in (
      shape_begins (a ∷ b ∷ c ∷ rest) v (inr (inr (inl (record { above = above; below = below; apart = apart; long = omega arith; byte0 = omega arith; byte1 = omega arith; byte2 = omega arith })))),
      sym (ap length (encode_three v above below)),
    )

pub read_four : (a b c d v : ℕ) (rest : List ℕ) → 0xF0 ≤ a → Later b → Later c → Later d → 0x10000 ≤ v → v ≤ 0x10FFFF
    → v ≡ (((a - 0xF0) * 64 + (b - 0x80)) * 64 + (c - 0x80)) * 64 + (d - 0x80) → Reads (a ∷ b ∷ c ∷ d ∷ rest) (Ok (v, 4))
read_four a b c d v rest ha hb hc hd above below e = (
  shape_begins (a ∷ b ∷ c ∷ d ∷ rest) v (inr (inr (inr (record { above = above; below = below; long = omega arith; byte0 = omega arith; byte1 = omega arith; byte2 = omega arith; byte3 = omega arith })))),
  sym (ap length (encode_four v above)),
)

-- where no character has the bytes of s, reading refuses
pub read_none : (s : List ℕ) → ((c : ℕ) → Shape s c → ⊥) → Reads s (Err (Malformed 0))
read_none s none = (refl, λ c b. none c (begins_shape s c b))

pub reads_exactly : (s : List ℕ) (r : Result (ℕ × ℕ) TextFault) → Reads s r → ReadsExactly s r
reads_exactly s (Ok p) h = record {
  answers = λ c n. (
    λ e.
        let same : p.0 ≡ c = cc in
        let long : p.1 ≡ n = cc in
        (subst (Begins s) same h.0, sym long ∙ h.1 ∙ ap (λ (k : ℕ). length (encode k)) same),
    λ b.
        let same : p.0 ≡ c = one_begins s p.0 c h.0 b.0 in
        let long : p.1 ≡ n = h.1 ∙ ap (λ (k : ℕ). length (encode k)) same ∙ sym b.1 in
        (λ i. Ok (same i, long i)),
  );
  refuses = (λ e. cc, λ none. absurd (none p.0 h.0));
}
reads_exactly s (Err fault) h = record {
  answers = λ c n. (λ e. cc, λ b. absurd (h.1 c b.0));
  refuses = (λ _. h.1, λ _. ap Err h.0);
}

-- what is read of a text, by another form of its bytes
pub read_from : {s t : List ℕ} (r : Result (ℕ × ℕ) TextFault) → s ≡ t → Reads t r → record { reads : Reads s r; exact : ReadsExactly s r }
read_from {s} r e h = let reads = subst (λ (l : List ℕ). Reads l r) (sym e) h in record { reads = reads; exact = reads_exactly s r reads }
