-- The laws of cutting a stream into lines, for the proofs of callers: `pieces`, `kept`, `by_length`, `cuts`, and `cut_is`.
use Rattle.std.proofs.Common.{◌≡◌, ℕ, suc, false, eqb, List, [], ◌∷◌, ◌++◌, sym, refl, ◌∙◌, subst, ⊎_elim, append-nil, arith}
use Rattle.std.specs.List.{AllByRecursion}
use Rattle.std.proofs.ByRecursion.{All-push}
use Rattle.std.proofs.lemmas.Bool.{cases_eq, cond_both, eqb-false}
use Rattle.std.proofs.lemmas.Grind.{common_steps}
use Rattle.lines.specs.Lines.{line_length, ended, unended, Pieces, Kept, Ends, GoesOn, ByLength, Unbroken, written, Cut, Cuts}

-- however the bytes arrive in pieces, the lines are the same
pub pieces : Pieces
pieces held [] ys = (refl, refl)
pieces held (x ∷ xs) ys =
    let now = pieces [] xs ys in
    let later = pieces (held ++ x ∷ []) xs ys in
    (grind (arith, common_steps, now, later), grind (arith, common_steps, now, later))

-- to keep the first bytes as pieces come is to keep the first bytes of the whole
pub kept : Kept
kept limit a b = grind (arith, common_steps)

-- a line's first byte is byte 10, and the line ends there
ends_now : (held : List ℕ) (b : ℕ) (bs : List ℕ) → b ≡ 10 → Ends held (b ∷ bs) 0
ends_now held b bs e = (grind (arith, common_steps), grind (arith, common_steps))

-- a line's first byte is another, and the line ends in what comes after it
ends_later : (held : List ℕ) (b : ℕ) (bs : List ℕ) (n : ℕ) → (b ≡ 10 → ⊥)
    → Ends (held ++ b ∷ []) bs n → Ends held (b ∷ bs) (suc n)
ends_later held b bs n e later = (grind (arith, common_steps, later), grind (arith, common_steps, later))

-- a line's first byte is another, and the line does not end in what comes after it
goes_on_later : (held : List ℕ) (b : ℕ) (bs : List ℕ) → (b ≡ 10 → ⊥)
    → GoesOn (held ++ b ∷ []) bs → GoesOn held (b ∷ bs)
goes_on_later held b bs e later = (grind (arith, common_steps, later), grind (arith, common_steps, later))

-- the line's length says whether it ends, and where
pub by_length : ByLength
by_length held [] = (λ h. absurd (omega arith), λ h. (refl, sym (append-nil held)))
by_length held (b ∷ bs) =
    ⊎_elim
    (λ e.
    let none : line_length (b ∷ bs) ≡ 0 = grind (arith, common_steps) in
    (λ h. subst (Ends held (b ∷ bs)) (sym none) (ends_now held b bs e), λ h. absurd (omega arith)))
    (λ e.
    let more : line_length (b ∷ bs) ≡ suc (line_length bs) = grind (arith, common_steps) in
    let later = by_length (held ++ b ∷ []) bs in (
      λ h. subst (Ends held (b ∷ bs)) (sym more) (ends_later held b bs (line_length bs) e (later.0 (omega arith))),
      λ h. goes_on_later held b bs e (later.1 (omega arith)),
    ))
    (cases_eq b 10)

-- bytes without byte 10 go on with the line that is held
goes_on : (held line : List ℕ) → Unbroken line → GoesOn held line
goes_on held [] free = (refl, sym (append-nil held))
goes_on held (b ∷ bs) free = goes_on_later held b bs free.0 (goes_on (held ++ b ∷ []) bs free.1)

-- the bytes are those that were held and those that came
ended-written : (held s : List ℕ) → written (ended held s) (unended held s) ≡ held ++ s
ended-written held [] = sym (append-nil held)
ended-written held (b ∷ bs) =
    let now = ended-written [] bs in
    let later = ended-written (held ++ b ∷ []) bs in
    grind (arith, common_steps, now, later)

-- byte 10 stands in no line and not in the rest
ended_unbroken : (held s : List ℕ) → Unbroken held → AllByRecursion Unbroken (ended held s) × Unbroken (unended held s)
ended_unbroken held [] free = (tt, free)
ended_unbroken held (b ∷ bs) free =
    let now = ended_unbroken [] bs tt in
    let later : (eqb b 10 ≡ false) → AllByRecursion Unbroken (ended (held ++ b ∷ []) bs) × Unbroken (unended (held ++ b ∷ []) bs) =
    λ e. ended_unbroken (held ++ b ∷ []) bs (All-push _ held b free (eqb-false b 10 e)) in
    (cond_both _ _ _ (AllByRecursion Unbroken) (λ e. (free, now.0)) (λ e. (later e).0), cond_both _ _ _ Unbroken (λ e. now.1) (λ e. (later e).1))

-- a line, its byte 10 and what comes after
ended-line : (line s : List ℕ) → Unbroken line
    → (ended [] (line ++ 10 ∷ s) ≡ line ∷ ended [] s) × (unended [] (line ++ 10 ∷ s) ≡ unended [] s)
ended-line line s free =
    let cut = pieces [] line (10 ∷ s) in
    let whole = goes_on [] line free in
    (grind (arith, common_steps, cut, whole), grind (arith, common_steps, cut, whole))

-- a cut of a stream is its ended lines and its unended rest
pub cut_is : (lines : List (List ℕ)) (rest s : List ℕ) → Cut s lines rest
    → (lines ≡ ended [] s) × (rest ≡ unended [] s)
cut_is [] rest s cut =
    let whole = goes_on [] rest cut.2 in
    let same = cut.0 in
    (cc, cc)
cut_is (line ∷ lines) rest s cut =
    let more = cut_is lines rest (written lines rest) (refl, cut.1.1, cut.2) in
    let first = ended-line line (written lines rest) cut.1.0 in
    let same : line ++ 10 ∷ written lines rest ≡ s = grind (arith, common_steps, cut.0) in
    (cc, cc)

-- the ended lines and the unended rest are a cut of the stream, and it has no other
pub cuts : Cuts
cuts = (
  λ s. let free = ended_unbroken [] s tt in (ended-written [] s, free.0, free.1),
  λ s lines others rest other one two.
      let a = cut_is lines rest s one in
      let b = cut_is others other s two in
      (a.0 ∙ sym b.0, a.1 ∙ sym b.1),
)
