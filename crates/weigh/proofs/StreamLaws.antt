-- Laws of weighing a stream: the bytes that are kept weigh what the line does, and a turn of the loop over a piece.
use Rattle.std.proofs.Common.{◌≡◌, ℕ, ◌+◌, ◌-◌, ◌≤◌, true, false, eqb, List, [], ◌∷◌, ◌++◌, length, take, drop, sym, refl, ap, ◌∙◌, subst, ⊎_elim, append_assoc, append-nil, arith}
use Rattle.lines.proofs.LineLaws.{by_length, kept, pieces}
use Rattle.lines.specs.Lines.{line_length, ended, unended}
use Rattle.std.proofs.lemmas.List.{take_all, take_rest, drop-drop, length-drop, length-take-le}
use Rattle.std.proofs.lemmas.List.Sums.{fold-append}
use Rattle.std.proofs.lemmas.Bool.{cases_lt, eqb-true, eqb-false}
use Rattle.text.proofs.TextLaws.{weighed_too_long}
use Rattle.text.specs.Texts.{weighed}
use Rattle.text.specs.Weights.{blank_counting, blank_free}
use Rattle.weigh.specs.Reports.{both, line_weights, noted, next_line, report_text, summary_text}
use Rattle.weigh.specs.Streams.{tallied, reports, TakenIn, printed_last, OneStream}
use Rattle.weigh.specs.declared.reports.Tally.{Tally}

weighed_kept : (w : ℕ → ℕ) (line : List ℕ) → weighed w (take 241 line) ≡ weighed w line
weighed_kept w line =
    ⊎_elim (λ long. weighed_too_long w (take 241 line) (omega (arith, length-take-le 241 line long)) ∙ sym (weighed_too_long w line long))
    (λ short. ap (weighed w) (take_all 241 line (omega arith))) (cases_lt 240 (length line))

-- the first 241 bytes of a line tell what the line weighs
pub weights_kept : (line : List ℕ) → line_weights (take 241 line) ≡ line_weights line
weights_kept line = λ i. both (weighed_kept blank_counting line i) (weighed_kept blank_free line i)

-- in the midst of a piece: `now` has come of the line, and what is left of the piece gives what the whole piece gives
pub record Onward (begun piece : List ℕ) (before : Tally) (printed : List ℕ) (tally : Tally) (out line rest : List ℕ) : Type 0 where
  pub now : List ℕ
  pub line_is : line ≡ take 241 now
  pub out_is : out ++ reports tally (ended now rest) ≡ printed ++ reports before (ended begun piece)
  pub tally_is : tallied tally (ended now rest) ≡ tallied before (ended begun piece)
  pub left_is : unended now rest ≡ unended begun piece

module _ (begun piece : List ℕ) (before : Tally) (printed : List ℕ) where
  pub onward_none : (line : List ℕ) → line ≡ take 241 begun → Onward begun piece before printed before printed line piece
  onward_none line e = record { now = begun; line_is = e; out_is = refl; tally_is = refl; left_is = refl }

  module _ (tally : Tally) (out line rest : List ℕ) (h : Onward begun piece before printed tally out line rest) where
    -- the line's part of what is left is held too
    held_more : (part line' : List ℕ) → part ≡ take (line_length rest) rest → line' ≡ take 241 (line ++ part)
        → line' ≡ take 241 (h.now ++ take (line_length rest) rest)
    held_more part line' p e =
        e ∙ (λ i. take 241 (h.line_is i ++ p i)) ∙ kept 241 h.now (take (line_length rest) rest)

    -- a line ends in the piece
    pub onward_more : (tally' : Tally) (out' part after line' line'' : List ℕ)
        → part ≡ take (line_length rest) rest
        → after ≡ drop (line_length rest) rest
        → 1 ≤ length after
        → line' ≡ take 241 (line ++ part)
        → out' ≡ out ++ report_text (next_line tally) (line_weights line')
        → tally' ≡ noted tally (line_weights line')
        → line'' ≡ []
        → Onward begun piece before printed tally' out' line'' (take (length after - 1) (drop 1 after))
    onward_more tally' out' part after line' line'' p a some e o t none =
        let whole = h.now ++ take (line_length rest) rest in
        let next = drop (line_length rest + 1) rest in
        let left : next ≡ take (length after - 1) (drop 1 after) =
        sym (take_rest after 1 ∙ ap (drop 1) a ∙ drop-drop 1 (line_length rest) rest) in
        let cut = (by_length h.now rest).0 (omega (arith, ap length a, length-drop (line_length rest) rest)) in
        let same : line_weights line' ≡ line_weights whole = ap line_weights (held_more part line' p e) ∙ weights_kept whole in
        let told : tally' ≡ noted tally (line_weights whole) = t ∙ ap (noted tally) same in
        subst (Onward begun piece before printed tally' out' line'') left (record {
          now = [];
          line_is = none;
          out_is = simp (o, told, same, append_assoc) (ap (λ (ls : List (List ℕ)). out ++ reports tally ls) (sym cut.0) ∙ h.out_is);
          tally_is = simp told (ap (tallied tally) (sym cut.0) ∙ h.tally_is);
          left_is = sym cut.1 ∙ h.left_is;
        })

    -- the piece ends in a line
    pub onward_all : (part line' : List ℕ)
        → part ≡ take (line_length rest) rest
        → length rest ≤ line_length rest
        → line' ≡ take 241 (line ++ part)
        → TakenIn begun piece before printed tally out line'
    onward_all part line' p ends e =
        let goes = (by_length h.now rest).1 ends in
        let all = take_all (line_length rest) rest ends in
        record {
          tally = sym (ap (tallied tally) goes.0) ∙ h.tally_is;
          out = sym (append-nil out) ∙ sym (ap (λ (ls : List (List ℕ)). out ++ reports tally ls) goes.0) ∙ h.out_is;
          line = held_more part line' p e ∙ ap (take 241) (ap (λ l. h.now ++ l) all ∙ sym goes.1 ∙ h.left_is);
        }

-- the end of the stream, where a byte is held of the last line
pub last_some : (begun line out : List ℕ) (tally : Tally) → line ≡ take 241 begun → eqb (length line) 0 ≡ false
    → (out ++ report_text (next_line tally) (line_weights line)) ++ summary_text (noted tally (line_weights line)) ≡ out ++ printed_last tally begun
last_some [] line out tally e some = absurd (eqb-false (length line) 0 some (ap length e))
last_some (b ∷ bs) line out tally e some =
    let same : line_weights line ≡ line_weights (b ∷ bs) = ap line_weights e ∙ weights_kept (b ∷ bs) in
    simp (same, append_assoc, append-nil) refl

-- and where none is
pub last_none : (begun line out : List ℕ) (tally : Tally) → line ≡ take 241 begun → eqb (length line) 0 ≡ true
    → out ++ summary_text tally ≡ out ++ printed_last tally begun
last_none [] line out tally e none = refl
last_none (b ∷ bs) line out tally e none = absurd (omega (arith, ap length e, eqb-true (length line) 0 none))

-- reports of lines, and then of more lines
reports-append : (t : Tally) (xs ys : List (List ℕ)) → reports t (xs ++ ys) ≡ reports t xs ++ reports (tallied t xs) ys
reports-append t [] ys = refl
reports-append t (line ∷ xs) ys =
    let later = reports-append (noted t (line_weights line)) xs ys in
    simp (later, append_assoc) refl

-- and their tallies
tallied-append : (t : Tally) (xs ys : List (List ℕ)) → tallied t (xs ++ ys) ≡ tallied (tallied t xs) ys
tallied-append t xs ys = fold-append _ t xs ys

pub one_stream : OneStream
one_stream = (
  λ begun xs ys t.
      let cut = pieces begun xs ys in
      (simp (cut.0, reports-append) refl, simp (cut.0, tallied-append) refl, cut.1),
  λ stream t. simp (reports-append, tallied-append, append_assoc) refl,
)
