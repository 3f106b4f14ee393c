-- A stream that is read and printed in pieces: what has been read has been taken in, and its reports are printed.
use Rattle.std.proofs.Common.{◌≡◌, ℕ, ◌+◌, ◌≤◌, List, [], ◌++◌, Option, None, Some, length, take, sym, refl, ap, ◌∙◌, subst, append_assoc, append-nil, length-append, arith}
use Rattle.std.specs.Io.KnownBytes.{Appends, Consumes, IsAtEnd}
use Rattle.lines.specs.Lines.{ended, unended}
use Rattle.weigh.proofs.StreamLaws.{one_stream}
use Rattle.weigh.specs.Reports.{no_lines}
use Rattle.weigh.specs.Streams.{tallied, reports, TakenIn, printed_of, printed_last}
use Rattle.weigh.specs.declared.reports.Tally.{Tally}

appends-none : (known : Option (List ℕ)) → Appends known known []
appends-none None = tt
appends-none (Some xs) = sym (append-nil xs)

appends-append : (a b c : Option (List ℕ)) (xs ys : List ℕ) → Appends a b xs → Appends b c ys → Appends a c (xs ++ ys)
appends-append None b c xs ys h k = tt
appends-append (Some a) None c xs ys h k = absurd h
appends-append (Some a) (Some b) None xs ys h k = absurd k
appends-append (Some a) (Some b) (Some c) xs ys h k = simp (k, h, append_assoc) refl

-- `seen` has been read of the stream in so many turns, and `left` is still to be read
pub record Reading (stream : List ℕ) (remaining before after : Option (List ℕ)) (line : List ℕ) (tally : Tally) (out : List ℕ) (turns : ℕ) : Type 0 where
  pub seen : List ℕ
  pub left : List ℕ
  pub left_is : remaining ≡ Some left
  pub stream_is : stream ≡ seen ++ left
  pub turns_le : turns ≤ length seen
  pub line_is : line ≡ take 241 (unended [] seen)
  pub tally_is : tally ≡ tallied no_lines (ended [] seen)
  pub printed : Appends before after (reports no_lines (ended [] seen))
  pub out_is : out ≡ []

pub reading_none : (stream : List ℕ) (remaining before : Option (List ℕ)) (line : List ℕ) (tally : Tally) (out : List ℕ)
    → remaining ≡ Some stream → line ≡ [] → tally ≡ no_lines → out ≡ [] → Reading stream remaining before before line tally out 0
reading_none stream remaining before line tally out r l t o = record {
  seen = [];
  left = stream;
  left_is = r;
  stream_is = refl;
  turns_le = omega arith;
  line_is = l;
  tally_is = t;
  printed = appends-none before;
  out_is = o;
}

-- what a read consumes of known bytes is what they begin with
consumed : (remaining remaining' : Option (List ℕ)) (left piece : List ℕ) → remaining ≡ Some left → Consumes remaining remaining' piece
    → (left' : List ℕ) × (remaining' ≡ Some left') × (left ≡ piece ++ left')
consumed remaining None left piece e h = absurd (subst (λ r. Consumes r None piece) e h)
consumed remaining (Some left') left piece e h = (left', refl, subst (λ r. Consumes r (Some left') piece) e h)

-- where a read of no bytes tells the end, none were left before it
pub at_end : (remaining remaining' : Option (List ℕ)) (n : ℕ) (buffer : List ℕ) → n ≡ 0 → Consumes remaining remaining' (take n buffer)
    → IsAtEnd remaining' → IsAtEnd remaining
at_end None remaining' n buffer e h k = tt
at_end (Some left) None n buffer e h k = absurd h
at_end (Some left) (Some left') n buffer e h k = simp (h, e, k) refl

-- one more turn
pub reading_more : (stream : List ℕ) (remaining remaining' before after after' : Option (List ℕ)) (line line' : List ℕ) (tally tally' : Tally)
    (out out' out'' piece : List ℕ) (turns : ℕ)
    → Reading stream remaining before after line tally out turns
    → Consumes remaining remaining' piece
    → 1 ≤ length piece
    → ((begun : List ℕ) → line ≡ take 241 begun → TakenIn begun piece tally out tally' out' line')
    → Appends after after' out'
    → out'' ≡ []
    → Reading stream remaining' before after' line' tally' out'' (turns + 1)
reading_more stream remaining remaining' before after after' line line' tally tally' out out' out'' piece turns h read some took wrote cleared =
    let rest = consumed remaining remaining' h.left piece h.left_is read in
    let begun = unended [] h.seen in
    let taken = took begun h.line_is in
    let both = one_stream.0 [] h.seen piece no_lines in
    let told : out' ≡ reports (tallied no_lines (ended [] h.seen)) (ended begun piece) =
    taken.out ∙ (λ i. h.out_is i ++ reports (h.tally_is i) (ended begun piece)) in
    record {
      seen = h.seen ++ piece;
      left = rest.0;
      left_is = rest.1;
      stream_is = h.stream_is ∙ ap (λ l. h.seen ++ l) rest.2 ∙ sym (append_assoc h.seen piece rest.0);
      turns_le = omega (arith, length-append h.seen piece, h.turns_le);
      line_is = taken.line ∙ ap (take 241) (sym both.2);
      tally_is = taken.tally ∙ ap (λ t. tallied t (ended begun piece)) h.tally_is ∙ sym both.1;
      printed =
          subst (Appends before after') (sym both.0)
          (appends-append before after after' _ _ h.printed (subst (Appends after after') told wrote));
      out_is = cleared;
    }

-- at the end
pub reading_all : (stream : List ℕ) (remaining before after after' : Option (List ℕ)) (line : List ℕ) (tally : Tally) (out out' : List ℕ) (turns : ℕ)
    → Reading stream remaining before after line tally out turns
    → IsAtEnd remaining
    → ((begun : List ℕ) → line ≡ take 241 begun → out' ≡ out ++ printed_last tally begun)
    → Appends after after' out'
    → Appends before after' (printed_of no_lines stream)
reading_all stream remaining before after after' line tally out out' turns h at_end ends wrote =
    let begun = unended [] h.seen in
    let none : h.left ≡ [] = subst IsAtEnd h.left_is at_end in
    let all : stream ≡ h.seen = h.stream_is ∙ (λ i. h.seen ++ none i) ∙ append-nil h.seen in
    let told : out' ≡ printed_last (tallied no_lines (ended [] h.seen)) begun =
    ends begun h.line_is ∙ (λ i. h.out_is i ++ printed_last (h.tally_is i) begun) in
    subst (λ s. Appends before after' (printed_of no_lines s)) (sym all)
    (subst (Appends before after') (sym (one_stream.1 h.seen no_lines))
    (appends-append before after after' _ _ h.printed (subst (Appends after after') told wrote)))

-- the turns do not run out before a stream of fewer bytes does
pub reading_ends : (stream : List ℕ) (remaining before after : Option (List ℕ)) (line : List ℕ) (tally : Tally) (out : List ℕ) (turns : ℕ)
    → Reading stream remaining before after line tally out turns → turns ≤ length stream
reading_ends stream remaining before after line tally out turns h =
    omega (arith, h.turns_le, ap length h.stream_is, length-append h.seen h.left)
