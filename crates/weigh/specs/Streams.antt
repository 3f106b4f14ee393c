-- What `weigh` prints of a stream of bytes: a report for each of its lines, and then the summary.
use Rattle.std.specs.Prelude.{◌≡◌, ℕ, List, [], ◌∷◌, ◌++◌, take, fold}
use Rattle.lines.specs.Lines.{ended, unended, last_line, lines_of}
use Rattle.weigh.specs.Reports.{line_weights, noted, next_line, report_text, summary_text}
use Rattle.weigh.specs.declared.reports.Tally.{Tally}

-- the tally with these lines more
abbrev pub tallied : Tally → List (List ℕ) → Tally
tallied t lines = fold (λ before line. noted before (line_weights line)) t lines

-- what is printed of these lines, when the tally is t before them
abbrev pub reports : Tally → List (List ℕ) → List ℕ
reports t [] = []
reports t (line ∷ lines) = report_text (next_line t) (line_weights line) ++ reports (noted t (line_weights line)) lines

-- what taking in a piece does, when `begun` has come of the line before it: the lines that end in the piece are noted and their reports printed, and the first 241 bytes of the line that has not ended are kept
pub record TakenIn (begun piece : List ℕ) (before : Tally) (printed : List ℕ) (after : Tally) (printed' kept : List ℕ) : Type 0 where
  pub tally : after ≡ tallied before (ended begun piece)
  pub out : printed' ≡ printed ++ reports before (ended begun piece)
  pub line : kept ≡ take 241 (unended begun piece)

-- all that is printed of a whole stream, when the tally is t before it
abbrev pub printed_of : Tally → List ℕ → List ℕ
printed_of t stream = reports t (lines_of stream) ++ summary_text (tallied t (lines_of stream))

-- what is printed in the end, when `begun` is left of a stream and the tally is t
abbrev pub printed_last : Tally → List ℕ → List ℕ
printed_last t begun = reports t (last_line begun) ++ summary_text (tallied t (last_line begun))

-- however a stream is cut into pieces, taking in one after another and then ending it prints what is printed of the whole:
-- two pieces print and tally what the two in one do, and the pieces and the end print all that is printed of the stream
abbrev pub OneStream : Type 0
OneStream =
    ((begun xs ys : List ℕ) (t : Tally)
    → (reports t (ended begun (xs ++ ys)) ≡ reports t (ended begun xs) ++ reports (tallied t (ended begun xs)) (ended (unended begun xs) ys))
    × (tallied t (ended begun (xs ++ ys)) ≡ tallied (tallied t (ended begun xs)) (ended (unended begun xs) ys))
    × (unended begun (xs ++ ys) ≡ unended (unended begun xs) ys))
    × ((stream : List ℕ) (t : Tally) → printed_of t stream ≡ reports t (ended [] stream) ++ printed_last (tallied t (ended [] stream)) (unended [] stream))
