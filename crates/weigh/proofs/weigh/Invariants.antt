use Rattle.std.proofs.Common.{◌≡◌, ℕ, List, Some, length, string_bytes}
use Rattle.lines.specs.Held.{held}
use Rattle.weigh.proofs.Reading.{Reading}
use Rattle.weigh.proofs.weigh.Given as goal

abbrev pub invariant-loop : goal.invariant-loop
invariant-loop g l =
    (length l.buffer ≡ length l.initial.buffer)
    × ((stream : List ℕ) → g.R.Read.remaining l.initial.input ≡ Some stream
    → Reading stream (g.R.Read.remaining l.input) (g.W.Write.contents l.initial.output) (g.W.Write.contents l.output) (held l.weigher.line) l.weigher.tally (string_bytes l.out) l.counter)
