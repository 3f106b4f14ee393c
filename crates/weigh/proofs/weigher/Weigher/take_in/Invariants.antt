use Rattle.std.proofs.Common.{◌≡◌, ℕ, List, length, take, string_bytes}
use Rattle.lines.specs.Held.{held}
use Rattle.weigh.proofs.StreamLaws.{Onward}
use Rattle.weigh.proofs.weigher.Weigher.take_in.Given as goal

abbrev pub invariant-loop-after : goal.invariant-loop-after
invariant-loop-after l =
    (begun : List ℕ) → held l.initial.self.line ≡ take 241 begun
    → Onward begun l.piece l.initial.self.tally (string_bytes l.initial.out) l.self.tally (string_bytes l.out) (held l.self.line) l.rest

abbrev pub decreases-loop-after : goal.decreases-loop-after
decreases-loop-after l = length l.rest
