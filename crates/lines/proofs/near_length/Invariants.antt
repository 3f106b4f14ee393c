use Rattle.std.proofs.Common.{◌≡◌, ◌+◌, drop}
use Rattle.lines.specs.Lines.{line_length}
use Rattle.lines.proofs.near_length.Given as goal

-- the line is as long as what is passed and what is left of it
abbrev pub invariant-loop-i : goal.invariant-loop-i
invariant-loop-i l = l.i + line_length (drop l.i l.bytes) ≡ line_length l.bytes
