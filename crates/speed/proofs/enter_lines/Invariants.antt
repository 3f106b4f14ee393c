use Rattle.std.proofs.Common.{◌≤◌}
use Rattle.speed.proofs.enter_lines.Given as goal

abbrev pub invariant-loop-tick : goal.invariant-loop-tick
invariant-loop-tick l = l.refused ≤ l.tick
