use Rattle.std.proofs.Common.{◌+◌, ◌-◌, length}
use Rattle.theory.specs.Levels.{newer}
use Rattle.histogram.proofs.inserting.+raise.Given as goal

-- fewer buckets are left to read, or fewer come in
abbrev pub decreases-raise : goal.decreases-raise
decreases-raise l = (l.turn.end - l.turn.read) + (l.turn.new + length (newer l.olds.now))
