use Rattle.std.proofs.Common.{◌≡◌, drop}
use Rattle.histogram.specs.Tails.{level_end}
use Rattle.histogram.proofs.levels.level_end.Given as goal

-- what is left ends as all do
abbrev pub invariant-loop-bucket : goal.invariant-loop-bucket
invariant-loop-bucket l = level_end l.e l.before (drop l.bucket-index l.part) ≡ level_end l.e l.last l.part
