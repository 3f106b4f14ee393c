use Rattle.std.proofs.Common.{length}
use Rattle.text.proofs.TextLaws.{Sofar}
use Rattle.text.proofs.texts.weigh_text.Given as goal

abbrev pub invariant-loop-rest : goal.invariant-loop-rest
invariant-loop-rest g l = Sofar (g.R.CountingRule.weight l.rule) l.text l.rest l.total

abbrev pub decreases-loop-rest : goal.decreases-loop-rest
decreases-loop-rest g l = length l.rest
