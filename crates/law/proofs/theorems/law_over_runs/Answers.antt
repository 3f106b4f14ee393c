use Rattle.law.proofs.RunLaws.{law_over_runs}
use Rattle.law.proofs.theorems.law_over_runs.Goals as goal

pub returns : goal.returns
returns g c = record { holds = law_over_runs (g.R.CountingRule.weight c.args.rule.now) }
