use Rattle.lines.proofs.LineLaws.{cuts}
use Rattle.lines.proofs.laws.cuts.Goals as goal

pub returns : goal.returns
returns c = cuts
