use Rattle.lines.proofs.LineLaws.{by_length}
use Rattle.lines.proofs.laws.by_length.Goals as goal

pub returns : goal.returns
returns c = by_length
