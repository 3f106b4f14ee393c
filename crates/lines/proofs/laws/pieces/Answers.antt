use Rattle.lines.proofs.LineLaws.{pieces}
use Rattle.lines.proofs.laws.pieces.Goals as goal

pub returns : goal.returns
returns c = pieces
