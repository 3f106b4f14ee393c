use Rattle.text.specs.RowLaws.{last_decides}
use Rattle.text.proofs.rows.last_row_decides.Goals as goal

pub returns : goal.returns
returns c = last_decides
