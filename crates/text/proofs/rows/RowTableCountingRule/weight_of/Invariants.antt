use Rattle.std.proofs.Common.{◌≡◌, map, reverse, take}
use Rattle.text.specs.Rows.{first_holding}
use Rattle.text.specs.Tables.{figures}
use Rattle.text.proofs.rows.RowTableCountingRule.weight_of.Given as goal

abbrev pub invariant-loop-row : goal.invariant-loop-row
invariant-loop-row l = l.weight ≡ first_holding l.code_point (reverse (map figures (take l.row-index l.rows)))
