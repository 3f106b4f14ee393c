-- What a rule that was chosen among the supplied ones weighs: what the chosen one weighs.
use Rattle.std.specs.Prelude.{ℕ}
use Rattle.text.specs.Rows.{row_table}
use Rattle.text.specs.Tables.{rows_of}
use Rattle.text.specs.Weights.{blank_counting, blank_free}
use Rattle.text.specs.declared.supplied.SuppliedRule.{SuppliedRule}
use Rattle.text.specs.declared.supplied.SuppliedRule.TheVariants.{BlankCounting, BlankFree, RowTable}

-- the weight by the rule that was chosen
abbrev pub supplied_weight : SuppliedRule → ℕ → ℕ
supplied_weight (BlankCounting rule) c = blank_counting c
supplied_weight (BlankFree rule) c = blank_free c
supplied_weight (RowTable table) c = row_table (rows_of table) c
