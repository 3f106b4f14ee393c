-- Laws of the lines that are printed.
use Rattle.std.proofs.Common.{◌≡◌, ℕ, ◌++◌, codes, decimal, refl}
use Rattle.buckets.specs.Reports.{reason, refused}
use Rattle.buckets.specs.declared.report.Refusal.{Refusal}
use Rattle.buckets.specs.declared.report.Refusal.TheVariants.{NotK, NotACount, NoTick}

-- a line that is refused ends with the reason
pub refused_line : (line : ℕ) (r : Refusal) → codes "line " ++ (decimal line ++ (codes ": refused, " ++ (reason r ++ codes "\n"))) ≡ refused line r
refused_line line NotK = refl
refused_line line NotACount = refl
refused_line line NoTick = refl
