use Rattle.std.proofs.Common.{List, ℕ, ◌++◌, ◌∙◌, ap, string_bytes}
use Rattle.buckets.proofs.ReportLaws.{refused_line}
use Rattle.buckets.proofs.report.refuse.Goals as goal

pub returns : goal.returns
returns c = c.in_ok-writeln.ensures.bytes ∙ ap (λ (l : List ℕ). string_bytes c.args.out.now ++ l) (refused_line c.args.at c.args.refusal)
