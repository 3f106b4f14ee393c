use Rattle.std.proofs.Common.{◌++◌, ◌∙◌, sym, string_bytes}
use Rattle.weigh.specs.Reports.{summary_text}
use Rattle.weigh.proofs.StreamLaws.{last_some, last_none}
use Rattle.weigh.proofs.weigher.Weigher.finish.Goals as goal
use Rattle.weigh.proofs.weigher.Weigher.finish.Goals.{then-not-is_empty+in_ok-end_line, else-not-is_empty}

pub returns : goal.returns
returns c = λ begun e.
    c.in_ok-writeln.ensures.bytes
    ∙ elim c.if-not-is_empty.branch [
      | then-not-is_empty+in_ok-end_line w ↦
          let told = w.in_ok-end_line.ensures in
          (λ i. string_bytes (w.out-is i) ++ summary_text (w.self-is i).tally)
          ∙ (λ i. told.printed i ++ summary_text (told.noted i))
          ∙ last_some begun _ _ _ e (sym w.if-not-is_empty.ensures.value)
      | else-not-is_empty w ↦
          (λ i. string_bytes (w.out-is i) ++ summary_text (w.self-is i).tally)
          ∙ last_none begun _ _ _ e (sym w.if-not-is_empty.ensures.value)
    ]
