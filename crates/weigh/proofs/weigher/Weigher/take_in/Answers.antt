use Rattle.std.proofs.Common.{◌∙◌, arith, ap, take, drop}
use Rattle.weigh.proofs.StreamLaws.{onward_more, onward_all}
use Rattle.weigh.proofs.weigher.Weigher.take_in.Goals as goal

pub loop-after-preserved : goal.loop-after-preserved
loop-after-preserved c = λ begun e.
    let rest = c.loop-after.rest.now in
    let is = c.line_length.ensures.value in
    let cut = c.split_at.ensures in
    let told = c.in_ok-end_line.ensures in
    onward_more begun _ _ _ _ _ _ rest (c.loop-after.invariant begun e) _ _ _ _ _ _
    (cut.front ∙ ap (λ n. take n rest) is) (cut.back ∙ ap (λ n. drop n rest) is) c.in-len1-up.len_at_least
    c.extend.ensures.after told.printed told.noted told.cleared

pub returns-in_default : goal.returns-in_default
returns-in_default c = λ begun e.
    let rest = c.loop-after.rest.now in
    let is = c.line_length.ensures.value in
    let cut = c.split_at.ensures in
    onward_all begun _ _ _ _ _ _ rest (c.loop-after.invariant begun e) _ _
    (cut.front ∙ ap (λ n. take n rest) is) (omega (arith, cut.back_len, c.in_default.len_below, is)) c.extend.ensures.after
