use Rattle.std.proofs.Common.{◌≡◌, Err, rules}
use Rattle.text.proofs.TextLaws.{check_passes, check_fails}
use Rattle.text.proofs.texts.check_text.Goals as goal

pub returns : goal.returns
returns c = check_passes _ _ _ c.in_ok-weigh_text.ensures.exact

pub returns-in_err-weigh_text : goal.returns-in_err-weigh_text
returns-in_err-weigh_text c =
    let same : c.from_residual.result ≡ Err c.in_err-weigh_text.field-0.0 = search rules in
    rw same (check_fails _ _ _ c.in_err-weigh_text.ensures.exact)
