use Rattle.std.proofs.Common.{sym, refl, arith, rules}
use Rattle.std.proofs.lemmas.List.{take_rest}
use Rattle.text.proofs.TextLaws.{sofar_more, sofar_all, sofar_fails, weighed_too_long}
use Rattle.text.proofs.texts.weigh_text.Goals as goal

pub returns-then-text-gt-MOST_BYTES-clause-value : goal.returns-then-text-gt-MOST_BYTES-clause-value
returns-then-text-gt-MOST_BYTES-clause-value g c = sym (weighed_too_long _ _ c.if-text-gt-MOST_BYTES.true)

pub loop-rest-preserved : goal.loop-rest-preserved
loop-rest-preserved g c =
    let read = c.in-Ok.ensures.reads in
    let more = sofar_more _ _ _ _ _ c.in-Ok.bytes (g.met.R.CountingRule.small c.args.rule.now c.in-Ok.code_point) c.loop-rest.invariant read.0 read.1 in
    rw (take_rest c.loop-rest.rest.now c.in-Ok.bytes, c.from-total.ensures, c.weight_of.ensures.value) more

pub returns-in_default : goal.returns-in_default
returns-in_default g c =
    let h = sofar_fails _ _ _ _ _ c.if-text-gt-MOST_BYTES.false c.loop-rest.invariant (search rules) c.in_default.ensures.reads.1 refl in
    record { value = h.value; exact = h.exact; small = tt; same = refl }

pub returns : goal.returns
returns g c =
    let h = sofar_all _ _ _ _ c.if-text-gt-MOST_BYTES.false c.loop-rest.invariant (search rules) in
    record { value = h.value; exact = h.exact; small = omega arith; same = refl }
