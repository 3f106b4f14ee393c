use Rattle.std.proofs.Common.{◌≡◌, not, eqb, get_or, ap, arith}
use Rattle.std.proofs.lemmas.List.Sums.{prefix_len-drop_yes, prefix_len-drop_no, prefix_len-drop_all}
use Rattle.std.proofs.lemmas.Bool.{eq-eqb, ne_eqb}
use Rattle.lines.proofs.near_length.Goals as goal

pub returns-then-b-eq-LINE_END : goal.returns-then-b-eq-LINE_END
returns-then-b-eq-LINE_END c =
    let bytes = c.args.bytes.now in
    let i = c.loop-i.i in
    let ends : get_or bytes i 0 ≡ 10 = omega arith in
    let none = prefix_len-drop_no (λ b. not (eqb b 10)) bytes i 0 c.loop-i-test.true (ap not (eq-eqb _ _ ends)) in
    record { value = omega arith; within = omega arith }

pub loop-i-preserved : goal.loop-i-preserved
loop-i-preserved c =
    let bytes = c.args.bytes.now in
    let i = c.loop-i.i in
    let on : get_or bytes i 0 ≡ 10 → ⊥ = λ ends. omega arith in
    let one = prefix_len-drop_yes (λ b. not (eqb b 10)) bytes i 0 c.loop-i-test.true (ap not (ne_eqb _ _ on)) in
    omega arith

pub returns : goal.returns
returns c =
    let bytes = c.args.bytes.now in
    let none = prefix_len-drop_all (λ b. not (eqb b 10)) bytes c.loop-i.i c.loop-i-test.false in
    record { value = omega arith; within = omega arith }
