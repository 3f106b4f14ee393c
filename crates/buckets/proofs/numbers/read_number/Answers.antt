use Rattle.std.proofs.Common.{ℕ, ◌+◌, ◌*◌, length, sym, ◌∙◌, subst, arith}
use Rattle.buckets.proofs.NumberLaws.{Begun, refused_empty, refused_zero, refused_byte, refused_passed, begun_more, begun_all}
use Rattle.buckets.proofs.numbers.read_number.Goals as goal
use Rattle.buckets.proofs.numbers.read_number.Goals.{then-number-most-via-then-number-most, then-number-most-via-else-number-most+then-digit-most}
use Rattle.std.proofs.lemmas.Bool.{eqb-true, eqb-false}

pub returns-then-is_empty : goal.returns-then-is_empty
returns-then-is_empty c =
    refused_empty c.args.line.now c.args.most c.ranges.most.fits (eqb-true _ 0 (sym c.is_empty.ensures ∙ c.if-is_empty.true))

pub returns-then-line-gt1 : goal.returns-then-line-gt1
returns-then-line-gt1 c = refused_zero c.args.line.now c.args.most c.ranges.most.fits (omega arith) (omega arith)

pub returns-then-byte-lt48 : goal.returns-then-byte-lt48
returns-then-byte-lt48 c = refused_byte c.args.line.now c.args.most c.ranges.most.fits c.loop-byte.byte-index (omega arith)
    (λ digit. omega arith)

pub returns-then-number-most : goal.returns-then-number-most
returns-then-number-most c =
    refused_passed c.args.line.now c.args.most c.ranges.most.fits c.loop-byte.byte-index c.loop-byte.number c.loop-byte.invariant
    (omega arith) (omega arith) (omega arith) (elim c.then-number-most.branch
    [ then-number-most-via-then-number-most w ↦ omega arith | then-number-most-via-else-number-most+then-digit-most w ↦ omega arith ])

pub loop-byte-preserved : goal.loop-byte-preserved
loop-byte-preserved c =
    let line = c.args.line.now in
    let is = c.from-digit.ensures in
    subst (λ (d : ℕ). Begun line c.args.most (c.loop-byte.byte-index + 1) (c.loop-byte.number * 10 + d)) (sym is)
    (begun_more line c.args.most c.ranges.most.fits c.loop-byte.byte-index c.loop-byte.number c.loop-byte.invariant
    (omega arith) (omega arith) (omega arith) (omega arith))

pub returns : goal.returns
returns c =
    let some = eqb-false (length c.args.line.now) 0 (sym c.is_empty.ensures ∙ c.if-is_empty.false) in
    begun_all c.args.line.now c.args.most c.ranges.most.fits c.loop-byte.byte-index c.loop-byte.number c.loop-byte.invariant
    (omega arith) (omega arith) (λ zero. omega arith)
