use Rattle.std.proofs.Common.{ℕ, ◌+◌, ◌-◌, List, ◌++◌, length, sym, ap, ◌∙◌, arith}
use Rattle.histogram.proofs.LaidLaws.{length-newer_is}
use Rattle.histogram.proofs.RaiseLaws.{found, none_moved, own_few, rest_of, row_done, row_fits, some_held, up_inside, up_less, up_ready, up_short}
use Rattle.theory.specs.Levels.{newer}
use Rattle.histogram.proofs.inserting.+raise.Goals as goal

pub returns-then-turn-olds-eq0 : goal.returns-then-turn-olds-eq0
returns-then-turn-olds-eq0 t c = record {
  raised = λ levels r.
      none_moved r c.if-turn-olds-eq0.true c.copy_within.new.self c.requires.places.0 c.requires.places.1 c.copy_within.ensures.after;
}

pub gather_newer-requires : goal.gather_newer-requires
gather_newer-requires t c = record { room = omega (arith, ap length c.new-held.ensures, length-newer_is c.args.olds.now, c.requires.half, c.requires.olds) }

pub gather_own-requires : goal.gather_own-requires
gather_own-requires t c = record {
  room = omega (
    arith,
    own_few c.requires.ready.1,
    ap length (c.gather_newer.ensures.holds ∙ ap (λ (z : List ℕ). z ++ newer c.args.olds.now) c.new-held.ensures),
    length-newer_is c.args.olds.now,
    c.requires.half,
    c.requires.olds,
  );
}

pub raise-end-requires : goal.raise-end-requires
raise-end-requires t c =
    let r = c.requires.ready.1 in
    let some = some_held r c.if-turn-olds-eq0.false in
    let k = found r c.new-held.ensures c.gather_newer.ensures.holds c.len-came.ensures.value c.gather_own.ensures.holds c.len.ensures.value
    c.len-2.ensures.value c.deref.ensures.0 c.stays-stay.ensures.value c.min-new.ensures in
    let less = up_less r some k in (
      rw c.decreases at less,
      (
        c.requires.half,
        (
          omega (arith, c.requires.new),
          (
            up_short r some k c.requires.olds,
            ((up_inside r some k c.requires.places.0, c.requires.places.1), (rest_of c.requires.ready.0, up_ready r some k)),
          ),
        ),
      ),
    )

pub slice_bounds-put-end : goal.slice_bounds-put-end
slice_bounds-put-end t c =
    let r = c.requires.ready.1 in
    let some = some_held r c.if-turn-olds-eq0.false in
    let k = found r c.new-held.ensures c.gather_newer.ensures.holds c.len-came.ensures.value c.gather_own.ensures.holds c.len.ensures.value
    c.len-2.ensures.value c.deref.ensures.0 c.stays-stay.ensures.value c.min-new.ensures in
    omega (arith, row_fits r some k, c.raise-end.auto.stretch)

pub returns : goal.returns
returns t c = record {
  raised = λ levels r.
      let some = some_held r c.if-turn-olds-eq0.false in
      let k = found r c.new-held.ensures c.gather_newer.ensures.holds c.len-came.ensures.value c.gather_own.ensures.holds c.len.ensures.value
      c.len-2.ensures.value c.deref.ensures.0 c.stays-stay.ensures.value c.min-new.ensures in
      let above = c.raise-end.ensures.raised (rest_of levels) (up_ready r some k) in
      row_done r some k c.raise-end.new.stretch c.put.new.place c.deref-2.result.now c.raise-end.result
      (c.args.turn.write + c.stays-stay.result - c.args.turn.write) above.0 above.1 (c.deref-2.ensures.0 ∙ sym c.deref.ensures.0) c.put.ensures.filled (omega arith);
}
