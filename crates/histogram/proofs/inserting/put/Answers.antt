use Rattle.std.proofs.Common.{◌++◌, length, drop, take, arith}
use Rattle.histogram.proofs.LaidLaws.{row_filled, row_more}
use Rattle.std.proofs.lemmas.List.{length-append, length-drop, length-take}
use Rattle.histogram.proofs.inserting.put.Goals as goal

pub loop-k-preserved : goal.loop-k-preserved
loop-k-preserved c =
    let place = c.args.place.now in
    let after = drop c.args.new place in
    row_more c.args.exponent c.args.new c.loop-k.k c.args.olds.now (c.fill.new.self ++ after) c.loop-k.place (omega arith)
    (omega (arith, length-append c.fill.new.self after, length-drop c.args.new place, length-take c.args.new place, c.fill.ensures.len, c.requires.room))
    c.loop-k.invariant

pub returns : goal.returns
returns c =
    let place = c.args.place.now in
    record {
      filled = row_filled c.args.exponent c.args.tick c.args.new (length (take c.args.new place)) c.loop-k.k c.args.olds.now c.fill.new.self (drop c.args.new place) c.loop-k.place
          (c.fill.ensures.after (λ y k. k)) (omega (arith, length-take c.args.new place)) (omega (arith, length-drop c.args.new place, c.requires.room)) (omega arith) c.loop-k.invariant;
    }
