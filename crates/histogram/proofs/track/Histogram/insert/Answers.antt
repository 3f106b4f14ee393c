use Rattle.std.proofs.Common.{◌-◌, length, take, drop, sym, ap, ◌∙◌, arith}
use Rattle.histogram.proofs.InsertLaws.{none_left, past_zeros, rest_zeroed, start}
use Rattle.histogram.specs.Entering.{padded}
use Rattle.std.proofs.lemmas.List.{length-drop, length-take}
use Rattle.histogram.proofs.track.Histogram.insert.Goals as goal

pub raise-end-requires-clause-ready : goal.raise-end-requires-clause-ready
raise-end-requires-clause-ready c =
    let s = c.args.self.now.settings in
    let a = start s.half s.top c.args.arrivals c.args.tick c.args.kept c.args.stretch.now s.some s.small
    c.requires.places.1.1 c.requires.form c.requires.room.1 in (a.levels, a.ready)

pub returns-then-end-buckets : goal.returns-then-end-buckets
returns-then-end-buckets c =
    let s = c.args.self.now.settings in
    let xs = c.args.stretch.now in
    let ys = c.raise-end.new.stretch in
    let n = c.raise-end.result in
    let b = c.args.self.now.standing.buckets in
    let a = start s.half s.top c.args.arrivals c.args.tick c.args.kept xs s.some s.small c.requires.places.1.1 c.requires.form c.requires.room.1 in
    let w = c.raise-end.ensures.raised a.levels a.ready in
    record {
      after = rest_zeroed _ xs ys n b (past_zeros b xs c.requires.past) (omega (arith, w.1)) w.0 c.fill.new.self (length (take (b - n) (drop n ys)))
          (omega arith) c.requires.places.1.0 (omega (arith, length-take (b - n) (drop n ys), length-drop n ys, c.requires.places, c.raise-end.auto.stretch))
          (c.fill.ensures.after (λ y k. k)) ∙ ap (padded (length xs)) (sym a.same);
      many = omega (arith, w.1, ap length a.same);
    }

pub returns-else-end-buckets : goal.returns-else-end-buckets
returns-else-end-buckets c =
    let s = c.args.self.now.settings in
    let xs = c.args.stretch.now in
    let b = c.args.self.now.standing.buckets in
    let a = start s.half s.top c.args.arrivals c.args.tick c.args.kept xs s.some s.small c.requires.places.1.1 c.requires.form c.requires.room.1 in
    let w = c.raise-end.ensures.raised a.levels a.ready in
    record {
      after = none_left _ xs c.raise-end.new.stretch c.raise-end.result b (past_zeros b xs c.requires.past) (omega (arith, w.1)) w.0 (omega arith)
          ∙ ap (padded (length xs)) (sym a.same);
      many = omega (arith, w.1, ap length a.same);
    }
