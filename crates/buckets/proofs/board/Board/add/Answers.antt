use Rattle.std.proofs.Common.{is_ok, refl, ap, ◌∙◌, arith}
use Rattle.buckets.proofs.CountLaws.{next, next_ok}
use Rattle.histogram.specs.declared.settings.Settings.{Settings}
use Rattle.buckets.proofs.board.Board.add.Goals as goal

pub unwrap-requires : goal.unwrap-requires
unwrap-requires c =
    ap is_ok (c.enter.ensures.value ∙ next_ok c.args.self.now c.args.count c.requires.small c.if-tick-eq-LONGEST_WINDOW.false)

pub invariant_of-self : goal.invariant_of-self
invariant_of-self c =
    let b = c.args.self.now in
    let e = c.enter.ensures in
    let left = c.if-tick-eq-LONGEST_WINDOW.false in
    let is = next b c.args.count c.requires.small left c.enter.new.self c.enter.new.stretch e.standing e.after in
    record {
      window = ap (λ (x : Settings). x.window) is.settings ∙ b.window;
      cap = ap (λ (x : Settings). x.cap) is.settings ∙ b.cap;
      ticks = omega (arith, is.tick, left, b.ticks);
      counts = omega (arith, is.tick, b.counts, c.requires.small);
      whole = c.enter.auto.stretch ∙ b.whole;
      sound = (rw (e.value ∙ next_ok b c.args.count c.requires.small left) at e.keeps).1;
      sum = is.sum;
    }

pub returns : goal.returns
returns c =
    let e = c.enter.ensures in
    let is = next c.args.self.now c.args.count c.requires.small c.if-tick-eq-LONGEST_WINDOW.false c.enter.new.self c.enter.new.stretch
    e.standing e.after in
    record { after = (is.buckets, is.settings, is.tick, refl) }
