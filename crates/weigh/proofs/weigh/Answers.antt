use Rattle.std.proofs.Common.{subst, arith, rules}
use Rattle.std.specs.Io.KnownBytes.{Appends, IsAtEnd}
use Rattle.weigh.proofs.Reading.{reading_more, reading_all, reading_ends, at_end}
use Rattle.weigh.proofs.weigh.Goals as goal
use Rattle.weigh.proofs.weigh.Goals.{else-loop-test, then-loop-test+in_ok-count+then-count-eq0}

pub loop-preserved : goal.loop-preserved
loop-preserved g c = (
  search rules,
  λ stream e.
      let read = c.in_ok-count.ensures in
      reading_more stream _ _ _ _ _ _ _ _ _ _ _ _ _ _ (c.loop.invariant.1 stream e) read.bytes.0
      (omega (arith, read.bound.1)) c.in_ok-take_in.ensures
      (subst (Appends _ _) c.as_str.ensures.value c.in_ok-print.ensures) c.clear.ensures.bytes,
)

pub returns : goal.returns
returns g c = record {
  printed = λ some stream e short.
      let read = c.loop.invariant.1 stream e in
      let ended : IsAtEnd (g.R.Read.remaining c.loop.input) =
      elim c.loop-test.branch [
        | else-loop-test w ↦ absurd (omega (arith, reading_ends _ _ _ _ _ _ _ _ read))
        | then-loop-test+in_ok-count+then-count-eq0 w ↦
            at_end _ _ _ _ w.if-count-eq0.true w.in_ok-count.ensures.bytes.0
            (w.in_ok-count.ensures.bytes.1 w.if-count-eq0.true (omega arith))
      ] in
      reading_all stream _ _ _ _ _ _ _ _ _ read ended c.in_ok-finish.ensures
      (subst (Appends _ _) c.as_str-2.ensures.value c.in_ok-print-2.ensures);
}
