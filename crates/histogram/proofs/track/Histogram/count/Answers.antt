use Rattle.std.proofs.Common.{◌≡◌, ◌+◌, ◌-◌, sym, ◌∙◌, arith}
use Rattle.histogram.proofs.StretchLaws.{Tells, figures_are, survey_tells}
use Rattle.histogram.proofs.SurveyLaws.{low_none, oldest-some}
use Rattle.histogram.specs.Surveys.{held}
use Rattle.theory.proofs.BracketLaws.{oldest_le}
use Rattle.theory.proofs.FullLaws.{low_is}
use Rattle.theory.specs.Buckets.{low}
use Rattle.histogram.proofs.track.Histogram.count.Goals as goal
use Rattle.histogram.proofs.track.Histogram.count.Goals.{In_ok-counted}

tells : (c : In_ok-counted) → Tells c.args.self.now c.args.window c.args.stretch.now c.in_ok-counted.counted
tells c = survey_tells c.args.self.now c.args.window c.args.stretch.now c.in_ok-counted.counted c.in_ok-counted.ensures.value

pub overflow_sub-low : goal.overflow_sub-low
overflow_sub-low c =
    let t = tells (goal.at.overflow_sub-low c).In_ok-counted in
    omega (arith, t.old, t.sizes, oldest_le 0 (held c.args.self.now c.args.window c.args.stretch.now))

pub overflow_add-low : goal.overflow_add-low
overflow_add-low c =
    let t = tells (goal.at.overflow_add-low c).In_ok-counted in
    let bs = held c.args.self.now c.args.window c.args.stretch.now in
    omega (arith, t.old, t.sizes, oldest_le 0 bs, oldest-some bs (omega (arith, t.many, c.if-counted-eq0.false)))

pub returns-then-counted-eq0 : goal.returns-then-counted-eq0
returns-then-counted-eq0 c =
    let t = tells (goal.at.returns-then-counted-eq0 c).In_ok-counted in
    let bs = held c.args.self.now c.args.window c.args.stretch.now in
    let least : 0 ≡ low bs = sym (low_none bs (sym t.many ∙ c.if-counted-eq0.true)) in
    let are = figures_are c.args.self.now c.args.window c.args.stretch.now 0 c.in_ok-counted.counted.sizes t.sound least t.sizes in
    record { value = are.0; brackets = are.1 }

pub returns-else-counted-eq0 : goal.returns-else-counted-eq0
returns-else-counted-eq0 c =
    let t = tells (goal.at.returns-else-counted-eq0 c).In_ok-counted in
    let v = c.in_ok-counted.counted in
    let bs = held c.args.self.now c.args.window c.args.stretch.now in
    let least : (v.sizes - v.oldest) + 1 ≡ low bs =
    rw (t.sizes, t.old) (sym (low_is bs (omega (arith, t.many, c.if-counted-eq0.false)))) in
    let are = figures_are c.args.self.now c.args.window c.args.stretch.now ((v.sizes - v.oldest) + 1) v.sizes t.sound least t.sizes in
    record { value = are.0; brackets = are.1 }
