use Rattle.std.proofs.Common.{◌≡◌, ℕ, ◌*◌, ◌/◌, ◌^◌, ◌≤◌, mul-le-mul, arith, rules}
use Rattle.histogram.proofs.ExponentLaws.{at_most_30}
use Rattle.histogram.proofs.settings.Settings.new.Goals as goal
use Rattle.histogram.proofs.settings.Settings.new.Goals.{Else-not-contains-3}

-- what the tests leave
record Limits (k window cap : ℕ) : Type 0 where
  half : 1 ≤ k / 2
  few : k / 2 ≤ 16
  opens : 1 ≤ window
  closes : window ≤ 1048576
  takes : 1 ≤ cap
  fills : cap ≤ 1024
  some : 1 ≤ window * cap
  most : window * cap ≤ 2 ^ 30

limits : (c : Else-not-contains-3) → Limits c.args.k c.args.window c.args.cap
limits c =
    let k : (2 ≤ c.args.k) × (c.args.k ≤ 32) = search rules in
    let n : (1 ≤ c.args.window) × (c.args.window ≤ 1048576) = search rules in
    let r : (1 ≤ c.args.cap) × (c.args.cap ≤ 1024) = search rules in
    record { half = omega arith; few = omega arith; opens = n.0; closes = n.1; takes = r.0; fills = r.1; some = mul-le-mul n.0 r.0; most = mul-le-mul n.1 r.1 }

pub exponent_for-requires : goal.exponent_for-requires
exponent_for-requires c = let l = limits (goal.at.exponent_for-requires c).Else-not-contains-3 in record { some = (l.half, l.some) }

pub invariant_of-result : goal.invariant_of-result
invariant_of-result c =
    let l = limits (goal.at.invariant_of-result c).Else-not-contains-3 in
    let e = c.exponent_for.ensures in
    let top : c.from-top.result ≡ c.exponent_for.result = search rules in
    rw top (record {
      some = l.half;
      few = l.few;
      opens = l.opens;
      closes = l.closes;
      takes = l.takes;
      fills = l.fills;
      small = at_most_30 (c.args.k / 2) (c.args.window * c.args.cap) c.exponent_for.result l.half l.most e.value.below;
      below = e.value.below;
      last = e.next;
    })
