use Rattle.std.proofs.Common.{◌+◌, ◌-◌, ◌/◌, arith}
use lib.Count.{count_leading_zeros}
use Rattle.histogram.proofs.ExponentLaws.{largest-between, sides}
use Rattle.histogram.proofs.exponent.exponent_for.Goals as goal

pub returns : goal.returns
returns c =
    let l = c.args.half in
    let m = c.args.arrivals in
    let s = sides m l c.requires.some.0 c.requires.some.1 (omega arith) in
    record { value = largest-between l m (63 - count_leading_zeros 64 ((m - 1) / l + 1)) s.low s.high; next = s.high }
