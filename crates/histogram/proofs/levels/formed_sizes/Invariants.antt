use Rattle.std.proofs.Common.{◌≡◌, ◌+◌, ◌*◌, ◌^◌, ◌≤◌}
use Rattle.theory.specs.Buckets.{total}
use Rattle.histogram.specs.Tails.{Tail}
use Rattle.histogram.proofs.levels.formed_sizes.Given as goal

-- all buckets are formed exactly when those that are left go on from what was seen; the sum so far is of those before
abbrev pub invariant-loop-e : goal.invariant-loop-e
invariant-loop-e l =
    record {
      onward : Tail l.settings.half l.settings.top 0 l.own l.buckets → Tail l.settings.half l.settings.top l.e l.last l.rest;
      back : Tail l.settings.half l.settings.top l.e l.last l.rest → Tail l.settings.half l.settings.top 0 l.own l.buckets;
      sum : l.sizes + total l.rest ≡ total l.buckets;
      bounded : l.sizes + (l.settings.half + 1) ≤ (l.settings.half + 1) * 2 ^ l.e;
    }
