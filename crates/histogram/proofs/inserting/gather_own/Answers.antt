use Rattle.std.proofs.Common.{drop, ap, length, arith}
use Rattle.histogram.proofs.LaidLaws.{own_some}
use Rattle.histogram.specs.Raising.{own_of}
use Rattle.std.proofs.lemmas.List.{length-append}
use Rattle.theory.specs.Sound.{zero_entry}
use Rattle.histogram.proofs.inserting.gather_own.Goals as goal

pub push-requires : goal.push-requires
push-requires c =
    let bs = c.args.buckets.now in
    let k = c.loop-bucket.bucket-index in
    let some = own_some c.args.exponent bs k zero_entry (omega arith) (omega arith) in (
      omega arith,
      omega (
        arith,
        some,
        ap length c.loop-bucket.invariant,
        length-append c.loop-bucket.held.items (own_of c.args.exponent (drop k bs)),
        length-append c.args.held.now.items (own_of c.args.exponent bs),
        c.requires.room,
      ),
    )
