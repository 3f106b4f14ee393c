use Rattle.std.proofs.Common.{arith}
use Rattle.lines.proofs.Copied.{put_kept}
use Rattle.lines.proofs.held.HeldLine.extend.Goals as goal

pub returns : goal.returns
returns g c =
    let line = c.args.self.now in
    record {
      after =
          put_kept g.row.LIMIT line.len c.min-more.result _ _ _ line.bytes.items c.args.piece.now _ _ line.whole line.fits
          (omega arith) (omega arith) (omega arith) (omega arith) c.as_mut_slice.ensures.value c.copy_from_slice.ensures.after;
    }
