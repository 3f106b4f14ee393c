use Rattle.std.proofs.Common.{drop, arith}
use Rattle.text.proofs.EncodingLaws.{front1, front2, front3, front4, read_one, read_from}
use Rattle.text.proofs.characters.read_char.Goals as goal

pub returns-in-len1-up : goal.returns-in-len1-up
returns-in-len1-up c = let s = c.args.rest.now in rw c.from.ensures (read_from _ (front1 s c.in-len1-up.len_at_least) (read_one _ (drop 1 s) (omega arith)))

pub returns-in-len2-up : goal.returns-in-len2-up
returns-in-len2-up c = let s = c.args.rest.now in read_from c.of_two.result (front2 s c.in-len2-up.len_at_least) (c.of_two.ensures (drop 2 s))

pub returns-in-len3-up : goal.returns-in-len3-up
returns-in-len3-up c = let s = c.args.rest.now in read_from c.of_three.result (front3 s c.in-len3-up.len_at_least) (c.of_three.ensures (drop 3 s))

pub returns-in-len4-up : goal.returns-in-len4-up
returns-in-len4-up c = let s = c.args.rest.now in read_from c.of_four.result (front4 s c.in-len4-up.len_at_least) (c.of_four.ensures (drop 4 s))
