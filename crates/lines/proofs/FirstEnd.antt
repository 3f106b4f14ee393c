-- A search for byte 10 finds the length of the line.
use Rattle.std.proofs.Common.{◌≡◌, ℕ, not, List, Option, None, Some, length, sym, ap, arith}
use Rattle.std.specs.Option.{unwrap_or}
use Rattle.std.proofs.lemmas.Bool.{false_from_ne_true}
use Rattle.std.proofs.lemmas.List.Sums.{prefix_len_is}
use Rattle.memchr.specs.Find.{IsFirstByte, is_byte}
use Rattle.lines.specs.Lines.{line_length}

pub first_end : (s : List ℕ) (r : Option ℕ) → IsFirstByte (is_byte 10) s r → unwrap_or r (length s) ≡ line_length s
first_end s None none =
    sym (prefix_len_is _ s (length s) 0 (omega arith)
    (λ k below. ap not (false_from_ne_true _ (none k (omega arith) below))) (λ below. absurd (omega arith)))
first_end s (Some n) first =
    sym (prefix_len_is _ s n 0 (omega (arith, first.0.high))
    (λ k below. ap not (false_from_ne_true _ (first.0.before k (omega arith) below))) (λ below. ap not first.1))
