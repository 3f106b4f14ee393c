-- What is kept of a line after a piece is copied to its end.
use Rattle.std.proofs.Common.{◌≡◌, ℕ, ◌+◌, ◌-◌, ◌≤◌, min, List, ◌++◌, length, take, sym, ap, ◌∙◌, ⊎_elim, arith, rules}
use borrow.Rule.Slice.PartMut.{put_mid}
use lib.Seq.{paste, take-paste, take-append-add}
use Rattle.std.proofs.lemmas.List.{length-take-le, take_all}
use Rattle.std.proofs.lemmas.Bool.{cases_lt}
use Rattle.std.proofs.lemmas.List.Edits.{length-paste}
use Rattle.std.specs.List.{refill}
use Rattle.arrayvec.proofs.ArrayVecLemmas.{items-with_items}
use Rattle.std.proofs.lemmas.Slice.{overwrites}

-- the first bytes of a piece, no more than it has
take_min : (n : ℕ) (xs : List ℕ) → take (min (length xs) n) xs ≡ take n xs
take_min n xs =
    ⊎_elim
    (λ h. ap (λ k. take k xs) (omega arith))
    (λ h. take_all (min (length xs) n) xs (omega arith) ∙ sym (take_all n xs h))
    (cases_lt n (length xs))

-- the bytes that were kept, and of the piece those for which there is room
take-both : (limit : ℕ) (held piece : List ℕ) → length held ≤ limit
    → take limit (held ++ piece) ≡ held ++ take (min (length piece) (limit - length held)) piece
take-both limit held piece h =
    let room = limit - length held in
    let whole : length held + room ≡ limit = omega arith in
    ap (λ n. take n (held ++ piece)) (sym whole)
    ∙ take-append-add held piece room
    ∙ ap (λ l. held ++ l) (sym (take_min room piece))

-- `after` is what the array holds once the piece is copied, as far as there is room
pub paste_kept : (limit len more : ℕ) (bytes piece after : List ℕ)
    → length bytes ≡ limit → len ≤ limit → more ≡ min (length piece) (limit - len) → after ≡ paste bytes len piece more
    → take (len + more) after ≡ take limit (take len bytes ++ piece)
paste_kept limit len more bytes piece after whole fits room copied =
    let long = length-take-le len bytes (omega arith) in
    let some : min (length piece) (limit - length (take len bytes)) ≡ more = omega arith in
    let both = take-both limit (take len bytes) piece (omega arith) in
    ap (take (len + more)) copied
    ∙ take-paste bytes len piece more (omega arith) (omega arith)
    ∙ ap (λ n. take len bytes ++ take n piece) (sym some)
    ∙ sym both

-- the same of a part that is written at `at` over `room` bytes, when `now` bytes are kept after it
pub put_kept : (limit len more at room now : ℕ) (bytes piece lent part : List ℕ)
    → length bytes ≡ limit → len ≤ limit → more ≡ min (length piece) (limit - len)
    → at ≡ len → room ≡ more → now ≡ len + more → lent ≡ bytes → part ≡ take more piece
    → take now (refill (length bytes) bytes (put_mid at room lent part)) ≡ take limit (take len bytes ++ piece)
put_kept limit len more at room now bytes piece lent part whole fits is a r n l p =
    let put : put_mid at room lent part ≡ paste bytes len piece more = rw (a, r, l, p) (search (rules, overwrites)) in
    let same : length (paste bytes len piece more) ≡ length bytes = length-paste bytes len piece more (omega arith) (omega arith) in
    let after : refill (length bytes) bytes (put_mid at room lent part) ≡ paste bytes len piece more =
    ap (refill (length bytes) bytes) put ∙ items-with_items (record { items = bytes }) (paste bytes len piece more) same in
    ap (λ k. take k (refill (length bytes) bytes (put_mid at room lent part))) n
    ∙ paste_kept limit len more bytes piece _ whole fits is after
