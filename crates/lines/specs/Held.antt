-- What a held line holds.
use Rattle.std.specs.Prelude.{ℕ, List, take}
use Rattle.lines.specs.declared.held.HeldLine.{HeldLine}

-- the bytes that are kept of a line
abbrev pub held : {limit : ℕ} → HeldLine limit → List ℕ
held h = take h.len h.bytes.items
