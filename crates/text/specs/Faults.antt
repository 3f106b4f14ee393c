-- What a refused text reports.
use Rattle.std.specs.Prelude.{ℕ}
use Rattle.text.specs.declared.faults.TextFault.{TextFault}
use Rattle.text.specs.declared.faults.TextFault.TheVariants.{TooLong, Malformed}

-- the number of a refusal
abbrev pub text_fault_number : TextFault → ℕ
text_fault_number TooLong = 14
text_fault_number (Malformed at) = 15

-- its place: where the character that fails begins, counted in bytes from 0
abbrev pub text_fault_place : TextFault → ℕ
text_fault_place TooLong = 0
text_fault_place (Malformed at) = at
