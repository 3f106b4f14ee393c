-- Causes are tested in their order: the first that holds decides.
use Rattle.std.specs.Prelude.{ℕ, Bool, cond, ◌&&◌, List, [], ◌∷◌, Some, None, Option, nat_le}
use Rattle.law.specs.declared.faults.CallFault.{CallFault}

-- a test: its cause where it fails
abbrev pub when : Bool → CallFault → Option CallFault
when fails cause = cond fails (Some cause) None

abbrev pub or_else : Option CallFault → Option CallFault → Option CallFault
or_else (Some fault) later = Some fault
or_else None later = later

-- the first cause of a list of tests
abbrev pub verdict : List (Option CallFault) → Option CallFault
verdict [] = None
verdict (test ∷ tests) = or_else test (verdict tests)

-- what becomes of a call, by the verdict
abbrev pub judged : {A : Type 0} → Option CallFault → A → (CallFault → A) → A
judged None done refuse = done
judged (Some fault) done refuse = refuse fault

-- whether x is from a to b
abbrev pub between : (a b x : ℕ) → Bool
between a b x = nat_le a x && nat_le x b
