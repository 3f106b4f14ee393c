-- A call makes every run that left the state before it longer by itself.
use Rattle.std.proofs.Common.{◌≡◌, ℕ, [], ◌∷◌, refl}
use Rattle.law.proofs.SwapLaws.{run-append}
use Rattle.law.specs.Calls.{Outcome, State, called}
use Rattle.law.specs.Law.{Extends}
use Rattle.law.specs.Runs.{Own, fresh}
use Rattle.law.specs.Tracks.{PlainCall}
use Rattle.law.specs.declared.shapes.Shape.{Shape}

pub extends : (s : Shape) (w : ℕ → ℕ) (st : State) (c : PlainCall) (got : Outcome) (st' : State)
    → got ≡ (called s w st c).outcome → st' ≡ (called s w st c).state → Extends s w st c got st'
extends s w st c got st' e f first ms is =
    rw (run-append s w (fresh first) ms (record { call = c; slab = Own } ∷ []), e, f, is) refl
