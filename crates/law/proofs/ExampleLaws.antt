-- The worked examples.
use Rattle.std.proofs.Common.{◌≡◌, ℕ, ◌*◌, ◌/◌, ◌≤◌, [], ◌∷◌, Ok, codes, sym, refl, ap, ◌∙◌, arith, rules}
use Rattle.histogram.proofs.ExponentLaws.{largest-between}
use Rattle.histogram.specs.Settings.{room}
use Rattle.law.proofs.LargestLaws.{largest_one}
use Rattle.law.specs.Calls.{room_for}
use Rattle.law.specs.Examples.{Asked, Characters, Shown, Weight, Worked}
use Rattle.law.specs.Tracks.{largest, largest_up_to}
use Rattle.text.proofs.TextLaws.{verdict-weighed}
use Rattle.text.specs.Encoding.{Spells}
use Rattle.text.specs.Weights.{blank_counting, blank_free}
use Rattle.theory.specs.Arrivals.{Largest}
use Rattle.theory.specs.Sound.{sound}

two_five : Shown (Characters 2 5 (1 ∷ 2 ∷ 2 ∷ []) 4 5)
unfolding largest largest_up_to sound
two_five = (refl, refl)

two_seven : Shown (Characters 2 7 (1 ∷ 2 ∷ 4 ∷ []) 4 7)
unfolding largest largest_up_to sound
two_seven = (refl, refl)

six_five : Shown (Characters 6 5 (1 ∷ 1 ∷ 1 ∷ 2 ∷ []) 4 5)
unfolding largest largest_up_to sound
six_five = (refl, refl)

in_time : Shown (Asked 5 10 14 5 1 1)
unfolding largest largest_up_to sound
in_time = refl

too_late : Shown (Asked 5 10 15 5 0 0)
unfolding largest largest_up_to sound
too_late = refl

-- a room, by its exponent
room_is : (k N R r n : ℕ) → Largest (k / 2) (N * R) r → 1 ≤ k / 2 → room (k / 2) r ≡ n → room_for k N R ≡ n
room_is k N R r n h one e = ap (room (k / 2)) (sym (largest_one (k / 2) (N * R) r one h)) ∙ e

spelled : Spells (97 ∷ 32 ∷ 98 ∷ 99 ∷ []) (codes "a bc")
spelled = search rules

a_bc : Shown (Weight (codes "a bc") 4 3)
a_bc = (
  sym (verdict-weighed blank_counting (codes "a bc") (Ok 4) (omega arith, (97 ∷ 32 ∷ 98 ∷ 99 ∷ [], spelled, refl))),
  sym (verdict-weighed blank_free (codes "a bc") (Ok 3) (omega arith, (97 ∷ 32 ∷ 98 ∷ 99 ∷ [], spelled, refl))),
)

pub worked : Worked
worked = (
  two_five,
  (
    two_seven,
    (
      six_five,
      (
        in_time,
        (
          too_late,
          (
            room_is 2 1 1 0 3 (largest-between 1 1 0 (omega arith) (omega arith)) (omega arith) refl,
            (
              room_is 6 100 10 8 37 (largest-between 3 1000 8 (omega arith) (omega arith)) (omega arith) refl,
              (room_is 32 1048576 1024 26 460 (largest-between 16 1073741824 26 (omega arith) (omega arith)) (omega arith) refl, (a_bc, tt)),
            ),
          ),
        ),
      ),
    ),
  ),
)
