-- Tests and their verdict: which cause decides, and what holds of a call whatever the verdict is.
use Rattle.std.proofs.Common.{◌≡◌, ℕ, ◌≤◌, not, Bool, true, false, ltb, List, [], ◌∷◌, Some, None, Option, refl, ap, arith}
use Rattle.law.specs.Tests.{between, judged, or_else, verdict, when}
use Rattle.law.specs.declared.faults.CallFault.{CallFault}
use Rattle.std.proofs.lemmas.Bool.{cond-false, cond-true}
use Rattle.std.proofs.lemmas.Bool.Decides.{nat_tests}
use Rattle.std.specs.List.{AllByRecursion}

-- what holds of the accepted call and of every refusal holds of what becomes of the call
pub judged_all : {A : Type 0} (v : Option CallFault) (done : A) (refuse : CallFault → A) (P : A → Type 0)
    → P done → ((fault : CallFault) → P (refuse fault)) → P (judged v done refuse)
judged_all None done refuse P d r = d
judged_all (Some fault) done refuse P d r = r fault

module _ (b : Bool) (fault : CallFault) where
  pub when_true : b ≡ true → when b fault ≡ Some fault
  when_true e = cond-true b (Some fault) None e

  pub when_false : b ≡ false → when b fault ≡ None
  when_false e = cond-false b (Some fault) None e

  -- a test that fails decides
  pub verdict_true : (rest : Option CallFault) → b ≡ true → or_else (when b fault) rest ≡ Some fault
  verdict_true rest e = ap (λ (v : Option CallFault). or_else v rest) (when_true e)

  -- one that does not leaves it to the others
  pub verdict_false : (rest : Option CallFault) → b ≡ false → or_else (when b fault) rest ≡ rest
  verdict_false rest e = ap (λ (v : Option CallFault). or_else v rest) (when_false e)

-- what a test that passes says of its numbers
pub not_below : (a b : ℕ) (fault : CallFault) → when (ltb a b) fault ≡ None → b ≤ a
not_below a b fault e = grind (arith, nat_tests)

pub is_between : (a b x : ℕ) (fault : CallFault) → when (not (between a b x)) fault ≡ None → (a ≤ x) × (x ≤ b)
is_between a b x fault e = grind (arith, nat_tests)

-- what comes after a test counts only where the test passes
pub or_else_same : (test x y : Option CallFault) → (test ≡ None → x ≡ y) → or_else test x ≡ or_else test y
or_else_same (Some fault) x y h = refl
or_else_same None x y h = h refl

-- each test of a list passes
abbrev pub Passed : List (Option CallFault) → Type 0
Passed tests = AllByRecursion (λ test. test ≡ None) tests

-- so it is where none decides
pub passed : (tests : List (Option CallFault)) → verdict tests ≡ None → Passed tests
passed [] e = tt
passed (None ∷ tests) e = (refl, passed tests e)
passed (Some fault ∷ tests) e = absurd (cc)
