-- No cause that a history tells is that of an unsound or a full stretch.
use Rattle.std.proofs.Common.{◌≡◌, ℕ, zero, suc, Bool, List, [], ◌∷◌, Some, None, Ok, Err, Option, Result, sym, subst, arith, rules}
use Rattle.law.specs.Calls.{Outcome, text_test}
use Rattle.law.specs.Faults.{call_fault_number}
use Rattle.law.specs.Law.{NotSixteen, act_causes, ask_causes, causes, causes_over, join_causes, refusal_of, slab_cause}
use Rattle.law.specs.Runs.{Brought, History, Opened, Other, Own, Shut, Since, Standing, since}
use Rattle.law.specs.Tests.{verdict, when}
use Rattle.law.specs.Tracks.{Act, At, Ending, Line, Opening, PlainCall, Question, Retiring, Total}
use Rattle.law.specs.declared.faults.CallFault.TheVariants.{SlabLength}
use Rattle.law.specs.declared.faults.CallFault.{CallFault}
use Rattle.law.specs.declared.shapes.Shape.{Shape}
use Rattle.std.proofs.lemmas.Bool.{cond_both}
use Rattle.std.specs.List.{AllByRecursion}
use Rattle.text.specs.declared.faults.TextFault.TheVariants.{Malformed, TooLong}
use Rattle.text.specs.declared.faults.TextFault.{TextFault}

abbrev FineFault : CallFault → Type 0
FineFault fault = call_fault_number fault ≡ 16 → ⊥

abbrev Fine : Option CallFault → Type 0
Fine None = Unit {0}
Fine (Some fault) = FineFault fault

when_fine : (b : Bool) (fault : CallFault) → FineFault fault → Fine (when b fault)
when_fine b fault h = cond_both b (Some fault) None Fine (λ _. h) (λ _. tt)

text_fine : (r : Result ℕ TextFault) → Fine (text_test r)
text_fine (Ok v) = tt
text_fine (Err TooLong) = omega arith
text_fine (Err (Malformed at)) = omega arith

verdict_fine : (tests : List (Option CallFault)) → AllByRecursion Fine tests → Fine (verdict tests)
verdict_fine [] h = tt
verdict_fine (None ∷ tests) h = verdict_fine tests h.1
verdict_fine (Some fault ∷ tests) h = h.0

module _ (s : Shape) (w : ℕ → ℕ) where
  ask_fine : (i a W : ℕ) (x : Since) (rest : List (Option CallFault)) → AllByRecursion Fine rest → AllByRecursion Fine (ask_causes i a W x rest)
  ask_fine i a W x rest h = search (rules, when_fine)

  act_fine : (i : ℕ) (act : Act) (y : Standing) → AllByRecursion Fine (act_causes s w i act y)
  act_fine i (Opening t k N R) Shut = search (rules, when_fine)
  act_fine i (Opening t k N R) (Opened x) = search rules
  act_fine i (Line t text) Shut = search rules
  act_fine i (Line t text) (Opened x) = search (rules, when_fine, text_fine)
  act_fine i (Question a W) Shut = search rules
  act_fine i (Question a W) (Opened x) = search (rules, when_fine)
  act_fine i Retiring Shut = search rules
  act_fine i Retiring (Opened x) = tt

  join_fine : (i a W : ℕ) (y : Standing) (rest : List (Option CallFault)) → AllByRecursion Fine rest → AllByRecursion Fine (join_causes i a W y rest)
  join_fine i a W Shut rest h = h
  join_fine i a W (Opened x) rest h = ask_fine i a W x rest h

  over_fine : (a W i m : ℕ) (h : History) → AllByRecursion Fine (causes_over w a W i m h)
  over_fine a W i zero h = tt
  over_fine a W i (suc m) h = join_fine i a W (since w i h) (causes_over w a W (suc i) m h) (over_fine a W (suc i) m h)

  slab_fine : (b : Brought) → Fine (slab_cause s b)
  slab_fine Own = tt
  slab_fine (Other slab) = when_fine _ SlabLength (omega arith)

  causes_fine : (c : PlainCall) (b : Brought) (h : History) → AllByRecursion Fine (causes s w c b h)
  causes_fine (At i act) b h = search (rules, slab_fine, when_fine, act_fine)
  causes_fine (Total a W) b h = search (rules, slab_fine, when_fine, over_fine)
  causes_fine Ending b h = tt

  not_sixteen : (outcome : Outcome) → Fine (refusal_of outcome) → NotSixteen outcome
  not_sixteen (Ok answer) h = tt
  not_sixteen (Err fault) h = h

  -- an outcome that has its cause is not that refusal
  pub caused_sound : (c : PlainCall) (b : Brought) (h : History) (outcome : Outcome) → refusal_of outcome ≡ verdict (causes s w c b h) → NotSixteen outcome
  caused_sound c b h outcome e = not_sixteen outcome (subst Fine (sym e) (verdict_fine (causes s w c b h) (causes_fine c b h)))
