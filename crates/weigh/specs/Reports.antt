-- What `weigh` prints of a line, and what it adds up.
use Rattle.std.specs.Prelude.{ℕ, ◌+◌, ◌-◌, ◌^◌, min, List, ◌++◌, Ok, Err, codes, decimal, Result}
use Rattle.text.specs.Faults.{text_fault_number, text_fault_place}
use Rattle.text.specs.Texts.{weighed}
use Rattle.text.specs.Weights.{blank_counting, blank_free}
use Rattle.text.specs.declared.faults.TextFault.{TextFault}
use Rattle.weigh.specs.declared.reports.Weights.{Weights}
use Rattle.weigh.specs.declared.reports.Tally.{Tally}

-- both weights where both are given, and else the refusal
abbrev pub both : Result ℕ TextFault → Result ℕ TextFault → Result Weights TextFault
both (Err fault) other = Err fault
both (Ok v) (Err fault) = Err fault
both (Ok v) (Ok u) = Ok (record { counting = v; free = u })

-- what a line weighs by the blank-counting and by the blank-free rule, or why it is refused
abbrev pub line_weights : List ℕ → Result Weights TextFault
line_weights line = both (weighed blank_counting line) (weighed blank_free line)

-- the tally of no lines
abbrev pub no_lines : Tally
no_lines = record { weighed = 0; sums = record { counting = 0; free = 0 }; refused = 0 }

-- a sum that stays at the largest number once it has come there
abbrev pub added : ℕ → ℕ → ℕ
added a b = min (a + b) (2 ^ 64 - 1)

-- the sums with these weights more
abbrev pub summed : Weights → Weights → Weights
summed s w = record { counting = added s.counting w.counting; free = added s.free w.free }

-- the tally with one line more
abbrev pub noted : Tally → Result Weights TextFault → Tally
noted t (Ok w) = record { weighed = added t.weighed 1; sums = summed t.sums w; refused = t.refused }
noted t (Err fault) = record { weighed = t.weighed; sums = t.sums; refused = added t.refused 1 }

-- the number of the next line, from 1
abbrev pub next_line : Tally → ℕ
next_line t = added (added t.weighed t.refused) 1

-- how weights are shown
abbrev pub weights_shown : Weights → List ℕ
weights_shown w = decimal w.counting ++ (codes " with blanks, " ++ (decimal w.free ++ codes " without"))

-- how the report of the line `number` is shown
abbrev pub report_shown : ℕ → Result Weights TextFault → List ℕ
report_shown number (Ok w) = decimal number ++ (codes ": " ++ weights_shown w)
report_shown number (Err fault) =
    decimal number ++ (codes ": refused " ++ (decimal (text_fault_number fault) ++ (codes " at " ++ decimal (text_fault_place fault))))

-- how the tally is shown
abbrev pub summary_shown : Tally → List ℕ
summary_shown t =
    codes "weighed " ++ (decimal t.weighed ++ (codes " lines: " ++ (weights_shown t.sums ++ (codes "; " ++ (decimal t.refused ++ codes " refused")))))

-- what is printed of the line `number` where it is weighed
abbrev pub weights_text : ℕ → Weights → List ℕ
weights_text number w = report_shown number (Ok w) ++ codes "\n"

-- and where it is refused
abbrev pub refusal_text : ℕ → TextFault → List ℕ
refusal_text number fault = report_shown number (Err fault) ++ codes "\n"

-- what is printed of the line `number`
abbrev pub report_text : ℕ → Result Weights TextFault → List ℕ
report_text number (Ok w) = weights_text number w
report_text number (Err fault) = refusal_text number fault

-- what is printed at the end
abbrev pub summary_text : Tally → List ℕ
summary_text t = summary_shown t ++ codes "\n"
