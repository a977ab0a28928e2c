-- The first lines of a report: the states behind them, and what is found in the lines that follow.
use Rattle.std.specs.Prelude.{ℕ, ◌≡◌, [], Some, Result, Ok, Err, IfOk}
use Rattle.fm_words.specs.Parts.{Bytes}
use Rattle.fm_words.specs.Steps.{◌>>=◌}
use Rattle.fm_mono.specs.declared.order.Order.{Order}
use Rattle.fm_problem.specs.Problems.{with_order}
use Rattle.fm_problem.specs.Sound.{IsProblem}
use Rattle.fm_problem.specs.declared.problem.Problem.{Problem}
use Rattle.fm_report.specs.Sheets.{Sheet, blank}
use Rattle.fm_judge.specs.Judging.{State, BadLine, Counts, all_lines, at_ring, at_order, between_queries, judged_lines, moved_to}
use Rattle.fm_conditions.specs.Reasons.{reason_of}
use Rattle.fm_conditions.specs.declared.why.Refused.{Refused}
use Rattle.fm_conditions.specs.declared.why.Refused.TheVariants.{Memory, Bad}
use Rattle.fm_check.specs.Reports.{finding}
use Rattle.fm_check.specs.declared.checked.Checked.{Checked}

-- the state behind the line with the version
abbrev pub after_version : ℕ → State
after_version v = record { sheet = blank; stage = at_ring; version = v; logs = []; verdicts = 0; passed = 0 }

abbrev pub headed : Problem → Sheet
headed q = record blank { head = Some q }

-- behind the ring line
abbrev pub after_ring : ℕ → Problem → State
after_ring v q = moved_to (after_version v) (headed q) at_order

-- and behind the order line
abbrev pub after_order : ℕ → Problem → State
after_order v q = moved_to (after_version v) (headed q) between_queries

-- with any order it is a problem
abbrev pub IsBegun : Problem → Type 0
IsBegun q = (o : Order) → IsProblem (with_order o q)

-- how many queries have an answer and how many have none, or the first bad line
abbrev pub counts_of : Result State BadLine → Result Counts BadLine
counts_of r = r >>= λ s. Ok (record { verdicts = s.verdicts; passed = s.passed })

-- what is found is exactly what is judged of the lines of a text, from this number on and after this state
abbrev pub Finds : {F : Type 0} → ℕ → State → Bytes → Result Checked F → Type 0
Finds n s text result = IfOk result (λ found. counts_of (judged_lines n s (all_lines text)) ≡ finding found)

-- the line with this number is found to be bad
abbrev pub IsFoundBad : ℕ → Refused → Checked → Type 0
IsFoundBad n (Bad why) found = finding found ≡ Err (record { line = n; why = reason_of why })
IsFoundBad n Memory found = ⊥
