-- A report under check: what the program keeps of it, the states of the judgement that this stands for, and what is found at its end.
use Rattle.std.specs.Prelude.{◌≡◌, false, Option, Some, None, Result, Ok, Err}
use Rattle.fm_problem.specs.declared.problem.Problem.{Problem}
use Rattle.fm_problem.specs.Sound.{IsProblem, IsQueryOf}
use Rattle.fm_parts.specs.Replays.{Reason}
use Rattle.fm_judge.specs.Judging.{State, BadLine, Counts, between_queries, at_answer, at_done, at_end}
use Rattle.fm_conditions.specs.Reasons.{reason_of}
use Rattle.fm_conditions.specs.declared.why.Refused.{Refused}
use Rattle.fm_conditions.specs.declared.why.Refused.TheVariants.{Memory, Bad}
use Rattle.fm_asked.specs.States.{IsAsked}
use Rattle.fm_check.specs.Standings.{parts_of, Says, IsCertificate, StandsIn, is_end}
use Rattle.fm_check.specs.declared.checked.Checked.{Checked}
use Rattle.fm_check.specs.declared.checked.Checked.TheVariants as found
use Rattle.fm_check.specs.declared.report.Report.{Report}
use Rattle.fm_check.specs.declared.stage.Stage.{Stage}
use Rattle.fm_check.specs.declared.stage.Stage.TheVariants as program

-- the state is of the same head, version and counts
pub record Tells (p : Report) (s : State) : Type 0 where
  pub head : s.sheet.head ≡ Some p.problem
  pub version : s.version ≡ p.version
  pub count : s.sheet.count ≡ p.count
  pub verdicts : s.verdicts ≡ p.verdicts
  pub passed : s.passed ≡ p.passed

-- the next line stands there in the state, under the same query with the same certificate
abbrev pub StandsAt : Problem → Stage → State → Type 0
StandsAt q program.Between s = (s.stage ≡ between_queries) × (s.sheet.asked ≡ None)
StandsAt q (program.Answer a) s = (s.stage ≡ at_answer) × (s.sheet.answer ≡ None) × Says q a s
StandsAt q (program.Certificate a c) s = StandsIn q (parts_of a) c s.stage × Says q a s
StandsAt q (program.Done a) s = (s.stage ≡ at_done) × (s.sheet.asked ≡ Some a.query)
StandsAt q program.End s = (s.stage ≡ at_end) × (s.sheet.asked ≡ None)

-- the query is one of the problem, and what its certificate names is there
abbrev pub IsStage : Problem → Stage → Type 0
IsStage q program.Between = Unit {0}
IsStage q (program.Answer a) = IsQueryOf q a.query × IsAsked q.ring a
IsStage q (program.Certificate a c) = IsAsked q.ring a × IsCertificate q (parts_of a) c × (is_end c.place ≡ false)
IsStage q (program.Done a) = Unit {0}
IsStage q program.End = Unit {0}

-- the state that a line leads to is told; or exactly the reason, unless memory ran out
abbrev pub Steps : {X : Type 0} → Report → Stage → Result X Refused → Result State Reason → Type 0
Steps p stage (Ok _) said = (t : State) × (said ≡ Ok t) × Tells p t × StandsAt p.problem stage t
Steps p stage (Err (Bad why)) said = said ≡ Err (reason_of why)
Steps p stage (Err Memory) said = Unit {0}

-- what a check finds, as the judgement says it
abbrev pub finding : Checked → Result Counts BadLine
finding (found.Accepted verdicts passed) = Ok (record { verdicts = verdicts; passed = passed })
finding (found.Refused line why) = Err (record { line = line; why = reason_of why })
