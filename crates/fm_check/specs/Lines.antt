-- Lines behind the head of a report, as they are said.
use Rattle.std.specs.Prelude.{◌≡◌, Bool, true, false, [], Option, Some, None, Result, Ok, Err}
use Rattle.fm_problem.specs.Statements.{Statement, RingLine, OrderLine, IdealLine, statement_of}
use Rattle.fm_problem.specs.declared.query.Query.{Query}
use Rattle.fm_cert.specs.Lines.{Line}
use Rattle.fm_parts.specs.Replays.{Reason, Form}
use Rattle.fm_judge.specs.Judging.{State, judged_line}
use Rattle.fm_lines.specs.declared.line_text.LineText.{LineText}
use Rattle.fm_lines.specs.declared.line_text.LineText.TheVariants as texts
use Rattle.fm_pres.specs.Tables.{parts_in}
use Rattle.fm_asked.specs.declared.asked.Asked.{Asked}
use Rattle.fm_conditions.specs.Reasons.{reason_of}
use Rattle.fm_conditions.specs.declared.why.Refused.{Refused}
use Rattle.fm_conditions.specs.declared.why.Refused.TheVariants.{Memory, Bad}
use Rattle.fm_conditions.specs.declared.why.Why.TheVariants as whys
use Rattle.fm_check.specs.Reports.{StandsAt, Tells}
use Rattle.fm_check.specs.declared.report.Report.{Report}
use Rattle.fm_check.specs.declared.stage.Stage.{Stage}

-- the statement is that of a line of a head, or of none
abbrev pub IsOfHead : Option Statement → Type 0
IsOfHead None = Unit {0}
IsOfHead (Some (RingLine n names)) = Unit {0}
IsOfHead (Some (OrderLine o)) = Unit {0}
IsOfHead (Some (IdealLine name texts)) = Unit {0}
IsOfHead s = ⊥

-- the judgement of a line, where there is one
abbrev pub judged_if : State → Option Line → Result State Reason
judged_if s None = Err Form
judged_if s (Some l) = judged_line s l

-- the state is told that a line leads to which can be said; and one that can't has no form
abbrev pub Tries : {F : Type 0} → Report → Stage → Result Bool F → Result State Reason → Type 0
Tries p stage (Ok true) said = (t : State) × (said ≡ Ok t) × Tells p t × StandsAt p.problem stage t
Tries p stage (Ok false) said = said ≡ Err Form
Tries p stage (Err e) said = Unit {0}

-- the state is told that a row leads to, with the stage after it; or exactly the reason, unless memory ran out
abbrev pub Turns : Report → Result Stage Refused → Result State Reason → Type 0
Turns p (Ok stage) said = (t : State) × (said ≡ Ok t) × Tells p t × StandsAt p.problem stage t
Turns p (Err (Bad why)) said = said ≡ Err (reason_of why)
Turns p (Err Memory) said = Unit {0}

-- exactly the reason, unless memory ran out
abbrev pub IsReason : Refused → Reason → Type 0
IsReason (Bad why) reason = reason ≡ reason_of why
IsReason Memory reason = Unit {0}

-- the reason of a row that can't be read, by what is judged without its exponents
abbrev pub capped_reason : {X : Type 0} → Result X Refused → Refused
capped_reason (Err Memory) = Memory
capped_reason (Err (Bad whys.Form)) = Bad whys.Form
capped_reason judged = Bad whys.Exponents

-- a line of a head is read whose statement is that of one, or of none
abbrev pub IsOfHeadIf : Option LineText → Type 0
IsOfHeadIf (Some (texts.Head text)) = IsOfHead (statement_of text.now)
IsOfHeadIf line = Unit {0}

-- nothing has been shown of the query
pub record IsNew (z : Query) (a : Asked) : Type 0 where
  pub query : a.query ≡ z
  pub parts : parts_in a.table ≡ []
  pub logs : a.logs.items ≡ []
  pub finished : a.finished.items ≡ []
  pub block : a.block ≡ None
  pub identity : a.identity.items ≡ []
