-- What the program keeps of a report so far, and the states of the judgement that it stands for.
use Rattle.std.specs.Prelude.{suc, ◌≡◌, ◌<◌, ◌^◌, Bool, true, false, List, length, Option, Some, None, Result, Ok, Err}
use Rattle.fm_poly.specs.declared.ring.Ring.{Ring}
use Rattle.fm_problem.specs.declared.problem.Problem.{Problem}
use Rattle.fm_complete.specs.Standing.{AreOfShape}
use Rattle.fm_cert.specs.Kinds as kinds
use Rattle.fm_cert.specs.Lines as lines
use Rattle.fm_cert.specs.Lines.{Line, Head, Question}
use Rattle.fm_report.specs.Parts.{Part}
use Rattle.fm_report.specs.Sheets.{is_answer}
use Rattle.fm_parts.specs.Replays.{Reason, Form}
use Rattle.fm_lines.specs.declared.row.Row.{Row}
use Rattle.fm_lines.specs.declared.row.Row.TheVariants as rows
use Rattle.fm_judge.specs.Goals as goals
use Rattle.fm_judge.specs.Places as places
use Rattle.fm_judge.specs.Judging as judging
use Rattle.fm_judge.specs.Judging.{State, Stage, stage_at, in_log, at_done, certificate_line}
use Rattle.fm_pres.specs.Tables.{parts_in}
use Rattle.fm_conditions.specs.Reasons.{reason_of}
use Rattle.fm_conditions.specs.declared.why.Refused.{Refused}
use Rattle.fm_conditions.specs.declared.why.Refused.TheVariants.{Memory, Bad}
use Rattle.fm_places.specs.declared.place.Place.{Place}
use Rattle.fm_places.specs.declared.place.Place.TheVariants as program
use Rattle.fm_places.specs.Meanings.{IsGoal, IsPlace, goal_of, place_of}
use Rattle.fm_asked.specs.OpenLogs.{IsOpen}
use Rattle.fm_asked.specs.States.{SaysAsked, SaysLog}
use Rattle.fm_asked.specs.declared.asked.Asked.{Asked}
use Rattle.fm_check.specs.declared.certificate.Certificate.{Certificate}
use Rattle.fm_asked.specs.declared.logs.OpenLog.{OpenLog}

-- ---- the query at hand

-- the parts of the query at hand
abbrev pub parts_of : Asked → List Part
parts_of a = parts_in a.table

-- this is what the state says of the query at hand
pub record Says (q : Problem) (a : Asked) (s : State) : Type 0 where
  pub head : s.sheet.head ≡ Some q
  pub asked : SaysAsked a s

-- ---- certificates

abbrev pub IsOpenIf : Ring → List Part → Option OpenLog → Type 0
IsOpenIf r ps None = Unit {0}
IsOpenIf r ps (Some l) = IsOpen r ps l

-- a log is open, and its replay is of vectors of the shape of its inputs
abbrev pub IsReplaying : Option OpenLog → Type 0
IsReplaying None = ⊥
IsReplaying (Some l) = AreOfShape l.replay.ring l.replay.rows l.inputs.items × (length l.inputs.items < 2 ^ 32)

-- the place after the last one
abbrev pub is_end : Place → Bool
is_end program.End = true
is_end place = false

-- no log stands behind the last place
abbrev pub IsBefore : Place → Option OpenLog → Type 0
IsBefore p None = Unit {0}
IsBefore p (Some l) = is_end p ≡ false

-- the ideals and parts exist that the goal, the place and an open log name
pub record IsCertificate (q : Problem) (ps : List Part) (c : Certificate) : Type 0 where
  pub goal : IsGoal q ps c.goal
  pub place : IsPlace ps c.place
  pub log : IsOpenIf q.ring ps c.log
  pub before : IsBefore c.place c.log

-- the next line stands in a place, or in a log
abbrev pub StandsWith : goals.Goal → places.Place → List Part → Option OpenLog → Stage → Type 0
StandsWith g p ps None stage = stage ≡ stage_at g p
StandsWith g p ps (Some l) stage = (o : judging.OpenLog) × (stage ≡ in_log g p o) × SaysLog ps o l

abbrev pub StandsIn : Problem → List Part → Certificate → Stage → Type 0
StandsIn q ps c stage = StandsWith (goal_of q ps c.goal) (place_of q.ring ps c.goal.aim c.place) ps c.log stage

-- ---- what a line of a certificate does

-- the state after it, of the same report and with the same counts
pub record Goes (q : Problem) (a : Asked) (c : Certificate) (s t : State) : Type 0 where
  pub says : Says q a t
  pub stands : StandsIn q (parts_of a) c t.stage
  pub version : t.version ≡ s.version
  pub count : t.sheet.count ≡ s.sheet.count
  pub verdicts : t.verdicts ≡ s.verdicts
  pub passed : t.passed ≡ s.passed

-- there is such a state; or exactly the reason, unless memory ran out
abbrev pub Leads : {X : Type 0} → Problem → Asked → Certificate → State → Result X Refused → Result State Reason → Type 0
Leads q a c s (Ok _) said = (t : State) × (said ≡ Ok t) × Goes q a c s t
Leads q a c s (Err (Bad why)) said = said ≡ Err (reason_of why)
Leads q a c s (Err Memory) said = Unit {0}

-- a certificate is under way, where one has begun
abbrev pub IsCertificateIf : Problem → List Part → Option Certificate → Type 0
IsCertificateIf q ps None = Unit {0}
IsCertificateIf q ps (Some c) = IsCertificate q ps c × (is_end c.place ≡ false)

-- the state after the end of a query: one more answer, whose certificate begins
pub record IsAnswered (q : Problem) (a : Asked) (c : Certificate) (s t : State) : Type 0 where
  pub says : Says q a t
  pub stands : StandsIn q (parts_of a) c t.stage
  pub version : t.version ≡ s.version
  pub count : t.sheet.count ≡ s.sheet.count
  pub verdicts : t.verdicts ≡ suc s.verdicts
  pub passed : t.passed ≡ s.passed

-- or one more query without an answer
pub record IsPassed (q : Problem) (a : Asked) (s t : State) : Type 0 where
  pub says : Says q a t
  pub stands : t.stage ≡ at_done
  pub version : t.version ≡ s.version
  pub count : t.sheet.count ≡ s.sheet.count
  pub verdicts : t.verdicts ≡ s.verdicts
  pub passed : t.passed ≡ suc s.passed

-- exactly what the end of a query leads to, or exactly the reason, unless memory ran out
abbrev pub Answers : Problem → Asked → State → Result (Option Certificate) Refused → Result State Reason → Type 0
Answers q a s (Ok (Some c)) said = (t : State) × (said ≡ Ok t) × IsAnswered q a c s t
Answers q a s (Ok None) said = (t : State) × (said ≡ Ok t) × IsPassed q a s t
Answers q a s (Err (Bad why)) said = said ≡ Err (reason_of why)
Answers q a s (Err Memory) said = Unit {0}

-- a line in a place
abbrev pub certificate_on : State → goals.Goal → places.Place → Line → Result State Reason
certificate_on s g p (lines.Row kind v) = certificate_line s g p kind v
certificate_on s g p (Head statement) = Err Form
certificate_on s g p (Question k statement) = Err Form

-- rows that stand in places; the others add parts, begin logs or blocks, or end queries
abbrev pub is_placed : Row → Bool
is_placed (rows.Ended ending) = false
is_placed (rows.Part number form) = false
is_placed (rows.Log number part) = false
is_placed (rows.Datum name degree) = false
is_placed (rows.Done number) = false
is_placed row = true

-- whether a query ends so with an answer
abbrev pub is_answer_line : Line → Bool
is_answer_line (lines.Row (kinds.Ended kind) v) = is_answer kind
is_answer_line line = false
