-- Logs that are being replayed, as the program keeps them.
use Rattle.std.specs.Prelude.{◌+◌, ◌<◌, ◌^◌, ◌≡◌, Bool, true, false, List, [], ◌∷◌, ◌++◌, length, Option, Some, None, Result, Ok, Err, Vec}
use Rattle.std.specs.Global.{Global}
use Rattle.fm_poly.specs.declared.ring.Ring.{Ring}
use Rattle.fm_vec.specs.Vectors.{VectorValue}
use Rattle.fm_groebner.specs.Logs as logs
use Rattle.fm_complete.specs.Divisions.{terms_of}
use Rattle.fm_complete.specs.Standing.{AreOfShape}
use Rattle.fm_cert.specs.Lines.{Line, Row}
use Rattle.fm_report.specs.Parts.{Part, part_value}
use Rattle.fm_report.specs.Sheets.{ring_in}
use Rattle.fm_parts.specs.Replays.{Reason, Form, BadLog, Replay, is_number, graph_inputs}
use Rattle.fm_parts.specs.Shapes.{rows_of, columns_of}
use Rattle.fm_parts.specs.Values.{is_within_bound}
use Rattle.fm_judge.specs.Goals.{Goal}
use Rattle.fm_judge.specs.Places.{Place}
use Rattle.fm_judge.specs.Judging as judging
use Rattle.fm_judge.specs.Judging.{State, in_certificate, in_log, inputs_in, log_entry, end_log_line}
use Rattle.fm_pres.specs.Tables.{part_at}
use Rattle.fm_replay.specs.Kept.{ReplayValue, Keeps}
use Rattle.fm_lines.specs.declared.row.Row as lines
use Rattle.fm_lines.specs.declared.row.Row.TheVariants as rows
use Rattle.fm_conditions.specs.declared.kept_log.KeptLog.{KeptLog}
use Rattle.fm_conditions.specs.declared.why.Refused.{Refused}
use Rattle.fm_conditions.specs.declared.why.Refused.TheVariants.{Memory, Bad}
use Rattle.fm_conditions.specs.declared.why.Why.TheVariants.{Exponents}
use Rattle.fm_conditions.specs.Reasons.{reason_of}
use Rattle.fm_asked.specs.declared.logs.OpenLog.{OpenLog}
use Rattle.fm_asked.specs.Narrowing.{narrowed}

-- these vectors are the columns of the graph of the value of the part
pub record AreInputs (r : Ring) (a : Part) (inputs : List VectorValue) : Type 0 where
  pub terms : terms_of inputs ≡ graph_inputs r (part_value r a)
  pub shape : AreOfShape r (rows_of a + columns_of a) inputs
  pub few : length inputs < 2 ^ 32

-- the columns of the graph; or the value can't be formed within the bound, unless memory ran out
abbrev pub AreInputsIf : Ring → Part → Result (Vec VectorValue Global) Refused → Type 0
AreInputsIf r a (Ok v) = AreInputs r a v.items × (is_within_bound r a ≡ true)
AreInputsIf r a (Err (Bad why)) = (why ≡ Exponents) × (is_within_bound r a ≡ false)
AreInputsIf r a (Err Memory) = Unit {0}

-- a log of the part with this number, whose replay is of vectors of the shape of its inputs
pub record IsOpen (r : Ring) (ps : List Part) (log : OpenLog) : Type 0 where
  pub number : is_number ps log.part ≡ true
  pub room : rows_of (part_at ps log.part) + columns_of (part_at ps log.part) < 2 ^ 32
  pub inputs : AreInputs r (part_at ps log.part) log.inputs.items
  pub ring : log.replay.ring ≡ r
  pub rows : log.replay.rows ≡ rows_of (part_at ps log.part) + columns_of (part_at ps log.part)

-- the inputs are those of the log in the state, and the replay is kept
pub record IsLogOf (s : State) (o : judging.OpenLog) (log : OpenLog) : Type 0 where
  pub ring : ring_in s.sheet.head ≡ log.replay.ring
  pub inputs : inputs_in s o ≡ terms_of log.inputs.items
  pub kept : Keeps log.replay o.replay

-- the state with a log of this part and this replay
abbrev pub with_log : State → Goal → Place → Part → Replay → State
with_log s g p a t = record s { stage = in_log g p (record { part = a; replay = t }) }

-- what a log row does
abbrev pub entry_on : State → Goal → Place → judging.OpenLog → Line → Result State Reason
entry_on s g p o (Row kind v) = log_entry s g p o kind v
entry_on s g p o line = Err Form

-- all rows but `end`
abbrev pub is_within_log : lines.Row → Bool
is_within_log rows.EndLog = false
is_within_log row = true

-- the entry is replayed, and the replay is kept; or exactly the reason, unless memory ran out
abbrev pub IsEntered : {X : Type 0} → State → Goal → Place → Part → ReplayValue → Result X Refused → Result State Reason → Type 0
IsEntered s g p a new (Ok _) said = (t : Replay) × (said ≡ Ok (with_log s g p a t)) × Keeps new t
IsEntered s g p a new (Err (Bad why)) said = said ≡ Err (reason_of why)
IsEntered s g p a new (Err Memory) said = Unit {0}

-- the same of a replay alone
abbrev pub IsReplayed : {X : Type 0} → ReplayValue → Result X Refused → Result Replay Reason → Type 0
IsReplayed new (Ok _) said = (t : Replay) × (said ≡ Ok t) × Keeps new t
IsReplayed new (Err (Bad why)) said = said ≡ Err (reason_of why)
IsReplayed new (Err Memory) said = Unit {0}

-- what an entry takes up, its numbers narrowed
abbrev pub narrowed_start : logs.Start → logs.Start
narrowed_start (logs.Input k) = logs.Input (narrowed k)
narrowed_start (logs.Pair a b) = logs.Pair (narrowed a) (narrowed b)
narrowed_start (logs.Skip a b k) = logs.Skip (narrowed a) (narrowed b) (narrowed k)

-- the log is kept with its members, or it isn't whole
abbrev pub IsEnded : State → Goal → Place → Part → Option KeptLog → Result State Reason → Type 0
IsEnded s g p a None said = said ≡ Err BadLog
IsEnded s g p a (Some l) said =
    said ≡ Ok (record s { stage = in_certificate g p; logs = s.logs ++ record { part = a; members = terms_of l.members.items } ∷ [] })
