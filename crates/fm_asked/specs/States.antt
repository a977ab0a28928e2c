-- The query at hand, as the program keeps it, and as the state of the judgement says it.
use Rattle.std.specs.Prelude.{◌≡◌, List, map, Some, option_map}
use Rattle.fm_poly.specs.declared.ring.Ring.{Ring}
use Rattle.fm_report.specs.Parts.{Part}
use Rattle.fm_report.specs.Sheets.{Sheet}
use Rattle.fm_parts.specs.Conditions.{Log}
use Rattle.fm_judge.specs.Goals.{Goal}
use Rattle.fm_judge.specs.Places.{Place}
use Rattle.fm_judge.specs.Judging as judging
use Rattle.fm_judge.specs.Judging.{State, in_certificate}
use Rattle.fm_pres.specs.Tables.{part_at, parts_in}
use Rattle.fm_pres.specs.Blocks.{block_of, parts_at}
use Rattle.fm_replay.specs.Kept.{Keeps}
use Rattle.fm_conditions.specs.Meanings.{AreKeptLogs, logs_of}
use Rattle.fm_asked.specs.declared.asked.Asked.{Asked}
use Rattle.fm_asked.specs.declared.logs.OpenLog.{OpenLog}
use Rattle.fm_asked.specs.Beginnings.{AreBlocks}
use Rattle.fm_asked.specs.Naming.{AreNamed}

-- the logs are of parts that are there, and so are the parts that blocks and the lift of the identity name
pub record IsAsked (r : Ring) (a : Asked) : Type 0 where
  pub ring : a.table.ring ≡ r
  pub logs : AreKeptLogs r (parts_in a.table) a.logs.items
  pub finished : AreBlocks (parts_in a.table) a.finished.items
  pub named : AreNamed (parts_in a.table) a.block a.identity.items

-- the state says the same
pub record SaysAsked (a : Asked) (s : State) : Type 0 where
  pub asked : s.sheet.asked ≡ Some a.query
  pub parts : s.sheet.parts ≡ parts_in a.table
  pub finished : s.sheet.finished ≡ map (block_of (parts_in a.table)) a.finished.items
  pub block : s.sheet.block ≡ option_map (block_of (parts_in a.table)) a.block
  pub identity : s.sheet.identity ≡ parts_at (parts_in a.table) a.identity.items
  pub logs : s.logs ≡ logs_of (parts_in a.table) a.logs.items

-- the log in the state is of the part of this log, and its replay is kept
pub record SaysLog (ps : List Part) (o : judging.OpenLog) (log : OpenLog) : Type 0 where
  pub part : o.part ≡ part_at ps log.part
  pub kept : Keeps log.replay o.replay

-- the state after the end of a log, with these logs
abbrev pub with_logs : State → Goal → Place → List Log → State
with_logs s g p logs = record s { stage = in_certificate g p; logs = logs }

abbrev pub with_sheet : State → Sheet → State
with_sheet s sheet = record s { sheet = sheet }
