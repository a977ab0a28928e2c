-- What contracts see of a completion: its members, its pending pairs and its log.
use Rattle.std.specs.Prelude.{Bool, if◌then◌else◌, [], map}
use Rattle.fm_groebner.specs.Logs.{Start, Input, Pair, Skip, Entry}
use Rattle.fm_run.specs.Turns.{Turn, last, again}
use Rattle.fm_complete.specs.declared.entry.Start.{Start as ProgramStart}
use Rattle.fm_complete.specs.declared.entry.Start.TheVariants as starts
use Rattle.fm_complete.specs.declared.entry.Entry.{Entry as ProgramEntry}
use Rattle.fm_complete.specs.declared.completion.Completion.{Completion as ProgramCompletion}
use Rattle.fm_complete.specs.declared.completion.Basis.{Basis}
use Rattle.fm_complete.specs.Completions.{Completion}
use Rattle.fm_complete.specs.Divisions.{terms_of}

abbrev pub start_value : ProgramStart → Start
start_value (starts.Input k) = Input k
start_value (starts.Pair a b) = Pair a b
start_value (starts.Skip a b k) = Skip a b k

abbrev pub entry_value : ProgramEntry → Entry
entry_value e = record { start = start_value e.start; by = e.by.items; keep = e.keep }

abbrev pub completion_value : ProgramCompletion → Completion
completion_value c = record { members = terms_of c.members.items; pending = c.pending.pairs; log = map entry_value c.log.items }

-- a completion that has ended
abbrev pub basis_value : Basis → Completion
basis_value b = record { members = terms_of b.members.items; pending = []; log = map entry_value b.log.items }

-- a turn, by whether a pair was formed
abbrev pub turn_value : Bool → Completion → Turn Completion Completion
turn_value formed c = if formed then again c else last c
