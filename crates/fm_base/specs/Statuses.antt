-- The exit statuses.
use Rattle.std.specs.Prelude.{ℕ}
use Rattle.fm_base.specs.declared.status.Status.{Status}
use Rattle.fm_base.specs.declared.status.Status.TheVariants.{Done, Refused, Usage, Unanswered, Problem, ReadFault, WriteFault, Memory, TooLong}

-- the number by which a process tells how its run ended
abbrev pub code_of : Status → ℕ
code_of Done = 0
code_of Refused = 1
code_of Usage = 2
code_of Unanswered = 3
code_of Problem = 4
code_of ReadFault = 5
code_of WriteFault = 6
code_of Memory = 7
code_of TooLong = 8
