-- Ends of queries without an answer, and the words of tasks.
use Rattle.std.specs.Prelude.{Bool, false, List, [], ◌∷◌, ◌++◌, Option, Some, None}
use Rattle.fm_words.specs.declared.mark.Mark.TheVariants.{Blank}
use Rattle.fm_words.specs.Parts.{Bytes, parts}
use Rattle.fm_run.specs.declared.task.Side.{Side}
use Rattle.fm_run.specs.declared.task.Name.{Name}
use Rattle.fm_run.specs.declared.task.Name.TheVariants as tasks
use Rattle.fm_problem.specs.declared.query.Query.{Query}
use Rattle.fm_cert.specs.Ends.{side_words, task_word, is_numbered}
use Rattle.fm_cert.specs.Kinds.{Ended}
use Rattle.fm_cert.specs.Lines.{Line, Row}
use Rattle.fm_judge.specs.Tasks.{may_end, spells}

abbrev pub may_end_line : Query → Line → Bool
may_end_line z (Row (Ended kind) v) = may_end z kind v
may_end_line z line = false

-- the words that are left of a text; none after the last one
abbrev pub words_in : Option Bytes → List Bytes
words_in None = []
words_in (Some text) = parts Blank text

-- the words are those of a task with this name
abbrev pub is_spelled : Side → Name → List Bytes → Bool
is_spelled side name ws = spells (side_words side ++ task_word name ∷ []) (is_numbered name) ws

abbrev pub map_names : List Name
map_names = tasks.Contained ∷ tasks.Lambda ∷ tasks.Phi ∷ tasks.Null ∷ tasks.One ∷ tasks.Onto ∷ []
