-- What the program's ends of queries say.
use Rattle.std.specs.Prelude.{ℕ, Bool, true, false, List, [], ◌∷◌, ◌++◌, codes, decimal}
use Rattle.fm_words.specs.Parts.{Bytes}
use Rattle.fm_run.specs.declared.task.Task.{Task}
use Rattle.fm_run.specs.declared.task.Side.{Side}
use Rattle.fm_run.specs.declared.task.Side.TheVariants as sides
use Rattle.fm_run.specs.declared.task.Name.{Name}
use Rattle.fm_run.specs.declared.task.Name.TheVariants as tasks
use Rattle.fm_cert.specs.declared.end.End.{End}
use Rattle.fm_cert.specs.declared.end.End.TheVariants as ends
use Rattle.fm_cert.specs.Fields.{Values}
use Rattle.fm_cert.specs.Kinds.{EndKind, end_row}
use Rattle.fm_cert.specs.Kinds as kinds

-- ---- tasks

-- `source` or `target`, where a plan has two ideals
abbrev pub side_words : Side → List Bytes
side_words sides.Alone = []
side_words sides.Source = codes "source" ∷ []
side_words sides.Target = codes "target" ∷ []

abbrev pub task_word : Name → Bytes
task_word tasks.Resolve = codes "resolve"
task_word tasks.Lift = codes "lift"
task_word tasks.Cocycles = codes "cocycles"
task_word tasks.Relations = codes "relations"
task_word tasks.Morphism = codes "morphism"
task_word tasks.Chain = codes "chain"
task_word tasks.Whole = codes "whole"
task_word tasks.Member = codes "member"
task_word tasks.Test = codes "test"
task_word tasks.Coordinates = codes "coordinates"
task_word tasks.Stage = codes "stage"
task_word tasks.Annihilator = codes "annihilator"
task_word tasks.Colon = codes "colon"
task_word tasks.Power = codes "power"
task_word tasks.Contained = codes "contained"
task_word tasks.Lambda = codes "lambda"
task_word tasks.Phi = codes "phi"
task_word tasks.Null = codes "null"
task_word tasks.One = codes "one"
task_word tasks.Onto = codes "onto"

-- the tasks of this name are told apart by a number
abbrev pub is_numbered : Name → Bool
is_numbered tasks.Resolve = true
is_numbered tasks.Lift = true
is_numbered tasks.Chain = true
is_numbered tasks.Stage = true
is_numbered tasks.Colon = true
is_numbered tasks.Lambda = true
is_numbered tasks.Onto = true
is_numbered tasks.Cocycles = false
is_numbered tasks.Relations = false
is_numbered tasks.Morphism = false
is_numbered tasks.Whole = false
is_numbered tasks.Member = false
is_numbered tasks.Test = false
is_numbered tasks.Coordinates = false
is_numbered tasks.Annihilator = false
is_numbered tasks.Power = false
is_numbered tasks.Contained = false
is_numbered tasks.Phi = false
is_numbered tasks.Null = false
is_numbered tasks.One = false

abbrev pub number_words : Bool → ℕ → List Bytes
number_words true n = decimal n ∷ []
number_words false n = []

-- the words of a task
abbrev pub task_words : Task → List Bytes
task_words t = side_words t.side ++ task_word t.name ∷ number_words (is_numbered t.name) t.number

-- ---- ends

abbrev pub end_kind : End → EndKind
end_kind (ends.Zero is_zero stable) = kinds.Zero
end_kind (ends.Class stage) = kinds.Class
end_kind (ends.Invert power) = kinds.Invert
end_kind (ends.Support ideal) = kinds.Support
end_kind (ends.Root rank stable) = kinds.Root
end_kind (ends.Ranks ranks) = kinds.Ranks
end_kind (ends.ExtOf generators relations) = kinds.ExtOf
end_kind (ends.Map zero one onto) = kinds.Map
end_kind (ends.Member is_member) = kinds.Member
end_kind (ends.Budget task) = kinds.Budget
end_kind (ends.Exponents task) = kinds.Exponents
end_kind (ends.WrongLength found needed) = kinds.WrongLength
end_kind (ends.NotCocycle component) = kinds.NotCocycle
end_kind (ends.NotContained generator) = kinds.NotContained

-- what an end says
abbrev pub end_values : (e : End) → Values (end_row (end_kind e))
end_values (ends.Zero is_zero stable) = (is_zero, (stable, tt))
end_values (ends.Class stage) = (stage, tt)
end_values (ends.Invert power) = (power, tt)
end_values (ends.Support ideal) = (ideal.items, tt)
end_values (ends.Root rank stable) = (rank, (stable, tt))
end_values (ends.Ranks ranks) = (ranks.items, tt)
end_values (ends.ExtOf generators relations) = (generators, (relations, tt))
end_values (ends.Map zero one onto) = (zero, (one, (onto, tt)))
end_values (ends.Member is_member) = (is_member, tt)
end_values (ends.Budget task) = (task_words task, tt)
end_values (ends.Exponents task) = (task_words task, tt)
end_values (ends.WrongLength found needed) = (found, (needed, tt))
end_values (ends.NotCocycle component) = (component, tt)
end_values (ends.NotContained generator) = (generator, tt)
