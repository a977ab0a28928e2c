-- What the readers give.
use Rattle.std.specs.Prelude.{◌≡◌, Result, Ok, Err}
use Rattle.fm_problem.specs.declared.problem_error.ProblemError.{ProblemError}
use Rattle.fm_problem.specs.declared.problem_error.ProblemError as errors
use Rattle.fm_problem.specs.Faults.{Fault}

-- exactly what the text says, or exactly its first fault, unless memory runs out
abbrev pub Reads : {A : Type 0} → Result A Fault → Result A ProblemError → Type 0
Reads said (Ok x) = said ≡ Ok x
Reads said (Err (errors.TheVariants.Fault l k)) = said ≡ Err (record { line = l; kind = k })
Reads said (Err errors.TheVariants.Memory) = Unit {0}
