use Rattle.std.proofs.Common.{◌≡◌, length}
use Rattle.fm_words.specs.declared.mark.Mark.TheVariants.{Comma}
use Rattle.fm_words.specs.Parts.{parts}
use Rattle.fm_problem.specs.Problems.{plus_entry, vector_in}
use Rattle.fm_problem.specs.Statements.{entries_of}
use Rattle.fm_words.specs.Steps.{steps}
use Rattle.fm_text.specs.Views.{rules_view}
use Rattle.fm_problem.proofs.queries.read_vector.Given as goal

abbrev pub invariant-entries : goal.invariant-entries
invariant-entries l = steps (plus_entry (rules_view l.rules)) l.entries (parts Comma l.from) ≡ vector_in (rules_view l.rules) (entries_of l.text)

abbrev pub decreases-entries : goal.decreases-entries
decreases-entries l = length l.from
