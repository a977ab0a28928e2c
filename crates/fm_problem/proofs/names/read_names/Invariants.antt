use Rattle.std.proofs.Common.{◌≡◌, [], true, length}
use Rattle.std.specs.List.{list_all}
use Rattle.fm_words.specs.Words.{is_name, words}
use Rattle.fm_problem.specs.Problems.{plus_name}
use Rattle.fm_words.specs.Steps.{steps}
use Rattle.fm_problem.proofs.names.read_names.Given as goal

abbrev pub invariant-names : goal.invariant-names
invariant-names l = (steps plus_name l.names (words l.from) ≡ steps plus_name [] (words l.text)) × (list_all is_name (words l.from) ≡ true)

abbrev pub decreases-names : goal.decreases-names
decreases-names l = length l.from
