use Rattle.std.proofs.Common.{◌≡◌, length}
use Rattle.std.specs.List.{list_all}
use Rattle.fm_words.specs.Words.{words, is_name}
use Rattle.fm_problem.proofs.statements.are_names.Given as goal

abbrev pub invariant-names : goal.invariant-names
invariant-names l = list_all is_name (words l.from) ≡ list_all is_name (words l.text)

abbrev pub decreases-names : goal.decreases-names
decreases-names l = length l.from
