use Rattle.std.proofs.Common.{◌≡◌, ◌≤◌, Ok, length}
use Rattle.fm_words.specs.declared.mark.Mark.TheVariants.{Comma}
use Rattle.fm_words.specs.Parts.{parts}
use Rattle.fm_problem.specs.Limits.{most_generators}
use Rattle.fm_problem.specs.Problems.{plus_generator, generators_in}
use Rattle.fm_words.specs.Steps.{◌>>=◌, steps}
use Rattle.fm_text.specs.Views.{rules_view}
use Rattle.fm_problem.proofs.ideals.read_generators.Given as goal

abbrev pub invariant-generators : goal.invariant-generators
invariant-generators l =
    (steps (plus_generator (rules_view l.rules)) (record { written = l.written; kept = l.kept }) (parts Comma l.from) >>= (λ g. Ok g.kept) ≡ generators_in (rules_view l.rules) (parts Comma l.text))
    × (l.written ≤ most_generators)

abbrev pub decreases-generators : goal.decreases-generators
decreases-generators l = length l.from
