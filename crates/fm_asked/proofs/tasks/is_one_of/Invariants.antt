use Rattle.std.proofs.Common.{◌≡◌, length}
use Rattle.std.specs.List.{list_any}
use Rattle.fm_words.specs.declared.mark.Mark.TheVariants.{Blank}
use Rattle.fm_words.specs.Parts.{parts}
use Rattle.fm_judge.specs.Tasks.{on_side}
use Rattle.fm_asked.specs.Ending.{is_spelled}
use Rattle.fm_asked.proofs.tasks.is_one_of.Given as goal

abbrev pub invariant-names : goal.invariant-names
invariant-names l = list_any (λ t. is_spelled t.0 t.1 (parts Blank l.task)) (on_side l.side l.left)
    ≡ list_any (λ t. is_spelled t.0 t.1 (parts Blank l.task)) (on_side l.side l.names)

abbrev pub decreases-names : goal.decreases-names
decreases-names l = length l.left
