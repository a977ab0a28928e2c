use Rattle.std.proofs.Common.{◌∙◌, ◌++◌, ◌∷◌, [], ap, List}
use Rattle.fm_complete.specs.declared.head_index.Head.{Head}
use Rattle.fm_complete.proofs.Indexed.{empty_more}
use Rattle.fm_complete.proofs.head_index.HeadIndex.new.Goals as goal

pub loop-k-preserved : goal.loop-k-preserved
loop-k-preserved c =
    c.in_ok-push.ensures.items ∙ ap (λ (row : List Head). c.loop-k.all.items ++ row ∷ []) c.new.ensures
    ∙ ap (λ (rows : List (List Head)). rows ++ [] ∷ []) c.loop-k.invariant ∙ empty_more c.loop-k._k 1
