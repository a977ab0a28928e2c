use Rattle.std.proofs.Common.{◌+◌, ◌∷◌, ◌++◌, [], ap, ◌∙◌, arith}
use Rattle.fm_syz.proofs.Numbering.{numbers_more}
use Rattle.fm_syz.proofs.trimming.numbers_to.Goals as goal

pub loop-k-preserved : goal.loop-k-preserved
loop-k-preserved c =
    c.in_ok-push.ensures.items ∙ ap (λ ks. ks ++ (c.loop-k.k + 1) ∷ []) c.loop-k.invariant ∙ numbers_more 1 c.loop-k.k (c.loop-k.k + 1) (omega arith)
