use Rattle.std.proofs.Common.{◌++◌, ◌∷◌, [], ap, subst, sym, ◌∙◌}
use Rattle.fm_mat.specs.Matrices.{AreColumns}
use Rattle.fm_mat.proofs.Steps.{columns_more}
use Rattle.fm_writer.proofs.tests.columns_of.Goals as goal

pub loop-j-preserved : goal.loop-j-preserved
loop-j-preserved c =
    subst (AreColumns c.args.ring c.args.rows) (sym (c.in_ok-push.ensures.items ∙ ap (λ h. c.loop-j.out.items ++ h ∷ []) c.new.ensures))
    (columns_more c.args.ring c.args.rows c.loop-j.out.items c.in_ok-column.field-0.items c.loop-j.invariant c.in_ok-column.ensures.over c.in_ok-column.ensures.rows)
