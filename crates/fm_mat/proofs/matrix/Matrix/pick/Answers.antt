use Rattle.std.proofs.Common.{◌-◌, [], map, get_or, length, ap, sym, ◌∙◌, subst}
use Rattle.fm_mat.specs.Columns.{AreNumbers}
use Rattle.fm_mat.specs.Matrices.{MatrixValue, AreColumns}
use Rattle.fm_mat.proofs.Meanings.{columns_picked, picked_few, pick_value}
use Rattle.fm_mat.proofs.matrix.Matrix.pick.Goals as goal

pub invariant_of-result : goal.invariant_of-result
invariant_of-result c =
    let made = c.in_ok-columns.ensures ∙ ap (λ cs. map (λ j. get_or cs (j - 1) []) c.args.columns.now) c.deref.ensures.value in
    let numbers = subst (λ k. AreNumbers k c.args.columns.now) (sym (ap (λ (M : MatrixValue). length M.columns) c.self.view_is)) c.requires.numbers in (
      subst (AreColumns c.self.inside.ring c.self.inside.rows) (sym made)
          (columns_picked c.self.inside.ring c.self.inside.rows c.self.inside.columns.items c.args.columns.now c.self.invariant.0 numbers),
      picked_few c.self.inside.columns.items c.in_ok-columns.columns.items c.args.columns.now made c.requires.few,
    )

pub returns-clause-value : goal.returns-clause-value
returns-clause-value c = pick_value c.args.self.now c.self.inside.ring c.self.inside.rows c.self.inside.columns.items c.self.view_is c.in_ok-columns.columns.items c.args.columns.now
    (c.in_ok-columns.ensures ∙ ap (λ cs. map (λ j. get_or cs (j - 1) []) c.args.columns.now) c.deref.ensures.value)
