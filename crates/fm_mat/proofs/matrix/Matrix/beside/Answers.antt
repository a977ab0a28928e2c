use Rattle.std.proofs.Common.{◌++◌, ap₂, ◌∙◌}
use Rattle.fm_mat.proofs.Meanings.{beside_columns, beside_few, beside_value}
use Rattle.fm_mat.proofs.matrix.Matrix.beside.Goals as goal

pub invariant_of-result : goal.invariant_of-result
invariant_of-result c =
    let made = c.in_ok-push_columns-2.ensures ∙ ap₂ (λ xs ys. xs ++ ys) (c.in_ok-push_columns.ensures ∙ ap₂ (λ xs ys. xs ++ ys) c.in_ok-columns.ensures.items c.deref.ensures.value) c.deref-2.ensures.value in (
      beside_columns c.args.self.now c.self.inside.ring c.self.inside.rows c.self.inside.columns.items c.self.view_is c.args.b.now c.b.inside.ring c.b.inside.rows c.b.inside.columns.items c.b.view_is c.self.invariant.0 c.b.invariant.0 c.requires.ring c.push_columns-2.new.out.items made c.requires.rows,
      beside_few c.args.self.now c.self.inside.ring c.self.inside.rows c.self.inside.columns.items c.self.view_is c.args.b.now c.b.inside.ring c.b.inside.rows c.b.inside.columns.items c.b.view_is c.self.invariant.0 c.b.invariant.0 c.requires.ring c.push_columns-2.new.out.items made c.requires.few,
    )

pub returns-clause-value : goal.returns-clause-value
returns-clause-value c =
    let made = c.in_ok-push_columns-2.ensures ∙ ap₂ (λ xs ys. xs ++ ys) (c.in_ok-push_columns.ensures ∙ ap₂ (λ xs ys. xs ++ ys) c.in_ok-columns.ensures.items c.deref.ensures.value) c.deref-2.ensures.value in
    beside_value c.args.self.now c.self.inside.ring c.self.inside.rows c.self.inside.columns.items c.self.view_is c.args.b.now c.b.inside.ring c.b.inside.rows c.b.inside.columns.items c.b.view_is c.self.invariant.0 c.b.invariant.0 c.requires.ring c.push_columns-2.new.out.items made c.requires.rows
