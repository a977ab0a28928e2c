use Rattle.std.proofs.Common.{ap₂, ◌∙◌}
use Rattle.fm_mat.specs.Columns.{each_above}
use Rattle.fm_mat.proofs.Meanings.{stack_columns, stack_few, stack_count, stack_value}
use Rattle.fm_mat.proofs.matrix.Matrix.stack.Goals as goal

pub invariant_of-result : goal.invariant_of-result
invariant_of-result c =
    let made = c.in_ok-columns.ensures ∙ ap₂ each_above c.deref.ensures.value c.deref-2.ensures.value in (
      stack_columns c.args.self.now c.self.inside.ring c.self.inside.rows c.self.inside.columns.items c.self.view_is c.args.b.now c.b.inside.ring c.b.inside.rows c.b.inside.columns.items c.b.view_is c.self.invariant.0 c.b.invariant.0 c.requires.ring c.in_ok-columns.columns.items made,
      stack_few c.args.self.now c.self.inside.ring c.self.inside.rows c.self.inside.columns.items c.self.view_is c.args.b.now c.b.inside.ring c.b.inside.rows c.b.inside.columns.items c.b.view_is c.self.invariant.0 c.b.invariant.0 c.requires.ring c.in_ok-columns.columns.items made c.requires.count c.self.invariant.1,
    )

pub returns-clause-count : goal.returns-clause-count
returns-clause-count c =
    let made = c.in_ok-columns.ensures ∙ ap₂ each_above c.deref.ensures.value c.deref-2.ensures.value in
    stack_count c.args.self.now c.self.inside.ring c.self.inside.rows c.self.inside.columns.items c.self.view_is c.args.b.now c.b.inside.ring c.b.inside.rows c.b.inside.columns.items c.b.view_is c.self.invariant.0 c.b.invariant.0 c.requires.ring c.in_ok-columns.columns.items made c.requires.count

pub returns-clause-value : goal.returns-clause-value
returns-clause-value c =
    let made = c.in_ok-columns.ensures ∙ ap₂ each_above c.deref.ensures.value c.deref-2.ensures.value in
    stack_value c.args.self.now c.self.inside.ring c.self.inside.rows c.self.inside.columns.items c.self.view_is c.args.b.now c.b.inside.ring c.b.inside.rows c.b.inside.columns.items c.b.view_is c.self.invariant.0 c.b.invariant.0 c.requires.ring c.in_ok-columns.columns.items made c.requires.count
