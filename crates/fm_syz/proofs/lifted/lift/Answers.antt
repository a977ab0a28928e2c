use Rattle.std.proofs.Common.{length, subst, sym, ap, ◌∙◌}
use Rattle.fm_poly.specs.declared.ring.Ring.{Ring}
use Rattle.fm_vec.specs.Components.{AreOver}
use Rattle.fm_mat.specs.Matrices.{column_meaning}
use Rattle.fm_mat.proofs.Steps.{map_length}
use Rattle.fm_poly.specs.Polys.{PolyValue, meaning}
use Rattle.fm_graphs.specs.Graphs.{is_below}
use Rattle.fm_syz.specs.GraphValues.{graph_meaning}
use Rattle.fm_syz.specs.Insides.{lifted_value}
use Rattle.fm_syz.proofs.LiftedColumns.{lift_wants, lift_gives, lift_is_solution, lift_is_outside, solution_at}
use Rattle.fm_syz.proofs.lifted.lift.Goals as goal

pub returns-then-not-is_below-clause-solves : goal.returns-then-not-is_below-clause-solves
returns-then-not-is_below-clause-solves c =
    let g = c.args.g.now in
    let r = g.matrix.ring in
    lift_is_outside r (graph_meaning r g) (column_meaning r c.args.v.now) c.args.work.now c.lift_rest.new.work _ c.in-Ok.ensures.follows c.lift_rest.ensures.complete.completed
    (map_length (λ (f : PolyValue). meaning r f.terms) c.args.v.now ∙ c.requires.rows)
    (ap (λ m. is_below m c.in-Ok.x.rest.terms) (sym c.rows.ensures) ∙ sym c.if-not-is_below.ensures)

pub returns-in_err-w-clause-follows : goal.returns-in_err-w-clause-follows
returns-in_err-w-clause-follows c =
    let g = c.args.g.now in
    let r = g.matrix.ring in
    lift_wants r (graph_meaning r g) (column_meaning r c.args.v.now) c.args.work.now c.lift_rest.new.work (lifted_value r) c.from_residual.result _ c.in-Ok.ensures.follows c.from_residual.ensures

pub returns-clause-follows : goal.returns-clause-follows
returns-clause-follows c =
    let g = c.args.g.now in
    let r = g.matrix.ring in
    let G = graph_meaning r g in
    let w = c.in_ok-w.w.items in
    lift_gives r G (column_meaning r c.args.v.now) c.args.work.now c.lift_rest.new.work _ c.in-Ok.ensures.follows (column_meaning r w)
    (ap (λ m. is_below m c.in-Ok.x.rest.terms) (sym c.rows.ensures) ∙ sym c.if-not-is_below.ensures)
    (solution_at r c.ring.result g.matrix.rows c.rows-2.result (length G.matrix.columns) c.width.result (length g.matrix.columns) w c.in-Ok.x.rest.terms
    c.ring.ensures c.rows-2.ensures c.width.ensures (sym (map_length (column_meaning r) g.matrix.columns)) c.in_ok-w.ensures.value)

pub returns-clause-solves : goal.returns-clause-solves
returns-clause-solves c =
    let g = c.args.g.now in
    let r = g.matrix.ring in
    let G = graph_meaning r g in
    let w = c.in_ok-w.w.items in
    let width = sym (map_length (column_meaning r) g.matrix.columns) in (
      subst (λ (s : Ring). AreOver s w) c.ring.ensures c.in_ok-w.ensures.over,
      c.in_ok-w.ensures.rows ∙ c.width.ensures ∙ width,
      lift_is_solution r G (column_meaning r c.args.v.now) c.args.work.now c.lift_rest.new.work _ c.in-Ok.ensures.follows c.lift_rest.ensures.complete.completed
          (map_length (λ (f : PolyValue). meaning r f.terms) c.args.v.now ∙ c.requires.rows) (column_meaning r w)
          (ap (λ m. is_below m c.in-Ok.x.rest.terms) (sym c.rows.ensures) ∙ sym c.if-not-is_below.ensures)
          (solution_at r c.ring.result g.matrix.rows c.rows-2.result (length G.matrix.columns) c.width.result (length g.matrix.columns) w c.in-Ok.x.rest.terms
          c.ring.ensures c.rows-2.ensures c.width.ensures width c.in_ok-w.ensures.value),
    )
