use Rattle.std.proofs.Common.{Err, ◌+◌, ◌∷◌, ◌++◌, [], suc, length, subst, sym, ap, ◌∙◌, arith}
use Rattle.fm_run.specs.Runs.{Follows}
use Rattle.fm_mat.specs.Matrices.{MatrixValue, AreColumns, column_meaning, columns_meaning}
use Rattle.fm_mat.proofs.Steps.{map_length, columns_more}
use Rattle.fm_poly.specs.declared.ring.Ring.{Ring}
use Rattle.fm_vec.specs.Components.{AreOver}
use Rattle.fm_graphs.specs.Graphs.{inside_run, inside_from, is_below}
use Rattle.fm_syz.specs.GraphValues.{graph_meaning}
use Rattle.fm_syz.specs.Insides.{inside_value}
use Rattle.fm_syz.proofs.LiftedColumns.{inside_done, inside_stops, inside_wants, inside_found, inside_next, lift_left, at_end, at_next, at_more, solution_at}
use Rattle.fm_syz.proofs.inside.lift_to_the_first_outside.Goals as goal

pub returns-in_default-clause-follows : goal.returns-in_default-clause-follows
unfolding inside_run
returns-in_default-clause-follows c =
    let r = c.args.g.now.matrix.ring in
    let G = graph_meaning r c.args.g.now in
    let sols = columns_meaning r c.columns.solutions.items in
    let k = suc c.columns.number in
    ap (λ cs. inside_from r G 1 (columns_meaning r cs) c.args.work.now) (sym c.columns-columns.ensures.same)
    ∙ inside_done r G sols k c.columns.work _ (at_end r G sols k c.columns.work _ c.columns.columns.now c.in_default.ensures.cases c.columns.invariant.run)

pub returns-in-Err-clause-follows : goal.returns-in-Err-clause-follows
unfolding inside_run
returns-in-Err-clause-follows c =
    let r = c.args.g.now.matrix.ring in
    let G = graph_meaning r c.args.g.now in
    let sols = columns_meaning r c.columns.solutions.items in
    let k = suc c.columns.number in
    subst (λ cs. Follows (inside_value r) (Err c.in-Err.stop) c.args.work.now c.lift_rest.new.work (inside_from r G 1 (columns_meaning r cs) c.args.work.now)) c.columns-columns.ensures.same
    (inside_stops r G sols k c.columns.work _ (column_meaning r c.entries.result.now) (columns_meaning r c.in-Some.later.now)
    (at_next r G sols k c.columns.work _ c.columns.columns.now c.in-Some.later.now c.in-Some.v.now c.entries.result.now c.in-Some.ensures.cases.0 c.entries.ensures c.columns.invariant.run)
    c.lift_rest.new.work (inside_value r) c.in-Err.stop c.args.work.now c.columns.invariant.spent c.in-Err.ensures.follows)

pub returns-then-not-is_below-clause-follows : goal.returns-then-not-is_below-clause-follows
unfolding inside_run
returns-then-not-is_below-clause-follows c =
    let r = c.args.g.now.matrix.ring in
    let G = graph_meaning r c.args.g.now in
    let sols = columns_meaning r c.columns.solutions.items in
    let k = suc c.columns.number in
    ap (λ cs. inside_from r G 1 (columns_meaning r cs) c.args.work.now) (sym c.columns-columns.ensures.same)
    ∙ inside_found r G sols k c.columns.work _ (column_meaning r c.entries.result.now) (columns_meaning r c.in-Some.later.now)
    (at_next r G sols k c.columns.work _ c.columns.columns.now c.in-Some.later.now c.in-Some.v.now c.entries.result.now c.in-Some.ensures.cases.0 c.entries.ensures c.columns.invariant.run)
    c.lift_rest.new.work _ c.in-Ok.ensures.follows (c.columns.number + 1) (omega arith) (ap (λ m. is_below m c.in-Ok.x.rest.terms) (sym c.rows-rows.ensures) ∙ sym c.if-not-is_below.ensures)

pub columns-preserved : goal.columns-preserved
columns-preserved c =
    let g = c.args.g.now in
    let r = g.matrix.ring in
    let G = graph_meaning r g in
    let sols = columns_meaning r c.columns.solutions.items in
    let k = suc c.columns.number in
    let here = c.in-Some.ensures.cases.0 in
    let shape : AreColumns r g.matrix.rows (c.in-Some.v.now ∷ c.in-Some.later.now) = subst (AreColumns r g.matrix.rows) here c.columns.invariant.shape in
    let pushed = c.in_ok-push.ensures.items ∙ ap (λ h. c.columns.solutions.items ++ h ∷ []) c.new.ensures in
    record {
      shape = shape.2;
      out = subst (AreColumns r (length g.matrix.columns)) (sym pushed) (columns_more r (length g.matrix.columns) c.columns.solutions.items c.in_ok-entries.entries.items c.columns.invariant.out
          (subst (λ (s : Ring). AreOver s c.in_ok-entries.entries.items) c.ring-ring.ensures c.in_ok-entries.ensures.over) (c.in_ok-entries.ensures.rows ∙ (c.cols-width.ensures ∙ ap (λ (m : MatrixValue). length m.columns) c.matrix.ensures.same)));
      taken = (let t = c.columns.invariant.taken in omega (arith, t, c.in_ok-push.ensures.len));
      count = omega (arith, c.columns.invariant.count, ap length here);
      spent = (let s = c.columns.invariant.spent in let l = lift_left r G (column_meaning r c.entries.result.now) c.columns.work c.lift_rest.new.work _ c.in-Ok.ensures.follows in omega (arith, s, l));
      run = at_more r G (suc k) c.lift_rest.new.work _ c.columns.solutions.items c.push.new.self.items c.in_ok-entries.entries.items (suc (c.columns.number + 1)) (columns_meaning r c.in-Some.later.now)
          (c.in_ok-push.ensures.items ∙ ap (λ h. c.columns.solutions.items ++ h ∷ []) c.new.ensures) (omega arith)
          (inside_next r G sols k c.columns.work _ (column_meaning r c.entries.result.now) (columns_meaning r c.in-Some.later.now)
          (at_next r G sols k c.columns.work _ c.columns.columns.now c.in-Some.later.now c.in-Some.v.now c.entries.result.now here c.entries.ensures c.columns.invariant.run)
          c.lift_rest.new.work _ c.in-Ok.ensures.follows (column_meaning r c.in_ok-entries.entries.items)
          (ap (λ m. is_below m c.in-Ok.x.rest.terms) (sym c.rows-rows.ensures) ∙ sym c.if-not-is_below.ensures)
          (solution_at r c.ring-ring.result g.matrix.rows c.rows-rows.result (length G.matrix.columns) c.cols-width.result (length g.matrix.columns) c.in_ok-entries.entries.items c.in-Ok.x.rest.terms
          c.ring-ring.ensures c.rows-rows.ensures (c.cols-width.ensures ∙ ap (λ (m : MatrixValue). length m.columns) c.matrix.ensures.same) (sym (map_length (column_meaning r) g.matrix.columns)) c.in_ok-entries.ensures.value));
    }

pub returns-in_err-entries-clause-follows : goal.returns-in_err-entries-clause-follows
unfolding inside_run
returns-in_err-entries-clause-follows c =
    let r = c.args.g.now.matrix.ring in
    let G = graph_meaning r c.args.g.now in
    let sols = columns_meaning r c.columns.solutions.items in
    let k = suc c.columns.number in
    subst (λ cs. Follows (inside_value r) c.from_residual.result c.args.work.now c.lift_rest.new.work (inside_from r G 1 (columns_meaning r cs) c.args.work.now)) c.columns-columns.ensures.same
    (inside_wants r G sols k c.columns.work _ (column_meaning r c.entries.result.now) (columns_meaning r c.in-Some.later.now)
    (at_next r G sols k c.columns.work _ c.columns.columns.now c.in-Some.later.now c.in-Some.v.now c.entries.result.now c.in-Some.ensures.cases.0 c.entries.ensures c.columns.invariant.run)
    c.lift_rest.new.work (inside_value r) c.from_residual.result c.args.work.now _ c.columns.invariant.spent c.in-Ok.ensures.follows c.from_residual.ensures)

pub returns-in_err-push-clause-follows : goal.returns-in_err-push-clause-follows
unfolding inside_run
returns-in_err-push-clause-follows c =
    let r = c.args.g.now.matrix.ring in
    let G = graph_meaning r c.args.g.now in
    let sols = columns_meaning r c.columns.solutions.items in
    let k = suc c.columns.number in
    subst (λ cs. Follows (inside_value r) c.from_residual-in_err-push.result c.args.work.now c.lift_rest.new.work (inside_from r G 1 (columns_meaning r cs) c.args.work.now)) c.columns-columns.ensures.same
    (inside_wants r G sols k c.columns.work _ (column_meaning r c.entries.result.now) (columns_meaning r c.in-Some.later.now)
    (at_next r G sols k c.columns.work _ c.columns.columns.now c.in-Some.later.now c.in-Some.v.now c.entries.result.now c.in-Some.ensures.cases.0 c.entries.ensures c.columns.invariant.run)
    c.lift_rest.new.work (inside_value r) c.from_residual-in_err-push.result c.args.work.now _ c.columns.invariant.spent c.in-Ok.ensures.follows c.from_residual-in_err-push.ensures)
