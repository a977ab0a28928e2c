use Rattle.std.proofs.Common.{Err, ◌∷◌, ◌++◌, [], length, subst, sym, ap, ◌∙◌, arith}
use Rattle.fm_run.specs.Runs.{Follows}
use Rattle.fm_poly.specs.declared.ring.Ring.{Ring}
use Rattle.fm_vec.specs.Components.{AreOver}
use Rattle.fm_mat.specs.Matrices.{MatrixValue, AreColumns, column_meaning, columns_meaning, matrix_meaning}
use Rattle.fm_mat.proofs.Steps.{map_length, columns_more}
use Rattle.fm_graphs.specs.Graphs as runs
use Rattle.fm_syz.specs.GraphValues.{graph_meaning}
use Rattle.fm_syz.proofs.LiftedColumns.{Lifts, lifts_begun, lifts_next, lifts_stop, lifts_want, lifts_more, lift_left, columns_pushed, solution_at}
use Rattle.fm_syz.proofs.lifts.solve_columns.Goals as goal

pub columns-init : goal.columns-init
columns-init c =
    let g = c.args.g.now in
    let r = g.matrix.ring in
    record {
      shape = subst (AreColumns r g.matrix.rows) (sym c.columns-columns.ensures.same)
          (subst (λ m. AreColumns r m c.args.b.now.columns) c.requires.rows (subst (λ (s : Ring). AreColumns s c.args.b.now.rows c.args.b.now.columns) c.requires.ring c.columns-columns.ensures.shape));
      out = subst (AreColumns r (length g.matrix.columns)) (sym c.new-solutions.ensures.items) tt;
      run = subst (λ s. Lifts r (graph_meaning r g) (columns_meaning r s) (columns_meaning r c.columns-columns.result.now) c.args.work.now (runs.lifted r (graph_meaning r g) (columns_meaning r c.columns-columns.result.now) c.args.work.now)) (sym c.new-solutions.ensures.items)
          (lifts_begun r (graph_meaning r g) (columns_meaning r c.columns-columns.result.now) c.args.work.now);
      spent = omega arith;
      count = (let n = ap length c.new-solutions.ensures.items in omega (arith, n));
    }

pub returns-in-Err-clause-follows : goal.returns-in-Err-clause-follows
returns-in-Err-clause-follows c =
    let g = c.args.g.now in
    let r = g.matrix.ring in
    let G = graph_meaning r g in
    subst (λ cs. Follows (matrix_meaning r) (Err c.in-Err.stop) c.args.work.now c.lift_rest.new.work (runs.lifted r G (columns_meaning r cs) c.args.work.now)) c.columns-columns.ensures.same
    (lifts_stop r G (columns_meaning r c.columns.solutions.items) (column_meaning r c.entries.result.now) (columns_meaning r c.in-Some.later.now) c.columns.work c.lift_rest.new.work _
    (lifts_next r G c.columns.columns.now c.in-Some.later.now c.in-Some.v.now c.entries.result.now (columns_meaning r c.columns.solutions.items) c.columns.work _ c.in-Some.ensures.cases.0 c.entries.ensures c.columns.invariant.run)
    (matrix_meaning r) c.in-Err.stop c.args.work.now c.columns.invariant.spent c.in-Err.ensures.follows)

pub columns-preserved : goal.columns-preserved
columns-preserved c =
    let g = c.args.g.now in
    let r = g.matrix.ring in
    let G = graph_meaning r g in
    let sols = columns_meaning r c.columns.solutions.items in
    let here = c.in-Some.ensures.cases.0 in
    let shape : AreColumns r g.matrix.rows (c.in-Some.v.now ∷ c.in-Some.later.now) = subst (AreColumns r g.matrix.rows) here c.columns.invariant.shape in
    let pushed = c.in_ok-push.ensures.items ∙ ap (λ h. c.columns.solutions.items ++ h ∷ []) c.new-in-columns.ensures in
    let w = c.in_ok-entries.entries.items in
    let all = runs.lifted r G (columns_meaning r c.columns-columns.result.now) c.args.work.now in
    record {
      shape = shape.2;
      count = (let n = c.columns.invariant.count in let l = ap length here in omega (arith, n, l, c.in_ok-push.ensures.len));
      spent = (let s = c.columns.invariant.spent in let l = lift_left r G (column_meaning r c.entries.result.now) c.columns.work c.lift_rest.new.work _ c.in-Ok.ensures.follows in omega (arith, s, l));
      out = subst (AreColumns r (length g.matrix.columns)) (sym pushed) (columns_more r (length g.matrix.columns) c.columns.solutions.items w c.columns.invariant.out
          (subst (λ (s : Ring). AreOver s w) c.ring-ring.ensures c.in_ok-entries.ensures.over) (c.in_ok-entries.ensures.rows ∙ (c.cols-width.ensures ∙ ap (λ (m : MatrixValue). length m.columns) c.matrix.ensures.same)));
      run = subst (λ s. Lifts r G s (columns_meaning r c.in-Some.later.now) c.lift_rest.new.work all) (columns_pushed r c.columns.solutions.items c.push.new.self.items w pushed)
          (lifts_more r G sols (column_meaning r c.entries.result.now) (columns_meaning r c.in-Some.later.now) c.columns.work c.lift_rest.new.work all
          (lifts_next r G c.columns.columns.now c.in-Some.later.now c.in-Some.v.now c.entries.result.now sols c.columns.work _ here c.entries.ensures c.columns.invariant.run)
          _ c.in-Ok.ensures.follows (column_meaning r w)
          (solution_at r c.ring-ring.result g.matrix.rows c.rows-rows.result (length G.matrix.columns) c.cols-width.result (length g.matrix.columns) w c.in-Ok.x.rest.terms
          c.ring-ring.ensures c.rows-rows.ensures (c.cols-width.ensures ∙ ap (λ (m : MatrixValue). length m.columns) c.matrix.ensures.same) (sym (map_length (column_meaning r) g.matrix.columns)) c.in_ok-entries.ensures.value));
    }

pub returns-in_err-entries-clause-follows : goal.returns-in_err-entries-clause-follows
returns-in_err-entries-clause-follows c =
    let g = c.args.g.now in
    let r = g.matrix.ring in
    let G = graph_meaning r g in
    subst (λ cs. Follows (matrix_meaning r) c.from_residual.result c.args.work.now c.lift_rest.new.work (runs.lifted r G (columns_meaning r cs) c.args.work.now)) c.columns-columns.ensures.same
    (lifts_want r G (columns_meaning r c.columns.solutions.items) (column_meaning r c.entries.result.now) (columns_meaning r c.in-Some.later.now) c.columns.work c.lift_rest.new.work _
    (lifts_next r G c.columns.columns.now c.in-Some.later.now c.in-Some.v.now c.entries.result.now (columns_meaning r c.columns.solutions.items) c.columns.work _ c.in-Some.ensures.cases.0 c.entries.ensures c.columns.invariant.run)
    (matrix_meaning r) c.from_residual.result c.args.work.now _ c.columns.invariant.spent c.in-Ok.ensures.follows c.from_residual.ensures)

pub returns-in_err-push-clause-follows : goal.returns-in_err-push-clause-follows
returns-in_err-push-clause-follows c =
    let g = c.args.g.now in
    let r = g.matrix.ring in
    let G = graph_meaning r g in
    subst (λ cs. Follows (matrix_meaning r) c.from_residual-in_err-push.result c.args.work.now c.lift_rest.new.work (runs.lifted r G (columns_meaning r cs) c.args.work.now)) c.columns-columns.ensures.same
    (lifts_want r G (columns_meaning r c.columns.solutions.items) (column_meaning r c.entries.result.now) (columns_meaning r c.in-Some.later.now) c.columns.work c.lift_rest.new.work _
    (lifts_next r G c.columns.columns.now c.in-Some.later.now c.in-Some.v.now c.entries.result.now (columns_meaning r c.columns.solutions.items) c.columns.work _ c.in-Some.ensures.cases.0 c.entries.ensures c.columns.invariant.run)
    (matrix_meaning r) c.from_residual-in_err-push.result c.args.work.now _ c.columns.invariant.spent c.in-Ok.ensures.follows c.from_residual-in_err-push.ensures)

pub new-requires-clause-few : goal.new-requires-clause-few
new-requires-clause-few c = let n = c.columns.invariant.count in let few = c.columns-columns.ensures.few in let same = ap length c.columns-columns.ensures.same in omega (arith, n, few, same)
