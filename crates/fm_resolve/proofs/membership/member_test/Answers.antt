use Rattle.std.proofs.Common.{[], ◌∷◌, ◌++◌, List, IfOk, length, ap, ◌∙◌, subst, arith}
use Rattle.fm_algebra.specs.PolynomialMatrices.{matrix_column}
use Rattle.fm_poly.specs.declared.ring.Ring.{Ring}
use Rattle.fm_poly.specs.Polys.{PolyValue, meaning}
use Rattle.fm_mat.specs.Matrices.{MatrixValue}
use Rattle.fm_run.proofs.Calls.{wanted}
use Rattle.fm_graphs.specs.Graphs.{inside_run}
use Rattle.fm_syz.specs.GraphValues.{graph_meaning}
use Rattle.fm_syz.specs.Insides.{HasColumns, inside_value}
use Rattle.fm_resolve.proofs.Memberships.{test_follows, test_spends}
use Rattle.fm_resolve.proofs.membership.member_test.Goals as goal

pub returns-in_err-copy-clause-follows : goal.returns-in_err-copy-clause-follows
returns-in_err-copy-clause-follows c =
    let r = c.args.ring in
    let M = matrix_column r.prime r.vars (meaning r c.args.f.now.terms ∷ []) in
    let g = graph_meaning r c.args.first.now in
    wanted (inside_value r) c.from_residual.result c.args.work.now c.args.work.now (inside_run r M g c.args.work.now) c.from_residual.ensures (omega arith) (test_spends r M g c.args.work.now)

pub returns-in_err-push-clause-follows : goal.returns-in_err-push-clause-follows
returns-in_err-push-clause-follows c =
    let r = c.args.ring in
    let M = matrix_column r.prime r.vars (meaning r c.args.f.now.terms ∷ []) in
    let g = graph_meaning r c.args.first.now in
    wanted (inside_value r) c.from_residual-in_err-push.result c.args.work.now c.args.work.now (inside_run r M g c.args.work.now) c.from_residual-in_err-push.ensures (omega arith) (test_spends r M g c.args.work.now)

pub returns-in_err-column-clause-follows : goal.returns-in_err-column-clause-follows
returns-in_err-column-clause-follows c =
    let r = c.args.ring in
    let M = matrix_column r.prime r.vars (meaning r c.args.f.now.terms ∷ []) in
    let g = graph_meaning r c.args.first.now in
    wanted (inside_value r) c.from_residual-in_err-column.result c.args.work.now c.args.work.now (inside_run r M g c.args.work.now) c.from_residual-in_err-column.ensures (omega arith) (test_spends r M g c.args.work.now)

pub returns : goal.returns
returns c =
    let entries = c.in_ok-push.ensures.items ∙ ap (λ (fs : List PolyValue). fs ++ c.in_ok-copy.field-0 ∷ []) c.new-entries.ensures.items ∙ ap (λ (f : PolyValue). f ∷ []) c.in_ok-copy.ensures in
    record {
      follows = test_follows c.args.ring c.args.first.now c.args.f.now c.in_ok-column.column c.inside_of.result c.args.work.now c.inside_of.new.work c.requires.ring
          (ap (λ (m : MatrixValue). m.columns) c.in_ok-column.ensures ∙ ap (λ (fs : List PolyValue). fs ∷ []) (c.new.ensures ∙ entries)) c.inside_of.ensures.follows;
      columns = subst (λ (s : Ring). IfOk c.inside_of.result (HasColumns s (length c.args.first.now.matrix.columns))) c.requires.ring c.inside_of.ensures.columns;
    }
