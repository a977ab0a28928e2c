use Rattle.std.proofs.Common.{◌≡◌, Ok, Err, length, refl, sym, ap, ◌∙◌, subst, arith}
use Rattle.fm_poly.specs.declared.ring.Ring.{Ring}
use Rattle.fm_algebra.specs.PolynomialMatrices.{matrix_beside}
use Rattle.fm_run.specs.Runs.{Follows}
use Rattle.fm_run.proofs.Calls.{wanted}
use Rattle.fm_mat.specs.Matrices.{MatrixValue, AreColumns, column_meaning, matrix_meaning}
use Rattle.fm_mat.proofs.Steps.{map_length}
use Rattle.fm_graphs.specs.Graphs.{MatrixOf, graph_run}
use Rattle.fm_graphs.specs.Trims.{preimage_run}
use Rattle.fm_graphs.proofs.Spending.{preimage_spends}
use Rattle.fm_syz.specs.GraphValues.{GraphValue, graph_meaning}
use Rattle.fm_syz.specs.GeneratorValues.{preimage_meaning}
use Rattle.fm_syz.proofs.GeneratorFacts.{whole_stops, generators_stop, generators_end, preimage_generates}
use Rattle.fm_syz.proofs.generating.preimage.Goals as goal

pub returns-in_err-both-clause-follows : goal.returns-in_err-both-clause-follows
returns-in_err-both-clause-follows c =
    let r = c.args.a.now.ring in
    wanted (preimage_meaning r) c.from_residual.result c.args.work.now c.args.work.now (preimage_run r (matrix_meaning r c.args.a.now) (matrix_meaning r c.args.b.now) c.args.work.now) c.from_residual.ensures
    (omega arith) (preimage_spends r (matrix_meaning r c.args.a.now) (matrix_meaning r c.args.b.now) c.args.work.now)

pub returns-in-Err-clause-follows : goal.returns-in-Err-clause-follows
unfolding preimage_run
returns-in-Err-clause-follows c =
    let r = c.args.a.now.ring in
    let A = matrix_meaning r c.args.a.now in
    let B = matrix_meaning r c.args.b.now in
    let both = c.in_ok-both.both in
    whole_stops r (matrix_beside r.prime r.vars A B) (length A.columns) (length B.columns) c.args.work.now c.in-Err.stop c.graph_of.new.work
    (subst (λ (J : MatrixOf r). Follows {X = GraphValue} (graph_meaning r) (Err c.in-Err.stop) c.args.work.now c.graph_of.new.work (graph_run r J c.args.work.now)) (c.in_ok-both.ensures.value r refl)
    (subst (λ (q : Ring). Follows {X = GraphValue} (graph_meaning q) (Err c.in-Err.stop) c.args.work.now c.graph_of.new.work (graph_run q (matrix_meaning q both) c.args.work.now)) c.in_ok-both.ensures.ring c.in-Err.ensures.follows))

pub returns-in-Err-generators_of-clause-follows : goal.returns-in-Err-generators_of-clause-follows
unfolding preimage_run
returns-in-Err-generators_of-clause-follows c =
    let r = c.args.a.now.ring in
    let A = matrix_meaning r c.args.a.now in
    let B = matrix_meaning r c.args.b.now in
    let both = c.in_ok-both.both in
    let whole = c.in-Ok.whole in
    let made = subst (λ (J : MatrixOf r). graph_run r J c.args.work.now ≡ record { end = Ok (graph_meaning r whole); left = c.graph_of.new.work }) (c.in_ok-both.ensures.value r refl)
    (subst (λ (q : Ring). graph_run q (matrix_meaning q both) c.args.work.now ≡ record { end = Ok (graph_meaning q whole); left = c.graph_of.new.work }) c.in_ok-both.ensures.ring c.in-Ok.ensures.follows) in
    let wide = ap (λ (m : MatrixValue). length m.columns) c.in-Ok.ensures.matrix ∙ c.in_ok-both.ensures.count in
    let cols = c.cols.ensures in
    let lower = map_length (column_meaning r) c.args.b.now.columns in
    generators_stop r (matrix_beside r.prime r.vars A B) (length A.columns) (length B.columns) c.args.work.now whole c.graph_of.new.work made
    (ap (λ (m : MatrixValue). m.ring) c.in-Ok.ensures.matrix ∙ c.in_ok-both.ensures.ring) c.cols.result (cols ∙ sym (map_length _ c.args.a.now.columns)) (omega (arith, wide, cols, lower))
    c.in-Err-generators_of.stop c.generators_of.new.work c.in-Err-generators_of.ensures.follows

pub returns-clause-follows : goal.returns-clause-follows
unfolding preimage_run
returns-clause-follows c =
    let r = c.args.a.now.ring in
    let A = matrix_meaning r c.args.a.now in
    let B = matrix_meaning r c.args.b.now in
    let both = c.in_ok-both.both in
    let whole = c.in-Ok.whole in
    let made = subst (λ (J : MatrixOf r). graph_run r J c.args.work.now ≡ record { end = Ok (graph_meaning r whole); left = c.graph_of.new.work }) (c.in_ok-both.ensures.value r refl)
    (subst (λ (q : Ring). graph_run q (matrix_meaning q both) c.args.work.now ≡ record { end = Ok (graph_meaning q whole); left = c.graph_of.new.work }) c.in_ok-both.ensures.ring c.in-Ok.ensures.follows) in
    let wide = ap (λ (m : MatrixValue). length m.columns) c.in-Ok.ensures.matrix ∙ c.in_ok-both.ensures.count in
    let cols = c.cols.ensures in
    let lower = map_length (column_meaning r) c.args.b.now.columns in
    generators_end r (matrix_beside r.prime r.vars A B) (length A.columns) (length B.columns) c.args.work.now whole c.graph_of.new.work made
    (ap (λ (m : MatrixValue). m.ring) c.in-Ok.ensures.matrix ∙ c.in_ok-both.ensures.ring) c.cols.result (cols ∙ sym (map_length _ c.args.a.now.columns)) (omega (arith, wide, cols, lower))
    c.in-Ok-generators_of.generators c.generators_of.new.work c.new.result c.new.ensures c.in-Ok-generators_of.ensures.follows

pub returns-clause-generates : goal.returns-clause-generates
returns-clause-generates c =
    let r = c.args.a.now.ring in
    preimage_generates r c.args.a.now c.args.b.now c.columns.ensures.shape (subst (λ (q : Ring). AreColumns q c.args.b.now.rows c.args.b.now.columns) c.requires.ring c.columns-2.ensures.shape) c.requires.rows
    c.args.work.now c.generators_of.new.work c.new.result (returns-clause-follows c)

pub returns-then-rows-columns-gt4294967295-clause-follows : goal.returns-then-rows-columns-gt4294967295-clause-follows
returns-then-rows-columns-gt4294967295-clause-follows c =
    let r = c.args.a.now.ring in
    (omega arith, preimage_spends r (matrix_meaning r c.args.a.now) (matrix_meaning r c.args.b.now) c.args.work.now)
