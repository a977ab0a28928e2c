use Rattle.std.proofs.Common.{length, sym, ap, ◌∙◌, arith}
use Rattle.fm_mat.specs.Matrices.{MatrixValue, matrix_meaning}
use Rattle.fm_mat.proofs.Steps.{map_length}
use Rattle.fm_graphs.specs.Trims.{kernel_run}
use Rattle.fm_syz.proofs.GeneratorFacts.{run_spends, whole_stops, generators_stop, generators_end, kernel_generates}
use Rattle.fm_syz.proofs.generating.kernel.Goals as goal

pub returns-in-Err-clause-follows : goal.returns-in-Err-clause-follows
unfolding kernel_run
returns-in-Err-clause-follows c =
    let A = matrix_meaning c.args.a.ring c.args.a in
    whole_stops c.args.a.ring A (length A.columns) 0 c.args.work.now c.in-Err.stop c.graph_of.new.work c.in-Err.ensures.follows

pub returns-in-Err-generators_of-clause-follows : goal.returns-in-Err-generators_of-clause-follows
unfolding kernel_run
returns-in-Err-generators_of-clause-follows c =
    let A = matrix_meaning c.args.a.ring c.args.a in
    let wide = ap (λ (m : MatrixValue). length m.columns) c.in-Ok.ensures.matrix in
    let cols = c.cols-width.ensures in
    generators_stop c.args.a.ring A (length A.columns) 0 c.args.work.now c.in-Ok.whole c.graph_of.new.work c.in-Ok.ensures.follows (ap (λ (m : MatrixValue). m.ring) c.in-Ok.ensures.matrix)
    c.cols-width.result (cols ∙ sym (map_length _ c.args.a.columns)) (omega (arith, wide, cols)) c.in-Err-generators_of.stop c.generators_of.new.work c.in-Err-generators_of.ensures.follows

pub returns-clause-follows : goal.returns-clause-follows
unfolding kernel_run
returns-clause-follows c =
    let A = matrix_meaning c.args.a.ring c.args.a in
    let wide = ap (λ (m : MatrixValue). length m.columns) c.in-Ok.ensures.matrix in
    let cols = c.cols-width.ensures in
    generators_end c.args.a.ring A (length A.columns) 0 c.args.work.now c.in-Ok.whole c.graph_of.new.work c.in-Ok.ensures.follows (ap (λ (m : MatrixValue). m.ring) c.in-Ok.ensures.matrix)
    c.cols-width.result (cols ∙ sym (map_length _ c.args.a.columns)) (omega (arith, wide, cols)) c.in-Ok-generators_of.generators c.generators_of.new.work c.new.result c.new.ensures c.in-Ok-generators_of.ensures.follows

pub returns-clause-generates : goal.returns-clause-generates
returns-clause-generates c =
    kernel_generates c.args.a.ring c.args.a c.columns.ensures.shape c.args.work.now c.generators_of.new.work c.new.result (returns-clause-follows c)

pub returns-then-rows-columns-gt4294967295-clause-follows : goal.returns-then-rows-columns-gt4294967295-clause-follows
unfolding kernel_run
returns-then-rows-columns-gt4294967295-clause-follows c =
    let A = matrix_meaning c.args.a.ring c.args.a in
    (omega arith, run_spends c.args.a.ring A (length A.columns) 0 c.args.work.now c.args.work.now)
