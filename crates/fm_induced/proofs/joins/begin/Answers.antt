use Rattle.std.proofs.Common.{◌≡◌, Ok, Err, ap, ◌∙◌, refl, arith}
use Rattle.fm_algebra.specs.PolynomialMatrices.{matrix_beside}
use Rattle.fm_mat.specs.Matrices.{MatrixValue, matrix_meaning}
use Rattle.fm_plan.specs.Queries.{join_work}
use Rattle.fm_run.specs.Runs.{halt_of}
use Rattle.fm_run.proofs.Calls.{wanted}
use Rattle.fm_run.proofs.Parts.{failed}
use Rattle.fm_support.proofs.ColonRuns.{whole_told}
use Rattle.fm_induced.specs.Joins.{beginning_value}
use Rattle.fm_induced.proofs.OntoRuns.{join_spends, graph_told, graph_stops, whole_stops, whole_ends}
use Rattle.fm_induced.proofs.joins.begin.Goals as goal

pub returns-then-rows-columns-gt4294967295-clause-follows : goal.returns-then-rows-columns-gt4294967295-clause-follows
returns-then-rows-columns-gt4294967295-clause-follows c =
    let r = c.args.n.now.ring in
    let B = matrix_beside r.prime r.vars (matrix_meaning r c.args.n.now) (matrix_meaning r c.args.phi.now) in
    (omega arith, join_spends r B c.args.work.now)

pub returns-in_err-both-clause-follows : goal.returns-in_err-both-clause-follows
returns-in_err-both-clause-follows c =
    let r = c.args.n.now.ring in
    let B = matrix_beside r.prime r.vars (matrix_meaning r c.args.n.now) (matrix_meaning r c.args.phi.now) in
    let old = c.args.work.now in
    wanted (beginning_value r) c.from_residual.result old old (join_work r B old) c.from_residual.ensures (omega arith) (join_spends r B old)

pub returns-in_err-first-clause-follows : goal.returns-in_err-first-clause-follows
returns-in_err-first-clause-follows c =
    let r = c.args.n.now.ring in
    let B = matrix_beside r.prime r.vars (matrix_meaning r c.args.n.now) (matrix_meaning r c.args.phi.now) in
    let old = c.args.work.now in
    let mid = c.graph_of.new.work in
    let z = c.in_err-first.field-0.0 in
    failed (beginning_value r) halt_of c.from_residual-in_err-first.result z old mid (join_work r B old) c.from_residual-in_err-first.ensures
    (graph_stops r B old mid z (graph_told r c.in_ok-both.both B c.in_ok-both.ensures.ring (c.in_ok-both.ensures.value r refl) (Err z) old mid c.in_err-first.ensures.follows))

pub returns-in_err-whole-clause-follows : goal.returns-in_err-whole-clause-follows
returns-in_err-whole-clause-follows c =
    let r = c.args.n.now.ring in
    let B = matrix_beside r.prime r.vars (matrix_meaning r c.args.n.now) (matrix_meaning r c.args.phi.now) in
    let old = c.args.work.now in
    let mid = c.graph_of.new.work in
    let new = c.whole_of.new.work in
    let g = c.in_ok-first.first in
    let ring : g.matrix.ring ≡ r = ap (λ (m : MatrixValue). m.ring) c.in_ok-first.ensures.matrix ∙ c.in_ok-both.ensures.ring in
    let z = c.in_err-whole.field-0.0 in
    failed (beginning_value r) halt_of c.from_residual-in_err-whole.result z old new (join_work r B old) c.from_residual-in_err-whole.ensures
    (whole_stops r B old mid g (graph_told r c.in_ok-both.both B c.in_ok-both.ensures.ring (c.in_ok-both.ensures.value r refl) (Ok g) old mid c.in_ok-first.ensures.follows) new z
    (whole_told r g g refl ring (Err z) mid new c.in_err-whole.ensures.follows))

pub returns-clause-follows : goal.returns-clause-follows
returns-clause-follows c =
    let r = c.args.n.now.ring in
    let B = matrix_beside r.prime r.vars (matrix_meaning r c.args.n.now) (matrix_meaning r c.args.phi.now) in
    let old = c.args.work.now in
    let mid = c.graph_of.new.work in
    let new = c.whole_of.new.work in
    let g = c.in_ok-first.first in
    let ring : g.matrix.ring ≡ r = ap (λ (m : MatrixValue). m.ring) c.in_ok-first.ensures.matrix ∙ c.in_ok-both.ensures.ring in
    whole_ends r B old mid g (graph_told r c.in_ok-both.both B c.in_ok-both.ensures.ring (c.in_ok-both.ensures.value r refl) (Ok g) old mid c.in_ok-first.ensures.follows) new c.in_ok-whole.whole
    (whole_told r g g refl ring (Ok c.in_ok-whole.whole) mid new c.in_ok-whole.ensures.follows)
