use Rattle.std.proofs.Common.{Ok, Err, refl, ◌∙◌, arith}
use Rattle.fm_limit.specs.Facts.{unit_column, diagonal_blocks}
use Rattle.fm_mat.specs.Matrices.{matrix_meaning}
use Rattle.fm_run.specs.Runs.{halt_of}
use Rattle.fm_run.proofs.Calls.{wanted}
use Rattle.fm_run.proofs.Parts.{failed}
use Rattle.fm_graphs.proofs.Spending.{preimage_spends}
use Rattle.fm_syz.specs.GeneratorValues.{preimage_meaning}
use Rattle.fm_support.specs.Annihilators.{annihilator_work}
use Rattle.fm_support.proofs.AnnihilatorRuns.{row_told, row_annihilates}
use Rattle.fm_support.proofs.annihilating.annihilator_row.Goals as goal

pub returns-then-not-is_small-clause-follows : goal.returns-then-not-is_small-clause-follows
returns-then-not-is_small-clause-follows c =
    let k = c.args.k.now.matrix in
    let r = k.ring in
    (omega arith, preimage_spends r (unit_column r.prime r.vars k.rows) (diagonal_blocks r.prime r.vars (matrix_meaning r k)) c.args.work.now)

pub returns-in_err-unit-clause-follows : goal.returns-in_err-unit-clause-follows
returns-in_err-unit-clause-follows c =
    let k = c.args.k.now.matrix in
    let r = k.ring in
    let old = c.args.work.now in
    wanted (preimage_meaning r) c.from_residual.result old old (annihilator_work r (matrix_meaning r k) old) c.from_residual.ensures (omega arith) (preimage_spends r (unit_column r.prime r.vars k.rows) (diagonal_blocks r.prime r.vars (matrix_meaning r k)) old)

pub returns-in_err-blocks-clause-follows : goal.returns-in_err-blocks-clause-follows
returns-in_err-blocks-clause-follows c =
    let k = c.args.k.now.matrix in
    let r = k.ring in
    let old = c.args.work.now in
    wanted (preimage_meaning r) c.from_residual-in_err-blocks.result old old (annihilator_work r (matrix_meaning r k) old) c.from_residual-in_err-blocks.ensures (omega arith) (preimage_spends r (unit_column r.prime r.vars k.rows) (diagonal_blocks r.prime r.vars (matrix_meaning r k)) old)

pub returns-in_err-row-clause-follows : goal.returns-in_err-row-clause-follows
returns-in_err-row-clause-follows c =
    let k = c.args.k.now.matrix in
    let r = k.ring in
    let old = c.args.work.now in
    let z = c.in_err-row.field-0.0 in
    failed (preimage_meaning r) halt_of c.from_residual-in_err-row.result z old c.preimage.new.work (annihilator_work r (matrix_meaning r k) old) c.from_residual-in_err-row.ensures
    (row_told r c.ring.result k c.matrix.result.now c.in_ok-unit.unit c.in_ok-blocks.blocks c.rows-g.result c.ring.ensures c.in_ok-unit.ensures.ring c.rows-g.ensures c.matrix.ensures.same refl c.in_ok-unit.ensures.value c.in_ok-blocks.ensures.value
    (Err z) old c.preimage.new.work c.in_err-row.ensures.follows)

pub returns-clause-follows : goal.returns-clause-follows
returns-clause-follows c =
    let k = c.args.k.now.matrix in
    row_told k.ring c.ring.result k c.matrix.result.now c.in_ok-unit.unit c.in_ok-blocks.blocks c.rows-g.result c.ring.ensures c.in_ok-unit.ensures.ring c.rows-g.ensures c.matrix.ensures.same refl c.in_ok-unit.ensures.value c.in_ok-blocks.ensures.value
    (Ok c.in_ok-row.row) c.args.work.now c.preimage.new.work c.in_ok-row.ensures.follows

pub returns-clause-generates : goal.returns-clause-generates
returns-clause-generates c =
    let k = c.args.k.now.matrix in
    row_annihilates k.ring c.ring.result k c.matrix.result.now c.in_ok-unit.unit c.in_ok-blocks.blocks c.rows-g.result c.ring.ensures c.in_ok-unit.ensures.ring c.rows-g.ensures c.matrix.ensures.same refl c.in_ok-unit.ensures.value c.in_ok-blocks.ensures.value
    c.in_ok-row.row c.in_ok-row.ensures.ring c.in_ok-row.ensures.rows c.in_ok-unit.ensures.count c.generators-generators.ensures.generate c.in_ok-row.ensures.generates

pub returns-clause-ring : goal.returns-clause-ring
returns-clause-ring c = c.in_ok-row.ensures.ring ∙ c.in_ok-unit.ensures.ring ∙ c.ring.ensures
