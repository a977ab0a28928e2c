use Rattle.std.proofs.Common.{subst, arith}
use Rattle.fm_limit.specs.ResolvedIdeal.{differential}
use Rattle.fm_poly.specs.declared.ring.Ring.{Ring}
use Rattle.fm_run.specs.Runs.{Follows}
use Rattle.fm_run.proofs.Calls.{wanted}
use Rattle.fm_mat.specs.Matrices.{matrix_meaning}
use Rattle.fm_graphs.specs.Graphs.{MatrixOf}
use Rattle.fm_graphs.specs.Trims.{preimage_run}
use Rattle.fm_graphs.proofs.Spending.{preimage_spends}
use Rattle.fm_plan.specs.Base.{flip}
use Rattle.fm_syz.specs.GeneratorValues.{preimage_meaning}
use Rattle.fm_ext.specs.Exts.{differentials}
use Rattle.fm_ext.proofs.relations.relations.Goals as goal

pub returns-in_err-below-clause-follows : goal.returns-in_err-below-clause-follows
returns-in_err-below-clause-follows c =
    let r = c.args.resolution.now.first.matrix.ring in
    let Z = matrix_meaning r c.args.z.now in
    let B = flip r (differential r.prime r.vars (differentials r c.args.resolution.now) c.args.degree) in
    wanted (preimage_meaning r) c.from_residual.result c.args.work.now c.args.work.now (preimage_run r Z B c.args.work.now) c.from_residual.ensures (omega arith) (preimage_spends r Z B c.args.work.now)

pub returns-clause-follows : goal.returns-clause-follows
returns-clause-follows c =
    let r = c.args.resolution.now.first.matrix.ring in
    subst (λ (B : MatrixOf r). Follows (preimage_meaning r) c.preimage.result c.args.work.now c.preimage.new.work (preimage_run r (matrix_meaning r c.args.z.now) B c.args.work.now)) c.in_ok-below.ensures.value
    (subst (λ (s : Ring). Follows (preimage_meaning s) c.preimage.result c.args.work.now c.preimage.new.work (preimage_run s (matrix_meaning s c.args.z.now) (matrix_meaning s c.in_ok-below.below) c.args.work.now)) c.requires.ring c.preimage.ensures.follows)
