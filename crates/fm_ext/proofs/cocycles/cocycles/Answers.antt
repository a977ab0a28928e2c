use Rattle.std.proofs.Common.{◌+◌, ◌-◌, ◌≡◌, IfOk, Some, map, slice_get, refl, sym, ap, ◌∙◌, subst, arith}
use Rattle.fm_limit.specs.ResolvedIdeal.{matrix_at}
use Rattle.fm_poly.specs.declared.ring.Ring.{Ring}
use Rattle.fm_run.specs.Runs.{Follows}
use Rattle.fm_run.proofs.Calls.{wanted}
use Rattle.fm_mat.specs.Matrices.{matrix_meaning}
use Rattle.fm_graphs.specs.Graphs.{MatrixOf}
use Rattle.fm_graphs.specs.Trims.{kernel_run}
use Rattle.fm_plan.specs.Base.{flip}
use Rattle.fm_syz.specs.GraphValues.{GraphValue}
use Rattle.fm_syz.specs.GeneratorValues.{preimage_meaning}
use Rattle.fm_resolve.specs.Resolutions.{graphs_of}
use Rattle.fm_ext.specs.Exts.{differentials}
use Rattle.fm_ext.proofs.Differentials.{differential_of, rows_at}
use Rattle.fm_ext.proofs.InRow.{kernel_spends}
use Rattle.fm_ext.proofs.cocycles.cocycles.Goals as goal

pub returns-in_err-flip-clause-follows : goal.returns-in_err-flip-clause-follows
returns-in_err-flip-clause-follows c =
    let r = c.args.resolution.now.first.matrix.ring in
    let A = flip r (matrix_at r.prime r.vars (differentials r c.args.resolution.now) c.args.degree) in
    wanted (preimage_meaning r) c.from_residual.result c.args.work.now c.args.work.now (kernel_run r A c.args.work.now) c.from_residual.ensures (omega arith) (kernel_spends r A c.args.work.now)

pub returns-clause-follows : goal.returns-clause-follows
returns-clause-follows c =
    let x = c.args.resolution.now in
    let r = x.first.matrix.ring in
    let d = c.differential.result.now in
    let f = c.in_ok-flip.flip in
    let number : c.from.result + 1 - 1 ≡ c.args.degree = (let e = c.from.ensures in omega (arith, e)) in
    let at = subst (λ k. slice_get (map (λ (g : GraphValue). g.matrix) (graphs_of x)) k ≡ Some d) number c.differential.ensures.same in
    let value = c.in_ok-flip.ensures.value r c.differential.ensures.ring ∙ ap (flip r) (sym (differential_of r x c.args.degree d at)) in
    subst (λ (A : MatrixOf r). Follows (preimage_meaning r) c.kernel.result c.args.work.now c.kernel.new.work (kernel_run r A c.args.work.now)) value
    (subst (λ (s : Ring). Follows (preimage_meaning s) c.kernel.result c.args.work.now c.kernel.new.work (kernel_run s (matrix_meaning s f) c.args.work.now)) (c.in_ok-flip.ensures.ring ∙ c.differential.ensures.ring) c.kernel.ensures.follows)

pub returns-clause-rows : goal.returns-clause-rows
returns-clause-rows c =
    let x = c.args.resolution.now in
    let r = x.first.matrix.ring in
    let d = c.differential.result.now in
    let number : c.from.result + 1 - 1 ≡ c.args.degree = (let e = c.from.ensures in omega (arith, e)) in
    let at = subst (λ k. slice_get (map (λ (g : GraphValue). g.matrix) (graphs_of x)) k ≡ Some d) number c.differential.ensures.same in
    subst (λ n. IfOk c.kernel.result (λ p. p.generators.graph.matrix.rows ≡ n)) (c.in_ok-flip.ensures.count ∙ rows_at r x c.differential.ensures.resolution refl c.args.degree d c.requires.degree at) c.kernel.ensures.rows
