use Rattle.std.proofs.Common.{IfOk, length, sym, ap, ◌∙◌, subst}
use Rattle.fm_mat.specs.Matrices.{MatrixValue}
use Rattle.fm_resolve.specs.Resolutions.{AreKernelGenerators}
use Rattle.fm_resolve.proofs.ResolvingRuns.{still_ok, step_told, step_exact}
use Rattle.fm_resolve.proofs.resolution.next_generators.Goals as goal

pub returns-clause-follows : goal.returns-clause-follows
returns-clause-follows c =
    let g = c.args.g.now in
    step_told g.matrix.ring c.args.side c.args.j c.cols-width.result g c.resolve_task.result c.generators_of.result c.in_task.result c.args.work.now c.generators_of.new.work (c.cols-width.ensures ∙ ap (λ (m : MatrixValue). length m.columns) c.matrix.ensures.same) c.resolve_task.ensures c.in_task.ensures c.generators_of.ensures.follows

pub returns-clause-exact : goal.returns-clause-exact
returns-clause-exact c =
    let g = c.args.g.now in
    subst (λ a. IfOk a (AreKernelGenerators g)) (sym c.in_task.ensures) (still_ok (AreKernelGenerators g) c.resolve_task.result c.generators_of.result
    (step_exact c.cols-width.result g c.generators_of.result c.args.work.now c.generators_of.new.work (c.cols-width.ensures ∙ ap (λ (m : MatrixValue). length m.columns) c.matrix.ensures.same) c.matrix.ensures.complete
    c.generators_of.ensures.follows c.generators_of.ensures.generate c.generators_of.ensures.rows))
