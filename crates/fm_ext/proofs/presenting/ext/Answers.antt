use Rattle.std.proofs.Common.{Vec, Global, IfOk, Ok, Err, ◌≡◌, ◌∷◌, sym, ap, ◌∙◌, subst, subst₂}
use Rattle.fm_algebra.specs.PolynomialMatrices.{matrix_unit}
use Rattle.fm_limit.specs.ResolvedIdeal.{matrix_at, differential, rank}
use Rattle.fm_mat.specs.declared.matrix.Matrix.{Matrix}
use Rattle.fm_mat.specs.Matrices.{MatrixValue, matrix_meaning}
use Rattle.fm_poly.specs.declared.ring.Ring.{Ring}
use Rattle.fm_run.specs.declared.task.Name.TheVariants.{Cocycles, Relations, Morphism}
use Rattle.fm_run.specs.Runs.{Follows}
use Rattle.fm_run.proofs.Parts.{failed}
use Rattle.fm_graphs.specs.Graphs.{MatrixOf}
use Rattle.fm_graphs.specs.Trims.{kernel_run, preimage_run}
use Rattle.fm_plan.specs.Base.{flip, morphism_work, ext_plan}
use Rattle.fm_plan.specs.Following.{FollowsPlan, unanswered_by}
use Rattle.fm_syz.specs.GraphValues.{GraphValue, graph_meaning}
use Rattle.fm_syz.specs.GeneratorValues.{GeneratorsValue, PreimageValue, preimage_meaning}
use Rattle.fm_lift.specs.Lifts.{AreMatricesOver, after_the_first, matrices_meaning}
use Rattle.fm_lift.proofs.Calls.{told_ok}
use Rattle.fm_resolve.specs.Resolutions.{resolution_value}
use Rattle.fm_ext.specs.Exts.{ExtValue, differentials, ext_meaning}
use Rattle.fm_ext.proofs.InRow.{lifts_stop, kernels_stop, preimages_stop, morphisms_stop, ext_ends, task_told, theta_rows, theta_columns, presents}
use Rattle.fm_ext.proofs.presenting.ext.Goals as goal

pub returns-in_err-lift-clause-follows : goal.returns-in_err-lift-clause-follows
returns-in_err-lift-clause-follows c =
    let r = c.args.resolution.first.matrix.ring in
    failed _ unanswered_by c.from_residual.result c.in_err-lift.field-0.0 _ _ _ c.from_residual.ensures
    (lifts_stop r c.args.side c.args.degree (resolution_value r c.args.resolution) (λ (ts : Vec Matrix Global). after_the_first (matrices_meaning r ts.items)) c.args.work.now c.lift_along.new.work c.in_err-lift.field-0.0 c.in_err-lift.ensures.follows)

pub returns-in_err-cocycles-clause-follows : goal.returns-in_err-cocycles-clause-follows
returns-in_err-cocycles-clause-follows c =
    let r = c.args.resolution.first.matrix.ring in
    let side = c.args.side in
    let i = c.args.degree in
    let X = resolution_value r c.args.resolution in
    let thetas = after_the_first (matrices_meaning r c.in_ok-lift.lift.items) in
    let s = c.in_err-cocycles.field-0.0 in
    let K = kernel_run r (flip r (matrix_at r.prime r.vars (differentials r c.args.resolution) i)) in
    failed _ unanswered_by c.from_residual-in_err-cocycles.result s _ _ _ c.from_residual-in_err-cocycles.ensures
    (kernels_stop r side i X c.args.work.now c.lift_along.new.work thetas c.in_ok-lift.ensures.follows c.cocycles.new.work s
    (task_told (preimage_meaning r) side Cocycles c.lift_along.new.work c.cocycles.new.work K c.task.result c.cocycles.result (Err s) c.in_err-cocycles.ensures c.task.ensures c.cocycles.ensures.follows))

pub returns-in_err-relations-clause-follows : goal.returns-in_err-relations-clause-follows
returns-in_err-relations-clause-follows c =
    let r = c.args.resolution.first.matrix.ring in
    let side = c.args.side in
    let i = c.args.degree in
    let X = resolution_value r c.args.resolution in
    let ds = differentials r c.args.resolution in
    let thetas = after_the_first (matrices_meaning r c.in_ok-lift.lift.items) in
    let z = c.in_ok-cocycles.cocycles in
    let s = c.in_err-relations.field-0.0 in
    let K = kernel_run r (flip r (matrix_at r.prime r.vars ds i)) in
    let below = flip r (differential r.prime r.vars ds i) in
    let graph : c.graph-z.result.now ≡ z.generators.graph = c.graph-z.ensures ∙ ap (λ (x : GeneratorsValue). x.graph) c.generators.ensures.same in
    let found : c.matrix.result.now ≡ z.generators.graph.matrix = c.matrix.ensures.same ∙ ap (λ (g : GraphValue). g.matrix) graph in
    failed _ unanswered_by c.from_residual-in_err-relations.result s _ _ _ c.from_residual-in_err-relations.ensures
    (preimages_stop r side i X c.args.work.now c.lift_along.new.work thetas c.in_ok-lift.ensures.follows c.cocycles.new.work z
    (task_told (preimage_meaning r) side Cocycles c.lift_along.new.work c.cocycles.new.work K c.task.result c.cocycles.result (Ok z) c.in_ok-cocycles.ensures c.task.ensures c.cocycles.ensures.follows)
    c.relations.new.work s
    (task_told (preimage_meaning r) side Relations c.cocycles.new.work c.relations.new.work (preimage_run r (matrix_meaning r z.generators.graph.matrix) below) c.task-2.result c.relations.result (Err s) c.in_err-relations.ensures c.task-2.ensures
    (subst (λ (m : MatrixValue). Follows (preimage_meaning r) c.relations.result c.cocycles.new.work c.relations.new.work (preimage_run r (matrix_meaning r m) below c.cocycles.new.work)) found c.relations.ensures.follows)))

pub morphism-requires-clause-ring : goal.morphism-requires-clause-ring
morphism-requires-clause-ring c =
    let r = c.args.resolution.first.matrix.ring in
    let z = c.in_ok-cocycles.cocycles in
    let graph : c.graph-z.result.now ≡ z.generators.graph = c.graph-z.ensures ∙ ap (λ (x : GeneratorsValue). x.graph) c.generators.ensures.same in
    let ring : z.generators.graph.matrix.ring ≡ r = subst (λ a. IfOk a (λ (p : PreimageValue). p.generators.graph.matrix.ring ≡ r)) (told_ok c.task.result c.cocycles.result z c.in_ok-cocycles.ensures) c.cocycles.ensures.ring in
    c.matrix_of-theta.ensures.ring r (subst (AreMatricesOver r) (sym c.deref.ensures.value) c.in_ok-lift.ensures.rings) ∙ sym (ap (λ (g : GraphValue). g.matrix.ring) graph ∙ ring)

pub morphism-requires-clause-rows : goal.morphism-requires-clause-rows
morphism-requires-clause-rows c =
    let r = c.args.resolution.first.matrix.ring in
    let i = c.args.degree in
    let ds = differentials r c.args.resolution in
    let z = c.in_ok-cocycles.cocycles in
    let graph : c.graph-z.result.now ≡ z.generators.graph = c.graph-z.ensures ∙ ap (λ (x : GeneratorsValue). x.graph) c.generators.ensures.same in
    let rows : z.generators.graph.matrix.rows ≡ rank r.prime r.vars ds i = subst (λ a. IfOk a (λ (p : PreimageValue). p.generators.graph.matrix.rows ≡ rank r.prime r.vars ds i)) (told_ok c.task.result c.cocycles.result z c.in_ok-cocycles.ensures) c.cocycles.ensures.rows in
    theta_rows r i ds c.in_ok-lift.lift.items c.matrix_of-theta.result.now c.in_ok-lift.ensures.lifts
    (subst (λ ms. matrix_at r.prime r.vars (matrices_meaning r ms) i ≡ matrix_meaning r c.matrix_of-theta.result.now) c.deref.ensures.value (c.matrix_of-theta.ensures.value r)) ∙ sym (ap (λ (g : GraphValue). g.matrix.rows) graph ∙ rows)

pub morphism-requires-clause-square : goal.morphism-requires-clause-square
morphism-requires-clause-square c =
    let r = c.args.resolution.first.matrix.ring in
    let i = c.args.degree in
    let ds = differentials r c.args.resolution in
    let z = c.in_ok-cocycles.cocycles in
    let graph : c.graph-z.result.now ≡ z.generators.graph = c.graph-z.ensures ∙ ap (λ (x : GeneratorsValue). x.graph) c.generators.ensures.same in
    let rows : z.generators.graph.matrix.rows ≡ rank r.prime r.vars ds i = subst (λ a. IfOk a (λ (p : PreimageValue). p.generators.graph.matrix.rows ≡ rank r.prime r.vars ds i)) (told_ok c.task.result c.cocycles.result z c.in_ok-cocycles.ensures) c.cocycles.ensures.rows in
    theta_columns r i ds c.in_ok-lift.lift.items c.matrix_of-theta.result.now c.in_ok-lift.ensures.lifts
    (subst (λ ms. matrix_at r.prime r.vars (matrices_meaning r ms) i ≡ matrix_meaning r c.matrix_of-theta.result.now) c.deref.ensures.value (c.matrix_of-theta.ensures.value r)) ∙ sym (ap (λ (g : GraphValue). g.matrix.rows) graph ∙ rows)

pub returns-in_err-u-clause-follows : goal.returns-in_err-u-clause-follows
returns-in_err-u-clause-follows c =
    let r = c.args.resolution.first.matrix.ring in
    let side = c.args.side in
    let i = c.args.degree in
    let X = resolution_value r c.args.resolution in
    let ds = differentials r c.args.resolution in
    let lift = c.in_ok-lift.lift.items in
    let thetas = after_the_first (matrices_meaning r lift) in
    let z = c.in_ok-cocycles.cocycles in
    let n = c.in_ok-relations.relations in
    let theta = c.matrix_of-theta.result.now in
    let K = kernel_run r (flip r (matrix_at r.prime r.vars ds i)) in
    let below = flip r (differential r.prime r.vars ds i) in
    let graph : c.graph-z.result.now ≡ z.generators.graph = c.graph-z.ensures ∙ ap (λ (x : GeneratorsValue). x.graph) c.generators.ensures.same in
    let found : c.matrix.result.now ≡ z.generators.graph.matrix = c.matrix.ensures.same ∙ ap (λ (g : GraphValue). g.matrix) graph in
    let ring : z.generators.graph.matrix.ring ≡ r = subst (λ a. IfOk a (λ (p : PreimageValue). p.generators.graph.matrix.ring ≡ r)) (told_ok c.task.result c.cocycles.result z c.in_ok-cocycles.ensures) c.cocycles.ensures.ring in
    let cocycles = task_told (preimage_meaning r) side Cocycles c.lift_along.new.work c.cocycles.new.work K c.task.result c.cocycles.result (Ok z) c.in_ok-cocycles.ensures c.task.ensures c.cocycles.ensures.follows in
    let relations = task_told (preimage_meaning r) side Relations c.cocycles.new.work c.relations.new.work (preimage_run r (matrix_meaning r z.generators.graph.matrix) below) c.task-2.result c.relations.result (Ok n) c.in_ok-relations.ensures c.task-2.ensures
    (subst (λ (m : MatrixValue). Follows (preimage_meaning r) c.relations.result c.cocycles.new.work c.relations.new.work (preimage_run r (matrix_meaning r m) below c.cocycles.new.work)) found c.relations.ensures.follows) in
    let at : matrix_meaning r theta ≡ matrix_at r.prime r.vars (matrix_unit r.prime r.vars 1 ∷ thetas) i =
    sym (subst (λ ms. matrix_at r.prime r.vars (matrices_meaning r ms) i ≡ matrix_meaning r theta) c.deref.ensures.value (c.matrix_of-theta.ensures.value r)) ∙ ap (λ ts. matrix_at r.prime r.vars ts i) c.in_ok-lift.ensures.first in
    let T = matrix_at r.prime r.vars (matrix_unit r.prime r.vars 1 ∷ thetas) i in
    let work = morphism_work r T (graph_meaning r z.generators.graph) in
    let morphism : Follows (matrix_meaning r) c.morphism.result c.relations.new.work c.morphism.new.work (work c.relations.new.work) =
    subst₂ (λ (t : MatrixOf r) (g : GraphValue). Follows (matrix_meaning r) c.morphism.result c.relations.new.work c.morphism.new.work (morphism_work r t (graph_meaning r g) c.relations.new.work)) at graph
    (subst (λ (s : Ring). Follows (matrix_meaning s) c.morphism.result c.relations.new.work c.morphism.new.work (morphism_work s (matrix_meaning s theta) (graph_meaning s c.graph-z.result.now) c.relations.new.work)) (ap (λ (g : GraphValue). g.matrix.ring) graph ∙ ring) c.morphism.ensures.follows) in
    let s = c.in_err-u.field-0.0 in
    failed _ unanswered_by c.from_residual-in_err-u.result s _ _ _ c.from_residual-in_err-u.ensures
    (morphisms_stop r side i X c.args.work.now c.lift_along.new.work thetas c.in_ok-lift.ensures.follows c.cocycles.new.work z cocycles c.relations.new.work n relations c.morphism.new.work s
    (task_told (matrix_meaning r) side Morphism c.relations.new.work c.morphism.new.work work c.task-3.result c.morphism.result (Err s) c.in_err-u.ensures c.task-3.ensures morphism))

pub new-requires : goal.new-requires
new-requires c =
    let r = c.args.resolution.first.matrix.ring in
    let side = c.args.side in
    let i = c.args.degree in
    let X = resolution_value r c.args.resolution in
    let ds = differentials r c.args.resolution in
    let lift = c.in_ok-lift.lift.items in
    let thetas = after_the_first (matrices_meaning r lift) in
    let z = c.in_ok-cocycles.cocycles in
    let n = c.in_ok-relations.relations in
    let theta = c.matrix_of-theta.result.now in
    let K = kernel_run r (flip r (matrix_at r.prime r.vars ds i)) in
    let below = flip r (differential r.prime r.vars ds i) in
    let graph : c.graph-z.result.now ≡ z.generators.graph = c.graph-z.ensures ∙ ap (λ (x : GeneratorsValue). x.graph) c.generators.ensures.same in
    let found : c.matrix.result.now ≡ z.generators.graph.matrix = c.matrix.ensures.same ∙ ap (λ (g : GraphValue). g.matrix) graph in
    let ring : z.generators.graph.matrix.ring ≡ r = subst (λ a. IfOk a (λ (p : PreimageValue). p.generators.graph.matrix.ring ≡ r)) (told_ok c.task.result c.cocycles.result z c.in_ok-cocycles.ensures) c.cocycles.ensures.ring in
    let cocycles = task_told (preimage_meaning r) side Cocycles c.lift_along.new.work c.cocycles.new.work K c.task.result c.cocycles.result (Ok z) c.in_ok-cocycles.ensures c.task.ensures c.cocycles.ensures.follows in
    let relations = task_told (preimage_meaning r) side Relations c.cocycles.new.work c.relations.new.work (preimage_run r (matrix_meaning r z.generators.graph.matrix) below) c.task-2.result c.relations.result (Ok n) c.in_ok-relations.ensures c.task-2.ensures
    (subst (λ (m : MatrixValue). Follows (preimage_meaning r) c.relations.result c.cocycles.new.work c.relations.new.work (preimage_run r (matrix_meaning r m) below c.cocycles.new.work)) found c.relations.ensures.follows) in
    let at : matrix_meaning r theta ≡ matrix_at r.prime r.vars (matrix_unit r.prime r.vars 1 ∷ thetas) i =
    sym (subst (λ ms. matrix_at r.prime r.vars (matrices_meaning r ms) i ≡ matrix_meaning r theta) c.deref.ensures.value (c.matrix_of-theta.ensures.value r)) ∙ ap (λ ts. matrix_at r.prime r.vars ts i) c.in_ok-lift.ensures.first in
    let T = matrix_at r.prime r.vars (matrix_unit r.prime r.vars 1 ∷ thetas) i in
    let work = morphism_work r T (graph_meaning r z.generators.graph) in
    let morphism : Follows (matrix_meaning r) c.morphism.result c.relations.new.work c.morphism.new.work (work c.relations.new.work) =
    subst₂ (λ (t : MatrixOf r) (g : GraphValue). Follows (matrix_meaning r) c.morphism.result c.relations.new.work c.morphism.new.work (morphism_work r t (graph_meaning r g) c.relations.new.work)) at graph
    (subst (λ (s : Ring). Follows (matrix_meaning s) c.morphism.result c.relations.new.work c.morphism.new.work (morphism_work s (matrix_meaning s theta) (graph_meaning s c.graph-z.result.now) c.relations.new.work)) (ap (λ (g : GraphValue). g.matrix.ring) graph ∙ ring) c.morphism.ensures.follows) in
    let u = c.in_ok-u.u in
    let y : ExtValue = record { resolution = c.args.resolution; lift = lift; cocycles = z; relations = n; u = u } in
    let same : ext_meaning r y ≡ record { resolution = X; lift = matrix_unit r.prime r.vars 1 ∷ thetas; cocycles = preimage_meaning r z; relations = preimage_meaning r n; u = matrix_meaning r u } =
    ap (λ ts. record { resolution = X; lift = ts; cocycles = preimage_meaning r z; relations = preimage_meaning r n; u = matrix_meaning r u }) c.in_ok-lift.ensures.first in
    let ends = ext_ends r side i X c.args.work.now c.lift_along.new.work thetas c.in_ok-lift.ensures.follows c.cocycles.new.work z cocycles c.relations.new.work n relations c.morphism.new.work u y same
    (task_told (matrix_meaning r) side Morphism c.relations.new.work c.morphism.new.work work c.task-3.result c.morphism.result (Ok u) c.in_ok-u.ensures c.task-3.ensures morphism) in
    let n_ring : n.generators.graph.matrix.ring ≡ r = subst (λ a. IfOk a (λ (p : PreimageValue). p.generators.graph.matrix.ring ≡ r)) (told_ok c.task-2.result c.relations.result n c.in_ok-relations.ensures) c.relations.ensures.ring in
    let u_ring : u.ring ≡ r = subst (λ a. IfOk a (λ (m : MatrixValue). m.ring ≡ c.graph-z.result.now.matrix.ring)) (told_ok c.task-3.result c.morphism.result u c.in_ok-u.ensures) c.morphism.ensures.ring ∙ ap (λ (g : GraphValue). g.matrix.ring) graph ∙ ring in
    presents side i y c.requires.degree c.cocycles.ensures.resolution c.in_ok-lift.ensures.rings ring n_ring u_ring c.args.work.now c.morphism.new.work ends

pub returns-clause-follows : goal.returns-clause-follows
returns-clause-follows c =
    let r = c.args.resolution.first.matrix.ring in
    let side = c.args.side in
    let i = c.args.degree in
    let X = resolution_value r c.args.resolution in
    let ds = differentials r c.args.resolution in
    let lift = c.in_ok-lift.lift.items in
    let thetas = after_the_first (matrices_meaning r lift) in
    let z = c.in_ok-cocycles.cocycles in
    let n = c.in_ok-relations.relations in
    let theta = c.matrix_of-theta.result.now in
    let K = kernel_run r (flip r (matrix_at r.prime r.vars ds i)) in
    let below = flip r (differential r.prime r.vars ds i) in
    let graph : c.graph-z.result.now ≡ z.generators.graph = c.graph-z.ensures ∙ ap (λ (x : GeneratorsValue). x.graph) c.generators.ensures.same in
    let found : c.matrix.result.now ≡ z.generators.graph.matrix = c.matrix.ensures.same ∙ ap (λ (g : GraphValue). g.matrix) graph in
    let ring : z.generators.graph.matrix.ring ≡ r = subst (λ a. IfOk a (λ (p : PreimageValue). p.generators.graph.matrix.ring ≡ r)) (told_ok c.task.result c.cocycles.result z c.in_ok-cocycles.ensures) c.cocycles.ensures.ring in
    let cocycles = task_told (preimage_meaning r) side Cocycles c.lift_along.new.work c.cocycles.new.work K c.task.result c.cocycles.result (Ok z) c.in_ok-cocycles.ensures c.task.ensures c.cocycles.ensures.follows in
    let relations = task_told (preimage_meaning r) side Relations c.cocycles.new.work c.relations.new.work (preimage_run r (matrix_meaning r z.generators.graph.matrix) below) c.task-2.result c.relations.result (Ok n) c.in_ok-relations.ensures c.task-2.ensures
    (subst (λ (m : MatrixValue). Follows (preimage_meaning r) c.relations.result c.cocycles.new.work c.relations.new.work (preimage_run r (matrix_meaning r m) below c.cocycles.new.work)) found c.relations.ensures.follows) in
    let at : matrix_meaning r theta ≡ matrix_at r.prime r.vars (matrix_unit r.prime r.vars 1 ∷ thetas) i =
    sym (subst (λ ms. matrix_at r.prime r.vars (matrices_meaning r ms) i ≡ matrix_meaning r theta) c.deref.ensures.value (c.matrix_of-theta.ensures.value r)) ∙ ap (λ ts. matrix_at r.prime r.vars ts i) c.in_ok-lift.ensures.first in
    let T = matrix_at r.prime r.vars (matrix_unit r.prime r.vars 1 ∷ thetas) i in
    let work = morphism_work r T (graph_meaning r z.generators.graph) in
    let morphism : Follows (matrix_meaning r) c.morphism.result c.relations.new.work c.morphism.new.work (work c.relations.new.work) =
    subst₂ (λ (t : MatrixOf r) (g : GraphValue). Follows (matrix_meaning r) c.morphism.result c.relations.new.work c.morphism.new.work (morphism_work r t (graph_meaning r g) c.relations.new.work)) at graph
    (subst (λ (s : Ring). Follows (matrix_meaning s) c.morphism.result c.relations.new.work c.morphism.new.work (morphism_work s (matrix_meaning s theta) (graph_meaning s c.graph-z.result.now) c.relations.new.work)) (ap (λ (g : GraphValue). g.matrix.ring) graph ∙ ring) c.morphism.ensures.follows) in
    let u = c.in_ok-u.u in
    let y : ExtValue = record { resolution = c.args.resolution; lift = lift; cocycles = z; relations = n; u = u } in
    let same : ext_meaning r y ≡ record { resolution = X; lift = matrix_unit r.prime r.vars 1 ∷ thetas; cocycles = preimage_meaning r z; relations = preimage_meaning r n; u = matrix_meaning r u } =
    ap (λ ts. record { resolution = X; lift = ts; cocycles = preimage_meaning r z; relations = preimage_meaning r n; u = matrix_meaning r u }) c.in_ok-lift.ensures.first in
    let ends = ext_ends r side i X c.args.work.now c.lift_along.new.work thetas c.in_ok-lift.ensures.follows c.cocycles.new.work z cocycles c.relations.new.work n relations c.morphism.new.work u y same
    (task_told (matrix_meaning r) side Morphism c.relations.new.work c.morphism.new.work work c.task-3.result c.morphism.result (Ok u) c.in_ok-u.ensures c.task-3.ensures morphism) in
    subst (λ (y : ExtValue). FollowsPlan (ext_meaning r) (Ok y) c.args.work.now c.morphism.new.work (ext_plan r side i X c.args.work.now)) (sym c.new.ensures) ends
