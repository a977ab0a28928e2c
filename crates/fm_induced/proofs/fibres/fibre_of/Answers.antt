use Rattle.std.proofs.Common.{Ok, Err, ap, ◌∙◌, subst}
use Rattle.fm_graphs.specs.Graphs.{inside_run}
use Rattle.fm_graphs.specs.Trims.{preimage_run}
use Rattle.fm_mat.specs.Matrices.{MatrixValue, matrix_meaning}
use Rattle.fm_plan.specs.Queries.{fibre_work}
use Rattle.fm_poly.specs.declared.ring.Ring.{Ring}
use Rattle.fm_run.specs.Runs.{Follows, halt_of}
use Rattle.fm_run.proofs.Parts.{failed}
use Rattle.fm_syz.specs.GeneratorValues.{GeneratorsValue, preimage_meaning}
use Rattle.fm_syz.specs.GraphValues.{graph_meaning}
use Rattle.fm_syz.specs.Insides.{inside_value}
use Rattle.fm_induced.specs.Fibres.{fibre_value}
use Rattle.fm_induced.proofs.MapRuns.{preimage_stops, inside_stops, inside_goes}
use Rattle.fm_induced.proofs.fibres.fibre_of.Goals as goal

pub returns-in_err-fibre-clause-follows : goal.returns-in_err-fibre-clause-follows
returns-in_err-fibre-clause-follows c =
    let r = c.args.source.now.matrix.ring in
    let F = matrix_meaning r c.args.phi.now in
    let K = matrix_meaning r c.args.k.now in
    let g = graph_meaning r c.args.source.now in
    let old = c.args.work.now in
    let mid = c.preimage.new.work in
    let z = c.in_err-fibre.field-0.0 in
    failed (fibre_value r) halt_of c.from_residual.result z old mid (fibre_work r F K g old) c.from_residual.ensures
    (preimage_stops r F K g old mid z (subst (λ (s : Ring). Follows (preimage_meaning s) (Err z) old mid (preimage_run s (matrix_meaning s c.args.phi.now) (matrix_meaning s c.args.k.now) old)) c.requires.ring c.in_err-fibre.ensures.follows))

pub returns-in_err-inside-clause-follows : goal.returns-in_err-inside-clause-follows
returns-in_err-inside-clause-follows c =
    let r = c.args.source.now.matrix.ring in
    let F = matrix_meaning r c.args.phi.now in
    let K = matrix_meaning r c.args.k.now in
    let g = graph_meaning r c.args.source.now in
    let old = c.args.work.now in
    let mid = c.preimage.new.work in
    let new = c.inside_of.new.work in
    let x = c.in_ok-fibre.fibre in
    let z = c.in_err-inside.field-0.0 in
    failed (fibre_value r) halt_of c.from_residual-in_err-inside.result z old new (fibre_work r F K g old) c.from_residual-in_err-inside.ensures
    (inside_stops r F K g old mid x (subst (λ (s : Ring). Follows (preimage_meaning s) (Ok x) old mid (preimage_run s (matrix_meaning s c.args.phi.now) (matrix_meaning s c.args.k.now) old)) c.requires.ring c.in_ok-fibre.ensures.follows) new z
    (subst (λ (m : MatrixValue). Follows (inside_value r) (Err z) mid new (inside_run r (matrix_meaning r m) g mid)) (c.found.ensures ∙ ap (λ (x : GeneratorsValue). x.graph.matrix) c.generators.ensures.same) c.in_err-inside.ensures.follows))

pub returns-clause-follows : goal.returns-clause-follows
returns-clause-follows c =
    let r = c.args.source.now.matrix.ring in
    let F = matrix_meaning r c.args.phi.now in
    let K = matrix_meaning r c.args.k.now in
    let g = graph_meaning r c.args.source.now in
    let old = c.args.work.now in
    let mid = c.preimage.new.work in
    let new = c.inside_of.new.work in
    let x = c.in_ok-fibre.fibre in
    let y = c.in_ok-inside.inside in
    inside_goes r F K g old mid x (subst (λ (s : Ring). Follows (preimage_meaning s) (Ok x) old mid (preimage_run s (matrix_meaning s c.args.phi.now) (matrix_meaning s c.args.k.now) old)) c.requires.ring c.in_ok-fibre.ensures.follows) new y
    (subst (λ (m : MatrixValue). Follows (inside_value r) (Ok y) mid new (inside_run r (matrix_meaning r m) g mid)) (c.found.ensures ∙ ap (λ (x : GeneratorsValue). x.graph.matrix) c.generators.ensures.same) c.in_ok-inside.ensures.follows)

pub returns-clause-over : goal.returns-clause-over
returns-clause-over c = (c.in_ok-fibre.ensures.ring ∙ c.requires.ring, c.in_ok-inside.ensures.columns)
