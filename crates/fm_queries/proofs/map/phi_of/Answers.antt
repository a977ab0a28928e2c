use Rattle.std.proofs.Common.{◌≡◌, IfOk, length, refl, sym, ap, ◌∙◌, subst}
use Rattle.fm_mat.specs.Matrices.{MatrixValue, matrix_meaning}
use Rattle.fm_poly.specs.declared.ring.Ring.{Ring}
use Rattle.fm_syz.specs.GeneratorValues.{GeneratorsValue, PreimageValue}
use Rattle.fm_syz.specs.GraphValues.{GraphValue}
use Rattle.fm_ext.specs.Exts.{ExtValue, cocycles_matrix, ring_of}
use Rattle.fm_queries.proofs.MapTold.{phi_told}
use Rattle.fm_queries.proofs.map.phi_of.Goals as goal

pub phi-requires-clause-ring : goal.phi-requires-clause-ring
phi-requires-clause-ring c =
    let b = c.args.source.now in
    let d = c.args.target.now in
    let z = c.found.result.now in
    let Z : z ≡ cocycles_matrix b.ext = c.found.ensures ∙ ap (λ (x : GeneratorsValue). x.graph.matrix) c.generators.ensures.same ∙ ap (λ (x : PreimageValue). x.generators.graph.matrix) c.cocycles.ensures.same ∙ ap (λ (e : ExtValue). cocycles_matrix e) c.ext-from.ensures.same in
    let g = c.graph.result.now in
    let G : g ≡ d.ext.cocycles.generators.graph = c.graph.ensures ∙ ap (λ (x : GeneratorsValue). x.graph) c.generators-2.ensures.same ∙ ap (λ (x : PreimageValue). x.generators.graph) c.cocycles-2.ensures.same ∙ ap (λ (e : ExtValue). e.cocycles.generators.graph) c.ext-to.ensures.same in
    let ring : d.ext.cocycles.generators.graph.matrix.ring ≡ ring_of b.ext = c.ext-to.ensures.base.ext.cocycles ∙ c.requires.ring in
    let ring_g : g.matrix.ring ≡ ring_of b.ext = ap (λ (h : GraphValue). h.matrix.ring) G ∙ ring in
    let m = c.args.lambda.now in
    c.requires.ring_lambda ∙ sym ring_g

pub phi-requires-clause-rows : goal.phi-requires-clause-rows
phi-requires-clause-rows c =
    let b = c.args.source.now in
    let d = c.args.target.now in
    let z = c.found.result.now in
    let Z : z ≡ cocycles_matrix b.ext = c.found.ensures ∙ ap (λ (x : GeneratorsValue). x.graph.matrix) c.generators.ensures.same ∙ ap (λ (x : PreimageValue). x.generators.graph.matrix) c.cocycles.ensures.same ∙ ap (λ (e : ExtValue). cocycles_matrix e) c.ext-from.ensures.same in
    let g = c.graph.result.now in
    let G : g ≡ d.ext.cocycles.generators.graph = c.graph.ensures ∙ ap (λ (x : GeneratorsValue). x.graph) c.generators-2.ensures.same ∙ ap (λ (x : PreimageValue). x.generators.graph) c.cocycles-2.ensures.same ∙ ap (λ (e : ExtValue). e.cocycles.generators.graph) c.ext-to.ensures.same in
    let ring : d.ext.cocycles.generators.graph.matrix.ring ≡ ring_of b.ext = c.ext-to.ensures.base.ext.cocycles ∙ c.requires.ring in
    let ring_g : g.matrix.ring ≡ ring_of b.ext = ap (λ (h : GraphValue). h.matrix.ring) G ∙ ring in
    let m = c.args.lambda.now in
    c.requires.columns ∙ sym (ap (λ (h : GraphValue). h.matrix.rows) G)

pub phi-requires-clause-ring_z : goal.phi-requires-clause-ring_z
phi-requires-clause-ring_z c =
    let b = c.args.source.now in
    let d = c.args.target.now in
    let z = c.found.result.now in
    let Z : z ≡ cocycles_matrix b.ext = c.found.ensures ∙ ap (λ (x : GeneratorsValue). x.graph.matrix) c.generators.ensures.same ∙ ap (λ (x : PreimageValue). x.generators.graph.matrix) c.cocycles.ensures.same ∙ ap (λ (e : ExtValue). cocycles_matrix e) c.ext-from.ensures.same in
    let g = c.graph.result.now in
    let G : g ≡ d.ext.cocycles.generators.graph = c.graph.ensures ∙ ap (λ (x : GeneratorsValue). x.graph) c.generators-2.ensures.same ∙ ap (λ (x : PreimageValue). x.generators.graph) c.cocycles-2.ensures.same ∙ ap (λ (e : ExtValue). e.cocycles.generators.graph) c.ext-to.ensures.same in
    let ring : d.ext.cocycles.generators.graph.matrix.ring ≡ ring_of b.ext = c.ext-to.ensures.base.ext.cocycles ∙ c.requires.ring in
    let ring_g : g.matrix.ring ≡ ring_of b.ext = ap (λ (h : GraphValue). h.matrix.ring) G ∙ ring in
    let m = c.args.lambda.now in
    ap (λ (a : MatrixValue). a.ring) Z ∙ c.ext-from.ensures.base.ext.cocycles ∙ sym ring_g

pub phi-requires-clause-inner : goal.phi-requires-clause-inner
phi-requires-clause-inner c =
    let b = c.args.source.now in
    let d = c.args.target.now in
    let z = c.found.result.now in
    let Z : z ≡ cocycles_matrix b.ext = c.found.ensures ∙ ap (λ (x : GeneratorsValue). x.graph.matrix) c.generators.ensures.same ∙ ap (λ (x : PreimageValue). x.generators.graph.matrix) c.cocycles.ensures.same ∙ ap (λ (e : ExtValue). cocycles_matrix e) c.ext-from.ensures.same in
    let g = c.graph.result.now in
    let G : g ≡ d.ext.cocycles.generators.graph = c.graph.ensures ∙ ap (λ (x : GeneratorsValue). x.graph) c.generators-2.ensures.same ∙ ap (λ (x : PreimageValue). x.generators.graph) c.cocycles-2.ensures.same ∙ ap (λ (e : ExtValue). e.cocycles.generators.graph) c.ext-to.ensures.same in
    let ring : d.ext.cocycles.generators.graph.matrix.ring ≡ ring_of b.ext = c.ext-to.ensures.base.ext.cocycles ∙ c.requires.ring in
    let ring_g : g.matrix.ring ≡ ring_of b.ext = ap (λ (h : GraphValue). h.matrix.ring) G ∙ ring in
    let m = c.args.lambda.now in
    ap (λ (a : MatrixValue). a.rows) Z ∙ sym c.requires.rows

pub returns-clause-follows : goal.returns-clause-follows
returns-clause-follows c =
    let b = c.args.source.now in
    let d = c.args.target.now in
    let z = c.found.result.now in
    let Z : z ≡ cocycles_matrix b.ext = c.found.ensures ∙ ap (λ (x : GeneratorsValue). x.graph.matrix) c.generators.ensures.same ∙ ap (λ (x : PreimageValue). x.generators.graph.matrix) c.cocycles.ensures.same ∙ ap (λ (e : ExtValue). cocycles_matrix e) c.ext-from.ensures.same in
    let g = c.graph.result.now in
    let G : g ≡ d.ext.cocycles.generators.graph = c.graph.ensures ∙ ap (λ (x : GeneratorsValue). x.graph) c.generators-2.ensures.same ∙ ap (λ (x : PreimageValue). x.generators.graph) c.cocycles-2.ensures.same ∙ ap (λ (e : ExtValue). e.cocycles.generators.graph) c.ext-to.ensures.same in
    let ring : d.ext.cocycles.generators.graph.matrix.ring ≡ ring_of b.ext = c.ext-to.ensures.base.ext.cocycles ∙ c.requires.ring in
    let ring_g : g.matrix.ring ≡ ring_of b.ext = ap (λ (h : GraphValue). h.matrix.ring) G ∙ ring in
    let m = c.args.lambda.now in
    phi_told (ring_of b.ext) m (matrix_meaning (ring_of b.ext) m) refl (cocycles_matrix b.ext) z d.ext.cocycles.generators.graph g Z G ring c.phi.result c.args.work.now c.phi.new.work c.phi.ensures.follows

pub returns-clause-ring : goal.returns-clause-ring
returns-clause-ring c =
    let b = c.args.source.now in
    let d = c.args.target.now in
    let z = c.found.result.now in
    let Z : z ≡ cocycles_matrix b.ext = c.found.ensures ∙ ap (λ (x : GeneratorsValue). x.graph.matrix) c.generators.ensures.same ∙ ap (λ (x : PreimageValue). x.generators.graph.matrix) c.cocycles.ensures.same ∙ ap (λ (e : ExtValue). cocycles_matrix e) c.ext-from.ensures.same in
    let g = c.graph.result.now in
    let G : g ≡ d.ext.cocycles.generators.graph = c.graph.ensures ∙ ap (λ (x : GeneratorsValue). x.graph) c.generators-2.ensures.same ∙ ap (λ (x : PreimageValue). x.generators.graph) c.cocycles-2.ensures.same ∙ ap (λ (e : ExtValue). e.cocycles.generators.graph) c.ext-to.ensures.same in
    let ring : d.ext.cocycles.generators.graph.matrix.ring ≡ ring_of b.ext = c.ext-to.ensures.base.ext.cocycles ∙ c.requires.ring in
    let ring_g : g.matrix.ring ≡ ring_of b.ext = ap (λ (h : GraphValue). h.matrix.ring) G ∙ ring in
    let m = c.args.lambda.now in
    subst (λ (q : Ring). IfOk c.phi.result (λ (a : MatrixValue). a.ring ≡ q)) ring_g c.phi.ensures.ring

pub returns-clause-rows : goal.returns-clause-rows
returns-clause-rows c =
    let b = c.args.source.now in
    let d = c.args.target.now in
    let z = c.found.result.now in
    let Z : z ≡ cocycles_matrix b.ext = c.found.ensures ∙ ap (λ (x : GeneratorsValue). x.graph.matrix) c.generators.ensures.same ∙ ap (λ (x : PreimageValue). x.generators.graph.matrix) c.cocycles.ensures.same ∙ ap (λ (e : ExtValue). cocycles_matrix e) c.ext-from.ensures.same in
    let g = c.graph.result.now in
    let G : g ≡ d.ext.cocycles.generators.graph = c.graph.ensures ∙ ap (λ (x : GeneratorsValue). x.graph) c.generators-2.ensures.same ∙ ap (λ (x : PreimageValue). x.generators.graph) c.cocycles-2.ensures.same ∙ ap (λ (e : ExtValue). e.cocycles.generators.graph) c.ext-to.ensures.same in
    let ring : d.ext.cocycles.generators.graph.matrix.ring ≡ ring_of b.ext = c.ext-to.ensures.base.ext.cocycles ∙ c.requires.ring in
    let ring_g : g.matrix.ring ≡ ring_of b.ext = ap (λ (h : GraphValue). h.matrix.ring) G ∙ ring in
    let m = c.args.lambda.now in
    subst (λ (h : GraphValue). IfOk c.phi.result (λ (a : MatrixValue). a.rows ≡ length h.matrix.columns)) G c.phi.ensures.rows

pub returns-clause-count : goal.returns-clause-count
returns-clause-count c =
    let b = c.args.source.now in
    let d = c.args.target.now in
    let z = c.found.result.now in
    let Z : z ≡ cocycles_matrix b.ext = c.found.ensures ∙ ap (λ (x : GeneratorsValue). x.graph.matrix) c.generators.ensures.same ∙ ap (λ (x : PreimageValue). x.generators.graph.matrix) c.cocycles.ensures.same ∙ ap (λ (e : ExtValue). cocycles_matrix e) c.ext-from.ensures.same in
    let g = c.graph.result.now in
    let G : g ≡ d.ext.cocycles.generators.graph = c.graph.ensures ∙ ap (λ (x : GeneratorsValue). x.graph) c.generators-2.ensures.same ∙ ap (λ (x : PreimageValue). x.generators.graph) c.cocycles-2.ensures.same ∙ ap (λ (e : ExtValue). e.cocycles.generators.graph) c.ext-to.ensures.same in
    let ring : d.ext.cocycles.generators.graph.matrix.ring ≡ ring_of b.ext = c.ext-to.ensures.base.ext.cocycles ∙ c.requires.ring in
    let ring_g : g.matrix.ring ≡ ring_of b.ext = ap (λ (h : GraphValue). h.matrix.ring) G ∙ ring in
    let m = c.args.lambda.now in
    subst (λ (h : MatrixValue). IfOk c.phi.result (λ (a : MatrixValue). length a.columns ≡ length h.columns)) Z c.phi.ensures.count
