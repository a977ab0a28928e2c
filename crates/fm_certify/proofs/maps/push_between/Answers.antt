use Rattle.std.proofs.Common.{◌≡◌, List, [], ◌∷◌, OnOk, refl, sym, ap, ◌∙◌, subst}
use Rattle.fm_certificates.specs.Certificates.{between_claims, identity_claims, matrix_part}
use Rattle.fm_certify.specs.Claims.{HasClaims}
use Rattle.fm_certify.proofs.JoinedColons.{whole_over}
use Rattle.fm_certify.proofs.JoinedInverted.{ok_then}
use Rattle.fm_certify.proofs.JoinedLines.{beside_over, matrix_over, named_over, preimage_over}
use Rattle.fm_certify.proofs.JoinedMaps.{between_lines, columns_at, inside_over, onto_over}
use Rattle.fm_ext.specs.Exts.{ExtValue, ring_of}
use Rattle.fm_induced.specs.Fibres.{fibre_value}
use Rattle.fm_induced.specs.Joins.{onto_value}
use Rattle.fm_lift.specs.Lifts.{AreMatricesOver, matrices_meaning}
use Rattle.fm_mat.specs.Matrices.{MatrixValue, matrix_meaning}
use Rattle.fm_poly.specs.declared.ring.Ring.{Ring}
use Rattle.fm_queries.specs.Bases.{base_meaning, stable_graph}
use Rattle.fm_queries.proofs.StableGraphs.{stable_ring}
use Rattle.fm_report.specs.Parts.{beside}
use Rattle.fm_syz.specs.GeneratorValues.{GeneratorsValue, PreimageValue}
use Rattle.fm_syz.specs.GraphValues.{GraphValue}
use Rattle.fm_syz.specs.Insides.{inside_value}
use Rattle.fm_writer.specs.Claims.{operand_part, whole_part}
use Rattle.fm_writer.specs.Kinds.{excluding_line, generating_line, named_line}
use Rattle.fm_writer.specs.declared.kinds.Excluding.TheVariants as excluding
use Rattle.fm_writer.specs.declared.kinds.Generating.TheVariants as generating
use Rattle.fm_writer.specs.declared.kinds.Named.TheVariants as named
use Rattle.fm_certify.proofs.maps.push_between.Goals as goal

pub push_inside-requires : goal.push_inside-requires
push_inside-requires c =
    let x = c.args.map.now in
    columns_at (ring_of x.source.ext) c.stable_kernel-target.result.now (stable_graph x.target) x.null c.stable_kernel-target.ensures.same
    (stable_ring x.target c.stable_kernel-target.ensures.base ∙ c.requires.target) c.requires.null

pub push_preimage-requires : goal.push_preimage-requires
push_preimage-requires c =
    let x = c.args.map.now in
    let r = ring_of x.source.ext in
    let m : c.matrix.result.now ≡ (stable_graph x.target).matrix = c.matrix.ensures.same ∙ ap (λ (g : GraphValue). g.matrix) c.stable_kernel-target.ensures.same in
    whole_over r x.phi.ring c.matrix.result.now.ring x.fibre.fibre.generators.graph.matrix.ring c.matrix-2.result c.beside-both.result c.requires.phi
    (ap (λ (y : MatrixValue). y.ring) m ∙ stable_ring x.target c.stable_kernel-target.ensures.base ∙ c.requires.target) c.requires.one.0 c.matrix-2.ensures.over c.beside-both.ensures.over

pub push_inside-requires-2 : goal.push_inside-requires-2
push_inside-requires-2 c =
    let x = c.args.map.now in
    columns_at (ring_of x.source.ext) c.stable_kernel.result.now (stable_graph x.source) x.fibre.inside c.stable_kernel.ensures.same
    (stable_ring x.source c.stable_kernel.ensures.base) c.requires.one.1

pub returns : goal.returns
returns c =
    let x = c.args.map.now in
    let r = ring_of x.source.ext in
    let k = stable_graph x.target in
    let c0 = c.args.claims.now.items in
    let c1 = c.push_series.new.claims.items in
    let c2 = c.push_matrix.new.claims.items in
    let c3 = c.push_inside.new.claims.items in
    let c4 = c.push_preimage.new.claims.items in
    let c5 = c.push_inside-2.new.claims.items in
    let c6 = c.push_onto.new.claims.items in
    let target : k.matrix.ring ≡ r = stable_ring x.target c.stable_kernel-target.ensures.base ∙ c.requires.target in
    let source : (stable_graph x.source).matrix.ring ≡ r = stable_ring x.source c.stable_kernel.ensures.base in
    let m : c.matrix.result.now ≡ k.matrix = c.matrix.ensures.same ∙ ap (λ (g : GraphValue). g.matrix) c.stable_kernel-target.ensures.same in
    let m_ring : c.matrix.result.now.ring ≡ r = ap (λ (y : MatrixValue). y.ring) m ∙ target in
    let part : operand_part c.matrix-2.result ≡ matrix_part r (matrix_meaning r k.matrix) =
    matrix_over r c.matrix.result.now (operand_part c.matrix-2.result) m_ring c.matrix-2.ensures.value ∙ ap (λ (y : MatrixValue). matrix_part r (matrix_meaning r y)) m in
    let both : whole_part c.beside-both.result ≡ beside (matrix_part r (matrix_meaning r x.phi)) (matrix_part r (matrix_meaning r k.matrix)) =
    beside_over r x.phi c.matrix-2.result c.beside-both.result (matrix_part r (matrix_meaning r k.matrix)) c.requires.phi part c.beside-both.ensures.value in
    let u : c.u.result.now ≡ x.target.ext.u = c.u.ensures.same ∙ ap (λ (y : ExtValue). y.u) c.ext-ext.ensures.same in
    let u_ring : c.u.result.now.ring ≡ r = ap (λ (y : MatrixValue). y.ring) u ∙ c.ext-ext.ensures.base.ext.morphism ∙ c.requires.target in
    let n : c.found.result.now ≡ x.target.ext.relations.generators.graph.matrix =
    c.found.ensures ∙ ap (λ (g : GeneratorsValue). g.graph.matrix) c.generators.ensures.same ∙ ap (λ (p : PreimageValue). p.generators.graph.matrix) c.relations.ensures.same
    ∙ ap (λ (y : ExtValue). y.relations.generators.graph.matrix) c.ext-ext.ensures.same in
    let one = fibre_value r x.fibre in
    ok_then c.push_onto.result _
    (HasClaims r.vars c0 (between_claims r (base_meaning r x.source) (base_meaning r x.target) (matrices_meaning r x.lambda.items) (matrix_meaning r x.phi) (inside_value r x.null) one.0 one.1 (onto_value r x.onto)) c6)
    (λ onto. between_lines r (base_meaning r x.source) (base_meaning r x.target) (matrices_meaning r x.lambda.items) (matrix_meaning r x.phi) (inside_value r x.null) one.0 one.1 (onto_value r x.onto)
    c0 c1 c2 c3 c4 c5 c6
    (subst (λ (ms : List MatrixValue). AreMatricesOver r ms → HasClaims r.vars c0 (identity_claims r 0 (matrices_meaning r ms)) c1) c.as_slice.ensures.value
    (c.in_ok-push_series.ensures r) c.requires.lambda)
    (named_over r x.phi (named_line (named.Phi)) c1 c2 c.requires.phi c.in_ok-push_matrix.ensures)
    (inside_over r c.stable_kernel-target.result.now k x.null (named_line (named.Null)) (excluding_line (excluding.NonNull)) c2 c3 c.stable_kernel-target.ensures.same target c.in_ok-push_inside.ensures)
    (preimage_over r x.fibre.fibre.generators.graph.matrix.ring x.fibre.fibre (whole_part c.beside-both.result) (beside (matrix_part r (matrix_meaning r x.phi)) (matrix_part r (matrix_meaning r k.matrix)))
    (generating_line (generating.Fibre)) c3 c4 c.requires.one.0 both c.in_ok-push_preimage.ensures)
    (inside_over r c.stable_kernel.result.now (stable_graph x.source) x.fibre.inside (named_line (named.One)) (excluding_line (excluding.NotOne)) c4 c5 c.stable_kernel.ensures.same source c.in_ok-push_inside-2.ensures)
    (onto_over r c.u.result.now.ring c.u.result.now x.target.ext.u c.found.result.now x.target.ext.relations.generators.graph.matrix x.phi x.onto c5 c6 u_ring u n onto))
    c.push_onto.ensures
