use Rattle.std.proofs.Common.{◌≡◌, ◌≤◌, List, map, length, refl, sym, ap, ◌∙◌, subst}
use Rattle.std.proofs.lemmas.Result.{IfOk-weaker}
use Rattle.std.specs.Prelude.{string_bytes}
use Rattle.fm_certificates.specs.Certificates.{found_claims}
use Rattle.fm_certify.proofs.ChainedCertificates.{certificate_of, claims_over, names_counted}
use Rattle.fm_certify.proofs.JoinedColons.{whole_over}
use Rattle.fm_certify.proofs.JoinedQueries.{support_lines, support_part}
use Rattle.fm_mat.specs.Matrices.{MatrixValue}
use Rattle.fm_poly.specs.declared.ring.Ring.{Ring}
use Rattle.fm_problem.specs.declared.query.Query.TheVariants as queries
use Rattle.fm_queries.specs.Bases.{stable_graph}
use Rattle.fm_queries.specs.Founds.{support_value}
use Rattle.fm_queries.proofs.StableGraphs.{stable_ring}
use Rattle.fm_syz.specs.GraphValues.{GraphValue}
use Rattle.fm_writer.specs.Claims.{AreClaimsOver, claim_values}
use Rattle.fm_writer.specs.Writers.{IsCertificate}
use Rattle.fm_writer.specs.declared.claim.Claim.{Claim}
use Rattle.fm_certify.proofs.queries.certify_support.Goals as goal

pub unit_column-requires-clause-some : goal.unit_column-requires-clause-some
unit_column-requires-clause-some c =
    let b = c.args.found.now.base in
    let same : c.matrix-kernel.result.now ≡ (stable_graph b).matrix = c.matrix-kernel.ensures.same ∙ ap (λ (g : GraphValue). g.matrix) c.stable_kernel.ensures.same in
    let ring = c.ring.ensures ∙ ap (λ (m : MatrixValue). m.ring) same ∙ stable_ring b c.stable_kernel.ensures.base ∙ c.requires.ring in
    subst (λ (s : Ring). 1 ≤ s.vars) (sym ring) c.requires.problem.bounded.some

pub unit_column-requires-clause-few : goal.unit_column-requires-clause-few
unit_column-requires-clause-few c =
    let b = c.args.found.now.base in
    let same : c.matrix-kernel.result.now ≡ (stable_graph b).matrix = c.matrix-kernel.ensures.same ∙ ap (λ (g : GraphValue). g.matrix) c.stable_kernel.ensures.same in
    let ring = c.ring.ensures ∙ ap (λ (m : MatrixValue). m.ring) same ∙ stable_ring b c.stable_kernel.ensures.base ∙ c.requires.ring in
    subst (λ (s : Ring). s.vars ≤ 8) (sym ring) c.requires.problem.bounded.few

pub push_preimage-requires : goal.push_preimage-requires
push_preimage-requires c =
    let q = c.args.problem.now in
    let b = c.args.found.now.base in
    let same : c.matrix-kernel.result.now ≡ (stable_graph b).matrix = c.matrix-kernel.ensures.same ∙ ap (λ (g : GraphValue). g.matrix) c.stable_kernel.ensures.same in
    let ring = ap (λ (m : MatrixValue). m.ring) same ∙ stable_ring b c.stable_kernel.ensures.base ∙ c.requires.ring in
    whole_over q.ring c.in_ok-unit.unit.ring c.in_ok-blocks.blocks.ring c.args.found.now.annihilator.generators.graph.matrix.ring c.matrix.result c.beside-both.result
    (c.in_ok-unit.ensures.ring ∙ c.ring.ensures ∙ ring) (c.in_ok-blocks.ensures.ring ∙ ring) c.requires.annihilator c.matrix.ensures.over c.beside-both.ensures.over

pub returns : goal.returns
returns c = λ fs.
    let q = c.args.problem.now in
    let b = c.args.found.now.base in
    let k = c.matrix-kernel.result.now in
    let old = c.new-claims.result.items in
    let new = c.push_preimage.new.claims.items in
    let names = map string_bytes c.as_slice.result.now in
    let cs = found_claims q (queries.Support c.args.degree c.args.ideal) (support_value q.ring c.args.degree fs c.args.found.now) in
    let same : k ≡ (stable_graph b).matrix = c.matrix-kernel.ensures.same ∙ ap (λ (g : GraphValue). g.matrix) c.stable_kernel.ensures.same in
    let part = support_part q.ring c.ring.result k (stable_graph b).matrix c.in_ok-unit.unit c.in_ok-blocks.blocks c.rows.result c.matrix.result c.beside-both.result same
    (stable_ring b c.stable_kernel.ensures.base ∙ c.requires.ring) c.ring.ensures c.rows.ensures c.in_ok-unit.ensures.ring c.in_ok-blocks.ensures.ring c.in_ok-unit.ensures.value c.in_ok-blocks.ensures.value
    c.matrix.ensures.value c.beside-both.ensures.value in
    let has = support_lines q c.args.ideal c.args.degree b c.args.found.now.annihilator c.beside-both.result old c.push_base_block.new.claims.items new c.requires.annihilator part
    c.in_ok-push_base_block.ensures c.in_ok-push_preimage.ensures in
    IfOk-weaker c.certificate.result (λ text. IsCertificate names (claim_values c.deref.result.now) text.items) (λ text. IsCertificate q.vars cs text.items)
    (λ text h. certificate_of q.ring.vars cs old new c.deref.result.now c.new-claims.ensures.items c.deref.ensures.value has names q.vars text.items c.as_slice.ensures h)
    c.certificate.ensures
