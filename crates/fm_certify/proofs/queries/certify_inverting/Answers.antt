use Rattle.std.proofs.Common.{◌≡◌, List, map, length, refl, sym, ap, ◌∙◌, subst}
use Rattle.std.proofs.lemmas.Result.{IfOk-weaker}
use Rattle.std.specs.Prelude.{string_bytes}
use Rattle.fm_certificates.specs.Certificates.{found_claims}
use Rattle.fm_certify.proofs.ChainedCertificates.{certificate_of, claims_over, names_counted}
use Rattle.fm_certify.proofs.JoinedQueries.{inverting_lines, scalar_over}
use Rattle.fm_ext.specs.Exts.{ring_of}
use Rattle.fm_poly.specs.Polys.{meaning}
use Rattle.fm_problem.specs.declared.query.Query.TheVariants as queries
use Rattle.fm_queries.specs.Bases.{base_meaning, stable_graph}
use Rattle.fm_queries.specs.Founds.{invert_value}
use Rattle.fm_syz.specs.GraphValues.{GraphValue}
use Rattle.fm_writer.specs.Claims.{AreClaimsOver, claim_values}
use Rattle.fm_writer.specs.Writers.{IsCertificate}
use Rattle.fm_writer.specs.declared.claim.Claim.{Claim}
use Rattle.fm_certify.proofs.queries.certify_inverting.Goals as goal

pub certificate-requires : goal.certificate-requires
certificate-requires c =
    let q = c.args.problem.now in
    let b = c.args.found.now.base in
    let f = meaning q.ring c.args.f.now.terms in
    let old = c.new-claims.result.items in
    let new = c.push_inverted.new.claims.items in
    let has = inverting_lines q c.args.ideal c.args.degree b c.args.found.now.inverted c.in_ok-scalar.scalar f c.rows.result old c.push_base_block.new.claims.items new c.requires.ring
    (c.rows.ensures ∙ ap (λ (g : GraphValue). g.matrix.rows) c.stable_kernel.ensures.same)
    (scalar_over q.ring c.args.f.now.ring c.args.f.now c.in_ok-scalar.scalar c.rows.result c.requires.polynomial c.in_ok-scalar.ensures.value)
    c.in_ok-push_base_block.ensures c.in_ok-push_inverted.ensures in
    claims_over q.ring.vars _ old new c.deref.result.now c.new-claims.ensures.items c.deref.ensures.value has (length c.as_slice.result.now)
    (names_counted string_bytes c.as_slice.result.now q.vars q.ring.vars c.as_slice.ensures c.requires.problem.bounded.named)

pub returns : goal.returns
returns c = λ fs.
    let q = c.args.problem.now in
    let b = c.args.found.now.base in
    let f = meaning q.ring c.args.f.now.terms in
    let old = c.new-claims.result.items in
    let new = c.push_inverted.new.claims.items in
    let names = map string_bytes c.as_slice.result.now in
    let cs = found_claims q (queries.Invert c.args.degree c.args.ideal c.args.f.now) (invert_value q.ring c.args.degree fs f c.args.found.now) in
    let has = inverting_lines q c.args.ideal c.args.degree b c.args.found.now.inverted c.in_ok-scalar.scalar f c.rows.result old c.push_base_block.new.claims.items new c.requires.ring
    (c.rows.ensures ∙ ap (λ (g : GraphValue). g.matrix.rows) c.stable_kernel.ensures.same)
    (scalar_over q.ring c.args.f.now.ring c.args.f.now c.in_ok-scalar.scalar c.rows.result c.requires.polynomial c.in_ok-scalar.ensures.value)
    c.in_ok-push_base_block.ensures c.in_ok-push_inverted.ensures in
    IfOk-weaker c.certificate.result (λ text. IsCertificate names (claim_values c.deref.result.now) text.items) (λ text. IsCertificate q.vars cs text.items)
    (λ text h. certificate_of q.ring.vars cs old new c.deref.result.now c.new-claims.ensures.items c.deref.ensures.value has names q.vars text.items c.as_slice.ensures h)
    c.certificate.ensures
