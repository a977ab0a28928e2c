use Rattle.std.proofs.Common.{map, length, subst}
use Rattle.std.proofs.lemmas.Result.{IfOk-weaker}
use Rattle.std.specs.Prelude.{string_bytes}
use Rattle.fm_certificates.specs.Certificates.{found_claims}
use Rattle.fm_certify.proofs.ChainedCertificates.{certificate_of, claims_over, names_counted}
use Rattle.fm_plan.specs.Queries.{found_root}
use Rattle.fm_queries.specs.Bases.{base_meaning}
use Rattle.fm_problem.specs.declared.query.Query.TheVariants as queries
use Rattle.fm_writer.specs.Claims.{claim_values}
use Rattle.fm_writer.specs.Writers.{IsCertificate}
use Rattle.fm_certify.proofs.queries.certify_root.Goals as goal

pub certificate-requires : goal.certificate-requires
certificate-requires c =
    let q = c.args.problem.now in
    let has = c.in_ok-push_base_block.ensures in
    claims_over q.ring.vars _ c.new-claims.result.items c.push_base_block.new.claims.items c.deref.result.now c.new-claims.ensures.items c.deref.ensures.value has (length c.as_slice.result.now)
    (names_counted string_bytes c.as_slice.result.now q.vars q.ring.vars c.as_slice.ensures c.requires.problem.bounded.named)

pub returns : goal.returns
returns c = λ fs.
    let q = c.args.problem.now in
    let names = map string_bytes c.as_slice.result.now in
    let cs = found_claims q (queries.Root c.args.degree c.args.ideal) (found_root c.args.degree fs (base_meaning q.ring c.args.found.now)) in
    let has = c.in_ok-push_base_block.ensures in
    IfOk-weaker c.certificate.result (λ text. IsCertificate names (claim_values c.deref.result.now) text.items) (λ text. IsCertificate q.vars cs text.items)
    (λ text h. certificate_of q.ring.vars cs c.new-claims.result.items c.push_base_block.new.claims.items c.deref.result.now c.new-claims.ensures.items c.deref.ensures.value has names q.vars text.items c.as_slice.ensures h)
    c.certificate.ensures
