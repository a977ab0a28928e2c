use Rattle.std.proofs.Common.{◌∷◌, [], map, length, subst}
use Rattle.std.proofs.lemmas.Result.{IfOk-weaker}
use Rattle.std.specs.Prelude.{string_bytes}
use Rattle.fm_certificates.specs.Certificates.{found_claims, ext_claims}
use Rattle.fm_certify.proofs.ChainedCertificates.{certificate_of, claims_over, names_counted}
use Rattle.fm_answers.specs.Answers.{datum_line}
use Rattle.fm_certify.proofs.Appended.{claims_then}
use Rattle.fm_certify.specs.Claims.{HasClaims}
use Rattle.fm_ext.specs.Exts.{ext_meaning}
use Rattle.fm_plan.specs.Queries.{found_ext}
use Rattle.fm_poly.specs.declared.ring.Ring.{Ring}
use Rattle.fm_standard.specs.Writing.{plain_claim}
use Rattle.fm_problem.specs.declared.query.Query.TheVariants as queries
use Rattle.fm_writer.specs.Claims.{claim_values}
use Rattle.fm_writer.specs.Writers.{IsCertificate}
use Rattle.fm_certify.proofs.queries.certify_ext.Goals as goal

pub certificate-requires : goal.certificate-requires
certificate-requires c =
    let q = c.args.problem.now in
    let y = c.args.found.now in
    let one = c.push_datum.new.claims.items in
    let new = c.push_ext.new.claims.items in
    let has = claims_then q.ring.vars c.new-claims.result.items one new (plain_claim (datum_line q c.args.ideal c.args.degree) ∷ []) (ext_claims q.ring c.args.degree (ext_meaning q.ring y)) c.in_ok-push_datum.ensures
    (subst (λ (s : Ring). HasClaims s.vars one (ext_claims s c.args.degree (ext_meaning s y)) new) c.requires.ring c.in_ok-push_ext.ensures) in
    claims_over q.ring.vars _ c.new-claims.result.items new c.deref.result.now c.new-claims.ensures.items c.deref.ensures.value has (length c.as_slice.result.now)
    (names_counted string_bytes c.as_slice.result.now q.vars q.ring.vars c.as_slice.ensures c.requires.problem.bounded.named)

pub returns : goal.returns
returns c = λ fs.
    let q = c.args.problem.now in
    let names = map string_bytes c.as_slice.result.now in
    let cs = found_claims q (queries.ExtOf c.args.degree c.args.ideal) (found_ext c.args.degree fs (ext_meaning q.ring c.args.found.now)) in
    let y = c.args.found.now in
    let one = c.push_datum.new.claims.items in
    let new = c.push_ext.new.claims.items in
    let has = claims_then q.ring.vars c.new-claims.result.items one new (plain_claim (datum_line q c.args.ideal c.args.degree) ∷ []) (ext_claims q.ring c.args.degree (ext_meaning q.ring y)) c.in_ok-push_datum.ensures
    (subst (λ (s : Ring). HasClaims s.vars one (ext_claims s c.args.degree (ext_meaning s y)) new) c.requires.ring c.in_ok-push_ext.ensures) in
    IfOk-weaker c.certificate.result (λ text. IsCertificate names (claim_values c.deref.result.now) text.items) (λ text. IsCertificate q.vars cs text.items)
    (λ text h. certificate_of q.ring.vars cs c.new-claims.result.items new c.deref.result.now c.new-claims.ensures.items c.deref.ensures.value has names q.vars text.items c.as_slice.ensures h)
    c.certificate.ensures
