use Rattle.std.proofs.Common.{◌≡◌, List, map, length, refl, sym, ap, ◌∙◌, subst}
use Rattle.std.proofs.lemmas.Result.{IfOk-weaker}
use Rattle.std.specs.Prelude.{string_bytes}
use Rattle.fm_certificates.specs.Certificates.{found_claims}
use Rattle.fm_certify.proofs.ChainedCertificates.{certificate_of, claims_over, names_counted}
use Rattle.fm_certify.proofs.JoinedQueries.{map_lines}
use Rattle.fm_poly.specs.declared.ring.Ring.{Ring}
use Rattle.fm_problem.specs.declared.query.Query.TheVariants as queries
use Rattle.fm_queries.specs.Maps.{IsMapOver, map_value}
use Rattle.fm_writer.specs.Claims.{AreClaimsOver, claim_values}
use Rattle.fm_writer.specs.Writers.{IsCertificate}
use Rattle.fm_writer.specs.declared.claim.Claim.{Claim}
use Rattle.fm_certify.proofs.queries.certify_map.Goals as goal

pub push_between-requires : goal.push_between-requires
push_between-requires c = subst (λ (s : Ring). IsMapOver s c.args.found.now) (sym c.requires.over.source) c.requires.over

pub certificate-requires : goal.certificate-requires
certificate-requires c =
    let q = c.args.problem.now in
    let old = c.new-claims.result.items in
    let new = c.push_between.new.claims.items in
    let has = map_lines q c.args.source c.args.target c.args.degree c.args.found.now old c.push_base_block.new.claims.items c.push_base_block-2.new.claims.items new c.requires.over.source
    c.in_ok-push_base_block.ensures c.in_ok-push_base_block-2.ensures c.in_ok-push_between.ensures in
    claims_over q.ring.vars _ old new c.deref.result.now c.new-claims.ensures.items c.deref.ensures.value has (length c.as_slice.result.now)
    (names_counted string_bytes c.as_slice.result.now q.vars q.ring.vars c.as_slice.ensures c.requires.problem.bounded.named)

pub returns : goal.returns
returns c = λ fs gs.
    let q = c.args.problem.now in
    let old = c.new-claims.result.items in
    let new = c.push_between.new.claims.items in
    let names = map string_bytes c.as_slice.result.now in
    let cs = found_claims q (queries.Map c.args.degree c.args.source c.args.target) (map_value q.ring c.args.degree fs gs c.args.found.now) in
    let has = map_lines q c.args.source c.args.target c.args.degree c.args.found.now old c.push_base_block.new.claims.items c.push_base_block-2.new.claims.items new c.requires.over.source
    c.in_ok-push_base_block.ensures c.in_ok-push_base_block-2.ensures c.in_ok-push_between.ensures in
    IfOk-weaker c.certificate.result (λ text. IsCertificate names (claim_values c.deref.result.now) text.items) (λ text. IsCertificate q.vars cs text.items)
    (λ text h. certificate_of q.ring.vars cs old new c.deref.result.now c.new-claims.ensures.items c.deref.ensures.value has names q.vars text.items c.as_slice.ensures h)
    c.certificate.ensures
