use Rattle.std.proofs.Common.{List, ◌∷◌, [], map, length, subst, sym}
use Rattle.std.proofs.lemmas.Result.{IfOk-weaker}
use Rattle.std.specs.Prelude.{string_bytes}
use Rattle.fm_certificates.specs.Certificates.{base_block, found_claims, killed_claims, vector_part}
use Rattle.fm_certify.proofs.Appended.{claims_then}
use Rattle.fm_certify.proofs.ChainedCertificates.{certificate_of, claims_over, names_counted}
use Rattle.fm_certify.specs.Claims.{HasClaims}
use Rattle.fm_chain.specs.Stages.{killed_value}
use Rattle.fm_mat.specs.Matrices.{column_meaning}
use Rattle.fm_poly.specs.Polys.{PolyValue}
use Rattle.fm_poly.specs.declared.ring.Ring.{Ring}
use Rattle.fm_problem.specs.declared.query.Query.TheVariants as queries
use Rattle.fm_queries.specs.Bases.{base_meaning}
use Rattle.fm_queries.specs.Founds.{class_value}
use Rattle.fm_standard.specs.Writing.{Claim, part_claim}
use Rattle.fm_vec.specs.Components.{AreOver}
use Rattle.fm_writer.specs.Claims.{claim_values}
use Rattle.fm_writer.specs.Kinds.{named_line}
use Rattle.fm_writer.specs.Writers.{IsCertificate}
use Rattle.fm_writer.specs.declared.kinds.Named.TheVariants as named
use Rattle.fm_certify.proofs.queries.certify_class.Goals as goal

pub certificate-requires : goal.certificate-requires
certificate-requires c =
    let q = c.args.problem.now in
    let b = c.args.found.now.base in
    let r = q.ring in
    let one = c.push_base_block.new.claims.items in
    let two = c.push_vector.new.claims.items in
    let new = c.push_killed.new.claims.items in
    let line : List PolyValue → Claim = λ fs. part_claim (vector_part r (column_meaning r fs)) (named_line named.Coordinates) in
    let w = c.args.found.now.coordinates.items in
    let vector = subst (λ (fs : List PolyValue). HasClaims r.vars one (line fs ∷ []) two) c.as_slice.ensures.value
    (c.in_ok-push_vector.ensures r (subst (λ (fs : List PolyValue). AreOver r fs) (sym c.as_slice.ensures.value) c.requires.coordinates)) in
    let killed = subst (λ (s : Ring). HasClaims s.vars two (killed_claims s (base_meaning s b) (killed_value s c.args.found.now.killed)) new) c.requires.ring c.in_ok-push_killed.ensures in
    let has = claims_then r.vars c.new-claims.result.items one new (base_block q c.args.ideal c.args.degree (base_meaning r b))
    (line w ∷ killed_claims r (base_meaning r b) (killed_value r c.args.found.now.killed)) c.in_ok-push_base_block.ensures
    (claims_then r.vars one two new (line w ∷ []) (killed_claims r (base_meaning r b) (killed_value r c.args.found.now.killed)) vector killed) in
    claims_over q.ring.vars _ c.new-claims.result.items new c.deref.result.now c.new-claims.ensures.items c.deref.ensures.value has (length c.as_slice-2.result.now)
    (names_counted string_bytes c.as_slice-2.result.now q.vars q.ring.vars c.as_slice-2.ensures c.requires.problem.bounded.named)

pub returns : goal.returns
returns c = λ fs e z entries.
    let q = c.args.problem.now in
    let names = map string_bytes c.as_slice-2.result.now in
    let cs = found_claims q (queries.Class c.args.degree c.args.ideal e entries) (class_value q.ring c.args.degree fs e z c.args.found.now) in
    let b = c.args.found.now.base in
    let r = q.ring in
    let one = c.push_base_block.new.claims.items in
    let two = c.push_vector.new.claims.items in
    let new = c.push_killed.new.claims.items in
    let line : List PolyValue → Claim = λ fs. part_claim (vector_part r (column_meaning r fs)) (named_line named.Coordinates) in
    let w = c.args.found.now.coordinates.items in
    let vector = subst (λ (fs : List PolyValue). HasClaims r.vars one (line fs ∷ []) two) c.as_slice.ensures.value
    (c.in_ok-push_vector.ensures r (subst (λ (fs : List PolyValue). AreOver r fs) (sym c.as_slice.ensures.value) c.requires.coordinates)) in
    let killed = subst (λ (s : Ring). HasClaims s.vars two (killed_claims s (base_meaning s b) (killed_value s c.args.found.now.killed)) new) c.requires.ring c.in_ok-push_killed.ensures in
    let has = claims_then r.vars c.new-claims.result.items one new (base_block q c.args.ideal c.args.degree (base_meaning r b))
    (line w ∷ killed_claims r (base_meaning r b) (killed_value r c.args.found.now.killed)) c.in_ok-push_base_block.ensures
    (claims_then r.vars one two new (line w ∷ []) (killed_claims r (base_meaning r b) (killed_value r c.args.found.now.killed)) vector killed) in
    IfOk-weaker c.certificate.result (λ text. IsCertificate names (claim_values c.deref.result.now) text.items) (λ text. IsCertificate q.vars cs text.items)
    (λ text h. certificate_of q.ring.vars cs c.new-claims.result.items new c.deref.result.now c.new-claims.ensures.items c.deref.ensures.value has names q.vars text.items c.as_slice-2.ensures h)
    c.certificate.ensures
