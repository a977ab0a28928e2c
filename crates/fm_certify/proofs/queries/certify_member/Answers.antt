use Rattle.std.proofs.Common.{◌∷◌, [], map, length, subst, ap, refl}
use Rattle.std.proofs.lemmas.Result.{IfOk-weaker}
use Rattle.std.specs.Prelude.{string_bytes}
use Rattle.fm_certificates.specs.Certificates.{found_claims, inside_claims, matrix_part}
use Rattle.fm_certify.proofs.Appended.{claims_then}
use Rattle.fm_certify.proofs.ChainedCertificates.{certificate_of, claims_over, inside_over, names_counted}
use Rattle.fm_certify.specs.Claims.{HasClaims}
use Rattle.fm_mat.specs.Matrices.{MatrixValue, matrix_meaning}
use Rattle.fm_poly.specs.declared.ring.Ring.{Ring}
use Rattle.fm_problem.specs.declared.query.Query.TheVariants as queries
use Rattle.fm_resolve.specs.Memberships.{membership_value}
use Rattle.fm_standard.specs.Writing.{part_claim}
use Rattle.fm_syz.specs.GraphValues.{graph_meaning}
use Rattle.fm_syz.specs.Insides.{inside_value}
use Rattle.fm_writer.specs.Claims.{claim_values}
use Rattle.fm_writer.specs.Kinds.{excluding_line, named_line}
use Rattle.fm_writer.specs.Writers.{IsCertificate}
use Rattle.fm_writer.specs.declared.kinds.Excluding.TheVariants as excluding
use Rattle.fm_writer.specs.declared.kinds.Named.TheVariants as named
use Rattle.fm_certify.proofs.queries.certify_member.Goals as goal

pub certificate-requires : goal.certificate-requires
certificate-requires c =
    let q = c.args.problem.now in
    let g = c.args.found.now.first in
    let one = c.push_matrix.new.claims.items in
    let new = c.push_inside.new.claims.items in
    let row = subst (λ (s : Ring). HasClaims s.vars c.new-claims.result.items (part_claim (matrix_part s (matrix_meaning s g.matrix)) (named_line (named.D 1)) ∷ []) one) c.requires.ring
    (subst (λ (m : MatrixValue). HasClaims m.ring.vars c.new-claims.result.items (part_claim (matrix_part m.ring (matrix_meaning m.ring m)) (named_line (named.D 1)) ∷ []) one) c.matrix.ensures.same
    c.in_ok-push_matrix.ensures) in
    let inside = inside_over q.ring g g c.args.found.now.inside (named_line named.Cofactors) (excluding_line excluding.Foreign) one new refl c.requires.ring c.in_ok-push_inside.ensures in
    let has = claims_then q.ring.vars c.new-claims.result.items one new (part_claim (matrix_part q.ring (matrix_meaning q.ring g.matrix)) (named_line (named.D 1)) ∷ [])
    (inside_claims q.ring (graph_meaning q.ring g) (inside_value q.ring c.args.found.now.inside) (named_line named.Cofactors) (excluding_line excluding.Foreign)) row inside in
    claims_over q.ring.vars _ c.new-claims.result.items new c.deref.result.now c.new-claims.ensures.items c.deref.ensures.value has (length c.as_slice.result.now)
    (names_counted string_bytes c.as_slice.result.now q.vars q.ring.vars c.as_slice.ensures c.requires.problem.bounded.named)

pub returns : goal.returns
returns c = λ fs f h.
    let q = c.args.problem.now in
    let g = c.args.found.now.first in
    let names = map string_bytes c.as_slice.result.now in
    let cs = found_claims q (queries.Member c.args.ideal h) (membership_value q.ring fs f c.args.found.now) in
    let one = c.push_matrix.new.claims.items in
    let new = c.push_inside.new.claims.items in
    let row = subst (λ (s : Ring). HasClaims s.vars c.new-claims.result.items (part_claim (matrix_part s (matrix_meaning s g.matrix)) (named_line (named.D 1)) ∷ []) one) c.requires.ring
    (subst (λ (m : MatrixValue). HasClaims m.ring.vars c.new-claims.result.items (part_claim (matrix_part m.ring (matrix_meaning m.ring m)) (named_line (named.D 1)) ∷ []) one) c.matrix.ensures.same
    c.in_ok-push_matrix.ensures) in
    let inside = inside_over q.ring g g c.args.found.now.inside (named_line named.Cofactors) (excluding_line excluding.Foreign) one new refl c.requires.ring c.in_ok-push_inside.ensures in
    let has = claims_then q.ring.vars c.new-claims.result.items one new (part_claim (matrix_part q.ring (matrix_meaning q.ring g.matrix)) (named_line (named.D 1)) ∷ [])
    (inside_claims q.ring (graph_meaning q.ring g) (inside_value q.ring c.args.found.now.inside) (named_line named.Cofactors) (excluding_line excluding.Foreign)) row inside in
    IfOk-weaker c.certificate.result (λ text. IsCertificate names (claim_values c.deref.result.now) text.items) (λ text. IsCertificate q.vars cs text.items)
    (λ text k. certificate_of q.ring.vars cs c.new-claims.result.items new c.deref.result.now c.new-claims.ensures.items c.deref.ensures.value has names q.vars text.items c.as_slice.ensures k)
    c.certificate.ensures
