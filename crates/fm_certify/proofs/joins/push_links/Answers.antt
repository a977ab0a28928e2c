use Rattle.std.proofs.Common.{◌≡◌, ◌+◌, suc, List, [], ◌∷◌, length, refl, sym, ap, ◌∙◌, subst, arith}
use Rattle.std.proofs.lemmas.List.{nil_from_length}
use Rattle.fm_certificates.specs.Certificates.{link_claims, matrix_part}
use Rattle.fm_certify.specs.Claims.{HasClaims}
use Rattle.fm_certify.proofs.Appended.{none_appended}
use Rattle.fm_certify.proofs.JoinedColons.{colons_left, link_then, whole_over}
use Rattle.fm_certify.proofs.JoinedShort.{join_part, twist_over, twist_join_over}
use Rattle.fm_mat.specs.Matrices.{MatrixValue, matrix_meaning}
use Rattle.fm_poly.specs.declared.ring.Ring.{Ring}
use Rattle.fm_support.specs.Inverting.{AreColons, preimages_meaning}
use Rattle.fm_syz.specs.GeneratorValues.{GeneratorsValue, PreimageValue}
use Rattle.fm_writer.specs.Claims.{IsOperandOver}
use Rattle.fm_certify.proofs.joins.push_links.Goals as goal

pub links-init : goal.links-init
links-init c =
    let u = c.args.u.now in
    let r = u.ring in
    let n = c.args.n.now in
    record {
      over = c.requires.over;
      twisted = subst (λ (s : Ring). IsOperandOver s.vars c.twist_of_join-twisted.result) c.requires.ring_n c.twist_of_join-twisted.ensures.over;
      count = omega arith;
      claims = (join_part r n c.args.phi.now, twist_join_over r n.ring n c.args.phi.now c.twist_of_join-twisted.result c.requires.ring_n c.twist_of_join-twisted.ensures.value, λ final h. h);
    }

pub push_preimage-requires : goal.push_preimage-requires
push_preimage-requires c =
    let k = c.args.first.now in
    let r = c.args.u.now.ring in
    let x = c.in-Some.link.now in
    let left = colons_left k c.links.left.now c.in-Some.later.now x c.in-Some.ensures.cases.0 c.links.invariant.over in
    whole_over r r r x.generators.graph.matrix.ring c.links.twisted c.beside.result refl refl (left.0 ∙ c.requires.ring_first) c.links.invariant.twisted c.beside.ensures.over

pub returns-in_default : goal.returns-in_default
returns-in_default c =
    let r = c.args.u.now.ring in
    let U = matrix_part r (matrix_meaning r c.args.u.now) in
    let none = nil_from_length c.links.left.now c.in_default.ensures.cases in
    let so = c.links.invariant.claims in
    so.2 c.links.claims.items
    (subst (λ (xs : List PreimageValue). HasClaims r.vars c.links.claims.items (link_claims r U c.links.number so.0 (preimages_meaning r xs)) c.links.claims.items)
    (sym none) (none_appended r.vars c.links.claims.items))

pub links-preserved : goal.links-preserved
links-preserved c =
    let k = c.args.first.now in
    let u = c.args.u.now in
    let r = u.ring in
    let U = matrix_part r (matrix_meaning r u) in
    let x = c.in-Some.link.now in
    let later = c.in-Some.later.now in
    let here = c.in-Some.ensures.cases.0 in
    let left = colons_left k c.links.left.now later x here c.links.invariant.over in
    let found : c.found.result.now ≡ x.generators.graph.matrix = c.found.ensures ∙ ap (λ (g : GeneratorsValue). g.graph.matrix) c.generators.ensures.same in
    let ring : x.generators.graph.matrix.ring ≡ r = left.0 ∙ c.requires.ring_first in
    let found_ring : c.found.result.now.ring ≡ r = ap (λ (m : MatrixValue). m.ring) found ∙ ring in
    let so = c.links.invariant.claims in
    record {
      over = left.2;
      twisted = subst (λ (s : Ring). IsOperandOver s.vars c.twist-twisted.result) found_ring c.twist-twisted.ensures.over;
      count = (let n = c.links.invariant.count in let m = ap (λ (xs : List PreimageValue). length xs) here in omega (arith, n, m));
      claims = (
        matrix_part r (matrix_meaning r x.generators.graph.matrix),
        twist_over r c.found.result.now x.generators.graph.matrix c.twist-twisted.result found found_ring c.twist-twisted.ensures.value,
        λ final h.
            link_then r u c.args.claims.now.items c.links.claims.items c.push_preimage.new.claims.items final
            (link_claims r U 1 (join_part r c.args.n.now c.args.phi.now) (preimages_meaning r c.args.links.now)) c.links.number so.0 c.links.left.now x later c.links.twisted c.beside.result here refl ring
            so.1 c.beside.ensures.value (so.2 final) c.in_ok-push_preimage.ensures
            (subst (λ j. HasClaims r.vars c.push_preimage.new.claims.items (link_claims r U j (matrix_part r (matrix_meaning r x.generators.graph.matrix)) (preimages_meaning r later)) final) (omega arith) h),
      );
    }
