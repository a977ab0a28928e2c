use Rattle.std.proofs.Common.{◌≡◌, ◌+◌, suc, List, [], ◌∷◌, length, refl, sym, ap, ◌∙◌, subst, arith}
use Rattle.std.proofs.lemmas.List.{nil_from_length}
use Rattle.fm_algebra.specs.PolynomialMatrices.{matrix_scalar}
use Rattle.fm_certificates.specs.Certificates.{colon_claims}
use Rattle.fm_certify.specs.Claims.{HasClaims}
use Rattle.fm_certify.proofs.Appended.{none_appended}
use Rattle.fm_certify.proofs.JoinedColons.{colon_part, colon_then, colons_left, whole_over}
use Rattle.fm_mat.specs.Matrices.{MatrixValue, matrix_meaning}
use Rattle.fm_support.specs.Inverting.{AreColons, preimages_meaning}
use Rattle.fm_syz.specs.GeneratorValues.{GeneratorsValue, PreimageValue}
use Rattle.fm_syz.specs.GraphValues.{GraphValue}
use Rattle.fm_certify.proofs.colons.push_colons.Goals as goal

pub colons-init : goal.colons-init
colons-init c =
    let k = c.args.first.now in
    let r = k.matrix.ring in
    let same = c.matrix-before.ensures.same in
    record {
      over = c.requires.over;
      ring = ap (λ (m : MatrixValue). m.ring) same;
      rows = ap (λ (m : MatrixValue). m.rows) same;
      count = omega arith;
      claims = λ f value final h. subst (λ (m : MatrixValue). HasClaims r.vars c.args.claims.now.items (colon_claims r f 1 (matrix_meaning r m) (preimages_meaning r c.args.colons.now)) final) same h;
    }

pub push_preimage-requires : goal.push_preimage-requires
push_preimage-requires c =
    let k = c.args.first.now in
    let left = colons_left k c.colons.left.now c.in-Some.later.now c.in-Some.colon.now c.in-Some.ensures.cases.0 c.colons.invariant.over in
    whole_over k.matrix.ring c.args.scalar.now.ring c.colons.before.now.ring c.in-Some.colon.now.generators.graph.matrix.ring c.matrix.result c.beside-both.result
    c.requires.ring c.colons.invariant.ring left.0 c.matrix.ensures.over c.beside-both.ensures.over

pub returns-in_default : goal.returns-in_default
returns-in_default c = λ f value.
    let k = c.args.first.now in
    let r = k.matrix.ring in
    let none = nil_from_length c.colons.left.now c.in_default.ensures.cases in
    c.colons.invariant.claims f value c.colons.claims.items
    (subst (λ (xs : List PreimageValue). HasClaims r.vars c.colons.claims.items (colon_claims r f c.colons.number (matrix_meaning r c.colons.before.now) (preimages_meaning r xs)) c.colons.claims.items)
    (sym none) (none_appended r.vars c.colons.claims.items))

pub colons-preserved : goal.colons-preserved
colons-preserved c =
    let k = c.args.first.now in
    let r = k.matrix.ring in
    let x = c.in-Some.colon.now in
    let later = c.in-Some.later.now in
    let here = c.in-Some.ensures.cases.0 in
    let left = colons_left k c.colons.left.now later x here c.colons.invariant.over in
    let found : c.found-before.result.now ≡ x.generators.graph.matrix = c.found-before.ensures ∙ ap (λ (g : GeneratorsValue). g.graph.matrix) c.generators.ensures.same in
    record {
      over = left.2;
      ring = ap (λ (m : MatrixValue). m.ring) found ∙ left.0;
      rows = ap (λ (m : MatrixValue). m.rows) found ∙ left.1;
      count = (let n = c.colons.invariant.count in let m = ap (λ (xs : List PreimageValue). length xs) here in omega (arith, n, m));
      claims = λ f value final h.
          colon_then r f c.args.claims.now.items c.colons.claims.items c.push_preimage.new.claims.items final
          (colon_claims r f 1 (matrix_meaning r k.matrix) (preimages_meaning r c.args.colons.now)) c.colons.number c.colons.before.now c.colons.left.now x later c.beside-both.result here left.0
          (colon_part r f c.args.scalar.now c.colons.before.now c.matrix.result c.beside-both.result c.requires.ring c.colons.invariant.ring
          (value ∙ ap (λ n. matrix_scalar r.prime r.vars f n) (sym c.colons.invariant.rows)) c.matrix.ensures.value c.beside-both.ensures.value)
          (c.colons.invariant.claims f value final) c.in_ok-push_preimage.ensures
          (subst (λ (m : MatrixValue). HasClaims r.vars c.push_preimage.new.claims.items (colon_claims r f (suc c.colons.number) (matrix_meaning r m) (preimages_meaning r later)) final) found
          (subst (λ n. HasClaims r.vars c.push_preimage.new.claims.items (colon_claims r f n (matrix_meaning r c.found-before.result.now) (preimages_meaning r later)) final) (omega arith) h));
    }
