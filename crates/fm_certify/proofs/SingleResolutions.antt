-- The lines of a resolution, one after another.
use Rattle.std.proofs.Common.{◌≡◌, List, [], ◌∷◌, map, refl, sym, ap, subst, ◌∙◌, Result, Ok, Err}
use Rattle.std.specs.Prelude.{OnOk}
use Rattle.fm_certificates.specs.Certificates.{d_line, differential_claims, exact_claims, matrix_part, resolution_claims}
use Rattle.fm_certify.specs.Claims.{HasClaims}
use Rattle.fm_certify.proofs.Appended.{claims_are, claims_then}
use Rattle.fm_certify.proofs.SingleLoops.{matrices_of}
use Rattle.fm_graphs.specs.Graphs.{Graph}
use Rattle.fm_graphs.specs.Trims.{Preimage}
use Rattle.fm_lift.specs.Lifts.{AreMatricesOver}
use Rattle.fm_mat.specs.Matrices.{MatrixValue, matrix_meaning}
use Rattle.fm_plan.specs.Results.{differentials_of}
use Rattle.fm_poly.specs.declared.ring.Ring.{Ring}
use Rattle.fm_resolve.specs.Resolutions.{AreExactFrom, IsResolution, ResolutionValue, generators_from, resolution_value}
use Rattle.fm_standard.specs.Writing as writing
use Rattle.fm_standard.specs.Writing.{part_claim}
use Rattle.fm_syz.specs.GeneratorValues.{GeneratorsValue}
use Rattle.fm_syz.specs.GraphValues.{GraphValue}
use Rattle.fm_writer.specs.declared.claim.Claim.{Claim}

module _ (r : Ring) where
  matrices_found : (g : GraphValue) (xs : List GeneratorsValue)
      → map (λ (h : Graph r). h.matrix) (map (λ (y : Preimage r). y.graph) (generators_from r g xs)) ≡ map (matrix_meaning r) (matrices_of xs)
  matrices_found g [] = refl
  matrices_found g (x ∷ xs) = ap (λ ms. matrix_meaning r x.graph.matrix ∷ ms) (matrices_found x.graph xs)

  differentials_found : (x : ResolutionValue) → differentials_of r (resolution_value r x) ≡ matrix_meaning r x.first.matrix ∷ map (matrix_meaning r) (matrices_of x.next)
  differentials_found x = ap (λ ms. matrix_meaning r x.first.matrix ∷ ms) (matrices_found x.first x.next)

  over_found : (g : GraphValue) (xs : List GeneratorsValue) → g.matrix.ring ≡ r → AreExactFrom g xs → AreMatricesOver r (matrices_of xs)
  over_found g [] e h = tt
  over_found g (x ∷ xs) e h = let one = h.0.generators.graph_ring ∙ e in (one, over_found x.graph xs one h.1)

abbrev first_line : (r : Ring) → MatrixValue → writing.Claim
first_line r m = part_claim (matrix_part r (matrix_meaning r m)) (d_line 1)

found_lines : {E : Type 0} (x : ResolutionValue) (v0 v1 v2 v3 : List Claim) (result : Result (Unit {0}) E) → IsResolution x → let r = x.first.matrix.ring in
    HasClaims r.vars v0 (first_line r x.first.matrix ∷ []) v1
    → ((r : Ring) → AreMatricesOver r (matrices_of x.next) → HasClaims r.vars v1 (differential_claims r 2 (map (matrix_meaning r) (matrices_of x.next))) v2)
    → (AreExactFrom x.first x.next → OnOk result (HasClaims r.vars v2 (exact_claims r 1 (matrix_meaning r x.first.matrix) (generators_from r x.first x.next)) v3))
    → OnOk result (HasClaims r.vars v0 (resolution_claims r (resolution_value r x)) v3)
found_lines x v0 v1 v2 v3 (Err e) is one ds es = es is.exact
found_lines x v0 v1 v2 v3 (Ok y) is one ds es =
    let r = x.first.matrix.ring in
    let rest = differential_claims r 2 (map (matrix_meaning r) (matrices_of x.next)) in
    let both : HasClaims r.vars v0 (first_line r x.first.matrix ∷ rest) v2 =
    claims_then r.vars v0 v1 v2 (first_line r x.first.matrix ∷ []) rest one (ds r (over_found r x.first x.next refl is.exact)) in
    claims_then r.vars v0 v2 v3 _ _ (claims_are r.vars v0 v2 _ _ (sym (ap (differential_claims r 1) (differentials_found r x))) both) (es is.exact)

pub resolution_lines : {E : Type 0} (x : ResolutionValue) (v0 v1 v2 v3 : List Claim) (result : Result (Unit {0}) E) (g : GraphValue) (m : MatrixValue)
    (next : List GeneratorsValue) → IsResolution x → g ≡ x.first → next ≡ x.next → m ≡ g.matrix
    → HasClaims m.ring.vars v0 (first_line m.ring m ∷ []) v1
    → ((r : Ring) → AreMatricesOver r (matrices_of next) → HasClaims r.vars v1 (differential_claims r 2 (map (matrix_meaning r) (matrices_of next))) v2)
    → (AreExactFrom g next → let r = g.matrix.ring in OnOk result (HasClaims r.vars v2 (exact_claims r 1 (matrix_meaning r g.matrix) (generators_from r g next)) v3))
    → let r = x.first.matrix.ring in OnOk result (HasClaims r.vars v0 (resolution_claims r (resolution_value r x)) v3)
resolution_lines x v0 v1 v2 v3 result g m next is a b e one ds es =
    found_lines x v0 v1 v2 v3 result is
    (subst (λ (q : MatrixValue). HasClaims q.ring.vars v0 (first_line q.ring q ∷ []) v1) (e ∙ ap (λ (h : GraphValue). h.matrix) a) one)
    (subst (λ (xs : List GeneratorsValue). (r : Ring) → AreMatricesOver r (matrices_of xs)
    → HasClaims r.vars v1 (differential_claims r 2 (map (matrix_meaning r) (matrices_of xs))) v2) b ds)
    (subst (λ (h : GraphValue). AreExactFrom h x.next → let r = h.matrix.ring in
    OnOk result (HasClaims r.vars v2 (exact_claims r 1 (matrix_meaning r h.matrix) (generators_from r h x.next)) v3)) a
    (subst (λ (xs : List GeneratorsValue). AreExactFrom g xs → let r = g.matrix.ring in
    OnOk result (HasClaims r.vars v2 (exact_claims r 1 (matrix_meaning r g.matrix) (generators_from r g xs)) v3)) b es))
