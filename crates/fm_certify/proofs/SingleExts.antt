-- The lines of Ext, one after another.
use Rattle.std.proofs.Common.{◌≡◌, ℕ, zero, suc, ◌-◌, ◌<◌, List, [], ◌∷◌, ◌++◌, map, refl, sym, ap, subst, ◌∙◌, Result, Ok, Err, Some, slice_get, arith}
use Rattle.std.specs.Prelude.{OnOk}
use Rattle.fm_algebra.specs.Matrix.{zero_matrix, transpose, table, listed}
use Rattle.fm_algebra.specs.PolynomialMatrices.{matrix_transpose, matrix_zero}
use Rattle.fm_cert.specs.Kinds as kinds
use Rattle.fm_cert.specs.Lines.{Line, Row}
use Rattle.fm_certificates.specs.Certificates.{cocycles_line, codifferential_part, ext_claims, lift_claims, matrix_part, preimage_claim, relations_line, resolution_claims}
use Rattle.fm_certify.specs.Claims.{HasClaims}
use Rattle.fm_certify.proofs.Appended.{claims_then}
use Rattle.fm_ext.specs.Exts.{ExtValue, cocycles_matrix, ext_meaning, ring_of}
use Rattle.fm_ext.proofs.Differentials.{differential_of}
use Rattle.fm_graphs.specs.Graphs.{MatrixOf}
use Rattle.fm_lift.specs.Lifts.{matrices_meaning}
use Rattle.fm_limit.specs.ResolvedIdeal.{matrix_at}
use Rattle.fm_mat.specs.Matrices.{MatrixValue, matrix_meaning}
use Rattle.fm_plan.specs.Results as plans
use Rattle.fm_plan.specs.Results.{differentials_of}
use Rattle.fm_poly.specs.declared.ring.Ring.{Ring}
use Rattle.fm_report.specs.Parts.{Part, beside, flip}
use Rattle.fm_report.specs.Parts as parts
use Rattle.fm_resolve.specs.Resolutions.{ResolutionValue, graphs_of, resolution_value}
use Rattle.fm_standard.specs.Writing as writing
use Rattle.fm_standard.specs.Writing.{part_claim}
use Rattle.fm_syz.specs.GeneratorValues.{PreimageValue, preimage_meaning}
use Rattle.fm_syz.specs.GraphValues.{GraphValue}
use Rattle.fm_writer.specs.declared.claim.Claim.{Claim}

-- ---- the parts
pub none_part : (r : Ring) (x : plans.Resolution r) (i : ℕ) → i ≡ 0 → parts.given 1 [] ≡ codifferential_part r x i
unfolding matrix_transpose matrix_zero zero_matrix transpose table listed
none_part r x i e = subst (λ k. parts.given 1 [] ≡ codifferential_part r x k) (sym e) refl

-- the flip of d_(i+1)
pub flip_part : (x held : ResolutionValue) (i k : ℕ) (d : MatrixValue) (a : Part) → held ≡ x → k ≡ i
    → slice_get (map (λ (g : GraphValue). g.matrix) (graphs_of held)) k ≡ Some d → d.ring ≡ held.first.matrix.ring
    → a ≡ flip (matrix_part d.ring (matrix_meaning d.ring d))
    → let r = x.first.matrix.ring in a ≡ flip (matrix_part r (matrix_at r.prime r.vars (differentials_of r (resolution_value r x)) i))
flip_part x held i k d a e n at ring is =
    let r = x.first.matrix.ring in
    let here : slice_get (map (λ (g : GraphValue). g.matrix) (graphs_of x)) i ≡ Some d =
    subst (λ j. slice_get (map (λ (g : GraphValue). g.matrix) (graphs_of x)) j ≡ Some d) n
    (subst (λ (y : ResolutionValue). slice_get (map (λ (g : GraphValue). g.matrix) (graphs_of y)) k ≡ Some d) e at) in
    is ∙ ap (λ (q : Ring). flip (matrix_part q (matrix_meaning q d))) (ring ∙ ap (λ (y : ResolutionValue). y.first.matrix.ring) e)
    ∙ ap (λ (A : MatrixOf r). flip (matrix_part r A)) (sym (differential_of r x i d here))

pub some_part : (x : ResolutionValue) (i k : ℕ) (d : MatrixValue) (a : Part) → 0 < i → k ≡ i - 1
    → slice_get (map (λ (g : GraphValue). g.matrix) (graphs_of x)) k ≡ Some d → d.ring ≡ x.first.matrix.ring
    → a ≡ flip (matrix_part d.ring (matrix_meaning d.ring d))
    → let r = x.first.matrix.ring in a ≡ codifferential_part r (resolution_value r x) i
some_part x zero k d a less n at ring is = absurd (omega (arith, less))
some_part x (suc i) k d a less n at ring is = flip_part x x i k d a refl (omega (arith, n)) at ring is

pub both_part : (x held : ResolutionValue) (i : ℕ) (z m : MatrixValue) (a o : Part) → held ≡ x → m ≡ z → z.ring ≡ x.first.matrix.ring
    → a ≡ beside (matrix_part m.ring (matrix_meaning m.ring m)) o
    → (let s = held.first.matrix.ring in o ≡ codifferential_part s (resolution_value s held) i)
    → let r = x.first.matrix.ring in a ≡ beside (matrix_part r (matrix_meaning r z)) (codifferential_part r (resolution_value r x) i)
both_part x held i z m a o e f ring is co =
    let r = x.first.matrix.ring in
    is ∙ ap (λ (q : MatrixValue). beside (matrix_part q.ring (matrix_meaning q.ring q)) o) f
    ∙ ap (λ (q : Ring). beside (matrix_part q (matrix_meaning q z)) o) ring
    ∙ ap (λ (b : Part). beside (matrix_part r (matrix_meaning r z)) b)
    (co ∙ ap (λ (y : ResolutionValue). let s = y.first.matrix.ring in codifferential_part s (resolution_value s y) i) e)

-- ---- lines of what is held
pub preimage_moved : (r : Ring) (x held : PreimageValue) (G H : Part) (line : (p n x w : ℕ) → Line) (a b : List Claim) → held ≡ x
    → x.generators.graph.matrix.ring ≡ r → G ≡ H
    → (let s = held.generators.graph.matrix.ring in HasClaims s.vars a (preimage_claim s G (preimage_meaning s held) line ∷ []) b)
    → HasClaims r.vars a (preimage_claim r H (preimage_meaning r x) line ∷ []) b
preimage_moved r x held G H line a b e ring f h =
    subst (λ (J : Part). HasClaims r.vars a (preimage_claim r J (preimage_meaning r x) line ∷ []) b) f
    (subst (λ (s : Ring). HasClaims s.vars a (preimage_claim s G (preimage_meaning s x) line ∷ []) b) ring
    (subst (λ (y : PreimageValue). let s = y.generators.graph.matrix.ring in HasClaims s.vars a (preimage_claim s G (preimage_meaning s y) line ∷ []) b) e h))

pub matrix_moved : {E : Type 0} (r : Ring) (m held : MatrixValue) (line : ℕ → Line) (a b : List Claim) (result : Result (Unit {0}) E) → held ≡ m → m.ring ≡ r
    → OnOk result (HasClaims held.ring.vars a (part_claim (matrix_part held.ring (matrix_meaning held.ring held)) line ∷ []) b)
    → OnOk result (HasClaims r.vars a (part_claim (matrix_part r (matrix_meaning r m)) line ∷ []) b)
matrix_moved r m held line a b result e ring h =
    subst (λ (s : Ring). OnOk result (HasClaims s.vars a (part_claim (matrix_part s (matrix_meaning s m)) line ∷ []) b)) ring
    (subst (λ (q : MatrixValue). OnOk result (HasClaims q.ring.vars a (part_claim (matrix_part q.ring (matrix_meaning q.ring q)) line ∷ []) b)) e h)

abbrev cocycles_claim : (r : Ring) → ℕ → ExtValue → writing.Claim
cocycles_claim r i y =
    preimage_claim r (flip (matrix_part r (matrix_at r.prime r.vars (differentials_of r (resolution_value r y.resolution)) i))) (preimage_meaning r y.cocycles) cocycles_line

abbrev relations_claim : (r : Ring) → ℕ → ExtValue → writing.Claim
relations_claim r i y =
    preimage_claim r (beside (matrix_part r (matrix_meaning r (cocycles_matrix y))) (codifferential_part r (resolution_value r y.resolution) i))
    (preimage_meaning r y.relations) relations_line

abbrev morphism_claim : (r : Ring) → ExtValue → writing.Claim
morphism_claim r y = part_claim (matrix_part r (matrix_meaning r y.u)) (λ p. Row kinds.Morphism (p, tt))

pub ext_lines : {E : Type 0} (y : ExtValue) (i : ℕ) (v0 v1 v2 v3 v4 v5 : List Claim) (result : Result (Unit {0}) E) → let r = ring_of y in
    HasClaims r.vars v0 (resolution_claims r (resolution_value r y.resolution)) v1
    → HasClaims r.vars v1 (lift_claims r 0 (matrices_meaning r y.lift)) v2
    → HasClaims r.vars v2 (cocycles_claim r i y ∷ []) v3
    → HasClaims r.vars v3 (relations_claim r i y ∷ []) v4
    → OnOk result (HasClaims r.vars v4 (morphism_claim r y ∷ []) v5)
    → OnOk result (HasClaims r.vars v0 (ext_claims r i (ext_meaning r y)) v5)
ext_lines y i v0 v1 v2 v3 v4 v5 (Err e) a b c d f = f
ext_lines y i v0 v1 v2 v3 v4 v5 (Ok t) a b c d f =
    let r = ring_of y in
    let C = cocycles_claim r i y in
    let D = relations_claim r i y in
    let F = morphism_claim r y in
    claims_then r.vars v0 v1 v5 (resolution_claims r (resolution_value r y.resolution)) (lift_claims r 0 (matrices_meaning r y.lift) ++ C ∷ D ∷ F ∷ []) a
    (claims_then r.vars v1 v2 v5 (lift_claims r 0 (matrices_meaning r y.lift)) (C ∷ D ∷ F ∷ []) b
    (claims_then r.vars v2 v3 v5 (C ∷ []) (D ∷ F ∷ []) c (claims_then r.vars v3 v4 v5 (D ∷ []) (F ∷ []) d f)))
