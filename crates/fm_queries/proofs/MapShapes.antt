-- The shapes of the matrices of an induced map.
use Rattle.std.proofs.Common.{ℕ, suc, ◌≡◌, ◌<◌, List, [], ◌∷◌, length, refl, sym, ap, ◌∙◌, subst, arith}
use Rattle.std.proofs.lemmas.List.{length-map}
use Rattle.fm_algebra.specs.PolynomialMatrices.{HasShape}
use Rattle.fm_limit.specs.ResolvedIdeal.{IsLiftOfIdentityOf, IsResolutionOf, matrix_at, rank}
use Rattle.fm_limit.proofs.MatrixWords.{shape_columns, shape_rows}
use Rattle.fm_mat.specs.Matrices.{MatrixValue, column_meaning, matrix_meaning}
use Rattle.fm_mat.proofs.Steps.{map_length}
use Rattle.fm_plan.specs.Results.{Ideal}
use Rattle.fm_plan.proofs.Bases.{Based}
use Rattle.fm_poly.specs.declared.ring.Ring.{Ring}
use Rattle.fm_syz.specs.GraphValues.{GraphValue}
use Rattle.fm_syz.specs.GeneratorValues.{GeneratorsValue}
use Rattle.fm_lift.specs.Lifts.{matrices_meaning}
use Rattle.fm_resolve.specs.Resolutions.{generators_from}
use Rattle.fm_ext.specs.Exts.{ExtValue, IsExt, cocycles_matrix, differentials, ring_of}
use Rattle.fm_queries.specs.Bases.{BaseValue, base_meaning}

generators_long : (r : Ring) (g : GraphValue) (xs : List GeneratorsValue) → length (generators_from r g xs) ≡ length xs
generators_long r g [] = refl
generators_long r g (x ∷ xs) = ap suc (generators_long r x.graph xs)

module _ (r : Ring) (i : ℕ) where
  -- a base goes through its degree
  pub base_long : (fs : Ideal r) (b : BaseValue) → Based r i fs (base_meaning r b) → length b.ext.resolution.next ≡ i
  base_long fs b B = sym (generators_long r b.ext.resolution.first b.ext.resolution.next) ∙ B.resolution.long

  -- the cocycles have as many rows as P_i has generators
  cocycles_high : (y : ExtValue) → IsExt y → ring_of y ≡ r → length y.resolution.next ≡ i → (cocycles_matrix y).rows ≡ rank r.prime r.vars (differentials r y.resolution) i
  cocycles_high y E ring long =
      subst (λ n. (cocycles_matrix y).rows ≡ rank r.prime r.vars (differentials r y.resolution) n) long
      (subst (λ (s : Ring). (cocycles_matrix y).rows ≡ rank s.prime s.vars (differentials s y.resolution) (length y.resolution.next)) ring E.cocycles_rows)

  module _ (y z : ExtValue) (Y : IsExt y) (Z : IsExt z) (ring_y : ring_of y ≡ r) (ring_z : ring_of z ≡ r) (long_y : length y.resolution.next ≡ i) (long_z : length z.resolution.next ≡ i)
      (ls : List MatrixValue) (L : IsLiftOfIdentityOf r.prime r.vars i (differentials r z.resolution) (differentials r y.resolution) (matrices_meaning r ls)) where
    -- there is a last matrix, lambda_i
    pub lift_long : i < length ls
    lift_long = let a = L.count in let b = map_length (matrix_meaning r) ls in omega (arith, a, b)

    module _ (m : MatrixValue) (at : matrix_at r.prime r.vars (matrices_meaning r ls) i ≡ matrix_meaning r m) where
      fits : HasShape r.prime r.vars (rank r.prime r.vars (differentials r y.resolution) i) (rank r.prime r.vars (differentials r z.resolution) i) (matrix_meaning r m)
      fits = subst (HasShape r.prime r.vars (rank r.prime r.vars (differentials r y.resolution) i) (rank r.prime r.vars (differentials r z.resolution) i)) at (L.fits i (let a = L.count in omega (arith, a)))

      pub lift_rows : m.rows ≡ (cocycles_matrix y).rows
      lift_rows = shape_rows r.prime r.vars _ _ (matrix_meaning r m) fits ∙ sym (cocycles_high y Y ring_y long_y)

      pub lift_columns : length m.columns ≡ (cocycles_matrix z).rows
      lift_columns = sym (map_length (column_meaning r) m.columns) ∙ shape_columns r.prime r.vars _ _ (matrix_meaning r m) fits ∙ sym (cocycles_high z Z ring_z long_z)
