-- The differentials of a resolution, and their ranks.
use Rattle.std.proofs.Common.{◌≡◌, ◌∙◌, ℕ, zero, suc, ◌+◌, ◌<◌, List, [], ◌∷◌, ◌++◌, map, length, get_or, refl, sym, ap, ap₂, subst, append-nil, arith}
use Rattle.std.proofs.lemmas.List.{ext_get_or, get_or-map, length-map, nil_from_length}
use Rattle.fm_gfp.specs.declared.prime.Prime.{Prime}
use Rattle.fm_algebra.specs.Matrix.{listed}
use Rattle.fm_algebra.specs.PolynomialMatrices.{PolynomialMatrix, matrix_zero}
use Rattle.fm_algebra.proofs.Tables.{get_or-listed, length-listed}
use Rattle.fm_limit.specs.ResolvedIdeal.{matrix_at, rank}
use Rattle.fm_poly.specs.declared.ring.Ring.{Ring}
use Rattle.fm_mat.specs.Matrices.{MatrixValue, column_meaning, matrix_meaning}
use Rattle.fm_graphs.specs.Graphs.{Graph}
use Rattle.fm_graphs.specs.Trims.{Preimage}
use Rattle.fm_plan.specs.Results.{differentials_of}
use Rattle.fm_syz.specs.GraphValues.{GraphValue}
use Rattle.fm_syz.specs.GeneratorValues.{GeneratorsValue}
use Rattle.fm_resolve.specs.Resolutions.{ResolutionValue, generators_from, resolution_value}

abbrev pub matrices_of : List GeneratorsValue → List MatrixValue
matrices_of xs = map (λ (x : GeneratorsValue). x.graph.matrix) xs

module _ (r : Ring) where
  from_graph : (g : GraphValue) (xs : List GeneratorsValue)
      → map (λ (h : Graph r). h.matrix) (map (λ (y : Preimage r). y.graph) (generators_from r g xs)) ≡ map (matrix_meaning r) (matrices_of xs)
  from_graph g [] = refl
  from_graph g (x ∷ xs) = ap (λ ms. matrix_meaning r x.graph.matrix ∷ ms) (from_graph x.graph xs)

  pub differentials_are : (x : ResolutionValue) → differentials_of r (resolution_value r x) ≡ matrix_meaning r x.first.matrix ∷ map (matrix_meaning r) (matrices_of x.next)
  differentials_are x = ap (λ ms. matrix_meaning r x.first.matrix ∷ ms) (from_graph x.first x.next)

module _ (p : Prime) (n : ℕ) where
  -- 1, and the numbers of columns of d_1, d_2, ..
  ranks_are : (ds : List (PolynomialMatrix p n)) → listed (suc (length ds)) (rank p n ds) ≡ 1 ∷ map (λ (d : PolynomialMatrix p n). length d.columns) ds
  unfolding matrix_at
  ranks_are ds =
      ext_get_or (width none) (listed (suc (length ds)) (rank p n ds)) (1 ∷ map width ds)
      (length-listed (suc (length ds)) (rank p n ds) ∙ ap suc (sym (length-map ds width)))
      (λ i h. let b : i < suc (length ds) = subst (λ k. i < k) (length-listed (suc (length ds)) (rank p n ds)) h in
      get_or-listed (suc (length ds)) i (width none) (rank p n ds) b ∙ at i b)
    where
      none : PolynomialMatrix p n
      none = matrix_zero p n 0 0

      width : PolynomialMatrix p n → ℕ
      width d = length d.columns

      at : (i : ℕ) → i < suc (length ds) → rank p n ds i ≡ get_or (1 ∷ map width ds) i (width none)
      at zero b = refl
      at (suc k) b = sym (get_or-map width ds k none (width none) (omega (arith, b)))

abbrev pub widths_of : List GeneratorsValue → List ℕ
widths_of xs = map (λ (x : GeneratorsValue). length x.graph.matrix.columns) xs

-- the widths of the differentials are the ranks from that in degree 1 on
pub ranks_found : (r : Ring) (x : ResolutionValue) → 1 ∷ length x.first.matrix.columns ∷ widths_of x.next
    ≡ listed (length x.next + 2) (rank r.prime r.vars (differentials_of r (resolution_value r x)))
ranks_found r x =
    let ds = differentials_of r (resolution_value r x) in
    let count : suc (length ds) ≡ length x.next + 2 =
    let l = length-map (matrices_of x.next) (matrix_meaning r) in let k = length-map x.next (λ (y : GeneratorsValue). y.graph.matrix) in
    let d = ap length (differentials_are r x) in omega (arith, l, k, d) in
    sym (ap (λ ds. 1 ∷ map (λ (d : PolynomialMatrix r.prime r.vars). length d.columns) ds) (differentials_are r x)
    ∙ ap₂ (λ a l. 1 ∷ a ∷ l) (wide x.first.matrix) (widths x.next))
    ∙ sym (ranks_are r.prime r.vars ds) ∙ ap (λ k. listed k (rank r.prime r.vars ds)) count
  where
    wide : (m : MatrixValue) → length (matrix_meaning r m).columns ≡ length m.columns
    wide m = length-map m.columns (column_meaning r)

    widths : (xs : List GeneratorsValue) → map (λ (d : PolynomialMatrix r.prime r.vars). length d.columns) (map (matrix_meaning r) (matrices_of xs)) ≡ widths_of xs
    widths [] = refl
    widths (y ∷ xs) = ap₂ (λ a l. a ∷ l) (wide y.graph.matrix) (widths xs)

pub ranks_done : (r : Ring) (x : ResolutionValue) (left : List GeneratorsValue) (ranks : List ℕ) → length left ≡ 0
    → ranks ++ widths_of left ≡ 1 ∷ length x.first.matrix.columns ∷ widths_of x.next
    → ranks ≡ listed (length x.next + 2) (rank r.prime r.vars (differentials_of r (resolution_value r x)))
ranks_done r x left ranks e h =
    sym (append-nil ranks) ∙ ap (λ l. ranks ++ widths_of l) (sym (nil_from_length left e)) ∙ h ∙ ranks_found r x
