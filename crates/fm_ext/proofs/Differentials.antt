-- The matrices and the graphs of a resolution, and of a lift, in the words of the plan.
use Rattle.std.proofs.Common.{ℕ, zero, suc, ◌<◌, ◌≤◌, ◌≡◌, List, [], ◌∷◌, map, take, length, Some, get_or, slice_get, refl, sym, ap, ◌∙◌, subst, arith}
use Rattle.fm_algebra.specs.PolynomialMatrices.{HasShape, matrix_transpose, matrix_zero}
use Rattle.fm_algebra.specs.Matrix.{zero_matrix, transpose, table, listed}
use Rattle.fm_limit.specs.ResolvedIdeal.{matrix_at, differential, rank, IsResolutionOf}
use Rattle.fm_limit.proofs.MatrixWords.{shape_rows, shape_columns}
use Rattle.fm_poly.specs.declared.ring.Ring.{Ring}
use Rattle.fm_mat.specs.Matrices.{MatrixValue, column_meaning, matrix_meaning}
use Rattle.fm_mat.proofs.Steps.{map_length}
use Rattle.fm_graphs.specs.Graphs.{MatrixOf, Graph}
use Rattle.fm_graphs.specs.Trims.{Preimage}
use Rattle.fm_plan.specs.Base.{flip}
use Rattle.fm_plan.specs.Results as plans
use Rattle.fm_syz.specs.GraphValues.{GraphValue, graph_meaning}
use Rattle.fm_syz.specs.GeneratorValues.{GeneratorsValue}
use Rattle.fm_lift.specs.Lifts.{AreInARow, AreMatricesOver, graphs_meaning, matrices_meaning}
use Rattle.fm_resolve.specs.Resolutions.{ResolutionValue, AreExactFrom, IsResolution, generators_from, generators_of, graphs_of, resolution_value}
use Rattle.fm_resolve.proofs.Resolved.{resolved}
use Rattle.fm_ext.specs.Exts.{differentials}

-- a matrix of a list by its number
pub matrix_of : (r : Ring) (ms : List MatrixValue) (k : ℕ) (m : MatrixValue) → slice_get ms k ≡ Some m → matrix_at r.prime r.vars (matrices_meaning r ms) k ≡ matrix_meaning r m
unfolding matrix_at
matrix_of r [] k m is = cc
matrix_of r (n ∷ ms) zero m is = let same : n ≡ m = cc in ap (matrix_meaning r) same
matrix_of r (n ∷ ms) (suc k) m is = matrix_of r ms k m is

pub read_of : (r : Ring) (ms : List MatrixValue) (k : ℕ) (m : MatrixValue) → k < length ms → m ≡ get_or ms k m → matrix_at r.prime r.vars (matrices_meaning r ms) k ≡ matrix_meaning r m
unfolding matrix_at
read_of r [] k m less is = absurd (omega (arith, less))
read_of r (n ∷ ms) zero m less is = ap (matrix_meaning r) (sym is)
read_of r (n ∷ ms) (suc k) m less is = read_of r ms k m (omega (arith, less)) is

pub ring_of : (r : Ring) (ms : List MatrixValue) (k : ℕ) (m : MatrixValue) → k < length ms → m ≡ get_or ms k m → AreMatricesOver r ms → m.ring ≡ r
ring_of r [] k m less is over = absurd (omega (arith, less))
ring_of r (n ∷ ms) zero m less is over = ap (λ (m : MatrixValue). m.ring) is ∙ over.0
ring_of r (n ∷ ms) (suc k) m less is over = ring_of r ms k m (omega (arith, less)) is over.1

module _ (r : Ring) where
  graphs_from : (g : GraphValue) (xs : List GeneratorsValue) → graphs_meaning r (map (λ (y : GeneratorsValue). y.graph) xs) ≡ map (λ (y : Preimage r). y.graph) (generators_from r g xs)
  graphs_from g [] = refl
  graphs_from g (x ∷ xs) = ap (λ gs. graph_meaning r x.graph ∷ gs) (graphs_from x.graph xs)

  pub matrices_from : (g : GraphValue) (xs : List GeneratorsValue) → matrices_meaning r (map (λ (g : GraphValue). g.matrix) (map (λ (y : GeneratorsValue). y.graph) xs))
      ≡ map (λ (g : Graph r). g.matrix) (map (λ (y : Preimage r). y.graph) (generators_from r g xs))
  matrices_from g [] = refl
  matrices_from g (x ∷ xs) = ap (λ ms. matrix_meaning r x.graph.matrix ∷ ms) (matrices_from x.graph xs)

  taken : (k : ℕ) (gs : List GraphValue) → graphs_meaning r (take k gs) ≡ take k (graphs_meaning r gs)
  taken zero gs = refl
  taken (suc k) [] = refl
  taken (suc k) (g ∷ gs) = ap (λ hs. graph_meaning r g ∷ hs) (taken k gs)

  -- the first graphs, in the words of the plan
  pub first_graphs : (k : ℕ) (x : ResolutionValue) → graphs_meaning r (take k (graphs_of x)) ≡ take k (plans.graphs_of r (resolution_value r x))
  first_graphs k x = taken k (graphs_of x) ∙ ap (λ gs. take k (graph_meaning r x.first ∷ gs)) (graphs_from x.first x.next)

  -- they can follow one another
  rows_from : (k : ℕ) (g : GraphValue) (xs : List GeneratorsValue) → g.matrix.ring ≡ r → AreExactFrom g xs → AreInARow r g.matrix.rows (take k (g ∷ map (λ (y : GeneratorsValue). y.graph) xs))
  rows_from zero g xs ring exact = tt
  rows_from (suc zero) g xs ring exact = (ring, refl, tt)
  rows_from (suc (suc k)) g [] ring exact = (ring, refl, tt)
  rows_from (suc (suc k)) g (x ∷ xs) ring exact =
      (ring, refl, subst (λ m. AreInARow r m (take (suc k) (x.graph ∷ map (λ (y : GeneratorsValue). y.graph) xs))) exact.0.rows (rows_from (suc k) x.graph xs (exact.0.generators.graph_ring ∙ ring) exact.1))

  pub in_a_row : (k : ℕ) (x : ResolutionValue) → x.first.matrix.ring ≡ r → IsResolution x → AreInARow r 1 (take k (graphs_of x))
  in_a_row k x ring h = subst (λ m. AreInARow r m (take k (graphs_of x))) h.row (rows_from k x.first x.next ring h.exact)

  -- d_(k+1)
  pub differential_of : (x : ResolutionValue) (k : ℕ) (d : MatrixValue) → slice_get (map (λ (g : GraphValue). g.matrix) (graphs_of x)) k ≡ Some d → matrix_at r.prime r.vars (differentials r x) k ≡ matrix_meaning r d
  differential_of x k d is =
      ap (λ ms. matrix_at r.prime r.vars (matrix_meaning r x.first.matrix ∷ ms) k) (sym (matrices_from x.first x.next)) ∙ matrix_of r (map (λ (g : GraphValue). g.matrix) (graphs_of x)) k d is

  module _ (x : ResolutionValue) (h : IsResolution x) (ring : x.first.matrix.ring ≡ r) where
    R : IsResolutionOf r.prime r.vars (generators_of r x) (length x.next) (differentials r x)
    R = (resolved r x h ring).resolution

    fits : (k : ℕ) (d : MatrixValue) → k ≤ length x.next → slice_get (map (λ (g : GraphValue). g.matrix) (graphs_of x)) k ≡ Some d
        → HasShape r.prime r.vars (rank r.prime r.vars (differentials r x) k) (rank r.prime r.vars (differentials r x) (suc k)) (matrix_meaning r d)
    fits k d less is =
        subst (HasShape r.prime r.vars (rank r.prime r.vars (differentials r x) k) (rank r.prime r.vars (differentials r x) (suc k))) (differential_of x k d is) (R.fits k (let c = R.count in omega (arith, c, less)))

    -- d_(k+1) goes from P_(k+1) to P_k
    pub rows_at : (k : ℕ) (d : MatrixValue) → k ≤ length x.next → slice_get (map (λ (g : GraphValue). g.matrix) (graphs_of x)) k ≡ Some d → d.rows ≡ rank r.prime r.vars (differentials r x) k
    rows_at k d less is = shape_rows r.prime r.vars _ _ _ (fits k d less is)

    pub columns_at : (k : ℕ) (d : MatrixValue) → k ≤ length x.next → slice_get (map (λ (g : GraphValue). g.matrix) (graphs_of x)) k ≡ Some d → length d.columns ≡ rank r.prime r.vars (differentials r x) (suc k)
    columns_at k d less is = sym (map_length (column_meaning r) d.columns) ∙ shape_columns r.prime r.vars _ _ _ (fits k d less is)

  -- the flip of d_0
  pub no_columns : (ds : List (MatrixOf r)) → record { rows = 1; columns = [] } ≡ flip r (differential r.prime r.vars ds 0)
  unfolding differential matrix_transpose matrix_zero zero_matrix transpose table listed
  no_columns ds = refl
