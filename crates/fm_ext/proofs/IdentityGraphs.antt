-- The matrices of one resolution beside the graphs of another.
use Rattle.std.proofs.Common.{ℕ, zero, suc, ◌≤◌, ◌≡◌, List, [], ◌∷◌, map, take, length, refl, sym, ap, ◌∙◌, subst, arith}
use Rattle.std.proofs.lemmas.List.{length-map, length-take-le, take-map}
use Rattle.fm_algebra.specs.PolynomialMatrices.{matrix_unit}
use Rattle.fm_limit.specs.ResolvedIdeal.{matrix_at}
use Rattle.fm_poly.specs.declared.ring.Ring.{Ring}
use Rattle.fm_run.specs.Runs.{Ending, Spends}
use Rattle.fm_mat.specs.Matrices.{MatrixValue, matrix_meaning}
use Rattle.fm_graphs.specs.Graphs.{MatrixOf, Graph}
use Rattle.fm_plan.specs.Queries.{over_identity}
use Rattle.fm_plan.specs.Tasks.{Plan, Unanswered, task}
use Rattle.fm_run.specs.declared.task.Name.TheVariants as names
use Rattle.fm_run.specs.declared.task.Side.TheVariants.{Alone}
use Rattle.fm_run.specs.Runs.{ready, ◌>>=◌}
use Rattle.fm_run.proofs.Spending.{then_spends}
use Rattle.fm_syz.specs.GraphValues.{GraphValue}
use Rattle.fm_syz.specs.GeneratorValues.{GeneratorsValue}
use Rattle.fm_lift.specs.Lifts.{AreAligned, AreGraphsFrom, AreInARow, matrices_meaning, product_work}
use Rattle.fm_lift.proofs.Products.{product_spends}
use Rattle.fm_resolve.specs.Resolutions.{ResolutionValue, IsResolution, graphs_of}
use Rattle.fm_ext.specs.Exts.{differentials}
use Rattle.fm_ext.proofs.Differentials.{in_a_row, matrices_from}

abbrev of_graph : GraphValue → MatrixValue
of_graph g = g.matrix

-- matrices of graphs in a row beside graphs in a row
pub aligned : (r : Ring) (m n : ℕ) (hs gs : List GraphValue) → AreInARow r n hs → AreInARow r m gs → AreAligned r m n (map of_graph hs) gs
aligned r m n [] gs a b = tt
aligned r m n (h ∷ hs) [] a b = tt
aligned r m n (h ∷ hs) (g ∷ gs) a b = (a.0, a.1, b.0, b.1, aligned r (length g.matrix.columns) (length h.matrix.columns) hs gs a.2 b.2)

module _ (r : Ring) where
  -- d_1, d_2, .. in the words of the plan
  all_matrices : (x : ResolutionValue) → matrices_meaning r (map of_graph (graphs_of x)) ≡ differentials r x
  all_matrices x = ap (λ ms. matrix_meaning r x.first.matrix ∷ ms) (matrices_from r x.first x.next)

  pub first_matrices : (k : ℕ) (x : ResolutionValue) → matrices_meaning r (take k (map of_graph (graphs_of x))) ≡ take k (differentials r x)
  first_matrices k x = sym (take-map (matrix_meaning r) k (map of_graph (graphs_of x))) ∙ ap (take k) (all_matrices x)

  -- the first graphs are those of the first matrices
  later_graphs : (d : MatrixOf r) (ds : List (MatrixOf r)) (j : ℕ) (gs : List GraphValue) → AreGraphsFrom r ds j gs → AreGraphsFrom r (d ∷ ds) (suc j) gs
  unfolding matrix_at
  later_graphs d ds j [] h = tt
  later_graphs d ds j (g ∷ gs) h = (h.0, later_graphs d ds (suc j) gs h.1)

  graphs_at : (gs : List GraphValue) (k : ℕ) → AreGraphsFrom r (matrices_meaning r (map of_graph gs)) 0 (take k gs)
  unfolding matrix_at
  graphs_at gs zero = tt
  graphs_at [] (suc k) = tt
  graphs_at (g ∷ gs) (suc k) = (refl, later_graphs (matrix_meaning r g.matrix) (matrices_meaning r (map of_graph gs)) 0 (take k gs) (graphs_at gs k))

  pub first_graphs_at : (k : ℕ) (x : ResolutionValue) → AreGraphsFrom r (differentials r x) 0 (take k (graphs_of x))
  first_graphs_at k x = subst (λ ds. AreGraphsFrom r ds 0 (take k (graphs_of x))) (all_matrices x) (graphs_at (graphs_of x) k)

  -- as many as asked for
  pub count_graphs : (k : ℕ) (x : ResolutionValue) → k ≤ length x.next → length (take k (graphs_of x)) ≡ k
  count_graphs k x less = length-take-le k (graphs_of x) (let l = length-map x.next (λ (y : GeneratorsValue). y.graph) in omega (arith, l, less))

  pub count_matrices : (k : ℕ) (x : ResolutionValue) → k ≤ length x.next → length (take k (map of_graph (graphs_of x))) ≡ k
  count_matrices k x less = ap length (take-map of_graph k (graphs_of x)) ∙ length-map (take k (graphs_of x)) of_graph ∙ count_graphs k x less

  pub aligned_at : (k : ℕ) (source target : ResolutionValue) → source.first.matrix.ring ≡ r → target.first.matrix.ring ≡ r → IsResolution source → IsResolution target
      → AreAligned r 1 1 (take k (map of_graph (graphs_of target))) (take k (graphs_of source))
  aligned_at k source target ring ring' S T = subst (λ ms. AreAligned r 1 1 ms (take k (graphs_of source))) (sym (take-map of_graph k (graphs_of target)))
      (aligned r 1 1 (take k (graphs_of target)) (take k (graphs_of source)) (in_a_row r k target ring' T) (in_a_row r k source ring S))

  pub identity_spends : (j : ℕ) (lambda : MatrixOf r) (ds : List (MatrixOf r)) (gs : List (Graph r)) → Spends (over_identity r j lambda ds gs)
  identity_spends j lambda [] gs = λ units. omega arith
  identity_spends j lambda (d ∷ ds) [] = λ units. omega arith
  identity_spends j lambda (d ∷ ds) (g ∷ gs) = then_spends (task Alone names.Lambda j (product_work r lambda d g)) (λ next. over_identity r (suc j) next ds gs >>= λ later. ready (next ∷ later)) (product_spends r lambda d g)
      (λ next. then_spends (over_identity r (suc j) next ds gs) (λ later. ready (next ∷ later)) (identity_spends (suc j) next ds gs) (λ later units. omega arith))
