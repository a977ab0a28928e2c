-- Multiples of the unit matrix through a graph.
use Rattle.std.proofs.Common.{ℕ, ◌≡◌, List, Result, ap, ◌∙◌, subst}
use Rattle.fm_algebra.specs.Polynomials.{Polynomial}
use Rattle.fm_algebra.specs.PolynomialMatrices.{matrix_scalar}
use Rattle.fm_graphs.specs.Graphs.{Graph, inside_run, lifted}
use Rattle.fm_mat.specs.Matrices.{MatrixValue, columns_meaning, matrix_meaning}
use Rattle.fm_poly.specs.declared.ring.Ring.{Ring}
use Rattle.fm_poly.specs.declared.term.Term.{Term}
use Rattle.fm_poly.specs.Polys.{meaning}
use Rattle.fm_run.specs.declared.stop.Stop.{Stop}
use Rattle.fm_run.specs.Runs.{Follows}
use Rattle.fm_support.specs.Powers.{scalar_lift}
use Rattle.fm_syz.specs.GraphValues.{GraphValue, graph_meaning}
use Rattle.fm_syz.specs.Insides.{inside_value}
use Rattle.fm_syz.specs.declared.inside.Inside.{Inside}

-- the matrix that was formed over a ring that has another name
pub scalar_at : (s r : Ring) → s ≡ r → (ts : List Term) (n k : ℕ) → n ≡ k → (m : MatrixValue) → matrix_meaning s m ≡ matrix_scalar s.prime s.vars (meaning s ts) n → matrix_meaning r m ≡ matrix_scalar r.prime r.vars (meaning r ts) k
scalar_at s r same ts n k rows m h = subst (λ (x : Ring). matrix_meaning x m ≡ matrix_scalar x.prime x.vars (meaning x ts) n) same h ∙ ap (matrix_scalar r.prime r.vars (meaning r ts)) rows

module _ (r : Ring) (f : Polynomial r.prime r.vars) (g : Graph r) (m : MatrixValue) (is : matrix_meaning r m ≡ matrix_scalar r.prime r.vars f g.matrix.rows) where
  pub scalar_lifted : (result : Result MatrixValue Stop) (old new : ℕ) → Follows (matrix_meaning r) result old new (lifted r g (columns_meaning r m.columns) old) → Follows (matrix_meaning r) result old new (scalar_lift r f g old)
  scalar_lifted result old new h = subst (λ vs. Follows (matrix_meaning r) result old new (lifted r g vs old)) (ap (λ A. A.columns) is) h

  pub scalar_inside : (result : Result Inside Stop) (old new : ℕ) → Follows (inside_value r) result old new (inside_run r (matrix_meaning r m) g old)
      → Follows (inside_value r) result old new (inside_run r (matrix_scalar r.prime r.vars f g.matrix.rows) g old)
  scalar_inside result old new h = subst (λ M. Follows (inside_value r) result old new (inside_run r M g old)) is h

-- INSIDE, for another spelling of the matrix and of the graph
pub inside_told : (r : Ring) (m m' : MatrixValue) (g g' : GraphValue) → m ≡ m' → g ≡ g' → g'.matrix.ring ≡ r → (result : Result Inside Stop) (old new : ℕ)
    → (let s = g.matrix.ring in Follows (inside_value s) result old new (inside_run s (matrix_meaning s m) (graph_meaning s g) old)) → Follows (inside_value r) result old new (inside_run r (matrix_meaning r m') (graph_meaning r g') old)
inside_told r m m' g g' em eg ring result old new h =
    subst (λ (s : Ring). Follows (inside_value s) result old new (inside_run s (matrix_meaning s m') (graph_meaning s g') old)) ring
    (subst (λ (x : GraphValue). let s = x.matrix.ring in Follows (inside_value s) result old new (inside_run s (matrix_meaning s m') (graph_meaning s x) old)) eg
    (subst (λ (x : MatrixValue). let s = g.matrix.ring in Follows (inside_value s) result old new (inside_run s (matrix_meaning s x) (graph_meaning s g) old)) em h))
