-- Along resolutions the chains are lifts of Frobenius and of the identity.
use Rattle.std.proofs.Common.{ℕ, suc, ◌≡◌, ◌+◌, ◌≤◌, List, [], ◌∷◌, length, take, refl, sym, ◌∙◌, subst, subst₂, arith}
use Rattle.fm_algebra.specs.PolynomialMatrices.{matrix_unit}
use Rattle.fm_limit.specs.Facts.{ColumnsInImage}
use Rattle.fm_limit.specs.ResolvedIdeal.{matrix_at, row, IsResolutionOf, IsFrobeniusLiftOf, IsLiftOfIdentityOf}
use Rattle.fm_mat.specs.Matrices.{MatrixValue}
use Rattle.fm_mat.proofs.Steps.{map_length}
use Rattle.fm_poly.specs.declared.ring.Ring.{Ring}
use Rattle.fm_run.specs.declared.task.Side.{Side}
use Rattle.fm_run.proofs.Ends.{Ends}
use Rattle.fm_graphs.specs.Graphs.{MatrixOf, IsCompletedGraph}
use Rattle.fm_syz.specs.GraphValues.{GraphValue, graph_meaning}
use Rattle.fm_plan.specs.Results.{Ideal}
use Rattle.fm_plan.specs.Base.{lifting}
use Rattle.fm_plan.specs.Queries.{over_identity}
use Rattle.fm_plan.proofs.Identities.{identity_is}
use Rattle.fm_plan.proofs.Lifting.{GraphsFrom, lifting_is, no_lift}
use Rattle.fm_lift.specs.Lifts.{AreAligned, AreGraphs, AreInARow, AreGraphsFrom, after_the_first, graphs_meaning, matrices_meaning}
use Rattle.fm_lift.proofs.LiftChains.{Begins}

-- graphs over one ring
abbrev AreOfRing : Ring → List GraphValue → Type 0
AreOfRing r [] = Unit {0}
AreOfRing r (g ∷ gs) = (g.matrix.ring ≡ r) × AreOfRing r gs

in_a_row : (r : Ring) (m : ℕ) (gs : List GraphValue) → AreInARow r m gs → AreOfRing r gs
in_a_row r m [] h = tt
in_a_row r m (g ∷ gs) h = (h.0, in_a_row r (length g.matrix.columns) gs h.2)

aligned : (r : Ring) (m n : ℕ) (ds : List MatrixValue) (gs : List GraphValue) → length ds ≡ length gs → AreAligned r m n ds gs → AreOfRing r gs
aligned r m n [] [] q h = tt
aligned r m n [] (g ∷ gs) q h = absurd (omega (arith, q))
aligned r m n (d ∷ ds) [] q h = absurd (omega (arith, q))
aligned r m n (d ∷ ds) (g ∷ gs) q h = (h.2, aligned r (length g.matrix.columns) (length d.columns) ds gs (omega (arith, q)) h.4)

module _ (r : Ring) (fs : Ideal r) (i : ℕ) (ds : List (MatrixOf r)) (R : IsResolutionOf r.prime r.vars fs i ds) where
  graphs_from : (j : ℕ) (gs : List GraphValue) → AreGraphs gs → AreOfRing r gs → AreGraphsFrom r ds j gs → j + length gs ≤ i → GraphsFrom r fs i ds R j (graphs_meaning r gs)
  graphs_from j [] G rings at enough = tt
  graphs_from j (g ∷ gs) G rings at enough = (
    subst (λ (s : Ring). IsCompletedGraph s (graph_meaning s g)) rings.0 G.0.completed,
    at.0,
    omega (arith, enough),
    graphs_from (suc j) gs G.1 rings.1 at.1 (omega (arith, enough)),
  )

  pub is_lift : (side : Side) (gs : List GraphValue) (ms : List MatrixValue) → AreGraphs gs → AreInARow r 1 gs → AreGraphsFrom r ds 0 gs → length gs ≤ i → (units left : ℕ)
      → Ends (lifting r side 1 (matrix_unit r.prime r.vars 1) (graphs_meaning r gs) units) (after_the_first (matrices_meaning r ms)) left → Begins (matrix_unit r.prime r.vars 1) (matrices_meaning r ms)
      → IsFrobeniusLiftOf r.prime r.vars (length gs) ds (matrices_meaning r ms)
  unfolding matrix_at
  is_lift side gs ms G row at enough units left ends first =
      let unit = matrix_unit r.prime r.vars 1 in
      subst₂ (λ k ts. IsFrobeniusLiftOf r.prime r.vars k ds ts) (zero_plus (length (graphs_meaning r gs)) ∙ map_length (graph_meaning r) gs) (sym first)
      (lifting_is r fs i ds R side 0 1 (unit ∷ []) (graphs_meaning r gs) (graphs_from 0 gs G (in_a_row r 1 gs row) at (omega (arith, enough))) (no_lift r.prime r.vars R) unit refl units left (after_the_first (matrices_meaning r ms)) ends)
    where
      zero_plus : (k : ℕ) → 0 + k ≡ k
      zero_plus k = omega arith

module _ (r : Ring) (fs gs : Ideal r) (i : ℕ) (ds us : List (MatrixOf r)) (D : IsResolutionOf r.prime r.vars gs i ds) (S : IsResolutionOf r.prime r.vars fs i us)
    (contained : ColumnsInImage r.prime r.vars (row r.prime r.vars fs) (row r.prime r.vars gs)) where
  pub is_identity : (dv : List MatrixValue) (gv : List GraphValue) (ms : List MatrixValue) → AreGraphs gv → length dv ≡ length gv → AreAligned r 1 1 dv gv → AreGraphsFrom r us 0 gv → length gv ≡ i → matrices_meaning r dv ≡ take i ds
      → (units left : ℕ) → Ends (over_identity r 1 (matrix_unit r.prime r.vars 1) (matrices_meaning r dv) (graphs_meaning r gv) units) (after_the_first (matrices_meaning r ms)) left
      → Begins (matrix_unit r.prime r.vars 1) (matrices_meaning r ms) → IsLiftOfIdentityOf r.prime r.vars i ds us (matrices_meaning r ms)
  is_identity dv gv ms G count rows at long same units left ends first =
      subst (IsLiftOfIdentityOf r.prime r.vars i ds us) (sym first)
      (identity_is r D S contained (graphs_meaning r gv) (graphs_from r fs i us S 0 gv G (aligned r 1 1 dv gv count rows) at (omega (arith, long))) (map_length (graph_meaning r) gv ∙ long) units left (after_the_first (matrices_meaning r ms))
      (subst (λ xs. Ends (over_identity r 1 (matrix_unit r.prime r.vars 1) xs (graphs_meaning r gv) units) (after_the_first (matrices_meaning r ms)) left) same ends))
