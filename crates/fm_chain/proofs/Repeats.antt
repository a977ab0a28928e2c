-- A chain that the plan finds is the chain of kernels.
use Rattle.std.proofs.Common.{ℕ, suc, ◌≡◌, length, IfOk, Result, Ok, Err, refl, sym, ◌∙◌, subst}
use Rattle.std.proofs.lemmas.List.{length-map}
use Rattle.fm_algebra.specs.PolynomialMatrices.{HasShape}
use Rattle.fm_limit.specs.Facts.{ColumnsInImage, IsChain, IsFirstRepeat}
use Rattle.fm_limit.specs.ResolvedIdeal.{matrix_at}
use Rattle.fm_poly.specs.declared.ring.Ring.{Ring}
use Rattle.fm_graphs.specs.Graphs.{MatrixOf}
use Rattle.fm_mat.specs.Matrices.{MatrixValue, AreColumns, column_meaning, matrix_meaning}
use Rattle.fm_run.specs.declared.task.Side.{Side}
use Rattle.fm_run.specs.declared.task.Stopped.{Stopped}
use Rattle.fm_plan.specs.Base.{chain_of}
use Rattle.fm_plan.specs.Following.{FollowsPlan}
use Rattle.fm_plan.proofs.Chains.{chain_from}
use Rattle.fm_syz.specs.GraphValues.{GraphValue, IsGraph, graph_meaning}
use Rattle.fm_syz.proofs.Inputs.{matrix_shape}
use Rattle.fm_chain.specs.Chains.{ChainValue, outside_value, chain_meaning, kernels_of, IsKernelChain}

module _ (side : Side) (u : MatrixValue) (rel : GraphValue) (G : IsGraph rel) (over : u.ring ≡ rel.matrix.ring) (rows : u.rows ≡ rel.matrix.rows) (square : length u.columns ≡ rel.matrix.rows)
    (long : AreColumns u.ring u.rows u.columns) where
  abbrev r : Ring
  r = rel.matrix.ring

  abbrev U : MatrixOf r
  U = matrix_meaning r u

  abbrev N : MatrixOf r
  N = matrix_meaning r rel.matrix

  wide : length U.columns ≡ rel.matrix.rows
  wide = length-map u.columns (column_meaning r) ∙ square

  u_shape : HasShape r.prime r.vars (length U.columns) (length U.columns) U
  u_shape = subst (λ k. HasShape r.prime r.vars k (length U.columns) U) (rows ∙ sym wide) (matrix_shape r u (subst (λ s. AreColumns s u.rows u.columns) over long))

  n_shape : HasShape r.prime r.vars (length U.columns) (length N.columns) N
  n_shape = subst (λ k. HasShape r.prime r.vars k (length N.columns) N) (sym wide) G.completed.shape

  pub chain_told : (result : Result ChainValue Stopped) (old new : ℕ) → FollowsPlan (chain_meaning r rel) result old new (chain_of r side U (graph_meaning r rel) old) → IfOk result (IsKernelChain r rel U)
  chain_told (Err e) old new h = tt
  chain_told (Ok c) old new h =
      let R = chain_from r side U N u_shape (graph_meaning r rel) G.completed refl n_shape old new (chain_meaning r rel c) h in
      let Ks = kernels_of r rel c in
      let count = length-map c.growth outside_value in
      record {
        chain = subst (λ t. IsChain r.prime r.vars U Ks (suc t)) count R.chain;
        repeats = subst (λ t. ColumnsInImage r.prime r.vars (matrix_at r.prime r.vars Ks t) (matrix_at r.prime r.vars Ks (suc t))) count R.repeats;
        first = subst (IsFirstRepeat r.prime r.vars Ks) count R.first;
      }
