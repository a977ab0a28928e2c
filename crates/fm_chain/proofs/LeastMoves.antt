-- Which of the kernels, tried one after another, is the first whose twist has a vector in its image.
use Rattle.std.proofs.Common.{ℕ, zero, suc, ◌+◌, ◌<◌, ◌≡◌, List, [], ◌∷◌, map, length, get_or, IfOk, Result, Ok, Err, sym, ap, ◌∙◌, subst, arith}
use native.Mathlib.Decide.{dec_lt}
use Rattle.fm_algebra.specs.PolynomialMatrices.{matrix_twist}
use Rattle.fm_limit.specs.ResolvedIdeal.{matrix_at}
use Rattle.fm_poly.specs.declared.ring.Ring.{Ring}
use Rattle.fm_poly.specs.Polys.{PolyValue}
use Rattle.fm_graphs.specs.Graphs.{MatrixOf}
use Rattle.fm_graphs.specs.Listing.{VectorOf}
use Rattle.fm_mat.specs.Matrices.{MatrixValue, column_meaning, matrix_meaning}
use Rattle.fm_run.specs.declared.stop.Stop.{Stop}
use Rattle.fm_run.specs.declared.task.Stopped.{Stopped}
use Rattle.fm_run.specs.declared.task.Task.{Task}
use Rattle.fm_run.specs.Tasks.{stopped_in}
use Rattle.fm_syz.specs.Insides.{IsLiftOf}
use Rattle.fm_syz.specs.declared.lifted.Lifted.{Lifted}
use Rattle.fm_chain.specs.Stages.{HasFew, IsKilledBy}

-- a lift that was told of a task, in the ring of the class
pub stage_says : (q r : Ring) → q ≡ r → (t : Task) (e : ℕ) (m : MatrixValue) (w : List PolyValue) (result : Result Lifted Stop) (x y : Lifted)
    → ◌≡◌ {A = Result Lifted Stopped} (Ok x) (stopped_in t result) → x ≡ y
    → IfOk result (IsLiftOf q (matrix_twist q.prime q.vars e (matrix_meaning q m)) (column_meaning q w)) → IsLiftOf r (matrix_twist r.prime r.vars e (matrix_meaning r m)) (column_meaning r w) y
stage_says q r same t e m w (Err z) x y is named h = cc
stage_says q r same t e m w (Ok z) x y is named h =
    let found : z ≡ y = sym (same_ok is) ∙ named in
    subst (IsLiftOf r (matrix_twist r.prime r.vars e (matrix_meaning r m)) (column_meaning r w)) found
    (subst (λ (s : Ring). IsLiftOf s (matrix_twist s.prime s.vars e (matrix_meaning s m)) (column_meaning s w) z) same h)
  where
    same_ok : {A E : Type 0} {a b : A} → ◌≡◌ {A = Result A E} (Ok a) (Ok b) → a ≡ b
    same_ok e = cc

-- a solution that was told of a task has few entries
pub stage_few : (t : Task) (result : Result Lifted Stop) (x y : Lifted) → ◌≡◌ {A = Result Lifted Stopped} (Ok x) (stopped_in t result) → x ≡ y → IfOk result HasFew → HasFew y
stage_few t (Err z) x y is named h = absurd (cc is)
stage_few t (Ok z) x y is named h = let found : z ≡ y = cc (is, named) in subst HasFew found h

module _ (r : Ring) where
  pub kernel_at : {A : Type 0} (f : A → MatrixOf r) (xs : List A) (i : ℕ) (x : A) → x ≡ get_or xs i x → i < length xs → matrix_at r.prime r.vars (map f xs) i ≡ f x
  unfolding matrix_at
  kernel_at f [] i x is less = absurd (omega (arith, less))
  kernel_at f (y ∷ xs) zero x is less = ap f (sym is)
  kernel_at f (y ∷ xs) (suc i) x is less = kernel_at f xs i x is (omega (arith, less))

  module _ (e : ℕ) (w : VectorOf r) (Ks : List (MatrixOf r)) where
    -- one more that does not kill
    pub none_more : (s : ℕ) → ((k : ℕ) → k < s → ¬ (IsKilledBy r e w Ks k)) → ¬ (IsKilledBy r e w Ks s) → (k : ℕ) → k < s + 1 → ¬ (IsKilledBy r e w Ks k)
    none_more s none lives k h = elim (dec_lt k s) [
      | yes l ↦ none k l
      | no v ↦ (let q : s ≡ k = omega (arith, v, h) in subst (λ j. ¬ (IsKilledBy r e w Ks j)) q lives)
    ]
