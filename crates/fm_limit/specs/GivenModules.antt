-- Modules over GF(p)[x1 .. xn] that are given by relations and a morphism, and their limits.
use Rattle.std.specs.Prelude.{ℕ, suc, ◌≡◌, List, length}
use Rattle.fm_gfp.specs.declared.prime.Prime.{Prime}
use Rattle.fm_algebra.specs.PolynomialMatrices.{PolynomialMatrix, HasShape, matrix_product, matrix_twist}
use Rattle.fm_limit.specs.System.{System}
use Rattle.fm_limit.specs.SystemInstances.{of_module}
use Rattle.fm_limit.specs.ResolvedIdeal.{matrix_at}
use Rattle.fm_limit.specs.Classes.{matrices, width, with_rows, as_square}
use Rattle.fm_limit.specs.Facts.{ColumnsInImage, IsChain}

-- a module with generators 1 .. rank, relations N and a morphism U to its twist
pub record GivenModule (p : Prime) (n : ℕ) : Type 0 where
  pub rank : ℕ
  pub relations : PolynomialMatrix p n
  pub morphism : PolynomialMatrix p n

module _ (p : Prime) (n : ℕ) where
  -- shapes fit, and U is a morphism: the columns of U * N lie in im N^[p]
  pub record IsGivenModule (G : GivenModule p n) : Type 0 where
    pub relations_fit : HasShape p n G.rank (length (G.relations).columns) G.relations
    pub morphism_fits : HasShape p n G.rank G.rank G.morphism
    pub morphism : ColumnsInImage p n (matrix_twist p n 1 G.relations) (matrix_product p n G.morphism G.relations)

  -- the direct system of the module
  abbrev pub module_system : GivenModule p n → System (matrices p n)
  module_system G =
      of_module (matrices p n) G.rank (width p n G.relations) (with_rows p n G.rank G.relations) (as_square p n G.rank G.morphism)

  -- the facts of a module: its chain begins with the relations and was computed through its repeat
  pub record ModuleFacts (G : GivenModule p n) (Ks : List (PolynomialMatrix p n)) (t : ℕ) : Type 0 where
    pub given : IsGivenModule G
    pub begins : matrix_at p n Ks 0 ≡ G.relations
    pub chain : IsChain p n G.morphism Ks (suc t)
    pub repeats : ColumnsInImage p n (matrix_at p n Ks t) (matrix_at p n Ks (suc t))
