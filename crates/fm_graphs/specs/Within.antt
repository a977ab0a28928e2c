-- Polynomials, matrices and graphs within the bound on exponents.
use Rattle.std.specs.Prelude.{ℕ, ◌≡◌, Bool, true, List}
use Rattle.std.specs.List.{list_all}
use Rattle.fm_gfp.specs.declared.prime.Prime.{Prime}
use Rattle.fm_mono.specs.Bounded.{is_bounded}
use Rattle.fm_algebra.specs.Polynomials.{Polynomial}
use Rattle.fm_algebra.specs.PolyRing.{support}
use Rattle.fm_algebra.specs.PolynomialMatrices.{PolynomialMatrix}
use Rattle.fm_poly.specs.declared.ring.Ring.{Ring}
use Rattle.fm_complete.specs.Within.{AllBounded, AreBounded}
use Rattle.fm_graphs.specs.Graphs.{MatrixOf, Graph, Inside, all_inside, first_outside}
use Rattle.fm_graphs.specs.Trims.{Preimage}

module _ (p : Prime) (n : ℕ) where
  -- each exponent of f is within the bound
  abbrev pub is_within : Polynomial p n → Bool
  is_within f = list_all is_bounded (support f)

  -- each polynomial of a vector is
  abbrev pub are_within : List (Polynomial p n) → Bool
  are_within v = list_all is_within v

  -- each entry of a matrix is
  abbrev pub entries_within : PolynomialMatrix p n → Bool
  entries_within A = list_all are_within A.columns

module _ (r : Ring) where
  abbrev pub IsMatrixWithin : MatrixOf r → Type 0
  IsMatrixWithin A = entries_within r.prime r.vars A ≡ true

  -- the matrix and the members are within the bound
  pub record IsGraphWithin (g : Graph r) : Type 0 where
    pub matrix : IsMatrixWithin g.matrix
    pub members : AreBounded g.members

  -- the solutions are, or the rest
  abbrev pub IsInsideWithin : Inside r → Type 0
  IsInsideWithin (all_inside ws) = list_all (are_within r.prime r.vars) ws ≡ true
  IsInsideWithin (first_outside o) = AllBounded o.rest

  -- all matrices and graphs are
  pub record IsPreimageWithin (Q : Preimage r) : Type 0 where
    pub whole : IsGraphWithin Q.whole
    pub found : IsMatrixWithin Q.found
    pub x : IsMatrixWithin Q.x
    pub w : IsMatrixWithin Q.w
    pub graph : IsGraphWithin Q.graph
