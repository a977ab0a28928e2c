-- Polynomials and matrices as they are printed, and the lines that name the matrices of a resolution, of Ext and of a chain.
use Rattle.std.specs.Prelude.{List, [], ◌∷◌, ◌++◌, map}
use Rattle.fm_algebra.specs.Polynomials.{Polynomial}
use Rattle.fm_poly.specs.Polys.{PolyValue}
use Rattle.fm_poly.specs.declared.ring.Ring.{Ring}
use Rattle.fm_vec.specs.Components.{component_terms}
use Rattle.fm_graphs.specs.Listing.{VectorOf, terms_of}
use Rattle.fm_graphs.specs.Graphs.{MatrixOf}
use Rattle.fm_graphs.specs.Trims.{Preimage}
use Rattle.fm_cert.specs.Naming.{Grid, Naming, differentials, lifts, cocycles_naming, relations_naming, morphism_naming, kernels}
use Rattle.fm_plan.specs.Results.{Resolution, Ext, differentials_of}
use Rattle.fm_plan.specs.Queries.{BaseOf}

module _ (r : Ring) where
  -- a polynomial as the list of its terms, which fall
  abbrev pub printed : Polynomial r.prime r.vars → PolyValue
  printed f = record { ring = r; terms = component_terms 1 (terms_of r (f ∷ [])) }

  abbrev pub printed_vector : VectorOf r → List PolyValue
  printed_vector v = map printed v

  abbrev pub grid_of : MatrixOf r → Grid
  grid_of A = record { rows = A.rows; columns = map printed_vector A.columns }

  abbrev pub grids_of : List (MatrixOf r) → List Grid
  grids_of As = map grid_of As

  -- d_1, d_2, ..
  abbrev pub resolution_namings : Resolution r → List Naming
  resolution_namings x = differentials 1 (grids_of (differentials_of r x))

  -- d_1, d_2, ..; theta_0, theta_1, ..; Z, N and U
  abbrev pub ext_namings : Ext r → List Naming
  ext_namings y =
      resolution_namings y.resolution ++ (lifts 0 (grids_of y.lift)
      ++ cocycles_naming (grid_of y.cocycles.found) ∷ relations_naming (grid_of y.relations.found) ∷ morphism_naming (grid_of y.u) ∷ [])

  -- and K_1, K_2, ..
  abbrev pub base_namings : BaseOf r → List Naming
  base_namings b = ext_namings b.ext ++ kernels 1 (grids_of (map (λ (x : Preimage r). x.found) b.chain.links))
