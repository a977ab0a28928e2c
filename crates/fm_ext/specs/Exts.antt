-- Ext with its generating morphism, as the program holds it, and what it means.
use Rattle.std.specs.Prelude.{◌≡◌, List, length}
use Rattle.fm_limit.specs.Facts.{PresentsExt}
use Rattle.fm_limit.specs.ResolvedIdeal.{ResolvedIdeal, IsResolved, rank}
use Rattle.fm_poly.specs.declared.ring.Ring.{Ring}
use Rattle.fm_mat.specs.Matrices.{MatrixValue, matrix_meaning}
use Rattle.fm_graphs.specs.Graphs.{MatrixOf}
use Rattle.fm_plan.specs.Results as plans
use Rattle.fm_syz.specs.GeneratorValues.{PreimageValue, preimage_meaning}
use Rattle.fm_lift.specs.Lifts.{AreMatricesOver, matrices_meaning}
use Rattle.fm_resolve.specs.Resolutions.{ResolutionValue, IsResolution, generators_of, resolution_value}

-- what contracts see of Ext: d_1 .. d_(i+1), theta_0 .. theta_i, the cocycles Z, the relations N, and U
pub record ExtValue : Type 0 where
  pub resolution : ResolutionValue
  pub lift : List MatrixValue
  pub cocycles : PreimageValue
  pub relations : PreimageValue
  pub u : MatrixValue

module _ (r : Ring) where
  -- d_1, d_2, ..
  abbrev pub differentials : ResolutionValue → List (MatrixOf r)
  differentials x = plans.differentials_of r (resolution_value r x)

  abbrev pub ext_meaning : ExtValue → plans.Ext r
  ext_meaning y = record {
    resolution = resolution_value r y.resolution;
    lift = matrices_meaning r y.lift;
    cocycles = preimage_meaning r y.cocycles;
    relations = preimage_meaning r y.relations;
    u = matrix_meaning r y.u;
  }

  -- the ideal of the entries of d_1, with its resolution and its lift
  abbrev pub ideal_of : ExtValue → ResolvedIdeal r.prime r.vars
  ideal_of y = plans.resolved r (generators_of r y.resolution) (ext_meaning y)

-- Z and N
abbrev pub cocycles_matrix : ExtValue → MatrixValue
cocycles_matrix y = y.cocycles.generators.graph.matrix

abbrev pub relations_matrix : ExtValue → MatrixValue
relations_matrix y = y.relations.generators.graph.matrix

abbrev pub ring_of : ExtValue → Ring
ring_of y = y.resolution.first.matrix.ring

-- In the degree i of the resolution: all matrices are over one ring, Z has as many rows as the rank of P_i, N and the square U as many
-- as Z has columns; the lift is one of Frobenius, and Z, N and U present Ext^i.
pub record IsExt (y : ExtValue) : Type 0 where
  pub resolution : IsResolution y.resolution
  pub lift : AreMatricesOver (ring_of y) y.lift
  pub cocycles : (cocycles_matrix y).ring ≡ ring_of y
  pub relations : (relations_matrix y).ring ≡ ring_of y
  pub morphism : y.u.ring ≡ ring_of y
  pub cocycles_rows : let r = ring_of y in (cocycles_matrix y).rows
      ≡ rank r.prime r.vars (differentials r y.resolution) (length y.resolution.next)
  pub relations_rows : (relations_matrix y).rows ≡ length (cocycles_matrix y).columns
  pub morphism_rows : y.u.rows ≡ length (cocycles_matrix y).columns
  pub morphism_columns : length y.u.columns ≡ length (cocycles_matrix y).columns
  pub resolved : let r = ring_of y in IsResolved r.prime r.vars (length y.resolution.next) (ideal_of r y)
  pub presents : let r = ring_of y in PresentsExt r.prime r.vars (length y.resolution.next) (ideal_of r y)
      (matrix_meaning r (cocycles_matrix y)) (matrix_meaning r (relations_matrix y)) (matrix_meaning r y.u)
