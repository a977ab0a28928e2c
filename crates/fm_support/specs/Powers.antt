-- The parts of the task `power`.
use Rattle.std.specs.Prelude.{ℕ, suc}
use Rattle.fm_algebra.specs.Polynomials.{Polynomial, polynomial_power}
use Rattle.fm_algebra.specs.PolynomialMatrices.{matrix_scalar}
use Rattle.fm_graphs.specs.Graphs.{MatrixOf, Graph, lifted}
use Rattle.fm_mat.specs.Bounds.{product_fits}
use Rattle.fm_plan.specs.Queries.{Inverted, by_power, power_run, before_power}
use Rattle.fm_poly.specs.declared.ring.Ring.{Ring}
use Rattle.fm_run.specs.Runs.{Work, ready, bounded, ◌>>=◌}

module _ (r : Ring) where
  -- f^(k+1), as g * f
  abbrev pub next_power : ℕ → Polynomial r.prime r.vars → Polynomial r.prime r.vars → Work (Polynomial r.prime r.vars)
  next_power k f g = bounded (product_fits r.prime r.vars g f) (polynomial_power r.prime r.vars (suc k) f)

  -- h times the unit matrix, lifted through g
  abbrev pub scalar_lift : Polynomial r.prime r.vars → Graph r → Work (MatrixOf r)
  scalar_lift h g = lifted r g (matrix_scalar r.prime r.vars h g.matrix.rows).columns

  -- `power`, for the power k
  abbrev pub power_work : ℕ → Polynomial r.prime r.vars → Graph r → Work (Inverted r)
  power_work k f g = power_run r k f >>= λ h. scalar_lift h g >>= λ w. before_power r k f g >>= λ o. ready (by_power k w o)
