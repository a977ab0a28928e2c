use Rattle.std.proofs.Common.{suc, drop, ◌≡◌}
use Rattle.fm_mat.specs.Matrices.{column_meaning}
use Rattle.fm_plan.specs.Queries as plans
use Rattle.fm_poly.specs.declared.ring.Ring.{Ring}
use Rattle.fm_vec.specs.Components.{AreOver}
use Rattle.fm_queries.proofs.testing.first_nonzero.Given as goal

abbrev pub invariant-loop-k : goal.invariant-loop-k
invariant-loop-k l = (r : Ring) → AreOver r l.fn.entries → plans.first_nonzero r 1 (column_meaning r l.fn.entries) ≡ plans.first_nonzero r (suc l.k) (drop l.k (column_meaning r l.fn.entries))
