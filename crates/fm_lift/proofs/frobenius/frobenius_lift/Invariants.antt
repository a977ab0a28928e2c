use Rattle.std.proofs.Common.{length, map, drop, ◌≤◌, ◌≡◌, ◌∷◌, ◌++◌, [], suc}
use Rattle.fm_algebra.specs.PolynomialMatrices.{matrix_unit}
use Rattle.fm_mat.specs.Matrices.{matrix_meaning}
use Rattle.fm_plan.specs.Base.{lifting}
use Rattle.fm_lift.specs.Lifts.{AreGraphs, AreInARow, AreMatricesOver, graphs_meaning, matrices_meaning}
use Rattle.fm_lift.proofs.Chains.{Rest}
use Rattle.fm_lift.proofs.LiftChains.{Begins, lift_step}
use Rattle.fm_lift.proofs.frobenius.frobenius_lift.Given as goal

abbrev pub invariant-loop-g : goal.invariant-loop-g
invariant-loop-g l = record {
  ring : l.theta.ring ≡ l.fn.ring;
  rings : AreMatricesOver l.fn.ring l.thetas.items;
  square : l.theta.rows ≡ length l.theta.columns;
  row : AreInARow l.fn.ring (length l.theta.columns) (drop l.g-index (map (λ g. g.now) l.graphs));
  first : Begins (matrix_unit l.fn.ring.prime l.fn.ring.vars 1) (matrices_meaning l.fn.ring l.thetas.items ++ matrix_meaning l.fn.ring l.theta ∷ []);
  run : Rest (lift_step l.fn.ring l.fn.side) (matrices_meaning l.fn.ring l.thetas.items) (matrix_meaning l.fn.ring l.theta) (suc l.number) (graphs_meaning l.fn.ring (drop l.g-index (map (λ g. g.now) l.graphs))) l.work
      (lifting l.fn.ring l.fn.side 1 (matrix_unit l.fn.ring.prime l.fn.ring.vars 1) (graphs_meaning l.fn.ring (map (λ g. g.now) l.graphs)) l.initial.work);
  spent : l.work ≤ l.initial.work;
  count : l.number ≡ l.g-index;
  complete : AreGraphs (drop l.g-index (map (λ g. g.now) l.graphs)) → AreGraphs (map (λ g. g.now) l.graphs);
}
