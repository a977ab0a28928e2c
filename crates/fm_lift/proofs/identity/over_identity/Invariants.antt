use Rattle.std.proofs.Common.{length, map, drop, ◌≤◌, ◌≡◌, ◌∷◌, ◌++◌, [], suc}
use Rattle.fm_algebra.specs.PolynomialMatrices.{matrix_unit}
use Rattle.fm_mat.specs.Matrices.{matrix_meaning}
use Rattle.fm_plan.specs.Queries.{over_identity}
use Rattle.fm_lift.specs.Lifts.{AreAligned, AreGraphs, AreMatricesOver, graphs_meaning, matrices_meaning}
use Rattle.fm_lift.proofs.Chains.{Rest}
use Rattle.fm_lift.proofs.LiftChains.{Begins}
use Rattle.fm_lift.proofs.IdentityChains.{pairs, identity_step}
use Rattle.fm_lift.proofs.identity.over_identity.Given as goal

abbrev pub invariant-loop-k : goal.invariant-loop-k
invariant-loop-k l = record {
  ring : l.lambda.ring ≡ l.fn.ring;
  rings : AreMatricesOver l.fn.ring l.lambdas.items;
  row : AreAligned l.fn.ring l.lambda.rows (length l.lambda.columns) (drop l.k (map (λ d. d.now) l.differentials)) (drop l.k (map (λ g. g.now) l.graphs));
  first : Begins (matrix_unit l.fn.ring.prime l.fn.ring.vars 1) (matrices_meaning l.fn.ring l.lambdas.items ++ matrix_meaning l.fn.ring l.lambda ∷ []);
  run : Rest (identity_step l.fn.ring) (matrices_meaning l.fn.ring l.lambdas.items) (matrix_meaning l.fn.ring l.lambda) (suc l.number)
      (pairs l.fn.ring (drop l.k (map (λ d. d.now) l.differentials)) (drop l.k (map (λ g. g.now) l.graphs))) l.work
      (over_identity l.fn.ring 1 (matrix_unit l.fn.ring.prime l.fn.ring.vars 1) (matrices_meaning l.fn.ring (map (λ d. d.now) l.differentials)) (graphs_meaning l.fn.ring (map (λ g. g.now) l.graphs)) l.initial.work);
  spent : l.work ≤ l.initial.work;
  count : l.number ≡ l.k;
  complete : AreGraphs (drop l.k (map (λ g. g.now) l.graphs)) → AreGraphs (map (λ g. g.now) l.graphs);
}
