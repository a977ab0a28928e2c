use Rattle.std.proofs.Common.{◌≤◌, []}
use Rattle.fm_plan.specs.Queries as plans
use Rattle.fm_plan.specs.Tasks.{out_of_units}
use Rattle.fm_poly.specs.Polys.{meaning}
use Rattle.fm_run.specs.declared.task.Name.TheVariants as names
use Rattle.fm_run.specs.declared.task.Side.TheVariants.{Alone}
use Rattle.fm_run.specs.Turns.{repeated}
use Rattle.fm_run.proofs.Following.{Left}
use Rattle.fm_syz.specs.GraphValues.{graph_meaning}
use Rattle.fm_support.specs.Inverting.{AreColons, colons_value, outside_value}
use Rattle.fm_support.proofs.colons.colons_of.Given as goal

abbrev pub invariant-colons : goal.invariant-colons
invariant-colons l = let r = l.k.matrix.ring in record {
  left : Left (out_of_units Alone names.Colon) (plans.colon_turn r (meaning r l.f.terms))
      (repeated (out_of_units Alone names.Colon) (plans.colon_turn r (meaning r l.f.terms)) (record { colons = []; graph = graph_meaning r l.k; proper = outside_value l.fn.proper }) l.initial.work)
      (colons_value r l.k l.c) l.work;
  spent : l.work ≤ l.initial.work;
  colons : AreColons l.k l.c.colons.items;
}

abbrev pub decreases-colons : goal.decreases-colons
decreases-colons l = l.work
