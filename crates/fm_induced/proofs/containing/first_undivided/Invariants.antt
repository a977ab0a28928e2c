use Rattle.std.proofs.Common.{◌≡◌, ◌≤◌, ◌+◌, suc, length}
use Rattle.fm_complete.specs.Divisions as divisions
use Rattle.fm_mat.specs.Matrices.{column_meaning}
use Rattle.fm_plan.specs.Queries.{contained_from}
use Rattle.fm_vec.specs.Components.{AreOver}
use Rattle.fm_induced.proofs.containing.first_undivided.Given as goal

abbrev pub invariant-generators : goal.invariant-generators
invariant-generators l = record {
  over : AreOver l.ring l.left;
  count : l.number + length l.left ≡ length l.initial.left;
  run : contained_from l.ring (divisions.terms_of l.members) (suc l.number) (column_meaning l.ring l.left) l.work
      ≡ contained_from l.ring (divisions.terms_of l.members) 1 (column_meaning l.ring l.initial.left) l.initial.work;
  spent : l.work ≤ l.initial.work;
}

abbrev pub decreases-generators : goal.decreases-generators
decreases-generators l = length l.left
