use Rattle.std.proofs.Common.{◌≡◌, ◌≤◌, suc, drop}
use Rattle.fm_complete.specs.Bases.{completion_value}
use Rattle.fm_complete.specs.Completions.{with_inputs}
use Rattle.fm_complete.specs.Divisions.{terms_of}
use Rattle.fm_complete.specs.Standing.{AreOfShape, AreReady, AreStanding, ArePending, values}
use Rattle.fm_complete.proofs.completing.take_inputs.Given as goal

abbrev pub invariant-loop-k : goal.invariant-loop-k
invariant-loop-k l = record {
  inputs : AreOfShape l.ring l.rows (values (drop l.k l.inputs));
  run : with_inputs l.ring (suc l.k) (terms_of (values (drop l.k l.inputs))) (completion_value l.c) l.work ≡ with_inputs l.ring 1 (terms_of (values l.inputs)) (completion_value l.initial.c) l.initial.work;
  spent : l.work ≤ l.initial.work;
  standing : AreStanding l.ring l.rows l.c.members.items;
  ready : AreReady l.ring l.rows l.c.members.items l.c.heads l.c.tails.items;
  pairs : ArePending l.ring l.c.members.items l.c.pending;
}
