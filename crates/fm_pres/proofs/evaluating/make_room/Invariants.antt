use Rattle.std.proofs.Common.{◌-◌, ◌≤◌, vec_len, length, List}
use Rattle.fm_poly.specs.declared.ring.Ring.{Ring}
use Rattle.fm_report.specs.Parts.{Part}
use Rattle.fm_pres.specs.Kept.{AreValues}
use Rattle.fm_pres.proofs.evaluating.make_room.Given as goal

abbrev pub invariant-loop-values : goal.invariant-loop-values
invariant-loop-values l = (r : Ring) (ps : List Part) → l.k ≤ length ps → AreValues r ps l.initial.values.items → AreValues r ps l.values.items

abbrev pub decreases-loop-values : goal.decreases-loop-values
decreases-loop-values l = l.k - vec_len l.values
