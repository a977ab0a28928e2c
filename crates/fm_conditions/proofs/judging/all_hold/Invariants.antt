use Rattle.std.proofs.Common.{◌≡◌, length, map, true}
use Rattle.std.specs.List.{list_all}
use Rattle.fm_parts.specs.Conditions.{shapes_fit, all_hold}
use Rattle.fm_pres.specs.Tables.{parts_in}
use Rattle.fm_conditions.specs.Meanings.{AreConditions, AreFormable, condition_of, logs_of}
use Rattle.fm_conditions.proofs.judging.all_hold.Given as goal

abbrev pub invariant-conditions : goal.invariant-conditions
invariant-conditions l =
    let t = l.fn.table in
    let ps = parts_in t in
    let condition = condition_of t.ring ps (logs_of ps l.logs) in record {
      same : l.table ≡ t;
      conditions : AreConditions t.ring ps l.logs l.left;
      formable : AreFormable t.ring ps (logs_of ps l.logs) l.left;
      fit : list_all shapes_fit (map condition l.left) ≡ true;
      whole : all_hold t.ring (map condition l.left) ≡ all_hold t.ring (map condition l.initial.left);
    }

abbrev pub decreases-conditions : goal.decreases-conditions
decreases-conditions l = length l.left
