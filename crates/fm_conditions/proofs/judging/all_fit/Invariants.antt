use Rattle.std.proofs.Common.{◌≡◌, length, map}
use Rattle.std.specs.List.{list_all}
use Rattle.fm_parts.specs.Conditions.{shapes_fit}
use Rattle.fm_pres.specs.Tables.{parts_in}
use Rattle.fm_conditions.specs.Meanings.{AreConditions, condition_of, logs_of}
use Rattle.fm_conditions.proofs.judging.all_fit.Given as goal

abbrev pub invariant-conditions : goal.invariant-conditions
invariant-conditions l =
    let r = l.table.ring in
    let ps = parts_in l.table in
    AreConditions r ps l.logs l.left
    × (list_all shapes_fit (map (condition_of r ps (logs_of ps l.logs)) l.left) ≡ list_all shapes_fit (map (condition_of r ps (logs_of ps l.logs)) l.initial.left))

abbrev pub decreases-conditions : goal.decreases-conditions
decreases-conditions l = length l.left
