-- Every plan that ends with an answer answers rightly.
use Rattle.std.proofs.Common.{ℕ}
use Rattle.fm_limit.specs.Verdicts.{RestsOn, Holds}
use Rattle.fm_poly.specs.declared.ring.Ring.{Ring}
use Rattle.fm_run.proofs.Ends.{Ends}
use Rattle.fm_plan.specs.Queries.{Found, Query, ask_zero, ask_class, ask_root, ask_invert, ask_support, ask_map, ask_member, ask_resolution, ask_ext, plan, verdict}
use Rattle.fm_plan.proofs.Answers.{zero_right, root_right, support_right, member_right, resolution_right, ext_right}
use Rattle.fm_plan.proofs.Classes.{class_right}
use Rattle.fm_plan.proofs.Inverting.{invert_right}
use Rattle.fm_plan.proofs.Mapping.{map_right}

pub plan_right : (r : Ring) (q : Query r) (units left : ℕ) (x : Found r) → Ends (plan r q units) x left
    → RestsOn r.prime r.vars (verdict r x) × Holds r.prime r.vars (verdict r x)
plan_right r (ask_zero i fs) = zero_right r i fs
plan_right r (ask_class i fs e z) = class_right r i fs e z
plan_right r (ask_root i fs) = root_right r i fs
plan_right r (ask_invert i fs f) = invert_right r i fs f
plan_right r (ask_support i fs) = support_right r i fs
plan_right r (ask_map i fs gs) = map_right r i fs gs
plan_right r (ask_member fs f) = member_right r fs f
plan_right r (ask_resolution i fs) = resolution_right r i fs
plan_right r (ask_ext i fs) = ext_right r i fs
