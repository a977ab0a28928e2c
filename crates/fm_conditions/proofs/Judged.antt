-- All conditions of a line.
use Rattle.std.proofs.Common.{◌≡◌, true, false, List, Result, Err}
use Rattle.std.specs.List.{list_all}
use Rattle.fm_poly.specs.declared.ring.Ring.{Ring}
use Rattle.fm_parts.specs.Replays.{Shape, needs}
use Rattle.fm_parts.specs.Conditions.{Condition, shapes_fit, all_hold, judged}
use Rattle.fm_conditions.specs.declared.why.Refused.{Refused}
use Rattle.fm_conditions.specs.Reasons.{Judges}
use Rattle.fm_conditions.proofs.Judgements.{end_view, judged_next, ends_here, need_met, need_failed}

module _ (r : Ring) (cs : List Condition) where
  pub no_shapes : list_all shapes_fit cs ≡ false → judged r cs ≡ Err Shape
  unfolding judged
  no_shapes e = ends_here (needs (list_all shapes_fit cs) Shape) Shape (λ (u : Unit {0}). all_hold r cs) (need_failed (list_all shapes_fit cs) Shape e)

  pub shapes_met : (x : Result (Unit {0}) Refused) → list_all shapes_fit cs ≡ true → Judges end_view x (all_hold r cs) → Judges end_view x (judged r cs)
  unfolding judged
  shapes_met x e h = judged_next end_view x (needs (list_all shapes_fit cs) Shape) tt (λ (u : Unit {0}). all_hold r cs) (need_met (list_all shapes_fit cs) Shape e) h
