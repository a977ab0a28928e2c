use Rattle.std.proofs.Common.{List, [], ◌∷◌, ◌++◌}
use Rattle.std.proofs.lemmas.List.{map-append}
use Rattle.fm_poly.specs.declared.ring.Ring.{Ring}
use Rattle.fm_report.specs.Parts.{Part}
use Rattle.fm_conditions.specs.declared.condition.Condition.{Condition}
use Rattle.fm_conditions.specs.declared.condition.Condition.TheVariants.{Agrees}
use Rattle.fm_conditions.specs.declared.kept_log.KeptLog.{KeptLog}
use Rattle.fm_conditions.specs.Meanings.{AreConditions, AreFormable, IsCondition, IsFormable, condition_of, logs_of}
use Rattle.fm_claims.proofs.tools.push_agreeing.Goals as goal

-- one condition more
module _ (r : Ring) (ps : List Part) (ls : List KeptLog) where
  conditions_more : (cs : List Condition) (c : Condition) → AreConditions r ps ls cs → IsCondition r ps ls c → AreConditions r ps ls (cs ++ c ∷ [])
  conditions_more [] c a i = (i, tt)
  conditions_more (d ∷ cs) c a i = (a.0, conditions_more cs c a.1 i)

  formable_more : (cs : List Condition) (c : Condition) → AreFormable r ps (logs_of ps ls) cs → IsFormable r ps c → AreFormable r ps (logs_of ps ls) (cs ++ c ∷ [])
  formable_more [] c a i = (i, λ h. tt)
  formable_more (d ∷ cs) c a i = (a.0, λ h. formable_more cs c (a.1 h) i)

pub returns-clause-same : goal.returns-clause-same
returns-clause-same c = λ r ps ls.
    rw (c.in-Some.is, c.in_ok-push.ensures.items) (map-append (condition_of r ps (logs_of ps ls)) c.args.out.now.items (Agrees c.in-Some.told c.args.found ∷ []))

pub returns-clause-testable : goal.returns-clause-testable
returns-clause-testable c = λ r ps ls a.
    rw c.in_ok-push.ensures.items (conditions_more r ps ls c.args.out.now.items (Agrees c.in-Some.told c.args.found) a tt)

pub returns-clause-formable : goal.returns-clause-formable
returns-clause-formable c = λ r ps ls a.
    rw c.in_ok-push.ensures.items (formable_more r ps ls c.args.out.now.items (Agrees c.in-Some.told c.args.found) a tt)
