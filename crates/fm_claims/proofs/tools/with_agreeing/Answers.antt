use Rattle.std.proofs.Common.{◌≡◌, List, [], ◌∷◌, ◌++◌, sym, ap, ◌∙◌, subst}
use Rattle.fm_judge.specs.Claims.{agreeing}
use Rattle.fm_conditions.specs.declared.condition.Condition.{Condition}
use Rattle.fm_conditions.specs.Meanings.{AreConditions, AreFormable, logs_of}
use Rattle.fm_claims.specs.Views.{conditions_of}
use Rattle.fm_claims.proofs.tools.with_agreeing.Goals as goal

pub returns-clause-same : goal.returns-clause-same
returns-clause-same c = λ r ps ls.
    let one : c.push.new.self.items ≡ c.args.condition ∷ [] = c.in_ok-push.ensures.items ∙ ap (λ (cs : List Condition). cs ++ c.args.condition ∷ []) c.new-conditions.ensures.items in
    c.in_ok-push_agreeing.ensures.same r ps ls ∙ ap (λ (cs : List Condition). conditions_of r ps (logs_of ps ls) cs ++ agreeing c.args.told c.args.found) one

pub returns-clause-testable : goal.returns-clause-testable
returns-clause-testable c = λ r ps ls i.
    let one : c.push.new.self.items ≡ c.args.condition ∷ [] = c.in_ok-push.ensures.items ∙ ap (λ (cs : List Condition). cs ++ c.args.condition ∷ []) c.new-conditions.ensures.items in
    c.in_ok-push_agreeing.ensures.testable r ps ls (subst (λ (cs : List Condition). AreConditions r ps ls cs) (sym one) (i, tt))

pub returns-clause-formable : goal.returns-clause-formable
returns-clause-formable c = λ r ps ls f.
    let one : c.push.new.self.items ≡ c.args.condition ∷ [] = c.in_ok-push.ensures.items ∙ ap (λ (cs : List Condition). cs ++ c.args.condition ∷ []) c.new-conditions.ensures.items in
    c.in_ok-push_agreeing.ensures.formable r ps ls (subst (λ (cs : List Condition). AreFormable r ps (logs_of ps ls) cs) (sym one) (f, λ h. tt))
