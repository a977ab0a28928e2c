use Rattle.fm_plan.proofs.Refusals.{plan_refuses}
use Rattle.fm_plan.proofs.laws.the_numbers_of_a_refusal_are_within_its_units.Goals as goal

pub returns : goal.returns
returns c = λ r q units left why e. plan_refuses r q units left why e
