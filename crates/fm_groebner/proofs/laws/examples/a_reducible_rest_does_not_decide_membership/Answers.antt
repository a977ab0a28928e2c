use Rattle.fm_groebner.proofs.Examples.{x_rest, x_member, x_reducible}
use Rattle.fm_groebner.proofs.laws.examples.a_reducible_rest_does_not_decide_membership.Goals as goal

pub returns-clause-rest : goal.returns-clause-rest
returns-clause-rest c = x_rest

pub returns-clause-member : goal.returns-clause-member
returns-clause-member c = x_member

pub returns-clause-reducible : goal.returns-clause-reducible
returns-clause-reducible c = x_reducible
