use Rattle.fm_limit.proofs.Principal.{x_at_stage_one, x_squared_at_stage_one}
use Rattle.fm_limit.proofs.PrincipalFacts.{x_verdict}
use Rattle.fm_limit.proofs.laws.examples.the_ideal_of_x_over_two.Goals as goal

pub returns-clause-never : goal.returns-clause-never
returns-clause-never c = x_at_stage_one

pub returns-clause-at_once : goal.returns-clause-at_once
returns-clause-at_once c = x_squared_at_stage_one

pub returns-clause-limit : goal.returns-clause-limit
returns-clause-limit c = x_verdict
