use Rattle.fm_plan.proofs.WithinBases.{base_within}
use Rattle.fm_plan.proofs.WithinMaps.{plan_within_bound}
use Rattle.fm_plan.proofs.laws.what_a_plan_finds_is_within_the_bound.Goals as goal

pub returns-clause-base : goal.returns-clause-base
returns-clause-base c = λ r side i fs units left b h e. base_within r side i fs h units left b e

pub returns-clause-found : goal.returns-clause-found
returns-clause-found c = λ r q units left x h e. plan_within_bound r q units left x h e
