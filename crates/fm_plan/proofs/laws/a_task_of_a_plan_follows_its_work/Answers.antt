use Rattle.fm_plan.proofs.Following.{plan_follows}
use Rattle.fm_plan.proofs.laws.a_task_of_a_plan_follows_its_work.Goals as goal

pub returns : goal.returns
returns g c = λ view side name number work old new answer h. plan_follows view side name number old new work answer h
