use Rattle.fm_answers.proofs.Reports.{query_good}
use Rattle.fm_answers.proofs.laws.a_report_of_a_plan_states_what_holds.Goals as goal

pub returns-clause-writable : goal.returns-clause-writable
returns-clause-writable c = λ q units k z sound small enough few of low short. (query_good q sound small k few units enough z of low short).writable

pub returns-clause-holds : goal.returns-clause-holds
returns-clause-holds c = λ q units k z sound small enough few of low short. (query_good q sound small k few units enough z of low short).holds
