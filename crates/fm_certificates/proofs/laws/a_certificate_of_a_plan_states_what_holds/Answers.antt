use Rattle.fm_certificates.proofs.Reports.{query_good}
use Rattle.fm_certificates.proofs.laws.a_certificate_of_a_plan_states_what_holds.Goals as goal

pub returns-clause-writable : goal.returns-clause-writable
returns-clause-writable c = λ q units k z sound small enough few of low short lines. (query_good q sound small k few units enough z of low short lines).writable

pub returns-clause-holds : goal.returns-clause-holds
returns-clause-holds c = λ q units k z sound small enough few of low short lines. (query_good q sound small k few units enough z of low short lines).holds
