use Rattle.fm_limit.proofs.Principal.{principal_class, principal_killed, principal_resolved, principal_zero}
use Rattle.fm_limit.proofs.PrincipalFacts.{principal_facts, principal_verdict}
use Rattle.fm_limit.proofs.laws.examples.a_principal_ideal_in_degree_one.Goals as goal

pub returns-clause-resolved : goal.returns-clause-resolved
returns-clause-resolved c = principal_resolved

pub returns-clause-classes : goal.returns-clause-classes
returns-clause-classes c = principal_class

pub returns-clause-moves : goal.returns-clause-moves
returns-clause-moves c = principal_killed

pub returns-clause-limit : goal.returns-clause-limit
returns-clause-limit c = principal_zero

pub returns-clause-facts : goal.returns-clause-facts
returns-clause-facts c = principal_facts

pub returns-clause-verdict : goal.returns-clause-verdict
returns-clause-verdict c = principal_verdict
