use Rattle.fm_limit.proofs.SmallModules.{modulo_facts, modulo_verdict, x_module}
use Rattle.fm_limit.proofs.laws.worked.the_ring_modulo_one_element.Goals as goal

pub returns-clause-facts : goal.returns-clause-facts
returns-clause-facts c = modulo_facts

pub returns-clause-verdict : goal.returns-clause-verdict
returns-clause-verdict c = modulo_verdict

pub returns-clause-x_over_two : goal.returns-clause-x_over_two
returns-clause-x_over_two c = x_module
