use Rattle.fm_limit.proofs.IteratedWords.{ext_is_module, iterated_is_given}
use Rattle.fm_limit.proofs.laws.instances.iterated_local_cohomology_is_a_direct_system.Goals as goal

pub returns-clause-module : goal.returns-clause-module
returns-clause-module c = λ p n i I Z N U r x. ext_is_module p n r x

pub returns-clause-system : goal.returns-clause-system
returns-clause-system c = λ p n j J G r H. iterated_is_given p n r H
