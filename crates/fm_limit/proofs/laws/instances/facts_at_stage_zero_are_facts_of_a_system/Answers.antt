use Rattle.fm_limit.proofs.InducedFacts.{inclusion_facts}
use Rattle.fm_limit.proofs.GivenSystems.{given_facts, kernel_facts, module_facts}
use Rattle.fm_limit.proofs.Waist.{degree_facts}
use Rattle.fm_limit.proofs.laws.instances.facts_at_stage_zero_are_facts_of_a_system.Goals as goal

pub returns-clause-degree : goal.returns-clause-degree
returns-clause-degree c = λ p n i D X. degree_facts p n X

pub returns-clause-module : goal.returns-clause-module
returns-clause-module c = λ p n G Ks t X. module_facts p n X

pub returns-clause-preimage : goal.returns-clause-preimage
returns-clause-preimage c = λ p n G C X. given_facts p n X

pub returns-clause-kernel : goal.returns-clause-kernel
returns-clause-kernel c = λ p n G C X. kernel_facts p n X

pub returns-clause-map : goal.returns-clause-map
returns-clause-map c = λ p n i F X. record { source = degree_facts p n X.source; target = degree_facts p n X.target; map = inclusion_facts p n X.source X.target X.map }
