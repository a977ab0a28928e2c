use Rattle.fm_limit.proofs.InducedFacts.{classes_fact, one_map_fact, one_exactly_fact, onto_repeat_fact, zero_map_fact}
use Rattle.fm_limit.proofs.VerdictLaws.{map_verdict, onto_no_verdict, onto_yes_verdict}
use Rattle.fm_limit.proofs.laws.verdicts.facts_give_the_verdict_on_an_induced_map.Goals as goal

pub returns-clause-map : goal.returns-clause-map
returns-clause-map c = λ p n i F X. map_verdict p n X.source X.target X.map

pub returns-clause-onto : goal.returns-clause-onto
returns-clause-onto c = λ p n i F X. onto_yes_verdict p n X.source X.target X.map

pub returns-clause-not_onto : goal.returns-clause-not_onto
returns-clause-not_onto c = λ p n i F X. onto_no_verdict p n X.source X.target X.map

pub returns-clause-classes : goal.returns-clause-classes
returns-clause-classes c = λ p n i F X. classes_fact p n X.source X.target X.map

pub returns-clause-zero : goal.returns-clause-zero
returns-clause-zero c = λ p n i F X. zero_map_fact p n X.source X.target X.map

pub returns-clause-one_to_one : goal.returns-clause-one_to_one
returns-clause-one_to_one c = λ p n i F X. one_map_fact p n X.source X.target X.map

pub returns-clause-onto_exactly : goal.returns-clause-onto_exactly
returns-clause-onto_exactly c = λ p n i F X. λ Ws r W rep. onto_repeat_fact p n X.source X.target X.map W rep

pub returns-clause-one_to_one_exactly : goal.returns-clause-one_to_one_exactly
returns-clause-one_to_one_exactly c = λ p n i F X. one_exactly_fact p n X.source X.target X.map
