use Rattle.fm_limit.proofs.SystemMaps.{one_exactly_fact, onto_after_fact}
use Rattle.fm_limit.proofs.SystemMapVerdicts.{map_verdict, onto_no_verdict, onto_yes_verdict}
use Rattle.fm_limit.proofs.laws.systems.facts_of_a_map_give_verdicts.Goals as goal

pub returns-clause-map : goal.returns-clause-map
returns-clause-map c = λ p n F X. map_verdict p n X.source X.target X.map

pub returns-clause-onto : goal.returns-clause-onto
returns-clause-onto c = λ p n F X. onto_yes_verdict p n X.source X.target X.map

pub returns-clause-not_onto : goal.returns-clause-not_onto
returns-clause-not_onto c = λ p n F X. onto_no_verdict p n X.source X.target X.map

pub returns-clause-one_to_one_exactly : goal.returns-clause-one_to_one_exactly
returns-clause-one_to_one_exactly c = λ p n F X. one_exactly_fact p n X.source X.target X.map

pub returns-clause-onto_after : goal.returns-clause-onto_after
returns-clause-onto_after c = λ p n F X Ws r W rep. onto_after_fact p n X.source X.target X.map W rep
