use Rattle.fm_limit.proofs.SystemVerdicts.{class_no_verdict, class_yes_verdict, coordinates_fact, entries_verdict, inverting_no_verdict, inverting_yes_verdict, support_verdict, zero_verdict}
use Rattle.fm_limit.proofs.SystemWaist.{killed_through_fact, root_fact, zero_class_fact}
use Rattle.fm_limit.proofs.laws.systems.facts_of_a_system_give_verdicts.Goals as goal

pub returns-clause-zero : goal.returns-clause-zero
returns-clause-zero c = λ p n D X. zero_verdict p n X

pub returns-clause-class : goal.returns-clause-class
returns-clause-class c = λ p n D X. class_yes_verdict p n X

pub returns-clause-never : goal.returns-clause-never
returns-clause-never c = λ p n D X. class_no_verdict p n X

pub returns-clause-moves : goal.returns-clause-moves
returns-clause-moves c = λ p n D X. killed_through_fact p n X

pub returns-clause-coordinates : goal.returns-clause-coordinates
returns-clause-coordinates c = λ p n D X. coordinates_fact p n X

pub returns-clause-inverting : goal.returns-clause-inverting
returns-clause-inverting c = λ p n D X. inverting_yes_verdict p n X

pub returns-clause-not_inverting : goal.returns-clause-not_inverting
returns-clause-not_inverting c = λ p n D X. inverting_no_verdict p n X

pub returns-clause-support : goal.returns-clause-support
returns-clause-support c = λ p n D X. support_verdict p n X

pub returns-clause-annihilators : goal.returns-clause-annihilators
returns-clause-annihilators c = λ p n D X. entries_verdict p n X

pub returns-clause-root : goal.returns-clause-root
returns-clause-root c = λ p n D X. root_fact p n X

pub returns-clause-limit : goal.returns-clause-limit
returns-clause-limit c = λ p n D X. zero_class_fact p n X
