use Rattle.fm_limit.proofs.VerdictLaws.{class_no_verdict, class_yes_verdict}
use Rattle.fm_limit.proofs.Waist.{coordinates_fact, killed_through_fact, zero_class_fact}
use Rattle.fm_limit.proofs.laws.verdicts.facts_give_the_verdict_on_a_class.Goals as goal

pub returns-clause-yes : goal.returns-clause-yes
returns-clause-yes c = λ p n i D X. class_yes_verdict p n X

pub returns-clause-never : goal.returns-clause-never
returns-clause-never c = λ p n i D X. class_no_verdict p n X

pub returns-clause-moves : goal.returns-clause-moves
returns-clause-moves c = λ p n i D X. killed_through_fact p n X

pub returns-clause-limit : goal.returns-clause-limit
returns-clause-limit c = λ p n i D X. zero_class_fact p n X

pub returns-clause-coordinates : goal.returns-clause-coordinates
returns-clause-coordinates c = λ p n i D X. coordinates_fact p n X
