use Rattle.fm_limit.proofs.ColonFacts.{colon_fact}
use Rattle.fm_limit.proofs.VerdictLaws.{inverting_no_verdict, inverting_yes_verdict}
use Rattle.fm_limit.proofs.Waist.{stable_shape, vanishes_fact}
use Rattle.fm_limit.proofs.laws.verdicts.facts_give_the_verdict_on_inverting.Goals as goal

pub returns-clause-yes : goal.returns-clause-yes
returns-clause-yes c = λ p n i D X. inverting_yes_verdict p n X

pub returns-clause-never : goal.returns-clause-never
returns-clause-never c = λ p n i D X. inverting_no_verdict p n X

pub returns-clause-exactly : goal.returns-clause-exactly
returns-clause-exactly c = λ p n i D X. vanishes_fact p n X

pub returns-clause-colons : goal.returns-clause-colons
returns-clause-colons c = λ p n i D X. λ f Cs k C. colon_fact p n (stable_shape p n X) C
