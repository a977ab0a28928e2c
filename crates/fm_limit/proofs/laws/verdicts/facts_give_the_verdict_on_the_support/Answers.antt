use Rattle.fm_limit.proofs.VerdictLaws.{annihilator_verdict, entries_verdict, support_verdict}
use Rattle.fm_limit.proofs.laws.verdicts.facts_give_the_verdict_on_the_support.Goals as goal

pub returns-clause-members : goal.returns-clause-members
returns-clause-members c = λ p n i D X. support_verdict p n X

pub returns-clause-row : goal.returns-clause-row
returns-clause-row c = λ p n i D X. annihilator_verdict p n X

pub returns-clause-entries : goal.returns-clause-entries
returns-clause-entries c = λ p n i D X. entries_verdict p n X
