use Rattle.fm_limit.proofs.VerdictLaws.{zero_verdict}
use Rattle.fm_limit.proofs.laws.verdicts.facts_give_the_verdict_on_the_limit.Goals as goal

pub returns : goal.returns
returns c = λ p n i D X. zero_verdict p n X
