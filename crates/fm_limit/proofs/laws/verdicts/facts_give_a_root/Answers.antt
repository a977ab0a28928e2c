use Rattle.fm_limit.proofs.VerdictLaws.{root_verdict}
use Rattle.fm_limit.proofs.laws.verdicts.facts_give_a_root.Goals as goal

pub returns : goal.returns
returns c = λ p n i D X. root_verdict p n X
