use Rattle.fm_judge.proofs.laws.a_small_text_is_valid.Goals as goal
use Rattle.fm_judge.proofs.SmallTexts.{small_judged}

pub returns : goal.returns
returns c = small_judged
