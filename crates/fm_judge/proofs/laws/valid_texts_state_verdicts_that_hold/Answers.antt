use Rattle.fm_judge.proofs.Texts.{text_holds}
use Rattle.fm_judge.proofs.laws.valid_texts_state_verdicts_that_hold.Goals as goal

pub returns : goal.returns
returns c = text_holds
