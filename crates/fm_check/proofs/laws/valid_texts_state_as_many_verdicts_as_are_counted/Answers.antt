use Rattle.fm_check.proofs.Counted.{text_counted}
use Rattle.fm_check.proofs.laws.valid_texts_state_as_many_verdicts_as_are_counted.Goals as goal

pub returns : goal.returns
returns c = text_counted
