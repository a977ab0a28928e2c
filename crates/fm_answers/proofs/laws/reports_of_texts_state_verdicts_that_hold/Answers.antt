use Rattle.fm_answers.proofs.Texts.{text_holds}
use Rattle.fm_answers.proofs.laws.reports_of_texts_state_verdicts_that_hold.Goals as goal

pub returns : goal.returns
returns c = λ text units q few enough h front back e. text_holds text units q few enough h front back e
