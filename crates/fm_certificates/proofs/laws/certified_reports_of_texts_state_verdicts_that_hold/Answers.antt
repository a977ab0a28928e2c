use Rattle.fm_certificates.proofs.Texts.{text_holds}
use Rattle.fm_certificates.proofs.laws.certified_reports_of_texts_state_verdicts_that_hold.Goals as goal

pub returns : goal.returns
returns c = λ text units q few enough h lines front back e. text_holds text units q few enough h lines front back e
