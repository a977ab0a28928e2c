use Rattle.fm_limit.proofs.HomotopyWords.{lifts_words}
use Rattle.fm_limit.proofs.laws.homotopy.two_frobenius_lifts_are_homotopic.Goals as goal

pub returns : goal.returns
returns c = lifts_words
