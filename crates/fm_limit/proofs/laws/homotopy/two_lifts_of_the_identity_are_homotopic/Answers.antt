use Rattle.fm_limit.proofs.HomotopyWords.{identities_words}
use Rattle.fm_limit.proofs.laws.homotopy.two_lifts_of_the_identity_are_homotopic.Goals as goal

pub returns : goal.returns
returns c = λ p n i I J r s. identities_words p n r s
