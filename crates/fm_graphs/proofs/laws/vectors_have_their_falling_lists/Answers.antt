use Rattle.std.proofs.Common.{◌∙◌}
use Rattle.fm_graphs.specs.Listing.{terms_of}
use Rattle.fm_complete.proofs.Meanings.{meaning_is}
use Rattle.fm_graphs.proofs.Listing.{terms_vector, terms_mean, terms_back}
use Rattle.fm_graphs.proofs.laws.vectors_have_their_falling_lists.Goals as goal

pub returns-clause-falls : goal.returns-clause-falls
returns-clause-falls c = terms_vector

pub returns-clause-means : goal.returns-clause-means
returns-clause-means c = λ r m v l. meaning_is r m (terms_of r v) ∙ terms_mean r m v l

pub returns-clause-back : goal.returns-clause-back
returns-clause-back c = terms_back
