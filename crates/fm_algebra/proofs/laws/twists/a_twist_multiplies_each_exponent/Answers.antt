use Rattle.fm_algebra.proofs.TwistWords.{twist_at_multiple, twist_elsewhere, twist_of_terms}
use Rattle.fm_algebra.proofs.laws.twists.a_twist_multiplies_each_exponent.Goals as goal

pub returns-clause-multiple : goal.returns-clause-multiple
returns-clause-multiple c = twist_at_multiple

pub returns-clause-elsewhere : goal.returns-clause-elsewhere
returns-clause-elsewhere c = twist_elsewhere

pub returns-clause-terms : goal.returns-clause-terms
returns-clause-terms c = twist_of_terms
