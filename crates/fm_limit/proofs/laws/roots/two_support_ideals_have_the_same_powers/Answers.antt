use Rattle.fm_limit.proofs.Roots.{same_powers}
use Rattle.fm_limit.proofs.laws.roots.two_support_ideals_have_the_same_powers.Goals as goal

pub returns : goal.returns
returns c = λ p n i I fs gs a b f. (same_powers p n i I fs gs a b f, same_powers p n i I gs fs b a f)
