use Rattle.fm_text.proofs.TermSums.{sum_is}
use Rattle.fm_text.proofs.polynomials.sum_of.Goals as goal

pub returns : goal.returns
returns c = sum_is c.args.ring _ c.args.terms.now c.in_ok-sum.ensures.ring c.terms-falling.ensures.canonical c.in_ok-sum.ensures.sum c.requires
