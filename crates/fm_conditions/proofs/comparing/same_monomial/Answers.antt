use Rattle.std.proofs.Common.{◌∙◌}
use Rattle.fm_conditions.proofs.Comparisons.{packed_same}
use Rattle.fm_conditions.proofs.comparing.same_monomial.Goals as goal

pub returns : goal.returns
returns c = c.eq.ensures ∙ packed_same c.args.a.now c.args.b.now
