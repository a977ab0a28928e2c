use Rattle.std.proofs.Common.{◌-◌}
use Rattle.fm_pres.proofs.Values.{value_read}
use Rattle.fm_pres.proofs.evaluating.kept.Goals as goal

pub returns : goal.returns
returns c = λ r ps x. value_read r ps c.args.values.now (c.args.k - 1) c.index-values-k.result c.in-Some.m x c.requires.there c.index-values-k.is c.in-Some.is
