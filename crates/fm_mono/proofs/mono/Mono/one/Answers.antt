use Rattle.fm_mono.proofs.Packing.{packed_one, take_zeros}
use Rattle.fm_mono.proofs.mono.Mono.one.Goals as goal

pub invariant_of-result : goal.invariant_of-result
invariant_of-result c = packed_one c.args.vars c.requires.some c.requires.few

pub returns : goal.returns
returns c = take_zeros c.args.vars c.requires.few
