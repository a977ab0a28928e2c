use Rattle.std.proofs.Common.{◌≡◌, take}
use Rattle.fm_poly.specs.Steps.{scaled_terms}
use Rattle.fm_poly.proofs.scaling.scaled.Given as goal

abbrev pub invariant-loop-t : goal.invariant-loop-t
invariant-loop-t l = l.out.items ≡ scaled_terms l.ring l.c (take l.t-index l.f)
