use Rattle.std.proofs.Common.{length}
use Rattle.fm_poly.proofs.collecting.+collect.Given as goal

abbrev pub decreases-collect : goal.decreases-collect
decreases-collect l = length l.terms.now
