use Rattle.std.proofs.Common.{length}
use Rattle.fm_poly.proofs.multiplying.+product.Given as goal

abbrev pub decreases-product : goal.decreases-product
decreases-product l = length l.f.now
