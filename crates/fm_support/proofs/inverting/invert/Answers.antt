use Rattle.fm_poly.specs.Polys.{meaning}
use Rattle.fm_syz.specs.GraphValues.{graph_meaning}
use Rattle.fm_support.proofs.LeastPowers.{least_told}
use Rattle.fm_support.proofs.inverting.invert.Goals as goal

pub returns-clause-least : goal.returns-clause-least
returns-clause-least c =
    let k = c.args.k.now in
    let r = k.matrix.ring in
    least_told r (meaning r c.args.f.now.terms) (graph_meaning r k) c.matrix-matrix.ensures.complete.completed c.power_or_colons.result c.args.work.now c.power_or_colons.new.work c.power_or_colons.ensures.follows
