use Rattle.std.proofs.Common.{◌≡◌, length}
use Rattle.fm_certificates.specs.Certificates.{graphs_found, last_but_one}
use Rattle.fm_support.specs.Inverting.{AreColons, preimages_meaning}
use Rattle.fm_syz.specs.GraphValues.{graph_meaning}
use Rattle.fm_certify.proofs.colons.before_the_last.Given as goal

abbrev pub invariant-colons : goal.invariant-colons
invariant-colons l = let r = l.fn.first.matrix.ring in record {
  graph : last_but_one r (graph_meaning r l.before) (graphs_found r (preimages_meaning r l.left))
      ≡ last_but_one r (graph_meaning r l.fn.first) (graphs_found r (preimages_meaning r l.fn.colons));
  ring : AreColons l.fn.first l.fn.colons → (l.before.matrix.ring ≡ r) × AreColons l.fn.first l.left;
}

abbrev pub decreases-colons : goal.decreases-colons
decreases-colons l = length l.left
