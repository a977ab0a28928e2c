use Rattle.std.proofs.Common.{length, suc, ◌+◌, ◌≡◌}
use Rattle.fm_chain.specs.Chains.{AreMembersOf}
use Rattle.fm_certify.proofs.ChainedLinks.{AreLinksLeft}
use Rattle.fm_certify.proofs.chains.push_chain.Given as goal

abbrev pub invariant-links : goal.invariant-links
invariant-links l = record {
  left : AreLinksLeft l.fn.u l.fn.relations l.fn.chain l.initial.claims.items l.claims.items l.number l.graph l.links l.growth;
  ring : l.graph.matrix.ring ≡ l.fn.relations.matrix.ring;
  fit : AreMembersOf l.fn.relations.matrix.ring l.fn.relations.matrix.rows l.links;
  count : length l.links ≡ suc (length l.growth);
  number : l.number + length l.growth ≡ length l.fn.chain.growth;
}

abbrev pub decreases-links : goal.decreases-links
decreases-links l = length l.links
