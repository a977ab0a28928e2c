use Rattle.std.proofs.Common.{map, take, ◌≡◌}
use Rattle.fm_chain.specs.Chains.{member_graphs}
use Rattle.fm_chain.proofs.chain.Chain.graphs.Given as goal

abbrev pub invariant-loop-s : goal.invariant-loop-s
invariant-loop-s l = map (λ g. g.now) l.graphs.items ≡ take l.s (member_graphs l.fn.relations l.fn.self.links)
