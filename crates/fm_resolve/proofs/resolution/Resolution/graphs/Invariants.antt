use Rattle.std.proofs.Common.{map, take, ◌≡◌}
use Rattle.fm_resolve.specs.Resolutions.{graphs_of}
use Rattle.fm_resolve.proofs.resolution.Resolution.graphs.Given as goal

abbrev pub invariant-loop-j : goal.invariant-loop-j
invariant-loop-j l = map (λ g. g.now) l.graphs.items ≡ take l.j (graphs_of l.fn.self)
