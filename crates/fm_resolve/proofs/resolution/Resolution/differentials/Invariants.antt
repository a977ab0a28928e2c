use Rattle.std.proofs.Common.{map, take, ◌≡◌}
use Rattle.fm_syz.specs.GraphValues.{GraphValue}
use Rattle.fm_resolve.specs.Resolutions.{graphs_of}
use Rattle.fm_resolve.proofs.resolution.Resolution.differentials.Given as goal

abbrev pub invariant-loop-j : goal.invariant-loop-j
invariant-loop-j l = map (λ d. d.now) l.differentials.items ≡ take l.j (map (λ (g : GraphValue). g.matrix) (graphs_of l.fn.self))
