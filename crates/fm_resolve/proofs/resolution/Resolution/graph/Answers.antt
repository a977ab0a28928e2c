use Rattle.std.proofs.Common.{arith, ◌-◌, ◌≡◌, Some, length, slice_get, refl, ap, subst}
use Rattle.fm_resolve.specs.Resolutions.{ResolutionValue, AreExactFrom, graphs_of}
use Rattle.fm_resolve.proofs.Stages.{graph_at, ring_at}
use Rattle.fm_resolve.proofs.resolution.Resolution.graph.Goals as goal

pub returns-clause-same : goal.returns-clause-same
returns-clause-same c =
    let high = c.requires.high in
    let low = c.requires.low in
    let other = c.if-j-eq1.false in
    let long = ap (λ (x : ResolutionValue). length x.next) c.self.view_is in
    subst (λ (x : ResolutionValue). slice_get (graphs_of x) (c.args.j - 1) ≡ Some c.graph.result.now) c.self.view_is
    (graph_at c.self.inside.first c.self.inside.next.items c.args.j c.index.result.now c.graph.result.now (omega (arith, low, other)) (omega (arith, high, long)) c.index.ensures c.graph.ensures)

pub returns-clause-ring : goal.returns-clause-ring
returns-clause-ring c =
    let x = c.args.self.now in
    let same = c.self.view_is in
    ring_at x.first.matrix.ring x.first x.next refl (subst (λ (x : ResolutionValue). AreExactFrom x.first x.next) same c.self.invariant.exact) (c.args.j - 1) c.graph.result.now (returns-clause-same c)
