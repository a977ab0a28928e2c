use Rattle.std.proofs.Common.{sym, subst, slice_get, Some, ◌≡◌}
use Rattle.fm_vec.specs.Components.{AreOver}
use Rattle.fm_top.proofs.Ideals.{over_at}
use Rattle.fm_top.proofs.resolution_tests.widths.Goals as goal

pub resolve-requires-clause-generators : goal.resolve-requires-clause-generators
resolve-requires-clause-generators c =
    let q = c.in-Ok.problem in
    subst (AreOver q.ring) (sym c.as_slice-generators.ensures) (over_at q.ring q.ideals _ _ (sym c.in-Some.ensures.value) c.in-Ok.ensures.sound.ideals)
