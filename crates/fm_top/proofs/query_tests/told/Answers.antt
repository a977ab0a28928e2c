use Rattle.std.proofs.Common.{sym, subst, slice_get, Some, ◌≡◌}
use Rattle.fm_vec.specs.Components.{AreOver}
use Rattle.fm_top.proofs.Ideals.{over_at}
use Rattle.fm_top.proofs.query_tests.told.Goals as goal

pub decide_zero-requires-clause-generators : goal.decide_zero-requires-clause-generators
decide_zero-requires-clause-generators c =
    let q = c.in-Ok.problem in
    subst (AreOver q.ring) (sym c.as_slice-generators.ensures) (over_at q.ring q.ideals _ _ (sym c.in-Some.ensures.value) c.in-Ok.ensures.sound.ideals)

pub compute_support-requires-clause-generators : goal.compute_support-requires-clause-generators
compute_support-requires-clause-generators c =
    let q = c.in-Ok.problem in
    subst (AreOver q.ring) (sym c.as_slice-generators.ensures) (over_at q.ring q.ideals _ _ (sym c.in-Some.ensures.value) c.in-Ok.ensures.sound.ideals)
