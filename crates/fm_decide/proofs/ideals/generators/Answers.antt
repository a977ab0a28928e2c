use Rattle.std.proofs.Common.{All, length, subst, sym, ◌<◌}
use Rattle.std.proofs.lemmas.List.Elements.{All-get_or}
use Rattle.fm_problem.specs.Sound.{IsIdealOf}
use Rattle.fm_vec.specs.Components.{AreOver}
use Rattle.fm_decide.proofs.SoundIdeals.{are_over}
use Rattle.fm_decide.proofs.ideals.generators.Goals as goal

pub returns-clause-over : goal.returns-clause-over
returns-clause-over c =
    let q = c.args.problem.now in
    let all = subst (All (IsIdealOf q.ring)) (sym c.as_slice.ensures) c.requires.problem.ideals in
    let low = subst (λ is. c.args.ideal < length is) (sym c.as_slice.ensures) c.requires.ideal in
    let sound = All-get_or (IsIdealOf q.ring) c.as_slice.result.now c.args.ideal c.index-as_slice-ideal.result low all in
    subst (AreOver q.ring) (sym c.as_slice-2.ensures) (are_over q.ring _ sound.of_ring)
