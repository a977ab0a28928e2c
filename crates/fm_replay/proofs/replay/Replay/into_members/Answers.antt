use Rattle.std.proofs.Common.{subst}
use Rattle.fm_complete.specs.Divisions.{AreMembers}
use Rattle.fm_replay.specs.Kept.{ReplayValue}
use Rattle.fm_replay.proofs.Additions.{members_are}
use Rattle.fm_replay.proofs.replay.Replay.into_members.Goals as goal

pub returns-clause-nonzero : goal.returns-clause-nonzero
returns-clause-nonzero c =
    let p = c.self.inside in
    subst (λ (v : ReplayValue). AreMembers v.ring v.rows v.members) c.self.view_is (members_are p.ring p.rows p.members.items c.self.invariant.shape c.self.invariant.monic)
