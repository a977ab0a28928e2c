use Rattle.std.proofs.Common.{sym, ap, subst, arith}
use Rattle.fm_complete.specs.Divisions.{terms_of}
use Rattle.fm_replay.specs.Kept.{ReplayValue, Keeps, IsNextMember, with_member}
use Rattle.fm_replay.proofs.Additions.{numbered_more, terms_with, input_kept}
use Rattle.fm_replay.proofs.replay.Replay.take_input.Goals as goal

pub returns-in_default-clause-adds : goal.returns-in_default-clause-adds
returns-in_default-clause-adds c s kept =
    let p = c.self.inside in
    input_kept p.ring p.rows p.members.items p.taken.keys p.treated.keys s (subst (λ (v : ReplayValue). Keeps v s) (sym c.self.view_is) kept)
    c.args.member p.members.items (sym (ap (λ o. with_member o (terms_of p.members.items)) c.in_default.is)) c.args.k c.insert.new.self.keys c.in_ok-insert.ensures.updates.0

pub invariant_of-self-in-Ok : goal.invariant_of-self-in-Ok
invariant_of-self-in-Ok c =
    let p = c.self.inside in
    let few = c.if-len-ge4294967295.false in
    let count = c.len.ensures in
    numbered_more p.ring p.rows p.members.items c.push.new.self.items c.in-Some.member c.in_ok-push.ensures.items c.self.invariant
    (subst (IsNextMember p.ring p.rows) c.in-Some.is (subst (λ (v : ReplayValue). IsNextMember v.ring v.rows c.args.member) (sym c.self.view_is) c.requires.next))
    (omega (arith, few, count))

pub returns-in-Ok-clause-adds : goal.returns-in-Ok-clause-adds
returns-in-Ok-clause-adds c s kept =
    let p = c.self.inside in
    input_kept p.ring p.rows p.members.items p.taken.keys p.treated.keys s (subst (λ (v : ReplayValue). Keeps v s) (sym c.self.view_is) kept)
    c.args.member c.push.new.self.items (terms_with p.members.items c.push.new.self.items c.in-Some.member c.args.member c.in_ok-push.ensures.items c.in-Some.is)
    c.args.k c.insert-2.new.self.keys c.in-Ok.ensures.updates.0
