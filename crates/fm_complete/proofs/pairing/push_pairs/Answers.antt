use Rattle.std.proofs.Common.{◌+◌, length, refl, sym, ◌∙◌, subst, arith}
use Rattle.fm_poly.specs.declared.ring.Ring.{Ring}
use Rattle.fm_term.specs.Falling.{IsTerm, AreTerms}
use Rattle.fm_complete.proofs.Heads.{has_tail}
use Rattle.fm_complete.specs.Pairs.{EachPair}
use Rattle.fm_complete.proofs.NewPairs.{IsOther, all_other, last_member, other_none, others_left, pairs_before, whole_length}
use Rattle.fm_complete.proofs.Nonzero.{headless_not}
use Rattle.fm_complete.proofs.pairing.push_pairs.Goals as goal

pub unreachable-requires : goal.unreachable-requires
unreachable-requires c =
    let w = last_member c.args.ring c.args.rows c.members.left.now c.in-Some.before.now c.in-Some.g.now c.in-Some.ensures.cases.0 c.members.invariant.members in
    headless_not c.in-Some.g.now.terms w.3 (sym c.in_default-head.is ∙ c.head.ensures.head)

pub push_pair-requires-clause-u_term : goal.push_pair-requires-clause-u_term
push_pair-requires-clause-u_term c =
    let w = last_member c.args.ring c.args.rows c.members.left.now c.in-Some.before.now c.in-Some.g.now c.in-Some.ensures.cases.0 c.members.invariant.members in
    let t = has_tail c.in-Some.g.now.terms c.in-Some-head.u c.in-Some-head.ensures.head in
    subst (λ (r : Ring). IsTerm r.prime r.vars c.in-Some-head.u) w.1 ((subst (AreTerms c.in-Some.g.now.ring.prime c.in-Some.g.now.ring.vars) t.1 c.in-Some-head.ensures.proper.proper).0)

pub members-preserved : goal.members-preserved
members-preserved c =
    let w = last_member c.args.ring c.args.rows c.members.left.now c.in-Some.before.now c.in-Some.g.now c.in-Some.ensures.cases.0 c.members.invariant.members in
    let t = has_tail c.in-Some.g.now.terms c.in-Some-head.u c.in-Some-head.ensures.head in
    record {
      members = w.0;
      few = (let a = c.in-Some.ensures.cases.1 in let b = c.members.invariant.few in omega (arith, a, b));
      over = c.in_ok-push_pair.ensures.over;
      compared = c.in_ok-push_pair.ensures.order ∙ c.members.invariant.compared;
      other = subst (EachPair (IsOther c.args.later (length c.in-Some.before.now))) (sym c.in_ok-push_pair.ensures.pairs)
          (others_left c.args.ring.order c.args.later c.args.t.now (length c.in-Some.before.now) c.in-Some-head.u c.members.pending.pairs
          (subst (λ n. EachPair (IsOther c.args.later n) c.members.pending.pairs) (whole_length c.members.left.now c.in-Some.before.now c.in-Some.g.now c.in-Some.ensures.cases.0) c.members.invariant.other));
      pairs = pairs_before c.args.ring c.args.rows c.members.left.now c.in-Some.before.now c.in-Some.g.now c.in-Some.ensures.cases.0 c.members.invariant.members c.args.later c.args.t.now c.in-Some-head.u t.0
          c.members.pending.pairs c.push_pair.new.pending.pairs t.1 c.in_ok-push_pair.ensures.pairs ∙ c.members.invariant.pairs;
    }

pub members-init : goal.members-init
members-init c = record {
  members = c.requires.members;
  few = omega arith;
  over = c.requires.pending;
  compared = refl;
  other = all_other c.args.later (length c.args.members.now) c.args.pending.now.pairs c.requires.new;
  pairs = refl;
}

pub push_pair-requires-clause-order : goal.push_pair-requires-clause-order
push_pair-requires-clause-order c = c.members.invariant.compared ∙ c.requires.order

pub push_pair-requires-clause-new : goal.push_pair-requires-clause-new
push_pair-requires-clause-new c =
    other_none c.args.later (length c.in-Some.before.now + 1) c.members.pending.pairs
    (subst (λ n. EachPair (IsOther c.args.later n) c.members.pending.pairs) (whole_length c.members.left.now c.in-Some.before.now c.in-Some.g.now c.in-Some.ensures.cases.0) c.members.invariant.other)

pub returns-in_default-clause-order : goal.returns-in_default-clause-order
returns-in_default-clause-order c = c.members.invariant.compared

pub returns-in_err-push_pair-clause-order : goal.returns-in_err-push_pair-clause-order
returns-in_err-push_pair-clause-order c = c.push_pair.ensures.order ∙ c.members.invariant.compared
