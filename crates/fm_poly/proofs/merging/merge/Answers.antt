use Rattle.std.proofs.Common.{sym}
use Rattle.fm_poly.proofs.MergeSteps.{merge_start, merge_left, merge_right, merge_both, end_left, end_right}
use Rattle.fm_poly.proofs.merging.merge.Goals as goal

pub terms-init : goal.terms-init
terms-init c = merge_start c.args.ring _ _ _ c.new-out.ensures.items c.requires.f_canonical c.requires.g_canonical

pub returns-in_default-clause-canonical : goal.returns-in_default-clause-canonical
returns-in_default-clause-canonical c = (end_left c.args.ring _ _ _ _ _ _ c.in_default.ensures.cases c.in_ok-extend_from_slice.ensures.items c.terms.invariant).canonical

pub returns-in_default-clause-sum : goal.returns-in_default-clause-sum
returns-in_default-clause-sum c = (end_left c.args.ring _ _ _ _ _ _ c.in_default.ensures.cases c.in_ok-extend_from_slice.ensures.items c.terms.invariant).sum

pub returns-in_default-split_first-clause-canonical : goal.returns-in_default-split_first-clause-canonical
returns-in_default-split_first-clause-canonical c =
    (end_right c.args.ring _ _ _ _ _ _ c.in_default-split_first.ensures.cases c.in_ok-extend_from_slice-2.ensures.items c.terms.invariant).canonical

pub returns-in_default-split_first-clause-sum : goal.returns-in_default-split_first-clause-sum
returns-in_default-split_first-clause-sum c =
    (end_right c.args.ring _ _ _ _ _ _ c.in_default-split_first.ensures.cases c.in_ok-extend_from_slice-2.ensures.items c.terms.invariant).sum

pub terms-preserved-in-Greater : goal.terms-preserved-in-Greater
terms-preserved-in-Greater c =
    merge_left c.args.ring _ _ _ _ _ _ _ _ _ _ c.in-Some.ensures.cases.0 c.in-Some-split_first.ensures.cases.0 c.in_ok-push-in-Greater.ensures.items (sym c.in-Greater.ensures) c.terms.invariant

pub terms-preserved-in-Less : goal.terms-preserved-in-Less
terms-preserved-in-Less c =
    merge_right c.args.ring _ _ _ _ _ _ _ _ _ _ c.in-Some.ensures.cases.0 c.in-Some-split_first.ensures.cases.0 c.in_ok-push-in-Less.ensures.items (sym c.in-Less.ensures) c.terms.invariant

pub terms-preserved : goal.terms-preserved
terms-preserved c =
    merge_both c.args.ring _ _ _ _ _ _ _ _ _ _ c.in-Some.ensures.cases.0 c.in-Some-split_first.ensures.cases.0 c.in_ok-push_like-in-Equal.ensures (sym c.in-Equal.ensures) c.terms.invariant
