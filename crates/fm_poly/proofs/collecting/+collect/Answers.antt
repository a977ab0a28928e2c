use Rattle.std.proofs.Common.{sym, ◌∙◌}
use Rattle.std.proofs.lemmas.Bool.{eqb-true}
use Rattle.fm_poly.proofs.CollectSteps.{one_term, halves, merged}
use Rattle.fm_poly.proofs.collecting.+collect.Goals as goal

pub returns-then-is_empty-clause-sum : goal.returns-then-is_empty-clause-sum
returns-then-is_empty-clause-sum t c =
    one_term c.args.ring _ _ _ _ _ c.in-Some.ensures.cases.0 (eqb-true _ _ (sym c.is_empty.ensures ∙ c.if-is_empty.true)) c.new-out.ensures.items c.in_ok-push_kept.ensures

pub returns-clause-sum : goal.returns-clause-sum
returns-clause-sum t c =
    halves c.args.ring _ _ _ _ _ _ c.split_at.ensures.by_index.0
    c.in_ok-f.ensures.sum c.in_ok-g.ensures.sum
    (merged c.args.ring _ _ _ _ _ c.deref.ensures.value c.deref-2.ensures.value c.in_ok-sum.ensures.sum)
