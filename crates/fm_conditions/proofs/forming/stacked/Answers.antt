use Rattle.std.proofs.Common.{sym, subst}
use Rattle.fm_mat.specs.Matrices.{MatrixValue}
use Rattle.fm_report.specs.Parts.{stack}
use Rattle.fm_pres.specs.Kept.{IsValue}
use Rattle.fm_pres.proofs.Values.{stack_value}
use Rattle.fm_conditions.proofs.Formed.{if_ok}
use Rattle.fm_conditions.proofs.forming.stacked.Goals as goal

pub returns-clause-value : goal.returns-clause-value
returns-clause-value c = λ r A B v w.
    let e = c.in_ok-both.ensures in
    if_ok c.shared.result (λ s h. subst (λ (x : MatrixValue). IsValue r (stack A B) x) (sym h)
    (stack_value r A B c.args.a.now c.args.b.now c.in_ok-both.both v w e.ring e.rows e.count (e.value r v.ring))) c.shared.ensures.value
