use Rattle.std.proofs.Common.{sym, ◌∙◌, subst}
use Rattle.fm_mat.specs.Matrices.{MatrixValue}
use Rattle.fm_report.specs.Parts.{given}
use Rattle.fm_pres.specs.Kept.{IsValue}
use Rattle.fm_pres.proofs.Values.{given_value}
use Rattle.fm_conditions.proofs.Formed.{if_ok}
use Rattle.fm_conditions.proofs.forming.copied.Goals as goal

pub returns-clause-value : goal.returns-clause-value
returns-clause-value c = λ r e.
    let m = c.args.m.now in
    if_ok c.shared.result (λ s h. subst (λ (x : MatrixValue). IsValue r (given m.rows m.columns) x) (sym (h ∙ c.in_ok-copy.ensures)) (given_value r m e)) c.shared.ensures.value
