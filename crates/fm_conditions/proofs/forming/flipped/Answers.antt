use Rattle.std.proofs.Common.{sym, subst}
use Rattle.fm_mat.specs.Matrices.{MatrixValue}
use Rattle.fm_report.specs.Parts.{flip}
use Rattle.fm_pres.specs.Kept.{IsValue}
use Rattle.fm_pres.proofs.Values.{flip_value}
use Rattle.fm_conditions.proofs.Formed.{if_ok}
use Rattle.fm_conditions.proofs.forming.flipped.Goals as goal

pub returns-clause-value : goal.returns-clause-value
returns-clause-value c = λ r A v.
    let e = c.in_ok-flip.ensures in
    if_ok c.shared.result (λ s h. subst (λ (x : MatrixValue). IsValue r (flip A) x) (sym h)
    (flip_value r A c.args.a.now c.in_ok-flip.flip v e.ring e.rows e.count (e.value r v.ring))) c.shared.ensures.value
