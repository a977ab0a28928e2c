use Rattle.std.proofs.Common.{rules, sym, subst}
use Rattle.fm_mat.specs.Matrices.{MatrixValue}
use Rattle.fm_report.specs.Parts.{twist}
use Rattle.fm_pres.specs.Kept.{IsValue}
use Rattle.fm_pres.proofs.Values.{twist_value, twist_outside}
use Rattle.fm_conditions.proofs.Formed.{if_ok}
use Rattle.fm_conditions.proofs.forming.twisted.Goals as goal

pub returns-in_err-twist-clause-exponent : goal.returns-in_err-twist-clause-exponent
returns-in_err-twist-clause-exponent c = λ r A v why. twist_outside r A c.args.e c.args.a.now v (c.in_err-twist.ensures.exponent r v.ring (search rules))

pub returns-clause-value : goal.returns-clause-value
returns-clause-value c = λ r A v.
    let e = c.in_ok-twist.ensures in
    if_ok c.shared.result (λ s h. subst (λ (x : MatrixValue). IsValue r (twist A c.args.e) x) (sym h)
    (twist_value r A c.args.e c.args.a.now c.in_ok-twist.twist v e.ring e.rows e.count (e.value r v.ring) (e.fits r v.ring))) c.shared.ensures.value
