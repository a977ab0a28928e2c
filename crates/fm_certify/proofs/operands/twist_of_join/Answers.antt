use Rattle.std.proofs.Common.{All, ap, ap₂, subst}
use Rattle.fm_poly.specs.declared.ring.Ring.{Ring}
use Rattle.fm_report.specs.Parts as parts
use Rattle.fm_report.specs.Parts.{Part}
use Rattle.fm_text.specs.SumOfTerms.{IsPolynomialOf}
use Rattle.fm_certify.proofs.SingleParts.{matrix_given}
use Rattle.fm_certify.proofs.operands.twist_of_join.Goals as goal

pub returns-clause-value : goal.returns-clause-value
returns-clause-value c =
    let m = c.args.m.now in
    let n = c.args.n.now in
    ap (λ (a : Part). parts.twist a 1)
    (ap₂ parts.beside (matrix_given m.ring m c.tell_matrix.ensures)
    (matrix_given m.ring n (subst (λ (r : Ring). All (All (IsPolynomialOf r)) n.columns) c.requires c.tell_matrix-2.ensures)))
