use Rattle.std.proofs.Common.{All, List, ℕ, subst}
use Rattle.fm_mat.specs.Matrices.{AreColumns}
use Rattle.fm_poly.specs.declared.ring.Ring.{Ring}
use Rattle.fm_poly.specs.Polys.{PolyValue}
use Rattle.fm_text.specs.SumOfTerms.{IsPolynomialOf}
use Rattle.fm_certify.proofs.reading.tell_matrix.Goals as goal

pub returns : goal.returns
returns c =
    let m = c.args.m.now in
    subst (λ (v : List (List PolyValue)). (r : Ring) (rows : ℕ) → AreColumns r rows v → All (All (IsPolynomialOf r)) v) c.columns.ensures.same
    c.tell_columns.ensures m.ring m.rows c.columns.ensures.shape
