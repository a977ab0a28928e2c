use Rattle.std.proofs.Common.{All, List, subst}
use Rattle.fm_poly.specs.declared.ring.Ring.{Ring}
use Rattle.fm_poly.specs.Polys.{PolyValue}
use Rattle.fm_text.specs.SumOfTerms.{IsPolynomialOf}
use Rattle.fm_vec.specs.Components.{AreOver}
use Rattle.fm_certify.proofs.SingleReading.{columns_read, column_read}
use Rattle.fm_certify.proofs.reading.tell_columns.Goals as goal

pub returns-in_default : goal.returns-in_default
returns-in_default c = columns_read _ _ c.in_default.ensures.cases c.columns.invariant

pub columns-preserved : goal.columns-preserved
columns-preserved c =
    column_read _ _ c.in-Some.column.now c.in-Some.later.now c.in-Some.ensures.cases.0
    (subst (λ (v : List PolyValue). (r : Ring) → AreOver r v → All (IsPolynomialOf r) v) c.entries.ensures c.tell_entries.ensures) c.columns.invariant
