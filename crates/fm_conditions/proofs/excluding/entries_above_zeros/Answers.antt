use Rattle.std.proofs.Common.{◌+◌, ◌∙◌, sym, ap, subst, arith}
use Rattle.fm_vec.specs.Vectors.{VectorValue, IsVector}
use Rattle.fm_conditions.proofs.AboveZeros.{entries_fit, entries_above}
use Rattle.fm_conditions.proofs.excluding.entries_above_zeros.Goals as goal

pub from_falling-requires : goal.from_falling-requires
from_falling-requires c =
    let s = c.args.size in
    let rows = c.requires.rows in
    subst (IsVector s.ring (s.rows + s.width)) (sym c.into_terms.ensures)
    (entries_fit s.ring c.in_ok-upper.upper c.args.entries.now c.in_ok-upper.ensures c.head-head.ensures.proper (s.rows + s.width) (omega (arith, rows)))

pub returns-clause-terms : goal.returns-clause-terms
returns-clause-terms c =
    let s = c.args.size in
    ap (λ (x : VectorValue). x.terms) c.from_falling.ensures ∙ c.into_terms.ensures
    ∙ entries_above s.ring c.in_ok-upper.upper c.args.entries.now c.in_ok-upper.ensures c.head-head.ensures.proper s.width c.requires.over
