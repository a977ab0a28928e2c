use Rattle.std.proofs.Common.{refl, ◌∙◌}
use Rattle.fm_claims.proofs.Followed.{equal_sides_of}
use Rattle.fm_claims.proofs.roots.moves.Goals as goal

pub returns-clause-same : goal.returns-clause-same
returns-clause-same c = λ r ps ls. equal_sides_of _ _ _ _ (c.in_ok-left.ensures.part r ps ∙ rw (c.in_ok-theta.ensures.part r ps) refl) (c.in_ok-right.ensures.part r ps ∙ rw (c.in_ok-twist.ensures.part r ps) refl)

pub returns-clause-testable : goal.returns-clause-testable
returns-clause-testable c = λ r ps ls nz nt nu. (c.in_ok-left.ensures.there r ps (c.in_ok-theta.ensures.there r ps nt) nz, c.in_ok-right.ensures.there r ps (c.in_ok-twist.ensures.there r ps nz) nu)

pub returns-clause-formable : goal.returns-clause-formable
returns-clause-formable c = λ r ps. (c.in_ok-left.ensures.formable r ps (c.in_ok-theta.ensures.formable r ps tt) tt, c.in_ok-right.ensures.formable r ps (c.in_ok-twist.ensures.formable r ps tt) tt)
