use Rattle.std.proofs.Common.{refl, ◌∙◌}
use Rattle.fm_claims.proofs.Followed.{equal_sides_of}
use Rattle.fm_claims.proofs.deciding.combines.Goals as goal

pub returns-clause-same : goal.returns-clause-same
returns-clause-same c = λ r ps ls. equal_sides_of _ _ _ _ (c.in_ok-product.ensures.part r ps ∙ rw (c.in_ok-twist.ensures.part r ps) refl) refl

pub returns-clause-testable : goal.returns-clause-testable
returns-clause-testable c = λ r ps ls nz nw nv. (c.in_ok-product.ensures.there r ps (c.in_ok-twist.ensures.there r ps nz) nw, nv)

pub returns-clause-formable : goal.returns-clause-formable
returns-clause-formable c = λ r ps fv. (c.in_ok-product.ensures.formable r ps (c.in_ok-twist.ensures.formable r ps tt) tt, fv)
