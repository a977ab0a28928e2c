use Rattle.std.proofs.Common.{refl, ◌∙◌}
use Rattle.fm_claims.proofs.Followed.{equal_sides_of}
use Rattle.fm_claims.proofs.resolving.lifts.Goals as goal

pub returns-clause-same : goal.returns-clause-same
returns-clause-same c = λ r ps ls. equal_sides_of _ _ _ _ (c.in_ok-left.ensures.part r ps) (c.in_ok-right.ensures.part r ps ∙ rw (c.in_ok-twist.ensures.part r ps) refl)

pub returns-clause-testable : goal.returns-clause-testable
returns-clause-testable c = λ r ps ls nd nb nt. (c.in_ok-left.ensures.there r ps nd nt, c.in_ok-right.ensures.there r ps nb (c.in_ok-twist.ensures.there r ps nd))

pub returns-clause-formable : goal.returns-clause-formable
returns-clause-formable c = λ r ps. (c.in_ok-left.ensures.formable r ps tt tt, c.in_ok-right.ensures.formable r ps tt (c.in_ok-twist.ensures.formable r ps tt))
