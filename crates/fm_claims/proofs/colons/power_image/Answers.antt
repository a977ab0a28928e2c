use Rattle.std.proofs.Common.{◌≡◌, true, sym, subst}
use Rattle.fm_poly.specs.Polys.{PolyValue}
use Rattle.fm_parts.specs.Values.{is_within_bound}
use Rattle.fm_judge.specs.Claims.{factored_part}
use Rattle.fm_claims.proofs.colons.power_image.Goals as goal

pub returns-clause-testable : goal.returns-clause-testable
returns-clause-testable c = λ ps ls e nk nw.
    (subst (λ (f : PolyValue). f.ring ≡ c.args.ring) (sym c.in_ok-f.ensures) e, c.in_ok-image.ensures.there c.args.ring ps nk nw)

pub returns-clause-formable : goal.returns-clause-formable
returns-clause-formable c = λ ps w.
    (subst (λ (f : PolyValue). is_within_bound c.args.ring (factored_part c.args.ring f c.args.k) ≡ true) (sym c.in_ok-f.ensures) w, c.in_ok-image.ensures.formable c.args.ring ps tt tt)
