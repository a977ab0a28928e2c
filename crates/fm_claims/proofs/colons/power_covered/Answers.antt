use Rattle.std.proofs.Common.{[], ◌∷◌, refl}
use Rattle.fm_judge.specs.Claims.{factored_part}
use Rattle.fm_pres.specs.Tables.{parts_in}
use Rattle.fm_conditions.specs.Meanings.{logs_of}
use Rattle.fm_conditions.specs.declared.condition.Condition.TheVariants as kinds
use Rattle.fm_places.specs.Meanings.{inverted}
use Rattle.fm_claims.proofs.FormedPowers.{formed}
use Rattle.fm_claims.proofs.FurtherFollowed.{all_these}
use Rattle.fm_claims.proofs.colons.power_covered.Goals as goal

pub returns : goal.returns
returns c = λ ls e.
    let r = c.args.ring in
    let ps = parts_in c.args.table.now in
    let f = inverted r c.args.aim.now in
    let nk = rw c.in-Some.is at c.requires.kernel in
    let i = c.in_ok-image.ensures in
    all_these r ps ls _ c.in_ok-conditions.conditions (kinds.Powers f c.args.k ∷ c.in_ok-image.image ∷ []) c.in_ok-conditions.ensures
    (rw (c.in-Some.is, c.in-Some-part.ensures.part, i.same ps (logs_of ps ls), c.rows.ensures) refl)
    (e, (i.testable ps ls e nk c.in-Some-part.ensures.there, tt))
    (tt, λ h. (i.formable ps (formed r (factored_part r f c.args.k) tt h), λ k. tt))
