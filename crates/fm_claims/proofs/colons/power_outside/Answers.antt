use Rattle.std.proofs.Common.{◌≡◌, true, [], ◌∷◌, Some, None, refl, sym, ap, ap₂, ◌∙◌, subst}
use Rattle.fm_algebra.specs.Polynomials.{polynomial_power}
use Rattle.fm_poly.specs.Polys.{PolyValue, meaning}
use Rattle.fm_parts.specs.Replays.{is_number}
use Rattle.fm_parts.specs.Shapes.{rows_of}
use Rattle.fm_parts.specs.Values.{is_within_bound}
use Rattle.fm_judge.specs.Claims.{excluded, factored_part, power_part}
use Rattle.fm_judge.proofs.Verdicts.{scalar_columns}
use Rattle.fm_pres.specs.Tables.{parts_in, part_at}
use Rattle.fm_conditions.specs.Meanings.{logs_of, condition_of}
use Rattle.fm_conditions.specs.declared.condition.Condition.TheVariants as kinds
use Rattle.fm_places.specs.Meanings.{inverted}
use Rattle.fm_claims.proofs.FormedPowers.{formed}
use Rattle.fm_claims.proofs.FurtherFollowed.{all_none, all_these}
use Rattle.fm_claims.proofs.FurtherShown.{excluded_of}
use Rattle.fm_claims.proofs.colons.power_outside.Goals as goal

pub returns-in_default-outside : goal.returns-in_default-outside
returns-in_default-outside c = λ g b s.
    let r = c.args.ring in let ps = parts_in c.args.table.now in let ls = c.args.logs.now in let L = logs_of ps ls in let F = inverted r c.args.aim.now in let k = c.args.k in
    let K = part_at ps c.in-Some.kernel in
    let nk : is_number ps c.in-Some.kernel ≡ true = rw c.in-Some.is at c.requires.kernel in
    let f = c.in_ok-f.f in
    let V = power_part r f k c.rows-rows.result in
    let v : V ≡ power_part r F k (rows_of K) = ap₂ (λ (x : PolyValue) n. power_part r x k n) c.in_ok-f.ensures c.rows-rows.ensures in
    let x = c.args.shown.now in
    let n = rw c.in_default-outside.is at (c.in_ok-outside.ensures.names r g b ps (scalar_columns r (polynomial_power r.prime r.vars k (meaning r f.terms)) c.rows-rows.result) nk (ap (λ (y : PolyValue). y.ring) c.in_ok-f.ensures ∙ s)) in
    let e : excluded r g b ps L 0 K (power_part r F k (rows_of K)) x.log x.column x.by.items ≡ None = excluded_of r g b ps L 0 K V (power_part r F k (rows_of K)) x.log x.column x.by.items None v n.same in
    all_none r ps ls _ (rw (c.in-Some.is, e) refl)

pub returns : goal.returns
returns c = λ g b s.
    let r = c.args.ring in let ps = parts_in c.args.table.now in let ls = c.args.logs.now in let L = logs_of ps ls in let F = inverted r c.args.aim.now in let k = c.args.k in
    let K = part_at ps c.in-Some.kernel in
    let nk : is_number ps c.in-Some.kernel ≡ true = rw c.in-Some.is at c.requires.kernel in
    let f = c.in_ok-f.f in
    let V = power_part r f k c.rows-rows.result in
    let v : V ≡ power_part r F k (rows_of K) = ap₂ (λ (x : PolyValue) n. power_part r x k n) c.in_ok-f.ensures c.rows-rows.ensures in
    let x = c.args.shown.now in
    let n = rw c.in-Some-outside.is at (c.in_ok-outside.ensures.names r g b ps (scalar_columns r (polynomial_power r.prime r.vars k (meaning r f.terms)) c.rows-rows.result) nk (ap (λ (y : PolyValue). y.ring) c.in_ok-f.ensures ∙ s)) in
    let out = c.in-Some-outside.outside in
    let e : excluded r g b ps L 0 K (power_part r F k (rows_of K)) x.log x.column x.by.items ≡ Some (condition_of r ps L out ∷ []) =
    excluded_of r g b ps L 0 K V (power_part r F k (rows_of K)) x.log x.column x.by.items (Some (condition_of r ps L out ∷ [])) v n.same in
    all_these r ps ls _ c.in_ok-conditions.conditions (kinds.Powers F k ∷ out ∷ []) c.in_ok-conditions.ensures (rw (c.in-Some.is, e) refl) (s, (n.testable, tt))
    (tt, λ h. (rw c.in-Some-outside.is at (c.in_ok-outside.ensures.formable r ps tt (subst (λ (y : PolyValue). is_within_bound r (factored_part r y k) ≡ true) (sym c.in_ok-f.ensures) (formed r (factored_part r F k) tt h))), λ l. tt))
