use Rattle.std.proofs.Common.{◌≡◌, true, [], ◌∷◌, Some, None, refl, sym, ap, ◌∙◌, subst}
use Rattle.fm_vec.specs.Components.{AreOver}
use Rattle.fm_report.specs.Parts.{Part}
use Rattle.fm_parts.specs.Conditions.{Log, lists, preimage}
use Rattle.fm_parts.specs.Replays.{is_number}
use Rattle.fm_parts.specs.Shapes.{rows_of}
use Rattle.fm_judge.specs.Claims.{blocks_part, generated, unit_column_part}
use Rattle.fm_pres.specs.Tables.{parts_in, part_at}
use Rattle.fm_conditions.specs.Meanings.{logs_of, log_at}
use Rattle.fm_places.specs.Meanings.{support_of}
use Rattle.fm_claims.proofs.FormedPowers.{formed}
use Rattle.fm_claims.proofs.FurtherFollowed.{all_none, all_these}
use Rattle.fm_claims.proofs.annihilating.annihilates.Goals as goal

pub returns-in_default-generating : goal.returns-in_default-generating
returns-in_default-generating c = λ r g b o.
    let ps = parts_in c.args.table.now in let ls = c.args.logs.now in let L = logs_of ps ls in
    let K = part_at ps c.in-Some.kernel in
    let P = part_at ps c.in-Some-part.k in
    let says = λ (log : Log) (X W : Part). preimage log (unit_column_part r (rows_of K)) (blocks_part r K) P X W in
    let more = lists (support_of c.args.aim.now) P ∷ [] in
    let x = c.args.shown.now in
    let e : generated r g b ps L says x.log x.x x.w more ≡ None = c.in_default-generating.ensures.generated r g b says more in
    all_none r ps ls _ (rw (c.in-Some.is, c.in-Some-part.ensures.part, e) refl)

pub returns : goal.returns
returns c = λ r g b o.
    let ps = parts_in c.args.table.now in let ls = c.args.logs.now in let L = logs_of ps ls in
    let K = part_at ps c.in-Some.kernel in
    let nk : is_number ps c.in-Some.kernel ≡ true = rw c.in-Some.is at c.requires.kernel in
    let P = part_at ps c.in-Some-part.k in
    let np = c.in-Some-part.ensures.there in
    let fs = support_of c.args.aim.now in
    let n = c.rows.result in
    let says = λ (log : Log) (X W : Part). preimage log (unit_column_part r (rows_of K)) (blocks_part r K) P X W in
    let x = c.args.shown.now in
    let y = c.in-Some-generating.shown in
    let t = c.in-Some-generating.ensures.there in
    let e : generated r g b ps L says x.log x.x x.w (lists fs P ∷ []) ≡ Some (preimage (log_at L y.log) (unit_column_part r n) (blocks_part r K) P (part_at ps y.x) (part_at ps y.w) ∷ lists c.in_ok-polynomials.polynomials.items P ∷ []) =
    c.in-Some-generating.ensures.generated r g b says (lists fs P ∷ [])
    ∙ ap (λ m. Some (preimage (log_at L y.log) (unit_column_part r m) (blocks_part r K) P (part_at ps y.x) (part_at ps y.w) ∷ lists fs P ∷ [])) (sym c.rows.ensures)
    ∙ ap (λ hs. Some (preimage (log_at L y.log) (unit_column_part r n) (blocks_part r K) P (part_at ps y.x) (part_at ps y.w) ∷ lists hs P ∷ [])) (sym c.in_ok-polynomials.ensures) in
    all_these r ps ls _ c.in_ok-conditions.conditions _ c.in_ok-conditions.ensures (rw (c.in-Some.is, c.in-Some-part.ensures.part, e) refl)
    ((nk, nk), ((t.0, tt, nk, np, t.1, t.2), ((subst (λ hs. AreOver r hs) (sym c.in_ok-polynomials.ensures) o, np), tt)))
    ((tt, tt), λ h. ((tt, formed r K tt h), λ i. (tt, λ j. tt)))
