use Rattle.std.proofs.Common.{◌≡◌, true, [], ◌∷◌, Some, None, refl, sym, ap, ap₂, ◌∙◌}
use Rattle.fm_poly.specs.Polys.{PolyValue, meaning}
use Rattle.fm_report.specs.Parts.{Part}
use Rattle.fm_parts.specs.Conditions.{Log, preimage}
use Rattle.fm_parts.specs.Replays.{is_number}
use Rattle.fm_parts.specs.Shapes.{rows_of}
use Rattle.fm_judge.specs.Claims.{generated, power_part, scalar_part}
use Rattle.fm_pres.specs.Tables.{parts_in, part_at}
use Rattle.fm_conditions.specs.Meanings.{logs_of, log_at}
use Rattle.fm_places.specs.Meanings.{inverted}
use Rattle.fm_claims.proofs.FormedPowers.{first_power, first_power_formed}
use Rattle.fm_claims.proofs.FurtherFollowed.{finds_none}
use Rattle.fm_claims.proofs.colons.colon_sent.Goals as goal

pub returns-in_default-generating : goal.returns-in_default-generating
returns-in_default-generating c = λ g b s nk.
    let r = c.args.ring in let ps = parts_in c.args.table.now in let ls = c.args.logs.now in let L = logs_of ps ls in let F = inverted r c.args.aim.now in
    let C = part_at ps c.in-Some.c in
    let says = λ (log : Log) (X W : Part). preimage log (scalar_part r (meaning r F.terms) (rows_of C)) C (part_at ps c.args.k) X W in
    let x = c.args.shown.now in
    let e : generated r g b ps L says x.log x.x x.w [] ≡ None = c.in_default-generating.ensures.generated r g b says [] in
    finds_none r ps ls _ (rw (c.in-Some.is, e) refl)

pub returns : goal.returns
returns c = λ g b s nk.
    let r = c.args.ring in let ps = parts_in c.args.table.now in let ls = c.args.logs.now in let L = logs_of ps ls in let F = inverted r c.args.aim.now in
    let C = part_at ps c.in-Some.c in
    let nc : is_number ps c.in-Some.c ≡ true = rw c.in-Some.is at c.requires.c in
    let P = part_at ps c.args.k in
    let A = scalar_part r (meaning r F.terms) (rows_of C) in
    let says = λ (log : Log) (X W : Part). preimage log A C P X W in
    let x = c.args.shown.now in
    let f = c.in_ok-f.f in
    let n = c.rows.result in
    let y = c.in-Some-generating.shown in
    let p : power_part r f 1 n ≡ A = first_power r f n ∙ ap₂ (λ (h : PolyValue) m. scalar_part r (meaning r h.terms) m) c.in_ok-f.ensures c.rows.ensures in
    let e : generated r g b ps L says x.log x.x x.w [] ≡ Some (preimage (log_at L y.log) (power_part r f 1 n) C P (part_at ps y.x) (part_at ps y.w) ∷ []) =
    c.in-Some-generating.ensures.generated r g b says [] ∙ ap (λ (B : Part). Some (preimage (log_at L y.log) B C P (part_at ps y.x) (part_at ps y.w) ∷ [])) (sym p) in
    record {
      same = rw (c.in-Some.is, e) refl;
      testable = (c.in-Some-generating.ensures.there.0, ap (λ (h : PolyValue). h.ring) c.in_ok-f.ensures ∙ s, nc, nk, c.in-Some-generating.ensures.there.1, c.in-Some-generating.ensures.there.2);
      formable = (first_power_formed r f c.within_bound.ensures, tt);
    }
