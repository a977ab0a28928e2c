-- From what a method reads inside of a polynomial to what its contract sees
use Rattle.std.proofs.Common.{◌≡◌, List, ap, ◌∙◌, subst}
use Rattle.fm_poly.specs.declared.term.Term.{Term}
use Rattle.fm_poly.specs.Polys.{PolyValue}

pub seen : (P : PolyValue → Type 0) {inside now : PolyValue} {ts : List Term} → inside ≡ now → ts ≡ inside.terms → P (record { ring = inside.ring; terms = ts }) → P now
seen P {inside} {now} {ts} e read h = subst P e (subst (λ us. P (record { ring = inside.ring; terms = us })) read h)

pub seen_both : (P : PolyValue → List Term → Type 0) {inside now other_inside other : PolyValue} {ts us : List Term}
    → inside ≡ now → ts ≡ inside.terms → other_inside ≡ other → us ≡ other_inside.terms → P (record { ring = inside.ring; terms = ts }) us → P now other.terms
seen_both P {inside} {now} {other_inside} {other} {ts} {us} e read other_e other_read h =
    subst (P now) (other_read ∙ ap (λ v. v.terms) other_e) (seen (λ f. P f us) e read h)
