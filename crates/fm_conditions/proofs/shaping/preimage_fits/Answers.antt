use Rattle.std.proofs.Common.{◌≡◌, sym, ap, ap₂, ◌∙◌, subst}
use Rattle.fm_report.specs.Parts.{beside}
use Rattle.fm_parts.specs.Conditions.{generators_fit}
use Rattle.fm_pres.specs.declared.shape.Shape.{Shape}
use Rattle.fm_pres.specs.Tables.{parts_in, part_at}
use Rattle.fm_conditions.specs.Meanings.{log_of}
use Rattle.fm_conditions.specs.Measures.{joined, of_both}
use Rattle.fm_conditions.proofs.Measures.{fit, beside_measure}
use Rattle.fm_conditions.proofs.shaping.preimage_fits.Goals as goal

pub returns : goal.returns
returns c = λ A B e h.
    let ps = parts_in c.args.table.now in
    let x = fit (beside A B) c.in-Some.both (sym c.in-Some.is ∙ c.beside.ensures ∙ ap₂ (λ x y. of_both x y joined) e h ∙ beside_measure A B) in
    let y = fit A c.in-Some-a.a (sym c.in-Some-a.is ∙ e) in
    subst (λ n. c.generators_fit.result ≡ generators_fit (log_of ps c.args.log.now) (beside A B) n (part_at ps c.args.c) (part_at ps c.args.x) (part_at ps c.args.w)) (ap (λ (s : Shape). s.columns) y.1)
    (c.generators_fit.ensures (beside A B) x.0 x.1)
