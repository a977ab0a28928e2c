use Rattle.std.proofs.Common.{◌≡◌, ◌∙◌, sym, ap, subst}
use Rattle.fm_complete.specs.Divisions.{terms_of}
use Rattle.fm_groebner.specs.Syzygies.{syzygies, first_rows}
use Rattle.fm_mat.specs.Matrices.{matrix_meaning}
use Rattle.fm_report.specs.Parts.{times}
use Rattle.fm_pres.specs.declared.shape.Shape.{Shape}
use Rattle.fm_pres.specs.Kept.{IsValue}
use Rattle.fm_pres.specs.Tables.{parts_in, part_at}
use Rattle.fm_vec.specs.Vectors.{VectorValue}
use Rattle.std.proofs.Common.{List}
use Rattle.fm_conditions.proofs.Formed.{told_value}
use Rattle.fm_conditions.proofs.Generations.{cover_next}
use Rattle.fm_conditions.proofs.generating.covers.Goals as goal

pub returns-clause-judges : goal.returns-clause-judges
returns-clause-judges c =
    let t = c.args.table.now in
    let r = t.ring in
    let g = c.args.g.now in
    let C = part_at (parts_in t) c.args.c in
    let W = part_at (parts_in t) c.args.w in
    let members = c.args.log.now.members.items in
    let first = c.in_ok-first.first in
    let F = times C W in
    let made = subst (IsValue r F) (sym c.deref-2.ensures) (told_value r F c.product_of.result c.in-Ok.cover c.in-Ok.ensures.same c.product_of.ensures.value) in
    let read = subst (λ (vs : List VectorValue). matrix_meaning r first ≡ first_rows r.prime r.vars c.part_shape-rows.result.rows (syzygies r.prime r.vars (matrix_meaning r g) (terms_of vs))) c.deref.ensures.value
    (c.in_ok-first.ensures.value r c.requires.ring)
    ∙ ap (λ (s : Shape). first_rows r.prime r.vars s.rows (syzygies r.prime r.vars (matrix_meaning r g) (terms_of members))) c.part_shape-rows.ensures.shape in
    cover_next r (terms_of members) (matrix_meaning r g) C W c.deref-2.result.now first c.same.result made read (c.same.ensures r (c.in_ok-first.ensures.ring ∙ c.requires.ring))
