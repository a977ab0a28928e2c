use Rattle.std.proofs.Common.{◌≡◌, ◌+◌, ◌∙◌, true, false, length, sym, subst}
use Rattle.std.specs.Prelude.{IfOk, IsErrOf}
use Rattle.std.specs.declared.alloc.Global.{Global}
use Rattle.std.specs.declared.rc.Rc.{Rc}
use Rattle.fm_poly.specs.declared.poly_error.PolyError.TheVariants.{Exponent}
use Rattle.fm_mat.specs.Matrices.{MatrixValue}
use Rattle.fm_report.specs.Parts.{Part, beside, stack, times}
use Rattle.fm_parts.specs.Shapes.{fits, rows_of, columns_of}
use Rattle.fm_parts.specs.Values.{is_within_bound}
use Rattle.fm_parts.specs.Conditions.{holds, holds_generating}
use Rattle.fm_pres.specs.Kept.{IsValue}
use Rattle.fm_pres.specs.Tables.{TableValue, parts_in, part_at}
use Rattle.fm_conditions.specs.Meanings.{log_of, operand_part}
use Rattle.fm_conditions.specs.Reasons.{Judges}
use Rattle.fm_conditions.proofs.Formed.{told_value}
use Rattle.fm_conditions.proofs.Judgements.{end_view}
use Rattle.fm_conditions.proofs.Generations.{generator_shapes, own_syzygies, own_inner, logged_refused, matrix_refused}
use Rattle.fm_conditions.proofs.generating.generates_preimage.Goals as goal

pub returns-in-Err-clause-judges : goal.returns-in-Err-clause-judges
unfolding holds
returns-in-Err-clause-judges c =
    let t = c.args.table.now in
    let ps = parts_in t in
    logged_refused t.ring (log_of ps c.args.log.now) (beside (operand_part t.ring ps c.args.a.now) (operand_part t.ring ps c.args.b.now)) (part_at ps c.args.c) (part_at ps c.args.x) (part_at ps c.args.w)
    c.in-Err.refused c.in-Err.ensures.judges

pub both_of-requires-clause-fits : goal.both_of-requires-clause-fits
both_of-requires-clause-fits c =
    let t = c.args.table.now in
    let ps = parts_in t in
    let A = operand_part t.ring ps c.args.a.now in
    let G = beside A (operand_part t.ring ps c.args.b.now) in
    subst (λ (y : TableValue). fits (beside (operand_part y.ring (parts_in y) c.args.a.now) (operand_part y.ring (parts_in y) c.args.b.now)) ≡ true) (sym c.in-Ok.ensures.unchanged)
    (generator_shapes (log_of ps c.args.log.now) G (columns_of A) (part_at ps c.args.c) (part_at ps c.args.x) (part_at ps c.args.w) c.requires.fits).matrix

pub returns-in-Err-told-clause-judges : goal.returns-in-Err-told-clause-judges
unfolding holds
returns-in-Err-told-clause-judges c =
    let t = c.args.table.now in
    let ps = parts_in t in
    let G = beside (operand_part t.ring ps c.args.a.now) (operand_part t.ring ps c.args.b.now) in
    matrix_refused t.ring (log_of ps c.args.log.now) G (part_at ps c.args.c) (part_at ps c.args.x) (part_at ps c.args.w) c.in-Ok.logged.value c.in-Err-told.refused c.in-Ok.ensures.value
    (c.in-Err-told.ensures.judges t.ring G
    (subst (λ (y : TableValue). IfOk c.both_of.result (λ (m : Rc MatrixValue Global). IsValue y.ring (beside (operand_part y.ring (parts_in y) c.args.a.now) (operand_part y.ring (parts_in y) c.args.b.now)) m.value))
    c.in-Ok.ensures.unchanged c.both_of.ensures.value)
    (subst (λ (y : TableValue). IsErrOf c.both_of.result Exponent → is_within_bound y.ring (beside (operand_part y.ring (parts_in y) c.args.a.now) (operand_part y.ring (parts_in y) c.args.b.now)) ≡ false)
    c.in-Ok.ensures.unchanged c.both_of.ensures.exponent))

pub generated-requires-clause-syzygies : goal.generated-requires-clause-syzygies
generated-requires-clause-syzygies c =
    let t = c.args.table.now in
    let ps = parts_in t in
    let A = operand_part t.ring ps c.args.a.now in
    let G = beside A (operand_part t.ring ps c.args.b.now) in
    let C = part_at ps c.args.c in
    let X = part_at ps c.args.x in
    let W = part_at ps c.args.w in
    own_syzygies t.ring ps c.args.log.now c.requires.log G (columns_of A) C X W (generator_shapes (log_of ps c.args.log.now) G (columns_of A) C X W c.requires.fits) c.deref-2.result.now
    (subst (IsValue t.ring G) (sym c.deref-2.ensures) (told_value t.ring G c.both_of.result c.in-Ok-told.g c.in-Ok-told.ensures.same
    (subst (λ (y : TableValue). IfOk c.both_of.result (λ (m : Rc MatrixValue Global). IsValue y.ring (beside (operand_part y.ring (parts_in y) c.args.a.now) (operand_part y.ring (parts_in y) c.args.b.now)) m.value))
    c.in-Ok.ensures.unchanged c.both_of.ensures.value)))

pub generated-requires-clause-under : goal.generated-requires-clause-under
generated-requires-clause-under c =
    let t = c.args.table.now in
    let ps = parts_in t in
    let A = operand_part t.ring ps c.args.a.now in
    let G = beside A (operand_part t.ring ps c.args.b.now) in
    subst (λ (y : TableValue). fits (stack (part_at (parts_in y) c.args.c) (part_at (parts_in y) c.args.x)) ≡ true) (sym (c.both_of.ensures.unchanged ∙ c.in-Ok.ensures.unchanged))
    (generator_shapes (log_of ps c.args.log.now) G (columns_of A) (part_at ps c.args.c) (part_at ps c.args.x) (part_at ps c.args.w) c.requires.fits).under

pub generated-requires-clause-inner : goal.generated-requires-clause-inner
generated-requires-clause-inner c =
    let t = c.args.table.now in
    let ps = parts_in t in
    let A = operand_part t.ring ps c.args.a.now in
    let G = beside A (operand_part t.ring ps c.args.b.now) in
    let C = part_at ps c.args.c in
    let X = part_at ps c.args.x in
    let W = part_at ps c.args.w in
    subst (λ (y : TableValue). rows_of (part_at (parts_in y) c.args.c) + rows_of (part_at (parts_in y) c.args.x) ≡ length c.deref-2.result.now.columns)
    (sym (c.both_of.ensures.unchanged ∙ c.in-Ok.ensures.unchanged))
    (own_inner t.ring ps c.args.log.now c.requires.log G (columns_of A) C X W (generator_shapes (log_of ps c.args.log.now) G (columns_of A) C X W c.requires.fits) c.deref-2.result.now
    (subst (IsValue t.ring G) (sym c.deref-2.ensures) (told_value t.ring G c.both_of.result c.in-Ok-told.g c.in-Ok-told.ensures.same
    (subst (λ (y : TableValue). IfOk c.both_of.result (λ (m : Rc MatrixValue Global). IsValue y.ring (beside (operand_part y.ring (parts_in y) c.args.a.now) (operand_part y.ring (parts_in y) c.args.b.now)) m.value))
    c.in-Ok.ensures.unchanged c.both_of.ensures.value))))

pub generated-requires-clause-cover : goal.generated-requires-clause-cover
generated-requires-clause-cover c =
    let t = c.args.table.now in
    let ps = parts_in t in
    let A = operand_part t.ring ps c.args.a.now in
    let G = beside A (operand_part t.ring ps c.args.b.now) in
    subst (λ (y : TableValue). fits (times (part_at (parts_in y) c.args.c) (part_at (parts_in y) c.args.w)) ≡ true) (sym (c.both_of.ensures.unchanged ∙ c.in-Ok.ensures.unchanged))
    (generator_shapes (log_of ps c.args.log.now) G (columns_of A) (part_at ps c.args.c) (part_at ps c.args.x) (part_at ps c.args.w) c.requires.fits).cover

pub returns-clause-judges : goal.returns-clause-judges
unfolding holds
returns-clause-judges c =
    let t = c.args.table.now in
    let ps = parts_in t in
    let log = c.args.log.now in
    let l = c.deref.result.now in
    let g = c.deref-2.result.now in
    let G = beside (operand_part t.ring ps c.args.a.now) (operand_part t.ring ps c.args.b.now) in
    (subst (λ (y : TableValue). (H : Part) → IsValue y.ring (part_at (parts_in y) log.part) l → IsValue y.ring H g → Judges end_view c.generated.result
    (holds_generating y.ring (log_of (parts_in y) log) H (part_at (parts_in y) c.args.c) (part_at (parts_in y) c.args.x) (part_at (parts_in y) c.args.w)))
    (c.both_of.ensures.unchanged ∙ c.in-Ok.ensures.unchanged) c.generated.ensures.judges) G
    (subst (IsValue t.ring (part_at ps log.part)) (sym c.deref.ensures) c.in-Ok.ensures.value)
    (subst (IsValue t.ring G) (sym c.deref-2.ensures) (told_value t.ring G c.both_of.result c.in-Ok-told.g c.in-Ok-told.ensures.same
    (subst (λ (y : TableValue). IfOk c.both_of.result (λ (m : Rc MatrixValue Global). IsValue y.ring (beside (operand_part y.ring (parts_in y) c.args.a.now) (operand_part y.ring (parts_in y) c.args.b.now)) m.value))
    c.in-Ok.ensures.unchanged c.both_of.ensures.value)))
