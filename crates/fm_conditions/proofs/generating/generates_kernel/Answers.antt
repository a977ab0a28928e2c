use Rattle.std.proofs.Common.{◌≡◌, ◌+◌, ◌∙◌, true, length, refl, sym, subst}
use Rattle.fm_report.specs.Parts.{Part, times}
use Rattle.fm_parts.specs.Shapes.{fits, rows_of, columns_of}
use Rattle.fm_parts.specs.Conditions.{holds, holds_generating}
use Rattle.fm_pres.specs.Kept.{IsValue}
use Rattle.fm_pres.specs.Tables.{TableValue, parts_in, part_at}
use Rattle.fm_conditions.specs.Meanings.{log_of, operand_part}
use Rattle.fm_conditions.specs.Reasons.{Judges}
use Rattle.fm_conditions.proofs.Formed.{value_moved, evaluated_moved}
use Rattle.fm_conditions.proofs.Judgements.{end_view}
use Rattle.fm_conditions.proofs.Generations.{generator_shapes, own_syzygies, own_inner, logged_refused, matrix_refused}
use Rattle.fm_conditions.proofs.generating.generates_kernel.Goals as goal

pub returns-in-Err-clause-judges : goal.returns-in-Err-clause-judges
unfolding holds
returns-in-Err-clause-judges c =
    let t = c.args.table.now in
    let ps = parts_in t in
    logged_refused t.ring (log_of ps c.args.log.now) (operand_part t.ring ps c.args.a.now) (part_at ps c.args.c) (part_at ps c.args.x) (part_at ps c.args.w) c.in-Err.refused c.in-Err.ensures.judges

pub returns-in-Err-evaluated-clause-judges : goal.returns-in-Err-evaluated-clause-judges
unfolding holds
returns-in-Err-evaluated-clause-judges c =
    let t = c.args.table.now in
    let ps = parts_in t in
    matrix_refused t.ring (log_of ps c.args.log.now) (operand_part t.ring ps c.args.a.now) (part_at ps c.args.c) (part_at ps c.args.x) (part_at ps c.args.w) c.in-Ok.logged.value
    c.in-Err-evaluated.refused c.in-Ok.ensures.value (evaluated_moved t c.part_value.new.table c.in-Ok.ensures.unchanged c.args.a.now c.in-Err-evaluated.refused c.in-Err-evaluated.ensures.judges)

pub generated-requires-clause-syzygies : goal.generated-requires-clause-syzygies
generated-requires-clause-syzygies c =
    let t = c.args.table.now in
    let ps = parts_in t in
    let G = operand_part t.ring ps c.args.a.now in
    let C = part_at ps c.args.c in
    let X = part_at ps c.args.x in
    let W = part_at ps c.args.w in
    own_syzygies t.ring ps c.args.log.now c.requires.log G (columns_of G) C X W (generator_shapes (log_of ps c.args.log.now) G (columns_of G) C X W c.requires.fits) c.deref-2.result.now
    (value_moved t c.part_value.new.table c.args.a.now c.args.a.now c.in-Ok.ensures.unchanged refl c.in-Ok-evaluated.g.value c.deref-2.result.now c.deref-2.ensures c.in-Ok-evaluated.ensures.value)

pub generated-requires-clause-inner : goal.generated-requires-clause-inner
generated-requires-clause-inner c =
    let t = c.args.table.now in
    let ps = parts_in t in
    let G = operand_part t.ring ps c.args.a.now in
    let C = part_at ps c.args.c in
    let X = part_at ps c.args.x in
    let W = part_at ps c.args.w in
    subst (λ (y : TableValue). rows_of (part_at (parts_in y) c.args.c) + rows_of (part_at (parts_in y) c.args.x) ≡ length c.deref-2.result.now.columns)
    (sym (c.in-Ok-evaluated.ensures.unchanged ∙ c.in-Ok.ensures.unchanged))
    (own_inner t.ring ps c.args.log.now c.requires.log G (columns_of G) C X W (generator_shapes (log_of ps c.args.log.now) G (columns_of G) C X W c.requires.fits) c.deref-2.result.now
    (value_moved t c.part_value.new.table c.args.a.now c.args.a.now c.in-Ok.ensures.unchanged refl c.in-Ok-evaluated.g.value c.deref-2.result.now c.deref-2.ensures c.in-Ok-evaluated.ensures.value))

pub generated-requires-clause-cover : goal.generated-requires-clause-cover
generated-requires-clause-cover c =
    let t = c.args.table.now in
    let ps = parts_in t in
    let G = operand_part t.ring ps c.args.a.now in
    subst (λ (y : TableValue). fits (times (part_at (parts_in y) c.args.c) (part_at (parts_in y) c.args.w)) ≡ true) (sym (c.in-Ok-evaluated.ensures.unchanged ∙ c.in-Ok.ensures.unchanged))
    (generator_shapes (log_of ps c.args.log.now) G (columns_of G) (part_at ps c.args.c) (part_at ps c.args.x) (part_at ps c.args.w) c.requires.fits).cover

pub returns-clause-judges : goal.returns-clause-judges
unfolding holds
returns-clause-judges c =
    let t = c.args.table.now in
    let ps = parts_in t in
    let log = c.args.log.now in
    let l = c.deref.result.now in
    let g = c.deref-2.result.now in
    (subst (λ (y : TableValue). (H : Part) → IsValue y.ring (part_at (parts_in y) log.part) l → IsValue y.ring H g → Judges end_view c.generated.result
    (holds_generating y.ring (log_of (parts_in y) log) H (part_at (parts_in y) c.args.c) (part_at (parts_in y) c.args.x) (part_at (parts_in y) c.args.w)))
    (c.in-Ok-evaluated.ensures.unchanged ∙ c.in-Ok.ensures.unchanged) c.generated.ensures.judges) (operand_part t.ring ps c.args.a.now)
    (subst (IsValue t.ring (part_at ps log.part)) (sym c.deref.ensures) c.in-Ok.ensures.value)
    (value_moved t c.part_value.new.table c.args.a.now c.args.a.now c.in-Ok.ensures.unchanged refl c.in-Ok-evaluated.g.value g c.deref-2.ensures c.in-Ok-evaluated.ensures.value)
