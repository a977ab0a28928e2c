use Rattle.std.proofs.Common.{◌∙◌, refl, sym, ap, subst, length, List}
use Rattle.fm_complete.specs.Divisions.{terms_of}
use Rattle.fm_mat.specs.Matrices.{MatrixValue}
use Rattle.fm_vec.specs.Vectors.{VectorValue}
use Rattle.fm_parts.specs.Conditions.{holds}
use Rattle.fm_pres.specs.Kept.{IsValue}
use Rattle.fm_pres.specs.Tables.{parts_in, part_at}
use Rattle.fm_conditions.specs.Meanings.{log_of, operand_part}
use Rattle.fm_conditions.proofs.Formed.{value_moved, evaluated_moved}
use Rattle.fm_conditions.proofs.Exclusions.{logged_refused, matrix_refused, other_matrix, vector_refused, reduction_read}
use Rattle.fm_conditions.proofs.excluding.lies_outside.Goals as goal

pub returns-in-Err-clause-judges : goal.returns-in-Err-clause-judges
unfolding holds
returns-in-Err-clause-judges c =
    let t = c.args.table.now in
    let ps = parts_in t in
    logged_refused t.ring (log_of ps c.args.log.now) c.args.e (operand_part t.ring ps c.args.a.now) (operand_part t.ring ps c.args.v.now) c.args.column c.args.by.now c.in-Err.refused c.in-Err.ensures.judges

pub returns-in-Err-evaluated-clause-judges : goal.returns-in-Err-evaluated-clause-judges
unfolding holds
returns-in-Err-evaluated-clause-judges c =
    let t = c.args.table.now in
    let ps = parts_in t in
    matrix_refused t.ring (log_of ps c.args.log.now) c.args.e (operand_part t.ring ps c.args.a.now) (operand_part t.ring ps c.args.v.now) c.args.column c.args.by.now c.in-Ok.logged.value
    c.in-Err-evaluated.refused c.in-Ok.ensures.value
    (evaluated_moved t c.part_value.new.table c.in-Ok.ensures.unchanged c.args.a.now c.in-Err-evaluated.refused c.in-Err-evaluated.ensures.judges)

pub returns-in-Err-same-clause-judges : goal.returns-in-Err-same-clause-judges
unfolding holds
returns-in-Err-same-clause-judges c =
    let t = c.args.table.now in
    let ps = parts_in t in
    let l = c.deref.result.now in
    let a = c.deref-2.result.now in
    let first = subst (IsValue t.ring (part_at ps c.args.log.now.part)) (sym c.deref.ensures) c.in-Ok.ensures.value in
    let second = value_moved t c.part_value.new.table c.args.a.now c.args.a.now c.in-Ok.ensures.unchanged refl c.in-Ok-evaluated.a.value a c.deref-2.ensures c.in-Ok-evaluated.ensures.value in
    other_matrix t.ring (log_of ps c.args.log.now) c.args.e (operand_part t.ring ps c.args.a.now) (operand_part t.ring ps c.args.v.now) c.args.column c.args.by.now l a first second
    c.in-Err-same.refused (c.in-Err-same.ensures t.ring first.ring)

pub returns-in-Err-evaluated-2-clause-judges : goal.returns-in-Err-evaluated-2-clause-judges
unfolding holds
returns-in-Err-evaluated-2-clause-judges c =
    let t = c.args.table.now in
    let ps = parts_in t in
    let l = c.deref.result.now in
    let a = c.deref-2.result.now in
    let first = subst (IsValue t.ring (part_at ps c.args.log.now.part)) (sym c.deref.ensures) c.in-Ok.ensures.value in
    let second = value_moved t c.part_value.new.table c.args.a.now c.args.a.now c.in-Ok.ensures.unchanged refl c.in-Ok-evaluated.a.value a c.deref-2.ensures c.in-Ok-evaluated.ensures.value in
    vector_refused t.ring (log_of ps c.args.log.now) c.args.e (operand_part t.ring ps c.args.a.now) (operand_part t.ring ps c.args.v.now) c.args.column c.args.by.now l a first second
    c.in-Err-evaluated-2.refused (c.in-Ok-same.ensures t.ring first.ring)
    (evaluated_moved t c.evaluated.new.table (c.in-Ok-evaluated.ensures.unchanged ∙ c.in-Ok.ensures.unchanged) c.args.v.now c.in-Err-evaluated-2.refused c.in-Err-evaluated-2.ensures.judges)

pub returns-clause-judges : goal.returns-clause-judges
unfolding holds
returns-clause-judges c =
    let t = c.args.table.now in
    let ps = parts_in t in
    let l = c.deref.result.now in
    let a = c.deref-2.result.now in
    let v = c.deref-7.result.now in
    let first = subst (IsValue t.ring (part_at ps c.args.log.now.part)) (sym c.deref.ensures) c.in-Ok.ensures.value in
    let second = value_moved t c.part_value.new.table c.args.a.now c.args.a.now c.in-Ok.ensures.unchanged refl c.in-Ok-evaluated.a.value a c.deref-2.ensures c.in-Ok-evaluated.ensures.value in
    let vector = value_moved t c.evaluated.new.table c.args.v.now c.args.v.now (c.in-Ok-evaluated.ensures.unchanged ∙ c.in-Ok.ensures.unchanged) refl c.in-Ok-evaluated-2.v.value v c.deref-7.ensures
    c.in-Ok-evaluated-2.ensures.value in
    reduction_read t.ring (log_of ps c.args.log.now) c.args.e (operand_part t.ring ps c.args.a.now) (operand_part t.ring ps c.args.v.now) c.args.column c.args.by.now l a first second
    v c.ends_outside.result c.ring.result c.rows.result c.cols.result (terms_of c.deref-6.result.now)
    (c.ring.ensures ∙ ap (λ (y : MatrixValue). y.ring) (c.deref-3.ensures ∙ sym c.deref-2.ensures) ∙ second.ring)
    (c.rows.ensures ∙ ap (λ (y : MatrixValue). y.rows) (c.deref-4.ensures ∙ sym c.deref-2.ensures))
    (c.cols.ensures ∙ ap (λ (y : MatrixValue). length y.columns) (c.deref-5.ensures ∙ sym c.deref-2.ensures))
    (ap (λ (vs : List VectorValue). terms_of vs) c.deref-6.ensures.value)
    (c.in-Ok-same.ensures t.ring first.ring) vector c.ends_outside.ensures
