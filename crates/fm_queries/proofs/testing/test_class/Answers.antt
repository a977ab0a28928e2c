use Rattle.std.proofs.Common.{◌≡◌, ◌==◌, true, length, Ok, Err, ap, ◌∙◌, eq-eqb}
use Rattle.fm_poly.specs.Polys.{PolyValue, meaning}
use Rattle.fm_mat.specs.Matrices.{column_meaning, matrix_meaning}
use Rattle.fm_mat.proofs.Steps.{map_length}
use Rattle.fm_run.specs.declared.task.Side.TheVariants.{Alone}
use Rattle.fm_run.specs.declared.task.Name.TheVariants as names
use Rattle.fm_run.proofs.Parts.{failed}
use Rattle.fm_plan.specs.Queries.{cocycle_work, unless}
use Rattle.fm_plan.specs.Tasks.{not_a_cocycle}
use Rattle.fm_plan.proofs.Following.{told_of}
use Rattle.fm_queries.specs.Founds.{class_test, ended_by}
use Rattle.fm_queries.specs.declared.unanswered.Unanswered.TheVariants as ends
use Rattle.fm_queries.proofs.ClassTests.{test_stops, test_ends}
use Rattle.fm_queries.proofs.testing.test_class.Goals as goal

pub returns-in_err-component : goal.returns-in_err-component
returns-in_err-component c = λ units.
    let r = c.args.d.now.ring in
    let e = c.args.e in
    let d = matrix_meaning r c.args.d.now in
    let z = column_meaning r c.args.z.now in
    let fits : (length z == d.rows) ≡ true = eq-eqb (length z) d.rows (map_length (λ (f : PolyValue). meaning r f.terms) c.args.z.now ∙ c.if-found-needed.false ∙ c.rows-needed.ensures) in
    let s = c.in_err-component.field-0.0 in
    failed (λ u. u) ended_by c.from_residual.result (ends.Stopped s) units units (class_test r e d z units) c.from_residual.ensures
    (test_stops r e d z units fits s (told_of (λ o. o) Alone names.Test 0 units units (cocycle_work r e d z) c.first_component.result (Err s) c.in_err-component.ensures (c.first_component.ensures units)))

pub returns-in-Some : goal.returns-in-Some
returns-in-Some c = λ units.
    let r = c.args.d.now.ring in
    let e = c.args.e in
    let d = matrix_meaning r c.args.d.now in
    let z = column_meaning r c.args.z.now in
    let fits : (length z == d.rows) ≡ true = eq-eqb (length z) d.rows (map_length (λ (f : PolyValue). meaning r f.terms) c.args.z.now ∙ c.if-found-needed.false ∙ c.rows-needed.ensures) in
    let o = c.in_ok-component.field-0 in
    test_ends r e d z units fits o (told_of (λ o. o) Alone names.Test 0 units units (cocycle_work r e d z) c.first_component.result (Ok o) c.in_ok-component.ensures (c.first_component.ensures units))
    ∙ ap (λ o. unless r not_a_cocycle o units) c.in-Some.is

pub returns-in-None : goal.returns-in-None
returns-in-None c = λ units.
    let r = c.args.d.now.ring in
    let e = c.args.e in
    let d = matrix_meaning r c.args.d.now in
    let z = column_meaning r c.args.z.now in
    let fits : (length z == d.rows) ≡ true = eq-eqb (length z) d.rows (map_length (λ (f : PolyValue). meaning r f.terms) c.args.z.now ∙ c.if-found-needed.false ∙ c.rows-needed.ensures) in
    let o = c.in_ok-component.field-0 in
    test_ends r e d z units fits o (told_of (λ o. o) Alone names.Test 0 units units (cocycle_work r e d z) c.first_component.result (Ok o) c.in_ok-component.ensures (c.first_component.ensures units))
    ∙ ap (λ o. unless r not_a_cocycle o units) c.in-None.is
