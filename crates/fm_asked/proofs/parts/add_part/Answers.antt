use Rattle.std.proofs.Common.{◌≡◌, ◌+◌, ◌<◌, ◌∙◌, List, length, sym, ap, subst, arith}
use Rattle.std.proofs.lemmas.Bool.{eqb-true}
use Rattle.fm_report.specs.Parts.{Part}
use Rattle.fm_pres.specs.Tables.{parts_in}
use Rattle.fm_asked.specs.Forms.{IsForm, IsFormIf}
use Rattle.fm_asked.specs.Narrowing.{MOST}
use Rattle.fm_asked.specs.Partings.{Enters}
use Rattle.fm_asked.proofs.PartLines.{form_entered, misshapen}
use Rattle.fm_asked.proofs.parts.add_part.Goals as goal

pub returns-in-Ok-Some-clause-judged : goal.returns-in-Ok-Some-clause-judged
returns-in-Ok-Some-clause-judged c s stage e =
    let ps = parts_in c.args.table.now in
    let f = c.in-Ok-Some.form in
    let many : length s.sheet.parts ≡ length ps = ap length e in
    let here : c.args.number ≡ length ps + 1 = eqb-true c.args.number (length ps + 1) (sym c.in-Ok-true.ensures.next ∙ c.in-Ok-true.field-0-test) in
    form_entered c.args.ring s stage (parts_in c.enter.new.table) c.args.number c.args.form f c.enter.result
    (subst (λ (qs : List Part). length qs < MOST) (sym e) c.in-Ok-true.ensures.few) (omega (arith, here, many))
    (subst (λ (qs : List Part). IsForm c.args.ring qs c.args.form f) (sym e) (subst (IsFormIf c.args.ring ps c.args.form) c.in-Ok-Some.field-0-is c.in-Ok-Some.ensures.form))
    (subst (λ (qs : List Part). Enters qs (parts_in c.enter.new.table) f c.enter.result) (sym e) c.enter.ensures.entered)

pub returns-in-Ok-None-clause-judged : goal.returns-in-Ok-None-clause-judged
returns-in-Ok-None-clause-judged c s stage e =
    let ps = parts_in c.args.table.now in
    let many : length s.sheet.parts ≡ length ps = ap length e in
    let here : c.args.number ≡ length ps + 1 = eqb-true c.args.number (length ps + 1) (sym c.in-Ok-true.ensures.next ∙ c.in-Ok-true.field-0-test) in
    misshapen s stage c.args.number c.args.form (omega (arith, here, many)) (subst (IsFormIf c.args.ring ps c.args.form) c.in-Ok-None.field-0-is c.in-Ok-None.ensures.form)
