use Rattle.std.proofs.Common.{ℕ, ◌<◌, ◌^◌, OnOk, Option, Some, None, sym, subst, ◌∙◌, arith, true, false}
use Rattle.std.specs.Prelude.{IfSome}
use Rattle.fm_writer.specs.Kinds.{excluding_line}
use Rattle.fm_writer.specs.Writers.{HasLine}
use Rattle.fm_writer.proofs.KindRows.{excluding_pushed}
use Rattle.fm_writer.proofs.Pages.{on_ok}
use Rattle.fm_writer.proofs.claim.push_excluding.Goals as goal

pub returns-in-Some-true : goal.returns-in-Some-true
returns-in-Some-true c =
    let low = c.from-column.type_inv in
    subst (λ m. OnOk c.push.result (HasLine c.args.writer.now (excluding_line c.args.kind c.args.n m c.args.by.now) c.push.new.self)) c.from-column.ensures
    (on_ok c.push.result
    (excluding_pushed c.args.writer.now c.push.new.self c.args.kind c.args.n c.from-column.result c.args.by.now c.word.result.now (Some c.in-Some-true.s) true c.word.ensures
    (sym c.in-Some-true.is-0 ∙ c.number.ensures.value) c.in-Some-true.ensures' (subst (λ (o : Option ℕ). IfSome o (λ j. j < 2 ^ 64)) c.in-Some-true.is-0 c.number.ensures.small) c.ranges.n.fits (omega (arith, low)) c.tell_small.ensures)
    c.push.ensures)

pub returns-in-Some-false : goal.returns-in-Some-false
returns-in-Some-false c =
    let low = c.from-column.type_inv in
    subst (λ m. OnOk c.push-in-Some-false.result (HasLine c.args.writer.now (excluding_line c.args.kind c.args.n m c.args.by.now) c.push-in-Some-false.new.self)) c.from-column.ensures
    (on_ok c.push-in-Some-false.result
    (excluding_pushed c.args.writer.now c.push-in-Some-false.new.self c.args.kind c.args.n c.from-column.result c.args.by.now c.word-in-Some-false.result.now (Some c.in-Some-false.s) false c.word-in-Some-false.ensures
    (sym c.in-Some-false.is-0 ∙ c.number.ensures.value) c.in-Some-false.ensures' (subst (λ (o : Option ℕ). IfSome o (λ j. j < 2 ^ 64)) c.in-Some-false.is-0 c.number.ensures.small) c.ranges.n.fits (omega (arith, low)) c.tell_small.ensures)
    c.push-in-Some-false.ensures)

pub returns-in-None-true : goal.returns-in-None-true
returns-in-None-true c =
    let low = c.from-column.type_inv in
    subst (λ m. OnOk c.push-in-None-true.result (HasLine c.args.writer.now (excluding_line c.args.kind c.args.n m c.args.by.now) c.push-in-None-true.new.self)) c.from-column.ensures
    (on_ok c.push-in-None-true.result
    (excluding_pushed c.args.writer.now c.push-in-None-true.new.self c.args.kind c.args.n c.from-column.result c.args.by.now c.word-in-None-true.result.now None true c.word-in-None-true.ensures
    (sym c.in-None-true.is-0 ∙ c.number.ensures.value) c.in-None-true.ensures tt c.ranges.n.fits (omega (arith, low)) c.tell_small.ensures)
    c.push-in-None-true.ensures)

pub returns-in-None-false : goal.returns-in-None-false
returns-in-None-false c =
    let low = c.from-column.type_inv in
    subst (λ m. OnOk c.push-in-None-false.result (HasLine c.args.writer.now (excluding_line c.args.kind c.args.n m c.args.by.now) c.push-in-None-false.new.self)) c.from-column.ensures
    (on_ok c.push-in-None-false.result
    (excluding_pushed c.args.writer.now c.push-in-None-false.new.self c.args.kind c.args.n c.from-column.result c.args.by.now c.word-in-None-false.result.now None false c.word-in-None-false.ensures
    (sym c.in-None-false.is-0 ∙ c.number.ensures.value) c.in-None-false.ensures tt c.ranges.n.fits (omega (arith, low)) c.tell_small.ensures)
    c.push-in-None-false.ensures)
