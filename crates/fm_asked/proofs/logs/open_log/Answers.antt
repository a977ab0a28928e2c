use Rattle.std.proofs.Common.{◌+◌, ℕ, length, ap, arith}
use Rattle.std.proofs.lemmas.Bool.{le-ltb, lt-ltb}
use Rattle.fm_parts.specs.Replays.{nothing_replayed}
use Rattle.fm_parts.specs.Shapes.{SIZE, rows_of, columns_of}
use Rattle.fm_judge.specs.Judging.{log_line}
use Rattle.fm_pres.specs.Tables.{part_at, parts_in}
use Rattle.fm_asked.specs.declared.logs.OpenLog.{OpenLog}
use Rattle.fm_asked.specs.OpenLogs.{with_log}
use Rattle.fm_asked.proofs.LogLines.{keeps_nothing, known_part, unknown_part, next_log, no_part, too_large, too_high, log_opens, refusal_told}
use Rattle.fm_asked.proofs.logs.open_log.Goals as goal

pub returns-in_default-clause-judged : goal.returns-in_default-clause-judged
returns-in_default-clause-judged c s g p e r l =
    let ps = parts_in c.args.table.now in
    no_part s g p c.args.number c.args.part ps e (next_log c.args.number (length s.logs) c.args.logs l c.if-number-eq0.false c.if-number-logs.false)
    (unknown_part ps c.args.part c.numbered.result c.numbered.ensures c.in_default.is)

pub returns-in_default-checked_add-clause-judged : goal.returns-in_default-checked_add-clause-judged
returns-in_default-checked_add-clause-judged c s g p e r l =
    let ps = parts_in c.args.table.now in
    let x = part_at ps c.in-Some.part in
    let rows = ap (λ (z : ℕ × ℕ). z.0) c.shape-rows.ensures.shape in
    let columns = ap (λ (z : ℕ × ℕ). z.1) c.shape-rows.ensures.shape in
    let sum = c.in_default-checked_add.ensures in
    too_large s g p c.args.number c.args.part c.args.ring x (known_part ps s.sheet.parts c.args.part c.numbered.result c.in-Some.part e c.numbered.ensures c.in-Some.is).0
    (next_log c.args.number (length s.logs) c.args.logs l c.if-number-eq0.false c.if-number-logs.false) (le-ltb (rows_of x + columns_of x) SIZE (omega (arith, rows, columns, sum)))

pub returns-in-Ok-clause-judged : goal.returns-in-Ok-clause-judged
returns-in-Ok-clause-judged c s g p e r l =
    let ps = parts_in c.args.table.now in
    let x = part_at ps c.in-Some.part in
    let rows = ap (λ (z : ℕ × ℕ). z.0) c.shape-rows.ensures.shape in
    let columns = ap (λ (z : ℕ × ℕ). z.1) c.shape-rows.ensures.shape in
    let sum = c.in-Some-checked_add.ensures in
    log_opens s g p c.args.number c.args.part c.args.ring x (known_part ps s.sheet.parts c.args.part c.numbered.result c.in-Some.part e c.numbered.ensures c.in-Some.is).0
    (next_log c.args.number (length s.logs) c.args.logs l c.if-number-eq0.false c.if-number-logs.false) r (lt-ltb (rows_of x + columns_of x) SIZE (omega (arith, rows, columns, sum)))
    c.in-Ok.ensures.inputs.1

pub returns-in-Ok-clause-fresh : goal.returns-in-Ok-clause-fresh
returns-in-Ok-clause-fresh c = keeps_nothing c.args.ring c.in-Some-checked_add.height c.new.result c.new.ensures

pub returns-in-Err-clause-judged : goal.returns-in-Err-clause-judged
returns-in-Err-clause-judged c s g p e r l =
    let ps = parts_in c.args.table.now in
    let x = part_at ps c.in-Some.part in
    let rows = ap (λ (z : ℕ × ℕ). z.0) c.shape-rows.ensures.shape in
    let columns = ap (λ (z : ℕ × ℕ). z.1) c.shape-rows.ensures.shape in
    let sum = c.in-Some-checked_add.ensures in
    refusal_told c.args.ring x (λ (log : OpenLog). with_log s g p (part_at ps log.part) nothing_replayed) c.in-Err.refused (log_line s g p c.args.number c.args.part) c.in-Err.ensures.inputs (λ w.
    too_high s g p c.args.number c.args.part c.args.ring x (known_part ps s.sheet.parts c.args.part c.numbered.result c.in-Some.part e c.numbered.ensures c.in-Some.is).0
    (next_log c.args.number (length s.logs) c.args.logs l c.if-number-eq0.false c.if-number-logs.false) r (lt-ltb (rows_of x + columns_of x) SIZE (omega (arith, rows, columns, sum))) w)
