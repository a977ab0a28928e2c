use Rattle.std.proofs.Common.{◌≡◌, false, Some, inl, inr, sym, ◌∙◌, arith}
use Rattle.fm_report.specs.Sheets.{numbered}
use Rattle.fm_parts.specs.Replays.{are_numbers}
use Rattle.fm_pres.proofs.Tables.{is_number_bounds}
use Rattle.fm_conditions.specs.Meanings.{log_at, logs_of}
use Rattle.fm_claims.proofs.Numbering.{log_is}
use Rattle.fm_claims.proofs.Shown.{excluded_by, no_column, not_members}
use Rattle.fm_claims.proofs.numbers.excluding.Goals.{then-column-eq0-via-then-column-eq0, then-column-eq0-via-else-column-eq0+then-column-from, then-column-eq0-via-else-column-eq0+else-column-from+then-not-are_members}
use Rattle.fm_claims.proofs.numbers.excluding.Goals as goal

pub returns-then-column-eq0-clause-excluded : goal.returns-then-column-eq0-clause-excluded
returns-then-column-eq0-clause-excluded c = λ ps r g b e A V h.
    let L = logs_of ps c.args.logs.now in let k = c.in-Some.log in let n = c.args.n in let j = c.args.column in let by = c.args.by.now in
    let found : numbered L n ≡ Some (log_at L k) = c.in-Some.ensures.log ps in
    elim c.then-column-eq0.branch [
      | then-column-eq0-via-then-column-eq0 w ↦ no_column r g b ps L e A V n j by (log_at L k) found (inl w.if-column-eq0.true)
      | then-column-eq0-via-else-column-eq0+then-column-from w ↦
          no_column r g b ps L e A V n j by (log_at L k) found (inr (omega (arith, h, w.from.ensures, w.if-column-from.true)))
      | then-column-eq0-via-else-column-eq0+else-column-from+then-not-are_members w ↦
          let low = is_number_bounds c.args.logs.now k c.in-Some.ensures.there in
          let same = log_is ps c.args.logs.now k w.index-logs-log.result low.0 low.1 w.index-logs-log.is in
          let none : are_numbers (log_at L k).members by ≡ false = rw same (sym (w.are_members.ensures ps) ∙ w.if-not-are_members.true) in
          not_members r g b ps L e A V n j by (log_at L k) found none
    ]

pub returns-clause-excluded : goal.returns-clause-excluded
returns-clause-excluded c = λ ps r g b e A V h.
    let L = logs_of ps c.args.logs.now in let k = c.in-Some.log in let by = c.args.by.now in
    let low = is_number_bounds c.args.logs.now k c.in-Some.ensures.there in
    let same = log_is ps c.args.logs.now k c.index-logs-log.result low.0 low.1 c.index-logs-log.is in
    rw c.in_ok-by.ensures (excluded_by r g b ps L e A V c.args.n c.args.column by (log_at L k) (c.in-Some.ensures.log ps)
    (rw same (sym (c.are_members.ensures ps) ∙ c.if-not-are_members.false))
    (omega (arith, c.if-column-eq0.false)) (omega (arith, h, c.from.ensures, c.if-column-from.false)))
