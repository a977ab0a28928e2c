use Rattle.std.proofs.Common.{subst}
use Rattle.fm_places.specs.Meanings.{goal_of, place_of}
use Rattle.fm_lines.specs.Rows.{row_line}
use Rattle.fm_check.specs.Standings.{IsOpenIf, parts_of}
use Rattle.fm_check.proofs.LogRows.{entry_leads, logged, o}
use Rattle.fm_check.proofs.log_rows.entry_row.Goals as goal

pub returns-clause-leads : goal.returns-clause-leads
returns-clause-leads c = λ q a s k says version stands.
    let d = c.args.certificate.now in
    let l = c.in-Some.log in
    let g = goal_of q (parts_of a) d.goal in
    let p = place_of q.ring (parts_of a) d.goal.aim d.place in
    entry_leads q a s says d l c.in-Some.is stands c.enter_row.new.log c.enter_row.result (row_line c.args.row.now) c.enter_row.ensures.same.0
    (c.enter_row.ensures.entered c.requires.within s g p (o q a s says d l c.in-Some.is stands) version
    (logged q a s says d l c.in-Some.is stands (subst (IsOpenIf q.ring (parts_of a)) c.in-Some.is k.log)))
