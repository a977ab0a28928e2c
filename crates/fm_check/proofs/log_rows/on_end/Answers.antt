use Rattle.std.proofs.Common.{◌∙◌, ap, sym, subst}
use Rattle.fm_places.specs.Meanings.{goal_of, place_of}
use Rattle.fm_report.specs.Sheets.{ring_in}
use Rattle.fm_check.specs.Standings.{IsBefore, IsOpenIf, parts_of}
use Rattle.fm_check.proofs.LogRows.{end_leads, there}
use Rattle.fm_check.proofs.PartRows.{in_place}
use Rattle.fm_check.proofs.log_rows.on_end.Goals as goal

pub returns-clause-leads : goal.returns-clause-leads
returns-clause-leads c = λ q s h k says stands.
    let a = c.args.asked.now in
    let d = c.args.certificate.now in
    let l = c.in-Some.log in
    let is = sym c.take.ensures.value ∙ c.in-Some.is in
    let g = goal_of q (parts_of a) d.goal in
    let p = place_of q.ring (parts_of a) d.goal.aim d.place in
    let at = there q a s says d l is stands in
    end_leads q a s says d l is stands c.end_row.new.asked c.take.new.self c.end_row.result c.take.ensures.after c.end_row.ensures.table
    (in_place q.ring (parts_of a) d.goal.aim d.place g (subst (IsBefore d.place) is k.before))
    (c.end_row.ensures.says s g p says.asked)
    (c.end_row.ensures.judged q.ring s g p at.0 says.asked (ap ring_in says.head) (subst (IsOpenIf q.ring (parts_of a)) is k.log) at.2)
