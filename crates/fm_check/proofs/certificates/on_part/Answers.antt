use Rattle.std.proofs.Common.{sym, subst}
use Rattle.fm_places.specs.Meanings.{goal_of, place_of}
use Rattle.fm_judge.specs.Judging.{in_certificate}
use Rattle.fm_check.specs.Standings.{Leads, parts_of}
use Rattle.fm_check.proofs.PartRows.{grown_certificate, part_leads, part_on}
use Rattle.fm_check.proofs.certificates.on_part.Goals as goal

pub returns-clause-leads : goal.returns-clause-leads
returns-clause-leads c = λ s says.
    let q = c.args.problem.now in
    let a = c.args.asked.now in
    let b = c.part_row.new.asked in
    let k = c.args.certificate.now in
    let g = goal_of q (parts_of a) k.goal in
    let p = place_of q.ring (parts_of a) k.goal.aim k.place in
    subst (Leads q b k s c.part_row.result) (sym (part_on s g p c.args.number c.args.form))
    (part_leads q a b k c.requires.certificate c.requires.log s c.part_row.result _ c.part_row.ensures.grown c.requires.place says
    (c.part_row.ensures.says s (in_certificate g p) says.asked) (c.part_row.ensures.judged s (in_certificate g p) says.asked))

pub returns-clause-certificate : goal.returns-clause-certificate
returns-clause-certificate c =
    grown_certificate c.args.problem.now c.args.asked.now c.part_row.new.asked c.args.certificate.now c.requires.certificate c.requires.log c.part_row.result c.part_row.ensures.grown
