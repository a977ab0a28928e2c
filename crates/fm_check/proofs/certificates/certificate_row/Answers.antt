use Rattle.std.proofs.Common.{refl, sym}
use Rattle.fm_lines.specs.declared.row.Row.TheVariants as rows
use Rattle.fm_check.proofs.PlaceRows.{done_here, ended_here, leads_here}
use Rattle.fm_check.proofs.certificates.certificate_row.Goals as goal

pub returns-in-Part-clause-leads : goal.returns-in-Part-clause-leads
returns-in-Part-clause-leads c = λ s says stands.
    leads_here c.args.problem.now c.args.asked.now c.args.certificate.now s c.requires.log c.requires.place stands
    c.on_part.new.asked c.args.certificate.now c.on_part.result c.args.row (rows.Part c.in-Part.number c.in-Part.form) (sym c.in-Part.is) (c.on_part.ensures.leads s says)

pub returns-in-Log-clause-leads : goal.returns-in-Log-clause-leads
returns-in-Log-clause-leads c = λ s says stands.
    leads_here c.args.problem.now c.args.asked.now c.args.certificate.now s c.requires.log c.requires.place stands
    c.begin_log.new.asked c.begin_log.new.certificate c.begin_log.result c.args.row (rows.Log c.in-Log.number c.in-Log.part) (sym c.in-Log.is) (c.begin_log.ensures.leads s says)

pub returns-in-Datum-clause-leads : goal.returns-in-Datum-clause-leads
returns-in-Datum-clause-leads c = λ s says stands.
    leads_here c.args.problem.now c.args.asked.now c.args.certificate.now s c.requires.log c.requires.place stands
    c.on_datum.new.asked c.on_datum.new.certificate c.on_datum.result c.args.row (rows.Datum c.in-Datum.name c.in-Datum.degree) (sym c.in-Datum.is) (c.on_datum.ensures.leads s says)

pub returns-in-Ended-clause-leads : goal.returns-in-Ended-clause-leads
returns-in-Ended-clause-leads c = λ s says stands.
    ended_here c.args.problem.now c.args.asked.now c.args.certificate.now s c.requires.log c.requires.place stands c.args.row c.in-Ended.field-0 c.in-Ended.is

pub returns-in-Done-clause-leads : goal.returns-in-Done-clause-leads
returns-in-Done-clause-leads c = λ s says stands.
    done_here c.args.problem.now c.args.asked.now c.args.certificate.now s c.requires.log c.requires.place stands c.args.row c.in-Done.number c.in-Done.is

pub returns-in_default : goal.returns-in_default
returns-in_default c = record {
  leads = λ s says stands.
      leads_here c.args.problem.now c.args.asked.now c.args.certificate.now s c.requires.log c.requires.place stands
      c.place_row.new.asked c.place_row.new.certificate c.place_row.result c.args.row c.args.row refl (c.place_row.ensures.leads s says);
  asked = c.place_row.ensures.asked;
  certificate = c.place_row.ensures.certificate;
}
