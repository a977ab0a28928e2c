use Rattle.std.proofs.Common.{◌∙◌, sym, ap}
use Rattle.fm_pres.specs.Tables.{parts_in}
use Rattle.fm_asked.specs.Partings.{why_of}
use Rattle.fm_asked.proofs.TableParts.{taken_so, refused_so}
use Rattle.fm_asked.proofs.parts.enter.Goals as goal

pub returns-in-Ok-Ok-clause-entered : goal.returns-in-Ok-Ok-clause-entered
returns-in-Ok-Ok-clause-entered c =
    taken_so (parts_in c.args.table.now) (parts_in c.add.new.self) c.args.form c.in-Ok-Ok._number (sym c.in-Ok-Ok.field-0-is ∙ c.in-Ok-Ok.ensures.answer) c.in-Ok-Ok.ensures.parts

pub returns-in-Ok-Err-clause-entered : goal.returns-in-Ok-Err-clause-entered
returns-in-Ok-Err-clause-entered c =
    refused_so (parts_in c.args.table.now) (parts_in c.add.new.self) c.args.form c.in-Ok-Err.fault c.why.result (sym c.in-Ok-Err.field-0-is ∙ c.in-Ok-Err.ensures.answer)
    c.in-Ok-Err.ensures.parts (c.why.ensures ∙ ap why_of c.in-Ok-Err.fault-is)
