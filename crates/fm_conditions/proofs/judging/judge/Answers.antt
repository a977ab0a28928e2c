use Rattle.std.proofs.Common.{◌∙◌, map, sym}
use Rattle.fm_pres.specs.Tables.{parts_in}
use Rattle.fm_conditions.specs.Meanings.{condition_of, logs_of}
use Rattle.fm_conditions.proofs.Judged.{no_shapes, shapes_met}
use Rattle.fm_conditions.proofs.judging.judge.Goals as goal

pub returns-then-not-all_fit-clause-judges : goal.returns-then-not-all_fit-clause-judges
returns-then-not-all_fit-clause-judges c =
    let t = c.args.table.now in
    let ps = parts_in t in
    no_shapes t.ring (map (condition_of t.ring ps (logs_of ps c.args.logs.now)) c.args.conditions.now) (sym c.all_fit.ensures ∙ c.if-not-all_fit.true)

pub returns-clause-judges : goal.returns-clause-judges
returns-clause-judges c =
    let t = c.args.table.now in
    let ps = parts_in t in
    shapes_met t.ring (map (condition_of t.ring ps (logs_of ps c.args.logs.now)) c.args.conditions.now) c.all_hold.result (sym c.all_fit.ensures ∙ c.if-not-all_fit.false) c.all_hold.ensures.judges
