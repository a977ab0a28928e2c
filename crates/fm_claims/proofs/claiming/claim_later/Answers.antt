use Rattle.std.proofs.Common.{refl}
use Rattle.fm_pres.specs.Tables.{parts_in}
use Rattle.fm_places.specs.declared.place.Place.TheVariants as program
use Rattle.fm_claims.proofs.Followed.{follows_so, no_row_there}
use Rattle.fm_claims.proofs.claiming.claim_later.Goals as goal

pub returns-in-Whole : goal.returns-in-Whole
returns-in-Whole c =
    let q = c.args.problem.now in let ps = parts_in c.args.table.now in let ls = c.args.logs.now in let g = c.args.goal.now in let b = c.args.block.now in let row = c.args.row.now in
    follows_so q ps ls g b c.args.place (program.Whole c.in-Whole.t) row row c.whole.result c.in-Whole.is refl (c.whole.ensures q ls g)

pub returns-in-Proper : goal.returns-in-Proper
returns-in-Proper c =
    let q = c.args.problem.now in let ps = parts_in c.args.table.now in let ls = c.args.logs.now in let g = c.args.goal.now in let b = c.args.block.now in let row = c.args.row.now in
    follows_so q ps ls g b c.args.place (program.Proper c.in-Proper.t) row row c.proper.result c.in-Proper.is refl (c.proper.ensures q g)

pub returns-in-Coordinates : goal.returns-in-Coordinates
returns-in-Coordinates c =
    let q = c.args.problem.now in let ps = parts_in c.args.table.now in let ls = c.args.logs.now in let g = c.args.goal.now in let b = c.args.block.now in let row = c.args.row.now in
    follows_so q ps ls g b c.args.place (program.Coordinates c.in-Coordinates.t) row row c.coordinates.result c.in-Coordinates.is refl (c.coordinates.ensures ls)

pub returns-in-Lives : goal.returns-in-Lives
returns-in-Lives c =
    let q = c.args.problem.now in let ps = parts_in c.args.table.now in let ls = c.args.logs.now in let g = c.args.goal.now in let b = c.args.block.now in let row = c.args.row.now in
    follows_so q ps ls g b c.args.place (program.Lives c.in-Lives.w c.in-Lives.t c.in-Lives.k) row row c.lives.result c.in-Lives.is refl (c.lives.ensures q)

pub returns-in-Dies : goal.returns-in-Dies
returns-in-Dies c =
    let q = c.args.problem.now in let ps = parts_in c.args.table.now in let ls = c.args.logs.now in let g = c.args.goal.now in let b = c.args.block.now in let row = c.args.row.now in
    follows_so q ps ls g b c.args.place (program.Dies c.in-Dies.w c.in-Dies.t c.in-Dies.m) row row c.dies.result c.in-Dies.is refl (c.dies.ensures q ls)

pub returns-in-LivesOn : goal.returns-in-LivesOn
returns-in-LivesOn c =
    let q = c.args.problem.now in let ps = parts_in c.args.table.now in let ls = c.args.logs.now in let g = c.args.goal.now in let b = c.args.block.now in let row = c.args.row.now in
    follows_so q ps ls g b c.args.place (program.LivesOn c.in-LivesOn.w c.in-LivesOn.t) row row c.lives_on.result c.in-LivesOn.is refl (c.lives_on.ensures q)

pub returns-in-IdealRow : goal.returns-in-IdealRow
returns-in-IdealRow c =
    let q = c.args.problem.now in let ps = parts_in c.args.table.now in let ls = c.args.logs.now in let g = c.args.goal.now in let b = c.args.block.now in let row = c.args.row.now in
    follows_so q ps ls g b c.args.place program.IdealRow row row c.ideal_row.result c.in-IdealRow.is refl (c.ideal_row.ensures ls b)

pub returns-in-Cofactors : goal.returns-in-Cofactors
returns-in-Cofactors c =
    let q = c.args.problem.now in let ps = parts_in c.args.table.now in let ls = c.args.logs.now in let g = c.args.goal.now in let b = c.args.block.now in let row = c.args.row.now in
    follows_so q ps ls g b c.args.place (program.Cofactors c.in-Cofactors.d) row row c.cofactors.result c.in-Cofactors.is refl (c.cofactors.ensures ls b)

pub returns-in-Foreign : goal.returns-in-Foreign
returns-in-Foreign c =
    let q = c.args.problem.now in let ps = parts_in c.args.table.now in let ls = c.args.logs.now in let g = c.args.goal.now in let b = c.args.block.now in let row = c.args.row.now in
    follows_so q ps ls g b c.args.place (program.Foreign c.in-Foreign.d) row row c.foreign.result c.in-Foreign.is refl (c.foreign.ensures b)

pub returns-in-Datum : goal.returns-in-Datum
returns-in-Datum c =
    no_row_there c.args.problem.now (parts_in c.args.table.now) c.args.logs.now c.args.goal.now c.args.block.now c.args.place c.args.row.now c.in-Datum.is
