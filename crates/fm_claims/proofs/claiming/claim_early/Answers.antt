use Rattle.std.proofs.Common.{refl}
use Rattle.fm_pres.specs.Tables.{parts_in}
use Rattle.fm_places.specs.declared.place.Place.TheVariants as program
use Rattle.fm_claims.proofs.Followed.{follows_so}
use Rattle.fm_claims.proofs.claiming.claim_early.Goals as goal

pub returns-in-Differential : goal.returns-in-Differential
returns-in-Differential c =
    let q = c.args.problem.now in let ps = parts_in c.args.table.now in let ls = c.args.logs.now in let g = c.args.goal.now in let b = c.args.block.now in let row = c.args.row.now in
    follows_so q ps ls g b c.args.place (program.Differential c.in-Differential.j) row row c.differential.result c.in-Differential.is refl (c.differential.ensures ls)

pub returns-in-Exactness : goal.returns-in-Exactness
returns-in-Exactness c =
    let q = c.args.problem.now in let ps = parts_in c.args.table.now in let ls = c.args.logs.now in let g = c.args.goal.now in let b = c.args.block.now in let row = c.args.row.now in
    follows_so q ps ls g b c.args.place (program.Exactness c.in-Exactness.j) row row c.exactness.result c.in-Exactness.is refl (c.exactness.ensures q)

pub returns-in-Lift : goal.returns-in-Lift
returns-in-Lift c =
    let q = c.args.problem.now in let ps = parts_in c.args.table.now in let ls = c.args.logs.now in let g = c.args.goal.now in let b = c.args.block.now in let row = c.args.row.now in
    follows_so q ps ls g b c.args.place (program.Lift c.in-Lift.j) row row c.lift.result c.in-Lift.is refl (c.lift.ensures q ps ls c.requires.block)

pub returns-in-Cocycles : goal.returns-in-Cocycles
returns-in-Cocycles c =
    let q = c.args.problem.now in let ps = parts_in c.args.table.now in let ls = c.args.logs.now in let g = c.args.goal.now in let b = c.args.block.now in let row = c.args.row.now in
    follows_so q ps ls g b c.args.place program.Cocycles row row c.cocycles.result c.in-Cocycles.is refl (c.cocycles.ensures q)

pub returns-in-Relations : goal.returns-in-Relations
returns-in-Relations c =
    let q = c.args.problem.now in let ps = parts_in c.args.table.now in let ls = c.args.logs.now in let g = c.args.goal.now in let b = c.args.block.now in let row = c.args.row.now in
    follows_so q ps ls g b c.args.place program.Relations row row c.relations.result c.in-Relations.is refl (c.relations.ensures)

pub returns-in-Morphism : goal.returns-in-Morphism
returns-in-Morphism c =
    let q = c.args.problem.now in let ps = parts_in c.args.table.now in let ls = c.args.logs.now in let g = c.args.goal.now in let b = c.args.block.now in let row = c.args.row.now in
    follows_so q ps ls g b c.args.place program.Morphism row row c.morphism.result c.in-Morphism.is refl (c.morphism.ensures q ps ls c.requires.block)

pub returns-in-Chain : goal.returns-in-Chain
returns-in-Chain c =
    let q = c.args.problem.now in let ps = parts_in c.args.table.now in let ls = c.args.logs.now in let g = c.args.goal.now in let b = c.args.block.now in let row = c.args.row.now in
    follows_so q ps ls g b c.args.place (program.Chain c.in-Chain.s) row row c.chain.result c.in-Chain.is refl (c.chain.ensures q g)

pub returns-in-Turn : goal.returns-in-Turn
returns-in-Turn c =
    let q = c.args.problem.now in let ps = parts_in c.args.table.now in let ls = c.args.logs.now in let g = c.args.goal.now in let b = c.args.block.now in let row = c.args.row.now in
    follows_so q ps ls g b c.args.place (program.Turn c.in-Turn.s) row row c.turn.result c.in-Turn.is refl (c.turn.ensures q)
