use Rattle.std.proofs.Common.{◌∙◌, sym, subst}
use Rattle.fm_mat.specs.Matrices.{matrix_meaning}
use Rattle.fm_complete.specs.Divisions.{terms_of}
use Rattle.fm_pres.specs.Tables.{TableValue, parts_in, part_at}
use Rattle.fm_conditions.specs.Meanings.{log_of}
use Rattle.fm_conditions.specs.Generators.{covering}
use Rattle.fm_conditions.specs.Reasons.{Judges}
use Rattle.fm_conditions.proofs.Judgements.{end_view}
use Rattle.fm_conditions.proofs.Generations.{other_matrix, no_zero, cover_left}
use Rattle.fm_conditions.proofs.generating.generated.Goals as goal

pub same-requires : goal.same-requires
same-requires c = c.requires.ring ∙ sym c.requires.logged

pub returns-in-Err-clause-judges : goal.returns-in-Err-clause-judges
returns-in-Err-clause-judges c = λ G v w.
    let r = c.args.table.now.ring in
    let ps = parts_in c.args.table.now in
    let l = c.args.logged.now in
    let g = c.args.g.now in
    let L = log_of ps c.args.log.now in
    let C = part_at ps c.args.c in
    let X = part_at ps c.args.x in
    let W = part_at ps c.args.w in
    other_matrix r L G C X W l g v w c.in-Err.refused (c.in-Err.ensures r c.requires.logged)

pub returns-in-Err-vanishes-clause-judges : goal.returns-in-Err-vanishes-clause-judges
returns-in-Err-vanishes-clause-judges c = λ G v w.
    let t = c.args.table.now in
    let ps = parts_in t in
    no_zero t.ring (log_of ps c.args.log.now) G (part_at ps c.args.c) (part_at ps c.args.x) (part_at ps c.args.w) c.args.logged.now c.args.g.now v w c.in-Err-vanishes.refused
    (c.in-Ok.ensures t.ring c.requires.logged) (c.in-Err-vanishes.ensures.judges G w)

pub returns-clause-judges : goal.returns-clause-judges
returns-clause-judges c = λ G v w.
    let t = c.args.table.now in
    let ps = parts_in t in
    let g = c.args.g.now in
    cover_left t.ring (log_of ps c.args.log.now) G (part_at ps c.args.c) (part_at ps c.args.x) (part_at ps c.args.w) c.args.logged.now g v w c.covers.result
    (c.in-Ok.ensures t.ring c.requires.logged) (c.in-Ok-vanishes.ensures.judges G w)
    (subst (λ (y : TableValue). Judges end_view c.covers.result (covering y.ring (terms_of c.args.log.now.members.items) (matrix_meaning y.ring g) (part_at (parts_in y) c.args.c) (part_at (parts_in y) c.args.w)))
    c.in-Ok-vanishes.ensures.unchanged c.covers.ensures.judges)
