use Rattle.std.proofs.Common.{refl, sym}
use Rattle.fm_judge.specs.Claims.{excluded}
use Rattle.fm_pres.specs.Tables.{parts_in, part_at}
use Rattle.fm_conditions.specs.Meanings.{logs_of}
use Rattle.fm_claims.proofs.FurtherFollowed.{finds_none, found_and_formed, found_as}
use Rattle.fm_claims.proofs.mapping.outside_part.Goals as goal

pub returns-in_default : goal.returns-in_default
returns-in_default c = λ r g b there.
    let ps = parts_in c.args.table.now in let ls = c.args.logs.now in
    finds_none r ps ls _ (rw c.in_default.is refl)

pub returns : goal.returns
returns c = λ r g b there.
    let ps = parts_in c.args.table.now in let ls = c.args.logs.now in let L = logs_of ps ls in
    let s = c.args.shown.now in
    let n = rw c.in-Some.is at there in
    found_as r ps ls c.outside.result _ (excluded r g b ps L 0 (part_at ps c.in-Some.k) (part_at ps c.args.v) s.log s.column s.by.items) (rw c.in-Some.is refl)
    (found_and_formed r ps ls c.outside.result _ (c.outside.ensures.names r g b ps (sym c.columns.ensures) n c.requires.v) (c.outside.ensures.formable r ps tt tt))
