use Rattle.std.proofs.Common.{◌≡◌, true, Option, option_map, sym, ap, ◌∙◌}
use Rattle.fm_report.specs.Parts.{Part}
use Rattle.fm_parts.specs.Replays.{is_number}
use Rattle.fm_judge.specs.Claims.{excluded, unit_part}
use Rattle.fm_pres.specs.Tables.{parts_in, part_at}
use Rattle.fm_conditions.specs.Meanings.{logs_of}
use Rattle.fm_claims.specs.Named.{not_everything}
use Rattle.fm_claims.proofs.FurtherFollowed.{found_as, found_and_formed}
use Rattle.fm_claims.proofs.Units.{unit_columns}
use Rattle.fm_claims.proofs.colons.is_proper.Goals as goal

pub returns : goal.returns
returns c = λ r g b.
    let ps = parts_in c.args.table.now in
    let ls = c.args.logs.now in
    let K = part_at ps c.in-Some.k in
    let nk : is_number ps c.in-Some.k ≡ true = rw c.in-Some.is at c.requires.k in
    let s = c.args.shown.now in
    found_as r ps ls c.outside.result _ (excluded r g b ps (logs_of ps ls) 0 K (unit_part r c.rows-rows.result) s.log s.column s.by.items)
    (ap (λ (o : Option Part). not_everything r g b ps (logs_of ps ls) o s.log s.column s.by.items) (ap (option_map (part_at ps)) c.in-Some.is)
    ∙ ap (λ n. excluded r g b ps (logs_of ps ls) 0 K (unit_part r n) s.log s.column s.by.items) (sym c.rows-rows.ensures))
    (found_and_formed r ps ls c.outside.result _ (c.outside.ensures.names r g b ps (unit_columns r c.rows-rows.result) nk tt) (c.outside.ensures.formable r ps tt tt))
