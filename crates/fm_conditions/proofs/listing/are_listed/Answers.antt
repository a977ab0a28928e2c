use Rattle.fm_conditions.proofs.Equalities.{listed_first, listed_row}
use Rattle.fm_pres.specs.Tables.{parts_in, part_at}
use Rattle.fm_conditions.proofs.listing.are_listed.Goals as goal

pub returns-in-Err-clause-judges : goal.returns-in-Err-clause-judges
returns-in-Err-clause-judges c =
    let t = c.args.table.now in
    listed_first t.ring c.args.polynomials.now (part_at (parts_in t) c.args.part) c.in-Err.refused c.in-Err.ensures.judges

pub returns-clause-judges : goal.returns-clause-judges
returns-clause-judges c =
    let t = c.args.table.now in
    listed_row t.ring c.args.polynomials.now (part_at (parts_in t) c.args.part) c.in-Ok.value.value c.deref.result.now c.deref-2.result.now c.ring.result c.in_ok-row.row.items c.deref-3.result.now c.listed.result
    c.in-Ok.ensures.value c.deref.ensures c.deref-2.ensures c.ring.ensures c.deref-3.ensures.value c.in_ok-row.ensures.value c.listed.ensures
