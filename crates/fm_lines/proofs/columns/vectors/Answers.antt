use Rattle.std.proofs.Common.{rules, ◌≡◌, ◌∷◌, sym, subst, map}
use Rattle.std.specs.Prelude.{string_bytes}
use Rattle.fm_lines.specs.Left.{left}
use Rattle.fm_lines.specs.Rows.{AreColumnsOver}
use Rattle.fm_lines.proofs.EntriesRead.{vectors_go_on, one_each}
use Rattle.fm_lines.proofs.ColumnsRead.{columns_over}
use Rattle.fm_lines.proofs.columns.vectors.Goals as goal

pub vectors-preserved : goal.vectors-preserved
vectors-preserved c =
    let cut : left c.vectors.from ≡ c.in-Some.word.now ∷ left c.in-Some.rest = search rules in
    let said = rw c.in-Some-2.is at c.in_ok-column.ensures.value in
    let over = rw c.in-Some-2.is at c.in_ok-column.ensures.over in (
      vectors_go_on c.args.ring (map string_bytes c.args.names.now) c.vectors.found.items c.add.new.found.items c.in-Some-2.column (left c.vectors.from) c.in-Some.word.now (left c.in-Some.rest) _ cut said
          c.in_ok-add.ensures c.vectors.invariant.0,
      subst (AreColumnsOver c.args.ring) (sym c.in_ok-add.ensures) (columns_over c.args.ring c.vectors.found.items c.in-Some-2.column c.vectors.invariant.1 over),
      one_each c.vectors.found.items c.add.new.found.items c.in-Some-2.column (left c.vectors.from) c.in-Some.word.now (left c.in-Some.rest) _ cut c.in_ok-add.ensures c.vectors.invariant.2,
    )
