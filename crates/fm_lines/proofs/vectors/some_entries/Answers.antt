use Rattle.std.proofs.Common.{sym, subst, map}
use Rattle.std.specs.Prelude.{string_bytes}
use Rattle.fm_vec.specs.Components.{AreOver}
use Rattle.fm_lines.proofs.EntriesRead.{entries_go_on}
use Rattle.fm_lines.proofs.GeneratorsRead.{over_more}
use Rattle.fm_lines.proofs.vectors.some_entries.Goals as goal

pub entries-preserved : goal.entries-preserved
entries-preserved c =
    let cut = rw c.in-Some-more.is at c.first_part.ensures.parts in
    let said = rw c.in-Some.is at c.in_ok-f.ensures.value in
    let over = rw c.in-Some.is at c.in_ok-f.ensures.over in (
      entries_go_on c.args.ring (map string_bytes c.args.names.now) c.entries.found.items c.add.new.found.items c.in-Some.f c.entries.from.now _ c.in-Some-more.rest.now _ cut said c.in_ok-add.ensures
          c.entries.invariant.0,
      subst (AreOver c.args.ring) (sym c.in_ok-add.ensures) (over_more c.args.ring c.entries.found.items c.in-Some.f over c.entries.invariant.1),
    )
