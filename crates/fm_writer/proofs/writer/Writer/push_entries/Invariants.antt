use Rattle.std.proofs.Common.{◌≡◌, map, length}
use Rattle.fm_complete.specs.Bases.{entry_value}
use Rattle.fm_standard.specs.Small.{AreSmallLines}
use Rattle.fm_standard.specs.Writing.{entry_line}
use Rattle.fm_writer.specs.Writers.{with_lines}
use Rattle.fm_writer.proofs.writer.Writer.push_entries.Given as goal

abbrev pub invariant-entries : goal.invariant-entries
invariant-entries l = record {
  page : with_lines l.self (map entry_line (map entry_value l.left)) l.self.shelf
      ≡ with_lines l.fn.self (map entry_line (map entry_value l.fn.entries)) l.fn.self.shelf;
  small : AreSmallLines (map entry_line (map entry_value l.left)) → AreSmallLines (map entry_line (map entry_value l.fn.entries));
}

abbrev pub decreases-entries : goal.decreases-entries
decreases-entries l = length l.left
