use Rattle.std.proofs.Common.{◌≡◌, ◌++◌, map, length, string_bytes, true}
use Rattle.fm_text.specs.Printing.{joined}
use Rattle.fm_cert.specs.Fields.{polynomial_word}
use Rattle.fm_cert.specs.Pieces.{AreOverVariables}
use Rattle.fm_cert.proofs.polynomials.push_more_entries.Given as goal

abbrev pub invariant-entries : goal.invariant-entries
invariant-entries l = record {
  same : l.out.items ++ joined 44 true (map (polynomial_word (map string_bytes l.names)) l.left)
      ≡ l.initial.out.items ++ joined 44 true (map (polynomial_word (map string_bytes l.names)) l.fn.entries);
  over : AreOverVariables (length l.names) l.left;
}

abbrev pub decreases-entries : goal.decreases-entries
decreases-entries l = length l.left
