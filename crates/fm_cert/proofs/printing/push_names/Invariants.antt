use Rattle.std.proofs.Common.{◌≡◌, ◌++◌, map, length, string_bytes, true}
use Rattle.fm_text.specs.Printing.{joined}
use Rattle.fm_cert.proofs.printing.push_names.Given as goal

abbrev pub invariant-names : goal.invariant-names
invariant-names l = l.out.items ++ joined 32 true (map string_bytes l.left) ≡ l.initial.out.items ++ joined 32 true (map string_bytes l.fn.names)

abbrev pub decreases-names : goal.decreases-names
decreases-names l = length l.left
