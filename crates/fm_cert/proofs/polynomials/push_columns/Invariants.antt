use Rattle.std.proofs.Common.{◌≡◌, ◌++◌, map, length, string_bytes, true}
use Rattle.fm_text.specs.Printing.{joined}
use Rattle.fm_cert.specs.Fields.{vector_word}
use Rattle.fm_cert.specs.Pieces.{AreColumnsOver, columns_of}
use Rattle.fm_cert.proofs.polynomials.push_columns.Given as goal

abbrev pub invariant-columns : goal.invariant-columns
invariant-columns l =
    (l.out.items ++ joined 32 true (map (vector_word (map string_bytes l.names)) (columns_of l.left))
    ≡ l.initial.out.items ++ joined 32 true (map (vector_word (map string_bytes l.names)) (columns_of l.fn.columns)))
    × AreColumnsOver (length l.names) l.left

abbrev pub decreases-columns : goal.decreases-columns
decreases-columns l = length l.left
