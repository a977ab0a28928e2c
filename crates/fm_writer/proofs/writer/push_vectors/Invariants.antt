use Rattle.std.proofs.Common.{◌≡◌, ◌++◌, ℕ, List, map, length}
use Rattle.std.specs.List.{flat_map}
use Rattle.fm_cert.specs.Fields.{vector_word}
use Rattle.fm_cert.specs.Pieces.{ArePiecesOver, piece_words}
use Rattle.fm_mat.specs.Matrices.{AreColumns}
use Rattle.fm_poly.specs.declared.ring.Ring.{Ring}
use Rattle.fm_words.specs.Parts.{Bytes}
use Rattle.fm_writer.proofs.writer.push_vectors.Given as goal

abbrev pub invariant-columns : goal.invariant-columns
invariant-columns l = record {
  words : (names : List Bytes) → flat_map (piece_words names) l.pieces.items ++ map (vector_word names) l.left
      ≡ flat_map (piece_words names) l.fn.pieces.items ++ map (vector_word names) l.fn.columns;
  over : (r : Ring) (rows : ℕ) → AreColumns r rows l.fn.columns → ArePiecesOver r.vars l.fn.pieces.items
      → AreColumns r rows l.left × ArePiecesOver r.vars l.pieces.items;
}

abbrev pub decreases-columns : goal.decreases-columns
decreases-columns l = length l.left
