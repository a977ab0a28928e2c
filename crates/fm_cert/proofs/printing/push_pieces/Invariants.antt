use Rattle.std.proofs.Common.{◌≡◌, ◌++◌, drop, map, string_bytes, true}
use Rattle.std.specs.List.{flat_map}
use Rattle.std.specs.Prelude.{length}
use Rattle.fm_text.specs.Printing.{joined}
use Rattle.fm_cert.specs.Pieces.{ArePiecesOver, piece_words}
use Rattle.fm_cert.proofs.printing.push_pieces.Given as goal

abbrev pub invariant-loop-piece : goal.invariant-loop-piece
invariant-loop-piece l = record {
  same : l.out.items ++ joined 32 true (flat_map (piece_words (map string_bytes l.names)) (drop l.piece-index l.pieces))
      ≡ l.initial.out.items ++ joined 32 true (flat_map (piece_words (map string_bytes l.names)) l.pieces);
  over : ArePiecesOver (length l.names) (drop l.piece-index l.pieces);
}
