use Rattle.std.proofs.Common.{◌≡◌, ◌++◌, map, length, string_bytes}
use Rattle.fm_cert.specs.Fields.{vector_word}
use Rattle.fm_cert.specs.Parts.{words_of}
use Rattle.fm_cert.specs.Pieces.{AreColumnsOver, columns_of}
use Rattle.fm_cert.proofs.forms.push_vectors.Given as goal

abbrev pub invariant-columns : goal.invariant-columns
invariant-columns l = record {
  whole : words_of l.words.items ++ map (vector_word (map string_bytes l.names)) (columns_of l.left)
      ≡ words_of l.initial.words.items ++ map (vector_word (map string_bytes l.names)) (columns_of l.fn.columns);
  over : AreColumnsOver (length l.names) l.left;
}

abbrev pub decreases-columns : goal.decreases-columns
decreases-columns l = length l.left
