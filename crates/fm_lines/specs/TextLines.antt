-- The line of a text that is neither of a head nor a query.
use Rattle.std.specs.Prelude.{List, Option}
use Rattle.fm_poly.specs.declared.ring.Ring.{Ring}
use Rattle.fm_words.specs.Options.{◌>>=◌}
use Rattle.fm_words.specs.Parts.{Bytes}
use Rattle.fm_problem.specs.declared.query.Query.{Query}
use Rattle.fm_cert.specs.Lines.{Line, exact_words, row_of}

abbrev pub words_line : Ring → List Bytes → Option Query → Bytes → Option Line
words_line r names asked text = exact_words text >>= row_of r names asked
