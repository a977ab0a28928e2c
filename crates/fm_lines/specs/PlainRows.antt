-- Where no polynomials stand.
use Rattle.std.specs.Prelude.{Bool, true, false, if◌then◌else◌, List, [], ◌∷◌}
use Rattle.fm_cert.specs.Fields.{Field, generators, columns, Item, word, field}
use Rattle.fm_cert.specs.Kinds.{row}
use Rattle.fm_cert.specs.Lines.{Line, Row}

abbrev pub is_plain : Field → Bool
is_plain generators = false
is_plain columns = false
is_plain f = true

abbrev pub is_plain_row : List Item → Bool
is_plain_row [] = true
is_plain_row (word w ∷ items) = is_plain_row items
is_plain_row (field f ∷ items) = if is_plain f then is_plain_row items else false

abbrev pub is_plain_line : Line → Bool
is_plain_line (Row kind values) = is_plain_row (row kind)
is_plain_line l = true
