-- Rows in which no polynomials stand: what they say depends on no ring.
use Rattle.std.specs.Prelude.{List, [], ◌∷◌, Option, option_map}
use Rattle.fm_gfp.specs.declared.prime.Prime.TheVariants.{Two}
use Rattle.fm_mono.specs.declared.order.Order.TheVariants.{Grevlex}
use Rattle.fm_poly.specs.declared.ring.Ring.{Ring}
use Rattle.fm_words.specs.Options.{◌>>=◌}
use Rattle.fm_words.specs.Parts.{Bytes}
use Rattle.fm_cert.specs.Fields.{Item, Values, read_row}
use Rattle.fm_cert.specs.Kinds.{Kind, row, first_item, kind_among}
use Rattle.fm_cert.specs.Lines.{Line, Row}

-- the line of this kind that follows its first word
abbrev pub line_after : Ring → List Bytes → Kind → List Bytes → Option Line
line_after r names kind ws = option_map (Row kind) (read_row r names (row kind) (first_item (row kind) ∷ ws))

-- some ring
abbrev pub some_ring : Ring
some_ring = record { prime = Two; vars = 1; order = Grevlex }

-- what a row without polynomials says
abbrev pub plain_row : (items : List Item) → List Bytes → Option (Values items)
plain_row items ws = read_row some_ring [] items ws

-- the line of this kind that follows its first word, where no polynomials stand in it
abbrev pub plain_line : Kind → List Bytes → Option Line
plain_line kind ws = line_after some_ring [] kind ws

-- the line that follows this word, if the word tells that it is of one of these kinds
abbrev pub line_among : Bytes → List Bytes → List Kind → Option Line
line_among w ws kinds = kind_among w kinds >>= λ kind. plain_line kind ws
