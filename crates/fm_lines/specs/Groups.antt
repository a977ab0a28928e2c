-- The kinds of lines that are known by their first word, from some kind on.
use Rattle.std.specs.Prelude.{List, [], ◌∷◌}
use Rattle.fm_cert.specs.Kinds.{Kind, Datum, D, Exact, Theta, Cocycles, Relations, Morphism, Chain, Grows, Stable, Z, N, U, K, Whole, Proper, Coordinates, Lives, Dies, Cofactors, Foreign, Annihilator, Power, Least, Colon, Settles, Lambda, Phi, Null, NonNull, Fibre, One, NotOne, Link, Short, Onto, Closes, Done}

abbrev pub from_null : List Kind
from_null = Null ∷ NonNull ∷ Fibre ∷ One ∷ NotOne ∷ Link ∷ Short ∷ Onto ∷ Closes ∷ Done ∷ []

abbrev pub from_annihilator : List Kind
from_annihilator = Annihilator ∷ Power ∷ Least ∷ Colon ∷ Settles ∷ Lambda ∷ Phi ∷ from_null

abbrev pub from_whole : List Kind
from_whole = Whole ∷ Proper ∷ Coordinates ∷ Lives ∷ Dies ∷ Cofactors ∷ Foreign ∷ from_annihilator

abbrev pub from_chain : List Kind
from_chain = Chain ∷ Grows ∷ Stable ∷ Z ∷ N ∷ U ∷ K ∷ from_whole

abbrev pub from_datum : List Kind
from_datum = Datum ∷ D ∷ Exact ∷ Theta ∷ Cocycles ∷ Relations ∷ Morphism ∷ from_chain
