-- The places of certificates on inverting, on the support and on maps.
use Rattle.fm_places.specs.declared.place.Place.{Place}
use Rattle.fm_places.specs.declared.place.Place.TheVariants as program

abbrev pub IsOfMap : Place → Type 0
IsOfMap (program.Lambda t identity) = Unit {0}
IsOfMap (program.Phi t identity) = Unit {0}
IsOfMap (program.Null t phi) = Unit {0}
IsOfMap (program.NonNull t phi) = Unit {0}
IsOfMap (program.Fibre t phi) = Unit {0}
IsOfMap (program.One t phi c) = Unit {0}
IsOfMap (program.NotOne t phi c) = Unit {0}
IsOfMap (program.Link t phi found) = Unit {0}
IsOfMap (program.OpenLink t phi found) = Unit {0}
IsOfMap (program.Short t phi found) = Unit {0}
IsOfMap (program.Onto t phi found) = Unit {0}
IsOfMap (program.NeverOnto t phi found) = Unit {0}
IsOfMap place = ⊥

abbrev pub IsFurther : Place → Type 0
IsFurther (program.Power t k) = Unit {0}
IsFurther (program.Least t k) = Unit {0}
IsFurther (program.Colon t found) = Unit {0}
IsFurther (program.ProperColon t found) = Unit {0}
IsFurther (program.Annihilator t) = Unit {0}
IsFurther place = IsOfMap place

-- the places of certificates on the limit, on classes and on membership, and those in which no row stands; and further ones
abbrev pub IsLater : Place → Type 0
IsLater (program.Whole t) = Unit {0}
IsLater (program.Proper t) = Unit {0}
IsLater (program.Coordinates t) = Unit {0}
IsLater (program.Lives w t k) = Unit {0}
IsLater (program.Dies w t m) = Unit {0}
IsLater (program.LivesOn w t) = Unit {0}
IsLater program.IdealRow = Unit {0}
IsLater (program.Cofactors d) = Unit {0}
IsLater (program.Foreign d) = Unit {0}
IsLater program.Datum = Unit {0}
IsLater (program.DatumBeyond t) = Unit {0}
IsLater program.End = Unit {0}
IsLater place = IsFurther place
