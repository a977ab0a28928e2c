-- The ideals of a problem are of its ring, and have few generators.
use Rattle.std.proofs.Common.{List, [], ◌∷◌, All}
use Rattle.std.proofs.lemmas.List.Elements.{All-head, All-tail}
use Rattle.fm_poly.specs.Polys.{PolyValue}
use Rattle.fm_poly.specs.declared.ring.Ring.{Ring}
use Rattle.fm_text.specs.SumOfTerms.{IsPolynomialOf}
use Rattle.fm_vec.specs.Components.{AreOver}

pub are_over : (r : Ring) (fs : List PolyValue) → All (IsPolynomialOf r) fs → AreOver r fs
are_over r [] all = tt
are_over r (f ∷ fs) all = ((All-head (IsPolynomialOf r) f fs all).of_ring, are_over r fs (All-tail (IsPolynomialOf r) f fs all))
