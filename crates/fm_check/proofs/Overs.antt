-- Sound problems and queries are over their ring.
use Rattle.std.proofs.Common.{List, [], ◌∷◌, All}
use Rattle.std.proofs.lemmas.List.Elements.{All-head, All-tail}
use Rattle.fm_poly.specs.Polys.{PolyValue}
use Rattle.fm_poly.specs.declared.ring.Ring.{Ring}
use Rattle.fm_text.specs.SumOfTerms.{IsPolynomialOf}
use Rattle.fm_vec.specs.Components.{AreOver}
use Rattle.fm_problem.specs.declared.ideal.Ideal.{Ideal}
use Rattle.fm_problem.specs.declared.problem.Problem.{Problem}
use Rattle.fm_problem.specs.declared.query.Query.{Query}
use Rattle.fm_problem.specs.declared.query.Query.TheVariants as queries
use Rattle.fm_problem.specs.Sound.{IsIdealOf, IsQueryOf}
use Rattle.fm_claims.specs.Goals.{IsQueryOver}
use Rattle.fm_places.specs.Meanings.{AreIdealsOver}

all_over : (r : Ring) (fs : List PolyValue) → All (IsPolynomialOf r) fs → AreOver r fs
all_over r [] all = tt
all_over r (f ∷ fs) all = ((All-head (IsPolynomialOf r) f fs all).of_ring, all_over r fs (All-tail (IsPolynomialOf r) f fs all))

pub ideals_over : (r : Ring) (is : List Ideal) → All (IsIdealOf r) is → AreIdealsOver r is
ideals_over r [] all = tt
ideals_over r (i ∷ is) all = (all_over r i.generators (All-head (IsIdealOf r) i is all).of_ring, ideals_over r is (All-tail (IsIdealOf r) i is all))

pub query_over : (q : Problem) (z : Query) → IsQueryOf q z → IsQueryOver q.ring z
query_over q (queries.Class i k e z) w = all_over q.ring z w.3
query_over q (queries.Invert i k f) w = (w.2).of_ring
query_over q (queries.Member k f) w = (w.1).of_ring
query_over q (queries.Zero i k) w = tt
query_over q (queries.Root i k) w = tt
query_over q (queries.Support i k) w = tt
query_over q (queries.Map i k j) w = tt
query_over q (queries.Resolution i k) w = tt
query_over q (queries.ExtOf i k) w = tt
