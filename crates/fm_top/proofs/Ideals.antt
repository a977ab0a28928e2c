-- The generators of an ideal of a problem are of its ring.
use Rattle.std.proofs.Common.{◌≡◌, ℕ, zero, suc, List, [], ◌∷◌, All, slice_get, Some, subst}
use Rattle.std.proofs.lemmas.List.Elements.{All-head, All-tail}
use Rattle.fm_algebra.specs.Poly.{Some-same}
use Rattle.fm_poly.specs.declared.ring.Ring.{Ring}
use Rattle.fm_problem.specs.declared.ideal.Ideal.{Ideal}
use Rattle.fm_problem.specs.Sound.{IsIdealOf}
use Rattle.fm_vec.specs.Components.{AreOver}
use Rattle.fm_decide.proofs.SoundIdeals.{are_over}

pub over_at : (r : Ring) (is : List Ideal) (m : ℕ) (a : Ideal) → slice_get is m ≡ Some a → All (IsIdealOf r) is → AreOver r a.generators
over_at r [] m a e all = absurd (cc)
over_at r (j ∷ is) zero a e all = subst (λ (x : Ideal). AreOver r x.generators) (Some-same e) (are_over r j.generators (All-head (IsIdealOf r) j is all).of_ring)
over_at r (j ∷ is) (suc m) a e all = over_at r is m a e (All-tail (IsIdealOf r) j is all)
