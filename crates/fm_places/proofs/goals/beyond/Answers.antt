use Rattle.std.proofs.Common.{ℕ, zero, suc, ◌<◌, List, [], ◌∷◌, length, get_or, subst, arith}
use Rattle.fm_poly.specs.declared.ring.Ring.{Ring}
use Rattle.fm_problem.specs.declared.ideal.Ideal.{Ideal}
use Rattle.fm_vec.specs.Components.{AreOver}
use Rattle.fm_places.specs.Meanings.{AreIdealsOver}
use Rattle.fm_places.specs.Meanings.{IsAim}
use Rattle.fm_places.proofs.goals.beyond.Goals as goal

ideal_over : (r : Ring) (is : List Ideal) (k : ℕ) (d : Ideal) → AreIdealsOver r is → k < length is → AreOver r (get_or is k d).generators
ideal_over r [] k d h w = absurd (omega (arith, w))
ideal_over r (i ∷ is) zero d h w = h.0
ideal_over r (i ∷ is) (suc k) d h w = ideal_over r is k d h.1 (omega (arith, w))

pub returns-in-Outgoing-clause-sound : goal.returns-in-Outgoing-clause-sound
returns-in-Outgoing-clause-sound c = λ q ps over h b.
    let target = subst (IsAim q ps) c.in-Outgoing.is h.1 in
    (target, (h.0, b), ideal_over q.ring q.ideals c.in-Outgoing.target (record { name = []; generators = [] }) over target)
