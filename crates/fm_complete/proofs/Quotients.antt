-- The quotients of a division that ends are falling lists of terms
use Rattle.std.proofs.Common.{ℕ, zero, suc, ◌≡◌, if◌then◌else◌, Bool, true, false, List, [], ◌∷◌, ◌++◌, Option, Some, None, Result, Ok, Err, refl, sym, ap, subst, append_assoc, append-nil}
use Rattle.fm_poly.specs.declared.ring.Ring.{Ring}
use Rattle.fm_poly.specs.Polys.{IsCanonical}
use Rattle.fm_term.specs.declared.vterm.VTerm.{VTerm}
use Rattle.fm_vec.specs.Vectors.{IsVector}
use Rattle.fm_vec.specs.Multiples.{multiple_fits}
use Rattle.fm_complete.specs.declared.step.Step.{Step}
use Rattle.fm_run.specs.Runs.{Halt}
use Rattle.fm_run.specs.Runs.{Budget, Exponent}
use Rattle.fm_run.specs.Runs.{Ended}
use Rattle.fm_complete.specs.Divisors.{first_step}
use Rattle.fm_complete.specs.Reductions.{Reduced, cancelled, stepped, without_units, with_unit, reduced, divided}
use Rattle.fm_complete.specs.Divisions.{quotient_terms}
use Rattle.fm_complete.specs.Trails.{IsTrail}
use Rattle.fm_complete.specs.Combinations.{AreVectors}
use Rattle.fm_complete.proofs.Heads.{found}
use Rattle.fm_complete.proofs.Trails.{trail_next, trail_start}
use Rattle.fm_complete.proofs.DivisionLaw.{member_vector, left_over}

module _ (r : Ring) (n : ℕ) (members : List (List VTerm)) (vectors : AreVectors r n members) where
  -- the quotients by these steps and those of the run
  abbrev Fall : List Step → Result Reduced Halt → Type 0
  Fall ss (Ok x) = (number : ℕ) → IsCanonical r (quotient_terms number (ss ++ x.steps))
  Fall ss (Err e) = Unit {0}

  fall_finished : (ss : List Step) (v : List VTerm) → IsTrail r members ss v → (number : ℕ) → IsCanonical r (quotient_terms number (ss ++ []))
  fall_finished ss v trail number = subst (λ x. IsCanonical r (quotient_terms number x)) (sym (append-nil ss)) (trail.quotients number)

  fall_stepped : (ss : List Step) (s : Step) (d : Ended Reduced) → Fall (ss ++ s ∷ []) d.end → Fall ss (stepped s d).end
  fall_stepped ss s d h = go d.end h
    where
      go : (e : Result Reduced Halt) → Fall (ss ++ s ∷ []) e → Fall ss (stepped s (record { end = e; left = d.left })).end
      go (Err e) h = tt
      go (Ok x) h = λ number. subst (λ y. IsCanonical r (quotient_terms number y)) (append_assoc ss (s ∷ []) x.steps) (h number)

  turned : (u : ℕ) (ss : List Step) (t : VTerm) (ts : List VTerm) (p : Step × List VTerm) → IsVector r n (t ∷ ts) → IsTrail r members ss (t ∷ ts) → first_step r 1 members t ≡ Some p
      → ((ss : List Step) (v : List VTerm) → IsVector r n v → IsTrail r members ss v → Fall ss (reduced r members u v).end) → (b : Bool)
      → Fall ss (if b then stepped p.0 (reduced r members u (cancelled r p (t ∷ ts))) else record { end = Err Exponent; left = u }).end
  turned u ss t ts p w trail e later false = tt
  turned u ss t ts p w trail e later true =
      let f = found r members t p.0 p.1 e in
      fall_stepped ss p.0 (reduced r members u (cancelled r p (t ∷ ts)))
      (later (ss ++ p.0 ∷ []) (cancelled r p (t ∷ ts)) (left_over r n members vectors t ts p.0 p.1 f w).0
      (trail_next r members n ss p.0 p.1 t ts f (subst (IsVector r n) f.place (member_vector r n members p.0.number vectors)) w trail))

  fall : (u : ℕ) (ss : List Step) (v : List VTerm) → IsVector r n v → IsTrail r members ss v → Fall ss (reduced r members u v).end
  fall zero ss [] w trail = fall_finished ss [] trail
  fall (suc u) ss [] w trail = fall_finished ss [] trail
  fall zero ss (t ∷ ts) w trail = go (first_step r 1 members t)
    where
      go : (o : Option (Step × List VTerm)) → Fall ss (without_units (t ∷ ts) o).end
      go None = fall_finished ss (t ∷ ts) trail
      go (Some p) = tt
  fall (suc u) ss (t ∷ ts) w trail = go (first_step r 1 members t) refl (λ ss v x y. fall u ss v x y)
    where
      go : (o : Option (Step × List VTerm)) → first_step r 1 members t ≡ o
          → ((ss : List Step) (v : List VTerm) → IsVector r n v → IsTrail r members ss v → Fall ss (reduced r members u v).end)
          → Fall ss (with_unit r u (t ∷ ts) (λ x. reduced r members u x) o).end
      go None e later = fall_finished ss (t ∷ ts) trail
      go (Some p) e later = turned u ss t ts p w trail e later (multiple_fits p.0.mono p.1)

  pub quotients_fall : (u left : ℕ) (v : List VTerm) (x : Reduced) → IsVector r n v → divided r members u v ≡ record { end = Ok x; left = left }
      → (number : ℕ) → IsCanonical r (quotient_terms number x.steps)
  quotients_fall zero left v x w e = absurd (stopped_first (ap (λ (d : Ended Reduced). d.end) e))
    where
      stopped_first : ◌≡◌ {A = Result Reduced Halt} (Err Budget) (Ok x) → ⊥
      stopped_first h = cc
  quotients_fall (suc u) left v x w e = subst (Fall []) (ap (λ (d : Ended Reduced). d.end) e) (fall u [] v w (trail_start r members v))
