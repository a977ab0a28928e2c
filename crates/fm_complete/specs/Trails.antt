-- What the head reductions of a division keep: the quotients fall, and what is left is below all that was cancelled.
use Rattle.std.specs.Prelude.{ℕ, zero, suc, ◌≡◌, List, [], ◌∷◌, ◌++◌, length}
use Rattle.fm_poly.specs.declared.ring.Ring.{Ring}
use Rattle.fm_poly.specs.Polys.{IsCanonical}
use Rattle.fm_term.specs.declared.vterm.VTerm.{VTerm}
use Rattle.fm_term.specs.Places.{AllBelow}
use Rattle.fm_term.specs.Multiples.{multiple_term}
use Rattle.fm_complete.specs.declared.step.Step.{Step}
use Rattle.fm_run.specs.Runs.{Ended, ended_with}
use Rattle.fm_complete.specs.Reductions.{Reduced}
use Rattle.fm_complete.specs.Divisions.{quotient_terms}

-- the run whose first steps are these
abbrev pub ahead : List Step → Ended Reduced → Ended Reduced
ahead steps run = ended_with (λ x. record { steps = steps ++ x.steps; rest = x.rest }) run

-- the member of a number, where numbers count from 1
abbrev pub member_at : List (List VTerm) → ℕ → List VTerm
member_at members zero = []
member_at [] (suc number) = []
member_at (g ∷ gs) (suc zero) = g
member_at (g ∷ gs) (suc (suc number)) = member_at gs (suc number)

-- the step's term times the head of its member g is above the rest
abbrev pub IsStepAbove : Ring → Step → List VTerm → List VTerm → Type 0
IsStepAbove r s [] rest = Unit {0}
IsStepAbove r s (b ∷ bs) rest = AllBelow r.order (multiple_term r.prime s.coeff s.mono b) rest

abbrev pub AreStepsAbove : Ring → List (List VTerm) → List Step → List VTerm → Type 0
AreStepsAbove r members [] rest = Unit {0}
AreStepsAbove r members (s ∷ ss) rest = (length s.mono ≡ r.vars) × IsStepAbove r s (member_at members s.number) rest × AreStepsAbove r members ss rest

-- the quotients by the steps are falling lists of terms, and all that was cancelled is above the rest
pub record IsTrail (r : Ring) (members : List (List VTerm)) (steps : List Step) (rest : List VTerm) : Type 0 where
  pub quotients : (number : ℕ) → IsCanonical r (quotient_terms number steps)
  pub above : AreStepsAbove r members steps rest
