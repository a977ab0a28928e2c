-- The standard division as a run: heads are cancelled while a member's head divides them.
use Rattle.std.specs.Prelude.{ℕ, zero, suc, if◌then◌else◌, List, [], ◌∷◌, Option, Some, None, Ok, Err}
use Rattle.fm_poly.specs.declared.ring.Ring.{Ring}
use Rattle.fm_term.specs.declared.vterm.VTerm.{VTerm}
use Rattle.fm_vec.specs.Multiples.{negated, plus_multiple, multiple_fits}
use Rattle.fm_complete.specs.declared.step.Step.{Step}
use Rattle.fm_run.specs.Runs.{Budget, Exponent}
use Rattle.fm_run.specs.Runs.{Ended, ended_with}
use Rattle.fm_complete.specs.Divisors.{next_step}

-- the head reductions in their order, and the rest
pub record Reduced : Type 0 where
  pub steps : List Step
  pub rest : List VTerm

-- v minus the step's term times its member
abbrev pub cancelled : Ring → Step × List VTerm → List VTerm → List VTerm
cancelled r p v = plus_multiple r (negated r p.0.coeff) p.0.mono p.1 v

-- nothing is left to do
abbrev pub finished : List VTerm → ℕ → Ended Reduced
finished v units = record { end = Ok (record { steps = []; rest = v }); left = units }

-- the run whose first step is s
abbrev pub stepped : Step → Ended Reduced → Ended Reduced
stepped s run = ended_with (λ x. record { steps = s ∷ x.steps; rest = x.rest }) run

-- a step that is still to do when no unit is left
abbrev pub without_units : List VTerm → Option (Step × List VTerm) → Ended Reduced
without_units v None = finished v zero
without_units v (Some p) = record { end = Err Budget; left = zero }

-- a step spends its unit before it multiplies, and then passes the bound or leaves the run that goes on
abbrev pub with_unit : Ring → ℕ → List VTerm → (List VTerm → Ended Reduced) → Option (Step × List VTerm) → Ended Reduced
with_unit r units v go_on None = finished v (suc units)
with_unit r units v go_on (Some p) =
    if multiple_fits p.0.mono p.1 then stepped p.0 (go_on (cancelled r p v))
    else record { end = Err Exponent; left = units }

-- the head reductions of v by the members, with this number of units
abbrev pub reduced : Ring → List (List VTerm) → ℕ → List VTerm → Ended Reduced
reduced r members zero v = without_units v (next_step r members v)
reduced r members (suc units) v = with_unit r units v (λ w. reduced r members units w) (next_step r members v)

-- the division of v: a unit for v itself, and then the head reductions
abbrev pub divided : Ring → List (List VTerm) → ℕ → List VTerm → Ended Reduced
divided r members zero v = record { end = Err Budget; left = zero }
divided r members (suc units) v = reduced r members units v
