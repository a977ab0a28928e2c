-- Head reductions by a given member.
use Rattle.std.specs.Prelude.{◌≡◌, ℕ, Bool, true, false, if◌then◌else◌, List, [], ◌∷◌, Option, Some, None, Result, Ok, Err}
use Rattle.fm_poly.specs.declared.ring.Ring.{Ring}
use Rattle.fm_term.specs.declared.vterm.VTerm.{VTerm}
use Rattle.fm_vec.specs.Multiples.{multiple_fits}
use Rattle.fm_vec.specs.Vectors.{VectorValue}
use Rattle.fm_complete.specs.declared.step.Step.{Step}
use Rattle.fm_complete.specs.Divisors.{term_divides, step_for}
use Rattle.fm_complete.specs.Reductions.{cancelled}
use Rattle.fm_replay.specs.declared.refusal.Fault.TheVariants as faults
use Rattle.fm_replay.specs.declared.refusal.Refusal.{Refusal}
use Rattle.fm_replay.specs.declared.refusal.Refusal.TheVariants.{Memory, Bad}

-- the step by which the head of b, the member of number k, cancels that of v, where it divides it
abbrev pub head_step : Ring → ℕ → List VTerm → List VTerm → Option Step
head_step r k [] v = None
head_step r k (t ∷ ts) [] = None
head_step r k (t ∷ ts) (s ∷ vs) = if term_divides t s then Some (step_for r k t s) else None

-- what the step leaves of v by its member b, unless an exponent passes the bound or memory runs out
abbrev pub Cancels : Ring → Step → List VTerm → List VTerm → Result VectorValue Refusal → Type 0
Cancels r s b v (Ok w) = (multiple_fits s.mono b ≡ true) × (w.terms ≡ cancelled r (s, b) v)
Cancels r s b v (Err Memory) = Unit {0}
Cancels r s b v (Err (Bad faults.Exponents)) = multiple_fits s.mono b ≡ false
Cancels r s b v (Err (Bad faults.Reference)) = ⊥
Cancels r s b v (Err (Bad faults.Step)) = ⊥
