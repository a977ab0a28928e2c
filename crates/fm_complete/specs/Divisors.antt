-- Which member of a list divides a term, and by what it cancels it.
use Rattle.std.specs.Prelude.{ℕ, suc, ◌*◌, ◌%◌, ◌==◌, ◌&&◌, nat_le, if◌then◌else◌, Bool, true, false, List, [], ◌∷◌, Option, Some, None}
use Rattle.fm_tuple.specs.Tuple.{tuple_difference}
use Rattle.fm_gfp.specs.Primes.{prime_value}
use Rattle.fm_poly.specs.declared.ring.Ring.{Ring}
use Rattle.fm_term.specs.declared.vterm.VTerm.{VTerm}
use Rattle.fm_vec.specs.Multiples.{inverse_of}
use Rattle.fm_complete.specs.declared.step.Step.{Step}

-- the monomial of a divides that of b, as a test
abbrev pub tuple_divides : List ℕ → List ℕ → Bool
tuple_divides [] b = true
tuple_divides (i ∷ a) [] = false
tuple_divides (i ∷ a) (j ∷ b) = nat_le i j && tuple_divides a b

-- b divides t: the components are equal, and the monomial of b divides that of t
abbrev pub term_divides : VTerm → VTerm → Bool
term_divides b t = b.component == t.component && tuple_divides b.mono t.mono

-- the head of a vector divides t; the zero vector has none
abbrev pub head_divides : List VTerm → VTerm → Bool
head_divides [] t = false
head_divides (b ∷ bs) t = term_divides b t

-- the number of a member, and c * x^m with t = c * x^m * b for its head b
abbrev pub step_for : Ring → ℕ → VTerm → VTerm → Step
step_for r number b t =
    record { number = number; mono = tuple_difference t.mono b.mono; coeff = (t.coeff * inverse_of r b.coeff) % prime_value r.prime }

abbrev pub step_with : Ring → ℕ → List VTerm → VTerm → Option (Step × List VTerm) → Option (Step × List VTerm)
step_with r number [] t later = later
step_with r number (b ∷ bs) t later = if term_divides b t then Some (step_for r number b t, b ∷ bs) else later

-- the step by the member of least number whose head divides t, and this member; numbers count from the given one
abbrev pub first_step : Ring → ℕ → List (List VTerm) → VTerm → Option (Step × List VTerm)
first_step r number [] t = None
first_step r number (g ∷ gs) t = step_with r number g t (first_step r (suc number) gs t)

-- the step that cancels the head of v, where a member's head divides it
abbrev pub next_step : Ring → List (List VTerm) → List VTerm → Option (Step × List VTerm)
next_step r members [] = None
next_step r members (t ∷ ts) = first_step r 1 members t
