-- The steps of conditions on generators and on columns outside.
use Rattle.std.specs.Prelude.{ℕ, ◌^◌, List, Result, Ok}
use Rattle.std.specs.List.{list_all}
use Rattle.fm_gfp.specs.Primes.{prime_value}
use Rattle.fm_words.specs.Steps.{◌>>=◌}
use Rattle.fm_poly.specs.declared.ring.Ring.{Ring}
use Rattle.fm_term.specs.declared.vterm.VTerm.{VTerm}
use Rattle.fm_vec.specs.Multiples.{twist_fits}
use Rattle.fm_groebner.specs.Syzygies.{syzygies, first_rows}
use Rattle.fm_graphs.specs.Graphs.{MatrixOf}
use Rattle.fm_report.specs.Parts.{Part, stack, times}
use Rattle.fm_parts.specs.Shapes.{rows_of}
use Rattle.fm_parts.specs.Values.{same_matrix, is_zero_matrix}
use Rattle.fm_parts.specs.Replays.{Reason, Exponents, Value, Reduction, needs, reduce_by}
use Rattle.fm_parts.specs.Conditions.{is_outside, evaluated, twisted_members}

module _ (r : Ring) where
  -- G * (C above X) = 0
  abbrev pub vanishing : (G C X : Part) → Result (Unit {0}) Reason
  vanishing G C X = evaluated r (times G (stack C X)) >>= λ product. needs (is_zero_matrix r product) Value

  -- the first rows of the syzygies of g by these members are C * W
  abbrev pub covering : List (List VTerm) → MatrixOf r → (C W : Part) → Result (Unit {0}) Reason
  covering members g C W =
      evaluated r (times C W) >>= λ cover. needs (same_matrix r (first_rows r.prime r.vars (rows_of C) (syzygies r.prime r.vars g members)) cover) Value

  -- the members, twisted e times
  abbrev pub twisting : ℕ → List (List VTerm) → Result (List (List VTerm)) Reason
  twisting e members = needs (list_all (twist_fits (prime_value r.prime ^ e)) members) Exponents >>= λ _. Ok (twisted_members r e members)

  -- what these members, twisted e times, leave of a vector, as the numbers say, ends outside of the first m components
  abbrev pub excluding : (m e : ℕ) → List (List VTerm) → List ℕ → List VTerm → Result (Unit {0}) Reason
  excluding m e members by start =
      needs (list_all (twist_fits (prime_value r.prime ^ e)) members) Exponents >>= λ _. reduce_by r Reduction (twisted_members r e members) by start >>= λ rest.
      needs (is_outside m (twisted_members r e members) rest) Reduction
