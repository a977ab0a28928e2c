-- A polynomial of a line is what its text spells.
use Rattle.std.proofs.Common.{◌≡◌, length, Result, Ok, Err, ap}
use Rattle.fm_poly.specs.Polys.{PolyValue}
use Rattle.fm_words.specs.Parts.{Bytes}
use Rattle.fm_words.proofs.FirstFaults.{no_fault, same_ok}
use Rattle.fm_text.specs.declared.text_fault.TextFault.{TextFault}
use Rattle.fm_text.specs.Polynomials.{Rules, spelled_polynomial}
use Rattle.fm_text.specs.SumOfTerms.{IsPolynomialOf}
use Rattle.fm_text.proofs.SoundPolynomials.{polynomial_sound}
use Rattle.fm_problem.specs.Faults.{kind_of, on_line}
use Rattle.fm_problem.specs.Problems.{polynomial_in}

read_on_line : {A : Type 0} (r : Result A TextFault) (x : A) → on_line r ≡ Ok x → r ≡ Ok x
read_on_line (Ok y) x h = ap Ok (same_ok h)
read_on_line (Err f) x h = absurd (no_fault (kind_of f) x h)

pub spelled_on_line : (r : Rules) (text : Bytes) (f : PolyValue) → polynomial_in r text ≡ Ok f → spelled_polynomial r text ≡ Ok f
spelled_on_line r text f h = read_on_line (spelled_polynomial r text) f h

pub line_polynomial_sound : (r : Rules) (text : Bytes) (f : PolyValue) → length r.names ≡ r.ring.vars → polynomial_in r text ≡ Ok f → IsPolynomialOf r.ring f
line_polynomial_sound r text f named h = polynomial_sound r text f named (spelled_on_line r text f h)
