-- What the reader of certificates gives.
use Rattle.std.specs.Prelude.{◌≡◌, Result, Ok, Err}
use Rattle.fm_poly.specs.Polys.{PolyValue}
use Rattle.fm_text.specs.declared.poly_fault.PolyFault.{PolyFault}
use Rattle.fm_text.specs.declared.poly_fault.PolyFault.TheVariants.{Form, Exponent, Memory}

-- exactly the polynomial that the text spells, or exactly its fault, unless memory runs out
abbrev pub ReadsPolynomial : Result PolyValue PolyFault → Result PolyValue PolyFault → Type 0
ReadsPolynomial said (Ok f) = said ≡ Ok f
ReadsPolynomial said (Err Form) = said ≡ Err Form
ReadsPolynomial said (Err Exponent) = said ≡ Err Exponent
ReadsPolynomial said (Err Memory) = Unit {0}
