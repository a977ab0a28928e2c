-- Short reports of each kind of query.
use Rattle.std.specs.Prelude.{ℕ, List, [], ◌∷◌, codes}
use Rattle.fm_gfp.specs.declared.prime.Prime.TheVariants.{Three}
use Rattle.fm_mono.specs.declared.order.Order.TheVariants.{Grevlex}
use Rattle.fm_poly.specs.Polys.{PolyValue}
use Rattle.fm_poly.specs.declared.ring.Ring.{Ring}
use Rattle.fm_poly.specs.declared.term.Term.{Term}
use Rattle.fm_words.specs.Parts.{Bytes}
use Rattle.fm_report.specs.Parts.{Part, given}
use Rattle.fm_report.specs.Sheets.{Block}

-- the ring GF(3)[x, y]
abbrev pub plane : Ring
plane = record { prime = Three; vars = 2; order = Grevlex }

abbrev pub monomial : (a b c : ℕ) → Term
monomial a b c = record { mono = a ∷ b ∷ []; coeff = c }

-- c * x^a * y^b
abbrev pub poly : (a b c : ℕ) → PolyValue
poly a b c = record { ring = plane; terms = monomial a b c ∷ [] }

-- a matrix of one entry
abbrev pub one_by_one : PolyValue → Part
one_by_one f = given 1 ((f ∷ []) ∷ [])

-- the first lines over GF(3)[x, y], with the ideals I = (x*y) and J = (x)
abbrev pub head_text : Bytes
head_text = codes "report 0\nring 3 x y\norder grevlex\nideal I = -2 * y * x\nideal J = x\n"

-- the resolution of (x*y) and its lift of Frobenius, with minus signs, factors out of order and a variable twice
abbrev pub block_text : Bytes
block_text = codes "datum I 1\npart 1 given 1 1 (-2*y*x)\nd 1 1\npart 2 given 1 0\nd 2 2\npart 3 given 1 1 (-y+1+y)\ntheta 0 3\npart 4 given 1 1 (y*x^2*y)\ntheta 1 4\n"

abbrev pub cross : Block
cross = record {
  ideal = 0;
  degree = 1;
  differentials = one_by_one (poly 1 1 1) ∷ given 1 [] ∷ [];
  lift = one_by_one (poly 0 0 1) ∷ one_by_one (poly 2 2 1) ∷ [];
  cocycles = [];
  kernels = [];
  morphism = [];
}

-- Z = (1), N = (x*y), K_1 = (1) and U = (x^2*y^2), by the lines of reports and by those of certificates
abbrev pub root_text : Bytes
root_text = codes "Z 3\nN 1\nU 4\nK 1 3\n"

abbrev pub certified_text : Bytes
certified_text = codes "cocycles 3 1 2 3\nrelations 1 1 2 3\nmorphism 4\nchain 1 3 1 2 3\nstable 0 3\n"

abbrev pub rooted : Block
rooted = record cross { cocycles = one_by_one (poly 0 0 1) ∷ []; kernels = one_by_one (poly 1 1 1) ∷ one_by_one (poly 0 0 1) ∷ []; morphism = one_by_one (poly 2 2 1) ∷ [] }

abbrev pub I : List PolyValue
I = poly 1 1 1 ∷ []

abbrev pub J : List PolyValue
J = poly 1 0 1 ∷ []

-- the resolution of (x) and its lift of Frobenius
abbrev pub source_text : Bytes
source_text = codes "datum J 1\npart 1 given 1 1 (x)\nd 1 1\npart 2 given 1 0\nd 2 2\npart 3 given 1 1 (1)\ntheta 0 3\npart 4 given 1 1 (x*x)\ntheta 1 4\n"

abbrev pub line : Block
line = record cross { ideal = 1; differentials = one_by_one (poly 1 0 1) ∷ given 1 [] ∷ []; lift = one_by_one (poly 0 0 1) ∷ one_by_one (poly 2 0 1) ∷ [] }
