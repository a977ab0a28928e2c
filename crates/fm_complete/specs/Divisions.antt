-- What a division answers: the numbers of the members taken, the quotients and the rest.
use Rattle.std.specs.Prelude.{ℕ, zero, suc, ◌==◌, ◌≡◌, ◌≢◌, if◌then◌else◌, List, [], ◌∷◌, map, length}
use Rattle.fm_poly.specs.declared.ring.Ring.{Ring}
use Rattle.fm_poly.specs.declared.term.Term.{Term}
use Rattle.fm_poly.specs.Polys.{PolyValue}
use Rattle.fm_term.specs.declared.vterm.VTerm.{VTerm}
use Rattle.fm_vec.specs.Vectors.{VectorValue}
use Rattle.fm_complete.specs.declared.step.Step.{Step}
use Rattle.fm_complete.specs.declared.division.Division.{Division}
use Rattle.fm_run.specs.Runs.{Ended, ended_with}
use Rattle.fm_complete.specs.Reductions.{Reduced, divided}

-- what contracts see of a division
pub record DivisionValue : Type 0 where
  pub by : List ℕ
  pub quotients : List PolyValue
  pub rest : VectorValue

abbrev pub division_value : Division → DivisionValue
division_value d = record { by = d.by.items; quotients = d.quotients.items; rest = d.rest }

-- the terms of the steps with this member
abbrev pub quotient_terms : ℕ → List Step → List Term
quotient_terms number [] = []
quotient_terms number (s ∷ ss) =
    if s.number == number then record { mono = s.mono; coeff = s.coeff } ∷ quotient_terms number ss
    else quotient_terms number ss

-- the quotients of count members, numbered from the given one
abbrev pub quotients_from : Ring → ℕ → ℕ → List Step → List PolyValue
quotients_from r zero number ss = []
quotients_from r (suc count) number ss = record { ring = r; terms = quotient_terms number ss } ∷ quotients_from r count (suc number) ss

-- the division, by count members, that head reductions of a vector with this number of components make
abbrev pub division_of : Ring → ℕ → ℕ → Reduced → DivisionValue
division_of r rows count x = record {
  by = map (λ (s : Step). s.number) x.steps;
  quotients = quotients_from r count 1 x.steps;
  rest = record { ring = r; rows = rows; terms = x.rest };
}

-- the terms of each member
abbrev pub terms_of : List VectorValue → List (List VTerm)
terms_of [] = []
terms_of (v ∷ vs) = v.terms ∷ terms_of vs

-- the members are not zero, of one ring, and of one length
abbrev pub AreMembers : Ring → ℕ → List VectorValue → Type 0
AreMembers r rows [] = Unit {0}
AreMembers r rows (v ∷ vs) = (v.ring ≡ r) × (v.rows ≡ rows) × (v.terms ≢ []) × AreMembers r rows vs

-- the standard division of v by the members with this number of units
abbrev pub division_run : List VectorValue → VectorValue → ℕ → Ended DivisionValue
division_run members v units = ended_with (division_of v.ring v.rows (length members)) (divided v.ring (terms_of members) units v.terms)
