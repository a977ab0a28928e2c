-- The module order: position over term (Cox, Little and O'Shea, Using Algebraic Geometry, chapter 5, section 2).
use Rattle.std.specs.Prelude.{ℕ, ◌≡◌, List, [], ◌∷◌}
use Rattle.std.specs.Ordering.{nat_cmp, ordering_then}
use Rattle.std.specs.declared.cmp.Ordering.{Ordering}
use Rattle.std.specs.declared.cmp.Ordering.TheVariants.{Less}
use Rattle.fm_tuple.specs.Tuple.{TupleDivides}
use Rattle.fm_mono.specs.declared.order.Order.{Order}
use Rattle.fm_mono.specs.Orders.{monomial_cmp}
use Rattle.fm_term.specs.declared.vterm.VTerm.{VTerm}

-- x^a * e_i against x^b * e_j: the smaller component is greater, and in one component the monomial order decides
abbrev pub place_cmp : Order → ℕ → List ℕ → ℕ → List ℕ → Ordering
place_cmp o i a j b = ordering_then (nat_cmp j i) (monomial_cmp o a b)

-- two terms by their places
abbrev pub term_cmp : Order → VTerm → VTerm → Ordering
term_cmp o t u = place_cmp o t.component t.mono u.component u.mono

-- t divides s: the components are equal, and the monomial divides
abbrev pub TermDivides : VTerm → VTerm → Type 0
TermDivides t s = (t.component ≡ s.component) × TupleDivides t.mono s.mono

-- every term of the list is less than t
abbrev pub AllBelow : Order → VTerm → List VTerm → Type 0
AllBelow o t [] = Unit {0}
AllBelow o t (u ∷ us) = (term_cmp o u t ≡ Less) × AllBelow o t us

-- the terms fall strictly
abbrev pub Falls : Order → List VTerm → Type 0
Falls o [] = Unit {0}
Falls o (t ∷ ts) = AllBelow o t ts × Falls o ts
