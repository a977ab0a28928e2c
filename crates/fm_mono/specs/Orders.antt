-- The three monomial orders, on exponent tuples of any size (Cox, Little and O'Shea, Ideals, Varieties, and Algorithms, chapter 2, section 2).
use Rattle.std.specs.Prelude.{ℕ, List, sum, reverse}
use Rattle.std.specs.Ordering.{nat_cmp, then_cmp, on, flip_args}
use Rattle.std.specs.Cmp.Lexicographic.{slice_cmp}
use Rattle.std.specs.declared.cmp.Ordering.{Ordering}
use Rattle.fm_mono.specs.declared.order.Order.{Order}
use Rattle.fm_mono.specs.declared.order.Order.TheVariants.{Grevlex, Deglex, Lex}

-- by the total degree
abbrev pub degree_cmp : List ℕ → List ℕ → Ordering
degree_cmp a b = on sum nat_cmp a b

-- by the first variable whose exponents differ, the greater exponent being greater
abbrev pub first_cmp : List ℕ → List ℕ → Ordering
first_cmp a b = slice_cmp nat_cmp a b

-- by the last variable whose exponents differ, the smaller exponent being greater
abbrev pub last_cmp : List ℕ → List ℕ → Ordering
last_cmp a b = on reverse (slice_cmp (flip_args nat_cmp)) a b

-- a against b in a monomial order
abbrev pub monomial_cmp : Order → List ℕ → List ℕ → Ordering
monomial_cmp Lex a b = first_cmp a b
monomial_cmp Deglex a b = then_cmp degree_cmp first_cmp a b
monomial_cmp Grevlex a b = then_cmp degree_cmp last_cmp a b
