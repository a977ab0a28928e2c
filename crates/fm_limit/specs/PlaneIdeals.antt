-- Ideals of GF(2)[x, y], done by hand, with what is found of them.
use Rattle.std.specs.Prelude.{List, [], ◌∷◌}
use Rattle.fm_gfp.specs.declared.prime.Prime.TheVariants.{Two}
use Rattle.fm_algebra.specs.Polynomials.{Polynomial, polynomial_one, polynomial_term, polynomial_product, polynomial_power}
use Rattle.fm_algebra.specs.PolynomialMatrices.{PolynomialMatrix}
use Rattle.fm_limit.specs.ResolvedIdeal.{ResolvedIdeal}
use Rattle.fm_limit.specs.SmallIdeals.{one_entry}
use Rattle.fm_limit.specs.PairIdeals.{pair_row, pair_ideal, pair_in_degree_one, square_lift}
use Rattle.fm_limit.specs.Found.{Coordinates, FoundDegree, FoundMap}

abbrev pub one : Polynomial Two 2
one = polynomial_one Two 2

abbrev pub x : Polynomial Two 2
x = polynomial_term Two 2 1 (1 ∷ 0 ∷ [])

abbrev pub y : Polynomial Two 2
y = polynomial_term Two 2 1 (0 ∷ 1 ∷ [])

abbrev pub x_squared : Polynomial Two 2
x_squared = polynomial_power Two 2 2 x

-- the ideal of x^2 and x y, through degree 2
abbrev pub line : ResolvedIdeal Two 2
line = pair_ideal 2 x x y

-- the ideal of x and y, through degree 1 and through degree 2
abbrev pub point_in_degree_one : ResolvedIdeal Two 2
point_in_degree_one = pair_in_degree_one 2 one x y

abbrev pub point : ResolvedIdeal Two 2
point = pair_ideal 2 one x y

-- the ideal of x^2 and y, through degree 2
abbrev pub double_point : ResolvedIdeal Two 2
double_point = pair_ideal 2 one x_squared y

-- In degree 2 Z = (1) for each of them. Of the line the relations are (y, x), the morphism is (x^2 y), and the chain is (y, x), (1), (1).
abbrev pub line_found : FoundDegree Two 2
line_found = record {
  ideal = line;
  found = record {
    cocycles = one_entry Two 2 one;
    morphism = one_entry Two 2 (polynomial_product Two 2 x_squared y);
    kernels = pair_row 2 y x ∷ one_entry Two 2 one ∷ one_entry Two 2 one ∷ [];
    repeat = 1;
  };
}

-- of the ideal of f and g, for f = x or x^2, the morphism is (f g), and the chain repeats at once at (g, f)
abbrev pub point_coordinates : Polynomial Two 2 → Coordinates Two 2
point_coordinates f = record {
  cocycles = one_entry Two 2 one;
  morphism = one_entry Two 2 (polynomial_product Two 2 f y);
  kernels = pair_row 2 y f ∷ pair_row 2 y f ∷ [];
  repeat = 0;
}

-- the map from the ideal of x and y to that of x^2 and y; in coordinates it is x
abbrev pub point_to_double : FoundMap Two 2
point_to_double = record {
  source = record { ideal = point; found = point_coordinates x };
  target = record { ideal = double_point; found = point_coordinates x_squared };
  lift = square_lift 2 x;
  matrix = one_entry Two 2 x;
}

-- the chain of the target's morphism that begins with (y, x^2, x)
abbrev pub double_join : List (PolynomialMatrix Two 2)
double_join = record { rows = 1; columns = (y ∷ []) ∷ (x_squared ∷ []) ∷ (x ∷ []) ∷ [] } ∷ one_entry Two 2 one ∷ []
