-- x and y over GF(2)[x, y]: inverting, annihilators, the maps to other ideals, and a class of the ideal of x^2 and x y
use Rattle.std.proofs.Common.{zero, ◌+◌, ◌%◌, ◌≡◌, ◌∙◌, inl, inr, refl, sym, ap, ap₂, subst, arith, [], ◌∷◌, get_or, true, false, Some, None}
use Rattle.fm_gfp.specs.declared.prime.Prime.TheVariants.{Two}
use Rattle.fm_algebra.specs.Power.{power}
use Rattle.fm_algebra.specs.Polynomials.{Polynomial, polynomial_zero, polynomial_one, polynomial_sum, polynomial_product, polynomial_power, coefficient, frobenius_twist}
use Rattle.fm_algebra.proofs.Algebra.{mul_one, mul_zero}
use Rattle.fm_algebra.proofs.Concrete.{polynomials_laws, polynomials_frobenius}
use Rattle.fm_algebra.proofs.PolynomialWords.{cancel_factor, coefficient_sum, coefficient_term, polynomials_domain}
use Rattle.fm_limit.specs.Facts.{DegreeFacts, JoinFacts, IsColons, IsAnnihilatorRow, AreCoordinates}
use Rattle.fm_limit.specs.Verdicts.{Holds, inverting, induced_map, zero_class}
use Rattle.fm_limit.specs.SmallIdeals.{one_entry, principal, no_columns}
use Rattle.fm_limit.specs.PairIdeals.{pair_row, pair_ideal, pair_in_degree_one, principal_in_degree_two, square_lift, first_lift, second_lift}
use Rattle.fm_limit.proofs.PairExample.{x, y, shifted, absent, first_place, second_place, coprime, turned, proper, x_nonzero, y_nonzero, one_nonzero}
use Rattle.fm_limit.proofs.PointLaws.{power_verdict, colons, never_verdict, annihilators}
use Rattle.fm_limit.proofs.PointMap.{map_holds, map_facts, join}
use Rattle.fm_limit.proofs.LineMaps.{map_one_holds}
use Rattle.fm_limit.proofs.LineMapsTwo.{map_two_holds}
use Rattle.fm_algebra.specs.Matrix.{table, listed, entry, entrywise}
use Rattle.fm_algebra.specs.PolynomialMatrices.{matrix_twist, matrix_transpose, vector_product, InImage, InKernel}
use Rattle.fm_limit.specs.ResolvedIdeal.{matrix_at}
use Rattle.fm_limit.specs.Classes.{IsClass}
use Rattle.fm_limit.specs.Found.{IsFoundDegree, IsFoundMap, IsJoin}
use Rattle.fm_limit.specs.PlaneIdeals.{line, line_found, point_to_double, point_coordinates, double_join}
use Rattle.fm_limit.proofs.PrincipalFacts.{twist_one, apply_one, product_one_left, image_one, all_cocycles}
use Rattle.fm_limit.proofs.StageWords.{class_words}
use Rattle.fm_limit.proofs.VerdictLaws.{class_yes_verdict}
use Rattle.fm_limit.proofs.PairIdeals.{pair_resolved}
use Rattle.fm_limit.proofs.PairFacts.{pair_facts, not_at_once}
use Rattle.fm_limit.proofs.PairPoint.{point_facts}

abbrev P : Type 0
P = Polynomial Two 2

abbrev one : P
one = polynomial_one Two 2

abbrev pub xx : P
xx = polynomial_power Two 2 2 x

xx_is : xx ≡ polynomial_product Two 2 x x
unfolding polynomial_power power polynomial_product
xx_is = ap (λ u. polynomial_product Two 2 x u) (mul_one (polynomials_laws Two 2) x)

power_first : polynomial_power Two 2 1 x ≡ x
unfolding polynomial_power power
power_first = mul_one (polynomials_laws Two 2) x

xx_nonzero : ¬ (xx ≡ polynomial_zero Two 2)
xx_nonzero e = elim (polynomials_domain Two 2 x x (sym xx_is ∙ e)) [ inl z ↦ x_nonzero z | inr z ↦ x_nonzero z ]

product_assoc : (a b c : P) → polynomial_product Two 2 (polynomial_product Two 2 a b) c ≡ polynomial_product Two 2 a (polynomial_product Two 2 b c)
unfolding polynomial_product
product_assoc = (polynomials_laws Two 2).mul_assoc

product_swap : (a b c : P) → polynomial_product Two 2 a (polynomial_product Two 2 b c) ≡ polynomial_product Two 2 b (polynomial_product Two 2 a c)
unfolding polynomial_product
product_swap a b c = sym ((polynomials_laws Two 2).mul_assoc a b c) ∙ ap (λ u. polynomial_product Two 2 u c) ((polynomials_laws Two 2).mul_comm a b) ∙ (polynomials_laws Two 2).mul_assoc b a c

-- x^2 divides y b only if it divides b
xx_coprime : (b : P) → ((c : P) × (polynomial_product Two 2 xx c ≡ polynomial_product Two 2 y b)) → (c : P) × (polynomial_product Two 2 xx c ≡ b)
xx_coprime b h =
    let a : polynomial_product Two 2 x (polynomial_product Two 2 x h.0) ≡ polynomial_product Two 2 y b = sym (product_assoc x x h.0) ∙ ap (λ u. polynomial_product Two 2 u h.0) (sym xx_is) ∙ h.1 in
    let r = coprime b (polynomial_product Two 2 x h.0, a) in
    let q : polynomial_product Two 2 x h.0 ≡ polynomial_product Two 2 y r.0 = cancel_factor Two 2 x (polynomial_product Two 2 x h.0) (polynomial_product Two 2 y r.0) x_nonzero (a ∙ ap (λ u. polynomial_product Two 2 y u) (sym r.1) ∙ product_swap y x r.0) in
    let s = coprime r.0 (h.0, q) in
    (s.0, ap (λ u. polynomial_product Two 2 u s.0) xx_is ∙ product_assoc x x s.0 ∙ ap (λ u. polynomial_product Two 2 x u) s.1 ∙ r.1)

-- y divides x^2 b only if it divides b
xx_turned : (b : P) → ((c : P) × (polynomial_product Two 2 y c ≡ polynomial_product Two 2 xx b)) → (c : P) × (polynomial_product Two 2 y c ≡ b)
xx_turned b h =
    let a : polynomial_product Two 2 y h.0 ≡ polynomial_product Two 2 x (polynomial_product Two 2 x b) = h.1 ∙ ap (λ u. polynomial_product Two 2 u b) xx_is ∙ product_assoc x x b in
    let r = turned (polynomial_product Two 2 x b) (h.0, a) in
    turned b (r.0, r.1)

xx_proper : (a b : P) → ¬ (polynomial_sum Two 2 (polynomial_product Two 2 y a) (polynomial_product Two 2 xx b) ≡ polynomial_one Two 2)
xx_proper a b e = proper a (polynomial_product Two 2 x b) (ap (λ u. polynomial_sum Two 2 (polynomial_product Two 2 y a) u) (sym (product_assoc x x b) ∙ ap (λ u. polynomial_product Two 2 u b) (sym xx_is)) ∙ e)

-- ---- the ideal of x and y
pub invert_x : Holds Two 2 (inverting 2 (pair_ideal 2 one x y) x (Some 1))
unfolding polynomial_sum polynomial_product polynomial_one polynomial_zero polynomial_power power
invert_x =
    let R = polynomials_laws Two 2 in
    power_verdict 2 x y x_nonzero y_nonzero coprime turned proper one_nonzero x 1
    (polynomial_zero Two 2, one, ap (λ u. polynomial_sum Two 2 u (polynomial_product Two 2 x one)) (times_zero y) ∙ R.zero_add (polynomial_product Two 2 x one))
    (λ j q a b e. let z : j ≡ zero = omega (arith, q) in proper a b (e ∙ ap (λ j. polynomial_power Two 2 j x) z))
  where
    times_zero : (u : P) → polynomial_product Two 2 u (polynomial_zero Two 2) ≡ polynomial_zero Two 2
    times_zero = mul_zero (polynomials_laws Two 2)

pub never_x_plus_one : Holds Two 2 (inverting 2 (pair_ideal 2 one x y) (polynomial_sum Two 2 x one) None)
unfolding polynomial_sum polynomial_product polynomial_one
never_x_plus_one = never_verdict 2 x y x_nonzero y_nonzero coprime turned proper one_nonzero

pub colons_x_plus_one : IsColons Two 2 (pair_row 2 y x) (polynomial_sum Two 2 x one) (pair_row 2 y x ∷ pair_row 2 y x ∷ []) 0
unfolding polynomial_sum polynomial_product polynomial_one
colons_x_plus_one = colons 2 x y x_nonzero y_nonzero coprime turned proper one_nonzero

pub annihilators_x_y : IsAnnihilatorRow Two 2 (pair_row 2 y x) (pair_row 2 y x)
unfolding polynomial_sum polynomial_product polynomial_one
annihilators_x_y = annihilators 2 x y x_nonzero y_nonzero coprime turned proper one_nonzero

-- ---- the ideal of x^2 and y
-- x is not in it
x_outside : (a b : P) → ¬ (polynomial_sum Two 2 (polynomial_product Two 2 y a) (polynomial_product Two 2 xx b) ≡ x)
x_outside a b h =
    let v : coefficient Two 2 x (1 ∷ 0 ∷ []) ≡ 1 = coefficient_term Two 2 1 (1 ∷ 0 ∷ []) refl in
    let u : coefficient Two 2 (polynomial_product Two 2 y a) (1 ∷ 0 ∷ []) ≡ 0 = absent (0 ∷ 1 ∷ []) (1 ∷ 0 ∷ []) a (second_place 1) in
    let w : coefficient Two 2 (polynomial_product Two 2 xx b) (1 ∷ 0 ∷ []) ≡ 0 = nothing in
    let s : coefficient Two 2 (polynomial_sum Two 2 (polynomial_product Two 2 y a) (polynomial_product Two 2 xx b)) (1 ∷ 0 ∷ []) ≡ 0 = coefficient_sum Two 2 (polynomial_product Two 2 y a) (polynomial_product Two 2 xx b) (1 ∷ 0 ∷ []) ∙ ap₂ (λ k m. (k + m) % 2) u w in
    let q : coefficient Two 2 (polynomial_sum Two 2 (polynomial_product Two 2 y a) (polynomial_product Two 2 xx b)) (1 ∷ 0 ∷ []) ≡ coefficient Two 2 x (1 ∷ 0 ∷ []) = ap (λ f. coefficient Two 2 f (1 ∷ 0 ∷ [])) h in
    absurd (omega arith)
  where
    nothing : coefficient Two 2 (polynomial_product Two 2 xx b) (1 ∷ 0 ∷ []) ≡ 0
    nothing =
        let e : polynomial_product Two 2 xx b ≡ polynomial_product Two 2 x (polynomial_product Two 2 x b) = ap (λ u. polynomial_product Two 2 u b) xx_is ∙ product_assoc x x b in
        ap (λ f. coefficient Two 2 f (1 ∷ 0 ∷ [])) e ∙ shifted (1 ∷ 0 ∷ []) (0 ∷ 0 ∷ []) (polynomial_product Two 2 x b) refl refl ∙ absent (1 ∷ 0 ∷ []) (0 ∷ 0 ∷ []) b (first_place 0)

pub invert_double : Holds Two 2 (inverting 2 (pair_ideal 2 one xx y) x (Some 2))
unfolding polynomial_sum polynomial_product polynomial_one polynomial_zero
invert_double =
    let R = polynomials_laws Two 2 in
    power_verdict 2 xx y xx_nonzero y_nonzero xx_coprime xx_turned xx_proper one_nonzero x 2
    (polynomial_zero Two 2, one, ap (λ u. polynomial_sum Two 2 u (polynomial_product Two 2 xx one)) (times_zero y) ∙ R.zero_add (polynomial_product Two 2 xx one) ∙ mul_one R xx)
    (λ j q a b e. let z : j ≡ 1 = omega (arith, q) in x_outside a b (e ∙ ap (λ j. polynomial_power Two 2 j x) z ∙ first))
  where
    times_zero : (u : P) → polynomial_product Two 2 u (polynomial_zero Two 2) ≡ polynomial_zero Two 2
    times_zero = mul_zero (polynomials_laws Two 2)

    first : polynomial_power Two 2 1 x ≡ x
    first = power_first

-- ---- the maps
pub to_double : Holds Two 2 (induced_map 2 (pair_ideal 2 one x y) (pair_ideal 2 one xx y) (square_lift 2 x) false true (Some 1))
unfolding polynomial_sum polynomial_product polynomial_one
to_double = map_holds 2 x y x_nonzero y_nonzero coprime turned proper one_nonzero xx xx_is xx_nonzero xx_coprime xx_turned xx_proper

pub to_line_one : Holds Two 2 (induced_map 1 (pair_in_degree_one 2 one x y) (principal Two 2 x) (first_lift 2) true true None)
unfolding polynomial_sum polynomial_product polynomial_one
to_line_one = map_one_holds 2 x y x_nonzero y_nonzero coprime turned proper one_nonzero

pub to_line_two : Holds Two 2 (induced_map 2 (pair_ideal 2 one x y) (principal_in_degree_two 2 x) (second_lift 2) true false (Some 0))
unfolding polynomial_sum polynomial_product polynomial_one
to_line_two = map_two_holds 2 x y x_nonzero y_nonzero coprime turned proper one_nonzero

-- ---- what is found
untwisted : (f : P) → frobenius_twist Two 2 0 f ≡ f
untwisted f = (polynomials_frobenius Two 2).twist_none f

pub found_map : IsFoundMap Two 2 2 point_to_double
unfolding polynomial_sum polynomial_product polynomial_one
found_map =
    record {
      source = subst (λ t. DegreeFacts Two 2 2 (pair_ideal 2 one x y) (one_entry Two 2 one) (one_entry Two 2 t) (pair_row 2 y x ∷ pair_row 2 y x ∷ []) 0) (plain x) (point_facts 2 x y x_nonzero y_nonzero coprime turned proper one_nonzero);
      target = subst (λ t. DegreeFacts Two 2 2 (pair_ideal 2 one xx y) (one_entry Two 2 one) (one_entry Two 2 t) (pair_row 2 y xx ∷ pair_row 2 y xx ∷ []) 0) (plain xx) (point_facts 2 xx y xx_nonzero y_nonzero xx_coprime xx_turned xx_proper one_nonzero);
      map = map_facts 2 x y x_nonzero y_nonzero coprime turned proper one_nonzero xx xx_is xx_nonzero xx_coprime xx_turned xx_proper;
    }
  where
    plain : (f : P) → polynomial_product Two 2 (polynomial_product Two 2 one f) y ≡ polynomial_product Two 2 f y
    plain f = ap (λ u. polynomial_product Two 2 u y) ((polynomials_laws Two 2).one_mul f)

pub found_join : IsJoin Two 2 (point_coordinates xx) (one_entry Two 2 x) double_join 1
unfolding polynomial_sum polynomial_product polynomial_one matrix_at
found_join =
    subst (λ t. JoinFacts Two 2 (pair_row 2 y xx) (one_entry Two 2 x) (one_entry Two 2 t) double_join 1) (ap (λ u. polynomial_product Two 2 u y) ((polynomials_laws Two 2).one_mul xx)) (join 2 x y x_nonzero y_nonzero coprime turned proper one_nonzero xx xx_is xx_nonzero xx_coprime xx_turned xx_proper)

-- ---- the ideal of x^2 and x y
pub line_facts : IsFoundDegree Two 2 2 line_found
unfolding polynomial_sum polynomial_product polynomial_one
line_facts =
    subst (λ t. DegreeFacts Two 2 2 (pair_ideal 2 x x y) (one_entry Two 2 one) (one_entry Two 2 (polynomial_product Two 2 t y)) (pair_row 2 y x ∷ one_entry Two 2 one ∷ one_entry Two 2 one ∷ []) 1) (sym xx_is) (pair_facts 2 x y x_nonzero coprime proper)

-- stage 0 is not twisted
untwisted_one : matrix_twist Two 2 0 (one_entry Two 2 one) ≡ one_entry Two 2 one
untwisted_one = twist_one Two 2 0 one ∙ ap (λ u. one_entry Two 2 u) (untwisted one)

untwisted_row : matrix_twist Two 2 0 (pair_row 2 y x) ≡ pair_row 2 y x
unfolding matrix_twist entrywise table listed entry
untwisted_row = ap₂ (λ u v. pair_row 2 u v) (untwisted y) (untwisted x)

untwisted_none : matrix_twist Two 2 0 (no_columns Two 2) ≡ no_columns Two 2
unfolding matrix_twist entrywise table listed
untwisted_none = refl

in_all : InImage Two 2 (one_entry Two 2 one) (one ∷ [])
in_all = (image_one Two 2 one one).1 (one, product_one_left Two 2 one)

-- 1 is a class of stage 0, its own coordinate
one_class : IsClass Two 2 2 line 0 (one ∷ [])
unfolding pair_ideal matrix_at
one_class =
    (class_words Two 2 (pair_resolved 2 x x y x_nonzero x_nonzero coprime) 0 (one ∷ [])).1
    (subst (λ A. InKernel Two 2 (matrix_transpose Two 2 A) (one ∷ [])) (sym untwisted_none) ((all_cocycles Two 2 x x_nonzero (one ∷ [])).1 in_all))

one_coordinates : AreCoordinates Two 2 (one_entry Two 2 one) 0 (one ∷ []) (one ∷ [])
one_coordinates = (refl, ap (λ A. vector_product Two 2 A (one ∷ [])) untwisted_one ∙ apply_one Two 2 one one ∙ ap (λ u. u ∷ []) (product_one_left Two 2 one))

not_at_first : InImage Two 2 (matrix_twist Two 2 0 (pair_row 2 y x)) (one ∷ []) → ⊥
unfolding polynomial_sum polynomial_product polynomial_one
not_at_first k =
    not_at_once 2 x y x_nonzero coprime proper (λ c b. let z : zero ≡ c = omega (arith, b) in subst (λ c. InImage Two 2 (pair_row 2 y x) (get_or ((one ∷ []) ∷ []) c [])) z (subst (λ A. InImage Two 2 A (one ∷ [])) untwisted_row k))

-- it is a coboundary first at stage 1
pub line_class : Holds Two 2 (zero_class 2 line 0 (one ∷ []) (Some 1))
unfolding matrix_at
line_class =
    class_yes_verdict Two 2 line_facts 0 (one ∷ []) (one ∷ []) 1 one_class one_coordinates (omega arith) (subst (λ A. InImage Two 2 A (one ∷ [])) (sym untwisted_one) in_all) (λ r q k.
    let z : r ≡ zero = omega (arith, q) in
    not_at_first (subst (λ r. InImage Two 2 (matrix_twist Two 2 0 (matrix_at Two 2 (pair_row 2 y x ∷ one_entry Two 2 one ∷ one_entry Two 2 one ∷ []) r)) (one ∷ [])) z k))
