-- Products and twists of small polynomials
use Rattle.std.proofs.Common.{◌≡◌, ℕ, List, [], ◌∷◌, refl, ap, sym, ◌∙◌}
use Rattle.fm_gfp.specs.declared.prime.Prime.{Prime}
use Rattle.fm_gfp.specs.declared.prime.Prime.TheVariants.{Two, Three, Five}
use Rattle.fm_algebra.specs.Power.{power}
use Rattle.fm_algebra.specs.Polynomials.{polynomials, coefficient, polynomial_sum, polynomial_product, polynomial_power, polynomial_of, frobenius_twist}
use Rattle.fm_algebra.proofs.Algebra.{mul_one}
use Rattle.fm_algebra.proofs.Concrete.{polynomials_laws}
use Rattle.fm_algebra.proofs.TermWords.{of_product, of_append, coefficient_of, of_like, of_drop, of_modulo, of_swap}
use Rattle.fm_algebra.proofs.TwistWords.{twist_of_terms}

-- the same first term
of_rest : (p : Prime) (n : ℕ) (t : List ℕ × ℕ) (us vs : List (List ℕ × ℕ)) → polynomial_of p n us ≡ polynomial_of p n vs → polynomial_of p n (t ∷ us) ≡ polynomial_of p n (t ∷ vs)
unfolding polynomial_of
of_rest p n t us vs e = ap (polynomial_sum p n _) e

abbrev Terms2 : Type 0
Terms2 = List (List ℕ × ℕ)

-- x + y, x + 2 * y
abbrev x_plus_y : Terms2
x_plus_y = (1 ∷ 0 ∷ [], 1) ∷ (0 ∷ 1 ∷ [], 1) ∷ []

abbrev x_plus_2y : Terms2
x_plus_2y = (1 ∷ 0 ∷ [], 1) ∷ (0 ∷ 1 ∷ [], 2) ∷ []

-- (x + y) * (x - y) = x^2 - y^2 over GF(3)
pub difference_of_squares : polynomial_product Three 2 (polynomial_of Three 2 x_plus_y) (polynomial_of Three 2 x_plus_2y)
    ≡ polynomial_of Three 2 ((2 ∷ 0 ∷ [], 1) ∷ (0 ∷ 2 ∷ [], 2) ∷ [])
difference_of_squares =
    of_product Three 2 x_plus_y x_plus_2y (refl, (refl, tt)) (refl, (refl, tt))
    ∙ of_rest Three 2 (2 ∷ 0 ∷ [], 1) _ _ (
    of_like Three 2 (1 ∷ 1 ∷ []) 2 1 ((0 ∷ 2 ∷ [], 2) ∷ [])
    ∙ of_drop Three 2 (1 ∷ 1 ∷ []) 3 ((0 ∷ 2 ∷ [], 2) ∷ []) refl
    )

square : (p : Prime) → polynomial_power p 2 2 (polynomial_of p 2 x_plus_y) ≡ polynomial_of p 2 ((2 ∷ 0 ∷ [], 1) ∷ (1 ∷ 1 ∷ [], 2) ∷ (0 ∷ 2 ∷ [], 1) ∷ [])
unfolding polynomial_power power polynomial_product
square p =
    ap ((polynomials p 2).mul (polynomial_of p 2 x_plus_y)) (mul_one (polynomials_laws p 2) (polynomial_of p 2 x_plus_y))
    ∙ of_product p 2 x_plus_y x_plus_y (refl, (refl, tt)) (refl, (refl, tt))
    ∙ of_rest p 2 (2 ∷ 0 ∷ [], 1) _ _ (of_like p 2 (1 ∷ 1 ∷ []) 1 1 ((0 ∷ 2 ∷ [], 1) ∷ []))

-- (x + y)^2 = x^2 + y^2 over GF(2)
pub square_over_two : polynomial_power Two 2 2 (polynomial_of Two 2 x_plus_y) ≡ polynomial_of Two 2 ((2 ∷ 0 ∷ [], 1) ∷ (0 ∷ 2 ∷ [], 1) ∷ [])
square_over_two = square Two ∙ of_rest Two 2 (2 ∷ 0 ∷ [], 1) _ _ (of_drop Two 2 (1 ∷ 1 ∷ []) 2 ((0 ∷ 2 ∷ [], 1) ∷ []) refl)

-- (x + y)^2 has 2 * x * y over GF(3)
pub square_over_three : coefficient Three 2 (polynomial_power Three 2 2 (polynomial_of Three 2 x_plus_y)) (1 ∷ 1 ∷ []) ≡ 2
square_over_three = ap (λ f. coefficient Three 2 f (1 ∷ 1 ∷ [])) (square Three) ∙ coefficient_of Three 2 _ (1 ∷ 1 ∷ []) refl

-- (3 * x + 4) + (2 * x + 4) = 3 over GF(5)
pub sum_over_five : polynomial_sum Five 1 (polynomial_of Five 1 ((1 ∷ [], 3) ∷ (0 ∷ [], 4) ∷ [])) (polynomial_of Five 1 ((1 ∷ [], 2) ∷ (0 ∷ [], 4) ∷ []))
    ≡ polynomial_of Five 1 ((0 ∷ [], 3) ∷ [])
sum_over_five =
    sym (of_append Five 1 ((1 ∷ [], 3) ∷ (0 ∷ [], 4) ∷ []) ((1 ∷ [], 2) ∷ (0 ∷ [], 4) ∷ []))
    ∙ of_rest Five 1 (1 ∷ [], 3) _ _ (of_swap Five 1 (0 ∷ [], 4) (1 ∷ [], 2) ((0 ∷ [], 4) ∷ []))
    ∙ of_like Five 1 (1 ∷ []) 3 2 ((0 ∷ [], 4) ∷ (0 ∷ [], 4) ∷ [])
    ∙ of_drop Five 1 (1 ∷ []) 5 ((0 ∷ [], 4) ∷ (0 ∷ [], 4) ∷ []) refl
    ∙ of_like Five 1 (0 ∷ []) 4 4 [] ∙ of_modulo Five 1 (0 ∷ []) 8 3 [] refl

-- (x^2 * y + 2 * y)^[3] = x^6 * y^3 + 2 * y^3 over GF(3)
pub twist_over_three : frobenius_twist Three 2 1 (polynomial_of Three 2 ((2 ∷ 1 ∷ [], 1) ∷ (0 ∷ 1 ∷ [], 2) ∷ []))
    ≡ polynomial_of Three 2 ((6 ∷ 3 ∷ [], 1) ∷ (0 ∷ 3 ∷ [], 2) ∷ [])
twist_over_three = twist_of_terms Three 2 1 ((2 ∷ 1 ∷ [], 1) ∷ (0 ∷ 1 ∷ [], 2) ∷ [])

-- (x + y)^[4] = x^4 + y^4 over GF(2)
pub twist_by_four : frobenius_twist Two 2 2 (polynomial_of Two 2 x_plus_y) ≡ polynomial_of Two 2 ((4 ∷ 0 ∷ [], 1) ∷ (0 ∷ 4 ∷ [], 1) ∷ [])
twist_by_four = twist_of_terms Two 2 2 x_plus_y
