-- The ring modulo f, with the morphism that multiplies by f^[p]: one move kills everything
use Rattle.std.proofs.Common.{ℕ, zero, suc, ◌<◌, ◌≤◌, ◌≡◌, ◌∙◌, refl, sym, ap, subst, arith, List, [], ◌∷◌, length, get_or, true}
use Rattle.fm_gfp.specs.declared.prime.Prime.{Prime}
use Rattle.fm_gfp.specs.declared.prime.Prime.TheVariants.{Two}
use Rattle.fm_algebra.specs.Polynomials.{Polynomial, polynomial_one, polynomial_product, frobenius_twist}
use Rattle.fm_algebra.specs.PolynomialMatrices.{PolynomialMatrix, HasShape, matrix_product, matrix_twist, InImage, GeneratesPreimage}
use Rattle.fm_algebra.proofs.Concrete.{polynomials_frobenius}
use Rattle.fm_limit.specs.ResolvedIdeal.{matrix_at}
use Rattle.fm_limit.specs.Facts.{ColumnsInImage, IsFirstRepeat}
use Rattle.fm_limit.specs.SmallIdeals.{one_entry}
use Rattle.fm_limit.specs.SmallModules.{ring_modulo}
use Rattle.fm_limit.specs.GivenModules.{ModuleFacts}
use Rattle.fm_limit.specs.LimitOf.{module_limit, system_from}
use Rattle.fm_limit.specs.SystemFacts.{ZeroHolds}
use Rattle.fm_limit.proofs.Principal.{one_fits, x}
use Rattle.fm_limit.proofs.PrincipalFacts.{product_one, twist_one, unit_one, image_one, preimage_generates, product_one_left, no_unit}
use Rattle.fm_limit.proofs.GivenSystems.{module_facts}
use Rattle.fm_limit.proofs.SystemVerdicts.{zero_verdict}

module _ (p : Prime) (n : ℕ) (f : Polynomial p n) where
  abbrev one : Polynomial p n
  one = polynomial_one p n

  abbrev g : Polynomial p n
  g = frobenius_twist p n 1 f

  abbrev Ks : List (PolynomialMatrix p n)
  Ks = one_entry p n f ∷ one_entry p n one ∷ one_entry p n one ∷ []

  -- the one column of (b) is a multiple of a
  column_in : (a b : Polynomial p n) → ((y : Polynomial p n) × (polynomial_product p n a y ≡ b)) → ColumnsInImage p n (one_entry p n a) (one_entry p n b)
  column_in a b h c d = let z : zero ≡ c = omega arith in subst (λ c. InImage p n (one_entry p n a) (get_or ((b ∷ []) ∷ []) c [])) z ((image_one p n a b).1 h)

  one_twisted : frobenius_twist p n 1 one ≡ one
  unfolding polynomial_one
  one_twisted = (polynomials_frobenius p n).twist_one 1

  first_step : GeneratesPreimage p n (one_entry p n one) (one_entry p n g) (matrix_twist p n 1 (one_entry p n f))
  first_step =
      subst (λ B. GeneratesPreimage p n (one_entry p n one) (one_entry p n g) B) (sym (twist_one p n 1 f))
      (preimage_generates p n g one g (λ z. ((λ h. (z, product_one_left p n z)), (λ h. (z, refl)))))

  second_step : GeneratesPreimage p n (one_entry p n one) (one_entry p n g) (matrix_twist p n 1 (one_entry p n one))
  second_step =
      subst (λ B. GeneratesPreimage p n (one_entry p n one) (one_entry p n g) B) (sym (twist_one p n 1 one ∙ ap (λ y. one_entry p n y) one_twisted))
      (preimage_generates p n g one one (λ z. ((λ h. (z, product_one_left p n z)), (λ h. (polynomial_product p n g z, product_one_left p n (polynomial_product p n g z))))))

  three : (P : ℕ → Type 0) → P 0 → P 1 → P 2 → (s : ℕ) → s ≤ 2 → P s
  three P a b c zero h = a
  three P a b c (suc zero) h = b
  three P a b c (suc (suc zero)) h = c
  three P a b c (suc (suc (suc s))) h = absurd (omega arith)

  two : (P : ℕ → Type 0) → P 0 → P 1 → (s : ℕ) → s < 2 → P s
  two P a b zero h = a
  two P a b (suc zero) h = b
  two P a b (suc (suc s)) h = absurd (omega arith)

  pub modulo_facts : ModuleFacts p n (ring_modulo p n f) Ks 1
  unfolding matrix_at
  modulo_facts = record {
    given = record {
      relations_fit = one_fits p n f;
      morphism_fits = one_fits p n g;
      morphism = subst (λ A. ColumnsInImage p n A (matrix_product p n (one_entry p n g) (one_entry p n f))) (sym (twist_one p n 1 f)) (subst (λ B. ColumnsInImage p n (one_entry p n g) B) (sym (product_one p n g f)) (column_in g (polynomial_product p n g f) (f, refl)));
    };
    begins = refl;
    chain = record {
      fits = three (λ s. HasShape p n 1 (length (matrix_at p n Ks s).columns) (matrix_at p n Ks s)) (one_fits p n f) (one_fits p n one) (one_fits p n one);
      step = two (λ s. GeneratesPreimage p n (matrix_at p n Ks (suc s)) (one_entry p n g) (matrix_twist p n 1 (matrix_at p n Ks s))) first_step second_step;
    };
    repeats = column_in one one (one, product_one_left p n one);
  }

  -- the limit is zero, and one move is the least number that is enough, unless f is a unit
  pub modulo_verdict : ¬ ((y : Polynomial p n) × (polynomial_product p n f y ≡ one)) → ZeroHolds p n (system_from p n (module_limit (ring_modulo p n f))) true 1
  unfolding matrix_at
  modulo_verdict proper =
      zero_verdict p n (module_facts p n modulo_facts) first true ((λ h. subst (λ B. ColumnsInImage p n (one_entry p n one) B) (sym (unit_one p n)) (column_in one one (one, product_one_left p n one))), (λ h. refl))
    where
      first : IsFirstRepeat p n Ks 1
      first s b h =
          let z : s ≡ zero = omega arith in
          let k : ColumnsInImage p n (one_entry p n f) (one_entry p n one) = subst (λ s. ColumnsInImage p n (matrix_at p n Ks s) (matrix_at p n Ks (suc s))) z h in
          proper ((image_one p n f one).0 (k 0 (omega arith)))

-- over GF(2)[x], the ring modulo x with the morphism x^2
pub x_module : ZeroHolds Two 1 (system_from Two 1 (module_limit (ring_modulo Two 1 x))) true 1
x_module = modulo_verdict Two 1 x (λ h. no_unit h.0 h.1)
