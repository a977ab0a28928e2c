-- Which products and twists of matrices stay within the bound on exponents: each product of entries that the rule row by column
-- names counts, also one whose terms cancel in the sum.
use Rattle.std.specs.Prelude.{ℕ, ◌^◌, ◌&&◌, Bool, true, List, [], ◌∷◌}
use Rattle.std.specs.List.{list_all}
use Rattle.fm_tuple.specs.Tuple.{tuple_sum, tuple_multiple}
use Rattle.fm_gfp.specs.Primes.{prime_value}
use Rattle.fm_gfp.specs.declared.prime.Prime.{Prime}
use Rattle.fm_mono.specs.Bounded.{is_bounded}
use Rattle.fm_algebra.specs.Polynomials.{Polynomial}
use Rattle.fm_algebra.specs.PolyRing.{support}
use Rattle.fm_algebra.specs.PolynomialMatrices.{PolynomialMatrix}

module _ (p : Prime) (n : ℕ) where
  -- each term of f times each of g is within the bound
  abbrev pub product_fits : Polynomial p n → Polynomial p n → Bool
  product_fits f g = list_all (λ a. list_all (λ b. is_bounded (tuple_sum a b)) (support g)) (support f)

  -- so is each entry of a column times the entry of w with the column's number
  abbrev pub products_fit : List (List (Polynomial p n)) → List (Polynomial p n) → Bool
  products_fit [] w = true
  products_fit (c ∷ cs) [] = true
  products_fit (c ∷ cs) (g ∷ gs) = list_all (λ f. product_fits f g) c && products_fit cs gs

  -- the twist of each term of f by p^e is within the bound
  abbrev pub twist_fits : ℕ → Polynomial p n → Bool
  twist_fits e f = list_all (λ a. is_bounded (tuple_multiple (prime_value p ^ e) a)) (support f)

  abbrev pub entries_fit : ℕ → PolynomialMatrix p n → Bool
  entries_fit e A = list_all (λ c. list_all (twist_fits e) c) A.columns
