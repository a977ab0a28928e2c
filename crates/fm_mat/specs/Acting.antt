-- A matrix times a vector, column by column.
use Rattle.std.specs.Prelude.{ℕ, Bool, List, [], ◌∷◌}
use Rattle.std.specs.List.{list_all}
use Rattle.fm_gfp.specs.declared.prime.Prime.{Prime}
use Rattle.fm_algebra.specs.Polynomials.{Polynomial, polynomial_sum, polynomial_product}
use Rattle.fm_mat.specs.Bounds.{product_fits}

module _ (p : Prime) (n : ℕ) where
  -- s plus f times g, entry by entry
  abbrev pub with_product : List (Polynomial p n) → List (Polynomial p n) → Polynomial p n → List (Polynomial p n)
  with_product [] fs g = []
  with_product (s ∷ ss) [] g = []
  with_product (s ∷ ss) (f ∷ fs) g = polynomial_sum p n s (polynomial_product p n f g) ∷ with_product ss fs g

  -- s plus each column times the entry with its number
  abbrev pub acted : List (Polynomial p n) → List (List (Polynomial p n)) → List (Polynomial p n) → List (Polynomial p n)
  acted s [] ws = s
  acted s (c ∷ cs) [] = s
  acted s (c ∷ cs) (g ∷ gs) = acted (with_product s c g) cs gs

  -- each entry times g is within the bound
  abbrev pub entries_fit_with : List (Polynomial p n) → Polynomial p n → Bool
  entries_fit_with fs g = list_all (λ f. product_fits p n f g) fs
