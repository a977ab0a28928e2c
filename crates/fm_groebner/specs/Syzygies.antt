-- The syzygies that a Gröbner basis of the graph of a matrix gives, in the order of its members, and what is shown by them: kernels,
-- preimages, and vectors outside an image (Adams and Loustaunau, An Introduction to Gröbner Bases, 1994, section 3.7).
use Rattle.std.specs.Prelude.{◌^◌, ◌≡◌, ℕ, ◌≤◌, Bool, true, if◌then◌else◌, nat_lt, List, [], ◌∷◌, ◌++◌, map, length, take, drop, Contains}
use Rattle.fm_gfp.specs.Primes.{prime_value}
use Rattle.fm_gfp.specs.declared.prime.Prime.{Prime}
use Rattle.fm_mono.specs.declared.order.Order.{Order}
use Rattle.fm_algebra.specs.Polynomials.{Polynomial}
use Rattle.fm_algebra.specs.PolynomialMatrices.{PolynomialMatrix, HasShape, matrix_product, matrix_zero, matrix_beside, matrix_above}
use Rattle.fm_term.specs.declared.vterm.VTerm.{VTerm}
use Rattle.fm_term.specs.Places.{TermDivides}
use Rattle.fm_term.specs.Falling.{IsFalling, AreFalling}
use Rattle.fm_term.specs.Multiples.{twisted}
use Rattle.fm_term.specs.Meanings.{vector_of, vectors_of}
use Rattle.fm_groebner.specs.Graphs.{IsGraphBasis, graph_rows, zero_vector}
use Rattle.fm_groebner.specs.Logs.{ReducesBy}

-- the first term stands below the first m components, or there is none: this upper block is zero
abbrev pub is_lower : ℕ → List VTerm → Bool
is_lower m [] = true
is_lower m (t ∷ ts) = nat_lt m t.component

-- the members whose upper block is zero, in their order
abbrev pub lower_members : ℕ → List (List VTerm) → List (List VTerm)
lower_members m [] = []
lower_members m (g ∷ gs) = if is_lower m g then g ∷ lower_members m gs else lower_members m gs

-- The rest ends in the upper block: its first term stands in one of the first m components, and no member's head divides it.
abbrev pub IsOutside : ℕ → List (List VTerm) → List VTerm → Type 0
IsOutside m members [] = ⊥
IsOutside m members (s ∷ ss) = (s.component ≤ m) × ((t : VTerm) (ts : List VTerm) → Contains members (t ∷ ts) → ¬ (TermDivides t s))

module _ (p : Prime) (n : ℕ) where
  -- the lower blocks of the members whose upper block is zero, as columns, in the order of the members
  abbrev pub syzygies : PolynomialMatrix p n → List (List VTerm) → PolynomialMatrix p n
  syzygies A members = record {
    rows = length A.columns;
    columns = map (λ g. drop A.rows (vector_of p n (graph_rows p n A) g)) (lower_members A.rows members);
  }

  -- the first a rows of a matrix
  abbrev pub first_rows : ℕ → PolynomialMatrix p n → PolynomialMatrix p n
  first_rows a S = record { rows = a; columns = map (take a) S.columns }

  -- the members are falling lists of terms, and a Gröbner basis of the graph of A
  pub record IsBasisOfGraph (o : Order) (A : PolynomialMatrix p n) (members : List (List VTerm)) : Type 0 where
    pub falling : AreFalling p n (graph_rows p n A) o members
    pub basis : IsGraphBasis p n o A (vectors_of p n (graph_rows p n A) members)

  -- What shows that C generates the kernel of A: A * C = 0, and the syzygies are C * W.
  pub record IsKernelShown (o : Order) (A C W : PolynomialMatrix p n) (members : List (List VTerm)) : Type 0 where
    pub fits : HasShape p n A.rows (length A.columns) A
    pub found_fits : HasShape p n (length A.columns) (length C.columns) C
    pub factor_fits : HasShape p n (length C.columns) (length W.columns) W
    pub completed : IsBasisOfGraph o A members
    pub vanishes : matrix_product p n A C ≡ matrix_zero p n A.rows (length C.columns)
    pub covers : syzygies A members ≡ matrix_product p n C W

  -- What shows that C generates all w with A * w in im B: [A | B] * (C above X) = 0, and the first rows of the syzygies of [A | B],
  -- as many as A has columns, are C * W.
  pub record IsPreimageShown (o : Order) (A B C X W : PolynomialMatrix p n) (members : List (List VTerm)) : Type 0 where
    pub fits : HasShape p n A.rows (length A.columns) A
    pub modulo_fits : HasShape p n A.rows (length B.columns) B
    pub found_fits : HasShape p n (length A.columns) (length C.columns) C
    pub rest_fits : HasShape p n (length B.columns) (length C.columns) X
    pub factor_fits : HasShape p n (length C.columns) (length W.columns) W
    pub completed : IsBasisOfGraph o (matrix_beside p n A B) members
    pub vanishes : matrix_product p n (matrix_beside p n A B) (matrix_above p n C X) ≡ matrix_zero p n A.rows (length C.columns)
    pub covers : first_rows (length A.columns) (syzygies (matrix_beside p n A B) members) ≡ matrix_product p n C W

  -- What shows that v is not in im A^[q], for q = p ^ e: (v; 0) is reduced by the members twisted e times, to a rest that ends outside.
  pub record IsOutsideShown (o : Order) (bound : List ℕ → Bool) (e : ℕ) (A : PolynomialMatrix p n) (members : List (List VTerm))
      (v : List (Polynomial p n)) (by : List ℕ) (t r : List VTerm) : Type 0 where
    pub completed : IsBasisOfGraph o A members
    pub shape : length v ≡ A.rows
    pub falls : IsFalling p n (graph_rows p n A) o t
    pub is : vector_of p n (graph_rows p n A) t ≡ v ++ zero_vector p n (length A.columns)
    pub reduces : ReducesBy p n (graph_rows p n A) o bound (map (twisted (prime_value p ^ e)) members) by t r
    pub outside : IsOutside A.rows (map (twisted (prime_value p ^ e)) members) r
