-- Tables of entries, column by column.
use Rattle.std.proofs.Common.{mul-zero, ℕ, zero as nought, suc, ◌*◌, ◌/◌, ◌%◌, ◌<◌, ◌≡◌, cond, eqb, List, [], ◌∷◌, length, get_or, sym, ap, ◌∙◌, subst, arith}
use Rattle.std.proofs.lemmas.Bool.{ne_eqb}
use Rattle.std.proofs.lemmas.Nat.{mod_below}
use Rattle.fm_algebra.specs.Matrix.{component, entry, listed, table, scalar_matrix}
use Rattle.fm_algebra.specs.Polynomials.{Polynomial, polynomials, polynomial_of, polynomial_one, polynomial_zero}
use Rattle.fm_algebra.specs.PolynomialMatrices.{matrix_scalar}
use Rattle.fm_limit.specs.Facts.{unit_column, diagonal_blocks}
use Rattle.fm_mat.specs.Matrices.{MatrixValue, AreColumns, column_meaning, columns_meaning, matrix_meaning}
use Rattle.fm_mat.proofs.Steps.{map_length}
use Rattle.fm_poly.specs.declared.ring.Ring.{Ring}
use Rattle.fm_poly.specs.declared.term.Term.{Term}
use Rattle.fm_poly.specs.Polys.{PolyValue, meaning}
use Rattle.fm_vec.specs.Components.{AreOver}

-- zero beside the place of f
pub other_place : (r : Ring) (f : Polynomial r.prime r.vars) (h : PolyValue) (i j : ℕ) → h.terms ≡ [] → (i ≡ j → ⊥) → meaning r h.terms ≡ cond (eqb i j) f (polynomial_zero r.prime r.vars)
unfolding meaning polynomial_of
other_place r f h i j none apart = ap (meaning r) none ∙ sym (ap (λ b. cond b f (polynomial_zero r.prime r.vars)) (ne_eqb i j apart))

module _ (r : Ring) where
  abbrev zero : Polynomial r.prime r.vars
  zero = polynomial_zero r.prime r.vars

  pub scalar_is : (f : Polynomial r.prime r.vars) (n : ℕ) (m : MatrixValue) → m.rows ≡ n → columns_meaning r m.columns ≡ listed n (λ j. listed n (λ i. cond (eqb i j) f zero))
      → matrix_meaning r m ≡ matrix_scalar r.prime r.vars f n
  unfolding matrix_scalar scalar_matrix table polynomial_zero
  scalar_is f n m rows columns = λ t. record { rows = rows t; columns = columns t }

  pub unit_column_is : (g : ℕ) (m : MatrixValue) → m.rows ≡ g * g → columns_meaning r m.columns ≡ listed (g * g) (λ i. cond (eqb (i / g) (i % g)) (polynomial_one r.prime r.vars) zero) ∷ []
      → matrix_meaning r m ≡ unit_column r.prime r.vars g
  unfolding unit_column table polynomial_one polynomial_zero listed
  unit_column_is g m rows columns = λ t. record { rows = rows t; columns = columns t }

  pub blocks_are : (K m : MatrixValue) → m.rows ≡ K.rows * K.rows
      → columns_meaning r m.columns ≡ listed (K.rows * length K.columns) (λ j. listed (K.rows * K.rows) (λ i. cond (eqb (i / K.rows) (j / length K.columns))
      (entry (polynomials r.prime r.vars) (matrix_meaning r K) (i % K.rows) (j % length K.columns)) zero))
      → matrix_meaning r m ≡ diagonal_blocks r.prime r.vars (matrix_meaning r K)
  unfolding diagonal_blocks table polynomial_zero
  blocks_are K m rows columns =
      let p = r.prime in
      let n = r.vars in
      let g = K.rows in
      (λ t. record { rows = rows t; columns = columns t })
      ∙ ap (λ k. table (polynomials p n) (g * g) (g * k) (λ i j. cond (eqb (i / g) (j / k)) (entry (polynomials p n) (matrix_meaning r K) (i % g) (j % k)) (polynomials p n).zero))
      (sym (map_length (column_meaning r) K.columns))

  -- the entries of a column of K
  pub column_entries : (g : ℕ) (cs : List (List PolyValue)) (j : ℕ) (d c : List PolyValue) → j < length cs → c ≡ get_or cs j d
      → (i : ℕ) → component (polynomials r.prime r.vars) (column_meaning r c) i ≡ entry (polynomials r.prime r.vars) (record { rows = g; columns = columns_meaning r cs }) i j
  unfolding component entry
  column_entries g cs j d c less is i = ap (λ v. get_or v i (polynomials r.prime r.vars).zero) (there cs j c less is)
    where
      there : (cs : List (List PolyValue)) (j : ℕ) (c : List PolyValue) → j < length cs → c ≡ get_or cs j d → column_meaning r c ≡ get_or (columns_meaning r cs) j []
      there [] j c less is = absurd (omega (arith, less))
      there (e ∷ cs) nought c less is = ap (column_meaning r) is
      there (e ∷ cs) (suc j) c less is = there cs j c (omega (arith, less)) is

  pub block_entries : (g : ℕ) (cs : List (List PolyValue)) (j block : ℕ) (d c : List PolyValue) → j < length cs → c ≡ get_or cs j d
      → listed (g * g) (λ i. cond (eqb (i / g) block) (component (polynomials r.prime r.vars) (column_meaning r c) (i % g)) zero)
      ≡ listed (g * g) (λ i. cond (eqb (i / g) block) (entry (polynomials r.prime r.vars) (record { rows = g; columns = columns_meaning r cs }) (i % g) j) zero)
  block_entries g cs j block d c less is = λ t. listed (g * g) (λ i. cond (eqb (i / g) block) (column_entries g cs j d c less is (i % g) t) zero)

  pub column_at : (g : ℕ) (cs : List (List PolyValue)) (j : ℕ) (d c : List PolyValue) → AreColumns r g cs → j < length cs → c ≡ get_or cs j d → AreOver r c × (length c ≡ g)
  column_at g [] j d c a less is = absurd (omega (arith, less))
  column_at g (e ∷ cs) nought d c a less is = (subst (AreOver r) (sym is) a.0, ap length is ∙ a.1)
  column_at g (e ∷ cs) (suc j) d c a less is = column_at g cs j d c a.2 (omega (arith, less)) is

-- a polynomial in its place, over a ring that has another name
pub placed_at : (s r : Ring) → s ≡ r → (ts us : List Term) (i j : ℕ) → meaning s us ≡ cond (eqb i j) (meaning s ts) (polynomial_zero s.prime s.vars) → meaning r us ≡ cond (eqb i j) (meaning r ts) (polynomial_zero r.prime r.vars)
placed_at s r same ts us i j h = subst (λ (x : Ring). meaning x us ≡ cond (eqb i j) (meaning x ts) (polynomial_zero x.prime x.vars)) same h

-- a place in a block
pub below : (g i n : ℕ) → n ≡ g → i < g * g → i % g < n
below nought i n long h = absurd (omega (arith, h))
below (suc g) i n long h = subst (λ x. i % suc g < x) (sym long) (mod_below i (suc g) (omega arith))

-- the blocks as they were built, for other names of the parts of K
abbrev pub block_table : (r : Ring) (g wide : ℕ) → List (List PolyValue) → List (List (Polynomial r.prime r.vars))
block_table r g wide cs = listed (g * wide) (λ j. listed (g * g) (λ i. cond (eqb (i / g) (j / wide)) (entry (polynomials r.prime r.vars) (record { rows = g; columns = columns_meaning r cs }) (i % g) (j % wide)) (polynomial_zero r.prime r.vars)))

pub blocks_at : (K m : MatrixValue) (s : Ring) (g wide : ℕ) (cs out : List (List PolyValue)) → s ≡ K.ring → g ≡ K.rows → wide ≡ length K.columns → cs ≡ K.columns → m.rows ≡ g * g → m.columns ≡ out
    → columns_meaning s out ≡ block_table s g wide cs → matrix_meaning K.ring m ≡ diagonal_blocks K.ring.prime K.ring.vars (matrix_meaning K.ring K)
blocks_at K m s g wide cs out of_k high long same rows columns value =
    let r = K.ring in
    blocks_are r K m (rows ∙ ap (λ n. n * n) high)
    (ap (columns_meaning r) columns ∙ subst (λ (x : Ring). columns_meaning x out ≡ block_table x g wide cs) of_k value
    ∙ (λ t. block_table r (high t) (long t) (same t)))

pub below_width : (g wide j n : ℕ) → n ≡ wide → j < g * wide → j % wide < n
below_width g nought j n long h = let none : g * nought ≡ nought = mul-zero g in absurd (omega (arith, h, none))
below_width g (suc wide) j n long h = subst (λ x. j % suc wide < x) (sym long) (mod_below j (suc wide) (omega arith))
