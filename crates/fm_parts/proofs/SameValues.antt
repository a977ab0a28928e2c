-- What the tests of values tell.
use Rattle.std.proofs.Common.{◌≡◌, ℕ, ◌<◌, Bool, true, false, ◌&&◌, nat_eq, List, [], ◌∷◌, length, get_or, Option, Some, None, refl, sym, ap, ap₂, ◌∙◌, subst}
use Rattle.std.specs.List.{list_all}
use lib.Pointwise.{pointwise}
use Rattle.std.proofs.lemmas.Bool.{and_parts, and_from, eqb-true, eq-eqb, false≢true}
use Rattle.fm_algebra.specs.Matrix.{entry, component}
use Rattle.fm_algebra.specs.Polynomials.{Polynomial, polynomials, polynomial_of, polynomial_zero}
use Rattle.fm_algebra.specs.PolynomialMatrices.{HasShape, matrix_zero}
use Rattle.fm_algebra.proofs.Tables.{matrix_ext, zero_shaped, entry_table, get_or-listed}
use Rattle.fm_words.specs.Options.{where_so}
use Rattle.fm_poly.specs.declared.ring.Ring.{Ring}
use Rattle.fm_term.specs.declared.vterm.VTerm.{VTerm}
use Rattle.fm_term.specs.Meanings.{terms_in, vector_of}
use Rattle.fm_graphs.specs.Listing.{VectorOf, terms_of}
use Rattle.fm_graphs.specs.Graphs.{MatrixOf}
use Rattle.fm_graphs.specs.Trims.{is_zero}
use Rattle.fm_graphs.proofs.Listing.{terms_mean}
use Rattle.fm_report.specs.Parts.{Part, part_value}
use Rattle.fm_parts.specs.Values.{same_term, is_within_bound, value_of, same_vector, same_matrix, is_zero_matrix}
use Rattle.fm_parts.proofs.Shapes.{all_at}

pub pointwise_equal : {A : Type 0} (test : A → A → Bool) → ((x y : A) → test x y ≡ true → x ≡ y) → (xs ys : List A) → pointwise test xs ys ≡ true → xs ≡ ys
pointwise_equal test same [] [] e = refl
pointwise_equal test same [] (y ∷ ys) e = absurd (false≢true e)
pointwise_equal test same (x ∷ xs) [] e = absurd (false≢true e)
pointwise_equal test same (x ∷ xs) (y ∷ ys) e =
    let h = and_parts (test x y) (pointwise test xs ys) e in ap₂ (λ a b. a ∷ b) (same x y h.0) (pointwise_equal test same xs ys h.1)

terms_equal : (t u : VTerm) → same_term t u ≡ true → t ≡ u
terms_equal t u e =
    let h = and_parts (nat_eq t.component u.component) (pointwise nat_eq t.mono u.mono && nat_eq t.coeff u.coeff) e in
    let k = and_parts (pointwise nat_eq t.mono u.mono) (nat_eq t.coeff u.coeff) h.1 in
    let a = eqb-true t.component u.component h.0 in
    let b = pointwise_equal nat_eq eqb-true t.mono u.mono k.0 in
    let c = eqb-true t.coeff u.coeff k.1 in
    λ i. record { component = a i; mono = b i; coeff = c i }

module _ (r : Ring) where
  -- the value of a part is the matrix that it means
  pub value_is : (a : Part) (A : MatrixOf r) → value_of r a ≡ Some A → (is_within_bound r a ≡ true) × (part_value r a ≡ A)
  unfolding value_of
  value_is a A e = go (is_within_bound r a) refl e
    where
      go : (b : Bool) → is_within_bound r a ≡ b → where_so b (Some (part_value r a)) ≡ Some A → (is_within_bound r a ≡ true) × (part_value r a ≡ A)
      go true w h = (w, cc)
      go false w h = absurd (none h)
        where
          none : None ≡ Some A → ⊥
          none h = cc

  pub vectors_equal : (v w : VectorOf r) → same_vector r v w ≡ true → v ≡ w
  vectors_equal v w e =
      let h = and_parts (nat_eq (length v) (length w)) (pointwise same_term (terms_of r v) (terms_of r w)) e in
      sym (terms_mean r (length v) v refl) ∙ ap₂ (vector_of r.prime r.vars) (eqb-true (length v) (length w) h.0) (pointwise_equal same_term terms_equal (terms_of r v) (terms_of r w) h.1)
      ∙ terms_mean r (length w) w refl

  pub matrices_equal : (A B : MatrixOf r) → same_matrix r A B ≡ true → A ≡ B
  unfolding same_matrix
  matrices_equal A B e =
      let h = and_parts (nat_eq A.rows B.rows) (pointwise (same_vector r) A.columns B.columns) e in
      let a = eqb-true A.rows B.rows h.0 in
      let b = pointwise_equal (same_vector r) vectors_equal A.columns B.columns h.1 in
      λ i. record { rows = a i; columns = b i }

  -- ---- zeros
  zero_terms : (ts : List VTerm) → is_zero ts ≡ true → ts ≡ []
  zero_terms [] e = refl
  zero_terms (t ∷ ts) e = absurd (false≢true e)

  zero_component : (v : VectorOf r) (i : ℕ) → is_zero (terms_of r v) ≡ true → i < length v → get_or v i (polynomials r.prime r.vars).zero ≡ (polynomials r.prime r.vars).zero
  unfolding vector_of terms_in polynomial_of polynomial_zero
  zero_component v i e h =
      ap (λ x. get_or x i (polynomials r.prime r.vars).zero) (sym (terms_mean r (length v) v refl) ∙ ap (vector_of r.prime r.vars (length v)) (zero_terms (terms_of r v) e))
      ∙ get_or-listed (length v) i (polynomials r.prime r.vars).zero (λ j. polynomial_of r.prime r.vars []) h

  pub zeros_equal : (m n : ℕ) (A : MatrixOf r) → HasShape r.prime r.vars m n A → is_zero_matrix r A ≡ true → A ≡ matrix_zero r.prime r.vars m n
  unfolding HasShape matrix_zero Rattle.fm_algebra.specs.Matrix.zero_matrix is_zero_matrix entry
  zeros_equal m n A s e = matrix_ext (polynomials r.prime r.vars) m n A (matrix_zero r.prime r.vars m n) s (zero_shaped (polynomials r.prime r.vars) m n) (λ i j a b.
      zero_component (get_or A.columns j []) i (all_at (λ v. is_zero (terms_of r v)) A.columns j [] e (subst (λ x. j < x) (sym s.1) b)) (subst (λ x. i < x) (sym (s.2 j b)) a)
      ∙ sym (entry_table (polynomials r.prime r.vars) m n i j (λ i j. (polynomials r.prime r.vars).zero) a b))

-- ---- equal values pass the tests
pub pointwise_itself : {A : Type 0} (test : A → A → Bool) → ((x : A) → test x x ≡ true) → (xs : List A) → pointwise test xs xs ≡ true
pointwise_itself test same [] = refl
pointwise_itself test same (x ∷ xs) = and_from (test x x) (pointwise test xs xs) (same x) (pointwise_itself test same xs)

term_itself : (t : VTerm) → same_term t t ≡ true
term_itself t = and_from (nat_eq t.component t.component) (pointwise nat_eq t.mono t.mono && nat_eq t.coeff t.coeff) (eq-eqb t.component t.component refl)
    (and_from (pointwise nat_eq t.mono t.mono) (nat_eq t.coeff t.coeff) (pointwise_itself nat_eq (λ k. eq-eqb k k refl) t.mono) (eq-eqb t.coeff t.coeff refl))

pub matrix_itself : (r : Ring) (A : MatrixOf r) → same_matrix r A A ≡ true
unfolding same_matrix
matrix_itself r A = and_from (nat_eq A.rows A.rows) (pointwise (same_vector r) A.columns A.columns) (eq-eqb A.rows A.rows refl)
    (pointwise_itself (same_vector r) (λ v. and_from (nat_eq (length v) (length v)) (pointwise same_term (terms_of r v) (terms_of r v)) (eq-eqb (length v) (length v) refl) (pointwise_itself same_term term_itself (terms_of r v))) A.columns)
