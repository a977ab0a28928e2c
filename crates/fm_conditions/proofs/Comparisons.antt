-- Comparisons of monomials, vectors and matrices by the program.
use Rattle.std.proofs.Common.{◌≡◌, ℕ, ◌-◌, Bool, true, false, ◌&&◌, nat_eq, List, [], ◌∷◌, ◌++◌, length, refl, sym, ap, ap₂, subst, arith}
use Rattle.std.specs.Prelude.{replicate}
use Rattle.std.specs.List.{sum}
use lib.Pointwise.{pointwise}
use Rattle.std.proofs.lemmas.Bool.{and_parts, and_from, eqb-true, eq-eqb}
use Rattle.std.specs.List.{list_all}
use Rattle.std.specs.Prelude.{Result, IfOk}
use Rattle.fm_poly.specs.declared.ring.Ring.{Ring}
use Rattle.fm_poly.specs.Polys.{PolyValue}
use Rattle.fm_graphs.specs.Listing.{terms_of}
use Rattle.fm_graphs.specs.Trims.{is_zero}
use Rattle.fm_graphs.specs.Graphs.{MatrixOf}
use Rattle.fm_mat.specs.Matrices.{MatrixValue, columns_meaning, matrix_meaning}
use Rattle.fm_parts.specs.Values.{same_vector, same_matrix, is_zero_matrix}
use Rattle.fm_parts.proofs.SameValues.{pointwise_equal, pointwise_itself}

-- tests that hold together are equal
pub both_or_none : (a b : Bool) → (a ≡ true → b ≡ true) → (b ≡ true → a ≡ true) → a ≡ b
both_or_none true b f g = sym (f refl)
both_or_none false true f g = g refl
both_or_none false false f g = refl

-- ---- monomials, which are kept with zeros behind them
first_equal : (a b u v : List ℕ) → length a ≡ length b → a ++ u ≡ b ++ v → a ≡ b
first_equal [] [] u v l e = refl
first_equal [] (y ∷ b) u v l e = absurd (omega (arith, l))
first_equal (x ∷ a) [] u v l e = absurd (omega (arith, l))
first_equal (x ∷ a) (y ∷ b) u v l e =
    let head : x ≡ y = cc in
    let tail : a ++ u ≡ b ++ v = cc in
    ap₂ (λ z c. z ∷ c) head (first_equal a b u v (omega (arith, l)) tail)

abbrev padded : List ℕ → List ℕ
padded a = a ++ replicate (8 - length a) 0

abbrev same_packed : List ℕ → List ℕ → Bool
same_packed a b = pointwise nat_eq (padded a) (padded b) && (nat_eq (sum a) (sum b) && nat_eq (length a) (length b))

nats_equal : (a b : List ℕ) → pointwise nat_eq a b ≡ true → a ≡ b
nats_equal a b e = pointwise_equal nat_eq eqb-true a b e

nats_itself : (a : List ℕ) → pointwise nat_eq a a ≡ true
nats_itself a = pointwise_itself nat_eq (λ k. eq-eqb k k refl) a

packed_itself : (a : List ℕ) → same_packed a a ≡ true
packed_itself a =
    and_from (pointwise nat_eq (padded a) (padded a)) (nat_eq (sum a) (sum a) && nat_eq (length a) (length a)) (nats_itself (padded a))
    (and_from (nat_eq (sum a) (sum a)) (nat_eq (length a) (length a)) (eq-eqb (sum a) (sum a) refl) (eq-eqb (length a) (length a) refl))

packed_equal : (a b : List ℕ) → same_packed a b ≡ true → a ≡ b
packed_equal a b e =
    let h = and_parts (pointwise nat_eq (padded a) (padded b)) (nat_eq (sum a) (sum b) && nat_eq (length a) (length b)) e in
    let k = and_parts (nat_eq (sum a) (sum b)) (nat_eq (length a) (length b)) h.1 in
    first_equal a b (replicate (8 - length a) 0) (replicate (8 - length b) 0) (eqb-true (length a) (length b) k.1) (nats_equal (padded a) (padded b) h.0)

pub packed_same : (a b : List ℕ) → same_packed a b ≡ pointwise nat_eq a b
packed_same a b = both_or_none (same_packed a b) (pointwise nat_eq a b)
    (λ e. subst (λ c. pointwise nat_eq a c ≡ true) (packed_equal a b e) (nats_itself a))
    (λ e. subst (λ c. same_packed a c ≡ true) (nats_equal a b e) (packed_itself a))

-- ---- matrices, by their columns
module _ (r : Ring) (A B : MatrixValue) where
  abbrev means : MatrixValue → MatrixOf r
  means C = matrix_meaning r C

  pub rows_differ : ¬ (A.rows ≡ B.rows) → false ≡ same_matrix r (means A) (means B)
  unfolding same_matrix
  rows_differ n = go (nat_eq A.rows B.rows) refl
    where
      go : (b : Bool) → nat_eq A.rows B.rows ≡ b → false ≡ (nat_eq A.rows B.rows && pointwise (same_vector r) (means A).columns (means B).columns)
      go true e = absurd (n (eqb-true A.rows B.rows e))
      go false e = ap (λ b. b && pointwise (same_vector r) (means A).columns (means B).columns) (sym e)

  pub columns_compared : {E : Type 0} (s : Ring) (cs ds : List (List PolyValue)) (x : Result Bool E) → s ≡ r → A.rows ≡ B.rows → cs ≡ A.columns → ds ≡ B.columns
      → IfOk x (λ same. same ≡ pointwise (same_vector s) (columns_meaning s cs) (columns_meaning s ds)) → IfOk x (λ same. same ≡ same_matrix r (means A) (means B))
  unfolding same_matrix
  columns_compared s cs ds x e h p q k =
      subst (λ b. IfOk x (λ same. same ≡ (b && pointwise (same_vector r) (means A).columns (means B).columns))) (sym (eq-eqb A.rows B.rows h))
      (subst (λ vs. IfOk x (λ same. same ≡ pointwise (same_vector r) (means A).columns (columns_meaning r vs))) q
      (subst (λ vs. IfOk x (λ same. same ≡ pointwise (same_vector r) (columns_meaning r vs) (columns_meaning r ds))) p
      (subst (λ (s : Ring). IfOk x (λ same. same ≡ pointwise (same_vector s) (columns_meaning s cs) (columns_meaning s ds))) e k)))

  pub zeros_compared : {E : Type 0} (s : Ring) (cs : List (List PolyValue)) (x : Result Bool E) → s ≡ r → cs ≡ A.columns
      → IfOk x (λ zero. zero ≡ list_all (λ v. is_zero (terms_of s v)) (columns_meaning s cs)) → IfOk x (λ zero. zero ≡ is_zero_matrix r (means A))
  unfolding is_zero_matrix
  zeros_compared s cs x e p k =
      subst (λ vs. IfOk x (λ zero. zero ≡ list_all (λ v. is_zero (terms_of r v)) (columns_meaning r vs))) p
      (subst (λ (s : Ring). IfOk x (λ zero. zero ≡ list_all (λ v. is_zero (terms_of s v)) (columns_meaning s cs))) e k)
