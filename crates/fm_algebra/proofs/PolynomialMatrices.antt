-- The laws of vectors and matrices over GF(p)[x1 .. xn]
use Rattle.std.proofs.Common.{ℕ, ◌+◌, ◌<◌, ◌≡◌, ◌↔◌, ◌^◌, List, length, get_or}
use Rattle.fm_gfp.specs.declared.prime.Prime.{Prime}
use Rattle.fm_algebra.specs.Polynomials.{Polynomial, polynomials, frobenius_twist}
use Rattle.fm_algebra.specs.PolynomialMatrices.{PolynomialMatrix, HasShape, matrix_product, vector_product, matrix_sum, matrix_negative, matrix_zero, matrix_unit, matrix_scalar, matrix_column, matrix_transpose, matrix_beside, matrix_above, matrix_picked, matrix_twist, vector_twist, InImage, InKernel, InPreimage, GeneratesKernel, GeneratesPreimage}
use Rattle.fm_algebra.proofs.Concrete.{polynomials_laws, polynomials_frobenius, polynomials_sliced, q_positive}
use Rattle.fm_gfp.specs.Primes.{prime_value}
use Rattle.fm_algebra.proofs.DigitsListed.{tuples_listed}
use Rattle.fm_algebra.proofs.ListImages.{list_equations, list_flat, list_kernel_twist, list_member_twist, list_preimage_twist, turned}
use Rattle.fm_algebra.proofs.MatrixLaws.{apply_product, image_of_picked, image_of_product, joined_stacked, kernel_of_product, matrix_sum_assoc, matrix_sum_comm, matrix_sum_negative, matrix_sum_zero, product_assoc, product_column, product_sum, product_unit, scalar_commutes, sum_product, transpose_joined, transpose_product, transpose_sum, transpose_transpose, twist_by_none, twist_of_joined, twist_of_product, twist_of_stacked, twist_of_sum, twist_of_transpose, twist_of_twist, twist_of_unit, unit_product}

pub product_associative : (p : Prime) (n : ℕ) (r k l c : ℕ) (A B C : PolynomialMatrix p n) → HasShape p n r k A → HasShape p n k l B → HasShape p n l c C → matrix_product p n (matrix_product p n A B) C ≡ matrix_product p n A (matrix_product p n B C)
unfolding HasShape matrix_product
product_associative p n r k l c A B C = product_assoc (polynomials_laws p n) r k l c A B C

pub product_unit_left : (p : Prime) (n : ℕ) (r c : ℕ) (A : PolynomialMatrix p n) → HasShape p n r c A → matrix_product p n (matrix_unit p n r) A ≡ A
unfolding HasShape matrix_product matrix_unit
product_unit_left p n r c A = unit_product (polynomials_laws p n) r c A

pub product_unit_right : (p : Prime) (n : ℕ) (r c : ℕ) (A : PolynomialMatrix p n) → HasShape p n r c A → matrix_product p n A (matrix_unit p n c) ≡ A
unfolding HasShape matrix_product matrix_unit
product_unit_right p n r c A = product_unit (polynomials_laws p n) r c A

pub sum_commutative : (p : Prime) (n : ℕ) (r c : ℕ) (A B : PolynomialMatrix p n) → HasShape p n r c A → HasShape p n r c B → matrix_sum p n A B ≡ matrix_sum p n B A
unfolding HasShape matrix_sum
sum_commutative p n r c A B = matrix_sum_comm (polynomials_laws p n) r c A B

pub sum_associative : (p : Prime) (n : ℕ) (r c : ℕ) (A B C : PolynomialMatrix p n) → HasShape p n r c A → HasShape p n r c B → HasShape p n r c C → matrix_sum p n (matrix_sum p n A B) C ≡ matrix_sum p n A (matrix_sum p n B C)
unfolding HasShape matrix_sum
sum_associative p n r c A B C = matrix_sum_assoc (polynomials_laws p n) r c A B C

pub sum_neutral : (p : Prime) (n : ℕ) (r c : ℕ) (A : PolynomialMatrix p n) → HasShape p n r c A → matrix_sum p n A (matrix_zero p n r c) ≡ A
unfolding HasShape matrix_sum matrix_zero
sum_neutral p n r c A = matrix_sum_zero (polynomials_laws p n) r c A

pub sum_inverse : (p : Prime) (n : ℕ) (r c : ℕ) (A : PolynomialMatrix p n) → HasShape p n r c A → matrix_sum p n A (matrix_negative p n A) ≡ matrix_zero p n r c
unfolding HasShape matrix_sum matrix_negative matrix_zero
sum_inverse p n r c A = matrix_sum_negative (polynomials_laws p n) r c A

pub distribute_left : (p : Prime) (n : ℕ) (r k c : ℕ) (A B C : PolynomialMatrix p n) → HasShape p n r k A → HasShape p n k c B → HasShape p n k c C → matrix_product p n A (matrix_sum p n B C) ≡ matrix_sum p n (matrix_product p n A B) (matrix_product p n A C)
unfolding HasShape matrix_product matrix_sum
distribute_left p n r k c A B C = product_sum (polynomials_laws p n) r k c A B C

pub distribute_right : (p : Prime) (n : ℕ) (r k c : ℕ) (A B C : PolynomialMatrix p n) → HasShape p n r k A → HasShape p n r k B → HasShape p n k c C → matrix_product p n (matrix_sum p n A B) C ≡ matrix_sum p n (matrix_product p n A C) (matrix_product p n B C)
unfolding HasShape matrix_product matrix_sum
distribute_right p n r k c A B C = sum_product (polynomials_laws p n) r k c A B C

pub distribute_scalar : (p : Prime) (n : ℕ) (f : Polynomial p n) (r c : ℕ) (A : PolynomialMatrix p n) → HasShape p n r c A → matrix_product p n (matrix_scalar p n f r) A ≡ matrix_product p n A (matrix_scalar p n f c)
unfolding HasShape matrix_product matrix_scalar
distribute_scalar p n f r c A = scalar_commutes (polynomials_laws p n) f r c A

pub transpose_law_twice : (p : Prime) (n : ℕ) (r c : ℕ) (A : PolynomialMatrix p n) → HasShape p n r c A → matrix_transpose p n (matrix_transpose p n A) ≡ A
unfolding HasShape matrix_transpose
transpose_law_twice p n r c A = transpose_transpose (polynomials_laws p n) r c A

pub transpose_law_sum : (p : Prime) (n : ℕ) (r c : ℕ) (A B : PolynomialMatrix p n) → HasShape p n r c A → HasShape p n r c B → matrix_transpose p n (matrix_sum p n A B) ≡ matrix_sum p n (matrix_transpose p n A) (matrix_transpose p n B)
unfolding HasShape matrix_transpose matrix_sum
transpose_law_sum p n r c A B = transpose_sum (polynomials_laws p n) r c A B

pub transpose_law_product : (p : Prime) (n : ℕ) (r k c : ℕ) (A B : PolynomialMatrix p n) → HasShape p n r k A → HasShape p n k c B → matrix_transpose p n (matrix_product p n A B) ≡ matrix_product p n (matrix_transpose p n B) (matrix_transpose p n A)
unfolding HasShape matrix_transpose matrix_product
transpose_law_product p n r k c A B = transpose_product (polynomials_laws p n) r k c A B

pub transpose_law_beside : (p : Prime) (n : ℕ) (r k c : ℕ) (A B : PolynomialMatrix p n) → HasShape p n r k A → HasShape p n r c B → matrix_transpose p n (matrix_beside p n A B) ≡ matrix_above p n (matrix_transpose p n A) (matrix_transpose p n B)
unfolding HasShape matrix_transpose matrix_beside matrix_above
transpose_law_beside p n r k c A B = transpose_joined (polynomials_laws p n) r k c A B

pub joined : (p : Prime) (n : ℕ) (r k l c : ℕ) (A B X Y : PolynomialMatrix p n) → HasShape p n r k A → HasShape p n r l B → HasShape p n k c X → HasShape p n l c Y → matrix_product p n (matrix_beside p n A B) (matrix_above p n X Y) ≡ matrix_sum p n (matrix_product p n A X) (matrix_product p n B Y)
unfolding HasShape matrix_product matrix_beside matrix_above matrix_sum
joined p n r k l c A B X Y = joined_stacked (polynomials_laws p n) r k l c A B X Y

pub act_product : (p : Prime) (n : ℕ) (r k c : ℕ) (A B : PolynomialMatrix p n) (w : List (Polynomial p n)) → HasShape p n r k A → HasShape p n k c B → length w ≡ c → vector_product p n (matrix_product p n A B) w ≡ vector_product p n A (vector_product p n B w)
unfolding HasShape vector_product matrix_product
act_product p n r k c A B w = apply_product (polynomials_laws p n) r k c A B w

pub act_column : (p : Prime) (n : ℕ) (r c : ℕ) (A : PolynomialMatrix p n) (w : List (Polynomial p n)) → HasShape p n r c A → length w ≡ c → matrix_product p n A (matrix_column p n w) ≡ matrix_column p n (vector_product p n A w)
unfolding HasShape vector_product matrix_product matrix_column
act_column p n r c A w = product_column (polynomials_laws p n) r c A w

pub twist_law_product : (p : Prime) (n : ℕ) (e r k c : ℕ) (A B : PolynomialMatrix p n) → HasShape p n r k A → HasShape p n k c B → matrix_twist p n e (matrix_product p n A B) ≡ matrix_product p n (matrix_twist p n e A) (matrix_twist p n e B)
unfolding HasShape matrix_twist matrix_product
twist_law_product p n e r k c A B = twist_of_product (polynomials_laws p n) (polynomials_frobenius p n) e r k c A B

pub twist_law_sum : (p : Prime) (n : ℕ) (e r c : ℕ) (A B : PolynomialMatrix p n) → HasShape p n r c A → HasShape p n r c B → matrix_twist p n e (matrix_sum p n A B) ≡ matrix_sum p n (matrix_twist p n e A) (matrix_twist p n e B)
unfolding HasShape matrix_twist matrix_sum
twist_law_sum p n e r c A B = twist_of_sum (polynomials_laws p n) (polynomials_frobenius p n) e r c A B

pub twist_law_transpose : (p : Prime) (n : ℕ) (e r c : ℕ) (A : PolynomialMatrix p n) → HasShape p n r c A → matrix_twist p n e (matrix_transpose p n A) ≡ matrix_transpose p n (matrix_twist p n e A)
unfolding HasShape matrix_twist matrix_transpose
twist_law_transpose p n e r c A = twist_of_transpose (polynomials_laws p n) (polynomials_frobenius p n) e r c A

pub twist_law_unit : (p : Prime) (n : ℕ) (e r : ℕ) → matrix_twist p n e (matrix_unit p n r) ≡ matrix_unit p n r
unfolding matrix_twist matrix_unit
twist_law_unit p n e r = twist_of_unit (polynomials_laws p n) (polynomials_frobenius p n) e r

pub twist_law_beside : (p : Prime) (n : ℕ) (e r k c : ℕ) (A B : PolynomialMatrix p n) → HasShape p n r k A → HasShape p n r c B → matrix_twist p n e (matrix_beside p n A B) ≡ matrix_beside p n (matrix_twist p n e A) (matrix_twist p n e B)
unfolding HasShape matrix_twist matrix_beside
twist_law_beside p n e r k c A B = twist_of_joined (polynomials_laws p n) (polynomials_frobenius p n) e r k c A B

pub twist_law_above : (p : Prime) (n : ℕ) (e r c k : ℕ) (A B : PolynomialMatrix p n) → HasShape p n r c A → HasShape p n k c B → matrix_twist p n e (matrix_above p n A B) ≡ matrix_above p n (matrix_twist p n e A) (matrix_twist p n e B)
unfolding HasShape matrix_twist matrix_above
twist_law_above p n e r c k A B = twist_of_stacked (polynomials_laws p n) (polynomials_frobenius p n) e r c k A B

pub twist_law_none : (p : Prime) (n : ℕ) (r c : ℕ) (A : PolynomialMatrix p n) → HasShape p n r c A → matrix_twist p n 0 A ≡ A
unfolding HasShape matrix_twist
twist_law_none p n r c A = twist_by_none (polynomials_laws p n) (polynomials_frobenius p n) r c A

pub twist_law_twice : (p : Prime) (n : ℕ) (d e r c : ℕ) (A : PolynomialMatrix p n) → HasShape p n r c A → matrix_twist p n d (matrix_twist p n e A) ≡ matrix_twist p n (e + d) A
unfolding HasShape matrix_twist
twist_law_twice p n d e r c A = twist_of_twist (polynomials_laws p n) (polynomials_frobenius p n) d e r c A

pub products_image : (p : Prime) (n : ℕ) (r k c : ℕ) (A B : PolynomialMatrix p n) (v : List (Polynomial p n)) → HasShape p n r k A → HasShape p n k c B → InImage p n (matrix_product p n A B) v → InImage p n A v
unfolding HasShape matrix_product InImage
products_image p n r k c A B v = image_of_product (polynomials_laws p n) (polynomials_frobenius p n) r k c A B v

pub products_kernel : (p : Prime) (n : ℕ) (r k c : ℕ) (A B : PolynomialMatrix p n) (w : List (Polynomial p n)) → HasShape p n r k A → HasShape p n k c B → InKernel p n B w → InKernel p n (matrix_product p n A B) w
unfolding HasShape matrix_product InKernel
products_kernel p n r k c A B w = kernel_of_product (polynomials_laws p n) (polynomials_frobenius p n) r k c A B w

pub products_picked : (p : Prime) (n : ℕ) (r c : ℕ) (A : PolynomialMatrix p n) (js : List ℕ) (v : List (Polynomial p n)) → HasShape p n r c A → ((j : ℕ) → j < length js → get_or js j 0 < c) → InImage p n (matrix_picked p n A js) v → InImage p n A v
unfolding HasShape matrix_picked InImage
products_picked p n r c A js v = image_of_picked (polynomials_laws p n) (polynomials_frobenius p n) r c A js v

pub kernel_of_twist : (p : Prime) (n : ℕ) (e : ℕ) (A C : PolynomialMatrix p n) → GeneratesKernel p n C A → GeneratesKernel p n (matrix_twist p n e C) (matrix_twist p n e A)
unfolding matrix_twist InImage InKernel
kernel_of_twist p n e A C = list_kernel_twist (polynomials p n) (frobenius_twist p n) (polynomials_laws p n) (polynomials_frobenius p n) (polynomials_sliced p n) e A C

pub preimage_of_twist_generates : (p : Prime) (n : ℕ) (e : ℕ) (A B C : PolynomialMatrix p n) → GeneratesPreimage p n C A B → GeneratesPreimage p n (matrix_twist p n e C) (matrix_twist p n e A) (matrix_twist p n e B)
unfolding matrix_twist InImage InPreimage
preimage_of_twist_generates p n e A B C = (λ g w. turned (list_preimage_twist (polynomials p n) (frobenius_twist p n) (polynomials_laws p n) (polynomials_frobenius p n) (polynomials_sliced p n) e A B C (λ w. turned (g w)) w))

pub preimage_of_twist_contains : (p : Prime) (n : ℕ) (e : ℕ) (A B C : PolynomialMatrix p n) → ((w : List (Polynomial p n)) → InPreimage p n A B w → InImage p n C w) → (w : List (Polynomial p n)) → InPreimage p n (matrix_twist p n e A) (matrix_twist p n e B) w → InImage p n (matrix_twist p n e C) w
unfolding matrix_twist InImage InPreimage
preimage_of_twist_contains p n e A B C = list_flat (polynomials p n) (frobenius_twist p n) (polynomials_laws p n) (polynomials_frobenius p n) (polynomials_sliced p n) e A B C

pub preimage_of_twist_equations : (p : Prime) (n : ℕ) (e : ℕ) (A B : PolynomialMatrix p n) (w : List (Polynomial p n)) → InPreimage p n (matrix_twist p n e A) (matrix_twist p n e B) w → (k : ℕ) × (C : PolynomialMatrix p n) × (X : PolynomialMatrix p n) × HasShape p n (length A.columns) k C × HasShape p n (length B.columns) k X × (matrix_product p n A C ≡ matrix_product p n B X) × InImage p n (matrix_twist p n e C) w
unfolding HasShape matrix_product matrix_twist InImage InPreimage
preimage_of_twist_equations p n e A B w = (λ h. let r = list_equations (polynomials p n) (frobenius_twist p n) (polynomials_laws p n) (polynomials_frobenius p n) (polynomials_sliced p n) (λ e. tuples_listed n (prime_value p ^ e) (q_positive p n e)) e A B w h in (length (r.0).columns, r.0, r.1, r.2, r.3, r.4, r.5))

pub membership_of_twist : (p : Prime) (n : ℕ) (e : ℕ) (A : PolynomialMatrix p n) (v : List (Polynomial p n)) → InImage p n A v ↔ InImage p n (matrix_twist p n e A) (vector_twist p n e v)
unfolding matrix_twist vector_twist InImage
membership_of_twist p n e A v = list_member_twist (polynomials p n) (frobenius_twist p n) (polynomials_laws p n) (polynomials_frobenius p n) (polynomials_sliced p n) e A v
