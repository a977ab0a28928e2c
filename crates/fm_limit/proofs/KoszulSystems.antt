-- The powers of the elements go with the differentials of the Koszul complex, so that its cohomology is a direct system
use Rattle.std.proofs.Common.{ℕ, zero, suc, ◌+◌, ◌-◌, ◌<◌, ◌≤◌, ◌≡◌, ◌⊎◌, ◌∙◌, Bool, true, false, inl, inr, cond, eqb, refl, sym, ap, ap₂, subst, subst₂, arith, List, [], ◌∷◌, length}
use Rattle.std.proofs.lemmas.Bool.{cases_lt}
use Rattle.fm_gfp.specs.Primes.{prime_value}
use Rattle.fm_gfp.specs.declared.prime.Prime.{Prime}
use Rattle.fm_gfp.proofs.Residues.{prime_positive}
use Rattle.fm_algebra.specs.Power.{power}
use Rattle.fm_algebra.proofs.TwistWords.{prime_power_is_twist}
use Rattle.fm_algebra.specs.Families.{only, Mat, mul, neg, nil, unit, each, beside, stack, either, scalar, read, element}
use Rattle.fm_algebra.specs.FiniteSums.{finite_sum}
use Rattle.fm_algebra.specs.Image.{InImage}
use Rattle.fm_algebra.specs.Polynomials.{Polynomial, polynomials, polynomial_product, polynomial_power, frobenius_twist, polynomial_negative}
use Rattle.fm_algebra.specs.PolynomialMatrices.{PolynomialMatrix, HasShape, matrix_product, matrix_negative, matrix_zero, matrix_scalar, matrix_beside, matrix_above, matrix_twist}
use Rattle.fm_algebra.proofs.Images.{image_columns, mul_neg, nil_mul, mul_nil, nil_add, twist_nil, twist_neg, neg_mul}
use Rattle.fm_algebra.proofs.Tables.{read_stacked, stacked_shaped, read_negative, negative_shaped, read_zero, zero_shaped}
use Rattle.fm_limit.specs.Classes.{matrices}
use Rattle.fm_limit.specs.GivenSystems.{IsGivenSystem}
use Rattle.fm_limit.specs.Koszul.{subsets, subsets_before, koszul_matrix, koszul_step, koszul_given}
use Rattle.fm_limit.proofs.FactsRead.{matrices_laws}
use Rattle.fm_limit.proofs.Principal.{element_product}
use Rattle.fm_limit.proofs.MatrixWords.{shape_rows, shape_columns, product_read, product_fits, twist_read, twist_fits, unit_read, unit_fits, scalar_read, scalar_fits, beside_read, beside_fits, columns_from}
use Rattle.fm_algebra.specs.Matrix.{stacked, joined, negative, scalar_matrix, zero_matrix, table, listed, entry}

module _ (p : Prime) (n : ℕ) where
  open matrices p n use {◌⊛◌, ◌⊕◌, twist}

  infixl 70 ◌⊛◌
  infixl 60 ◌⊕◌
  abbrev E : ℕ → ℕ → Type 0
  E a b = Mat (polynomials p n) a b

  -- ---- matrices one above another
  stack_times : {a b c k : ℕ} (A : E a c) (B : E b c) (X : E c k) → mul (polynomials p n) (stack (polynomials p n) A B) X ≡ stack (polynomials p n) (mul (polynomials p n) A X) (mul (polynomials p n) B X)
  unfolding mul stack either
  stack_times {a} {b} {c} {k} A B X = λ t i h j l. go i h j l (cases_lt i a) t
    where
      go : (i : ℕ) (h : i < a + b) (j : ℕ) (l : j < k) (d : (i < a) ⊎ (a ≤ i))
          → finite_sum (polynomials p n) c (λ s u. (polynomials p n).mul (either (polynomials p n) {n = a} {k = b} i h d (λ i h. A i h s u) (λ i h. B i h s u)) (X s u j l))
          ≡ either (polynomials p n) {n = a} {k = b} i h d (λ i h. mul (polynomials p n) A X i h j l) (λ i h. mul (polynomials p n) B X i h j l)
      go i h j l (inl u) = refl
      go i h j l (inr u) = refl

  twist_stack : {a b c : ℕ} (A : E a c) (B : E b c) → each (polynomials p n) (frobenius_twist p n 1) (stack (polynomials p n) A B) ≡ stack (polynomials p n) (each (polynomials p n) (frobenius_twist p n 1) A) (each (polynomials p n) (frobenius_twist p n 1) B)
  unfolding each stack either
  twist_stack {a} {b} {c} A B = λ t i h j l. go i h j l (cases_lt i a) t
    where
      go : (i : ℕ) (h : i < a + b) (j : ℕ) (l : j < c) (d : (i < a) ⊎ (a ≤ i))
          → frobenius_twist p n 1 (either (polynomials p n) {n = a} {k = b} i h d (λ i h. A i h j l) (λ i h. B i h j l))
          ≡ either (polynomials p n) {n = a} {k = b} i h d (λ i h. frobenius_twist p n 1 (A i h j l)) (λ i h. frobenius_twist p n 1 (B i h j l))
      go i h j l (inl u) = refl
      go i h j l (inr u) = refl

  -- the twist of a multiple of the unit matrix
  zero_twisted : frobenius_twist p n 1 (polynomials p n).zero ≡ (polynomials p n).zero
  unfolding nil each
  zero_twisted = ap (λ X. X zero only zero only) (twist_nil (matrices_laws p n) 1 1 1)

  twist_scalar : (f : Polynomial p n) (k : ℕ) → each (polynomials p n) (frobenius_twist p n 1) (scalar (polynomials p n) (element (polynomials p n) f) k) ≡ scalar (polynomials p n) (element (polynomials p n) (frobenius_twist p n 1 f)) k
  unfolding each scalar
  twist_scalar f k = λ t i h j l. go (eqb i j) t
    where
      go : (b : Bool) → frobenius_twist p n 1 (cond b f (polynomials p n).zero) ≡ cond b (frobenius_twist p n 1 f) (polynomials p n).zero
      go true = refl
      go false = zero_twisted

  -- the blocks of the differential and of the step
  abbrev differential : (f : Polynomial p n) {a b c : ℕ} (K : E b a) (H : E c b) → E (b + c) (a + b)
  differential f {a} {b} {c} K H = stack (polynomials p n) (beside (polynomials p n) (neg (polynomials p n) K) (scalar (polynomials p n) (element (polynomials p n) f) b)) (beside (polynomials p n) (nil (polynomials p n) c a) H)

  abbrev diagonal : (q : Polynomial p n) {b c : ℕ} (S1 : E b b) (S2 : E c c) → E (b + c) (b + c)
  diagonal q {b} {c} S1 S2 = stack (polynomials p n) (beside (polynomials p n) (scalar (polynomials p n) (element (polynomials p n) q) b ⊛ S1) (nil (polynomials p n) b c)) (beside (polynomials p n) (nil (polynomials p n) c b) S2)

  diagonal_times : (q : Polynomial p n) {b c : ℕ} (S1 : E b b) (S2 : E c c) (x : E b 1) (y : E c 1)
      → diagonal q S1 S2 ⊛ stack (polynomials p n) x y ≡ stack (polynomials p n) (scalar (polynomials p n) (element (polynomials p n) q) b ⊛ (S1 ⊛ x)) (S2 ⊛ y)
  diagonal_times q {b} {c} S1 S2 x y =
      let L = matrices_laws p n in
      let Q = scalar (polynomials p n) (element (polynomials p n) q) b in
      stack_times (beside (polynomials p n) (Q ⊛ S1) (nil (polynomials p n) b c)) (beside (polynomials p n) (nil (polynomials p n) c b) S2) (stack (polynomials p n) x y)
      ∙ ap₂ (λ u v. stack (polynomials p n) u v) (L.join_mul (Q ⊛ S1) (nil (polynomials p n) b c) x y ∙ ap₂ (λ u v. u ⊕ v) (L.assoc Q S1 x) (nil_mul L b y) ∙ L.add_nil (Q ⊛ (S1 ⊛ x))) (L.join_mul (nil (polynomials p n) c b) S2 x y ∙ ap (λ u. u ⊕ S2 ⊛ y) (nil_mul L c x) ∙ nil_add L (S2 ⊛ y))

  -- ---- one element more
  module _ (f q : Polynomial p n) (powers : mul (polynomials p n) (element (polynomials p n) f) (element (polynomials p n) q) ≡ element (polynomials p n) (frobenius_twist p n 1 f))
      {a b c : ℕ} (K : E b a) (H : E c b) (S0 : E a a) (S1 : E b b) (S2 : E c c)
      (first : (x : E a 1) → S1 ⊛ (K ⊛ x) ≡ twist 1 K ⊛ (S0 ⊛ x)) (second : (x : E b 1) → S2 ⊛ (H ⊛ x) ≡ twist 1 H ⊛ (S1 ⊛ x)) where
    abbrev F : E b b
    F = scalar (polynomials p n) (element (polynomials p n) f) b

    abbrev Q : (k : ℕ) → E k k
    Q k = scalar (polynomials p n) (element (polynomials p n) q) k

    -- the differential and the step
    abbrev block : E (b + c) (a + b)
    block = differential f K H

    abbrev steps : E (b + c) (b + c)
    steps = diagonal q S1 S2

    over : {i j k : ℕ} → E i k → E j k → E (i + j) k
    over x y = stack (polynomials p n) x y

    block_times : (x : E a 1) (y : E b 1) → block ⊛ over x y ≡ over (neg (polynomials p n) (K ⊛ x) ⊕ F ⊛ y) (H ⊛ y)
    unfolding over
    block_times x y =
        let L = matrices_laws p n in
        stack_times (beside (polynomials p n) (neg (polynomials p n) K) F) (beside (polynomials p n) (nil (polynomials p n) c a) H) (over x y)
        ∙ ap₂ (λ u v. stack (polynomials p n) u v) (L.join_mul (neg (polynomials p n) K) F x y ∙ ap (λ u. u ⊕ F ⊛ y) (neg_mul L K x)) (L.join_mul (nil (polynomials p n) c a) H x y ∙ ap (λ u. u ⊕ H ⊛ y) (nil_mul L c x) ∙ nil_add L (H ⊛ y))

    twisted_times : (x : E a 1) (y : E b 1) → twist 1 block ⊛ over x y ≡ over (neg (polynomials p n) (twist 1 K ⊛ x) ⊕ twist 1 F ⊛ y) (twist 1 H ⊛ y)
    unfolding over
    twisted_times x y =
        let L = matrices_laws p n in
        ap (λ A. A ⊛ over x y) (twist_stack (beside (polynomials p n) (neg (polynomials p n) K) F) (beside (polynomials p n) (nil (polynomials p n) c a) H)
        ∙ ap₂ (λ u v. stack (polynomials p n) u v) (L.twist_beside 1 (neg (polynomials p n) K) F ∙ ap (λ A. beside (polynomials p n) A (twist 1 F)) (twist_neg L 1 K)) (L.twist_beside 1 (nil (polynomials p n) c a) H ∙ ap (λ A. beside (polynomials p n) A (twist 1 H)) (twist_nil L 1 c a)))
        ∙ stack_times (beside (polynomials p n) (neg (polynomials p n) (twist 1 K)) (twist 1 F)) (beside (polynomials p n) (nil (polynomials p n) c a) (twist 1 H)) (over x y)
        ∙ ap₂ (λ u v. stack (polynomials p n) u v) (L.join_mul (neg (polynomials p n) (twist 1 K)) (twist 1 F) x y ∙ ap (λ u. u ⊕ twist 1 F ⊛ y) (neg_mul L (twist 1 K) x)) (L.join_mul (nil (polynomials p n) c a) (twist 1 H) x y ∙ ap (λ u. u ⊕ twist 1 H ⊛ y) (nil_mul L c x) ∙ nil_add L (twist 1 H ⊛ y))

    -- f^(p-1) times f is f^[p], on vectors
    by_right : (h : Polynomial p n) {k : ℕ} (y : E k 1) → scalar (polynomials p n) (element (polynomials p n) h) k ⊛ y ≡ y ⊛ element (polynomials p n) h
    by_right h y = let L = matrices_laws p n in L.scalar_mul (element (polynomials p n) h) y ∙ ap (λ u. y ⊛ u) (L.scalar_one (element (polynomials p n) h))

    powers_times : (y : E b 1) → Q b ⊛ (S1 ⊛ (F ⊛ y)) ≡ twist 1 F ⊛ (S1 ⊛ y)
    powers_times y =
        let L = matrices_laws p n in
        let e = element (polynomials p n) in
        by_right q (S1 ⊛ (F ⊛ y))
        ∙ ap (λ u. (S1 ⊛ u) ⊛ e q) (by_right f y)
        ∙ ap (λ u. u ⊛ e q) (sym (L.assoc S1 y (e f)))
        ∙ L.assoc (S1 ⊛ y) (e f) (e q)
        ∙ ap (λ u. (S1 ⊛ y) ⊛ u) powers
        ∙ sym (ap (λ A. A ⊛ (S1 ⊛ y)) (twist_scalar f b) ∙ by_right (frobenius_twist p n 1 f) (S1 ⊛ y))

    commuted : (x : E a 1) → Q b ⊛ (S1 ⊛ (K ⊛ x)) ≡ twist 1 K ⊛ (Q a ⊛ (S0 ⊛ x))
    commuted x =
        let L = matrices_laws p n in
        ap (λ u. Q b ⊛ u) (first x) ∙ sym (L.assoc (Q b) (twist 1 K) (S0 ⊛ x)) ∙ ap (λ u. u ⊛ (S0 ⊛ x)) (L.scalar_mul (element (polynomials p n) q) (twist 1 K)) ∙ L.assoc (twist 1 K) (Q a) (S0 ⊛ x)

    -- the step of the block goes with its differential
    block_goes : (x : E a 1) (y : E b 1) → steps ⊛ (block ⊛ over x y) ≡ twist 1 block ⊛ over (Q a ⊛ (S0 ⊛ x)) (S1 ⊛ y)
    unfolding over
    block_goes x y =
        let L = matrices_laws p n in
        let u = Q b ⊛ (S1 ⊛ (K ⊛ x)) in
        ap (λ v. steps ⊛ v) (block_times x y)
        ∙ diagonal_times q S1 S2 (neg (polynomials p n) (K ⊛ x) ⊕ F ⊛ y) (H ⊛ y)
        ∙ ap₂ (λ u v. stack (polynomials p n) u v)
        (ap (λ v. Q b ⊛ v) (L.dist_left S1 (neg (polynomials p n) (K ⊛ x)) (F ⊛ y)) ∙ L.dist_left (Q b) (S1 ⊛ neg (polynomials p n) (K ⊛ x)) (S1 ⊛ (F ⊛ y))
        ∙ ap₂ (λ v w. v ⊕ w) (ap (λ v. Q b ⊛ v) (mul_neg L S1 (K ⊛ x)) ∙ mul_neg L (Q b) (S1 ⊛ (K ⊛ x)) ∙ ap (λ v. neg (polynomials p n) v) (commuted x)) (powers_times y))
        (second y)
        ∙ sym (twisted_times (Q a ⊛ (S0 ⊛ x)) (S1 ⊛ y))

    pub goes : (v : E (a + b) 1) → steps ⊛ (block ⊛ v) ≡ twist 1 block ⊛ (diagonal q S0 S1 ⊛ v)
    unfolding over
    goes v =
        let r = (matrices_laws p n).split {n = a} {k = b} v in
        ap (λ v. steps ⊛ (block ⊛ v)) r.2 ∙ block_goes r.0 r.1 ∙ ap (λ v. twist 1 block ⊛ v) (sym (ap (λ v. diagonal q S0 S1 ⊛ v) r.2 ∙ diagonal_times q S0 S1 r.0 r.1))

  -- ---- the matrices of lists
  above_read : (a b c : ℕ) (A B : PolynomialMatrix p n) → HasShape p n a c A → HasShape p n b c B → read (polynomials p n) (a + b) c (matrix_above p n A B) ≡ stack (polynomials p n) (read (polynomials p n) a c A) (read (polynomials p n) b c B)
  unfolding HasShape matrix_above
  above_read a b c A B s t = read_stacked (polynomials p n) a c b A B s.0 t.0 s.1

  above_fits : (a b c : ℕ) (A B : PolynomialMatrix p n) → HasShape p n a c A → HasShape p n b c B → HasShape p n (a + b) c (matrix_above p n A B)
  unfolding HasShape matrix_above
  above_fits a b c A B s t = stacked_shaped (polynomials p n) a c b A B s.0 t.0 s.1

  negative_read : (a b : ℕ) (A : PolynomialMatrix p n) → HasShape p n a b A → read (polynomials p n) a b (matrix_negative p n A) ≡ neg (polynomials p n) (read (polynomials p n) a b A)
  unfolding HasShape matrix_negative
  negative_read a b A s = read_negative (polynomials p n) a b A s.0 s.1

  negative_fits : (a b : ℕ) (A : PolynomialMatrix p n) → HasShape p n a b A → HasShape p n a b (matrix_negative p n A)
  unfolding HasShape matrix_negative
  negative_fits a b A s = negative_shaped (polynomials p n) a b A s.0 s.1

  zero_read : (a b : ℕ) → read (polynomials p n) a b (matrix_zero p n a b) ≡ nil (polynomials p n) a b
  unfolding matrix_zero
  zero_read a b = read_zero (polynomials p n) a b

  zero_fits : (a b : ℕ) → HasShape p n a b (matrix_zero p n a b)
  unfolding HasShape matrix_zero
  zero_fits a b = zero_shaped (polynomials p n) a b

  -- subsets with the first element, and without it
  count : (c j : ℕ) → subsets_before c j + subsets c j ≡ subsets (suc c) j
  count c zero = refl
  count c (suc j) = refl

  abbrev P : Type 0
  P = Polynomial p n

  abbrev K : (fs : List P) (j : ℕ) → E (subsets (length fs) j) (subsets_before (length fs) j)
  K fs j = read (polynomials p n) (subsets (length fs) j) (subsets_before (length fs) j) (koszul_matrix p n fs j)

  abbrev D : (fs : List P) (j : ℕ) → E (subsets (length fs) j) (subsets (length fs) j)
  D fs j = read (polynomials p n) (subsets (length fs) j) (subsets (length fs) j) (koszul_step p n fs j)

  D_before : (fs : List P) (j : ℕ) → E (subsets_before (length fs) j) (subsets_before (length fs) j)
  D_before fs zero = nil (polynomials p n) 0 0
  D_before fs (suc j) = D fs j

  abbrev cofactor : P → P
  cofactor f = polynomial_power p n (prime_value p - 1) f

  -- shapes and readings
  module _ (f : P) (fs : List P) (j : ℕ) (s : HasShape p n (subsets (length fs) j) (subsets_before (length fs) j) (koszul_matrix p n fs j)) (t : HasShape p n (subsets (length fs) (suc j)) (subsets (length fs) j) (koszul_matrix p n fs (suc j))) where
    abbrev a : ℕ
    a = subsets_before (length fs) j

    abbrev b : ℕ
    b = subsets (length fs) j

    abbrev c : ℕ
    c = subsets (length fs) (suc j)

    abbrev left : PolynomialMatrix p n
    left = matrix_beside p n (matrix_negative p n (koszul_matrix p n fs j)) (matrix_scalar p n f b)

    abbrev right : PolynomialMatrix p n
    right = matrix_beside p n (matrix_zero p n c a) (koszul_matrix p n fs (suc j))

    left_fits : HasShape p n b (a + b) left
    left_fits = beside_fits p n b a b (matrix_negative p n (koszul_matrix p n fs j)) (matrix_scalar p n f b) (negative_fits b a (koszul_matrix p n fs j) s) (scalar_fits p n f b)

    right_fits : HasShape p n c (a + b) right
    right_fits = beside_fits p n c a b (matrix_zero p n c a) (koszul_matrix p n fs (suc j)) (zero_fits c a) t

    more_fits : HasShape p n (b + c) (a + b) (koszul_matrix p n (f ∷ fs) (suc j))
    unfolding koszul_matrix
    more_fits = above_fits b c (a + b) left right left_fits right_fits

    more_read : read (polynomials p n) (b + c) (a + b) (koszul_matrix p n (f ∷ fs) (suc j)) ≡ differential f (K fs j) (K fs (suc j))
    unfolding koszul_matrix
    more_read =
        above_read b c (a + b) left right left_fits right_fits
        ∙ ap₂ (λ u v. stack (polynomials p n) u v)
        (beside_read p n b a b (matrix_negative p n (koszul_matrix p n fs j)) (matrix_scalar p n f b) (negative_fits b a (koszul_matrix p n fs j) s) (scalar_fits p n f b) ∙ ap₂ (λ u v. beside (polynomials p n) u v) (negative_read b a (koszul_matrix p n fs j) s) (scalar_read p n f b))
        (beside_read p n c a b (matrix_zero p n c a) (koszul_matrix p n fs (suc j)) (zero_fits c a) t ∙ ap (λ u. beside (polynomials p n) u (K fs (suc j))) (zero_read c a))

  pub koszul_fits : (fs : List P) (j : ℕ) → HasShape p n (subsets (length fs) j) (subsets_before (length fs) j) (koszul_matrix p n fs j)
  unfolding koszul_matrix
  koszul_fits fs zero = zero_fits 1 0
  koszul_fits [] (suc j) = zero_fits 0 (subsets 0 j)
  koszul_fits (f ∷ fs) (suc j) = subst (λ k. HasShape p n (subsets (length fs) j + subsets (length fs) (suc j)) k (koszul_matrix p n (f ∷ fs) (suc j))) (count (length fs) j) (more_fits f fs j (koszul_fits fs j) (koszul_fits fs (suc j)))

  module _ (f : P) (fs : List P) (j : ℕ) (s : HasShape p n (subsets (length fs) j) (subsets (length fs) j) (koszul_step p n fs j)) (t : HasShape p n (subsets (length fs) (suc j)) (subsets (length fs) (suc j)) (koszul_step p n fs (suc j))) where
    abbrev d : ℕ
    d = subsets (length fs) j

    abbrev e : ℕ
    e = subsets (length fs) (suc j)

    abbrev multiple : PolynomialMatrix p n
    multiple = matrix_scalar p n (cofactor f) d

    times_fits : HasShape p n d d (matrix_product p n multiple (koszul_step p n fs j))
    times_fits = product_fits p n d d d multiple (koszul_step p n fs j) (scalar_fits p n (cofactor f) d) s

    abbrev first_half : PolynomialMatrix p n
    first_half = matrix_beside p n (matrix_product p n multiple (koszul_step p n fs j)) (matrix_zero p n d e)

    abbrev second_half : PolynomialMatrix p n
    second_half = matrix_beside p n (matrix_zero p n e d) (koszul_step p n fs (suc j))

    first_half_fits : HasShape p n d (d + e) first_half
    first_half_fits = beside_fits p n d d e (matrix_product p n multiple (koszul_step p n fs j)) (matrix_zero p n d e) times_fits (zero_fits d e)

    second_half_fits : HasShape p n e (d + e) second_half
    second_half_fits = beside_fits p n e d e (matrix_zero p n e d) (koszul_step p n fs (suc j)) (zero_fits e d) t

    more_steps_fit : HasShape p n (d + e) (d + e) (koszul_step p n (f ∷ fs) (suc j))
    unfolding koszul_step
    more_steps_fit = above_fits d e (d + e) first_half second_half first_half_fits second_half_fits

    more_steps_read : read (polynomials p n) (d + e) (d + e) (koszul_step p n (f ∷ fs) (suc j)) ≡ diagonal (cofactor f) (D fs j) (D fs (suc j))
    unfolding koszul_step
    more_steps_read =
        above_read d e (d + e) first_half second_half first_half_fits second_half_fits
        ∙ ap₂ (λ u v. stack (polynomials p n) u v)
        (beside_read p n d d e (matrix_product p n multiple (koszul_step p n fs j)) (matrix_zero p n d e) times_fits (zero_fits d e) ∙ ap₂ (λ u v. beside (polynomials p n) u v) (product_read p n d d d multiple (koszul_step p n fs j) (scalar_fits p n (cofactor f) d) s ∙ ap (λ A. A ⊛ D fs j) (scalar_read p n (cofactor f) d)) (zero_read d e))
        (beside_read p n e d e (matrix_zero p n e d) (koszul_step p n fs (suc j)) (zero_fits e d) t ∙ ap (λ u. beside (polynomials p n) u (D fs (suc j))) (zero_read e d))

  pub steps_fit : (fs : List P) (j : ℕ) → HasShape p n (subsets (length fs) j) (subsets (length fs) j) (koszul_step p n fs j)
  unfolding koszul_step
  steps_fit fs zero = unit_fits p n 1
  steps_fit [] (suc j) = zero_fits 0 0
  steps_fit (f ∷ fs) (suc j) = more_steps_fit f fs j (steps_fit fs j) (steps_fit fs (suc j))

  -- f * f^(p-1) = f^[p]
  cofactor_times : (f : P) → mul (polynomials p n) (element (polynomials p n) f) (element (polynomials p n) (cofactor f)) ≡ element (polynomials p n) (frobenius_twist p n 1 f)
  unfolding polynomial_product polynomial_power power
  cofactor_times f =
      let q : suc (prime_value p - 1) ≡ prime_value p = let b = prime_positive p in omega arith in
      element_product p n f (cofactor f) ∙ ap (element (polynomials p n)) (ap (λ k. polynomial_power p n k f) q ∙ prime_power_is_twist p n f)

  -- ---- the steps go with the differentials
  none : (k : ℕ) (X Y : E k 1) → k ≡ 0 → X ≡ Y
  none k X Y q = λ t i a j b. absurd {A = X i a j b ≡ Y i a j b} (omega arith) t

  D_zero : (fs : List P) → D fs zero ≡ unit (polynomials p n) 1
  unfolding koszul_step
  D_zero [] = unit_read p n 1
  D_zero (f ∷ fs) = unit_read p n 1

  one_is_one : (f : P) (fs : List P) → D (f ∷ fs) zero ≡ diagonal (cofactor f) (nil (polynomials p n) 0 0) (D fs zero)
  one_is_one f fs =
      let L = matrices_laws p n in
      let A : E 1 1 = diagonal (cofactor f) (nil (polynomials p n) 0 0) (D fs zero) in
      let r = L.split {n = 0} {k = 1} (unit (polynomials p n) 1) in
      D_zero (f ∷ fs)
      ∙ sym (sym (L.unit_right A) ∙ ap (λ v. A ⊛ v) r.2 ∙ diagonal_times (cofactor f) (nil (polynomials p n) 0 0) (D fs zero) r.0 r.1
      ∙ ap₂ (λ u v. stack (polynomials p n) u v) (none 0 (scalar (polynomials p n) (element (polynomials p n) (cofactor f)) 0 ⊛ (nil (polynomials p n) 0 0 ⊛ r.0)) r.0 refl) (ap (λ A. A ⊛ r.1) (D_zero fs) ∙ L.unit_left r.1) ∙ sym r.2)

  steps_go : (fs : List P) (j : ℕ) (x : E (subsets_before (length fs) j) 1) → D fs j ⊛ (K fs j ⊛ x) ≡ twist 1 (K fs j) ⊛ (D_before fs j ⊛ x)
  unfolding D_before
  steps_go fs zero x =
      let L = matrices_laws p n in
      ap (λ v. D fs zero ⊛ v) (no_columns_times (K fs zero) x) ∙ mul_nil L (D fs zero) ∙ sym (no_columns_times (twist 1 (K fs zero)) (nil (polynomials p n) 0 0 ⊛ x))
    where
      no_columns_times : {k : ℕ} (A : E k 0) (x : E 0 1) → A ⊛ x ≡ nil (polynomials p n) k 1
      no_columns_times A x = ap (λ v. A ⊛ v) (none 0 x (nil (polynomials p n) 0 1) refl) ∙ mul_nil (matrices_laws p n) A
  steps_go [] (suc j) x = none 0 _ _ refl
  steps_go (f ∷ fs) (suc zero) x =
      let h = goes f (cofactor f) (cofactor_times f) (K fs zero) (K fs 1) (D_before fs zero) (D fs zero) (D fs 1) (steps_go fs zero) (steps_go fs 1) x in
      let k = more_read f fs zero (koszul_fits fs zero) (koszul_fits fs 1) in
      let d = more_steps_read f fs zero (steps_fit fs zero) (steps_fit fs 1) in
      subst (λ A. A ⊛ (K (f ∷ fs) 1 ⊛ x) ≡ twist 1 (K (f ∷ fs) 1) ⊛ (D (f ∷ fs) zero ⊛ x)) (sym d)
      (subst (λ A. diagonal (cofactor f) (D fs zero) (D fs 1) ⊛ (A ⊛ x) ≡ twist 1 A ⊛ (D (f ∷ fs) zero ⊛ x)) (sym k) (h ∙ ap (λ A. twist 1 (differential f (K fs zero) (K fs 1)) ⊛ (A ⊛ x)) (sym (one_is_one f fs))))
  steps_go (f ∷ fs) (suc (suc j)) x =
      let h = goes f (cofactor f) (cofactor_times f) (K fs (suc j)) (K fs (suc (suc j))) (D_before fs (suc j)) (D fs (suc j)) (D fs (suc (suc j))) (steps_go fs (suc j)) (steps_go fs (suc (suc j))) x in
      let k = more_read f fs (suc j) (koszul_fits fs (suc j)) (koszul_fits fs (suc (suc j))) in
      let d = more_steps_read f fs (suc j) (steps_fit fs (suc j)) (steps_fit fs (suc (suc j))) in
      let e = more_steps_read f fs j (steps_fit fs j) (steps_fit fs (suc j)) in
      subst (λ A. A ⊛ (K (f ∷ fs) (suc (suc j)) ⊛ x) ≡ twist 1 (K (f ∷ fs) (suc (suc j))) ⊛ (D (f ∷ fs) (suc j) ⊛ x)) (sym d)
      (subst (λ A. diagonal (cofactor f) (D fs (suc j)) (D fs (suc (suc j))) ⊛ (A ⊛ x) ≡ twist 1 A ⊛ (D (f ∷ fs) (suc j) ⊛ x)) (sym k) (h ∙ ap (λ A. twist 1 (differential f (K fs (suc j)) (K fs (suc (suc j)))) ⊛ (A ⊛ x)) (sym e)))

  -- Koszul cohomology is a direct system
  pub koszul_is_given : (fs : List P) (i : ℕ) → IsGivenSystem p n (koszul_given p n fs i)
  koszul_is_given fs i =
      let c = length fs in
      let m = subsets c i in
      let l = subsets_before c i in
      let h = subsets c (suc i) in
      let t_fits = koszul_fits fs (suc i) in
      let b_fits = koszul_fits fs i in
      let s_fits = steps_fit fs i in
      let C = koszul_matrix p n fs i in
      let S = koszul_step p n fs i in
      let rows : (koszul_matrix p n fs (suc i)).rows ≡ h = shape_rows p n h m (koszul_matrix p n fs (suc i)) t_fits in
      let wide : length C.columns ≡ l = shape_columns p n m l C b_fits in
      let none : length (matrix_zero p n h 0).columns ≡ 0 = shape_columns p n h 0 (matrix_zero p n h 0) (zero_fits h 0) in
      let moves : InImage (matrices p n) (twist 1 (K fs i)) (D fs i ⊛ K fs i) = image_columns (matrices_laws p n) (twist 1 (K fs i)) (D fs i ⊛ K fs i) (λ k u. let b = (matrices p n).basis l k u in (D_before fs i ⊛ b, sym (steps_go fs i b) ∙ sym ((matrices_laws p n).assoc (D fs i) (K fs i) b))) in
      record {
        test_fits = subst (λ x. HasShape p n x m (koszul_matrix p n fs (suc i))) (sym rows) t_fits;
        modulo_fits = subst₂ (λ x y. HasShape p n x y (matrix_zero p n h 0)) (sym rows) (sym none) (zero_fits h 0);
        bounds_fit = subst (λ x. HasShape p n m x C) (sym wide) b_fits;
        step_fits = s_fits;
        moves =
            (columns_from p n m l l (matrix_twist p n 1 C) (matrix_product p n S C) (twist_fits p n 1 m l C b_fits) (product_fits p n m m l S C s_fits b_fits)).1
            (subst₂ (λ A B. InImage (matrices p n) A B) (sym (twist_read p n 1 m l C b_fits)) (sym (product_read p n m m l S C s_fits b_fits)) moves);
      }

  -- two elements
  pub koszul_column : (f g : P) → koszul_matrix p n (f ∷ g ∷ []) 1 ≡ record { rows = 2; columns = (f ∷ g ∷ []) ∷ [] }
  unfolding koszul_matrix matrix_above matrix_beside matrix_negative matrix_scalar matrix_zero stacked joined negative scalar_matrix zero_matrix table listed entry
  koszul_column f g = refl

  pub koszul_row : (f g : P) → koszul_matrix p n (f ∷ g ∷ []) 2 ≡ record { rows = 1; columns = (polynomial_negative p n g ∷ []) ∷ (f ∷ []) ∷ [] }
  unfolding koszul_matrix matrix_above matrix_beside matrix_negative matrix_scalar matrix_zero stacked joined negative scalar_matrix zero_matrix table listed entry polynomial_negative
  koszul_row f g = refl
