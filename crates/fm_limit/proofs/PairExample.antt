-- x and y over GF(2)[x, y]: x divides y * b only if it divides b
use Rattle.std.proofs.Common.{ℕ, zero, suc, ◌+◌, ◌-◌, ◌*◌, ◌%◌, ◌<◌, ◌≡◌, ◌∙◌, inl, inr, refl, sym, ap, ap₂, subst, arith, List, [], ◌∷◌, length, get_or, map, true, false}
use Rattle.fm_tuple.specs.Tuple.{tuple_sum, tuple_difference}
use Rattle.fm_gfp.specs.declared.prime.Prime.TheVariants.{Two}
use Rattle.fm_algebra.specs.Poly.{Among}
use Rattle.fm_algebra.specs.Splits.{over_splits}
use Rattle.fm_algebra.specs.Polynomials.{Polynomial, polynomial_zero, polynomial_one, polynomial_sum, polynomial_product, polynomial_term, coefficient}
use Rattle.fm_algebra.proofs.SplitWords.{splits_only, splits_each_once}
use Rattle.fm_algebra.proofs.Sums.{splits_all_zero}
use Rattle.fm_algebra.proofs.PolynomialWords.{cancel_factor, coefficient_below, coefficient_zero, coefficient_one, coefficient_sum, coefficient_product, coefficient_term, coefficient_term_elsewhere, same_coefficients, finitely_many, any_coefficients}
use Rattle.fm_limit.specs.Verdicts.{Holds, zero_limit, support}
use Rattle.fm_limit.specs.PairIdeals.{pair_ideal}
use Rattle.fm_algebra.proofs.Algebra.{mul_left_comm}
use Rattle.fm_algebra.proofs.Concrete.{polynomials_laws}
use Rattle.fm_limit.proofs.PairPoint.{point_verdict, point_support}
use Rattle.fm_limit.proofs.PairFacts.{pair_verdict_words}

abbrev P : Type 0
P = Polynomial Two 2

-- a term x^u times g has at u + v the coefficient of g at v, and nothing where u is not subtracted
pub shifted : (u v : List ℕ) (g : P) → length u ≡ 2 → length u ≡ length v → coefficient Two 2 (polynomial_product Two 2 (polynomial_term Two 2 1 u) g) (tuple_sum u v) ≡ coefficient Two 2 g v
shifted u v g l e =
    let t : P = polynomial_term Two 2 1 u in
    let F : List ℕ → List ℕ → ℕ = λ b c. coefficient Two 2 t b * coefficient Two 2 g c in
    let a : over_splits ◌+◌ (tuple_sum u v) F ≡ coefficient Two 2 t u * coefficient Two 2 g v = splits_each_once u v F e (λ b c w. nothing b c w) in
    coefficient_product Two 2 t g (tuple_sum u v) ∙ ap (λ k. k % 2) (a ∙ ap (λ k. k * coefficient Two 2 g v) (coefficient_term Two 2 1 u l)) ∙ small (coefficient Two 2 g v) (coefficient_below Two 2 g v)
  where
    small : (k : ℕ) → k < 2 → (1 * k) % 2 ≡ k
    small k h = omega arith

    nothing : (b c : List ℕ) → ¬ (b ≡ u) → coefficient Two 2 (polynomial_term Two 2 1 u) b * coefficient Two 2 g c ≡ 0
    nothing b c w = ap (λ k. k * coefficient Two 2 g c) (coefficient_term_elsewhere Two 2 1 u b w) ∙ (let q : 0 * coefficient Two 2 g c ≡ 0 = omega arith in q)

pub absent : (u a : List ℕ) (g : P) → ((c : List ℕ) → ¬ (tuple_sum u c ≡ a)) → coefficient Two 2 (polynomial_product Two 2 (polynomial_term Two 2 1 u) g) a ≡ 0
absent u a g w =
    let t : P = polynomial_term Two 2 1 u in
    let F : List ℕ → List ℕ → ℕ = λ b c. coefficient Two 2 t b * coefficient Two 2 g c in
    let z : over_splits ◌+◌ a F ≡ over_splits ◌+◌ a (λ b c. 0) = splits_only a F (λ b c. 0) (λ b c l s. nothing b c (λ e. w c (subst (λ b. tuple_sum b c ≡ a) e s))) in
    coefficient_product Two 2 t g a ∙ ap (λ k. k % 2) (z ∙ splits_all_zero ◌+◌ 0 (λ k. (let q : 0 + k ≡ k = omega arith in q)) (λ k. (let q : k + 0 ≡ k = omega arith in q)) a)
  where
    nothing : (b c : List ℕ) → ¬ (b ≡ u) → coefficient Two 2 (polynomial_term Two 2 1 u) b * coefficient Two 2 g c ≡ 0
    nothing b c w = ap (λ k. k * coefficient Two 2 g c) (coefficient_term_elsewhere Two 2 1 u b w) ∙ (let q : 0 * coefficient Two 2 g c ≡ 0 = omega arith in q)

abbrev pub x : P
x = polynomial_term Two 2 1 (1 ∷ 0 ∷ [])

abbrev pub y : P
y = polynomial_term Two 2 1 (0 ∷ 1 ∷ [])

one_more : (k m : ℕ) → 1 + k ≡ m → m ≡ 0 → ⊥
one_more k m a b = omega arith

-- no sum with (1, 0) begins with 0, and none with (0, 1) has 0 in second place
pub first_place : (j : ℕ) (c : List ℕ) → ¬ (tuple_sum (1 ∷ 0 ∷ []) c ≡ 0 ∷ j ∷ [])
first_place j [] e = absurd (let l : 0 ≡ 2 = ap length e in omega arith)
first_place j (k ∷ c) e = one_more k (1 + k) refl (ap (λ l. get_or l 0 0) e)

pub second_place : (i : ℕ) (c : List ℕ) → ¬ (tuple_sum (0 ∷ 1 ∷ []) c ≡ i ∷ 0 ∷ [])
second_place i [] e = absurd (let l : 0 ≡ 2 = ap length e in omega arith)
second_place i (k ∷ []) e = absurd (let l : 1 ≡ 2 = ap length e in omega arith)
second_place i (k ∷ m ∷ c) e = one_more m (1 + m) refl (ap (λ l. get_or l 1 0) e)

-- ---- x divides y * b only if it divides b
module _ (b c : P) (e : polynomial_product Two 2 x c ≡ polynomial_product Two 2 y b) where
  no_free : (j : ℕ) → coefficient Two 2 b (0 ∷ j ∷ []) ≡ 0
  no_free j =
      sym (shifted (0 ∷ 1 ∷ []) (0 ∷ j ∷ []) b refl refl)
      ∙ ap (λ f. coefficient Two 2 f (0 ∷ (1 + j) ∷ [])) (sym e)
      ∙ absent (1 ∷ 0 ∷ []) (0 ∷ (1 + j) ∷ []) c (first_place (1 + j))

  among_map : (d : List ℕ → List ℕ) (q : List ℕ) (ks : List (List ℕ)) → Among q ks → Among (d q) (map d ks)
  among_map d q [] h = h
  among_map d q (k ∷ ks) (inl h) = inl (ap d h)
  among_map d q (k ∷ ks) (inr h) = inr (among_map d q ks h)

  abbrev lower : List ℕ → List ℕ
  lower a = tuple_difference a (1 ∷ 0 ∷ [])

  lowered : (a : List ℕ) → length a ≡ 2 → lower (tuple_sum (1 ∷ 0 ∷ []) a) ≡ a
  lowered [] l = absurd (let q : 0 ≡ 2 = l in omega arith)
  lowered (i ∷ []) l = absurd (let q : 1 ≡ 2 = l in omega arith)
  lowered (i ∷ j ∷ []) l = ap₂ (λ i j. i ∷ j ∷ []) (let q : (1 + i) - 1 ≡ i = omega arith in q) (let q : (0 + j) - 0 ≡ j = omega arith in q)
  lowered (i ∷ j ∷ k ∷ a) l = absurd (let q : length (i ∷ j ∷ k ∷ a) ≡ 2 = l in omega arith)

  quotient : (f : P) × ((a : List ℕ) → length a ≡ 2 → coefficient Two 2 f a ≡ coefficient Two 2 b (tuple_sum (1 ∷ 0 ∷ []) a))
  quotient =
      let s = finitely_many Two 2 b in
      any_coefficients Two 2 (λ a. coefficient Two 2 b (tuple_sum (1 ∷ 0 ∷ []) a)) (map lower s.0) (λ a l. coefficient_below Two 2 b (tuple_sum (1 ∷ 0 ∷ []) a)) (λ a l w. subst (λ q. Among q (map lower s.0)) (lowered a l) (among_map lower (tuple_sum (1 ∷ 0 ∷ []) a) s.0 (s.1 (tuple_sum (1 ∷ 0 ∷ []) a) w)))

  divides : polynomial_product Two 2 x quotient.0 ≡ b
  divides = same_coefficients Two 2 (polynomial_product Two 2 x quotient.0) b at
    where
      at : (a : List ℕ) → length a ≡ 2 → coefficient Two 2 (polynomial_product Two 2 x quotient.0) a ≡ coefficient Two 2 b a
      at [] l = absurd (let q : 0 ≡ 2 = l in omega arith)
      at (i ∷ []) l = absurd (let q : 1 ≡ 2 = l in omega arith)
      at (zero ∷ j ∷ []) l = absent (1 ∷ 0 ∷ []) (0 ∷ j ∷ []) quotient.0 (first_place j) ∙ sym (no_free j)
      at (suc i ∷ j ∷ []) l =
          let q : tuple_sum (1 ∷ 0 ∷ []) (i ∷ j ∷ []) ≡ suc i ∷ j ∷ [] = ap₂ (λ i j. i ∷ j ∷ []) (let q : 1 + i ≡ suc i = omega arith in q) (let q : 0 + j ≡ j = omega arith in q) in
          subst (λ a. coefficient Two 2 (polynomial_product Two 2 x quotient.0) a ≡ coefficient Two 2 b a) q (shifted (1 ∷ 0 ∷ []) (i ∷ j ∷ []) quotient.0 refl refl ∙ quotient.1 (i ∷ j ∷ []) refl)
      at (i ∷ j ∷ k ∷ a) l = absurd (let q : length (i ∷ j ∷ k ∷ a) ≡ 2 = l in omega arith)

pub coprime : (b : P) → ((c : P) × (polynomial_product Two 2 x c ≡ polynomial_product Two 2 y b)) → (c : P) × (polynomial_product Two 2 x c ≡ b)
coprime b h = ((quotient b h.0 h.1).0, divides b h.0 h.1)

pub x_nonzero : ¬ (x ≡ polynomial_zero Two 2)
x_nonzero h =
    let a : coefficient Two 2 x (1 ∷ 0 ∷ []) ≡ 1 = coefficient_term Two 2 1 (1 ∷ 0 ∷ []) refl in
    let b : coefficient Two 2 x (1 ∷ 0 ∷ []) ≡ 0 = ap (λ f. coefficient Two 2 f (1 ∷ 0 ∷ [])) h ∙ coefficient_zero Two 2 (1 ∷ 0 ∷ []) in
    absurd (omega arith)

pub proper : (a b : P) → ¬ (polynomial_sum Two 2 (polynomial_product Two 2 y a) (polynomial_product Two 2 x b) ≡ polynomial_one Two 2)
proper a b h =
    let one : coefficient Two 2 (polynomial_one Two 2) (0 ∷ 0 ∷ []) ≡ 1 = coefficient_one Two 2 in
    let u : coefficient Two 2 (polynomial_product Two 2 y a) (0 ∷ 0 ∷ []) ≡ 0 = absent (0 ∷ 1 ∷ []) (0 ∷ 0 ∷ []) a (second_place 0) in
    let v : coefficient Two 2 (polynomial_product Two 2 x b) (0 ∷ 0 ∷ []) ≡ 0 = absent (1 ∷ 0 ∷ []) (0 ∷ 0 ∷ []) b (first_place 0) in
    let s : coefficient Two 2 (polynomial_sum Two 2 (polynomial_product Two 2 y a) (polynomial_product Two 2 x b)) (0 ∷ 0 ∷ []) ≡ 0 = coefficient_sum Two 2 (polynomial_product Two 2 y a) (polynomial_product Two 2 x b) (0 ∷ 0 ∷ []) ∙ ap₂ (λ k m. (k + m) % 2) u v in
    let q : coefficient Two 2 (polynomial_sum Two 2 (polynomial_product Two 2 y a) (polynomial_product Two 2 x b)) (0 ∷ 0 ∷ []) ≡ coefficient Two 2 (polynomial_one Two 2) (0 ∷ 0 ∷ []) = ap (λ f. coefficient Two 2 f (0 ∷ 0 ∷ [])) h in
    absurd (omega arith)

-- the ideal of x^2 and x * y in degree 2: the limit is zero, and one move is the least number that is enough
pub x_y_verdict : Holds Two 2 (zero_limit 2 (pair_ideal 2 x x y) true 1)
x_y_verdict = pair_verdict_words 2 x y x_nonzero coprime proper

-- y divides x * b only if it divides b
pub turned : (b : P) → ((c : P) × (polynomial_product Two 2 y c ≡ polynomial_product Two 2 x b)) → (c : P) × (polynomial_product Two 2 y c ≡ b)
unfolding polynomial_product
turned b h =
    let r = coprime h.0 (b, sym h.1) in
    (r.0, cancel_factor Two 2 x (polynomial_product Two 2 y r.0) b x_nonzero (mul_left_comm (polynomials_laws Two 2) x y r.0 ∙ ap (λ v. polynomial_product Two 2 y v) r.1 ∙ h.1))

pub y_nonzero : ¬ (y ≡ polynomial_zero Two 2)
y_nonzero h =
    let a : coefficient Two 2 y (0 ∷ 1 ∷ []) ≡ 1 = coefficient_term Two 2 1 (0 ∷ 1 ∷ []) refl in
    let b : coefficient Two 2 y (0 ∷ 1 ∷ []) ≡ 0 = ap (λ f. coefficient Two 2 f (0 ∷ 1 ∷ [])) h ∙ coefficient_zero Two 2 (0 ∷ 1 ∷ []) in
    absurd (omega arith)

pub one_nonzero : ¬ (polynomial_one Two 2 ≡ polynomial_zero Two 2)
one_nonzero h =
    let a : coefficient Two 2 (polynomial_one Two 2) (0 ∷ 0 ∷ []) ≡ 1 = coefficient_one Two 2 in
    let b : coefficient Two 2 (polynomial_one Two 2) (0 ∷ 0 ∷ []) ≡ 0 = ap (λ f. coefficient Two 2 f (0 ∷ 0 ∷ [])) h ∙ coefficient_zero Two 2 (0 ∷ 0 ∷ []) in
    absurd (omega arith)

-- the ideal of x and y in degree 2: the limit is not zero, and its support ideal is that of x and y
pub point_x_y : Holds Two 2 (zero_limit 2 (pair_ideal 2 (polynomial_one Two 2) x y) false 0)
unfolding polynomial_sum polynomial_product polynomial_one
point_x_y = point_verdict 2 x y x_nonzero y_nonzero coprime turned proper one_nonzero

pub support_x_y : Holds Two 2 (support 2 (pair_ideal 2 (polynomial_one Two 2) x y) (y ∷ x ∷ []))
unfolding polynomial_sum polynomial_product polynomial_one
support_x_y = point_support 2 x y x_nonzero y_nonzero coprime turned proper one_nonzero
