-- The meaning of a list of terms over GF(p), in the words that contracts cite
use Rattle.std.proofs.Common.{◌-◌, mul-zero, mul-add, zero-add, ◌≡◌, ◌<◌, ℕ, ◌+◌, ◌*◌, ◌%◌, Bool, true, false, if◌then◌else◌, List, [], ◌∷◌, ◌++◌, map, length, inl, inr, refl, ap, ap₂, sym, ◌∙◌, subst, mod-eq_of_lt, arith}
use Rattle.std.proofs.Math.Nat.{zero-mod, add-mod, mod_self}
use Rattle.std.proofs.lemmas.Nat.{mul-mod_first, mul-mod_second}
use Rattle.std.specs.declared.cmp.Ordering.{Ordering}
use Rattle.fm_tuple.specs.Tuple.{tuple_sum}
use Rattle.fm_gfp.specs.Primes.{prime_value}
use Rattle.fm_gfp.specs.declared.prime.Prime.{Prime}
use Rattle.fm_algebra.specs.Gf.{gf, gf_is_zero, prime_positive, residue, Residue, same_residue}
use Rattle.fm_algebra.specs.Poly.{coeff, same_tuple, tuple_eq, apart}
use Rattle.fm_algebra.specs.Monomial.{monomial, sum_of_terms}
use Rattle.fm_algebra.specs.Heads.{IsMonomialOrder, IsHead, AllLess, IsFalling, AreTerms}
use Rattle.fm_algebra.specs.Polynomials.{Polynomial, polynomials, coefficient, polynomial_zero, polynomial_sum, polynomial_product, polynomial_multiple, polynomial_negative, polynomial_term, polynomial_of, listed_coefficient, AllFit, AreListedTerms, HasHead}
use Rattle.fm_algebra.proofs.Algebra.{mul_zero, zero_mul, add_mul, neg_zero, neg_sum}
use Rattle.fm_algebra.proofs.Gf.{gf_laws}
use Rattle.fm_algebra.proofs.Monomial.{monomial_mul}
use Rattle.fm_algebra.proofs.Terms.{coeff_first, first_is_head, terms_unique}
use Rattle.fm_algebra.proofs.Concrete.{polynomials_laws}
use Rattle.fm_algebra.proofs.PolynomialWords.{same_coefficients, coefficient_zero, coefficient_sum, coefficient_multiple, coefficient_negative, coefficient_term, coefficient_term_elsewhere}

module _ (p : Prime) (n : ℕ) where
  abbrev pub Terms : Type 0
  Terms = List (List ℕ × ℕ)

  abbrev pub of : ℕ → Residue (prime_value p)
  of c = residue (prime_value p) (prime_positive p) c

  pub of_append : (ts us : Terms) → polynomial_of p n (ts ++ us) ≡ polynomial_sum p n (polynomial_of p n ts) (polynomial_of p n us)
  unfolding polynomial_of polynomial_sum polynomial_zero
  of_append [] us = sym ((polynomials_laws p n).zero_add _)
  of_append (t ∷ ts) us = ap ((polynomials p n).add (polynomial_term p n t.1 t.0)) (of_append ts us) ∙ sym ((polynomials_laws p n).add_assoc _ _ _)

  -- ---- coefficients
  term_at : (t : List ℕ × ℕ) (a : List ℕ) → length a ≡ n → coefficient p n (polynomial_term p n t.1 t.0) a ≡ (if tuple_eq a t.0 then t.1 else 0) % prime_value p
  term_at t a l = elim (same_tuple a t.0) [
    | inl s ↦ ap (coefficient p n (polynomial_term p n t.1 t.0)) s.0 ∙ coefficient_term p n t.1 t.0 (ap length (sym s.0) ∙ l) ∙ ap (λ b. (if b then t.1 else 0) % prime_value p) (sym s.1)
    | inr w ↦ coefficient_term_elsewhere p n t.1 t.0 a (apart a t.0 w) ∙ sym (zero-mod (prime_value p)) ∙ ap (λ b. (if b then t.1 else 0) % prime_value p) (sym w)
  ]

  pub coefficient_of : (ts : Terms) (a : List ℕ) → length a ≡ n → coefficient p n (polynomial_of p n ts) a ≡ listed_coefficient ts a % prime_value p
  unfolding polynomial_of
  coefficient_of [] a l = coefficient_zero p n a ∙ sym (zero-mod (prime_value p))
  coefficient_of (t ∷ ts) a l =
      coefficient_sum p n (polynomial_term p n t.1 t.0) (polynomial_of p n ts) a
      ∙ ap₂ (λ x y. (x + y) % prime_value p) (term_at t a l) (coefficient_of ts a l)
      ∙ sym (add-mod (if tuple_eq a t.0 then t.1 else 0) (listed_coefficient ts a) (prime_value p))

  -- two lists of terms with the same coefficients modulo p are one polynomial
  pub same_listed : (ts us : Terms) → ((a : List ℕ) → listed_coefficient ts a % prime_value p ≡ listed_coefficient us a % prime_value p) → polynomial_of p n ts ≡ polynomial_of p n us
  same_listed ts us h = same_coefficients p n _ _ (λ a l. coefficient_of ts a l ∙ h a ∙ sym (coefficient_of us a l))

  -- the order of two terms plays no part, like terms are added, and a term with a coefficient that p divides is dropped
  pub of_swap : (t u : List ℕ × ℕ) (ts : Terms) → polynomial_of p n (t ∷ u ∷ ts) ≡ polynomial_of p n (u ∷ t ∷ ts)
  of_swap t u ts = same_listed _ _ (λ a. ap (λ k. k % prime_value p) (turned (if tuple_eq a t.0 then t.1 else 0) (if tuple_eq a u.0 then u.1 else 0) (listed_coefficient ts a)))
    where
      turned : (i j k : ℕ) → i + (j + k) ≡ j + (i + k)
      turned i j k = omega arith

  pub of_like : (a : List ℕ) (c d : ℕ) (ts : Terms) → polynomial_of p n ((a, c) ∷ (a, d) ∷ ts) ≡ polynomial_of p n ((a, c + d) ∷ ts)
  of_like a c d ts = same_listed _ _ (λ b. ap (λ k. k % prime_value p) (added (tuple_eq b a) c d (listed_coefficient ts b)))
    where
      added : (t : Bool) (c d k : ℕ) → (if t then c else 0) + ((if t then d else 0) + k) ≡ (if t then c + d else 0) + k
      added true c d k = omega arith
      added false c d k = omega arith

  pub of_modulo : (a : List ℕ) (c d : ℕ) (ts : Terms) → c % prime_value p ≡ d % prime_value p → polynomial_of p n ((a, c) ∷ ts) ≡ polynomial_of p n ((a, d) ∷ ts)
  of_modulo a c d ts e = same_listed _ _ (λ b.
      add-mod (if tuple_eq b a then c else 0) (listed_coefficient ts b) (prime_value p)
      ∙ ap (λ x. (x + listed_coefficient ts b % prime_value p) % prime_value p) (chosen (tuple_eq b a))
      ∙ sym (add-mod (if tuple_eq b a then d else 0) (listed_coefficient ts b) (prime_value p)))
    where
      chosen : (t : Bool) → (if t then c else 0) % prime_value p ≡ (if t then d else 0) % prime_value p
      chosen true = e
      chosen false = refl

  pub of_drop : (a : List ℕ) (c : ℕ) (ts : Terms) → c % prime_value p ≡ 0 → polynomial_of p n ((a, c) ∷ ts) ≡ polynomial_of p n ts
  of_drop a c ts e = of_modulo a c 0 ts (e ∙ sym (zero-mod (prime_value p))) ∙ same_listed _ _ (λ b. ap (λ k. k % prime_value p) (nothing (tuple_eq b a) (listed_coefficient ts b)))
    where
      nothing : (t : Bool) (k : ℕ) → (if t then 0 else 0) + k ≡ k
      nothing true k = omega arith
      nothing false k = omega arith

  -- ---- products
  -- c * x ^ a times each term
  abbrev pub shifted_terms : ℕ → List ℕ → Terms → Terms
  shifted_terms c a ts = map (λ t. (tuple_sum a t.0, c * t.1)) ts

  pub term_product : (c d : ℕ) (a b : List ℕ) → length a ≡ n → length b ≡ n
      → polynomial_product p n (polynomial_term p n c a) (polynomial_term p n d b) ≡ polynomial_term p n (c * d) (tuple_sum a b)
  unfolding polynomial_product polynomial_term
  term_product c d a b l m =
      monomial_mul (gf p) (gf_laws p) (gf_is_zero p) n (of c) (of d) a b l m
      ∙ ap (λ x. monomial (gf p) (gf_is_zero p) n x (tuple_sum a b)) (same_residue _ _ (mul-mod_first c (d % prime_value p) (prime_value p) ∙ mul-mod_second c d (prime_value p)))

  pub term_times : (c : ℕ) (a : List ℕ) (ts : Terms) → length a ≡ n → AllFit n ts
      → polynomial_product p n (polynomial_term p n c a) (polynomial_of p n ts) ≡ polynomial_of p n (shifted_terms c a ts)
  unfolding polynomial_of polynomial_product polynomial_sum polynomial_zero
  term_times c a [] l f = mul_zero (polynomials_laws p n) (polynomial_term p n c a)
  term_times c a (t ∷ ts) l f =
      (polynomials_laws p n).mul_add (polynomial_term p n c a) (polynomial_term p n t.1 t.0) (polynomial_of p n ts)
      ∙ ap₂ (polynomials p n).add (term_product c t.1 a t.0 l f.0) (term_times c a ts l f.1)

  -- each term times each term
  abbrev pub product_terms : Terms → Terms → Terms
  product_terms [] us = []
  product_terms (t ∷ ts) us = shifted_terms t.1 t.0 us ++ product_terms ts us

  pub of_product : (ts us : Terms) → AllFit n ts → AllFit n us → polynomial_product p n (polynomial_of p n ts) (polynomial_of p n us) ≡ polynomial_of p n (product_terms ts us)
  unfolding polynomial_of polynomial_product polynomial_zero polynomial_sum
  of_product [] us f g = zero_mul (polynomials_laws p n) (polynomial_of p n us)
  of_product (t ∷ ts) us f g =
      add_mul (polynomials_laws p n) (polynomial_term p n t.1 t.0) (polynomial_of p n ts) (polynomial_of p n us)
      ∙ ap₂ (polynomials p n).add (term_times t.1 t.0 us f.0 g) (of_product ts us f.1 g)
      ∙ sym (of_append (shifted_terms t.1 t.0 us) (product_terms ts us))

  -- ---- multiples and negatives
  listed_multiple : (c : ℕ) (ts : Terms) (a : List ℕ) → listed_coefficient (map (λ t. (t.0, c * t.1)) ts) a ≡ c * listed_coefficient ts a
  listed_multiple c [] a = sym (mul-zero c)
  listed_multiple c (t ∷ ts) a =
      ap (λ k. (if tuple_eq a t.0 then c * t.1 else 0) + k) (listed_multiple c ts a) ∙ chosen (tuple_eq a t.0)
    where
      chosen : (b : Bool) → (if b then c * t.1 else 0) + c * listed_coefficient ts a ≡ c * ((if b then t.1 else 0) + listed_coefficient ts a)
      chosen true = sym (mul-add c t.1 (listed_coefficient ts a))
      chosen false = zero-add (c * listed_coefficient ts a) ∙ ap (λ k. c * k) (sym (zero-add (listed_coefficient ts a)))

  pub of_multiple : (c : ℕ) (ts : Terms) → polynomial_multiple p n c (polynomial_of p n ts) ≡ polynomial_of p n (map (λ t. (t.0, c * t.1)) ts)
  of_multiple c ts = same_coefficients p n _ _ (λ a l.
      coefficient_multiple p n c (polynomial_of p n ts) a ∙ ap (λ k. (c * k) % prime_value p) (coefficient_of ts a l)
      ∙ mul-mod_second c (listed_coefficient ts a) (prime_value p) ∙ ap (λ k. k % prime_value p) (sym (listed_multiple c ts a))
      ∙ sym (coefficient_of (map (λ t. (t.0, c * t.1)) ts) a l))

  sub-zero : (k : ℕ) → k - 0 ≡ k
  sub-zero k = omega arith

  negative_of_term : (c : ℕ) (a : List ℕ) → polynomial_negative p n (polynomial_term p n c a) ≡ polynomial_term p n (prime_value p - c % prime_value p) a
  negative_of_term c a = same_coefficients p n _ _ (λ b l. coefficient_negative p n (polynomial_term p n c a) b ∙ elim (same_tuple b a) [
    | inl s ↦ ap (λ x. (prime_value p - coefficient p n (polynomial_term p n c a) x) % prime_value p) s.0
        ∙ ap (λ k. (prime_value p - k) % prime_value p) (coefficient_term p n c a (ap length (sym s.0) ∙ l))
        ∙ sym (ap (coefficient p n (polynomial_term p n (prime_value p - c % prime_value p) a)) s.0 ∙ coefficient_term p n (prime_value p - c % prime_value p) a (ap length (sym s.0) ∙ l))
    | inr w ↦ ap (λ k. (prime_value p - k) % prime_value p) (coefficient_term_elsewhere p n c a b (apart b a w)) ∙ ap (λ k. k % prime_value p) (sub-zero (prime_value p)) ∙ mod_self (prime_value p)
        ∙ sym (coefficient_term_elsewhere p n (prime_value p - c % prime_value p) a b (apart b a w))
  ])

  pub of_negative : (ts : Terms) → polynomial_negative p n (polynomial_of p n ts) ≡ polynomial_of p n (map (λ t. (t.0, prime_value p - t.1 % prime_value p)) ts)
  unfolding polynomial_of polynomial_sum polynomial_zero polynomial_negative
  of_negative [] = neg_zero (polynomials_laws p n)
  of_negative (t ∷ ts) =
      neg_sum (polynomials_laws p n) (polynomial_term p n t.1 t.0) (polynomial_of p n ts)
      ∙ ap₂ (polynomials p n).add (negative_of_term t.1 t.0) (of_negative ts)

  -- ---- falling lists
  abbrev pub reduced : Terms → List (List ℕ × Residue (prime_value p))
  reduced ts = map (λ t. (t.0, of t.1)) ts

  pub of_reduced : (ts : Terms) → polynomial_of p n ts ≡ sum_of_terms (gf p) (gf_is_zero p) n (reduced ts)
  unfolding polynomial_of polynomial_sum polynomial_zero polynomial_term sum_of_terms
  of_reduced [] = refl
  of_reduced (t ∷ ts) = ap ((polynomials p n).add (polynomial_term p n t.1 t.0)) (of_reduced ts)

  are_terms : (ts : Terms) → AreListedTerms p n ts → AreTerms (gf p) n (reduced ts)
  are_terms [] w = tt
  are_terms (t ∷ ts) w = (w.0, nonzero t.1 w.1 w.2, are_terms ts w.3)
    where
      nonzero : (c : ℕ) → 0 < c → c < prime_value p → ¬ (of c ≡ (gf p).zero)
      nonzero c pos below e = let zero : c ≡ 0 = sym (mod-eq_of_lt below) ∙ ap (λ x. x.number) e ∙ zero-mod (prime_value p) in omega arith

  module _ (R : List ℕ → List ℕ → Ordering) where
    all_less : (a : List ℕ) (ts : Terms) → AllLess R a ts → AllLess R a (reduced ts)
    all_less a [] w = tt
    all_less a (t ∷ ts) w = (w.0, all_less a ts w.1)

    are_falling : (ts : Terms) → IsFalling R ts → IsFalling R (reduced ts)
    are_falling [] w = tt
    are_falling (t ∷ ts) w = (all_less t.0 ts w.0, are_falling ts w.1)

  reduced_same : (ts us : Terms) → AreListedTerms p n ts → AreListedTerms p n us → reduced ts ≡ reduced us → ts ≡ us
  reduced_same [] [] w v e = refl
  reduced_same [] (u ∷ us) w v e = cc
  reduced_same (t ∷ ts) [] w v e = cc
  reduced_same (t ∷ ts) (u ∷ us) w v e =
      let head : ◌≡◌ {A = List ℕ × Residue (prime_value p)} (t.0, of t.1) (u.0, of u.1) = heads e in
      let number : t.1 ≡ u.1 = sym (mod-eq_of_lt w.2) ∙ ap (λ x. x.1.number) head ∙ mod-eq_of_lt v.2 in
      ap₂ (λ x y. x ∷ y) (ap₂ (λ a c. (a, c)) (ap (λ x. x.0) head) number) (reduced_same ts us w.3 v.3 (tails e))
    where
      heads : {A : Type 0} {x y : A} {u v : List A} → x ∷ u ≡ y ∷ v → x ≡ y
      heads z = cc

      tails : {A : Type 0} {x y : A} {u v : List A} → x ∷ u ≡ y ∷ v → u ≡ v
      tails z = cc

  module _ {R : List ℕ → List ℕ → Ordering} (o : IsMonomialOrder R) where
    pub first_coefficient : (t : List ℕ × ℕ) (ts : Terms) → AreListedTerms p n (t ∷ ts) → IsFalling R (t ∷ ts) → coefficient p n (polynomial_of p n (t ∷ ts)) t.0 ≡ t.1
    unfolding coefficient
    first_coefficient t ts w f =
        ap (λ (g : Polynomial p n). (coeff g t.0).number) (of_reduced (t ∷ ts))
        ∙ ap (λ c. c.number) (coeff_first (gf p) (gf_laws p) (gf_is_zero p) n o (t.0, of t.1) (reduced ts) (are_terms (t ∷ ts) w) (are_falling R (t ∷ ts) f))
        ∙ mod-eq_of_lt w.2

    pub first_head : (t : List ℕ × ℕ) (ts : Terms) → AreListedTerms p n (t ∷ ts) → IsFalling R (t ∷ ts) → HasHead p n R (polynomial_of p n (t ∷ ts)) t.0
    unfolding HasHead
    first_head t ts w f =
        subst (λ g. IsHead R g t.0) (sym (of_reduced (t ∷ ts)))
        (first_is_head (gf p) (gf_laws p) (gf_is_zero p) n o (t.0, of t.1) (reduced ts) (are_terms (t ∷ ts) w) (are_falling R (t ∷ ts) f))

    pub listed_unique : (ts us : Terms) → AreListedTerms p n ts → IsFalling R ts → AreListedTerms p n us → IsFalling R us → polynomial_of p n ts ≡ polynomial_of p n us → ts ≡ us
    listed_unique ts us w f v g e =
        reduced_same ts us w v (terms_unique (gf p) (gf_laws p) (gf_is_zero p) n o (reduced ts) (reduced us) (are_terms ts w) (are_falling R ts f) (are_terms us v) (are_falling R us g)
        (sym (of_reduced ts) ∙ e ∙ of_reduced us))
