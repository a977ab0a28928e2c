-- A polynomial is the sum of all x ^ a times the twist of its slice at a
use Rattle.std.proofs.Common.{◌≡◌, ◌<◌, ℕ, zero, suc, ◌+◌, ◌*◌, ◌^◌, List, [], ◌∷◌, ◌++◌, map, length, replicate, ◌⊎◌, inl, inr, refl, ap, ap₂, sym, ◌∙◌, subst, arith, mod-eq_of_lt}
use Rattle.fm_gfp.specs.Primes.{prime_value}
use Rattle.fm_gfp.specs.declared.prime.Prime.{Prime}
use Rattle.fm_gfp.proofs.Residues.{prime_above_one}
use Rattle.fm_algebra.specs.Poly.{Among, same_tuple, apart}
use Rattle.fm_algebra.specs.Twist.{AllBelow, tuple_place, tuple_quotient, tuple_remainder, with_first_below, tuples_below}
use Rattle.fm_algebra.specs.Polynomials.{Polynomial, polynomials, coefficient, polynomial_zero, polynomial_one, polynomial_sum, polynomial_product, polynomial_term, polynomial_total, frobenius_twist, frobenius_slice}
use Rattle.fm_algebra.proofs.Algebra.{mul_zero, mul_one, add_zero}
use Rattle.fm_algebra.proofs.Slices.{slice_zero}
use Rattle.fm_algebra.proofs.TuplePlaces.{quotient_place, remainder_place, among_tuples_below, length_zeros}
use Rattle.fm_algebra.proofs.Concrete.{polynomials_laws, polynomials_sliced}
use Rattle.fm_algebra.proofs.PolynomialWords.{same_coefficients, coefficient_zero, coefficient_one, coefficient_one_elsewhere, coefficient_term, coefficient_term_elsewhere}
use Rattle.fm_algebra.proofs.TwistWords.{slice_coefficient, slice_of_sum, slice_of_product, same_slices, digits}

-- ---- the tuples below q are listed once each
abbrev pub NoRepeats : List (List ℕ) → Type 0
NoRepeats [] = Unit {0}
NoRepeats (k ∷ ks) = ¬ (Among k ks) × NoRepeats ks

among_append : (a : List ℕ) (ks ls : List (List ℕ)) → Among a (ks ++ ls) → Among a ks ⊎ Among a ls
among_append a [] ls w = inr w
among_append a (k ∷ ks) ls (inl e) = inl (inl e)
among_append a (k ∷ ks) ls (inr w) = elim (among_append a ks ls w) [ inl v ↦ inl (inr v) | inr v ↦ inr v ]

among_prefixed : (i : ℕ) (a : List ℕ) (ks : List (List ℕ)) → Among a (map (λ b. i ∷ b) ks) → (b : List ℕ) × (a ≡ i ∷ b) × Among b ks
among_prefixed i a [] w = absurd w
among_prefixed i a (k ∷ ks) (inl e) = (k, e, inl refl)
among_prefixed i a (k ∷ ks) (inr w) = let t = among_prefixed i a ks w in (t.0, t.1, inr t.2)

among_below : (q : ℕ) (a : List ℕ) (ks : List (List ℕ)) → Among a (with_first_below q ks) → (i : ℕ) × (b : List ℕ) × (i < q) × (a ≡ i ∷ b) × Among b ks
unfolding with_first_below
among_below zero a ks w = absurd w
among_below (suc q) a ks w = elim (among_append a (map (λ b. q ∷ b) ks) (with_first_below q ks) w) [
  | inl v ↦ (let t = among_prefixed q a ks v in (q, t.0, last q, t.1, t.2))
  | inr v ↦ (let t = among_below q a ks v in (t.0, t.1, earlier t.0 q t.2, t.3, t.4))
]
  where
    last : (q : ℕ) → q < suc q
    last q = omega arith

    earlier : (i q : ℕ) → i < q → i < suc q
    earlier i q h = omega arith

firsts : {i j : ℕ} {a b : List ℕ} → i ∷ a ≡ j ∷ b → i ≡ j
firsts e = cc

rests : {i j : ℕ} {a b : List ℕ} → i ∷ a ≡ j ∷ b → a ≡ b
rests e = cc

pub listed_tuples : (n q : ℕ) (a : List ℕ) → Among a (tuples_below n q) → (length a ≡ n) × AllBelow q a
unfolding tuples_below
listed_tuples zero q a (inl e) = (ap length e, subst (AllBelow q) (sym e) tt)
listed_tuples zero q a (inr w) = absurd w
listed_tuples (suc n) q a w =
    let t = among_below q a (tuples_below n q) w in
    let rest : (length t.1 ≡ n) × AllBelow q t.1 = listed_tuples n q t.1 t.4 in
    (ap length t.3 ∙ ap suc rest.0, subst (AllBelow q) (sym t.3) (t.2, rest.1))

once_prefixed : (i : ℕ) (ks : List (List ℕ)) → NoRepeats ks → NoRepeats (map (λ b. i ∷ b) ks)
once_prefixed i [] w = tt
once_prefixed i (k ∷ ks) w = ((λ v. absurd (again i k ks w.0 (among_prefixed i (i ∷ k) ks v))), once_prefixed i ks w.1)
  where
    again : (i : ℕ) (k : List ℕ) (ks : List (List ℕ)) → ¬ (Among k ks) → ¬ ((b : List ℕ) × (i ∷ k ≡ i ∷ b) × Among b ks)
    again i k ks w t = w (subst (λ x. Among x ks) (sym (rests t.1)) t.2)

once_append : (ks ls : List (List ℕ)) → NoRepeats ks → NoRepeats ls → ((a : List ℕ) → Among a ks → ¬ (Among a ls)) → NoRepeats (ks ++ ls)
once_append [] ls w v h = v
once_append (k ∷ ks) ls w v h =
    ((λ u. elim (among_append k ks ls u) [ inl x ↦ w.0 x | inr x ↦ h k (inl refl) x ]), once_append ks ls w.1 v (λ a x. h a (inr x)))

once_below : (q : ℕ) (ks : List (List ℕ)) → NoRepeats ks → NoRepeats (with_first_below q ks)
unfolding with_first_below
once_below zero ks w = tt
once_below (suc q) ks w = once_append (map (λ b. q ∷ b) ks) (with_first_below q ks) (once_prefixed q ks w) (once_below q ks w) (λ a v u.
    let s = among_prefixed q a ks v in
    let t = among_below q a ks u in
    absurd (other t.0 q t.2 (firsts (sym t.3 ∙ s.1))))
  where
    other : (i q : ℕ) → i < q → ¬ (i ≡ q)
    other i q h e = omega arith

pub tuples_once : (n q : ℕ) → NoRepeats (tuples_below n q)
unfolding tuples_below
tuples_once zero q = ((λ w. w), tt)
tuples_once (suc n) q = once_below q (tuples_below n q) (tuples_once n q)

-- q * 0 + a
place_origin : (q n : ℕ) (a : List ℕ) → length a ≡ n → tuple_place q (replicate n 0) a ≡ a
place_origin q zero [] l = refl
place_origin q zero (i ∷ a) l = absurd (omega arith)
place_origin q (suc n) [] l = absurd (omega arith)
place_origin q (suc n) (i ∷ a) l =
    let head : q * 0 + i ≡ i = omega arith in
    ap₂ (λ x y. x ∷ y) head (place_origin q n a (omega arith))

-- ---- the sum
module _ (p : Prime) (n e : ℕ) where
  abbrev q : ℕ
  q = prime_value p ^ e

  abbrev IsDigits : List ℕ → Type 0
  IsDigits a = (length a ≡ n) × AllBelow q a

  -- the slices of x ^ a: 1 at a, and else 0
  slice_same : (a : List ℕ) → IsDigits a → frobenius_slice p n e a (polynomial_term p n 1 a) ≡ polynomial_one p n
  slice_same a w = same_coefficients p n _ _ (λ b l. slice_coefficient p n e a b (polynomial_term p n 1 a) w.0 w.1 l ∙ elim (same_tuple b (replicate n 0)) [
    | inl s ↦ ap (λ x. coefficient p n (polynomial_term p n 1 a) (tuple_place q x a)) s.0
        ∙ ap (coefficient p n (polynomial_term p n 1 a)) (place_origin q n a w.0)
        ∙ coefficient_term p n 1 a w.0 ∙ mod-eq_of_lt (prime_above_one p) ∙ sym (ap (coefficient p n (polynomial_one p n)) s.0 ∙ coefficient_one p n)
    | inr v ↦ coefficient_term_elsewhere p n 1 a (tuple_place q b a) (λ s. apart b (replicate n 0) v (back b l s)) ∙ sym (coefficient_one_elsewhere p n b (apart b (replicate n 0) v))
  ])
    where
      back : (b : List ℕ) → length b ≡ n → tuple_place q b a ≡ a → b ≡ replicate n 0
      back b l s =
          sym (quotient_place q b a (w.0 ∙ sym l) w.1) ∙ ap (tuple_quotient q) (s ∙ sym (place_origin q n a w.0))
          ∙ quotient_place q (replicate n 0) a (w.0 ∙ sym (length_zeros n)) w.1

  slice_other : (a d : List ℕ) → IsDigits a → IsDigits d → ¬ (d ≡ a) → frobenius_slice p n e d (polynomial_term p n 1 a) ≡ polynomial_zero p n
  slice_other a d w v h = same_coefficients p n _ _ (λ b l.
      slice_coefficient p n e d b (polynomial_term p n 1 a) v.0 v.1 l
      ∙ coefficient_term_elsewhere p n 1 a (tuple_place q b d) (λ s. h (back b l s)) ∙ sym (coefficient_zero p n b))
    where
      back : (b : List ℕ) → length b ≡ n → tuple_place q b d ≡ a → d ≡ a
      back b l s =
          sym (remainder_place q b d (v.0 ∙ sym l) v.1) ∙ ap (tuple_remainder q) (s ∙ sym (place_origin q n a w.0))
          ∙ remainder_place q (replicate n 0) a (w.0 ∙ sym (length_zeros n)) w.1

  -- x ^ a * g ^[q]
  abbrev summand : (List ℕ → Polynomial p n) → List ℕ → Polynomial p n
  summand u a = polynomial_product p n (polynomial_term p n 1 a) (frobenius_twist p n e (u a))

  -- the slice of a summand
  slice_summand : (u : List ℕ → Polynomial p n) (a d : List ℕ) → IsDigits d
      → frobenius_slice p n e d (summand u a) ≡ polynomial_product p n (u a) (frobenius_slice p n e d (polynomial_term p n 1 a))
  unfolding polynomial_product
  slice_summand u a d v =
      ap (frobenius_slice p n e d) (turned (polynomial_term p n 1 a) (frobenius_twist p n e (u a)))
      ∙ slice_of_product p n e d (u a) (polynomial_term p n 1 a) v.0 v.1
    where
      turned : (f g : Polynomial p n) → polynomial_product p n f g ≡ polynomial_product p n g f
      turned f g = (polynomials_laws p n).mul_comm f g

  abbrev summands : (List ℕ → Polynomial p n) → List (List ℕ) → List (Polynomial p n)
  summands u ks = map (λ a. summand u a) ks

  slice_next : (u : List ℕ → Polynomial p n) (a : List ℕ) (ks : List (List ℕ)) (d : List ℕ) → IsDigits d
      → frobenius_slice p n e d (polynomial_total p n (summands u (a ∷ ks)))
      ≡ polynomial_sum p n (polynomial_product p n (u a) (frobenius_slice p n e d (polynomial_term p n 1 a))) (frobenius_slice p n e d (polynomial_total p n (summands u ks)))
  unfolding polynomial_total
  slice_next u a ks d v =
      slice_of_sum p n e d (summand u a) (polynomial_total p n (summands u ks)) v.0 v.1
      ∙ ap (λ x. polynomial_sum p n x (frobenius_slice p n e d (polynomial_total p n (summands u ks)))) (slice_summand u a d v)

  -- a summand at another tuple
  product_zero : (f g : Polynomial p n) → g ≡ polynomial_zero p n → polynomial_product p n f g ≡ polynomial_zero p n
  unfolding polynomial_product polynomial_zero
  product_zero f g z = ap ((polynomials p n).mul f) z ∙ mul_zero (polynomials_laws p n) f

  product_one : (f g : Polynomial p n) → g ≡ polynomial_one p n → polynomial_product p n f g ≡ f
  unfolding polynomial_product polynomial_one
  product_one f g z = ap ((polynomials p n).mul f) z ∙ mul_one (polynomials_laws p n) f

  sum_zero : (f g h : Polynomial p n) → f ≡ polynomial_zero p n → g ≡ h → polynomial_sum p n f g ≡ h
  unfolding polynomial_sum polynomial_zero
  sum_zero f g h z w = ap₂ (polynomials p n).add z w ∙ (polynomials_laws p n).zero_add h

  sum_first : (f g h : Polynomial p n) → f ≡ h → g ≡ polynomial_zero p n → polynomial_sum p n f g ≡ h
  unfolding polynomial_sum polynomial_zero
  sum_first f g h w z = ap₂ (polynomials p n).add w z ∙ add_zero (polynomials_laws p n) h

  slice_of_zero : (d : List ℕ) → IsDigits d → frobenius_slice p n e d (polynomial_total p n []) ≡ polynomial_zero p n
  unfolding polynomial_total polynomial_zero
  slice_of_zero d v = slice_zero (polynomials_laws p n) (polynomials_sliced p n e) (digits p n e d v.0 v.1)

  none_of : (u : List ℕ → Polynomial p n) (ks : List (List ℕ)) (d : List ℕ) → ((a : List ℕ) → Among a ks → IsDigits a) → IsDigits d → ¬ (Among d ks)
      → frobenius_slice p n e d (polynomial_total p n (summands u ks)) ≡ polynomial_zero p n
  none_of u [] d all v w = slice_of_zero d v
  none_of u (k ∷ ks) d all v w =
      slice_next u k ks d v
      ∙ sum_zero _ _ _ (product_zero (u k) _ (slice_other k d (all k (inl refl)) v (λ s. w (inl s)))) (none_of u ks d (λ a x. all a (inr x)) v (λ x. w (inr x)))

  one_of : (u : List ℕ → Polynomial p n) (ks : List (List ℕ)) (d : List ℕ) → ((a : List ℕ) → Among a ks → IsDigits a) → IsDigits d → NoRepeats ks → Among d ks
      → frobenius_slice p n e d (polynomial_total p n (summands u ks)) ≡ u d
  one_of u [] d all v once w = absurd w
  one_of u (k ∷ ks) d all v once (inl s) =
      slice_next u k ks d v
      ∙ sum_first _ _ (u d) (product_one (u k) _ (ap (λ x. frobenius_slice p n e x (polynomial_term p n 1 k)) s ∙ slice_same k (all k (inl refl))) ∙ ap u (sym s))
      (none_of u ks d (λ a x. all a (inr x)) v (λ x. once.0 (subst (λ y. Among y ks) s x)))
  one_of u (k ∷ ks) d all v once (inr w) =
      slice_next u k ks d v
      ∙ sum_zero _ _ (u d) (product_zero (u k) _ (slice_other k d (all k (inl refl)) v (λ s. once.0 (subst (λ y. Among y ks) s w))))
      (one_of u ks d (λ a x. all a (inr x)) v once.1 w)

  -- the slices of the sum of all x ^ a * (u a)^[q] are the u a
  pub slice_of_total : (u : List ℕ → Polynomial p n) (d : List ℕ) → length d ≡ n → AllBelow (prime_value p ^ e) d
      → frobenius_slice p n e d (polynomial_total p n (map (λ a. polynomial_product p n (polynomial_term p n 1 a) (frobenius_twist p n e (u a))) (tuples_below n (prime_value p ^ e)))) ≡ u d
  slice_of_total u d l w = one_of u (tuples_below n q) d (listed_tuples n q) (l, w) (tuples_once n q) (among_tuples_below n q d l w)

  -- f is the sum of all x ^ a * (slice of f at a)^[q] with a below q
  pub slice_total : (f : Polynomial p n)
      → polynomial_total p n (map (λ a. polynomial_product p n (polynomial_term p n 1 a) (frobenius_twist p n e (frobenius_slice p n e a f))) (tuples_below n (prime_value p ^ e))) ≡ f
  slice_total f = same_slices p n e _ f (slice_of_total (λ a. frobenius_slice p n e a f))
