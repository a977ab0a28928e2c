-- The vectors of lists of terms: sums, multiples and heads.
use Rattle.std.proofs.Common.{ℕ, suc, ◌-◌, ◌*◌, ◌%◌, ◌<◌, ◌≤◌, ◌≡◌, ◌≢◌, ◌⊎◌, inl, inr, Bool, true, false, cond, eqb, List, [], ◌∷◌, ◌++◌, length, refl, sym, ap, ap₂, ◌∙◌, subst, arith, mod-eq_of_lt}
use Rattle.std.proofs.lemmas.Bool.{eq-eqb, ne_eqb}
use Rattle.std.proofs.lemmas.Nat.{mul-mod_first, mul-mod_second}
use native.Mathlib.Nat.{zero-mod}
use native.Mathlib.Decide.{dec_lt, ℕ_discrete}
use Rattle.fm_gfp.specs.Primes.{prime_value}
use Rattle.fm_gfp.specs.declared.prime.Prime.{Prime}
use Rattle.fm_mono.specs.declared.order.Order.{Order}
use Rattle.fm_algebra.specs.Ring.{Ring}
use Rattle.fm_algebra.specs.Gf.{gf, gf_is_zero, residue, same_residue, prime_positive}
use Rattle.fm_algebra.specs.Poly.{coeff}
use Rattle.fm_algebra.specs.Monomial.{single}
use Rattle.fm_algebra.specs.Matrix.{component}
use Rattle.fm_algebra.specs.Polynomials.{Polynomial, polynomials, polynomial_of, polynomial_sum, polynomial_term, polynomial_zero}
use Rattle.fm_algebra.proofs.Gf.{gf_laws}
use Rattle.fm_algebra.proofs.PolyRing.{coeff_zero, coeff_add}
use Rattle.fm_algebra.proofs.Monomial.{coeff_monomial_at, single_same, single_other}
use Rattle.fm_algebra.proofs.Tables.{get_or-listed}
use Rattle.fm_algebra.proofs.Algebra.{add_zero, mul_zero}
use Rattle.fm_term.specs.declared.vterm.VTerm.{VTerm}
use Rattle.fm_term.specs.Places.{AllBelow}
use Rattle.fm_term.specs.Falling.{IsFalling}
use Rattle.fm_term.specs.Multiples.{multiple_term, multiple, scaled_term, scaled}
use Rattle.fm_term.specs.Meanings.{terms_in, vector_of}
use Rattle.fm_groebner.proofs.Setting.{Setting, below, same, above, Vect, shift, IsHead, IsNil}
use Rattle.fm_groebner.proofs.Span.{shift_view, shift_linear, at_injective, less_irrefl, not_less_of_same}
use Rattle.fm_groebner.proofs.Monomials.{Monomial, same_monomial, ◌·◌}
use Rattle.fm_groebner.proofs.Places.{places, same_place}
use Rattle.fm_groebner.proofs.Ordered.{ordered}
use Rattle.fm_groebner.proofs.PlaceOrder.{less_of_cmp}
use Rattle.fm_groebner.proofs.Values.{component_inside, value, value_is, value_outside}
use Rattle.fm_term.proofs.Falling.{later}

module _ (p : Prime) (n m : ℕ) (o : Order) where
  abbrev pub K : Ring
  K = gf p

  abbrev pub space : Setting
  space = places (ordered o n) (gf p) (gf_laws p) (gf_is_zero p)

  -- the vector of a list of polynomials, and of a list of terms, as a function
  abbrev pub vector_value : List (Polynomial p n) → Vect space
  vector_value v = value (ordered o n) (gf p) (gf_laws p) (gf_is_zero p) m v

  abbrev pub list_value : List VTerm → Vect space
  list_value ts = vector_value (vector_of p n m ts)

  -- a number as an element of the field
  abbrev pub number : ℕ → K.Carrier
  number c = residue (prime_value p) (prime_positive p) c

  -- a term that stands in a vector of length m
  pub record Fits (t : VTerm) : Type 0 where
    pub positive : 0 < t.component
    pub within : t.component ≤ m
    pub exponents : length t.mono ≡ n

  abbrev pub place_of : (t : VTerm) → Fits t → ℕ × Monomial n
  place_of t f = (m - t.component, record { exponents = t.mono; fits = f.exponents })

  pub fits_of : (t : VTerm) {ts : List VTerm} → IsFalling p n m o (t ∷ ts) → Fits t
  fits_of t f = record { positive = f.within.0; within = f.within.1; exponents = f.proper.0.fits }

  abbrev pub AllFit : List VTerm → Type 0
  AllFit [] = Unit {0}
  AllFit (t ∷ ts) = Fits t × AllFit ts

  pub all_fit : (ts : List VTerm) → IsFalling p n m o ts → AllFit ts
  all_fit [] f = tt
  all_fit (t ∷ ts) f = (fits_of t f, all_fit ts (later f))

  -- ---- the components
  abbrev poly_in : ℕ → List VTerm → Polynomial p n
  poly_in i ts = polynomial_of p n (terms_in i ts)

  coeff_sum : (f g : Polynomial p n) (a : List ℕ) → coeff (polynomial_sum p n f g) a ≡ K.add (coeff f a) (coeff g a)
  unfolding polynomial_sum
  coeff_sum f g a = ap (λ h. h a) (coeff_add (gf p) (gf_laws p) (gf_is_zero p) n f g)

  coeff_nil : (a : List ℕ) → coeff (polynomial_zero p n) a ≡ K.zero
  unfolding polynomial_zero
  coeff_nil a = ap (λ h. h a) (coeff_zero (gf p) (gf_laws p) (gf_is_zero p) n)

  cons_by : (x : Bool) (e : List ℕ × ℕ) (rest : List (List ℕ × ℕ)) (a : List ℕ)
      → coeff (polynomial_of p n (cond x (e ∷ rest) rest)) a ≡ K.add (coeff (polynomial_of p n (cond x (e ∷ []) [])) a) (coeff (polynomial_of p n rest) a)
  unfolding polynomial_of
  cons_by true e rest a = coeff_sum (polynomial_term p n e.1 e.0) (polynomial_of p n rest) a
      ∙ ap (λ x. K.add x (coeff (polynomial_of p n rest) a)) (sym (coeff_sum (polynomial_term p n e.1 e.0) (polynomial_zero p n) a ∙ ap (K.add (coeff (polynomial_term p n e.1 e.0) a)) (coeff_nil a) ∙ add_zero (gf_laws p) (coeff (polynomial_term p n e.1 e.0) a)))
  cons_by false e rest a = sym (ap (λ x. K.add x (coeff (polynomial_of p n rest) a)) (coeff_nil a) ∙ (gf_laws p).zero_add (coeff (polynomial_of p n rest) a))

  poly_cons : (i : ℕ) (t : VTerm) (ts : List VTerm) (a : List ℕ) → coeff (poly_in i (t ∷ ts)) a ≡ K.add (coeff (poly_in i (t ∷ [])) a) (coeff (poly_in i ts) a)
  unfolding terms_in
  poly_cons i t ts a = cons_by (eqb t.component i) (t.mono, t.coeff) (terms_in i ts) a

  one_by : (x : Bool) (e : List ℕ × ℕ) (a : List ℕ) → length a ≡ n → x ≡ true → coeff (polynomial_of p n (cond x (e ∷ []) [])) a ≡ single (gf p) (number e.1) e.0 a
  unfolding polynomial_of polynomial_term
  one_by true e a l q = coeff_sum (polynomial_term p n e.1 e.0) (polynomial_zero p n) a ∙ ap (K.add (coeff (polynomial_term p n e.1 e.0) a)) (coeff_nil a) ∙ add_zero (gf_laws p) (coeff (polynomial_term p n e.1 e.0) a)
      ∙ coeff_monomial_at (gf p) (gf_laws p) (gf_is_zero p) n (number e.1) e.0 a l
  one_by false e a l q = absurd (cc q)

  poly_one : (i : ℕ) (t : VTerm) (a : List ℕ) → length a ≡ n → t.component ≡ i → coeff (poly_in i (t ∷ [])) a ≡ single (gf p) (number t.coeff) t.mono a
  unfolding terms_in
  poly_one i t a l e = one_by (eqb t.component i) (t.mono, t.coeff) a l (eq-eqb t.component i e)

  poly_none : (i : ℕ) (t : VTerm) (a : List ℕ) → t.component ≢ i → coeff (poly_in i (t ∷ [])) a ≡ K.zero
  unfolding terms_in polynomial_of
  poly_none i t a w = ap (λ x. coeff (polynomial_of p n (cond x ((t.mono, t.coeff) ∷ []) [])) a) (ne_eqb t.component i w) ∙ coeff_nil a

  -- ---- values
  pub val_inside : (ts : List VTerm) (b : ℕ × Monomial n) → b.0 < m → list_value ts b ≡ coeff (poly_in (m - b.0) ts) b.1.exponents
  unfolding vector_of component
  val_inside ts b l = value_is (ordered o n) (gf p) (gf_laws p) (gf_is_zero p) m (vector_of p n m ts) b
      ∙ ap (λ f. coeff f b.1.exponents) (component_inside (ordered o n) (gf p) (gf_laws p) (gf_is_zero p) m b.0 (vector_of p n m ts) l
      ∙ get_or-listed m (m - suc b.0) (polynomials p n).zero (λ i. poly_in (suc i) ts) smaller
      ∙ ap (λ i. poly_in i ts) index)
    where
      smaller : m - suc b.0 < m
      smaller = omega arith

      index : suc (m - suc b.0) ≡ m - b.0
      index = omega arith

  pub val_outside : (v : List (Polynomial p n)) (b : ℕ × Monomial n) → ¬ (b.0 < m) → vector_value v b ≡ K.zero
  val_outside v b w = value_outside (ordered o n) (gf p) (gf_laws p) (gf_is_zero p) m v b w

  pub val_cons : (t : VTerm) (ts : List VTerm) (b : ℕ × Monomial n) → list_value (t ∷ ts) b ≡ K.add (list_value (t ∷ []) b) (list_value ts b)
  val_cons t ts b = elim (dec_lt b.0 m) [
    | yes l ↦ val_inside (t ∷ ts) b l ∙ poly_cons (m - b.0) t ts b.1.exponents ∙ sym (ap₂ K.add (val_inside (t ∷ []) b l) (val_inside ts b l))
    | no w ↦ val_outside (vector_of p n m (t ∷ ts)) b w ∙ sym (ap₂ K.add (val_outside (vector_of p n m (t ∷ [])) b w) (val_outside (vector_of p n m ts) b w) ∙ (gf_laws p).zero_add K.zero)
  ]

  pub val_nil : (b : ℕ × Monomial n) → list_value [] b ≡ K.zero
  unfolding terms_in polynomial_of
  val_nil b = elim (dec_lt b.0 m) [
    | yes l ↦ val_inside [] b l ∙ coeff_nil b.1.exponents
    | no w ↦ val_outside (vector_of p n m []) b w
  ]

  pub val_append : (ts us : List VTerm) (b : ℕ × Monomial n) → list_value (ts ++ us) b ≡ K.add (list_value ts b) (list_value us b)
  val_append [] us b = sym (ap (λ x. K.add x (list_value us b)) (val_nil b) ∙ (gf_laws p).zero_add (list_value us b))
  val_append (t ∷ ts) us b = val_cons t (ts ++ us) b ∙ ap (K.add (list_value (t ∷ []) b)) (val_append ts us b)
      ∙ sym ((gf_laws p).add_assoc (list_value (t ∷ []) b) (list_value ts b) (list_value us b)) ∙ ap (λ x. K.add x (list_value us b)) (sym (val_cons t ts b))

  -- a term has its coefficient at its place, and zero elsewhere
  pub val_at : (t : VTerm) (f : Fits t) → list_value (t ∷ []) (place_of t f) ≡ number t.coeff
  val_at t f = val_inside (t ∷ []) (place_of t f) inside ∙ poly_one (m - (m - t.component)) t t.mono f.exponents back ∙ single_same (gf p) (number t.coeff) t.mono
    where
      inside : m - t.component < m
      inside = omega (arith, f.positive, f.within)

      back : t.component ≡ m - (m - t.component)
      back = omega (arith, f.within)

  pub val_other : (t : VTerm) (f : Fits t) (b : ℕ × Monomial n) → ¬ (b ≡ place_of t f) → list_value (t ∷ []) b ≡ K.zero
  val_other t f b w = elim (dec_lt b.0 m) [
    | yes l ↦ val_inside (t ∷ []) b l ∙ elim (ℕ_discrete t.component (m - b.0)) [
      | yes e ↦ poly_one (m - b.0) t b.1.exponents b.1.fits e
          ∙ single_other (gf p) (number t.coeff) t.mono b.1.exponents (λ q. w (same_place (level l e) (same_monomial b.1 (record { exponents = t.mono; fits = f.exponents }) q)))
      | no d ↦ poly_none (m - b.0) t b.1.exponents d
    ]
    | no d ↦ val_outside (vector_of p n m (t ∷ [])) b d
  ]
    where
      level : b.0 < m → t.component ≡ m - b.0 → b.0 ≡ m - t.component
      level l e = omega arith

  -- ---- multiples
  pub number_times : (c d : ℕ) → number ((c * d) % prime_value p) ≡ K.mul (number c) (number d)
  number_times c d = same_residue (number ((c * d) % prime_value p)) (K.mul (number c) (number d))
      (ap (λ x. x % prime_value p) (sym (mul-mod_first c d (prime_value p) ∙ refl)) ∙ again)
    where
      again : ((c % prime_value p) * d) % prime_value p % prime_value p ≡ ((c % prime_value p) * (d % prime_value p)) % prime_value p
      again = mod-eq_of_lt (number ((c % prime_value p) * d)).below ∙ sym (mul-mod_second (c % prime_value p) d (prime_value p))

  -- is a place that of a term
  at_place : (t : VTerm) (f : Fits t) (b : ℕ × Monomial n) → (b ≡ place_of t f) ⊎ ¬ (b ≡ place_of t f)
  at_place t f b = elim (space.compared b (place_of t f)) [
    | below l ↦ inr (λ e. not_less_of_same space e l)
    | same e ↦ inl e
    | above l ↦ inr (λ e. not_less_of_same space (sym e) l)
  ]

  abbrev pub fits_multiple : (c : ℕ) (a : Monomial n) (t : VTerm) → Fits t → Fits (multiple_term p c a.exponents t)
  fits_multiple c a t f = record { positive = f.positive; within = f.within; exponents = (a · record { exponents = t.mono; fits = f.exponents }).fits }

  term_multiple : (c : ℕ) (a : Monomial n) (t : VTerm) → Fits t → (b : ℕ × Monomial n)
      → list_value (multiple_term p c a.exponents t ∷ []) b ≡ K.mul (number c) (shift space a (list_value (t ∷ [])) b)
  term_multiple c a t f b = elim (shift_view space a b) [
    | inl q ↦ moved q.0 q.1 (at_place t f q.0) ∙ ap (K.mul (number c)) (sym (q.2 (list_value (t ∷ []))))
    | inr q ↦ val_other (multiple_term p c a.exponents t) (fits_multiple c a t f) b (λ e. q.0 (place_of t f) (moved_place ∙ sym e))
        ∙ sym (mul_zero (gf_laws p) (number c)) ∙ ap (K.mul (number c)) (sym (q.1 (list_value (t ∷ []))))
  ]
    where
      moved_place : ◌≡◌ {A = ℕ × Monomial n} (m - t.component, a · record { exponents = t.mono; fits = f.exponents }) (place_of (multiple_term p c a.exponents t) (fits_multiple c a t f))
      moved_place = refl

      moved : (x : ℕ × Monomial n) → space.◌•◌ a x ≡ b → (x ≡ place_of t f) ⊎ ¬ (x ≡ place_of t f) → list_value (multiple_term p c a.exponents t ∷ []) b ≡ K.mul (number c) (list_value (t ∷ []) x)
      moved x e (inl q) = ap (list_value (multiple_term p c a.exponents t ∷ [])) (sym e ∙ ap (space.◌•◌ a) q) ∙ val_at (multiple_term p c a.exponents t) (fits_multiple c a t f)
          ∙ number_times c t.coeff ∙ ap (K.mul (number c)) (sym (ap (list_value (t ∷ [])) q ∙ val_at t f))
      moved x e (inr w) = val_other (multiple_term p c a.exponents t) (fits_multiple c a t f) b (λ q. w (at_injective space a x (place_of t f) (e ∙ q)))
          ∙ sym (ap (K.mul (number c)) (val_other t f x w) ∙ mul_zero (gf_laws p) (number c))

  shift_sum : (a : Monomial n) (t : VTerm) (ts : List VTerm) (b : ℕ × Monomial n)
      → shift space a (list_value (t ∷ ts)) b ≡ K.add (shift space a (list_value (t ∷ [])) b) (shift space a (list_value ts) b)
  shift_sum a t ts b = (shift_linear space a).on_comb K.one (list_value (t ∷ [])) (list_value ts) (list_value (t ∷ ts))
      (λ c. val_cons t ts c ∙ ap (λ x. K.add x (list_value ts c)) (sym ((gf_laws p).one_mul (list_value (t ∷ []) c)))) b
      ∙ ap (λ x. K.add x (shift space a (list_value ts) b)) ((gf_laws p).one_mul (shift space a (list_value (t ∷ [])) b))

  -- the vector of the terms of c * x^a times a vector
  pub val_multiple : (c : ℕ) (a : Monomial n) (ts : List VTerm) → AllFit ts → (b : ℕ × Monomial n)
      → list_value (multiple p c a.exponents ts) b ≡ K.mul (number c) (shift space a (list_value ts) b)
  val_multiple c a [] f b = val_nil b ∙ sym (ap (K.mul (number c)) ((shift_linear space a).on_zero (list_value []) val_nil b) ∙ mul_zero (gf_laws p) (number c))
  val_multiple c a (t ∷ ts) f b = val_cons (multiple_term p c a.exponents t) (multiple p c a.exponents ts) b
      ∙ ap₂ K.add (term_multiple c a t f.0 b) (val_multiple c a ts f.1 b)
      ∙ sym (ap (K.mul (number c)) (shift_sum a t ts b) ∙ (gf_laws p).mul_add (number c) (shift space a (list_value (t ∷ [])) b) (shift space a (list_value ts) b))

  abbrev pub fits_scaled : (c : ℕ) (t : VTerm) → Fits t → Fits (scaled_term p c t)
  fits_scaled c t f = record { positive = f.positive; within = f.within; exponents = f.exponents }

  term_scaled : (c : ℕ) (t : VTerm) → Fits t → (b : ℕ × Monomial n) → list_value (scaled_term p c t ∷ []) b ≡ K.mul (number c) (list_value (t ∷ []) b)
  term_scaled c t f b = elim (at_place t f b) [
    | inl e ↦ ap (list_value (scaled_term p c t ∷ [])) e ∙ val_at (scaled_term p c t) (fits_scaled c t f) ∙ number_times c t.coeff
        ∙ ap (K.mul (number c)) (sym (ap (list_value (t ∷ [])) e ∙ val_at t f))
    | inr w ↦ val_other (scaled_term p c t) (fits_scaled c t f) b w ∙ sym (ap (K.mul (number c)) (val_other t f b w) ∙ mul_zero (gf_laws p) (number c))
  ]

  -- the vector of the terms of c times a vector
  pub val_scaled : (c : ℕ) (ts : List VTerm) → AllFit ts → (b : ℕ × Monomial n) → list_value (scaled p c ts) b ≡ K.mul (number c) (list_value ts b)
  val_scaled c [] f b = val_nil b ∙ sym (ap (K.mul (number c)) (val_nil b) ∙ mul_zero (gf_laws p) (number c))
  val_scaled c (t ∷ ts) f b = val_cons (scaled_term p c t) (scaled p c ts) b ∙ ap₂ K.add (term_scaled c t f.0 b) (val_scaled c ts f.1 b)
      ∙ sym (ap (K.mul (number c)) (val_cons t ts b) ∙ (gf_laws p).mul_add (number c) (list_value (t ∷ []) b) (list_value ts b))

  -- ---- heads
  -- a falling list is zero from its head on
  pub val_above : (t : VTerm) (f : Fits t) (ts : List VTerm) → AllBelow o t ts → IsFalling p n m o ts → (b : ℕ × Monomial n) → ¬ (space.Less b (place_of t f)) → list_value ts b ≡ K.zero
  val_above t f [] a g b w = val_nil b
  val_above t f (s ∷ ss) a g b w =
      let fs = fits_of s g in
      let less : space.Less (place_of s fs) (place_of t f) = less_of_cmp o n m s.component t.component (record { exponents = s.mono; fits = fs.exponents }) (record { exponents = t.mono; fits = f.exponents }) fs.within a.0 in
      val_cons s ss b
      ∙ ap₂ K.add (val_other s fs b (λ e. w (subst (λ x. space.Less x (place_of t f)) (sym e) less)))
      (val_above s fs ss g.falls.0 (later g) b (λ l. w (space.less_trans {a = b} {b = place_of s fs} {c = place_of t f} l less)))
      ∙ (gf_laws p).zero_add K.zero

  pub val_head : (t : VTerm) (ts : List VTerm) (g : IsFalling p n m o (t ∷ ts)) → list_value (t ∷ ts) (place_of t (fits_of t g)) ≡ number t.coeff
  val_head t ts g = val_cons t ts (place_of t (fits_of t g))
      ∙ ap₂ K.add (val_at t (fits_of t g)) (val_above t (fits_of t g) ts g.falls.0 (later g) (place_of t (fits_of t g)) (less_irrefl space (place_of t (fits_of t g))))
      ∙ add_zero (gf_laws p) (number t.coeff)

  pub number_nonzero : (c : ℕ) → 0 < c → c < prime_value p → ¬ (number c ≡ K.zero)
  number_nonzero c pos h e =
      let q : c % prime_value p ≡ 0 % prime_value p = ap (λ x. x.number) e in
      let z : c ≡ 0 = sym (mod-eq_of_lt h) ∙ q ∙ zero-mod (prime_value p) in
      absurd (omega (arith, pos))

  -- the head of a falling list is its first term
  pub head_of_terms : (t : VTerm) (ts : List VTerm) (g : IsFalling p n m o (t ∷ ts)) → IsHead space (list_value (t ∷ ts)) (place_of t (fits_of t g))
  head_of_terms t ts g = (
    (λ e. number_nonzero t.coeff g.proper.0.positive g.proper.0.below (sym (val_head t ts g) ∙ e)),
    λ b l.
        val_cons t ts b
        ∙ ap₂ K.add (val_other t (fits_of t g) b (λ e. not_less_of_same space (sym e) l)) (val_above t (fits_of t g) ts g.falls.0 (later g) b (λ k. less_irrefl space b (space.less_trans {a = b} {b = place_of t (fits_of t g)} {c = b} k l)))
        ∙ (gf_laws p).zero_add K.zero,
  )

  -- a falling list whose vector is zero is empty
  pub empty_of_nil : (ts : List VTerm) → IsFalling p n m o ts → IsNil space (list_value ts) → ts ≡ []
  empty_of_nil [] g z = refl
  empty_of_nil (t ∷ ts) g z = absurd ((head_of_terms t ts g).0 (z (place_of t (fits_of t g))))
