-- The image of a matrix is the span of its columns.
use Rattle.std.proofs.Common.{ℕ, zero, suc, ◌-◌, ◌<◌, ◌≤◌, ◌≡◌, ◌≢◌, inl, inr, List, [], ◌∷◌, length, get_or, refl, sym, ap, ap₂, ◌∙◌, subst, arith}
use Rattle.fm_tuple.specs.Tuple.{tuple_sum}
use native.Mathlib.Decide.{dec_lt, ℕ_discrete}
use Rattle.fm_algebra.specs.Ring.{Ring, IsRing}
use Rattle.fm_algebra.specs.Poly.{Poly, coeff}
use Rattle.fm_algebra.specs.PolyRing.{poly, multiple}
use Rattle.fm_algebra.specs.Monomial.{monomial}
use Rattle.fm_algebra.specs.FiniteSums.{finite_sum}
use Rattle.fm_algebra.specs.Matrix.{Matrix, component, entry, listed, apply, InListImage}
use Rattle.fm_algebra.proofs.Algebra.{add_swap, mul_zero, zero_mul}
use Rattle.fm_algebra.proofs.FiniteSums.{sum_ext, sum_zero, sum_only}
use Rattle.fm_algebra.proofs.Sums.{IsSum-tuple_sum, length_right, splits_same_if, splits_zero}
use Rattle.fm_algebra.proofs.Tables.{length-listed, get_or-listed, length-apply}
use Rattle.fm_algebra.proofs.PolyRing.{coeff_zero, coeff_add, coeff_mul, coeff_multiple, multiple_mul, poly_laws}
use Rattle.fm_algebra.proofs.Monomial.{single_other, coeff_monomial, coeff_monomial_times, poly_induction}
use Rattle.fm_groebner.proofs.Setting.{Setting, In, here, there, Vect, lin_zero, lin_gen, lin_comb, shift, Span}
use Rattle.fm_groebner.proofs.Span.{lin_eq, shift_view, shift_eq}
use Rattle.fm_groebner.proofs.Monomials.{Monomial, same_monomial, ◌·◌}
use Rattle.fm_groebner.proofs.Places.{MonomialOrder, places, same_place}
use Rattle.fm_groebner.proofs.Values.{component_at, component_inside, component_outside, value, value_is, same_vector}

-- elements of a list by their numbers, from 0 on
pub in_get_or : {A : Type 0} (xs : List A) (j : ℕ) (d : A) → j < length xs → In xs (get_or xs j d)
in_get_or [] j d h = absurd (omega arith)
in_get_or (x ∷ xs) zero d h = here
in_get_or (x ∷ xs) (suc j) d h = there (in_get_or xs j d (omega arith))

pub get_or_in : {A : Type 0} (d : A) {xs : List A} {x : A} → In xs x → (j : ℕ) × (j < length xs) × (get_or xs j d ≡ x)
get_or_in d here = (0, omega arith, refl)
get_or_in d (there i) = let r = get_or_in d i in (suc r.0, omega (arith, r.1), r.2)

module _ (n : ℕ) (K : Ring) (L : IsRing K) (is_zero : (c : K.Carrier) → Dec (c ≡ K.zero)) where
  abbrev P : Ring
  P = poly K is_zero n

  -- where a does not divide b, a multiple of x^a has no term at b
  monomial_off : (c : K.Carrier) (a b : List ℕ) (f : Poly K n) → length a ≡ n → length b ≡ n → ((v : List ℕ) → length v ≡ n → ¬ (b ≡ tuple_sum a v))
      → coeff (P.mul (monomial K is_zero n c a) f) b ≡ K.zero
  monomial_off c a b f l k off =
      ap (λ h. h b) (coeff_mul K L is_zero n (monomial K is_zero n c a) f)
      ∙ splits_same_if K.add b (λ u v s.
      ap (λ x. K.mul x (coeff f v)) (ap (λ h. h u) (coeff_monomial K L is_zero n c a l) ∙ single_other K c a u (λ e. off v (length_right s ∙ k) (IsSum-tuple_sum s ∙ ap (λ x. tuple_sum x v) e)))
      ∙ zero_mul L (coeff f v))
      ∙ splits_zero L b

module _ {n : ℕ} (O : MonomialOrder n) (K : Ring) (L : IsRing K) (is_zero : (c : K.Carrier) → Dec (c ≡ K.zero)) (m : ℕ) where
  abbrev R : Ring
  R = poly K is_zero n

  abbrev S : Setting
  S = places O K L is_zero

  RL : IsRing R
  RL = poly_laws K L is_zero n

  abbrev mono : K.Carrier → List ℕ → Poly K n
  mono c a = monomial K is_zero n c a

  -- a vector times a monomial
  pub times_monomial : (c : K.Carrier) (t : Monomial n) (v : List (Poly K n)) (b : ℕ × Monomial n)
      → coeff (R.mul (component_at O K L is_zero m v b.0) (mono c t.exponents)) b.1.exponents ≡ K.mul c (shift S t (value O K L is_zero m v) b)
  times_monomial c t v b = ap (λ f. coeff f b.1.exponents) (RL.mul_comm (component_at O K L is_zero m v b.0) (mono c t.exponents)) ∙ elim (shift_view S t b) [
    | inl p ↦ subst (λ y. coeff (R.mul (mono c t.exponents) (component_at O K L is_zero m v y.0)) y.1.exponents ≡ K.mul c (value O K L is_zero m v p.0)) p.1
        (coeff_monomial_times K L is_zero n c t.exponents p.0.1.exponents (component_at O K L is_zero m v p.0.0) t.fits p.0.1.fits ∙ ap (K.mul c) (sym (value_is O K L is_zero m v p.0)))
        ∙ ap (K.mul c) (sym (p.2 (value O K L is_zero m v)))
    | inr p ↦ monomial_off n K L is_zero c t.exponents b.1.exponents (component_at O K L is_zero m v b.0) t.fits b.1.fits
        (λ w l e. p.0 (b.0, record { exponents = w; fits = l }) (same_place refl (same_monomial (t · record { exponents = w; fits = l }) b.1 (sym e))))
        ∙ sym (mul_zero L c) ∙ ap (K.mul c) (sym (p.1 (value O K L is_zero m v)))
  ]

  module _ (gens : List (List (Poly K n))) where
    -- the vectors of the generators
    abbrev pub Values : Vect S → Type 0
    Values g = (v : List (Poly K n)) × In gens v × ((b : ℕ × Monomial n) → g b ≡ value O K L is_zero m v b)

    -- the component of column j that is number k from the last one
    column : ℕ → ℕ → Poly K n
    column j k = component_at O K L is_zero m (get_or gens j []) k

    -- the combination of the first c columns by the polynomials f 0, f 1, ..
    partial : ℕ → (ℕ → Poly K n) → ℕ → Poly K n
    partial c f k = finite_sum R c (λ j h. R.mul (column j k) (f j))

    abbrev partial_value : ℕ → (ℕ → Poly K n) → Vect S
    partial_value c f b = coeff (partial c f b.0) b.1.exponents

    abbrev product_value : ℕ → Poly K n → Vect S
    product_value j f b = coeff (R.mul (column j b.0) f) b.1.exponents

    coeff_sum : (f g : Poly K n) (a : List ℕ) → coeff (R.add f g) a ≡ K.add (coeff f a) (coeff g a)
    coeff_sum f g a = ap (λ h. h a) (coeff_add K L is_zero n f g)

    coeff_nil : (a : List ℕ) → coeff R.zero a ≡ K.zero
    coeff_nil a = ap (λ h. h a) (coeff_zero K L is_zero n)

    -- a column times a polynomial is in the span
    product_span : (j : ℕ) → j < length gens → (f : Poly K n) → Span S Values (product_value j f)
    unfolding column
    product_span j h = poly_induction K L is_zero n (λ f. Span S Values (product_value j f))
        (lin_zero (λ b. ap (λ x. coeff x b.1.exponents) (mul_zero RL (column j b.0)) ∙ coeff_nil b.1.exponents))
        (λ c a f l ih. lin_comb c
        (lin_gen (record { by = record { exponents = a; fits = l }; member = value O K L is_zero m (get_or gens j []); in_A = (get_or gens j [], in_get_or gens j [] h, λ b. refl); is = λ b. refl }))
        ih
        (λ b. ap (λ x. coeff x b.1.exponents) (RL.mul_add (column j b.0) (mono c a) f)
        ∙ coeff_sum (R.mul (column j b.0) (mono c a)) (R.mul (column j b.0) f) b.1.exponents
        ∙ ap (λ x. K.add x (product_value j f b)) (times_monomial c (record { exponents = a; fits = l }) (get_or gens j []) b)))

    partial_span : (c : ℕ) → c ≤ length gens → (f : ℕ → Poly K n) → Span S Values (partial_value c f)
    unfolding partial finite_sum
    partial_span zero h f = lin_zero (λ b. coeff_nil b.1.exponents)
    partial_span (suc c) h f = lin_comb K.one (product_span c h (f c)) (partial_span c (omega arith) f)
        (λ b. coeff_sum (partial c f b.0) (R.mul (column c b.0) (f c)) b.1.exponents
        ∙ L.add_comm (partial_value c f b) (product_value c (f c) b)
        ∙ ap (λ x. K.add x (partial_value c f b)) (sym (L.one_mul (product_value c (f c) b))))

    -- ---- from the span to a combination
    partial_zero : (c : ℕ) (k : ℕ) → partial c (λ j. R.zero) k ≡ R.zero
    unfolding partial
    partial_zero c k = sum_ext RL c (λ j h. R.mul (column j k) R.zero) (λ j h. R.zero) (λ j h. mul_zero RL (column j k)) ∙ sum_zero RL c

    only_at : (i : ℕ) → Poly K n → (j : ℕ) → Dec (j ≡ i) → Poly K n
    only_at i f j (yes e) = f
    only_at i f j (no w) = R.zero

    only : ℕ → Poly K n → ℕ → Poly K n
    only i f j = only_at i f j (ℕ_discrete j i)

    only_same : (i : ℕ) (f : Poly K n) (d : Dec (i ≡ i)) → only_at i f i d ≡ f
    unfolding only_at
    only_same i f (yes e) = refl
    only_same i f (no w) = absurd (w refl)

    only_other : (i j : ℕ) (f : Poly K n) (d : Dec (j ≡ i)) → j ≢ i → only_at i f j d ≡ R.zero
    unfolding only_at
    only_other i j f (yes e) w = absurd (w e)
    only_other i j f (no n') w = refl

    partial_only : (c i k : ℕ) (f : Poly K n) → i < c → partial c (only i f) k ≡ R.mul (column i k) f
    unfolding partial only
    partial_only c i k f h = sum_only RL c i (λ j b. R.mul (column j k) (only i f j)) h (λ j b w. ap (R.mul (column j k)) (only_other i j f (ℕ_discrete j i) w) ∙ mul_zero RL (column j k))
        ∙ ap (R.mul (column i k)) (only_same i f (ℕ_discrete i i))

    combined : K.Carrier → (ℕ → Poly K n) → (ℕ → Poly K n) → ℕ → Poly K n
    combined c f g j = R.add (multiple K is_zero n c (f j)) (g j)

    product_combined : (c : K.Carrier) (e f g : Poly K n) (a : List ℕ)
        → coeff (R.mul e (R.add (multiple K is_zero n c f) g)) a ≡ K.add (K.mul c (coeff (R.mul e f) a)) (coeff (R.mul e g) a)
    product_combined c e f g a = ap (λ x. coeff x a) (RL.mul_add e (multiple K is_zero n c f) g) ∙ coeff_sum (R.mul e (multiple K is_zero n c f)) (R.mul e g) a
        ∙ ap (λ x. K.add x (coeff (R.mul e g) a)) (ap (λ x. coeff x a) (RL.mul_comm e (multiple K is_zero n c f) ∙ sym (multiple_mul K L is_zero n c f e) ∙ ap (multiple K is_zero n c) (RL.mul_comm f e)) ∙ ap (λ h. h a) (coeff_multiple K L is_zero n c (R.mul e f)))

    spread : (c x y u v : K.Carrier) → K.add (K.add (K.mul c x) u) (K.add (K.mul c y) v) ≡ K.add (K.mul c (K.add x y)) (K.add u v)
    spread c x y u v = add_swap L (K.mul c x) u (K.mul c y) v ∙ ap (λ z. K.add z (K.add u v)) (sym (L.mul_add c x y))

    partial_combined : (c : K.Carrier) (f g : ℕ → Poly K n) (i : ℕ) (b : ℕ × Monomial n)
        → partial_value i (combined c f g) b ≡ K.add (K.mul c (partial_value i f b)) (partial_value i g b)
    unfolding partial finite_sum combined
    partial_combined c f g zero b = coeff_nil b.1.exponents ∙ sym (ap₂ (λ x y. K.add (K.mul c x) y) (coeff_nil b.1.exponents) (coeff_nil b.1.exponents) ∙ ap (λ x. K.add x K.zero) (mul_zero L c) ∙ L.zero_add K.zero)
    partial_combined c f g (suc i) b =
        coeff_sum (partial i (combined c f g) b.0) (R.mul (column i b.0) (combined c f g i)) b.1.exponents
        ∙ ap₂ K.add (partial_combined c f g i b) (product_combined c (column i b.0) (f i) (g i) b.1.exponents)
        ∙ spread c (partial_value i f b) (product_value i (f i) b) (partial_value i g b) (product_value i (g i) b)
        ∙ sym (ap₂ (λ x y. K.add (K.mul c x) y) (coeff_sum (partial i f b.0) (R.mul (column i b.0) (f i)) b.1.exponents) (coeff_sum (partial i g b.0) (R.mul (column i b.0) (g i)) b.1.exponents))

    Combination : Vect S → Type 0
    Combination u = (f : ℕ → Poly K n) × ((b : ℕ × Monomial n) → u b ≡ partial_value (length gens) f b)

    combination_of : {u : Vect S} → Span S Values u → Combination u
    unfolding Combination column
    combination_of (lin_zero z) = ((λ j. R.zero), λ b. z b ∙ sym (ap (λ x. coeff x b.1.exponents) (partial_zero (length gens) b.0) ∙ coeff_nil b.1.exponents))
    combination_of (lin_gen {v = u} g) = at_index (get_or_in [] g.in_A.1)
      where
        at_index : ((j : ℕ) × (j < length gens) × (get_or gens j [] ≡ g.in_A.0)) → Combination u
        at_index r = (
          only r.0 (mono K.one g.by.exponents),
          λ b.
              g.is b
              ∙ shift_eq S g.by g.member (value O K L is_zero m g.in_A.0) g.in_A.2 b
              ∙ sym (L.one_mul (shift S g.by (value O K L is_zero m g.in_A.0) b))
              ∙ sym (times_monomial K.one g.by g.in_A.0 b)
              ∙ ap (λ v. coeff (R.mul (component_at O K L is_zero m v b.0) (mono K.one g.by.exponents)) b.1.exponents) (sym r.2)
              ∙ ap (λ x. coeff x b.1.exponents) (sym (partial_only (length gens) r.0 b.0 (mono K.one g.by.exponents) r.1)),
        )
    combination_of (lin_comb {u = u} {w = w} {v = v} c p q e) =
        let f = combination_of p in let g = combination_of q in
        (combined c f.0 g.0, λ b. e b ∙ ap₂ (λ x y. K.add (K.mul c x) y) (f.1 b) (g.1 b) ∙ sym (partial_combined c f.0 g.0 (length gens) b))

    -- ---- the image
    abbrev pub generated : Matrix R
    generated = record { rows = m; columns = gens }

    -- A * w, component by component
    apply_component : (w : List (Poly K n)) (f : ℕ → Poly K n) → ((j : ℕ) → j < length gens → component R w j ≡ f j)
        → (k : ℕ) → component_at O K L is_zero m (apply R generated w) k ≡ partial (length gens) f k
    unfolding partial column apply entry component
    apply_component w f same k = elim (dec_lt k m) [
      | yes l ↦ component_inside O K L is_zero m k (apply R generated w) l
          ∙ get_or-listed m (m - suc k) R.zero (λ i. finite_sum R (length gens) (λ j h. R.mul (entry R generated i j) (component R w j))) (smaller l)
          ∙ sum_ext RL (length gens) (λ j h. R.mul (entry R generated (m - suc k) j) (component R w j)) (λ j h. R.mul (column j k) (f j))
          (λ j h. ap₂ R.mul (sym (component_inside O K L is_zero m k (get_or gens j []) l)) (same j h))
      | no w' ↦ component_outside O K L is_zero m k (apply R generated w) w'
          ∙ sym (sum_ext RL (length gens) (λ j h. R.mul (column j k) (f j)) (λ j h. R.zero) (λ j h. ap (λ x. R.mul x (f j)) (component_outside O K L is_zero m k (get_or gens j []) w') ∙ zero_mul RL (f j)) ∙ sum_zero RL (length gens))
    ]
      where
        smaller : k < m → m - suc k < m
        smaller l = omega arith

    value_apply : (w : List (Poly K n)) (f : ℕ → Poly K n) → ((j : ℕ) → j < length gens → component R w j ≡ f j)
        → (b : ℕ × Monomial n) → value O K L is_zero m (apply R generated w) b ≡ partial_value (length gens) f b
    value_apply w f same b = value_is O K L is_zero m (apply R generated w) b ∙ ap (λ x. coeff x b.1.exponents) (apply_component w f same b.0)

    pub span_of_image : (v : List (Poly K n)) → InListImage R generated v → Span S Values (value O K L is_zero m v)
    span_of_image v i = lin_eq S (partial_span (length gens) (omega arith) (component R i.0)) (λ b. ap (λ x. value O K L is_zero m x b) (sym i.2) ∙ value_apply i.0 (component R i.0) (λ j h. refl) b)

    pub image_of_span : (v : List (Poly K n)) → length v ≡ m → Span S Values (value O K L is_zero m v) → InListImage R generated v
    unfolding Combination component
    image_of_span v l s = from (combination_of s)
      where
        from : Combination (value O K L is_zero m v) → InListImage R generated v
        from c = (
          listed (length gens) c.0,
          length-listed (length gens) c.0,
          same_vector O K L is_zero m (apply R generated (listed (length gens) c.0)) v (length-apply R generated (listed (length gens) c.0)) l
              (λ b. value_apply (listed (length gens) c.0) c.0 (λ j h. get_or-listed (length gens) j R.zero c.0 h) b ∙ sym (c.1 b)),
        )

    -- each vector of the span comes from the image
    pub vector_of_span : {u : Vect S} → Span S Values u → (v : List (Poly K n)) × InListImage R generated v × ((b : ℕ × Monomial n) → u b ≡ value O K L is_zero m v b)
    unfolding Combination component
    vector_of_span {u} s = from (combination_of s)
      where
        from : Combination u → (v : List (Poly K n)) × InListImage R generated v × ((b : ℕ × Monomial n) → u b ≡ value O K L is_zero m v b)
        from c = (
          apply R generated (listed (length gens) c.0),
          (listed (length gens) c.0, length-listed (length gens) c.0, refl),
          λ b. c.1 b ∙ sym (value_apply (listed (length gens) c.0) c.0 (λ j h. get_or-listed (length gens) j R.zero c.0 h) b),
        )
