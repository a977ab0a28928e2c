-- Vectors in two blocks of components: the first m, which are the upper block, and c more.
use Rattle.std.proofs.Common.{◌≡◌, inl, ℕ, suc, ◌+◌, ◌-◌, ◌<◌, ◌≤◌, List, [], ◌∷◌, ◌++◌, length, drop, refl, sym, ap, ap₂, ◌∙◌, subst, arith}
use Rattle.std.proofs.lemmas.List.{length-replicate}
use native.Mathlib.Decide.{dec_lt}
use Rattle.fm_gfp.specs.declared.prime.Prime.{Prime}
use Rattle.fm_mono.specs.declared.order.Order.{Order}
use Rattle.fm_algebra.specs.Ring.{Ring, IsRing}
use Rattle.fm_algebra.specs.Gf.{gf, gf_is_zero}
use Rattle.fm_algebra.specs.Poly.{coeff}
use Rattle.fm_algebra.specs.Matrix.{component}
use Rattle.fm_algebra.specs.Polynomials.{Polynomial, polynomials, polynomial_zero}
use Rattle.fm_algebra.proofs.Gf.{gf_laws}
use Rattle.fm_algebra.proofs.Poly.{same_at_tuples}
use Rattle.fm_algebra.proofs.PolyRing.{coeff_zero, coeff_add}
use Rattle.fm_algebra.proofs.Concrete.{polynomials_laws}
use Rattle.fm_term.specs.declared.vterm.VTerm.{VTerm}
use Rattle.fm_term.specs.Falling.{IsFalling}
use Rattle.fm_groebner.specs.Graphs.{zero_vector}
use Rattle.fm_groebner.proofs.Monomials.{Monomial}
use Rattle.fm_groebner.proofs.Ordered.{ordered}
use Rattle.fm_groebner.proofs.Values.{value_is, component_from, component_at}
use Rattle.fm_groebner.proofs.TermValues.{list_value, vector_value, val_outside, val_nil, head_of_terms}
use Rattle.fm_groebner.proofs.MonicLists.{head_place}
use Rattle.fm_groebner.proofs.GraphMatrices.{zeros, component_left, component_zeros, below_zeros}

module _ (p : Prime) (n : ℕ) (o : Order) where
  abbrev P : Ring
  P = polynomials p n

  PL : IsRing P
  PL = polynomials_laws p n

  -- ---- vectors by their functions
  -- the component i is zero where its coefficients are
  pub component_zero : (l : ℕ) (v : List (Polynomial p n)) (i : ℕ) → i < l → ((a : Monomial n) → vector_value p n l o v (l - suc i, a) ≡ (gf p).zero) → component P v i ≡ P.zero
  component_zero l v i h z = sym (component_from (ordered o n) (gf p) (gf_laws p) (gf_is_zero p) l i v h)
      ∙ same_at_tuples (gf p) (gf_is_zero p) n (component_at (ordered o n) (gf p) (gf_laws p) (gf_is_zero p) l v (l - suc i)) P.zero
      (λ a f. sym (value_is (ordered o n) (gf p) (gf_laws p) (gf_is_zero p) l v (l - suc i, record { exponents = a; fits = f })) ∙ z (record { exponents = a; fits = f }) ∙ sym (ap (λ h. h a) (coeff_zero (gf p) (gf_laws p) (gf_is_zero p) n)))

  pub val_component : (l : ℕ) (v : List (Polynomial p n)) (i : ℕ) (a : Monomial n) → i < l → vector_value p n l o v (l - suc i, a) ≡ coeff (component P v i) a.exponents
  val_component l v i a h = value_is (ordered o n) (gf p) (gf_laws p) (gf_is_zero p) l v (l - suc i, a) ∙ ap (λ f. coeff f a.exponents) (component_from (ordered o n) (gf p) (gf_laws p) (gf_is_zero p) l i v h)

  -- where a function is the sum of two, so are the components
  pub component_sum : (l : ℕ) (u v w : List (Polynomial p n)) → ((b : ℕ × Monomial n) → vector_value p n l o u b ≡ (gf p).add (vector_value p n l o v b) (vector_value p n l o w b)) → (i : ℕ) → i < l → component P u i ≡ P.add (component P v i) (component P w i)
  component_sum l u v w e i h = same_at_tuples (gf p) (gf_is_zero p) n (component P u i) (P.add (component P v i) (component P w i)) (λ a f.
      let at : Monomial n = record { exponents = a; fits = f } in
      sym (val_component l u i at h) ∙ e (l - suc i, at) ∙ ap₂ (gf p).add (val_component l v i at h) (val_component l w i at h) ∙ sym (ap (λ g. g a) (coeff_add (gf p) (gf_laws p) (gf_is_zero p) n (component P v i) (component P w i))))

  module _ (m c : ℕ) where
    -- the places of the upper block
    abbrev pub Upper : ℕ × Monomial n → Type 0
    Upper b = c ≤ b.0

    pub upper_dec : (b : ℕ × Monomial n) → Dec (c ≤ b.0)
    upper_dec b = elim (dec_lt b.0 c) [ yes l ↦ no (λ h. absurd (omega (arith, l, h))) | no nl ↦ yes (omega (arith, nl)) ]

    pub lower_level : (a b : ℕ × Monomial n) → ¬ (c ≤ a.0) → c ≤ b.0 → a.0 < b.0
    lower_level a b na ub = omega (arith, na, ub)

    -- a vector below zeros is zero in the upper block
    pub upper_zero : (w : List (Polynomial p n)) → (b : ℕ × Monomial n) → Upper b → vector_value p n (m + c) o (zero_vector p n m ++ w) b ≡ (gf p).zero
    unfolding polynomial_zero
    upper_zero w b up = elim (dec_lt b.0 (m + c)) [
      | no nb ↦ val_outside p n (m + c) o (zero_vector p n m ++ w) b nb
      | yes l ↦
          let i : (m + c) - suc b.0 < m = omega (arith, up, l) in
          let inside : (m + c) - suc b.0 < m + c = omega arith in
          let level : (m + c) - suc ((m + c) - suc b.0) ≡ b.0 = omega arith in
          ap (λ k. vector_value p n (m + c) o (zero_vector p n m ++ w) (k, b.1)) (sym level)
          ∙ val_component (m + c) (zero_vector p n m ++ w) ((m + c) - suc b.0) b.1 inside
          ∙ ap (λ f. coeff f b.1.exponents) (component_left P PL (zeros P PL m) w ((m + c) - suc b.0) (subst (λ x. (m + c) - suc b.0 < x) (sym (length-replicate m P.zero)) i) ∙ component_zeros P PL m ((m + c) - suc b.0) i)
          ∙ ap (λ h. h b.1.exponents) (coeff_zero (gf p) (gf_laws p) (gf_is_zero p) n)
    ]

    -- a vector that is zero in the upper block is below zeros
    pub below_of_upper : (v : List (Polynomial p n)) → length v ≡ m + c → ((b : ℕ × Monomial n) → Upper b → vector_value p n (m + c) o v b ≡ (gf p).zero) → v ≡ zero_vector p n m ++ drop m v
    unfolding polynomial_zero
    below_of_upper v l z = below_zeros P PL m c v l (λ i h. component_zero (m + c) v i (omega arith) (λ a. z ((m + c) - suc i, a) (omega arith)))

    -- vectors with one upper block
    pub upper_same : (v x y : List (Polynomial p n)) → length v ≡ m → (b : ℕ × Monomial n) → Upper b → vector_value p n (m + c) o (v ++ x) b ≡ vector_value p n (m + c) o (v ++ y) b
    upper_same v x y f b up = elim (dec_lt b.0 (m + c)) [
      | no nb ↦ val_outside p n (m + c) o (v ++ x) b nb ∙ sym (val_outside p n (m + c) o (v ++ y) b nb)
      | yes l ↦
          let inside : (m + c) - suc b.0 < m + c = omega arith in
          let i : (m + c) - suc b.0 < length v = omega (arith, up, l, f) in
          let level : (m + c) - suc ((m + c) - suc b.0) ≡ b.0 = omega arith in
          subst (λ k. vector_value p n (m + c) o (v ++ x) (k, b.1) ≡ vector_value p n (m + c) o (v ++ y) (k, b.1)) level
          (val_component (m + c) (v ++ x) ((m + c) - suc b.0) b.1 inside
          ∙ ap (λ g. coeff g b.1.exponents) (component_left P PL v x ((m + c) - suc b.0) i ∙ sym (component_left P PL v y ((m + c) - suc b.0) i))
          ∙ sym (val_component (m + c) (v ++ y) ((m + c) - suc b.0) b.1 inside))
    ]

    -- a falling list whose head is not in the upper block is zero there
    pub upper_of_rest : (r : List VTerm) → IsFalling p n (m + c) o r → ((s : VTerm) (rs : List VTerm) (f : IsFalling p n (m + c) o (s ∷ rs)) → r ≡ s ∷ rs → ¬ (Upper (head_place p n (m + c) o (s ∷ rs) f)))
        → (b : ℕ × Monomial n) → Upper b → list_value p n (m + c) o r b ≡ (gf p).zero
    upper_of_rest [] f low b up = val_nil p n (m + c) o b
    upper_of_rest (s ∷ rs) f low b up = (head_of_terms p n (m + c) o s rs f).1 b (inl (lower_level (head_place p n (m + c) o (s ∷ rs) f) b (low s rs f refl) up))
