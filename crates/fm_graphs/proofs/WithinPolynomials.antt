-- Sums, products and twists of polynomials within the bound on exponents.
use Rattle.std.proofs.Common.{ℕ, zero, suc, ◌+◌, ◌-◌, ◌%◌, ◌^◌, ◌==◌, ◌≡◌, if◌then◌else◌, Bool, true, false, List, [], ◌∷◌, map, replicate, length, inl, inr, refl, sym, ap, ap₂, ◌∙◌, arith}
use Rattle.std.proofs.Math.Nat.{zero-mod, mod_self}
use Rattle.std.proofs.lemmas.Bool.{and_parts, and_from, false≢true}
use Rattle.std.proofs.lemmas.List.Folds.{list_all-append, list_all-map}
use Rattle.std.specs.List.{list_all}
use native.Mathlib.Decide.{ℕ_discrete}
use Rattle.fm_tuple.specs.Tuple.{tuple_sum, tuple_multiple}
use Rattle.fm_gfp.specs.Primes.{prime_value}
use Rattle.fm_gfp.specs.declared.prime.Prime.{Prime}
use Rattle.fm_mono.specs.Bounded.{is_bounded}
use Rattle.fm_mono.proofs.Bounds.{zeros_within}
use Rattle.fm_algebra.specs.Gf.{gf, gf_is_zero}
use Rattle.fm_algebra.specs.Poly.{Among, coeff, apart, same_tuple}
use Rattle.fm_algebra.specs.PolyRing.{support, tuple_sums}
use Rattle.fm_algebra.specs.Polynomials.{Polynomial, coefficient, polynomial_zero, polynomial_one, polynomial_sum, polynomial_product, polynomial_negative, frobenius_twist}
use Rattle.fm_algebra.proofs.Gf.{gf_laws}
use Rattle.fm_algebra.proofs.Poly.{support_covers}
use Rattle.fm_algebra.proofs.PolyRing.{coeff_mul, times_covers}
use Rattle.fm_algebra.proofs.PolynomialWords.{coefficient_other_length, coefficient_zero, coefficient_one_elsewhere, coefficient_sum, coefficient_negative}
use Rattle.fm_algebra.proofs.Twist.{twisted_at, coeff_twist}
use Rattle.fm_poly.specs.Polys.{pairs, meaning, IsCanonical}
use Rattle.fm_poly.specs.declared.term.Term.{Term}
use Rattle.fm_poly.proofs.BoundSteps.{all_pass as terms_pass, tuples_pass, tuple_fails}
use Rattle.fm_poly.specs.Bounds.{AreWithinBound}
use Rattle.fm_poly.specs.declared.ring.Ring.{Ring}
use Rattle.fm_term.specs.declared.vterm.VTerm.{VTerm}
use Rattle.fm_vec.specs.Components.{component_terms, component_meaning, components_meaning}
use Rattle.fm_mat.specs.Bounds.{product_fits, twist_fits}
use Rattle.fm_mat.proofs.Supports.{all_pass, nonzero, supported}
use Rattle.fm_complete.specs.Within.{AllBounded, AreBounded}
use Rattle.fm_complete.proofs.BoundedQuotients.{put_bounded}
use Rattle.fm_graphs.specs.Listing.{VectorOf, with_terms, terms_from, terms_of}
use Rattle.fm_graphs.specs.Within.{is_within, are_within}

-- what passes a test of a list
all_at : (test : List ℕ → Bool) (a : List ℕ) (ks : List (List ℕ)) → list_all test ks ≡ true → Among a ks → test a ≡ true
all_at test a [] h i = absurd i
all_at test a (k ∷ ks) h (inl e) = ap test e ∙ (and_parts _ _ h).0
all_at test a (k ∷ ks) h (inr i) = all_at test a ks (and_parts _ _ h).1 i

sums_within : (as' bs : List (List ℕ)) → list_all (λ a. list_all (λ b. is_bounded (tuple_sum a b)) bs) as' ≡ true → list_all is_bounded (tuple_sums as' bs) ≡ true
unfolding tuple_sums
sums_within [] bs h = refl
sums_within (a ∷ as') bs h =
    let h = and_parts _ _ h in
    list_all-append is_bounded (map (tuple_sum a) bs) (tuple_sums as' bs) ∙ and_from _ _ (list_all-map is_bounded (tuple_sum a) bs ∙ h.0) (sums_within as' bs h.1)

module _ (p : Prime) (n : ℕ) where
  -- the exponents of the coefficients that aren't 0 are within the bound
  abbrev Bounded : Polynomial p n → Type 0
  Bounded f = (a : List ℕ) → ¬ (coefficient p n f a ≡ 0) → is_bounded a ≡ true

  bounded_of : (f : Polynomial p n) → is_within p n f ≡ true → Bounded f
  bounded_of f h a w = all_at is_bounded a (support f) h (supported p n f a w)

  within_of : (f : Polynomial p n) → Bounded f → is_within p n f ≡ true
  within_of f h = all_pass is_bounded (support f) (λ a i. h a (nonzero p n f a i))

  -- a test of the support of 0
  pub nothing_fails : (test : List ℕ → Bool) → list_all test (support (polynomial_zero p n)) ≡ true
  nothing_fails test = all_pass test (support (polynomial_zero p n)) (λ a i. absurd (nonzero p n (polynomial_zero p n) a i (coefficient_zero p n a)))

  pub one_within : is_within p n (polynomial_one p n) ≡ true
  one_within = within_of (polynomial_one p n) (λ a w. elim (same_tuple a (replicate n 0)) [
    | inl s ↦ ap is_bounded s.0 ∙ zeros_within n
    | inr d ↦ absurd (w (coefficient_one_elsewhere p n a (apart a (replicate n 0) d)))
  ])

  pub sum_within : (f g : Polynomial p n) → is_within p n f ≡ true → is_within p n g ≡ true → is_within p n (polynomial_sum p n f g) ≡ true
  sum_within f g h k = within_of (polynomial_sum p n f g) (λ a w. elim (ℕ_discrete (coefficient p n f a) 0) [
    | no v ↦ bounded_of f h a v
    | yes z ↦ bounded_of g k a (λ y. w (coefficient_sum p n f g a ∙ ap₂ (λ c d. (c + d) % prime_value p) z y ∙ zero-mod (prime_value p)))
  ])

  pub negative_within : (f : Polynomial p n) → is_within p n f ≡ true → is_within p n (polynomial_negative p n f) ≡ true
  negative_within f h = within_of (polynomial_negative p n f) (λ a w. bounded_of f h a (λ z.
      w (coefficient_negative p n f a ∙ ap (λ c. (prime_value p - c) % prime_value p) z ∙ ap (λ c. c % prime_value p) (whole (prime_value p)) ∙ mod_self (prime_value p))))
    where
      whole : (q : ℕ) → q - 0 ≡ q
      whole q = omega arith

  pub product_within : (f g : Polynomial p n) → product_fits p n f g ≡ true → is_within p n (polynomial_product p n f g) ≡ true
  unfolding coefficient polynomial_product
  product_within f g h = within_of (polynomial_product p n f g) (λ a w. elim (ℕ_discrete (length a) n) [
    | no v ↦ absurd (w (coefficient_other_length p n (polynomial_product p n f g) a v))
    | yes l ↦ elim (times_covers (gf_laws p) n (coeff f) (coeff g) (support f) (support g) (support_covers f) (support_covers g) a l) [
      | inl z ↦ absurd (w (ap (λ s. (s a).number) (coeff_mul (gf p) (gf_laws p) (gf_is_zero p) n f g) ∙ ap (λ c. c.number) z ∙ zero-mod (prime_value p)))
      | inr i ↦ all_at is_bounded a (tuple_sums (support f) (support g)) (sums_within (support f) (support g) h) i
    ]
  ])

  pub twist_within : (e : ℕ) (f : Polynomial p n) → twist_fits p n e f ≡ true → is_within p n (frobenius_twist p n e f) ≡ true
  unfolding coefficient frobenius_twist
  twist_within e f h = within_of (frobenius_twist p n e f) (λ a w.
      let q = prime_value p ^ e in
      let same = coeff_twist (gf p) (gf_is_zero p) n q f in
      elim (twisted_at (gf p) q (coeff f) a) [
        | inl z ↦ absurd (w (ap (λ s. (s a).number) same ∙ ap (λ c. c.number) z ∙ zero-mod (prime_value p)))
        | inr t ↦ ap is_bounded t.1 ∙ all_at (λ b. is_bounded (tuple_multiple q b)) t.0 (support f) h (supported p n f t.0 (λ z. w (ap (λ s. (s a).number) same ∙ ap (λ c. c.number) t.2 ∙ z)))
      ])

module _ (r : Ring) where
  -- ---- polynomials as lists of terms
  -- a polynomial is within the bound where its terms are
  pub meaning_within : (ts : List Term) → terms_pass is_bounded ts ≡ true → is_within r.prime r.vars (meaning r ts) ≡ true
  meaning_within ts h = within_of r.prime r.vars (meaning r ts) (λ a w. tuples_pass is_bounded r ts a h w)

  passing : (ts : List Term) → AreWithinBound (pairs ts) → terms_pass is_bounded ts ≡ true
  passing [] w = refl
  passing (t ∷ ts) w = and_from _ _ w.0 (passing ts w.1)

  passed : (ts : List Term) → terms_pass is_bounded ts ≡ true → AreWithinBound (pairs ts)
  passed [] h = tt
  passed (t ∷ ts) h = let h = and_parts _ _ h in (h.0, passed ts h.1)

  pub read_within : (ts : List Term) → AreWithinBound (pairs ts) → is_within r.prime r.vars (meaning r ts) ≡ true
  read_within ts w = meaning_within ts (passing ts w)

  -- and the terms of a canonical list are, where the polynomial is
  pub written_within : (ts : List Term) → IsCanonical r ts → is_within r.prime r.vars (meaning r ts) ≡ true → AreWithinBound (pairs ts)
  written_within ts c h = go (terms_pass is_bounded ts) refl
    where
      go : (b : Bool) → terms_pass is_bounded ts ≡ b → AreWithinBound (pairs ts)
      go true e = passed ts e
      go false e =
          let F = tuple_fails is_bounded r ts c e in
          absurd (false≢true (sym F.fails ∙ bounded_of r.prime r.vars (meaning r ts) h F.a F.a_of_ts))

  -- ---- vectors as lists of terms
  parts_pass : (k : ℕ) (ts : List VTerm) → AllBounded ts → terms_pass is_bounded (component_terms k ts) ≡ true
  parts_pass k [] w = refl
  parts_pass k (t ∷ ts) w = go (t.component == k) (parts_pass k ts w.1)
    where
      go : (b : Bool) → terms_pass is_bounded (component_terms k ts) ≡ true → terms_pass is_bounded (if b then record { mono = t.mono; coeff = t.coeff } ∷ component_terms k ts else component_terms k ts) ≡ true
      go true later = and_from _ _ w.0 later
      go false later = later

  pub components_within : (c k : ℕ) (ts : List VTerm) → AllBounded ts → are_within r.prime r.vars (components_meaning r c k ts) ≡ true
  unfolding components_meaning component_meaning
  components_within zero k ts w = refl
  components_within (suc c) k ts w = and_from _ _ (meaning_within (component_terms k ts) (parts_pass k ts w)) (components_within c (suc k) ts w)

  with_terms_bounded : (k : ℕ) (f : Polynomial r.prime r.vars) (ks : List (List ℕ)) (ts : List VTerm) → list_all is_bounded ks ≡ true → AllBounded ts → AllBounded (with_terms r k f ks ts)
  with_terms_bounded k f [] ts h w = w
  with_terms_bounded k f (a ∷ ks) ts h w =
      let h = and_parts _ _ h in
      put_bounded r (record { component = k; mono = a; coeff = coefficient r.prime r.vars f a }) (with_terms r k f ks ts) h.0 (with_terms_bounded k f ks ts h.1 w)

  terms_from_bounded : (k : ℕ) (v : VectorOf r) → are_within r.prime r.vars v ≡ true → AllBounded (terms_from r k v)
  terms_from_bounded k [] h = tt
  terms_from_bounded k (f ∷ fs) h =
      let h = and_parts _ _ h in
      with_terms_bounded k f (support f) (terms_from r (suc k) fs) h.0 (terms_from_bounded (suc k) fs h.1)

  pub terms_bounded : (v : VectorOf r) → are_within r.prime r.vars v ≡ true → AllBounded (terms_of r v)
  unfolding terms_of
  terms_bounded v h = terms_from_bounded 1 v h

  pub columns_bounded : (vs : List (VectorOf r)) → list_all (are_within r.prime r.vars) vs ≡ true → AreBounded (map (terms_of r) vs)
  columns_bounded [] h = tt
  columns_bounded (v ∷ vs) h = let h = and_parts _ _ h in (terms_bounded v h.0, columns_bounded vs h.1)
