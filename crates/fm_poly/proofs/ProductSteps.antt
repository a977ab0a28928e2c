-- A term times a canonical list, and products by halves
use Rattle.std.proofs.Common.{◌≡◌, ◌<◌, ℕ, ◌*◌, ◌%◌, ◌&&◌, List, [], ◌∷◌, ◌++◌, length, All, inl, inr, refl, ap, ap₂, sym, ◌∙◌, subst, arith}
use Rattle.std.proofs.Math.Nat.{mod-eq_of_lt}
use Rattle.std.proofs.lemmas.List.{nil_from_length}
use Rattle.std.proofs.lemmas.List.Elements.{All-nil, All-cons}
use Rattle.std.proofs.lemmas.List.Folds.{list_all-append}
use Rattle.std.proofs.lemmas.Nat.{mod_below}
use Rattle.std.specs.declared.cmp.Ordering.TheVariants.{Less}
use Rattle.fm_tuple.specs.Tuple.{tuple_sum}
use Rattle.fm_tuple.proofs.Tuples.{length_tuple_sum, tuple_sum_comm}
use Rattle.fm_gfp.specs.Primes.{prime_value}
use Rattle.fm_gfp.proofs.Residues.{prime_positive, no_zero_divisors}
use Rattle.fm_mono.specs.Orders.{monomial_cmp}
use Rattle.fm_mono.proofs.OrderLaws.{monomial_cmp_sum}
use Rattle.fm_algebra.specs.Polynomials.{Polynomial, polynomial_zero, polynomial_sum, polynomial_product, polynomial_term, polynomial_of, AllFit}
use Rattle.fm_algebra.proofs.Algebra.{add_mul, zero_mul}
use Rattle.fm_algebra.proofs.Concrete.{polynomials_laws}
use Rattle.fm_algebra.proofs.TermWords.{shifted_terms, term_times, of_modulo}
use Rattle.fm_poly.specs.declared.ring.Ring.{Ring}
use Rattle.fm_poly.specs.declared.term.Term.{Term}
use Rattle.fm_poly.specs.Polys.{pairs, meaning, IsCanonical, IsTermOf}
use Rattle.fm_poly.specs.Steps.{row_terms, row_fits, products_fit}
use Rattle.fm_poly.proofs.OrderedTerms.{Below, Falls, Listed, canonical_front, canonical_back, meaning_append, meaning_empty}
use Rattle.fm_poly.proofs.MergeSteps.{meaning_one}

module _ (r : Ring) where
  abbrev Value : Type 0
  Value = Polynomial r.prime r.vars

  abbrev times : Value → Value → Value
  times f g = polynomial_product r.prime r.vars f g

  abbrev term : Term → Value
  term t = polynomial_term r.prime r.vars t.coeff t.mono

  -- ---- the terms of a canonical list
  terms_listed : (ts : List Term) → Listed r.prime r.vars ts → All (IsTermOf r) ts
  terms_listed [] w = All-nil (IsTermOf r)
  terms_listed (t ∷ ts) w = All-cons (IsTermOf r) t ts (record { fits = w.0; below = w.2 }) (terms_listed ts w.3)

  pub canonical_terms : (ts : List Term) → IsCanonical r ts → All (IsTermOf r) ts
  canonical_terms ts c = terms_listed ts c.listed

  pub front_of : (f left right : List Term) → f ≡ left ++ right → IsCanonical r f → IsCanonical r left
  front_of f left right e c = canonical_front r left right (subst (IsCanonical r) e c)

  pub back_of : (f left right : List Term) → f ≡ left ++ right → IsCanonical r f → IsCanonical r right
  back_of f left right e c = canonical_back r left right (subst (IsCanonical r) e c)

  all_fit : (ts : List Term) → Listed r.prime r.vars ts → AllFit r.vars (pairs ts)
  all_fit [] w = tt
  all_fit (t ∷ ts) w = (w.0, all_fit ts w.3)

  -- ---- a row
  pub product_positive : (c d : ℕ) → 0 < c → c < prime_value r.prime → 0 < d → d < prime_value r.prime → 0 < (c * d) % prime_value r.prime
  product_positive c d pc bc pd bd = at ((c * d) % prime_value r.prime) (λ e. elim (no_zero_divisors r.prime c d bc bd e) [ inl z ↦ absurd (omega arith) | inr z ↦ absurd (omega arith) ])
    where
      at : (m : ℕ) → ¬ (m ≡ 0) → 0 < m
      at m w = grind arith

  row_listed : (t : Term) (us : List Term) → length t.mono ≡ r.vars → 0 < t.coeff → t.coeff < prime_value r.prime → Listed r.prime r.vars us → Listed r.prime r.vars (row_terms r t us)
  row_listed t [] l positive below w = tt
  row_listed t (u ∷ us) l positive below w = (
    length_tuple_sum t.mono u.mono (l ∙ sym w.0) ∙ l,
    product_positive t.coeff u.coeff positive below w.1 w.2,
    mod_below (t.coeff * u.coeff) (prime_value r.prime) (prime_positive r.prime),
    row_listed t us l positive below w.3,
  )

  times_below : (t u v : Term) → length t.mono ≡ r.vars → length u.mono ≡ r.vars → length v.mono ≡ r.vars → monomial_cmp r.order v.mono u.mono ≡ Less
      → monomial_cmp r.order (tuple_sum t.mono v.mono) (tuple_sum t.mono u.mono) ≡ Less
  times_below t u v lt lu lv below =
      ap₂ (monomial_cmp r.order) (tuple_sum_comm t.mono v.mono (lt ∙ sym lv)) (tuple_sum_comm t.mono u.mono (lt ∙ sym lu))
      ∙ monomial_cmp_sum r.order v.mono u.mono t.mono (lv ∙ sym lt) (lu ∙ sym lt) ∙ below

  row_below : (t u : Term) (us : List Term) → length t.mono ≡ r.vars → length u.mono ≡ r.vars → Listed r.prime r.vars us → Below r.order u.mono us
      → Below r.order (tuple_sum t.mono u.mono) (row_terms r t us)
  row_below t u [] lt lu l w = tt
  row_below t u (v ∷ us) lt lu l w = (times_below t u v lt lu l.0 w.0, row_below t u us lt lu l.3 w.1)

  row_falls : (t : Term) (us : List Term) → length t.mono ≡ r.vars → Listed r.prime r.vars us → Falls r.order us → Falls r.order (row_terms r t us)
  row_falls t [] lt l w = tt
  row_falls t (u ∷ us) lt l w = (row_below t u us lt l.0 l.3 w.0, row_falls t us lt l.3 w.1)

  row_canonical : (t : Term) (us : List Term) → IsCanonical r (t ∷ []) → IsCanonical r us → IsCanonical r (row_terms r t us)
  row_canonical t us c d = record {
    listed = row_listed t us c.listed.0 c.listed.1 c.listed.2 d.listed;
    falls = row_falls t us c.listed.0 d.listed d.falls;
  }

  row_shifted : (t : Term) (us : List Term) → polynomial_of r.prime r.vars (pairs (row_terms r t us)) ≡ polynomial_of r.prime r.vars (shifted_terms r.prime r.vars t.coeff t.mono (pairs us))
  unfolding polynomial_of
  row_shifted t [] = refl
  row_shifted t (u ∷ us) =
      ap (polynomial_sum r.prime r.vars (polynomial_term r.prime r.vars ((t.coeff * u.coeff) % prime_value r.prime) (tuple_sum t.mono u.mono))) (row_shifted t us)
      ∙ of_modulo r.prime r.vars (tuple_sum t.mono u.mono) ((t.coeff * u.coeff) % prime_value r.prime) (t.coeff * u.coeff) (shifted_terms r.prime r.vars t.coeff t.mono (pairs us))
      (mod-eq_of_lt (mod_below (t.coeff * u.coeff) (prime_value r.prime) (prime_positive r.prime)))

  row_meaning : (t : Term) (us : List Term) → length t.mono ≡ r.vars → Listed r.prime r.vars us → meaning r (row_terms r t us) ≡ times (term t) (meaning r us)
  unfolding meaning
  row_meaning t us lt l = row_shifted t us ∙ sym (term_times r.prime r.vars t.coeff t.mono (pairs us) lt (all_fit us l))

  -- ---- products
  zero_times : (g : Value) → times (polynomial_zero r.prime r.vars) g ≡ polynomial_zero r.prime r.vars
  unfolding polynomial_product polynomial_zero
  zero_times g = zero_mul (polynomials_laws r.prime r.vars) g

  sum_times : (f g h : Value) → times (polynomial_sum r.prime r.vars f g) h ≡ polynomial_sum r.prime r.vars (times f h) (times g h)
  unfolding polynomial_product polynomial_sum
  sum_times f g h = add_mul (polynomials_laws r.prime r.vars) f g h

  pub record IsProduct (f g h : List Term) : Type 0 where
    pub canonical : IsCanonical r h
    pub product : meaning r h ≡ times (meaning r f) (meaning r g)

  pub no_row : (f g h : List Term) → length f ≡ 0 → h ≡ [] → meaning r h ≡ times (meaning r f) (meaning r g)
  no_row f g h ef eh =
      ap (meaning r) eh ∙ meaning_empty r ∙ sym (zero_times (meaning r g)) ∙ ap (λ k. times k (meaning r g)) (sym (meaning_empty r)) ∙ ap (λ ts. times (meaning r ts) (meaning r g)) (sym (nil_from_length f ef))

  one_at : (t : Term) (g : List Term) → IsCanonical r (t ∷ []) → IsCanonical r g → IsProduct (t ∷ []) g (row_terms r t g)
  one_at t g c d = record {
    canonical = row_canonical t g c d;
    product = row_meaning t g c.listed.0 d.listed ∙ ap (λ k. times k (meaning r g)) (sym (meaning_one r t));
  }

  pub one_list : (f : List Term) (t : Term) (later : List Term) → f ≡ t ∷ later → length later ≡ 0 → f ≡ t ∷ []
  one_list f t later e l = e ∙ ap (λ us. t ∷ us) (nil_from_length later l)

  pub one_row : (f : List Term) (t : Term) (later g h : List Term) → f ≡ t ∷ later → length later ≡ 0 → IsCanonical r f → IsCanonical r g → h ≡ row_terms r t g → IsProduct f g h
  one_row f t later g h e l c d eh =
      subst (λ k. IsProduct f g k) (sym eh) (subst (λ k. IsProduct k g (row_terms r t g)) (sym (one_list f t later e l)) (one_at t g (subst (IsCanonical r) (one_list f t later e l) c) d))

  pub two_halves : (f left right g u v h : List Term) → f ≡ left ++ right → meaning r u ≡ times (meaning r left) (meaning r g) → meaning r v ≡ times (meaning r right) (meaning r g)
      → meaning r h ≡ polynomial_sum r.prime r.vars (meaning r u) (meaning r v) → meaning r h ≡ times (meaning r f) (meaning r g)
  two_halves f left right g u v h e eu ev eh =
      eh ∙ ap₂ (polynomial_sum r.prime r.vars) eu ev ∙ sym (sum_times (meaning r left) (meaning r right) (meaning r g))
      ∙ ap (λ k. times k (meaning r g)) (sym (meaning_append r left right) ∙ ap (meaning r) (sym e))

-- ---- the bound
pub halves_fit : (f left right g : List Term) → f ≡ left ++ right → products_fit f g ≡ (products_fit left g && products_fit right g)
halves_fit f left right g e = ap (λ ts. products_fit ts g) e ∙ list_all-append (λ t. row_fits t g) left right

-- ---- the factors in the other order
pub product_turned : (r : Ring) (f g h : List Term) → meaning r h ≡ polynomial_product r.prime r.vars (meaning r g) (meaning r f) → meaning r h ≡ polynomial_product r.prime r.vars (meaning r f) (meaning r g)
unfolding polynomial_product
product_turned r f g h e = e ∙ (polynomials_laws r.prime r.vars).mul_comm (meaning r g) (meaning r f)
