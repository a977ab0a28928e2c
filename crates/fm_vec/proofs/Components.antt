-- The components of a vector are polynomials, and a vector is told by them
use Rattle.std.proofs.Common.{ℕ, ◌==◌, ◌<◌, ◌≡◌, inl, inr, if◌then◌else◌, Bool, true, false, List, [], ◌∷◌, refl, sym, ap, ap₂, ◌∙◌, arith, eq-eqb}
use Rattle.std.proofs.lemmas.Bool.{eqb-true, cases_lt}
use Rattle.std.proofs.lemmas.Bool.Decides.{nat_tests}
use Rattle.std.specs.declared.cmp.Ordering.TheVariants.{Less}
use Rattle.fm_mono.specs.Orders.{monomial_cmp}
use Rattle.fm_algebra.specs.Heads.{AllLess, IsFalling}
use Rattle.fm_algebra.specs.Polynomials.{AreListedTerms}
use Rattle.fm_poly.specs.declared.ring.Ring.{Ring}
use Rattle.fm_poly.specs.declared.term.Term.{Term}
use Rattle.fm_poly.specs.Polys.{pairs, IsCanonical}
use Rattle.fm_poly.proofs.KeptTerms.{lists_unique}
use Rattle.fm_term.specs.declared.vterm.VTerm.{VTerm}
use Rattle.fm_term.specs.Places.{AllBelow, Falls}
use Rattle.fm_term.specs.Falling.{AreTerms}
use Rattle.fm_vec.specs.Vectors.{IsVector}
use Rattle.fm_vec.specs.Components.{component_terms, component_meaning}
use Rattle.fm_term.proofs.Places.{less_place}

module _ (r : Ring) where
  -- ---- a component is a canonical list
  below_component : (k : ℕ) (t : VTerm) (ts : List VTerm) → t.component ≡ k → AllBelow r.order t ts → AllLess (monomial_cmp r.order) t.mono (pairs (component_terms k ts))
  below_component k t [] e w = tt
  below_component k t (u ∷ ts) e w = go (u.component == k) refl (below_component k t ts e w.1)
    where
      less : u.component ≡ k → monomial_cmp r.order u.mono t.mono ≡ Less
      less i = elim (less_place r.order u t w.0) [ inl lower ↦ absurd (omega arith) | inr same ↦ same.1 ]

      go : (b : Bool) → (u.component == k) ≡ b → AllLess (monomial_cmp r.order) t.mono (pairs (component_terms k ts))
          → AllLess (monomial_cmp r.order) t.mono (pairs (if b then record { mono = u.mono; coeff = u.coeff } ∷ component_terms k ts else component_terms k ts))
      go true i later = (less (eqb-true u.component k i), later)
      go false i later = later

  component_falls : (k : ℕ) (ts : List VTerm) → Falls r.order ts → IsFalling (monomial_cmp r.order) (pairs (component_terms k ts))
  component_falls k [] w = tt
  component_falls k (t ∷ ts) w = go (t.component == k) refl (component_falls k ts w.1)
    where
      go : (b : Bool) → (t.component == k) ≡ b → IsFalling (monomial_cmp r.order) (pairs (component_terms k ts))
          → IsFalling (monomial_cmp r.order) (pairs (if b then record { mono = t.mono; coeff = t.coeff } ∷ component_terms k ts else component_terms k ts))
      go true i later = (below_component k t ts (eqb-true t.component k i) w.0, later)
      go false i later = later

  component_listed : (k : ℕ) (ts : List VTerm) → AreTerms r.prime r.vars ts → AreListedTerms r.prime r.vars (pairs (component_terms k ts))
  component_listed k [] w = tt
  component_listed k (t ∷ ts) w = go (t.component == k) (component_listed k ts w.1)
    where
      go : (b : Bool) → AreListedTerms r.prime r.vars (pairs (component_terms k ts))
          → AreListedTerms r.prime r.vars (pairs (if b then record { mono = t.mono; coeff = t.coeff } ∷ component_terms k ts else component_terms k ts))
      go true later = (w.0.fits, w.0.positive, w.0.below, later)
      go false later = later

  pub component_canonical : (k : ℕ) (ts : List VTerm) → Falls r.order ts → AreTerms r.prime r.vars ts → IsCanonical r (component_terms k ts)
  component_canonical k ts falls terms = record { listed = component_listed k ts terms; falls = component_falls k ts falls }

  -- ---- a vector is told by its components
  at_least : (k : ℕ) (t : VTerm) (ts : List VTerm) → k < t.component → AllBelow r.order t ts → component_terms k ts ≡ []
  at_least k t [] h w = refl
  at_least k t (u ∷ ts) h w = ap (λ b. if b then record { mono = u.mono; coeff = u.coeff } ∷ component_terms k ts else component_terms k ts) (differs u.component k above) ∙ at_least k t ts h w.1
    where
      above : k < u.component
      above = elim (less_place r.order u t w.0) [ inl lower ↦ omega arith | inr same ↦ (let e = same.0 in omega arith) ]

      differs : (c k : ℕ) → k < c → (c == k) ≡ false
      differs c k h = grind (arith, nat_tests)

  pub none_before : (k : ℕ) (t : VTerm) (ts : List VTerm) → k < t.component → Falls r.order (t ∷ ts) → component_terms k (t ∷ ts) ≡ []
  none_before k t ts h w =
      ap (λ b. if b then record { mono = t.mono; coeff = t.coeff } ∷ component_terms k ts else component_terms k ts) (differs t.component k h) ∙ at_least k t ts h w.0
    where
      differs : (c k : ℕ) → k < c → (c == k) ≡ false
      differs c k h = grind (arith, nat_tests)

  own : (t : VTerm) (ts : List VTerm) → component_terms t.component (t ∷ ts) ≡ record { mono = t.mono; coeff = t.coeff } ∷ component_terms t.component ts
  own t ts = ap (λ b. if b then record { mono = t.mono; coeff = t.coeff } ∷ component_terms t.component ts else component_terms t.component ts) (eq-eqb t.component t.component refl)

  no_first : {x : Term} {xs : List Term} → x ∷ xs ≡ [] → ⊥
  no_first e = cc

  tails : {x y : Term} {xs ys : List Term} → x ∷ xs ≡ y ∷ ys → xs ≡ ys
  tails e = cc

  heads : {x y : Term} {xs ys : List Term} → x ∷ xs ≡ y ∷ ys → x ≡ y
  heads e = cc

  same_term : (t u : VTerm) → t.component ≡ u.component → ◌≡◌ {A = Term} (record { mono = t.mono; coeff = t.coeff }) (record { mono = u.mono; coeff = u.coeff }) → t ≡ u
  same_term t u c e i = record { component = c i; mono = (e i).mono; coeff = (e i).coeff }

  pub told : (ts us : List VTerm) → Falls r.order ts → Falls r.order us → ((k : ℕ) → component_terms k ts ≡ component_terms k us) → ts ≡ us
  told [] [] w v e = refl
  told [] (u ∷ us) w v e = absurd (no_first (sym (own u us) ∙ sym (e u.component)))
  told (t ∷ ts) [] w v e = absurd (no_first (sym (own t ts) ∙ e t.component))
  told (t ∷ ts) (u ∷ us) w v e = elim (cases_lt t.component u.component) [
    | inl lower ↦ absurd (no_first (sym (own t ts) ∙ e t.component ∙ none_before t.component u us lower v))
    | inr above ↦ elim (cases_lt u.component t.component) [
      | inl lower ↦ absurd (no_first (sym (own u us) ∙ sym (e u.component) ∙ none_before u.component t ts lower w))
      | inr upper ↦ same (omega arith) (told ts us w.1 v.1)
    ]
  ]
    where
      rest : t.component ≡ u.component → (k : ℕ) → component_terms k ts ≡ component_terms k us
      rest c k = go (t.component == k) refl (e k)
        where
          go : (b : Bool) → (t.component == k) ≡ b → component_terms k (t ∷ ts) ≡ component_terms k (u ∷ us) → component_terms k ts ≡ component_terms k us
          go true i h =
              tails (sym (ap (λ b. if b then record { mono = t.mono; coeff = t.coeff } ∷ component_terms k ts else component_terms k ts) i) ∙ h
              ∙ ap (λ b. if b then record { mono = u.mono; coeff = u.coeff } ∷ component_terms k us else component_terms k us) (ap (λ x. x == k) (sym c) ∙ i))
          go false i h =
              sym (ap (λ b. if b then record { mono = t.mono; coeff = t.coeff } ∷ component_terms k ts else component_terms k ts) i) ∙ h
              ∙ ap (λ b. if b then record { mono = u.mono; coeff = u.coeff } ∷ component_terms k us else component_terms k us) (ap (λ x. x == k) (sym c) ∙ i)

      first : t.component ≡ u.component → t ≡ u
      first c = same_term t u c (heads (sym (own t ts) ∙ e t.component ∙ ap (λ k. component_terms k (u ∷ us)) c ∙ own u us))

      same : t.component ≡ u.component → (((k : ℕ) → component_terms k ts ≡ component_terms k us) → ts ≡ us) → t ∷ ts ≡ u ∷ us
      same c later = ap₂ (λ x xs. x ∷ xs) (first c) (later (rest c))

  -- vectors of one meaning have the same terms
  pub vectors_unique : (n : ℕ) (ts us : List VTerm) → IsVector r n ts → IsVector r n us → ((k : ℕ) → component_meaning r k ts ≡ component_meaning r k us) → ts ≡ us
  unfolding component_meaning
  vectors_unique n ts us v w e =
      told ts us v.falls w.falls (λ k. lists_unique r (component_terms k ts) (component_terms k us) (component_canonical k ts v.falls v.proper) (component_canonical k us w.falls w.proper) (e k))
