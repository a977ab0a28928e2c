-- Columns of polynomials as vectors, and back
use Rattle.std.proofs.Common.{ℕ, zero, suc, ◌+◌, ◌-◌, ◌==◌, ◌<◌, ◌≤◌, ◌≡◌, inl, inr, if◌then◌else◌, Bool, true, false, List, [], ◌∷◌, ◌++◌, take, drop, refl, sym, ap, ap₂, ◌∙◌, subst, arith, append_assoc}
use Rattle.std.proofs.lemmas.Bool.{eqb-true}
use Rattle.std.proofs.lemmas.Bool.Decides.{nat_tests}
use Rattle.std.proofs.lemmas.Cmp.{nat_cmp_total}
use Rattle.std.specs.Ordering.{ordering_then}
use Rattle.std.specs.Cmp.{nat_cmp_is, tied_itself}
use Rattle.std.specs.declared.cmp.Ordering.TheVariants.{Less}
use Rattle.fm_mono.specs.Orders.{monomial_cmp}
use Rattle.fm_algebra.specs.Heads.{AllLess, IsFalling}
use Rattle.fm_algebra.specs.Polynomials.{AreListedTerms}
use Rattle.fm_poly.specs.declared.ring.Ring.{Ring}
use Rattle.fm_poly.specs.declared.term.Term.{Term}
use Rattle.fm_poly.specs.Polys.{PolyValue, pairs, IsCanonical}
use Rattle.fm_term.specs.declared.vterm.VTerm.{VTerm}
use Rattle.fm_term.specs.Places.{AllBelow, Falls}
use Rattle.fm_term.specs.Falling.{AreTerms, AreWithin}
use Rattle.fm_vec.specs.Vectors.{IsVector}
use Rattle.fm_vec.specs.Components.{component_terms, column_from, placed, column_terms}
use Rattle.fm_vec.specs.Steps.{front_count, unplaced, AreFrom}
use Rattle.fm_term.proofs.Places.{less_place}
use Rattle.fm_vec.proofs.Components.{component_canonical, none_before}

module _ (r : Ring) where
  -- ---- a polynomial placed in a component
  placed_below : (k c : ℕ) (m : List ℕ) (ts : List Term) → AllLess (monomial_cmp r.order) m (pairs ts) → AllBelow r.order (record { component = k; mono = m; coeff = c }) (placed k ts)
  placed_below k c m [] w = tt
  placed_below k c m (t ∷ ts) w = (ap (λ x. ordering_then x (monomial_cmp r.order t.mono m)) (tied_itself nat_cmp_total k) ∙ w.0, placed_below k c m ts w.1)

  placed_falls : (k : ℕ) (ts : List Term) → IsFalling (monomial_cmp r.order) (pairs ts) → Falls r.order (placed k ts)
  placed_falls k [] w = tt
  placed_falls k (t ∷ ts) w = (placed_below k t.coeff t.mono ts w.0, placed_falls k ts w.1)

  placed_terms : (k : ℕ) (ts : List Term) → AreListedTerms r.prime r.vars (pairs ts) → AreTerms r.prime r.vars (placed k ts)
  placed_terms k [] w = tt
  placed_terms k (t ∷ ts) w = (record { fits = w.0; positive = w.1; below = w.2 }, placed_terms k ts w.3)

  -- ---- below what stands in smaller components
  later_below : (k : ℕ) (t : VTerm) (ts : List Term) → t.component ≤ k → AllBelow r.order t (placed (suc k) ts)
  later_below k t [] h = tt
  later_below k t (u ∷ ts) h = (ap (λ x. ordering_then x (monomial_cmp r.order u.mono t.mono)) (sym (nat_cmp_is t.component (suc k) Less (omega arith))), later_below k t ts h)

  below_append : (t : VTerm) (us vs : List VTerm) → AllBelow r.order t us → AllBelow r.order t vs → AllBelow r.order t (us ++ vs)
  below_append t [] vs w v = v
  below_append t (u ∷ us) vs w v = (w.0, below_append t us vs w.1 v)

  falls_append : (k : ℕ) (out : List VTerm) (ts : List Term) → AreWithin k out → Falls r.order out → Falls r.order (placed (suc k) ts) → Falls r.order (out ++ placed (suc k) ts)
  falls_append k [] ts h w v = v
  falls_append k (t ∷ out) ts h w v = (below_append t out (placed (suc k) ts) w.0 (later_below k t ts h.1), falls_append k out ts h.2 w.1 v)

  terms_append : (us vs : List VTerm) → AreTerms r.prime r.vars us → AreTerms r.prime r.vars vs → AreTerms r.prime r.vars (us ++ vs)
  terms_append [] vs w v = v
  terms_append (u ∷ us) vs w v = (w.0, terms_append us vs w.1 v)

  within_append : (k : ℕ) (out : List VTerm) (ts : List Term) → AreWithin k out → AreWithin (suc k) (out ++ placed (suc k) ts)
  within_append k [] [] w = tt
  within_append k [] (t ∷ ts) w = (omega arith, omega arith, within_append k [] ts w)
  within_append k (t ∷ out) ts w = (w.0, higher t.component k w.1, within_append k out ts w.2)
    where
      higher : (c k : ℕ) → c ≤ k → c ≤ suc k
      higher c k h = omega arith

  vector_push : (k : ℕ) (out : List VTerm) (ts : List Term) → IsVector r k out → IsCanonical r ts → IsVector r (suc k) (out ++ placed (suc k) ts)
  vector_push k out ts v c = record {
    falls = falls_append k out ts v.within v.falls (placed_falls (suc k) ts c.falls);
    proper = terms_append out (placed (suc k) ts) v.proper (placed_terms (suc k) ts c.listed);
    within = within_append k out ts v.within;
  }

  one_more : (k : ℕ) → k + 1 ≡ suc k
  one_more k = omega arith

  pub column_vector : (k : ℕ) (out out' : List VTerm) (ts : List Term) (f : PolyValue) → out' ≡ out ++ placed (k + 1) ts → ts ≡ f.terms → f.ring ≡ r → IsCanonical f.ring f.terms
      → IsVector r k out → IsVector r (k + 1) out'
  column_vector k out out' ts f pushed is ring c v =
      subst (λ n. IsVector r n out') (sym (one_more k))
      (subst (IsVector r (suc k)) (sym (pushed ∙ ap₂ (λ n x. out ++ placed n x) (one_more k) is)) (vector_push k out f.terms v (subst (λ x. IsCanonical x f.terms) ring c)))

  pub column_whole : (k : ℕ) (out out' all : List VTerm) (ts : List Term) (f : PolyValue) (fs column : List PolyValue) → out' ≡ out ++ placed (k + 1) ts → ts ≡ f.terms → column ≡ f ∷ fs
      → out ++ column_terms (suc k) column ≡ all → out' ++ column_terms (suc (k + 1)) fs ≡ all
  column_whole k out out' all ts f fs column pushed is here whole =
      ap (λ x. x ++ column_terms (suc (k + 1)) fs) (pushed ∙ ap (λ x. out ++ placed (k + 1) x) is)
      ∙ append_assoc out (placed (k + 1) f.terms) (column_terms (suc (k + 1)) fs)
      ∙ ap (λ n. out ++ (placed n f.terms ++ column_terms (suc n) fs)) (one_more k) ∙ ap (λ x. out ++ column_terms (suc k) x) (sym here) ∙ whole

  -- ---- the front of a vector
  pub within_from : (n : ℕ) (ts : List VTerm) → AreWithin n ts → AreFrom 1 ts
  within_from n [] w = tt
  within_from n (t ∷ ts) w = (w.0, within_from n ts w.2)

  from_below : (k : ℕ) (t : VTerm) (ts : List VTerm) → k ≤ t.component → AllBelow r.order t ts → AreFrom k ts
  from_below k t [] h w = tt
  from_below k t (u ∷ ts) h w = (at_least, from_below k t ts h w.1)
    where
      at_least : k ≤ u.component
      at_least = elim (less_place r.order u t w.0) [ inl lower ↦ omega arith | inr same ↦ (let e = same.0 in omega arith) ]

  -- what stands in component k at the front, and what comes after it
  pub record IsFront (k : ℕ) (ts : List VTerm) (count : ℕ) : Type 0 where
    pub own : unplaced (take count ts) ≡ component_terms k ts
    pub others : (j : ℕ) → k < j → component_terms j (drop count ts) ≡ component_terms j ts
    pub above : AreFrom (suc k) (drop count ts)

  differs : (c k : ℕ) → k < c → (c == k) ≡ false
  differs c k h = grind (arith, nat_tests)

  greater : (c k : ℕ) → k ≤ c → (c == k) ≡ false → k < c
  greater c k h e = grind (arith, nat_tests)

  pub front : (k : ℕ) (ts : List VTerm) → Falls r.order ts → AreFrom k ts → IsFront k ts (front_count k ts)
  front k [] w h = record { own = refl; others = λ j l. refl; above = tt }
  front k (t ∷ ts) w h = go (t.component == k) refl (front k ts w.1 h.1)
    where
      go : (b : Bool) → (t.component == k) ≡ b → IsFront k ts (front_count k ts) → IsFront k (t ∷ ts) (if b then suc (front_count k ts) else 0)
      go true e f = record {
        own = ap (λ x. record { mono = t.mono; coeff = t.coeff } ∷ x) f.own ∙ ap (λ b. if b then record { mono = t.mono; coeff = t.coeff } ∷ component_terms k ts else component_terms k ts) (sym e);
        others = λ j l. f.others j l ∙ ap (λ b. if b then record { mono = t.mono; coeff = t.coeff } ∷ component_terms j ts else component_terms j ts)
            (sym (other j (eqb-true t.component k e) l));
        above = f.above;
      }
        where
          other : (j : ℕ) → t.component ≡ k → k < j → (t.component == j) ≡ false
          other j e l = grind (arith, nat_tests)
      go false e f = record {
        own = sym (none_before r k t ts (greater t.component k h.0 e) w);
        others = λ j l. refl;
        above = (greater t.component k h.0 e, from_below (suc k) t ts (greater t.component k h.0 e) w.0);
      }

  pub falls_later : (n : ℕ) (ts : List VTerm) → Falls r.order ts → Falls r.order (drop n ts)
  falls_later zero ts w = w
  falls_later (suc n) [] w = tt
  falls_later (suc n) (t ∷ ts) w = falls_later n ts w.1

  terms_later : (n : ℕ) (ts : List VTerm) → AreTerms r.prime r.vars ts → AreTerms r.prime r.vars (drop n ts)
  terms_later zero ts w = w
  terms_later (suc n) [] w = tt
  terms_later (suc n) (t ∷ ts) w = terms_later n ts w.1

  pub column_same : (n j : ℕ) (ts us : List VTerm) → ((i : ℕ) → j ≤ i → component_terms i ts ≡ component_terms i us) → column_from r n j ts ≡ column_from r n j us
  column_same zero j ts us e = refl
  column_same (suc n) j ts us e =
      ap₂ (λ x xs. record { ring = r; terms = x } ∷ xs) (e j (omega arith)) (column_same n (suc j) ts us (λ i l. e i (omega arith)))

  -- ---- the loop over the components
  module _ (k count : ℕ) (terms own later : List VTerm) (counted : count ≡ front_count (k + 1) terms) (own_is : own ≡ take count terms) (later_is : later ≡ drop count terms)
      (falls : Falls r.order terms) (proper : AreTerms r.prime r.vars terms) (from : AreFrom (suc k) terms) where
    is_front : IsFront (suc k) terms count
    is_front = subst (IsFront (suc k) terms) (sym (counted ∙ ap (λ n. front_count n terms) (one_more k))) (front (suc k) terms falls from)

    pub own_terms : unplaced own ≡ component_terms (suc k) terms
    own_terms = ap unplaced own_is ∙ is_front.own

    pub own_canonical : (ts : List Term) → ts ≡ unplaced own → IsCanonical r ts
    own_canonical ts e = subst (IsCanonical r) (sym (e ∙ own_terms)) (component_canonical r (suc k) terms falls proper)

    pub falls_next : Falls r.order later
    falls_next = subst (Falls r.order) (sym later_is) (falls_later count terms falls)

    pub proper_next : AreTerms r.prime r.vars later
    proper_next = subst (AreTerms r.prime r.vars) (sym later_is) (terms_later count terms proper)

    pub within_next : AreFrom (suc (k + 1)) later
    within_next = subst (λ n. AreFrom (suc n) later) (sym (one_more k)) (subst (AreFrom (suc (suc k))) (sym later_is) is_front.above)

    pub whole_next : (rows : ℕ) (out out' all : List PolyValue) (q : PolyValue) (ts : List Term) → k < rows → out' ≡ out ++ q ∷ [] → q ≡ record { ring = r; terms = ts } → ts ≡ unplaced own
        → out ++ column_from r (rows - k) (suc k) terms ≡ all → out' ++ column_from r (rows - (k + 1)) (suc (k + 1)) later ≡ all
    whole_next rows out out' all q ts below pushed made e whole =
        ap (λ x. x ++ column_from r (rows - (k + 1)) (suc (k + 1)) later) (pushed ∙ ap (λ x. out ++ x ∷ []) (made ∙ (λ i. record { ring = r; terms = (e ∙ own_terms) i })))
        ∙ append_assoc out (record { ring = r; terms = component_terms (suc k) terms } ∷ []) (column_from r (rows - (k + 1)) (suc (k + 1)) later)
        ∙ ap (λ n. out ++ record { ring = r; terms = component_terms (suc k) terms } ∷ column_from r (rows - n) (suc n) later) (one_more k)
        ∙ ap (λ x. out ++ record { ring = r; terms = component_terms (suc k) terms } ∷ x)
        (column_same (rows - suc k) (suc (suc k)) later terms (λ i l. ap (component_terms i) later_is ∙ is_front.others i l))
        ∙ ap (λ n. out ++ column_from r n (suc k) terms) (sym one_less) ∙ whole
      where
        one_less : rows - k ≡ suc (rows - suc k)
        one_less = omega arith
