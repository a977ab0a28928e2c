-- What a merge keeps: what is written and what is left of both lists stay canonical and have one sum
use Rattle.std.proofs.Common.{◌≡◌, ◌<◌, ℕ, ◌+◌, ◌%◌, ◌==◌, Bool, true, false, if◌then◌else◌, List, [], ◌∷◌, ◌++◌, length, refl, ap, ap₂, sym, ◌∙◌, subst, append_assoc, append-nil, arith}
use Rattle.std.proofs.lemmas.List.{nil_from_length}
use Rattle.std.proofs.lemmas.Nat.{mod_below}
use Rattle.std.proofs.Math.Nat.{zero-mod, mod-eq_of_lt}
use Rattle.std.proofs.lemmas.Bool.{eqb-true}
use Rattle.std.proofs.lemmas.Bool.Decides.{nat_tests}
use Rattle.std.specs.Ordering.{ordering_reverse}
use Rattle.std.specs.declared.cmp.Ordering.TheVariants.{Less, Equal, Greater}
use Rattle.fm_mono.specs.Orders.{monomial_cmp}
use Rattle.fm_mono.proofs.OrderLaws.{monomial_cmp_exact, monomial_cmp_flip}
use Rattle.fm_gfp.specs.Primes.{prime_value}
use Rattle.fm_gfp.proofs.Residues.{prime_positive}
use Rattle.fm_algebra.specs.Ring.{Ring as Operations, IsRing}
use Rattle.fm_algebra.specs.Polynomials.{Polynomial, polynomial_zero, polynomial_sum, polynomial_term, polynomial_of}
use Rattle.fm_algebra.proofs.Algebra.{add_left_comm, add_swap, add_zero}
use Rattle.fm_algebra.proofs.Concrete.{polynomials_laws}
use Rattle.fm_algebra.proofs.TermWords.{of_like, of_modulo, of_drop}
use Rattle.fm_poly.specs.declared.ring.Ring.{Ring}
use Rattle.fm_poly.specs.declared.term.Term.{Term}
use Rattle.fm_poly.specs.Polys.{meaning, IsCanonical}
use Rattle.fm_poly.specs.Steps.{kept, like_sum}
use Rattle.fm_poly.proofs.OrderedTerms.{Falls, Listed, below_trans, falls_inserted, falls_removed, falls_renamed, falls_back, listed_append, meaning_append, meaning_empty, meaning_cons}

-- ---- sums in a ring
module _ {K : Operations} (L : IsRing K) where
  open K use {Carrier, zero as 𝟘, add as ◌⊕◌}
  open L use {add_assoc, add_comm, zero_add}

  infixl 60 ◌⊕◌
  moved_left : (o x f g : Carrier) → (o ⊕ x) ⊕ (f ⊕ g) ≡ o ⊕ ((x ⊕ f) ⊕ g)
  moved_left o x f g = add_assoc o x (f ⊕ g) ∙ ap (λ s. o ⊕ s) (sym (add_assoc x f g))

  moved_right : (o y f g : Carrier) → (o ⊕ y) ⊕ (f ⊕ g) ≡ o ⊕ (f ⊕ (y ⊕ g))
  moved_right o y f g = add_assoc o y (f ⊕ g) ∙ ap (λ s. o ⊕ s) (add_left_comm L y f g)

  moved_both : (o x y f g : Carrier) → (o ⊕ (x ⊕ y)) ⊕ (f ⊕ g) ≡ o ⊕ ((x ⊕ f) ⊕ (y ⊕ g))
  moved_both o x y f g = add_assoc o (x ⊕ y) (f ⊕ g) ∙ ap (λ s. o ⊕ s) (add_swap L x y f g)

-- ---- terms that are kept
module _ (r : Ring) where
  abbrev n : ℕ
  n = r.vars

  abbrev Value : Type 0
  Value = Polynomial r.prime r.vars

  abbrev plus : Value → Value → Value
  plus f g = polynomial_sum r.prime r.vars f g

  abbrev term : Term → Value
  term t = polynomial_term r.prime r.vars t.coeff t.mono

  plus_zero : (f : Value) → plus f (polynomial_zero r.prime r.vars) ≡ f
  unfolding polynomial_sum polynomial_zero
  plus_zero f = add_zero (polynomials_laws r.prime r.vars) f

  pub meaning_one : (t : Term) → meaning r (t ∷ []) ≡ term t
  meaning_one t = meaning_cons r t [] ∙ ap (plus (term t)) (meaning_empty r) ∙ plus_zero (term t)

  kept_is : (t : Term) (b : Bool) → (t.coeff == 0) ≡ b → meaning r (if b then [] else t ∷ []) ≡ meaning r (t ∷ [])
  unfolding meaning
  kept_is t true e = sym (of_drop r.prime r.vars t.mono t.coeff [] (ap (λ k. k % prime_value r.prime) (eqb-true t.coeff 0 e) ∙ zero-mod (prime_value r.prime)))
  kept_is t false e = refl

  -- a zero term may be left out
  pub meaning_kept : (t : Term) → meaning r (kept t) ≡ term t
  meaning_kept t = kept_is t (t.coeff == 0) refl ∙ meaning_one t

  added : (a : List ℕ) (c d : ℕ) → polynomial_of r.prime r.vars ((a, (c + d) % prime_value r.prime) ∷ []) ≡ polynomial_of r.prime r.vars ((a, c) ∷ (a, d) ∷ [])
  added a c d =
      of_modulo r.prime r.vars a ((c + d) % prime_value r.prime) (c + d) [] (mod-eq_of_lt (mod_below (c + d) (prime_value r.prime) (prime_positive r.prime)))
      ∙ sym (of_like r.prime r.vars a c d [])

  abbrev like : Term → Term → Term
  like x y = record { mono = x.mono; coeff = (x.coeff + y.coeff) % prime_value r.prime }

  meaning_added : (x y : Term) → y.mono ≡ x.mono → meaning r (like x y ∷ []) ≡ meaning r (x ∷ y ∷ [])
  unfolding meaning
  meaning_added x y e = added x.mono x.coeff y.coeff ∙ ap (λ a. polynomial_of r.prime r.vars ((x.mono, x.coeff) ∷ (a, y.coeff) ∷ [])) (sym e)

  -- like terms are added
  pub meaning_like : (x y : Term) → y.mono ≡ x.mono → meaning r (like_sum r x y) ≡ plus (term x) (term y)
  meaning_like x y e =
      meaning_kept (like x y) ∙ sym (meaning_one (like x y)) ∙ meaning_added x y e ∙ meaning_cons r x (y ∷ []) ∙ ap (plus (term x)) (meaning_one y)

  listed_kept : (t : Term) (b : Bool) → (t.coeff == 0) ≡ b → length t.mono ≡ r.vars → t.coeff < prime_value r.prime → Listed r.prime r.vars (if b then [] else t ∷ [])
  listed_kept t true e l below = tt
  listed_kept t false e l below = (l, positive t.coeff e, below, tt)
    where
      positive : (c : ℕ) → (c == 0) ≡ false → 0 < c
      positive c e = grind (arith, nat_tests)

  falls_kept : (out fs : List Term) (x z : Term) (b : Bool) → z.mono ≡ x.mono → Falls r.order (out ++ x ∷ fs) → Falls r.order (out ++ (if b then [] else z ∷ []) ++ fs)
  falls_kept out fs x z true e w = subst (λ v. Falls r.order (v ++ fs)) (sym (append-nil out)) (falls_removed r.order out x fs w)
  falls_kept out fs x z false e w = subst (Falls r.order) (sym (append_assoc out (z ∷ []) fs)) (falls_renamed r.order out x z fs e w)

  -- a term with a coefficient below p is kept as a canonical list
  pub canonical_kept : (t : Term) → length t.mono ≡ r.vars → t.coeff < prime_value r.prime → IsCanonical r (kept t)
  canonical_kept t l below = record { listed = listed_kept t (t.coeff == 0) refl l below; falls = falls_one t (t.coeff == 0) }
    where
      falls_one : (t : Term) (b : Bool) → Falls r.order (if b then [] else t ∷ [])
      falls_one t true = tt
      falls_one t false = (tt, tt)

  -- ---- the steps
  pub record Merging (all_f all_g out f g : List Term) : Type 0 where
    pub listed_out : Listed r.prime r.vars out
    pub listed_f : Listed r.prime r.vars f
    pub listed_g : Listed r.prime r.vars g
    pub falls_f : Falls r.order (out ++ f)
    pub falls_g : Falls r.order (out ++ g)
    pub total : plus (meaning r out) (plus (meaning r f) (meaning r g)) ≡ plus (meaning r all_f) (meaning r all_g)

  zero_plus : (f : Value) → plus (polynomial_zero r.prime r.vars) f ≡ f
  unfolding polynomial_sum polynomial_zero
  zero_plus f = (polynomials_laws r.prime r.vars).zero_add f

  start_at : (f g : List Term) → IsCanonical r f → IsCanonical r g → Merging f g [] f g
  start_at f g c d = record {
    listed_out = tt;
    listed_f = c.listed;
    listed_g = d.listed;
    falls_f = c.falls;
    falls_g = d.falls;
    total = ap (λ o. plus o (plus (meaning r f) (meaning r g))) (meaning_empty r) ∙ zero_plus _;
  }

  moved : (all_f all_g : List Term) {out out' f f' g g' : List Term} → out ≡ out' → f ≡ f' → g ≡ g' → Merging all_f all_g out f g → Merging all_f all_g out' f' g'
  moved all_f all_g {out} {out'} {f} {f'} {g} {g'} eo ef eg m =
      subst (λ o. Merging all_f all_g o f' g') eo (subst (λ h. Merging all_f all_g out h g') ef (subst (λ h. Merging all_f all_g out f h) eg m))

  pub merge_start : (f g out : List Term) → out ≡ [] → IsCanonical r f → IsCanonical r g → Merging f g out f g
  merge_start f g out e c d = moved f g (sym e) refl refl (start_at f g c d)

  push : (out : List Term) (x : Term) → meaning r (out ++ x ∷ []) ≡ plus (meaning r out) (term x)
  push out x = meaning_append r out (x ∷ []) ∙ ap (plus (meaning r out)) (meaning_one x)

  left_at : (all_f all_g out : List Term) (x : Term) (fs : List Term) (y : Term) (ys : List Term) → monomial_cmp r.order y.mono x.mono ≡ Less
      → Merging all_f all_g out (x ∷ fs) (y ∷ ys) → Merging all_f all_g (out ++ x ∷ []) fs (y ∷ ys)
  unfolding polynomial_sum
  left_at all_f all_g out x fs y ys below m = record {
    listed_out = listed_append r.prime r.vars out (x ∷ []) m.listed_out (m.listed_f.0, m.listed_f.1, m.listed_f.2, tt);
    listed_f = m.listed_f.3;
    listed_g = m.listed_g;
    falls_f = subst (Falls r.order) (sym (append_assoc out (x ∷ []) fs)) m.falls_f;
    falls_g = subst (Falls r.order) (sym (append_assoc out (x ∷ []) (y ∷ ys))) (falls_inserted r.order out x fs (y ∷ ys) m.falls_f m.falls_g
        (below, below_trans r.order x.mono y.mono ys below (falls_back r.order out (y ∷ ys) m.falls_g).0));
    total = ap (λ o. plus o (plus (meaning r fs) (meaning r (y ∷ ys)))) (push out x)
        ∙ moved_left (polynomials_laws r.prime r.vars) (meaning r out) (term x) (meaning r fs) (meaning r (y ∷ ys))
        ∙ ap (λ h. plus (meaning r out) (plus h (meaning r (y ∷ ys)))) (sym (meaning_cons r x fs)) ∙ m.total;
  }

  right_at : (all_f all_g out : List Term) (x : Term) (fs : List Term) (y : Term) (ys : List Term) → monomial_cmp r.order x.mono y.mono ≡ Less
      → Merging all_f all_g out (x ∷ fs) (y ∷ ys) → Merging all_f all_g (out ++ y ∷ []) (x ∷ fs) ys
  unfolding polynomial_sum
  right_at all_f all_g out x fs y ys below m = record {
    listed_out = listed_append r.prime r.vars out (y ∷ []) m.listed_out (m.listed_g.0, m.listed_g.1, m.listed_g.2, tt);
    listed_f = m.listed_f;
    listed_g = m.listed_g.3;
    falls_f = subst (Falls r.order) (sym (append_assoc out (y ∷ []) (x ∷ fs))) (falls_inserted r.order out y ys (x ∷ fs) m.falls_g m.falls_f
        (below, below_trans r.order y.mono x.mono fs below (falls_back r.order out (x ∷ fs) m.falls_f).0));
    falls_g = subst (Falls r.order) (sym (append_assoc out (y ∷ []) ys)) m.falls_g;
    total = ap (λ o. plus o (plus (meaning r (x ∷ fs)) (meaning r ys))) (push out y)
        ∙ moved_right (polynomials_laws r.prime r.vars) (meaning r out) (term y) (meaning r (x ∷ fs)) (meaning r ys)
        ∙ ap (λ h. plus (meaning r out) (plus (meaning r (x ∷ fs)) h)) (sym (meaning_cons r y ys)) ∙ m.total;
  }

  both_at : (all_f all_g out : List Term) (x : Term) (fs : List Term) (y : Term) (ys : List Term) → y.mono ≡ x.mono
      → Merging all_f all_g out (x ∷ fs) (y ∷ ys) → Merging all_f all_g (out ++ like_sum r x y) fs ys
  unfolding polynomial_sum
  both_at all_f all_g out x fs y ys same m = record {
    listed_out = listed_append r.prime r.vars out (like_sum r x y) m.listed_out
        (listed_kept (like x y) ((like x y).coeff == 0) refl m.listed_f.0 (mod_below (x.coeff + y.coeff) (prime_value r.prime) (prime_positive r.prime)));
    listed_f = m.listed_f.3;
    listed_g = m.listed_g.3;
    falls_f = falls_kept out fs x (like x y) ((like x y).coeff == 0) refl m.falls_f;
    falls_g = falls_kept out ys y (like x y) ((like x y).coeff == 0) (sym same) m.falls_g;
    total = ap (λ o. plus o (plus (meaning r fs) (meaning r ys))) (meaning_append r out (like_sum r x y) ∙ ap (plus (meaning r out)) (meaning_like x y same))
        ∙ moved_both (polynomials_laws r.prime r.vars) (meaning r out) (term x) (term y) (meaning r fs) (meaning r ys)
        ∙ ap₂ (λ h k. plus (meaning r out) (plus h k)) (sym (meaning_cons r x fs)) (sym (meaning_cons r y ys)) ∙ m.total;
  }

  pub merge_left : (all_f all_g out out' f g : List Term) (x : Term) (fs : List Term) (y : Term) (ys : List Term) → f ≡ x ∷ fs → g ≡ y ∷ ys → out' ≡ out ++ x ∷ []
      → monomial_cmp r.order x.mono y.mono ≡ Greater → Merging all_f all_g out f g → Merging all_f all_g out' fs g
  merge_left all_f all_g out out' f g x fs y ys ef eg eo above m =
      moved all_f all_g (sym eo) refl (sym eg) (left_at all_f all_g out x fs y ys (monomial_cmp_flip r.order y.mono x.mono ∙ ap ordering_reverse above) (moved all_f all_g refl ef eg m))

  pub merge_right : (all_f all_g out out' f g : List Term) (x : Term) (fs : List Term) (y : Term) (ys : List Term) → f ≡ x ∷ fs → g ≡ y ∷ ys → out' ≡ out ++ y ∷ []
      → monomial_cmp r.order x.mono y.mono ≡ Less → Merging all_f all_g out f g → Merging all_f all_g out' f ys
  merge_right all_f all_g out out' f g x fs y ys ef eg eo below m =
      moved all_f all_g (sym eo) (sym ef) refl (right_at all_f all_g out x fs y ys below (moved all_f all_g refl ef eg m))

  pub merge_both : (all_f all_g out out' f g : List Term) (x : Term) (fs : List Term) (y : Term) (ys : List Term) → f ≡ x ∷ fs → g ≡ y ∷ ys → out' ≡ out ++ like_sum r x y
      → monomial_cmp r.order x.mono y.mono ≡ Equal → Merging all_f all_g out f g → Merging all_f all_g out' fs ys
  merge_both all_f all_g out out' f g x fs y ys ef eg eo tie m =
      moved all_f all_g (sym eo) refl refl (both_at all_f all_g out x fs y ys (sym (monomial_cmp_exact r.order x.mono y.mono tie)) (moved all_f all_g refl ef eg m))

  -- ---- the end
  pub record IsSum (all_f all_g h : List Term) : Type 0 where
    pub canonical : IsCanonical r h
    pub sum : meaning r h ≡ plus (meaning r all_f) (meaning r all_g)

  pub end_left : (all_f all_g out f g h : List Term) → length f ≡ 0 → h ≡ out ++ g → Merging all_f all_g out f g → IsSum all_f all_g h
  end_left all_f all_g out f g h ef eh m = subst (IsSum all_f all_g) (sym eh) record {
    canonical = record { listed = listed_append r.prime r.vars out g m.listed_out m.listed_g; falls = m.falls_g };
    sum = meaning_append r out g ∙ ap (plus (meaning r out)) (sym (ap (λ k. plus k (meaning r g)) (ap (meaning r) (nil_from_length f ef) ∙ meaning_empty r) ∙ zero_plus (meaning r g))) ∙ m.total;
  }

  pub end_right : (all_f all_g out f g h : List Term) → length g ≡ 0 → h ≡ out ++ f → Merging all_f all_g out f g → IsSum all_f all_g h
  end_right all_f all_g out f g h eg eh m = subst (IsSum all_f all_g) (sym eh) record {
    canonical = record { listed = listed_append r.prime r.vars out f m.listed_out m.listed_f; falls = m.falls_f };
    sum = meaning_append r out f ∙ ap (plus (meaning r out)) (sym (ap (plus (meaning r f)) (ap (meaning r) (nil_from_length g eg) ∙ meaning_empty r) ∙ plus_zero (meaning r f))) ∙ m.total;
  }
