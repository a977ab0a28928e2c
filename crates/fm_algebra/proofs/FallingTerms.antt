-- Every polynomial has a strictly falling list of terms
use Rattle.std.proofs.Common.{◌≡◌, ℕ, List, [], ◌∷◌, length, refl, ap, sym, ◌∙◌, subst, Less, Equal, Greater}
use Rattle.std.specs.declared.cmp.Ordering.{Ordering}
use Rattle.fm_algebra.specs.Ring.{Ring, IsRing}
use Rattle.fm_algebra.specs.Poly.{Poly}
use Rattle.fm_algebra.specs.PolyRing.{poly}
use Rattle.fm_algebra.specs.Monomial.{monomial, sum_of_terms}
use Rattle.fm_algebra.specs.Heads.{IsMonomialOrder, AllLess, IsFalling, AreTerms}
use Rattle.fm_algebra.proofs.Algebra.{add_left_comm}
use Rattle.fm_algebra.proofs.PolyRing.{poly_laws}
use Rattle.fm_algebra.proofs.Monomial.{poly_induction}
use Rattle.fm_algebra.proofs.Domain.{order_turned}
use Rattle.fm_algebra.proofs.Terms.{monomial_add, monomial_zero}

module _ (K : Ring) (L : IsRing K) (is_zero : (c : K.Carrier) → Dec (c ≡ K.zero)) (n : ℕ) {R : List ℕ → List ℕ → Ordering} (o : IsMonomialOrder R) where
  open K use {Carrier, zero as 𝟘, one as 𝟙, add as ◌⊕◌, mul as ◌⊗◌, neg}

  infixl 60 ◌⊕◌
  infixl 70 ◌⊗◌
  abbrev P : Ring
  P = poly K is_zero n

  abbrev mono : Carrier → List ℕ → Poly K n
  mono c a = monomial K is_zero n c a

  abbrev Listed : Type 0
  Listed = List (List ℕ × Carrier)

  abbrev total : Listed → Poly K n
  total ts = sum_of_terms K is_zero n ts

  all_less_trans : (a b : List ℕ) (ts : Listed) → R a b ≡ Less → AllLess R a ts → AllLess R b ts
  all_less_trans a b [] e w = tt
  all_less_trans a b (t ∷ ts) e w = (o.total.trans t.0 a b w.0 e, all_less_trans a b ts e w.1)

  -- a falling list with the sum f whose tuples are less than b where those of ts and a are
  record HasTerms (f : Poly K n) (a : List ℕ) (ts : Listed) : Type 0 where
    listed : Listed
    terms : AreTerms K n listed
    falling : IsFalling R listed
    same : total listed ≡ f
    bounded : (b : List ℕ) → R a b ≡ Less → AllLess R b ts → AllLess R b listed

  module _ (c : Carrier) (a : List ℕ) (fit : length a ≡ n) (nonzero : ¬ (c ≡ 𝟘)) where
    sum_with : Listed → Poly K n
    sum_with ts = P.add (mono c a) (total ts)

    in_front : (ts : Listed) → AreTerms K n ts → IsFalling R ts → AllLess R a ts → HasTerms (sum_with ts) a ts
    unfolding sum_with sum_of_terms
    in_front ts w f less = record { listed = (a, c) ∷ ts; terms = (fit, nonzero, w); falling = (less, f); same = refl; bounded = λ b e v. (e, v) }

    like : (t : List ℕ × Carrier) (ts : Listed) → a ≡ t.0 → P.add (mono c a) (P.add (mono t.1 t.0) (total ts)) ≡ P.add (mono (c ⊕ t.1) a) (total ts)
    like t ts e =
        ap (λ x. P.add (mono c a) (P.add (mono t.1 x) (total ts))) (sym e)
        ∙ sym ((poly_laws K L is_zero n).add_assoc (mono c a) (mono t.1 a) (total ts))
        ∙ ap (λ x. P.add x (total ts)) (monomial_add K L is_zero n c t.1 a)

    joined : (t : List ℕ × Carrier) (ts : Listed) → AreTerms K n (t ∷ ts) → IsFalling R (t ∷ ts) → a ≡ t.0 → Dec (c ⊕ t.1 ≡ 𝟘) → HasTerms (sum_with (t ∷ ts)) a (t ∷ ts)
    unfolding sum_with sum_of_terms
    joined t ts w f e (yes z) = record {
      listed = ts;
      terms = w.2;
      falling = f.1;
      same = sym (
          like t ts e ∙ ap (λ x. P.add (mono x a) (total ts)) z ∙ ap (λ x. P.add x (total ts)) (monomial_zero K L is_zero n a)
          ∙ (poly_laws K L is_zero n).zero_add (total ts)
          );
      bounded = λ b d v. v.1;
    }
    joined t ts w f e (no nz) = record {
      listed = (a, c ⊕ t.1) ∷ ts;
      terms = (fit, nz, w.2);
      falling = (subst (λ x. AllLess R x ts) (sym e) f.0, f.1);
      same = sym (like t ts e);
      bounded = λ b d v. (d, v.1);
    }

    placed : (t : List ℕ × Carrier) (ts : Listed) → AreTerms K n (t ∷ ts) → IsFalling R (t ∷ ts) → HasTerms (sum_with ts) a ts
        → (r : Ordering) → R a t.0 ≡ r → HasTerms (sum_with (t ∷ ts)) a (t ∷ ts)
    unfolding sum_with sum_of_terms
    placed t ts w f rest Less e = record {
      listed = t ∷ rest.listed;
      terms = (w.0, w.1, rest.terms);
      falling = (rest.bounded t.0 e f.0, rest.falling);
      same = ap (P.add (mono t.1 t.0)) rest.same ∙ add_left_comm (poly_laws K L is_zero n) (mono t.1 t.0) (mono c a) (total ts);
      bounded = λ b d v. (v.0, rest.bounded b d v.1);
    }
    placed t ts w f rest Equal e = joined t ts w f (o.exact a t.0 e) (is_zero (c ⊕ t.1))
    placed t ts w f rest Greater e =
        let less : R t.0 a ≡ Less = order_turned o t.0 a Greater e in
        in_front (t ∷ ts) w f (less, all_less_trans t.0 a ts less f.0)

    inserted : (ts : Listed) → AreTerms K n ts → IsFalling R ts → HasTerms (sum_with ts) a ts
    inserted [] w f = in_front [] w f tt
    inserted (t ∷ ts) w f = placed t ts w f (inserted ts w.2 f.1) (R a t.0) refl

  abbrev FallingFor : Poly K n → Type 0
  FallingFor f = (ts : Listed) × AreTerms K n ts × IsFalling R ts × (total ts ≡ f)

  with_monomial : (c : Carrier) (a : List ℕ) (f : Poly K n) → length a ≡ n → FallingFor f → Dec (c ≡ 𝟘) → FallingFor (P.add (mono c a) f)
  unfolding sum_with
  with_monomial c a f l q (yes z) =
      (q.0, q.1, q.2, q.3 ∙ sym (ap (λ x. P.add x f) (ap (λ x. mono x a) z ∙ monomial_zero K L is_zero n a) ∙ (poly_laws K L is_zero n).zero_add f))
  with_monomial c a f l q (no nz) =
      let found : HasTerms (sum_with c a l nz q.0) a q.0 = inserted c a l nz q.0 q.1 q.2 in
      (found.listed, found.terms, found.falling, found.same ∙ ap (P.add (mono c a)) q.3)

  -- some strictly falling list of terms has the sum f
  pub falling_terms : (f : Poly K n) → (ts : Listed) × AreTerms K n ts × IsFalling R ts × (total ts ≡ f)
  unfolding sum_of_terms
  falling_terms = poly_induction K L is_zero n FallingFor ([], tt, tt, refl) (λ c a f l q. with_monomial c a f l q (is_zero c))
