-- Each vector of polynomials has one falling list of terms.
use Rattle.std.proofs.Common.{◌≡◌, ◌⊎◌, inl, inr, ℕ, suc, ◌-◌, ◌^◌, ◌<◌, Bool, true, false, cond, eqb, List, [], ◌∷◌, map, length, refl, sym, ap, ap₂, ◌∙◌, subst, arith, mod-eq_of_lt}
use Rattle.std.proofs.lemmas.List.{length-map}
use mathlib.Core.WellFounded.{Acc}
use native.Mathlib.Decide.{dec_lt, ℕ_discrete}
use Rattle.fm_gfp.specs.Primes.{prime_value}
use Rattle.fm_gfp.specs.declared.prime.Prime.{Prime}
use Rattle.fm_tuple.specs.Tuple.{tuple_multiple}
use Rattle.fm_tuple.proofs.Tuples.{length_tuple_multiple}
use Rattle.fm_mono.specs.declared.order.Order.{Order}
use Rattle.fm_algebra.specs.Gf.{gf, gf_is_zero, same_residue}
use Rattle.fm_algebra.specs.Polynomials.{Polynomial, polynomials, polynomial_of, frobenius_twist}
use Rattle.fm_algebra.specs.PolynomialMatrices.{vector_twist}
use Rattle.fm_algebra.proofs.Algebra.{add_cancel}
use Rattle.fm_algebra.proofs.Gf.{gf_laws}
use Rattle.fm_algebra.proofs.Concrete.{polynomials_laws}
use Rattle.fm_algebra.proofs.TwistWords.{twist_of_terms}
use Rattle.fm_groebner.proofs.Vectors.{length_vector, component_of_vector}
use Rattle.fm_term.specs.declared.vterm.VTerm.{VTerm}
use Rattle.fm_term.specs.Places.{AllBelow}
use Rattle.fm_term.specs.Falling.{IsTerm, IsFalling}
use Rattle.fm_term.specs.Multiples.{twisted_term, twisted}
use Rattle.fm_term.specs.Meanings.{terms_in, vector_of}
use Rattle.fm_groebner.specs.Bases.{IsHead}
use Rattle.fm_groebner.proofs.Setting as setting
use Rattle.fm_groebner.proofs.Setting.{Vect, In, here, there, IsFinite, IsNil}
use Rattle.fm_groebner.proofs.Differences.{diff_self, skip_zero, sum_back}
use Rattle.fm_groebner.proofs.Span.{head_one, head_eq, head_of_finite, below_segment, place_in, not_less_of_same}
use Rattle.fm_groebner.proofs.Monomials.{Monomial, same_monomial}
use Rattle.fm_groebner.proofs.Places.{same_place}
use Rattle.fm_groebner.proofs.Ordered.{ordered}
use Rattle.fm_groebner.proofs.PlaceOrder.{cmp_of_less}
use Rattle.fm_groebner.proofs.Values.{value_finite, same_vector}
use Rattle.fm_groebner.proofs.Heads.{head_from, zero_of_number}
use Rattle.fm_groebner.proofs.TermValues.{space, list_value, vector_value, fits_of, place_of, Fits, number, val_cons, val_nil, val_at, val_other, val_outside, val_head, head_of_terms, empty_of_nil}
use Rattle.fm_groebner.proofs.MonicLists.{head_place}
use Rattle.fm_groebner.proofs.GraphMatrices.{same_components}
use Rattle.fm_groebner.proofs.Twists.{component_map, twist_zero_is, multiple_cmp}
use Rattle.fm_term.proofs.Falling.{later, nothing_falls, with_greater, all_below}

module _ (p : Prime) (n m : ℕ) (o : Order) where
  abbrev X : setting.Setting
  X = space p n m o

  -- ---- at most one
  same_term : (t u : VTerm) → t.component ≡ u.component → t.mono ≡ u.mono → t.coeff ≡ u.coeff → t ≡ u
  same_term t u a b c = λ i. record { component = a i; mono = b i; coeff = c i }

  pub same_terms : (ts us : List VTerm) → IsFalling p n m o ts → IsFalling p n m o us → ((b : ℕ × Monomial n) → list_value p n m o ts b ≡ list_value p n m o us b) → ts ≡ us
  same_terms [] us f g e = sym (empty_of_nil p n m o us g (λ b. sym (e b) ∙ val_nil p n m o b))
  same_terms (t ∷ ts) [] f g e = empty_of_nil p n m o (t ∷ ts) f (λ b. e b ∙ val_nil p n m o b)
  same_terms (t ∷ ts) (u ∷ us) f g e =
      let place = head_one X (head_of_terms p n m o t ts f) (head_eq X e (head_of_terms p n m o u us g)) in
      let level : m - t.component ≡ m - u.component = ap (λ z. z.0) place in
      let a = f.within.1 in
      let b = g.within.1 in
      let first : t ≡ u = same_term t u (omega (arith, level, a, b)) (ap (λ z. z.1.exponents) place) (same_number (
      sym (val_head p n m o t ts f) ∙ e (head_place p n m o (t ∷ ts) f) ∙ ap (list_value p n m o (u ∷ us)) place ∙ val_head p n m o u us g)) in
      ap₂ (λ x y. x ∷ y) first (same_terms ts us (later f) (later g) (λ c. add_cancel (gf_laws p) (list_value p n m o (t ∷ []) c) (list_value p n m o ts c) (list_value p n m o us c)
      (sym (val_cons p n m o t ts c) ∙ e c ∙ val_cons p n m o u us c ∙ ap (λ z. (gf p).add (list_value p n m o (z ∷ []) c) (list_value p n m o us c)) (sym first))))
    where
      same_number : number p n m o t.coeff ≡ number p n m o u.coeff → t.coeff ≡ u.coeff
      same_number q = sym (mod-eq_of_lt f.proper.0.below) ∙ ap (λ x. x.number) q ∙ mod-eq_of_lt g.proper.0.below

  pub terms_unique : (ts us : List VTerm) → IsFalling p n m o ts → IsFalling p n m o us → vector_of p n m ts ≡ vector_of p n m us → ts ≡ us
  terms_unique ts us f g e = same_terms ts us f g (λ b. ap (λ v. vector_value p n m o v b) e)

  -- ---- at least one
  abbrev pub Normal : Vect X → Type 0
  Normal u = (ts : List VTerm) × IsFalling p n m o ts × ((b : ℕ × Monomial n) → list_value p n m o ts b ≡ u b)

  above_first : (t : VTerm) (f : Fits p n m o t) (ts : List VTerm) → IsFalling p n m o ts → ((b : ℕ × Monomial n) → ¬ (X.Less b (place_of p n m o t f)) → list_value p n m o ts b ≡ (gf p).zero) → AllBelow o t ts
  above_first t f [] g z = tt
  above_first t f (s ∷ ss) g z =
      let fs = fits_of p n m o s g in
      all_below t s ss (cmp_of_less o n m s.component t.component (head_place p n m o (s ∷ ss) g).1 (place_of p n m o t f).1 fs.within f.within
      (place_in X (below_segment X (place_of p n m o t f)) (list_value p n m o (s ∷ ss)) z (head_place p n m o (s ∷ ss) g) (head_of_terms p n m o s ss g).0)) g

  module _ (u : Vect X) (outside : (b : ℕ × Monomial n) → ¬ (b.0 < m) → u b ≡ (gf p).zero) (finite : IsFinite X u) (a : ℕ × Monomial n) (hd : setting.IsHead X u a) where
    inside : a.0 < m
    inside = elim (dec_lt a.0 m) [ yes l ↦ l | no w ↦ absurd (hd.0 (outside a w)) ]

    abbrev first_term : VTerm
    first_term = record { component = m - a.0; mono = a.1.exponents; coeff = (u a).number }

    is_term : IsTerm p n first_term
    is_term = record { fits = a.1.fits; positive = positive; below = (u a).below }
      where
        positive : 0 < (u a).number
        positive = elim (ℕ_discrete (u a).number 0) [ yes z ↦ absurd (hd.0 (zero_of_number p n m o (u a) z)) | no w ↦ omega (arith, w) ]

    term_fits : Fits p n m o first_term
    term_fits = record { positive = omega (arith, inside); within = omega arith; exponents = a.1.fits }

    term_place : place_of p n m o first_term term_fits ≡ a
    term_place = same_place (omega (arith, inside)) (same_monomial (place_of p n m o first_term term_fits).1 a.1 refl)

    -- u without its first term
    remaining : Vect X
    remaining b = (gf p).add ((gf p).mul ((gf p).neg (gf p).one) (list_value p n m o (first_term ∷ []) b)) (u b)

    remaining_outside : (b : ℕ × Monomial n) → ¬ (b.0 < m) → remaining b ≡ (gf p).zero
    unfolding remaining
    remaining_outside b w = skip_zero (gf_laws p) ((gf p).neg (gf p).one) (list_value p n m o (first_term ∷ []) b) (u b) (val_outside p n m o (vector_of p n m (first_term ∷ [])) b w) ∙ outside b w

    elsewhere : (b : ℕ × Monomial n) → ¬ (b ≡ a) → remaining b ≡ u b
    unfolding remaining
    elsewhere b w = skip_zero (gf_laws p) ((gf p).neg (gf p).one) (list_value p n m o (first_term ∷ []) b) (u b) (val_other p n m o first_term term_fits b (λ e. w (e ∙ term_place)))

    remaining_at : remaining a ≡ (gf p).zero
    unfolding remaining
    remaining_at = ap (λ x. (gf p).add ((gf p).mul ((gf p).neg (gf p).one) x) (u a)) (ap (list_value p n m o (first_term ∷ [])) (sym term_place) ∙ val_at p n m o first_term term_fits ∙ same_residue (number p n m o (u a).number) (u a) (mod-eq_of_lt (u a).below))
        ∙ diff_self (gf_laws p) (u a)

    remaining_finite : IsFinite X remaining
    remaining_finite = (
      a ∷ finite.0,
      λ b. elim (X.compared b a) [
        | setting.below l ↦ other b (λ e. not_less_of_same X e l)
        | setting.same e ↦ inr (subst (In (a ∷ finite.0)) (sym e) here)
        | setting.above l ↦ other b (λ e. not_less_of_same X (sym e) l)
      ],
    )
      where
        other : (b : ℕ × Monomial n) → ¬ (b ≡ a) → (remaining b ≡ (gf p).zero) ⊎ In (a ∷ finite.0) b
        other b w = elim (finite.1 b) [ inl z ↦ inl (elsewhere b w ∙ z) | inr i ↦ inr (there i) ]

    remaining_above : (b : ℕ × Monomial n) → ¬ (X.Less b a) → remaining b ≡ (gf p).zero
    remaining_above b w = elim (X.compared b a) [
      | setting.below l ↦ absurd (w l)
      | setting.same e ↦ ap remaining e ∙ remaining_at
      | setting.above l ↦ elsewhere b (λ e. not_less_of_same X (sym e) l) ∙ hd.1 b l
    ]

    remaining_below : (b : ℕ × Monomial n) → setting.IsHead X remaining b → X.Less b a
    remaining_below b h = place_in X (below_segment X a) remaining remaining_above b h.0

    with_first : Normal remaining → Normal u
    unfolding remaining
    with_first (ts, f, e) = (
      first_term ∷ ts,
      with_greater term_fits.positive term_fits.within is_term (above_first first_term term_fits ts f (λ b w. e b ∙ remaining_above b (λ l. w (subst (X.Less b) (sym term_place) l)))) f,
      λ b. val_cons p n m o first_term ts b ∙ ap ((gf p).add (list_value p n m o (first_term ∷ []) b)) (e b) ∙ sym (sum_back (gf_laws p) (list_value p n m o (first_term ∷ []) b) (u b)),
    )

  nil_normal : (u : Vect X) → IsNil X u → Normal u
  nil_normal u z = ([], nothing_falls, λ b. val_nil p n m o b ∙ sym (z b))

  normal_at : (a : ℕ × Monomial n) → Acc X.Less a → (u : Vect X) → ((b : ℕ × Monomial n) → ¬ (b.0 < m) → u b ≡ (gf p).zero) → IsFinite X u → setting.IsHead X u a → Normal u
  normal_at a (Acc.intro a' smaller) = λ u out fin hd. with_first u out fin a hd (elim (head_of_finite X (remaining_finite u out fin a hd)) [
    | inl z ↦ nil_normal (remaining u out fin a hd) z
    | inr t ↦ normal_at t.0 (smaller t.0 (remaining_below u out fin a hd t.0 t.1)) (remaining u out fin a hd) (remaining_outside u out fin a hd) (remaining_finite u out fin a hd) t.1
  ])

  pub normal_of : (u : Vect X) → ((b : ℕ × Monomial n) → ¬ (b.0 < m) → u b ≡ (gf p).zero) → IsFinite X u → Normal u
  normal_of u out fin = elim (head_of_finite X fin) [
    | inl z ↦ nil_normal u z
    | inr t ↦ normal_at t.0 (X.founded t.0) u out fin t.1
  ]

  -- each vector of polynomials is that of a falling list
  pub terms_of_vector : (v : List (Polynomial p n)) → length v ≡ m → (ts : List VTerm) × IsFalling p n m o ts × (vector_of p n m ts ≡ v)
  terms_of_vector v l =
      let ts = normal_of (vector_value p n m o v) (λ b w. val_outside p n m o v b w) (value_finite (ordered o n) (gf p) (gf_laws p) (gf_is_zero p) m v) in
      (ts.0, ts.1, same_vector (ordered o n) (gf p) (gf_laws p) (gf_is_zero p) m (vector_of p n m ts.0) v (length_vector p n m ts.0) l ts.2)

  -- the head of a falling list is its first term
  pub head_is_first : (t : VTerm) (ts : List VTerm) → IsFalling p n m o (t ∷ ts) → IsHead p n o (vector_of p n m (t ∷ ts)) t.component t.mono
  head_is_first t ts f =
      let ft = fits_of p n m o t f in
      head_from p n m o (vector_of p n m (t ∷ ts)) (length_vector p n m (t ∷ ts)) t.component (head_place p n m o (t ∷ ts) f).1 ft.positive ft.within (head_of_terms p n m o t ts f)

  twisted_above : (e : ℕ) (t : VTerm) (ts : List VTerm) → AllBelow o t ts → AllBelow o (twisted_term (prime_value p ^ e) t) (twisted (prime_value p ^ e) ts)
  twisted_above e t [] a = tt
  twisted_above e t (s ∷ ts) a = (multiple_cmp p n m e o s.component t.component s.mono t.mono ∙ a.0, twisted_above e t ts a.1)

  pub twisted_falling : (e : ℕ) (ts : List VTerm) → IsFalling p n m o ts → IsFalling p n m o (twisted (prime_value p ^ e) ts)
  twisted_falling e [] f = nothing_falls
  twisted_falling e (t ∷ ts) f =
      let i = f.proper.0 in
      with_greater f.within.0 f.within.1
      (record { fits = length_tuple_multiple (prime_value p ^ e) t.mono ∙ i.fits; positive = i.positive; below = i.below })
      (twisted_above e t ts f.falls.0) (twisted_falling e ts (later f))

-- the vector of the twisted terms is the twist of the vector
module _ (p : Prime) (n m : ℕ) where
  abbrev twisted_pair : ℕ → List ℕ × ℕ → List ℕ × ℕ
  twisted_pair e t = (tuple_multiple (prime_value p ^ e) t.0, t.1)

  twisted_in_by : (e : ℕ) (x : Bool) (t : List ℕ × ℕ) (ts : List (List ℕ × ℕ)) → cond x (twisted_pair e t ∷ map (twisted_pair e) ts) (map (twisted_pair e) ts) ≡ map (twisted_pair e) (cond x (t ∷ ts) ts)
  twisted_in_by e true t ts = refl
  twisted_in_by e false t ts = refl

  twisted_in : (e i : ℕ) (ts : List VTerm) → terms_in i (twisted (prime_value p ^ e) ts) ≡ map (twisted_pair e) (terms_in i ts)
  unfolding terms_in
  twisted_in e i [] = refl
  twisted_in e i (t ∷ ts) = let pair : List ℕ × ℕ = (t.mono, t.coeff) in
      ap (λ x. cond (eqb t.component i) (twisted_pair e pair ∷ x) x) (twisted_in e i ts) ∙ twisted_in_by e (eqb t.component i) pair (terms_in i ts)

  -- the vector of the twisted terms is the twist of the vector
  pub vector_of_twisted : (e : ℕ) (ts : List VTerm) → vector_of p n m (twisted (prime_value p ^ e) ts) ≡ vector_twist p n e (vector_of p n m ts)
  unfolding vector_twist
  vector_of_twisted e ts = same_components (polynomials p n) (polynomials_laws p n) m (vector_of p n m (twisted (prime_value p ^ e) ts)) (map (frobenius_twist p n e) (vector_of p n m ts))
      (length_vector p n m (twisted (prime_value p ^ e) ts)) (length-map (vector_of p n m ts) (frobenius_twist p n e) ∙ length_vector p n m ts)
      (λ i h. component_of_vector p n m (twisted (prime_value p ^ e) ts) i h ∙ ap (polynomial_of p n) (twisted_in e (suc i) ts) ∙ sym (twist_of_terms p n e (terms_in (suc i) ts))
      ∙ sym (component_map p n (frobenius_twist p n e) (twist_zero_is p n e) (vector_of p n m ts) i ∙ ap (frobenius_twist p n e) (component_of_vector p n m ts i h)))
