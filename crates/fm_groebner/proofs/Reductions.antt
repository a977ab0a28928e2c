-- Each vector reduces to an irreducible rest, and each pair with heads in one component has an S-vector.
use Rattle.std.proofs.Common.{true, ◌≡◌, ◌⊎◌, inl, inr, ℕ, suc, ◌-◌, ◌*◌, ◌%◌, ◌<◌, List, [], ◌∷◌, ◌++◌, Contains, refl, sym, ap, ap₂, ◌∙◌, subst, arith, mod-eq_of_lt}
use mathlib.Core.WellFounded.{Acc}
use native.Mathlib.Decide.{ℕ_discrete}
use Rattle.fm_gfp.specs.Primes.{prime_value}
use Rattle.fm_gfp.specs.declared.prime.Prime.{Prime}
use Rattle.fm_mono.specs.declared.order.Order.{Order}
use Rattle.fm_algebra.specs.Gf.{gf, gf_is_zero, same_residue}
use Rattle.fm_algebra.proofs.Gf.{gf_laws}
use Rattle.fm_algebra.proofs.Algebra.{neg_mul, add_neg}
use Rattle.fm_groebner.proofs.Vectors.{length_vector}
use Rattle.fm_term.specs.declared.vterm.VTerm.{VTerm}
use Rattle.fm_term.specs.Places.{TermDivides}
use Rattle.fm_term.specs.Falling.{IsFalling}
use Rattle.fm_term.specs.Multiples.{multiple, is_multiple_within}
use Rattle.fm_term.specs.Meanings.{vector_of}
use Rattle.fm_groebner.specs.Logs.{anything, IsNumber, first, next, ReducesBy, no_more, one_more, IsIrreducible, IsSVector}
use Rattle.fm_groebner.proofs.Setting as setting
use Rattle.fm_groebner.proofs.Setting.{Vect, IsFinite, shift, lin_gen, lin_comb}
use Rattle.fm_groebner.proofs.Differences.{skip_zero}
use Rattle.fm_groebner.proofs.Span.{shift_view, shift_at, finite_shift, finite_of_lin, less_of_at, below_segment, place_in}
use Rattle.fm_groebner.proofs.Monomials.{Monomial, ◌·◌, divides_dec, difference, maximum, times_comm, times_difference}
use Rattle.fm_groebner.proofs.Places.{same_place}
use Rattle.fm_groebner.proofs.Ordered.{ordered}
use Rattle.fm_groebner.proofs.Values.{value_finite, same_vector}
use Rattle.fm_groebner.proofs.Numbers.{contains_cases}
use Rattle.fm_groebner.proofs.TermValues.{space, list_value, number, fits_of, all_fit, val_outside, val_append, val_multiple, val_head, head_of_terms, number_times, number_nonzero}
use Rattle.fm_groebner.proofs.MonicLists.{head_place}
use Rattle.fm_groebner.proofs.Bases.{inverse_of}
use Rattle.fm_groebner.proofs.NormalForms.{normal_of}
use Rattle.fm_tuple.specs.Tuple.{tuple_difference, tuple_maximum}

divides_term : (t s : VTerm) → Dec (TermDivides t s)
divides_term t s = elim (ℕ_discrete t.component s.component) [
  | yes e ↦ elim (divides_dec t.mono s.mono) [ yes d ↦ yes (e, d) | no w ↦ no (λ d. w d.1) ]
  | no w ↦ no (λ d. w d.0)
]

-- a member whose head divides a term, or none
find_divisor : (ms : List (List VTerm)) (s : VTerm) → ((k : ℕ) × (t : VTerm) × (ts : List VTerm) × IsNumber ms k (t ∷ ts) × TermDivides t s) ⊎ ((t : VTerm) (ts : List VTerm) → Contains ms (t ∷ ts) → ¬ (TermDivides t s))
find_divisor [] s = inr (λ t ts c. absurd (omega (arith, c.1)))
find_divisor (x ∷ ms) s = by_first x (find_divisor ms s)
  where
    same_first : {t u : VTerm} {ts us : List VTerm} → u ∷ us ≡ t ∷ ts → u ≡ t
    same_first e = cc

    not_empty : {t : VTerm} {ts : List VTerm} → ¬ ([] ≡ t ∷ ts)
    not_empty e = cc

    by_first : (x : List VTerm) → ((k : ℕ) × (t : VTerm) × (ts : List VTerm) × IsNumber ms k (t ∷ ts) × TermDivides t s) ⊎ ((t : VTerm) (ts : List VTerm) → Contains ms (t ∷ ts) → ¬ (TermDivides t s))
        → ((k : ℕ) × (t : VTerm) × (ts : List VTerm) × IsNumber (x ∷ ms) k (t ∷ ts) × TermDivides t s) ⊎ ((t : VTerm) (ts : List VTerm) → Contains (x ∷ ms) (t ∷ ts) → ¬ (TermDivides t s))
    by_first x (inl r) = inl (suc r.0, r.1, r.2, next r.3, r.4)
    by_first [] (inr none) = inr (λ t ts c. elim (contains_cases [] ms (t ∷ ts) c) [ inl e ↦ absurd (not_empty e) | inr d ↦ none t ts d ])
    by_first (u ∷ us) (inr none) = elim (divides_term u s) [
      | yes d ↦ inl (1, u, us, first, d)
      | no w ↦ inr (λ t ts c. elim (contains_cases (u ∷ us) ms (t ∷ ts) c) [ inl e ↦ subst (λ z. ¬ (TermDivides z s)) (same_first e) w | inr d ↦ none t ts d ])
    ]

-- without a bound each multiple fits
pub all_fit_anything : (a : List ℕ) (ts : List VTerm) → is_multiple_within anything a ts ≡ true
all_fit_anything a [] = refl
all_fit_anything a (t ∷ ts) = all_fit_anything a ts

module _ (p : Prime) (n m : ℕ) (o : Order) where
  abbrev X : setting.Setting
  X = space p n m o

  finite_list : (x : List VTerm) → IsFinite X (list_value p n m o x)
  finite_list x = value_finite (ordered o n) (gf p) (gf_laws p) (gf_is_zero p) m (vector_of p n m x)

  combination_finite : (c : (gf p).Carrier) (u w : Vect X) → IsFinite X u → IsFinite X w → IsFinite X (λ b. (gf p).add ((gf p).mul c (u b)) (w b))
  combination_finite c u w f g = finite_of_lin X {A = λ v. IsFinite X v} (λ v h. h) (lin_comb c (lin_gen f) (lin_gen g) (λ b. refl))

  shift_outside : (a : Monomial n) (x : List VTerm) (b : ℕ × Monomial n) → ¬ (b.0 < m) → shift X a (list_value p n m o x) b ≡ (gf p).zero
  shift_outside a x b w = elim (shift_view X a b) [
    | inl q ↦ q.2 (list_value p n m o x) ∙ val_outside p n m o (vector_of p n m x) q.0 (λ l. w (subst (λ z. z.0 < m) q.1 l))
    | inr q ↦ q.1 (list_value p n m o x)
  ]

  -- the falling list of a list minus a multiple of another
  difference_list : (w g : List VTerm) (c : ℕ) (a : Monomial n) → IsFalling p n m o g
      → (v : List VTerm) × IsFalling p n m o v × ((b : ℕ × Monomial n) → list_value p n m o v b ≡ (gf p).add ((gf p).mul ((gf p).neg (number p n m o c)) (shift X a (list_value p n m o g) b)) (list_value p n m o w b))
  difference_list w g c a f = normal_of p n m o (λ b. (gf p).add ((gf p).mul ((gf p).neg (number p n m o c)) (shift X a (list_value p n m o g) b)) (list_value p n m o w b))
      (λ b out. skip_zero (gf_laws p) ((gf p).neg (number p n m o c)) (shift X a (list_value p n m o g) b) (list_value p n m o w b) (shift_outside a g b out) ∙ val_outside p n m o (vector_of p n m w) b out)
      (combination_finite ((gf p).neg (number p n m o c)) (shift X a (list_value p n m o g)) (list_value p n m o w) (finite_shift X a (finite_list g)) (finite_list w))

  put_back : (y z : (gf p).Carrier) → (gf p).add ((gf p).add ((gf p).neg y) z) y ≡ z
  put_back y z = (gf_laws p).add_comm ((gf p).add ((gf p).neg y) z) y ∙ sym ((gf_laws p).add_assoc y ((gf p).neg y) z) ∙ ap (λ x. (gf p).add x z) (add_neg (gf_laws p) y) ∙ (gf_laws p).zero_add z

  vector_back : (v w g : List VTerm) (c : ℕ) (a : Monomial n) → IsFalling p n m o g → ((b : ℕ × Monomial n) → list_value p n m o v b ≡ (gf p).add ((gf p).mul ((gf p).neg (number p n m o c)) (shift X a (list_value p n m o g) b)) (list_value p n m o w b))
      → vector_of p n m (v ++ multiple p c a.exponents g) ≡ vector_of p n m w
  vector_back v w g c a f e = same_vector (ordered o n) (gf p) (gf_laws p) (gf_is_zero p) m (vector_of p n m (v ++ multiple p c a.exponents g)) (vector_of p n m w)
      (length_vector p n m (v ++ multiple p c a.exponents g)) (length_vector p n m w)
      (λ b. val_append p n m o v (multiple p c a.exponents g) b
      ∙ ap₂ (gf p).add (e b ∙ ap (λ x. (gf p).add x (list_value p n m o w b)) (neg_mul (gf_laws p) (number p n m o c) (shift X a (list_value p n m o g) b))) (val_multiple p n m o c a g (all_fit p n m o g f) b)
      ∙ put_back ((gf p).mul (number p n m o c) (shift X a (list_value p n m o g) b)) (list_value p n m o w b))

  -- the factor that cancels a head
  cancels : (c d : ℕ) → 0 < d → d < prime_value p → c < prime_value p → (f : ℕ) × ((f * d) % prime_value p ≡ c)
  cancels c d pos h l = (f.number, sym (mod-eq_of_lt (number p n m o (f.number * d)).below) ∙ ap (λ x. x.number) same ∙ mod-eq_of_lt l)
    where
      i : (x : (gf p).Carrier) × ((gf p).mul x (number p n m o d) ≡ (gf p).one)
      i = inverse_of p n m o (number p n m o d) (number_nonzero p n m o d pos h)

      f : (gf p).Carrier
      f = (gf p).mul (number p n m o c) i.0

      same : number p n m o ((f.number * d) % prime_value p) ≡ number p n m o c
      same = number_times p n m o f.number d
          ∙ ap (λ x. (gf p).mul x (number p n m o d)) (same_residue (number p n m o f.number) f (mod-eq_of_lt f.below))
          ∙ (gf_laws p).mul_assoc (number p n m o c) i.0 (number p n m o d)
          ∙ ap ((gf p).mul (number p n m o c)) i.1
          ∙ (gf_laws p).mul_comm (number p n m o c) (gf p).one ∙ (gf_laws p).one_mul (number p n m o c)

  module _ (ms : List (List VTerm)) (falling : (k : ℕ) (x : List VTerm) → IsNumber ms k x → IsFalling p n m o x) where
    Reduced : List VTerm → Type 0
    Reduced v = (by : List ℕ) × (r : List VTerm) × ReducesBy p n m o anything ms by v r × IsIrreducible ms r

    -- one step: the head is cancelled
    one_step : (s : VTerm) (vs : List VTerm) (f : IsFalling p n m o (s ∷ vs)) (k : ℕ) (t : VTerm) (ts : List VTerm) → IsNumber ms k (t ∷ ts) → TermDivides t s
        → ((v : List VTerm) (g : IsFalling p n m o v) → ((b : ℕ × Monomial n) → ¬ (X.Less b (head_place p n m o (s ∷ vs) f)) → list_value p n m o v b ≡ (gf p).zero) → Reduced v) → Reduced (s ∷ vs)
    unfolding Reduced
    one_step s vs f k t ts i d rest =
        let w = falling k (t ∷ ts) i in
        let ft = fits_of p n m o t w in
        let fs = fits_of p n m o s f in
        let at : Monomial n = record { exponents = t.mono; fits = ft.exponents } in
        let of : Monomial n = record { exponents = s.mono; fits = fs.exponents } in
        let a = difference of at in
        let c = cancels s.coeff t.coeff w.proper.0.positive w.proper.0.below f.proper.0.below in
        let v = difference_list (s ∷ vs) (t ∷ ts) c.0 a w in
        let meets : ◌≡◌ {A = ℕ × Monomial n} (m - t.component, a · at) (m - s.component, of) = same_place (ap (λ x. m - x) d.0) (times_comm a at ∙ times_difference at of d.1) in
        let r = rest v.0 v.1 (below_head a c.0 c.1 w v.0 v.2 meets) in
        (k ∷ r.0, r.1, one_more {by = r.0} {v = v.0} {r = r.1} c.0 i d c.1 v.1 (all_fit_anything (tuple_difference s.mono t.mono) (t ∷ ts)) (vector_back v.0 (s ∷ vs) (t ∷ ts) c.0 a w v.2) r.2, r.3)
      where
        below_head : (a : Monomial n) (c : ℕ) → (c * t.coeff) % prime_value p ≡ s.coeff → (w : IsFalling p n m o (t ∷ ts)) (v : List VTerm)
            → ((b : ℕ × Monomial n) → list_value p n m o v b ≡ (gf p).add ((gf p).mul ((gf p).neg (number p n m o c)) (shift X a (list_value p n m o (t ∷ ts)) b)) (list_value p n m o (s ∷ vs) b))
            → X.◌•◌ a (head_place p n m o (t ∷ ts) w) ≡ head_place p n m o (s ∷ vs) f
            → (b : ℕ × Monomial n) → ¬ (X.Less b (head_place p n m o (s ∷ vs) f)) → list_value p n m o v b ≡ (gf p).zero
        below_head a c q w v e meets b out = e b ∙ elim (X.compared b (head_place p n m o (s ∷ vs) f)) [
          | setting.below l ↦ absurd (out l)
          | setting.same z ↦ ap₂ (λ x y. (gf p).add ((gf p).mul ((gf p).neg (number p n m o c)) x) y)
              (ap (shift X a (list_value p n m o (t ∷ ts))) (z ∙ sym meets) ∙ shift_at X a (list_value p n m o (t ∷ ts)) (head_place p n m o (t ∷ ts) w) ∙ val_head p n m o t ts w)
              (ap (list_value p n m o (s ∷ vs)) z ∙ val_head p n m o s vs f ∙ sym (ap (number p n m o) q) ∙ number_times p n m o c t.coeff)
              ∙ ap (λ x. (gf p).add x ((gf p).mul (number p n m o c) (number p n m o t.coeff))) (neg_mul (gf_laws p) (number p n m o c) (number p n m o t.coeff))
              ∙ (gf_laws p).neg_add ((gf p).mul (number p n m o c) (number p n m o t.coeff))
          | setting.above l ↦ skip_zero (gf_laws p) ((gf p).neg (number p n m o c)) (shift X a (list_value p n m o (t ∷ ts)) b) (list_value p n m o (s ∷ vs) b) (multiple_zero a w b (subst (λ z. X.Less z b) (sym meets) l))
              ∙ (head_of_terms p n m o s vs f).1 b l
        ]
          where
            multiple_zero : (a : Monomial n) (w : IsFalling p n m o (t ∷ ts)) (b : ℕ × Monomial n) → X.Less (X.◌•◌ a (head_place p n m o (t ∷ ts) w)) b → shift X a (list_value p n m o (t ∷ ts)) b ≡ (gf p).zero
            multiple_zero a w b l = elim (shift_view X a b) [
              | inl q ↦ q.2 (list_value p n m o (t ∷ ts)) ∙ (head_of_terms p n m o t ts w).1 q.0 (less_of_at X a (head_place p n m o (t ∷ ts) w) q.0 (subst (X.Less (X.◌•◌ a (head_place p n m o (t ∷ ts) w))) (sym q.1) l))
              | inr q ↦ q.1 (list_value p n m o (t ∷ ts))
            ]

    step_or_stop : (s : VTerm) (vs : List VTerm) (f : IsFalling p n m o (s ∷ vs))
        → ((v : List VTerm) (g : IsFalling p n m o v) → ((b : ℕ × Monomial n) → ¬ (X.Less b (head_place p n m o (s ∷ vs) f)) → list_value p n m o v b ≡ (gf p).zero) → Reduced v) → Reduced (s ∷ vs)
    unfolding Reduced
    step_or_stop s vs f rest = elim (find_divisor ms s) [
      | inl d ↦ one_step s vs f d.0 d.1 d.2 d.3 d.4 rest
      | inr none ↦ ([], s ∷ vs, no_more, none)
    ]

    from_smaller : (a : ℕ × Monomial n) → ((b : ℕ × Monomial n) → X.Less b a → (s : VTerm) (vs : List VTerm) (f : IsFalling p n m o (s ∷ vs)) → head_place p n m o (s ∷ vs) f ≡ b → Reduced (s ∷ vs))
        → (v : List VTerm) (g : IsFalling p n m o v) → ((b : ℕ × Monomial n) → ¬ (X.Less b a) → list_value p n m o v b ≡ (gf p).zero) → Reduced v
    unfolding Reduced
    from_smaller a smaller [] g z = ([], [], no_more, tt)
    from_smaller a smaller (s ∷ vs) g z = smaller (head_place p n m o (s ∷ vs) g) (place_in X (below_segment X a) (list_value p n m o (s ∷ vs)) z (head_place p n m o (s ∷ vs) g) (head_of_terms p n m o s vs g).0) s vs g refl

    reduced_at : (a : ℕ × Monomial n) → Acc X.Less a → (s : VTerm) (vs : List VTerm) (f : IsFalling p n m o (s ∷ vs)) → head_place p n m o (s ∷ vs) f ≡ a → Reduced (s ∷ vs)
    reduced_at a (Acc.intro a' smaller) = λ s vs f e. step_or_stop s vs f (from_smaller (head_place p n m o (s ∷ vs) f) (λ b l. reduced_at b (smaller b (subst (X.Less b) e l))))

    -- each vector reduces to an irreducible rest
    pub reduction_exists : (v : List VTerm) → IsFalling p n m o v → (by : List ℕ) × (r : List VTerm) × ReducesBy p n m o anything ms by v r × IsIrreducible ms r
    unfolding Reduced
    reduction_exists [] f = ([], [], no_more, tt)
    reduction_exists (s ∷ vs) f = reduced_at (head_place p n m o (s ∷ vs) f) (X.founded (head_place p n m o (s ∷ vs) f)) s vs f refl

  -- two vectors with heads in one component have an S-vector
  pub s_vector_exists : (t u : VTerm) (ts us : List VTerm) → IsFalling p n m o (t ∷ ts) → IsFalling p n m o (u ∷ us) → t.component ≡ u.component → (v : List VTerm) × IsSVector p n m o anything t u ts us v
  s_vector_exists t u ts us f g e =
      let ft = fits_of p n m o t f in
      let fu = fits_of p n m o u g in
      let at : Monomial n = record { exponents = t.mono; fits = ft.exponents } in
      let au : Monomial n = record { exponents = u.mono; fits = fu.exponents } in
      let v = difference_list (multiple p 1 (difference (maximum at au) at).exponents (t ∷ ts)) (u ∷ us) 1 (difference (maximum at au) au) g in (
        v.0,
        record {
          one_component = e;
          falls = v.1;
          first_fits = all_fit_anything (tuple_difference (tuple_maximum t.mono u.mono) t.mono) (t ∷ ts);
          second_fits = all_fit_anything (tuple_difference (tuple_maximum t.mono u.mono) u.mono) (u ∷ us);
          is = vector_back v.0 (multiple p 1 (difference (maximum at au) at).exponents (t ∷ ts)) (u ∷ us) 1 (difference (maximum at au) au) g v.2;
        },
      )
