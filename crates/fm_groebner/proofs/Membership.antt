-- An irreducible rest is zero exactly where the vector lies in the submodule.
use Rattle.std.proofs.Common.{◌≡◌, ◌⊎◌, ◌↔◌, inl, inr, ℕ, ◌-◌, List, [], ◌∷◌, Contains, refl, sym, ap, ◌∙◌, subst, arith, Bool}
use Rattle.fm_gfp.specs.declared.prime.Prime.{Prime}
use Rattle.fm_tuple.specs.Tuple.{TupleDivides}
use Rattle.fm_mono.specs.declared.order.Order.{Order}
use Rattle.fm_algebra.specs.Gf.{gf}
use Rattle.fm_algebra.specs.PolynomialMatrices.{InImage}
use Rattle.fm_algebra.specs.Polynomials.{Polynomial}
use Rattle.fm_algebra.proofs.Gf.{gf_laws}
use Rattle.fm_algebra.proofs.Algebra.{mul_zero, neg_mul}
use Rattle.fm_groebner.proofs.Vectors.{length_vector}
use Rattle.fm_term.specs.declared.vterm.VTerm.{VTerm}
use Rattle.fm_term.specs.Falling.{IsFalling}
use Rattle.fm_term.specs.Meanings.{vector_of, vectors_of}
use Rattle.fm_groebner.specs.Bases.{generators, IsGroebnerBasis}
use Rattle.fm_groebner.specs.Logs.{ReducesBy, no_more, one_more, IsIrreducible}
use Rattle.fm_groebner.proofs.Setting as setting
use Rattle.fm_groebner.proofs.Setting.{Vect, In, in_map, shift, Divides, IsNil, Reduces, done, step}
use Rattle.fm_groebner.proofs.Span.{head_one, shift_view}
use Rattle.fm_groebner.proofs.Basis.{member_iff}
use Rattle.fm_groebner.proofs.Monomials.{Monomial, ◌·◌, difference, times_comm, times_difference, divides_times}
use Rattle.fm_groebner.proofs.Places.{same_place}
use Rattle.fm_groebner.proofs.Numbers.{contains_of_in, in_of_map, in_of_number}
use Rattle.fm_groebner.proofs.TermValues.{space, list_value, vector_value, number, fits_of, place_of, all_fit, val_nil, val_head, head_of_terms, empty_of_nil, number_nonzero}
use Rattle.fm_groebner.proofs.MonicLists.{head_place, taken_away, reduces_falling}
use Rattle.fm_groebner.proofs.Bases.{Divided, divided_by, divide, inverse_of, groebner_of_basis, span_of, image_of}

module _ (p : Prime) (n m : ℕ) (o : Order) where
  abbrev X : setting.Setting
  X = space p n m o

  shift_scaled : (a : Monomial n) (k : (gf p).Carrier) (u v : Vect X) → ((b : ℕ × Monomial n) → u b ≡ (gf p).mul k (v b)) → (b : ℕ × Monomial n) → shift X a u b ≡ (gf p).mul k (shift X a v b)
  shift_scaled a k u v e b = elim (shift_view X a b) [
    | inl q ↦ q.2 u ∙ e q.0 ∙ ap ((gf p).mul k) (sym (q.2 v))
    | inr q ↦ q.1 u ∙ sym (ap ((gf p).mul k) (q.1 v) ∙ mul_zero (gf_laws p) k)
  ]

  -- a multiple of a member is a multiple of the member divided by its leading coefficient
  rescaled : (c h f x y : (gf p).Carrier) → (gf p).mul f h ≡ (gf p).one → y ≡ (gf p).mul f x → (gf p).mul ((gf p).neg c) x ≡ (gf p).mul ((gf p).neg ((gf p).mul c h)) y
  rescaled c h f x y e q =
      neg_mul (gf_laws p) c x
      ∙ ap (gf p).neg (
      ap ((gf p).mul c) (sym ((gf_laws p).one_mul x) ∙ ap (λ z. (gf p).mul z x) (sym e ∙ (gf_laws p).mul_comm f h) ∙ (gf_laws p).mul_assoc h f x ∙ ap ((gf p).mul h) (sym q))
      ∙ sym ((gf_laws p).mul_assoc c h y))
      ∙ sym (neg_mul (gf_laws p) ((gf p).mul c h) y)

  module _ (ms : List (List VTerm)) (falling : (x : List VTerm) → Contains ms x → IsFalling p n m o x) where
    pub reduces_divided : {bound : List ℕ → Bool} → {by : List ℕ} {v r : List VTerm} → ReducesBy p n m o bound ms by v r → IsFalling p n m o v → Reduces X (Divided p n m o (vectors_of p n m ms)) (list_value p n m o v) (list_value p n m o r)
    reduces_divided no_more f = done (λ b. refl)
    reduces_divided (one_more {k = k} {s = s} {t = t} {vs = vs} {ts = ts} {v = v} c i d e f' b q red) f =
        let w = falling (t ∷ ts) (contains_of_in (in_of_number i)) in
        let ft = fits_of p n m o t w in
        let fs = fits_of p n m o s f in
        let at : Monomial n = record { exponents = t.mono; fits = ft.exponents } in
        let of : Monomial n = record { exponents = s.mono; fits = fs.exponents } in
        let a = difference of at in
        let meets : ◌≡◌ {A = ℕ × Monomial n} (m - t.component, a · at) (m - s.component, of) = same_place (ap (λ x. m - x) d.0) (times_comm a at ∙ times_difference at of d.1) in
        let h = list_value p n m o (t ∷ ts) (place_of p n m o t ft) in
        let hd = head_of_terms p n m o t ts w in
        let g = inverse_of p n m o h hd.0 in
        step ((gf p).mul (number p n m o c) h) a (divided_by p n m o g.0 (vector_of p n m (t ∷ ts))) (place_of p n m o t ft)
        (divide p n m o (vectors_of p n m ms) (vector_of p n m (t ∷ ts)) (in_map (vector_of p n m) (in_of_number i)) (place_of p n m o t ft) hd g.0 g.1)
        (λ z. number_nonzero p n m o s.coeff f.proper.0.positive f.proper.0.below (sym (val_head p n m o s vs f) ∙ ap (list_value p n m o (s ∷ vs)) (sym meets) ∙ z))
        (λ b. taken_away p n m o v (s ∷ vs) (t ∷ ts) c a (all_fit p n m o (t ∷ ts) w) q b
        ∙ ap (λ x. (gf p).add x (list_value p n m o (s ∷ vs) b)) (rescaled (number p n m o c) h g.0 (shift X a (list_value p n m o (t ∷ ts)) b) (shift X a (divided_by p n m o g.0 (vector_of p n m (t ∷ ts))) b) g.1
        (shift_scaled a g.0 (divided_by p n m o g.0 (vector_of p n m (t ∷ ts))) (list_value p n m o (t ∷ ts)) (λ y. refl) b)))
        (reduces_divided red f')

    -- a head that a divided member's head divides is divisible by the head of a member
    pub divides_listed : (s : VTerm) (rs : List VTerm) (f : IsFalling p n m o (s ∷ rs)) → IsIrreducible ms (s ∷ rs) → ¬ (Divides X (Divided p n m o (vectors_of p n m ms)) (head_place p n m o (s ∷ rs) f))
    divides_listed s rs f irreducible d = at_member (in_of_map (vector_of p n m) ms d.in_G.is_member)
      where
        at_list : (x : List VTerm) → Contains ms x → IsFalling p n m o x → setting.IsHead X (list_value p n m o x) d.at → ⊥
        at_list [] c g hd = hd.0 (val_nil p n m o d.at)
        at_list (t ∷ ts) c g hd =
            let ft = fits_of p n m o t g in
            let same = head_one X (head_of_terms p n m o t ts g) hd in
            let e : ◌≡◌ {A = ℕ × Monomial n} (m - t.component, d.by · (head_place p n m o (t ∷ ts) g).1) (head_place p n m o (s ∷ rs) f) = ap (X.◌•◌ d.by) same ∙ d.is in
            let level : m - t.component ≡ m - s.component = ap (λ z. z.0) e in
            let inside = f.within.1 in
            irreducible t ts c (
              omega (arith, level, inside, ft.within),
              subst (TupleDivides t.mono) (ap (λ z. z.1.exponents) e)
                  (subst (λ z. TupleDivides t.mono z.exponents) (times_comm (head_place p n m o (t ∷ ts) g).1 d.by) (divides_times (head_place p n m o (t ∷ ts) g).1 d.by)),
            )

        at_member : (x : List VTerm) × In ms x × (vector_of p n m x ≡ d.in_G.vector) → ⊥
        at_member x = at_list x.0 (contains_of_in x.1) (falling x.0 (contains_of_in x.1)) (subst (λ v. setting.IsHead X (vector_value p n m o v) d.at) (sym x.2) d.in_G.is_head)

    irreducible_end : (r : List VTerm) → IsFalling p n m o r → IsIrreducible ms r → IsNil X (list_value p n m o r) ⊎ ((a : ℕ × Monomial n) × setting.IsHead X (list_value p n m o r) a × ¬ (Divides X (Divided p n m o (vectors_of p n m ms)) a))
    irreducible_end [] f i = inl (val_nil p n m o)
    irreducible_end (s ∷ rs) f i = inr (head_place p n m o (s ∷ rs) f, head_of_terms p n m o s rs f, divides_listed s rs f i)

    -- membership: the rest of a reduction by a Gröbner basis
    pub membership : {bound : List ℕ → Bool} → (gens : List (List (Polynomial p n))) → IsGroebnerBasis p n m o (vectors_of p n m ms) gens → {by : List ℕ} {v r : List VTerm} → ReducesBy p n m o bound ms by v r → IsFalling p n m o v → IsIrreducible ms r
        → InImage p n (generators p n m gens) (vector_of p n m v) ↔ (r ≡ [])
    membership gens basis {by} {v} {r} red f i =
        let fr = reduces_falling p n m o red f in
        let iff = member_iff X (groebner_of_basis p n m o (vectors_of p n m ms) gens basis) (reduces_divided red f) (irreducible_end r fr i) in (
          λ im. empty_of_nil p n m o r fr (iff.0 (span_of p n m o gens (vector_of p n m v) im)),
          λ e. image_of p n m o gens (vector_of p n m v) (length_vector p n m v) (iff.1 (subst (λ z. IsNil X (list_value p n m o z)) (sym e) (val_nil p n m o))),
        )
