-- Gröbner bases of vectors of polynomials, and of their functions.
use Rattle.std.proofs.Common.{◌≡◌, inl, inr, ℕ, ◌-◌, ◌<◌, ◌≤◌, List, [], ◌∷◌, length, refl, sym, ap, ◌∙◌, subst, arith}
use Rattle.fm_gfp.specs.declared.prime.Prime.{Prime}
use Rattle.fm_tuple.specs.Tuple.{TupleDivides}
use Rattle.fm_mono.specs.declared.order.Order.{Order}
use Rattle.fm_algebra.specs.Gf.{gf, gf_is_zero}
use Rattle.fm_algebra.specs.PolynomialMatrices.{InImage}
use Rattle.fm_algebra.specs.Polynomials.{Polynomial, polynomials}
use Rattle.fm_algebra.proofs.Gf.{gf_laws, gf_field}
use Rattle.fm_algebra.proofs.Tables.{length-apply}
use Rattle.fm_algebra.proofs.Algebra.{mul_zero}
use Rattle.fm_groebner.proofs.Vectors.{length_vector}
use Rattle.fm_term.specs.declared.vterm.VTerm.{VTerm}
use Rattle.fm_term.specs.Meanings.{vector_of, vectors_of}
use Rattle.fm_groebner.specs.Bases.{IsHead, generators, HeadDivides, IsGroebnerBasis}
use Rattle.fm_groebner.proofs.Setting as setting
use Rattle.fm_groebner.proofs.Setting.{Vect, Family, In, in_map, lin_zero, lin_comb, shift, Span, Divides, IsGroebner, IsNil, Reduces, done, step}
use Rattle.fm_groebner.proofs.Differences.{scale_only}
use Rattle.fm_groebner.proofs.Span.{lin_nil, head_eq}
use Rattle.fm_groebner.proofs.Monomials.{Monomial, difference, times_comm, times_difference, divides_times}
use Rattle.fm_groebner.proofs.Places.{same_place}
use Rattle.fm_groebner.proofs.Ordered.{ordered}
use Rattle.fm_groebner.proofs.Images.{Values, span_of_image, image_of_span, vector_of_span}
use Rattle.fm_groebner.proofs.Numbers.{in_of_contains, contains_of_in, in_of_map, in_of_number, number_of_in}
use Rattle.fm_groebner.proofs.Heads.{head_to, head_from, head_level}
use Rattle.fm_groebner.proofs.TermValues.{space, list_value, vector_value, fits_of, head_of_terms}
use Rattle.fm_groebner.proofs.MonicLists.{head_place, MemberAt, member_at, Members, AllMonic}

module _ (p : Prime) (n m : ℕ) (o : Order) where
  abbrev X : setting.Setting
  X = space p n m o

  abbrev W : List (Polynomial p n) → Vect X
  W v = vector_value p n m o v

  -- the vectors of the generators
  abbrev pub Generated : List (List (Polynomial p n)) → Vect X → Type 0
  Generated gens = Values (ordered o n) (gf p) (gf_laws p) (gf_is_zero p) m gens

  pub image_length : (gens : List (List (Polynomial p n))) (v : List (Polynomial p n)) → InImage p n (generators p n m gens) v → length v ≡ m
  unfolding InImage
  image_length gens v i = ap length (sym i.2) ∙ length-apply (polynomials p n) (generators p n m gens) i.0

  pub span_of : (gens : List (List (Polynomial p n))) (v : List (Polynomial p n)) → InImage p n (generators p n m gens) v → Span X (Generated gens) (W v)
  unfolding InImage
  span_of gens v i = span_of_image (ordered o n) (gf p) (gf_laws p) (gf_is_zero p) m gens v i

  pub image_of : (gens : List (List (Polynomial p n))) (v : List (Polynomial p n)) → length v ≡ m → Span X (Generated gens) (W v) → InImage p n (generators p n m gens) v
  unfolding InImage
  image_of gens v l s = image_of_span (ordered o n) (gf p) (gf_laws p) (gf_is_zero p) m gens v l s

  -- each function in the span is that of a vector in the image
  pub image_vector : (gens : List (List (Polynomial p n))) {u : Vect X} → Span X (Generated gens) u
      → (v : List (Polynomial p n)) × InImage p n (generators p n m gens) v × ((b : ℕ × Monomial n) → u b ≡ W v b)
  unfolding InImage
  image_vector gens s = vector_of_span (ordered o n) (gf p) (gf_laws p) (gf_is_zero p) m gens s

  -- ---- from functions to vectors of polynomials
  basis_heads : (ms : List (List VTerm)) (i : ℕ) (a : Monomial n) → 0 < i → i ≤ m → Divides X (Members p n m o ms) (m - i, a) → HeadDivides p n o (vectors_of p n m ms) i a.exponents
  basis_heads ms i a pos within d = at_member d.by d.in_G.1 d.is
    where
      at_member : (b : Monomial n) {g : Vect X} {h : ℕ × Monomial n} → MemberAt p n m o ms d.in_G.0 g h → X.◌•◌ b h ≡ (m - i, a) → HeadDivides p n o (vectors_of p n m ms) i a.exponents
      at_member b (member_at {x = []} f mo j) e = absurd mo
      at_member b (member_at {x = t ∷ ts} f mo j) e =
          let ft = fits_of p n m o t f in
          let level : m - t.component ≡ m - i = ap (λ z. z.0) e in
          let same : t.component ≡ i = omega (arith, level, within, ft.within) in
          record {
            member = vector_of p n m (t ∷ ts);
            exponents = t.mono;
            is_member = contains_of_in (in_map (vector_of p n m) (in_of_number j));
            is_head = subst (λ k. IsHead p n o (vector_of p n m (t ∷ ts)) k t.mono) same
                (head_from p n m o (vector_of p n m (t ∷ ts)) (length_vector p n m (t ∷ ts)) t.component (head_place p n m o (t ∷ ts) f).1 ft.positive ft.within (head_of_terms p n m o t ts f));
            divides = subst (TupleDivides t.mono) (ap (λ z. z.1.exponents) e)
                (subst (λ z. TupleDivides t.mono z.exponents) (times_comm (head_place p n m o (t ∷ ts) f).1 b) (divides_times (head_place p n m o (t ∷ ts) f).1 b));
          }

  -- a basis of monic lists of terms is one of the vectors of polynomials
  pub basis_of_members : (ms : List (List VTerm)) (gens : List (List (Polynomial p n))) → AllMonic p n m o ms → IsGroebner X (Members p n m o ms) (Generated gens) → IsGroebnerBasis p n m o (vectors_of p n m ms) gens
  basis_of_members ms gens well basis = record {
    inside = λ g c. inside g (in_of_map (vector_of p n m) ms (in_of_contains (vectors_of p n m ms) g c));
    heads = λ v i a im hd.
        let h = head_to p n m o v (image_length gens v im) i a hd in
        basis_heads ms i (record { exponents = a; fits = h.2 }) h.0 h.1 (basis.heads (W v) (m - i, record { exponents = a; fits = h.2 }) (span_of gens v im) h.3);
  }
    where
      inside : (g : List (Polynomial p n)) → (x : List VTerm) × In ms x × (vector_of p n m x ≡ g) → InImage p n (generators p n m gens) g
      inside g x =
          let k = number_of_in x.1 in
          let w = well k.0 x.0 k.1 in
          subst (InImage p n (generators p n m gens)) x.2
          (image_of gens (vector_of p n m x.0) (length_vector p n m x.0) (basis.members (list_value p n m o x.0) (head_place p n m o x.0 w.0) (k.0, member_at w.0 w.1 k.1)))

  -- ---- from vectors of polynomials to functions
  -- the members, each divided by its leading coefficient
  pub record Divided (members : List (List (Polynomial p n))) (g : Vect X) (h : ℕ × Monomial n) : Type 0 where
    pub vector : List (Polynomial p n)
    pub is_member : In members vector
    pub is_head : setting.IsHead X (W vector) h
    pub factor : (gf p).Carrier
    pub inverse : (gf p).mul factor (W vector h) ≡ (gf p).one
    pub is : (b : ℕ × Monomial n) → g b ≡ (gf p).mul factor (W vector b)

  pub divided_monic : (members : List (List (Polynomial p n))) → setting.IsMonic X (Divided members)
  divided_monic members g h d = (d.is h ∙ d.inverse, λ b l. d.is b ∙ ap ((gf p).mul d.factor) (d.is_head.1 b l) ∙ mul_zero (gf_laws p) d.factor)

  pub inverse_of : (c : (gf p).Carrier) → ¬ (c ≡ (gf p).zero) → (f : (gf p).Carrier) × ((gf p).mul f c ≡ (gf p).one)
  inverse_of c w = elim ((gf_field p).zero_or_inverse c) [
    | inl z ↦ absurd (w z)
    | inr f ↦ (f.0, (gf_laws p).mul_comm f.0 c ∙ f.1)
  ]

  -- a vector with a head, divided by its leading coefficient
  abbrev pub divided_by : (gf p).Carrier → List (Polynomial p n) → Vect X
  divided_by f v b = (gf p).mul f (W v b)

  pub divide : (members : List (List (Polynomial p n))) (v : List (Polynomial p n)) → In members v → (h : ℕ × Monomial n) → setting.IsHead X (W v) h
      → (f : (gf p).Carrier) → (gf p).mul f (W v h) ≡ (gf p).one → Divided members (divided_by f v) h
  divide members v i h hd f e = record { vector = v; is_member = i; is_head = hd; factor = f; inverse = e; is = λ b. refl }

  module _ (members gens : List (List (Polynomial p n))) (basis : IsGroebnerBasis p n m o members gens) where
    divided_heads : (i : ℕ) (a : Monomial n) → i ≤ m → HeadDivides p n o members i a.exponents → Divides X (Divided members) (m - i, a)
    divided_heads i a within d =
        let l = image_length gens d.member (basis.inside d.member d.is_member) in
        let h = head_to p n m o d.member l i d.exponents d.is_head in
        let e : Monomial n = record { exponents = d.exponents; fits = h.2 } in
        let f = inverse_of (W d.member (m - i, e)) h.3.0 in
        record { by = difference a e; member = divided_by f.0 d.member; at = (m - i, e); in_G = divide members d.member (in_of_contains members d.member d.is_member) (m - i, e) h.3 f.0 f.1; is = same_place refl (times_comm (difference a e) e ∙ times_difference e a d.divides) }

    -- a basis of vectors of polynomials is one of functions
    pub groebner_of_basis : IsGroebner X (Divided members) (Generated gens)
    groebner_of_basis = record {
      members = λ g h d. lin_comb d.factor (span_of gens d.vector (basis.inside d.vector (contains_of_in d.is_member))) (lin_nil X) (λ b. scale_only (gf_laws p) d.factor (W d.vector b) (g b) (d.is b));
      heads = λ u b s hd. heads u b hd (image_vector gens s);
    }
      where
        heads : (u : Vect X) (b : ℕ × Monomial n) → setting.IsHead X u b → (v : List (Polynomial p n)) × InImage p n (generators p n m gens) v × ((c : ℕ × Monomial n) → u c ≡ W v c)
            → Divides X (Divided members) b
        heads u b hd v =
            let hv = head_eq X (λ c. sym (v.2 c)) hd in
            let below = head_level p n m o v.0 b hv in
            let pos : 0 < m - b.0 = omega (arith, below) in
            let within : m - b.0 ≤ m = omega arith in
            let level : m - (m - b.0) ≡ b.0 = omega (arith, below) in
            subst (λ k. Divides X (Divided members) (k, b.1)) level
            (divided_heads (m - b.0) b.1 within (basis.heads v.0 (m - b.0) b.1.exponents v.1
            (head_from p n m o v.0 (image_length gens v.0 v.1) (m - b.0) b.1 pos within (subst (λ k. setting.IsHead X (W v.0) (k, b.1)) (sym level) hv))))
