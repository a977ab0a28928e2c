-- A Gröbner basis generates; Buchberger's criterion both ways; logs; the block of a rest.
use Rattle.std.proofs.Common.{◌^◌, ◌≡◌, ◌↔◌, inl, inr, ℕ, zero, suc, ◌+◌, ◌-◌, ◌<◌, ◌≤◌, List, [], ◌∷◌, ◌++◌, map, length, drop, Contains, refl, sym, ap, ap₂, ◌∙◌, subst, subst₂, arith, Bool}
use Rattle.std.proofs.lemmas.List.{length-replicate}
use native.Mathlib.Decide.{dec_lt}
use Rattle.fm_gfp.specs.declared.prime.Prime.{Prime}
use Rattle.fm_mono.specs.declared.order.Order.{Order}
use Rattle.fm_algebra.specs.Gf.{gf, gf_is_zero}
use Rattle.fm_algebra.specs.Polynomials.{Polynomial, polynomials, coefficient, polynomial_zero}
use Rattle.fm_algebra.specs.PolynomialMatrices.{InImage, vector_twist}
use Rattle.fm_algebra.proofs.Gf.{gf_laws}
use Rattle.fm_algebra.proofs.PolynomialWords.{coefficient_zero}
use Rattle.fm_algebra.proofs.Concrete.{polynomials_laws}
use Rattle.fm_groebner.proofs.TermValues.{space, list_value, vector_value}
use Rattle.fm_groebner.proofs.Vectors.{length_vector}
use Rattle.fm_term.specs.declared.vterm.VTerm.{VTerm}
use Rattle.fm_term.specs.Falling.{IsFalling, AreFalling, IsMonic, AreMonic, IsBelowBlock}
use Rattle.fm_term.specs.Multiples.{twisted}
use Rattle.fm_term.specs.Meanings.{vector_of, vectors_of}
use Rattle.fm_groebner.specs.Bases.{vector_component, IsHead, generators, IsGroebnerBasis}
use Rattle.fm_groebner.specs.Logs.{IsNumber, Entry, ReducesBy, IsIrreducible, IsSVector, FreeRun, IsComplete, anything}
use Rattle.fm_groebner.specs.Graphs.{zero_vector}
use Rattle.fm_groebner.proofs.Setting as setting
use Rattle.fm_groebner.proofs.Setting.{Vect, lin_zero, lin_comb, Span, IsFinite}
use Rattle.fm_groebner.proofs.Differences.{scale_only}
use Rattle.fm_groebner.proofs.Span.{lin_nil, lin_eq, span_member, span_bind, span_of_rep, head_one, head_of_finite, finite_eq}
use Rattle.fm_groebner.proofs.Basis.{standard_rep}
use Rattle.fm_groebner.proofs.Heads.{head_to}
use Rattle.fm_groebner.proofs.Monomials.{Monomial}
use Rattle.fm_groebner.proofs.Ordered.{ordered}
use Rattle.fm_groebner.proofs.Values.{value_finite}
use Rattle.fm_groebner.proofs.Numbers.{in_of_contains, contains_of_in, in_of_number, number_of_in}
use Rattle.fm_groebner.proofs.MonicLists.{head_place, MemberAt, member_at, AllMonic}
use Rattle.fm_groebner.proofs.Bases.{Generated, Divided, divided_monic, groebner_of_basis, basis_of_members, span_of, image_of, image_length}
use Rattle.fm_groebner.proofs.Membership.{membership}
use Rattle.fm_groebner.proofs.Logs.{groebner_of_log, members_of_run, groebner_of_s_vectors, s_vector_span, input_span}
use Rattle.fm_groebner.proofs.Reductions.{reduction_exists}
use Rattle.fm_groebner.proofs.NormalForms.{head_is_first, vector_of_twisted}
use Rattle.fm_groebner.proofs.Twists.{groebner_of_twist}
use Rattle.fm_groebner.proofs.Blocks.{below_of_upper, upper_of_rest}
use Rattle.fm_groebner.proofs.GraphMatrices.{zeros, component_left, component_zeros}
use Rattle.fm_gfp.specs.Primes.{prime_value}

module _ (p : Prime) (n m : ℕ) (o : Order) where
  abbrev X : setting.Setting
  X = space p n m o

  pub reduction_of_vector : (members : List (List VTerm)) (v : List VTerm) → AreFalling p n m o members → IsFalling p n m o v → (by : List ℕ) × (r : List VTerm) × ReducesBy p n m o anything members by v r × IsIrreducible members r
  reduction_of_vector members v falling f = reduction_exists p n m o members (λ k x i. falling x (contains_of_in (in_of_number i))) v f

  -- ---- the twist over lists of terms
  twisted_vectors : (e : ℕ) (tss : List (List VTerm)) → map (vector_twist p n e) (vectors_of p n m tss) ≡ vectors_of p n m (map (twisted (prime_value p ^ e)) tss)
  twisted_vectors e [] = refl
  twisted_vectors e (ts ∷ tss) = ap₂ (λ x y. x ∷ y) (sym (vector_of_twisted p n m e ts)) (twisted_vectors e tss)

  pub twisted_lists : (e : ℕ) (members gens : List (List VTerm)) → IsGroebnerBasis p n m o (vectors_of p n m members) (vectors_of p n m gens)
      → IsGroebnerBasis p n m o (vectors_of p n m (map (twisted (prime_value p ^ e)) members)) (vectors_of p n m (map (twisted (prime_value p ^ e)) gens))
  twisted_lists e members gens basis = subst₂ (IsGroebnerBasis p n m o) (twisted_vectors e members) (twisted_vectors e gens) (groebner_of_twist p n m e o (vectors_of p n m members) (vectors_of p n m gens) basis)

  -- ---- a Gröbner basis generates
  module _ (members gens : List (List (Polynomial p n))) (basis : IsGroebnerBasis p n m o members gens) where
    generated_finite : (g : Vect X) → Generated p n m o gens g → IsFinite X g
    generated_finite g v = finite_eq X v.2 (value_finite (ordered o n) (gf p) (gf_laws p) (gf_is_zero p) m v.0)

    divided_span : (g : Vect X) (h : ℕ × Monomial n) → Divided p n m o members g h → Span X (Generated p n m o members) g
    divided_span g h d = lin_comb d.factor (span_member X (d.vector, d.is_member, λ b. refl)) (lin_nil X) (λ b. scale_only (gf_laws p) d.factor (vector_value p n m o d.vector b) (g b) (d.is b))

    to_gens : (v : List (Polynomial p n)) → InImage p n (generators p n m members) v → InImage p n (generators p n m gens) v
    to_gens v i = image_of p n m o gens v (image_length p n m o members v i)
        (span_bind X (λ g w. lin_eq X (span_of p n m o gens w.0 (basis.inside w.0 (contains_of_in w.1))) w.2) (span_of p n m o members v i))

    to_members : (v : List (Polynomial p n)) → InImage p n (generators p n m gens) v → InImage p n (generators p n m members) v
    to_members v i = image_of p n m o members v (image_length p n m o gens v i) (elim (head_of_finite X (value_finite (ordered o n) (gf p) (gf_laws p) (gf_is_zero p) m v)) [
      | inl z ↦ lin_zero z
      | inr t ↦ span_of_rep X divided_span
          (standard_rep X (divided_monic p n m o members) (groebner_of_basis p n m o members gens basis) generated_finite t.0 (vector_value p n m o v) (span_of p n m o gens v i) t.1)
    ])

    pub basis_generates : (v : List (Polynomial p n)) → InImage p n (generators p n m members) v ↔ InImage p n (generators p n m gens) v
    basis_generates v = (to_gens v, to_members v)

  -- ---- logs
  module _ {bound : List ℕ → Bool} {inputs ms : List (List VTerm)} {log : List Entry} {taken : List ℕ} {treated : List (ℕ × ℕ)} (run : FreeRun p n m o bound inputs log ms taken treated) where
    pub basis_of_log : IsComplete inputs ms taken treated → IsGroebnerBasis p n m o (vectors_of p n m ms) (vectors_of p n m inputs)
    basis_of_log complete = let r = groebner_of_log p n m o inputs run complete in basis_of_members p n m o ms (vectors_of p n m inputs) r.0 r.1

    pub monic_of_log : AreMonic p n m o ms
    monic_of_log x c = let k = number_of_in (in_of_contains ms x c) in (members_of_run p n m o inputs run).0 k.0 x k.1

    pub inside_of_log : (x : List VTerm) → Contains ms x → InImage p n (generators p n m (vectors_of p n m inputs)) (vector_of p n m x)
    inside_of_log x c =
        let k = number_of_in (in_of_contains ms x c) in
        let r = members_of_run p n m o inputs run in
        let w = r.0 k.0 x k.1 in
        image_of p n m o (vectors_of p n m inputs) (vector_of p n m x) (length_vector p n m x) (r.1 (list_value p n m o x) (head_place p n m o x w.0) (k.0, member_at w.0 w.1 k.1))

  -- ---- Buchberger's criterion
  module _ {ms : List (List VTerm)} (well : (x : List VTerm) → Contains ms x → IsFalling p n m o x × IsMonic x) where
    all_monic : AllMonic p n m o ms
    all_monic k x i = well x (contains_of_in (in_of_number i))

    pub criterion : {bound : List ℕ → Bool} → ((a b : ℕ) (t u : VTerm) (ts us : List VTerm) → a < b → IsNumber ms a (t ∷ ts) → IsNumber ms b (u ∷ us) → t.component ≡ u.component
        → (v : List VTerm) × (by : List ℕ) × IsSVector p n m o bound t u ts us v × ReducesBy p n m o bound ms by v []) → IsGroebnerBasis p n m o (vectors_of p n m ms) (vectors_of p n m ms)
    criterion reduces = basis_of_members p n m o ms (vectors_of p n m ms) all_monic (groebner_of_s_vectors p n m o all_monic reduces)

    member_span : (k : ℕ) (g : Vect X) (h : ℕ × Monomial n) → MemberAt p n m o ms k g h → Span X (Generated p n m o (vectors_of p n m ms)) g
    member_span k g h (member_at f mo i) = input_span p n m o ms i

    -- an S-vector lies in what the members span
    s_vector_inside : {bound : List ℕ → Bool} → (a b : ℕ) (t u : VTerm) (ts us v : List VTerm) → IsNumber ms a (t ∷ ts) → IsNumber ms b (u ∷ us) → IsSVector p n m o bound t u ts us v → InImage p n (generators p n m (vectors_of p n m ms)) (vector_of p n m v)
    s_vector_inside a b t u ts us v i j sv =
        let wt = all_monic a (t ∷ ts) i in
        let wu = all_monic b (u ∷ us) j in
        image_of p n m o (vectors_of p n m ms) (vector_of p n m v) (length_vector p n m v)
        (s_vector_span p n m o ms t u ts us wt.0 wu.0 sv.one_component (λ g h k. member_span k.0 g h k.1) wt.1 wu.1 i j sv)

    -- where the members are a Gröbner basis of what they span, each S-vector reduces to zero, whatever the reduction
    pub criterion_back : {bound : List ℕ → Bool} → IsGroebnerBasis p n m o (vectors_of p n m ms) (vectors_of p n m ms) → (a b : ℕ) (t u : VTerm) (ts us v : List VTerm) (by : List ℕ) (r : List VTerm)
        → IsNumber ms a (t ∷ ts) → IsNumber ms b (u ∷ us) → IsSVector p n m o bound t u ts us v → ReducesBy p n m o bound ms by v r → IsIrreducible ms r → r ≡ []
    criterion_back basis a b t u ts us v by r i j sv red irreducible =
        (membership p n m o ms (λ x c. (well x c).0) (vectors_of p n m ms) basis red sv.falls irreducible).0 (s_vector_inside a b t u ts us v i j sv)

  -- ---- the upper block of a rest
  upper_component : (w : List (Polynomial p n)) (i : ℕ) (a : List ℕ) → 0 < i → i ≤ m → coefficient p n (vector_component p n (zero_vector p n m ++ w) i) a ≡ 0
  unfolding polynomial_zero
  upper_component w zero a pos l = absurd (omega (arith, pos))
  upper_component w (suc i) a pos l =
      ap (λ f. coefficient p n f a) (
      component_left (polynomials p n) (polynomials_laws p n) (zeros (polynomials p n) (polynomials_laws p n) m) w i (subst (λ x. i < x) (sym (length-replicate m (polynomials p n).zero)) (omega (arith, l)))
      ∙ component_zeros (polynomials p n) (polynomials_laws p n) m i (omega (arith, l)))
      ∙ coefficient_zero p n a

  module _ (c : ℕ) where
    head_below : (r : List VTerm) → IsFalling p n (m + c) o r → (w : List (Polynomial p n)) → vector_of p n (m + c) r ≡ zero_vector p n m ++ w → IsBelowBlock m r
    head_below [] f w e = tt
    head_below (s ∷ rs) f w e = elim (dec_lt m s.component) [
      | yes l ↦ l
      | no nl ↦ absurd ((head_is_first p n (m + c) o s rs f).nonzero
          (ap (λ v. coefficient p n (vector_component p n v s.component) s.mono) e ∙ upper_component w s.component s.mono f.within.0 (omega (arith, nl))))
    ]

    low_head : (r : List VTerm) → IsBelowBlock m r → (s : VTerm) (rs : List VTerm) (f : IsFalling p n (m + c) o (s ∷ rs)) → r ≡ s ∷ rs → ¬ (c ≤ (head_place p n (m + c) o (s ∷ rs) f).0)
    low_head r below s rs f e up = let l : m < s.component = subst (IsBelowBlock m) e below in let k = f.within.1 in absurd (omega (arith, l, k, up))

    -- the upper block of a falling list is zero exactly where its head, if it has one, stands below
    pub upper_block : (r : List VTerm) → IsFalling p n (m + c) o r → ((w : List (Polynomial p n)) × (vector_of p n (m + c) r ≡ zero_vector p n m ++ w)) ↔ IsBelowBlock m r
    upper_block r f = (
      λ w. head_below r f w.0 w.1,
      λ b. (drop m (vector_of p n (m + c) r), below_of_upper p n o m c (vector_of p n (m + c) r) (length_vector p n (m + c) r) (upper_of_rest p n o m c r f (low_head r b))),
    )

-- a vector has at most one head
module _ (p : Prime) (n : ℕ) (o : Order) where
  pub head_unique : (v : List (Polynomial p n)) (i j : ℕ) (a b : List ℕ) → IsHead p n o v i a → IsHead p n o v j b → (i ≡ j) × (a ≡ b)
  head_unique v i j a b hd hd' =
      let h = head_to p n (length v) o v refl i a hd in
      let h' = head_to p n (length v) o v refl j b hd' in
      let e = head_one (space p n (length v) o) h.3 h'.3 in
      let level : length v - i ≡ length v - j = ap (λ z. z.0) e in
      let x = h.1 in
      let y = h'.1 in
      (omega (arith, level, x, y), ap (λ z. z.1.exponents) e)
