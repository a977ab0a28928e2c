-- Buchberger's criterion for submodules, without the product criterion and with the chain criterion.
use Rattle.std.proofs.Common.{◌≡◌, ◌⊎◌, inl, inr, refl, sym, ap, ap₂, ◌∙◌, subst}
use mathlib.Core.WellFounded.{Acc}
use Rattle.fm_groebner.proofs.Setting.{Setting, below, same, above, Vect, lin_zero, lin_gen, lin_comb, shift, Family, Multiple, Representation, Low, Anywhere, IsHead, IsNil, IsMonic, Divides, Reduces, done, step, IsLcm, Good}
use Rattle.fm_groebner.proofs.Differences.{cut_linear, cut_none, diff_chain, diff_sym, diff_self, uncut, skip_zero, scale_only}
use Rattle.fm_groebner.proofs.Span.{IsLinear, lin_map, lin_vanish, lin_nil, lin_eq, less_asym, less_of_at, less_of_not_less, not_less_of_same, IsSegment, below_segment, up_to_segment, place_in, shift_view, shift_at, shift_shift, shift_linear, rep_shift, rep_member, rep_top, rep_split}

module _ (S : Setting) where
  open S use {Place, Monomial, ◌·◌, ◌•◌, Less}
  open S.ring use {Carrier, zero as 𝟘, one as 𝟙, add as ◌⊕◌, mul as ◌⊗◌, neg}

  infixl 60 ◌⊕◌
  infixl 70 ◌⊗◌
  infixl 70 ◌·◌
  infixr 65 ◌•◌
  module _ {G : Family S} (monic : IsMonic S G) where
    -- a multiple of a member is monic at its head and zero above it
    pub multiple_head : (g : Vect S) (h : Place) → G g h → (m : Monomial) → shift S m g (m • h) ≡ 𝟙
    multiple_head g h i m = shift_at S m g h ∙ (monic g h i).0

    pub multiple_above : (g : Vect S) (h : Place) → G g h → (m : Monomial) (b : Place) → Less (m • h) b → shift S m g b ≡ 𝟘
    multiple_above g h i m b l = elim (shift_view S m b) [
      | inl p ↦ p.2 g ∙ (monic g h i).1 p.0 (less_of_at S m h p.0 (subst (λ z. Less (m • h) z) (sym p.1) l))
      | inr p ↦ p.1 g
    ]

    -- a sum of multiples vanishes where each of their heads is below
    pub rep_above : {P : Place → Type 0} (b : Place) → ((c : Place) → P c → Less c b) → {v : Vect S} → Representation S G P v → v b ≡ 𝟘
    rep_above b f = lin_vanish S b (λ u s. s.is b ∙ multiple_above s.member s.at s.in_G s.by b (f (s.by • s.at) s.in_P))

    -- a multiple with head a takes a sum of multiples with heads up to a to one with heads below a
    pub rep_cut : ((g : Vect S) (h : Place) (g' : Vect S) (h' : Place) → G g h → G g' h' → Good S G g h g' h') → {a : Place} (d : Divides S G a) {v : Vect S}
        → Representation S G (λ c. ¬ (Less a c)) v → Low S G a (λ b. neg (v a) ⊗ shift S d.by d.member b ⊕ v b)
    rep_cut good {a} d = lin_map S (λ v b. neg (v a) ⊗ shift S d.by d.member b ⊕ v b) linear gens
      where
        s : Vect S
        s = shift S d.by d.member

        linear : IsLinear S (λ v b. neg (v a) ⊗ s b ⊕ v b)
        linear = record {
          on_zero = λ v e b. cut_none S.laws (v b) (v a) (s b) (e a) ∙ e b;
          on_comb = λ c u w v e b. ap₂ (λ x y. neg x ⊗ s b ⊕ y) (e a) (e b) ∙ cut_linear S.laws c (u b) (u a) (w b) (w a) (s b);
        }

        gens : (u : Vect S) → Multiple S G (λ c. ¬ (Less a c)) u → Low S G a (λ b. neg (u a) ⊗ s b ⊕ u b)
        gens u t = elim (S.compared (t.by • t.at) a) [
          | below l ↦ lin_eq S (lin_gen (record { by = t.by; member = t.member; at = t.at; in_G = t.in_G; in_P = l; is = t.is }))
              (λ b. cut_none S.laws (u b) (u a) (s b) (t.is a ∙ multiple_above t.member t.at t.in_G t.by a l))
          | same e ↦ lin_eq S (subst (λ z. Low S G z (λ b. neg 𝟙 ⊗ shift S d.by d.member b ⊕ shift S t.by t.member b)) e (good t.member t.at d.member d.at t.in_G d.in_G t.by d.by (e ∙ sym d.is)))
              (λ b. ap₂ (λ x y. neg x ⊗ s b ⊕ y) (t.is a ∙ ap (shift S t.by t.member) (sym e) ∙ multiple_head t.member t.at t.in_G t.by) (t.is b))
          | above l ↦ absurd (t.in_P l)
        ]

    Found : Vect S → Type 0
    Found v = IsNil S v ⊎ ((a : Place) × IsHead S v a × Divides S G a)

    from_low : {a : Place} → ((b : Place) → Less b a → (v : Vect S) → Representation S G (λ c. ¬ (Less b c)) v → Found v) → (v : Vect S) → Low S G a v → Found v
    unfolding Found
    from_low ih v low = elim (rep_top S low) [ inl z ↦ inl z | inr t ↦ ih t.0 t.1 v t.2 ]

    found_eq : {u v : Vect S} → ((b : Place) → v b ≡ u b) → Found u → Found v
    unfolding Found
    found_eq e (inl z) = inl (λ b. e b ∙ z b)
    found_eq e (inr t) = inr (t.0, (λ k. t.1.0 (sym (e t.0) ∙ k), λ b l. e b ∙ t.1.1 b l), t.2)

    module _ (good : (g : Vect S) (h : Place) (g' : Vect S) (h' : Place) → G g h → G g' h' → Good S G g h g' h') where
      turn : (a : Place) → ((b : Place) → Less b a → (v : Vect S) → Representation S G (λ c. ¬ (Less b c)) v → Found v) → (v : Vect S)
          → Representation S G (λ c. ¬ (Less a c)) v → Found v
      unfolding Found
      turn a ih v r = elim (rep_split S r) [
        | inl low ↦ from_low ih v low
        | inr d ↦ elim (S.is_zero (v a)) [
          | yes e ↦ found_eq (λ b. sym (cut_none S.laws (v b) (v a) (shift S d.by d.member b) e)) (from_low ih _ (rep_cut good d r))
          | no ne ↦ inr (a, (ne, λ b l. rep_above b (λ c n. less_of_not_less S n l) r), d)
        ]
      ]

      climb : (a : Place) → Acc Less a → (v : Vect S) → Representation S G (λ c. ¬ (Less a c)) v → Found v
      climb a (Acc.intro a' h) = turn a (λ b l. climb b (h b l))

      -- where all pairs are good, the head of each sum of multiples of members is divisible by a member's head
      pub groebner_of_good : (v : Vect S) → Representation S G (Anywhere S) v → IsNil S v ⊎ ((a : Place) × IsHead S v a × Divides S G a)
      unfolding Found
      groebner_of_good v r = elim (rep_top S r) [ inl z ↦ inl z | inr t ↦ climb t.0 (S.founded t.0) v t.2 ]

  -- ---- good pairs
  -- what divides the least common multiple of two heads divides each common multiple
  pub divides_common : {h h' l : Place} {s t d : Monomial} → IsLcm S h h' s t → d • l ≡ s • h → (m n : Monomial) → m • h ≡ n • h' → (i : Monomial) × (i • l ≡ m • h)
  divides_common {h} {h'} {l} {s} {t} {d} lcm e m n f = with_cofactor (lcm.least m n f)
    where
      with_cofactor : ((u : Monomial) × (m ≡ u · s) × (n ≡ u · t)) → (i : Monomial) × (i • l ≡ m • h)
      with_cofactor p = (p.0 · d, S.at_at p.0 d l ∙ ap (λ z. p.0 • z) e ∙ sym (S.at_at p.0 s h) ∙ ap (λ z. z • h) (sym p.1))

  module _ {G : Family S} where
    pub good_self : (g : Vect S) (h : Place) → Good S G g h g h
    good_self g h m n e = lin_zero (λ b. ap (λ z. neg 𝟙 ⊗ shift S z g b ⊕ shift S m g b) (sym (S.free m n h e)) ∙ diff_self S.laws (shift S m g b))

    pub good_sym : (g : Vect S) (h : Place) (g' : Vect S) (h' : Place) → Good S G g h g' h' → Good S G g' h' g h
    good_sym g h g' h' good m n e = lin_comb (neg 𝟙) (subst (λ z. Low S G z (λ b. neg 𝟙 ⊗ shift S m g' b ⊕ shift S n g b)) (sym e) (good n m (sym e))) (lin_nil S)
        (λ b. diff_sym S.laws (shift S n g b) (shift S m g' b))

    -- heads without a common multiple
    pub good_apart : (g : Vect S) (h : Place) (g' : Vect S) (h' : Place) → ((m n : Monomial) → ¬ (m • h ≡ n • h')) → Good S G g h g' h'
    good_apart g h g' h' apart m n e = absurd (apart m n e)

    -- the chain criterion
    pub good_chain : (g : Vect S) (h : Place) (g' : Vect S) (h' : Place) (k : Vect S) (l : Place) → ((m n : Monomial) → m • h ≡ n • h' → (i : Monomial) × (i • l ≡ m • h))
        → Good S G g h k l → Good S G k l g' h' → Good S G g h g' h'
    good_chain g h g' h' k l divides left right m n e = chain (divides m n e)
      where
        chain : ((i : Monomial) × (i • l ≡ m • h)) → Low S G (m • h) (λ b. neg 𝟙 ⊗ shift S n g' b ⊕ shift S m g b)
        chain p = lin_comb 𝟙 (left m p.0 (sym p.1)) (subst (λ z. Low S G z (λ b. neg 𝟙 ⊗ shift S n g' b ⊕ shift S p.0 k b)) p.1 (right p.0 n (p.1 ∙ e)))
            (λ b. diff_chain S.laws (shift S m g b) (shift S n g' b) (shift S p.0 k b))

    -- the S-vector decides for each common multiple
    pub good_of_lcm : (g : Vect S) (h : Place) (g' : Vect S) (h' : Place) (s t : Monomial) → IsLcm S h h' s t
        → Low S G (s • h) (λ b. neg 𝟙 ⊗ shift S t g' b ⊕ shift S s g b) → Good S G g h g' h'
    good_of_lcm g h g' h' s t lcm low m n e = multiple (lcm.least m n e)
      where
        multiple : ((u : Monomial) × (m ≡ u · s) × (n ≡ u · t)) → Low S G (m • h) (λ b. neg 𝟙 ⊗ shift S n g' b ⊕ shift S m g b)
        multiple p = lin_eq S (rep_shift S p.0 (λ b l. subst (λ z. Less (p.0 • b) z) (sym (S.at_at p.0 s h) ∙ ap (λ z. z • h) (sym p.1)) (S.less_at p.0 l)) low)
            (λ b. ap₂ (λ x y. neg 𝟙 ⊗ shift S x g' b ⊕ shift S y g b) p.2 p.1
            ∙ ap₂ (λ x y. neg 𝟙 ⊗ x ⊕ y) (sym (shift_shift S p.0 t g' b)) (sym (shift_shift S p.0 s g b))
            ∙ sym ((shift_linear S p.0).on_comb (neg 𝟙) (shift S t g') (shift S s g) (λ c. neg 𝟙 ⊗ shift S t g' c ⊕ shift S s g c) (λ c. refl) b))

  -- ---- reduction
  module _ {G : Family S} (monic : IsMonic S G) where
    -- one reduction keeps what is zero outside a segment so
    step_in : {P : Place → Type 0} → IsSegment S P → (v v' : Vect S) (c : Carrier) (m : Monomial) (g : Vect S) (h : Place) → G g h → ¬ (v (m • h) ≡ 𝟘)
        → ((b : Place) → v' b ≡ neg c ⊗ shift S m g b ⊕ v b) → ((b : Place) → ¬ (P b) → v b ≡ 𝟘) → (b : Place) → ¬ (P b) → v' b ≡ 𝟘
    step_in {P} seg v v' c m g h i nz e outside b n = elim (S.compared b (m • h)) [
      | below l ↦ absurd (n (seg.down l inside))
      | same p ↦ absurd (n (subst P (sym p) inside))
      | above l ↦ e b ∙ skip_zero S.laws (neg c) (shift S m g b) (v b) (multiple_above monic g h i m b l) ∙ outside b n
    ]
      where
        inside : P (m • h)
        inside = place_in S seg v outside (m • h) nz

    pub reduces_in : {P : Place → Type 0} → IsSegment S P → {v r : Vect S} → Reduces S G v r → ((b : Place) → ¬ (P b) → v b ≡ 𝟘) → (b : Place) → ¬ (P b) → r b ≡ 𝟘
    reduces_in seg (done e) outside = λ b n. sym (e b) ∙ outside b n
    reduces_in seg (step {v = v} {v' = v'} c m g h i nz e s) outside = reduces_in seg s (step_in seg v v' c m g h i nz e outside)

    -- what reduces to a sum of multiples is one, with heads in the same segment
    pub reduces_rep : {H : Family S} {P : Place → Type 0} → IsSegment S P → ((g : Vect S) (h : Place) → G g h → H g h) → {v r : Vect S} → Reduces S G v r
        → ((b : Place) → ¬ (P b) → v b ≡ 𝟘) → Representation S H P r → Representation S H P v
    reduces_rep seg more (done e) outside rep = lin_eq S rep e
    reduces_rep seg more (step {v = v} {v' = v'} c m g h i nz e s) outside rep =
        lin_comb c (rep_member S m g h (more g h i) (place_in S seg v outside (m • h) nz)) (reduces_rep seg more s (step_in seg v v' c m g h i nz e outside) rep)
        (λ b. uncut S.laws c (shift S m g b) (v b) ∙ ap (λ x. c ⊗ shift S m g b ⊕ x) (sym (e b)))

    -- what reduces to zero has a standard representation
    pub standard_of_reduces : {v r : Vect S} {a : Place} → IsHead S v a → Reduces S G v r → IsNil S r → Representation S G (λ b. ¬ (Less a b)) v
    standard_of_reduces {v} {r} {a} p s z = reduces_rep (up_to_segment S a) (λ g h i. i) s outside (lin_zero z)
      where
        outside : (b : Place) → ¬ (¬ (Less a b)) → v b ≡ 𝟘
        outside b nn = elim ((up_to_segment S a).dec b) [
          | yes n ↦ absurd (nn n)
          | no n' ↦ elim (S.compared a b) [
            | below l ↦ p.1 b l
            | same e ↦ absurd (nn (not_less_of_same S e))
            | above l ↦ absurd (nn (λ k. less_asym S l k))
          ]
        ]

    -- the S-vector is zero at each place that is not below the common multiple
    pub s_vector_below : (g : Vect S) (h : Place) (g' : Vect S) (h' : Place) (s t : Monomial) → G g h → G g' h' → s • h ≡ t • h'
        → (b : Place) → ¬ (Less b (s • h)) → neg 𝟙 ⊗ shift S t g' b ⊕ shift S s g b ≡ 𝟘
    s_vector_below g h g' h' s t i i' e b n = elim (S.compared b (s • h)) [
      | below l ↦ absurd (n l)
      | same p ↦ ap₂ (λ x y. neg 𝟙 ⊗ x ⊕ y) (ap (shift S t g') (p ∙ e) ∙ multiple_head monic g' h' i' t) (ap (shift S s g) p ∙ multiple_head monic g h i s) ∙ diff_self S.laws 𝟙
      | above l ↦ skip_zero S.laws (neg 𝟙) (shift S t g' b) (shift S s g b) (multiple_above monic g' h' i' t b (subst (λ z. Less z b) e l)) ∙ multiple_above monic g h i s b l
    ]

    pub good_of_reduces : {H : Family S} → ((g : Vect S) (h : Place) → G g h → H g h) → (g : Vect S) (h : Place) (g' : Vect S) (h' : Place) (s t : Monomial) (r : Vect S)
        → G g h → G g' h' → IsLcm S h h' s t → Reduces S G (λ b. neg 𝟙 ⊗ shift S t g' b ⊕ shift S s g b) r → Low S H (s • h) r → Good S H g h g' h'
    good_of_reduces more g h g' h' s t r i i' lcm red low = good_of_lcm g h g' h' s t lcm
        (reduces_rep (below_segment S (s • h)) more red (s_vector_below g h g' h' s t i i' lcm.meets) low)

  pub low_of_kept : {G : Family S} (g : Vect S) (h : Place) → G g h → (a : Place) → Less h a → (c : Carrier) (r : Vect S) → ((b : Place) → r b ≡ c ⊗ g b) → Low S G a r
  low_of_kept {G} g h i a l c r e = lin_comb c (rep_member S S.one g h i (subst (λ z. Less z a) (sym (S.one_at h)) l)) (lin_nil S)
      (λ b. scale_only S.laws c (shift S S.one g b) (r b) (e b ∙ ap (λ x. c ⊗ x) (sym (shift_at S S.one g b) ∙ ap (shift S S.one g) (S.one_at b))))
