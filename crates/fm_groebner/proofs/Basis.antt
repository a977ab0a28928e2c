-- Gröbner bases: the criterion for families, membership, standard representations and elimination.
use Rattle.std.proofs.Common.{◌≡◌, ◌⊎◌, ◌↔◌, inl, inr, refl, sym, ap, ◌∙◌, subst}
use mathlib.Core.WellFounded.{Acc}
use Rattle.fm_groebner.proofs.Setting.{Setting, below, same, above, Vect, lin_zero, lin_gen, lin_comb, shift, Family, Multiple, Representation, Anywhere, Span, IsHead, IsNil, IsMonic, Divides, IsGroebner, Reduces, done, step, Good, IsFinite}
use Rattle.fm_groebner.proofs.Differences.{uncut, uncut_diff, diff_self, diff_back, diff_forth, skip_zero, cut_at_one}
use Rattle.fm_groebner.proofs.Span.{lin_bind, less_asym, not_less_of_same, rep_member, rep_mono, rep_of_span, head_one, span_shift, head_of_finite, finite_of_span}
use Rattle.fm_groebner.proofs.Buchberger.{multiple_head, multiple_above, groebner_of_good}

module _ (S : Setting) where
  open S use {Place, Monomial, ◌·◌, ◌•◌, Less}
  open S.ring use {Carrier, zero as 𝟘, one as 𝟙, add as ◌⊕◌, mul as ◌⊗◌, neg}

  infixl 60 ◌⊕◌
  infixl 70 ◌⊗◌
  infixl 70 ◌·◌
  infixr 65 ◌•◌
  module _ {G : Family S} {A : Vect S → Type 0} where
    -- a monic family in which all pairs are good is a Gröbner basis of what it spans
    pub groebner_of_good_pairs : IsMonic S G → ((g : Vect S) (h : Place) (g' : Vect S) (h' : Place) → G g h → G g' h' → Good S G g h g' h')
        → ((g : Vect S) (h : Place) → G g h → Span S A g) → ((g : Vect S) → A g → Representation S G (Anywhere S) g) → IsGroebner S G A
    groebner_of_good_pairs monic good members covered = record { members = members; heads = heads }
      where
        heads : (v : Vect S) (a : Place) → Span S A v → IsHead S v a → Divides S G a
        heads v a s p = elim (groebner_of_good S monic good v (rep_of_span S covered s)) [
          | inl z ↦ absurd (p.0 (z a))
          | inr t ↦ subst (Divides S G) (head_one S t.1 p) t.2
        ]

    pub reduces_span : ((g : Vect S) (h : Place) → G g h → Span S A g) → {v r : Vect S} → Reduces S G v r → Span S A (λ b. neg 𝟙 ⊗ r b ⊕ v b)
    reduces_span members (done {v = v} {r = r} e) = lin_zero (λ b. ap (λ x. neg 𝟙 ⊗ x ⊕ v b) (sym (e b)) ∙ diff_self S.laws (v b))
    reduces_span members (step {v = v} {v' = v'} {r = r} c m g h i nz e s) = lin_comb c (span_shift S m (members g h i)) (reduces_span members s)
        (λ b. uncut_diff S.laws c (shift S m g b) (r b) (v b) ∙ ap (λ x. c ⊗ shift S m g b ⊕ (neg 𝟙 ⊗ r b ⊕ x)) (sym (e b)))

    pub span_of_rest : ((g : Vect S) (h : Place) → G g h → Span S A g) → {v r : Vect S} → Reduces S G v r → Span S A r → Span S A v
    span_of_rest members {v} {r} red s = lin_comb 𝟙 (reduces_span members red) s (λ b. diff_forth S.laws (r b) (v b))

    pub rest_of_span : ((g : Vect S) (h : Place) → G g h → Span S A g) → {v r : Vect S} → Reduces S G v r → Span S A v → Span S A r
    rest_of_span members {v} {r} red s = lin_comb (neg 𝟙) (reduces_span members red) s (λ b. diff_back S.laws (r b) (v b))

    -- an irreducible rest is zero exactly where the vector lies in the span
    pub member_iff : IsGroebner S G A → {v r : Vect S} → Reduces S G v r → (IsNil S r ⊎ ((a : Place) × IsHead S r a × ¬ (Divides S G a))) → Span S A v ↔ IsNil S r
    member_iff basis {v} {r} red end = (forth end, λ z. span_of_rest basis.members red (lin_zero z))
      where
        forth : (IsNil S r ⊎ ((a : Place) × IsHead S r a × ¬ (Divides S G a))) → Span S A v → IsNil S r
        forth (inl z) s = z
        forth (inr t) s = absurd (t.2 (basis.heads r t.0 (rest_of_span basis.members red s) t.1))

  -- the members that are zero in a block of places
  abbrev pub LowMembers : Family S → (Place → Type 0) → Vect S → Type 0
  LowMembers G Upper g = (h : Place) × G g h × ((b : Place) → Upper b → g b ≡ 𝟘)

  -- ---- standard representations with respect to a basis
  module _ {G : Family S} {A : Vect S → Type 0} (monic : IsMonic S G) (basis : IsGroebner S G A) (finite : (g : Vect S) → A g → IsFinite S g) where
    cut_head : (v : Vect S) (a : Place) → Span S A v → IsHead S v a → Divides S G a → ((b : Place) → Less b a → (u : Vect S) → Span S A u → IsHead S u b → Representation S G (λ c. ¬ (Less b c)) u)
        → Representation S G (λ c. ¬ (Less a c)) v
    cut_head v a s p d ih = lin_comb (v a) (rep_member S d.by d.member d.at d.in_G (not_less_of_same S (sym d.is))) rest (λ b. uncut S.laws (v a) (shift S d.by d.member b) (v b))
      where
        u : Vect S
        u b = neg (v a) ⊗ shift S d.by d.member b ⊕ v b

        in_span : Span S A u
        in_span = lin_comb (neg (v a)) (span_shift S d.by (basis.members d.member d.at d.in_G)) s (λ b. refl)

        high : (b : Place) → ¬ (Less b a) → u b ≡ 𝟘
        high b n = elim (S.compared b a) [
          | below l ↦ absurd (n l)
          | same e ↦ ap (λ x. neg (v a) ⊗ shift S d.by d.member x ⊕ v x) e ∙ cut_at_one S.laws (v a) (shift S d.by d.member a) (ap (shift S d.by d.member) (sym d.is) ∙ multiple_head S monic d.member d.at d.in_G d.by)
          | above l ↦ skip_zero S.laws (neg (v a)) (shift S d.by d.member b) (v b) (multiple_above S monic d.member d.at d.in_G d.by b (subst (λ z. Less z b) (sym d.is) l)) ∙ p.1 b l
        ]

        head_below : (b : Place) → IsHead S u b → Less b a
        head_below b q = elim (S.compared b a) [
          | below l ↦ l
          | same e ↦ absurd (q.0 (high b (not_less_of_same S e)))
          | above l ↦ absurd (q.0 (high b (less_asym S l)))
        ]

        rest : Representation S G (λ c. ¬ (Less a c)) u
        rest = elim (head_of_finite S (finite_of_span S finite in_span)) [
          | inl z ↦ lin_zero z
          | inr t ↦ rep_mono S (λ c n l. n (S.less_trans (head_below t.0 t.1) l)) (ih t.0 (head_below t.0 t.1) u in_span t.1)
        ]

    standard_at : (a : Place) → Acc Less a → (v : Vect S) → Span S A v → IsHead S v a → Representation S G (λ c. ¬ (Less a c)) v
    standard_at a (Acc.intro a' h) = λ v s p. cut_head v a s p (basis.heads v a s p) (λ b l. standard_at b (h b l))

    -- each vector of the span is a sum of multiples of members with heads up to its own
    pub standard_rep : (a : Place) (v : Vect S) → Span S A v → IsHead S v a → Representation S G (λ c. ¬ (Less a c)) v
    standard_rep a = standard_at a (S.founded a)

    -- where the places of a block are above all others: the vectors of the span that are zero there are spanned by the members that are
    module _ (Upper : Place → Type 0) (dec : (b : Place) → Dec (Upper b)) (low_less : (a b : Place) → ¬ (Upper a) → Upper b → Less a b) (upper_of : (m : Monomial) (x : Place) → Upper x → Upper (m • x)) where
      lower_multiple : (a : Place) → ¬ (Upper a) → (u : Vect S) → Multiple S G (λ c. ¬ (Less a c)) u → Span S (LowMembers G Upper) u
      lower_multiple a n u t = lin_gen (record { by = t.by; member = t.member; in_A = (t.at, t.in_G, zero_above); is = t.is })
        where
          low_head : ¬ (Upper t.at)
          low_head = λ w. t.in_P (low_less a (t.by • t.at) n (upper_of t.by t.at w))

          zero_above : (b : Place) → Upper b → t.member b ≡ 𝟘
          zero_above b w = (monic t.member t.at t.in_G).1 b (low_less t.at b low_head w)

      pub eliminate : (v : Vect S) → Span S A v → ((b : Place) → Upper b → v b ≡ 𝟘) → Span S (LowMembers G Upper) v
      eliminate v s low = elim (head_of_finite S (finite_of_span S finite s)) [
        | inl z ↦ lin_zero z
        | inr t ↦ lin_bind S (lower_multiple t.0 (λ w. t.1.0 (low t.0 w))) (standard_rep t.0 v s t.1)
      ]
