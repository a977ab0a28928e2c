-- Linear spans, multiples by monomials, heads.
use Rattle.std.proofs.Common.{◌≡◌, ◌⊎◌, inl, inr, List, [], ◌∷◌, ◌++◌, map, Option, Some, None, refl, sym, ap, ap₂, ◌∙◌, subst}
use mathlib.Core.WellFounded.{Acc}
use Rattle.fm_groebner.proofs.Setting.{Setting, below, same, above, In, here, there, in_left, in_right, in_map, Vect, Lin, lin_zero, lin_gen, lin_comb, at_quotient, shift, Family, Representation, Low, Anywhere, Span, IsHead, IsNil, Divides, IsFinite}
use Rattle.fm_groebner.proofs.Differences.{comb_zero, comb_one}

module _ (S : Setting) where
  open S use {Place, Monomial, ◌·◌, ◌•◌, Less, quotient}
  open S.ring use {Carrier, zero as 𝟘, one as 𝟙, add as ◌⊕◌, mul as ◌⊗◌, neg}

  infixl 60 ◌⊕◌
  infixl 70 ◌⊗◌
  infixl 70 ◌·◌
  infixr 65 ◌•◌
  -- a linear map of vectors
  pub record IsLinear (φ : Vect S → Vect S) : Type 0 where
    pub on_zero : (v : Vect S) → IsNil S v → IsNil S (φ v)
    pub on_comb : (c : Carrier) (u w v : Vect S) → ((b : Place) → v b ≡ c ⊗ u b ⊕ w b) → (b : Place) → φ v b ≡ c ⊗ φ u b ⊕ φ w b

  pub lin_map : (φ : Vect S → Vect S) → IsLinear φ → {A B : Vect S → Type 0} → ((u : Vect S) → A u → Lin S B (φ u)) → {v : Vect S} → Lin S A v → Lin S B (φ v)
  lin_map φ lin gens (lin_zero {v = v} z) = lin_zero (lin.on_zero v z)
  lin_map φ lin gens (lin_gen {v = v} g) = gens v g
  lin_map φ lin gens (lin_comb {u = u} {w = w} {v = v} c p q e) = lin_comb c (lin_map φ lin gens p) (lin_map φ lin gens q) (lin.on_comb c u w v e)

  identity_linear : IsLinear (λ v. v)
  identity_linear = record { on_zero = λ v z. z; on_comb = λ c u w v e. e }

  pub lin_bind : {A B : Vect S → Type 0} → ((u : Vect S) → A u → Lin S B u) → {v : Vect S} → Lin S A v → Lin S B v
  lin_bind gens p = lin_map (λ v. v) identity_linear gens p

  pub lin_mono : {A B : Vect S → Type 0} → ((u : Vect S) → A u → B u) → {v : Vect S} → Lin S A v → Lin S B v
  lin_mono f p = lin_bind (λ u a. lin_gen (f u a)) p

  -- what all generators satisfy at a place: to vanish there
  pub lin_vanish : {A : Vect S → Type 0} (b : Place) → ((u : Vect S) → A u → u b ≡ 𝟘) → {v : Vect S} → Lin S A v → v b ≡ 𝟘
  lin_vanish b f (lin_zero z) = z b
  lin_vanish b f (lin_gen {v = v} g) = f v g
  lin_vanish b f (lin_comb {u = u} {w = w} {v = v} c p q e) = e b ∙ comb_zero S.laws c (u b) (w b) (lin_vanish b f p) (lin_vanish b f q)

  pub lin_nil : {A : Vect S → Type 0} → Lin S A (λ b. 𝟘)
  lin_nil = lin_zero (λ b. refl)

  pub lin_eq : {A : Vect S → Type 0} {u v : Vect S} → Lin S A u → ((b : Place) → v b ≡ u b) → Lin S A v
  lin_eq {A} {u} {v} p e = lin_comb {w = λ b. 𝟘} 𝟙 p lin_nil (λ b. comb_one S.laws (u b) (v b) (e b))

  -- ---- the order
  irrefl_at : (a : Place) → Acc Less a → ¬ (Less a a)
  irrefl_at a (Acc.intro a' h) = λ l. irrefl_at a (h a l) l

  pub less_irrefl : (a : Place) → ¬ (Less a a)
  less_irrefl a = irrefl_at a (S.founded a)

  pub less_asym : {a b : Place} → Less a b → ¬ (Less b a)
  less_asym {a} {b} l k = less_irrefl a (S.less_trans l k)

  pub at_injective : (m : Monomial) (x y : Place) → m • x ≡ m • y → x ≡ y
  at_injective m x y e = elim (S.compared x y) [
    | below l ↦ absurd (less_irrefl (m • y) (subst (λ z. Less z (m • y)) e (S.less_at m l)))
    | same p ↦ p
    | above l ↦ absurd (less_irrefl (m • y) (subst (λ z. Less (m • y) z) e (S.less_at m l)))
  ]

  pub less_of_at : (m : Monomial) (x y : Place) → Less (m • x) (m • y) → Less x y
  less_of_at m x y l = elim (S.compared x y) [
    | below k ↦ k
    | same p ↦ absurd (less_irrefl (m • y) (subst (λ z. Less (m • z) (m • y)) p l))
    | above k ↦ absurd (less_asym l (S.less_at m k))
  ]

  pub less_of_not_less : {a b c : Place} → ¬ (Less a c) → Less a b → Less c b
  less_of_not_less {a} {b} {c} n l = elim (S.compared a c) [
    | below k ↦ absurd (n k)
    | same p ↦ subst (λ z. Less z b) p l
    | above k ↦ S.less_trans k l
  ]

  pub not_less_of_same : {a b : Place} → a ≡ b → ¬ (Less a b)
  not_less_of_same {a} {b} e l = less_irrefl b (subst (λ z. Less z b) e l)

  -- a set of places that has with each place all smaller ones
  pub record IsSegment (P : Place → Type 0) : Type 0 where
    pub dec : (b : Place) → Dec (P b)
    pub down : {a b : Place} → Less a b → P b → P a

  below_dec : (a b : Place) → Dec (Less b a)
  below_dec a b = elim (S.compared b a) [
    | below l ↦ yes l
    | same e ↦ no (not_less_of_same e)
    | above l ↦ no (less_asym l)
  ]

  pub below_segment : (a : Place) → IsSegment (λ b. Less b a)
  below_segment a = record { dec = below_dec a; down = λ l k. S.less_trans l k }

  up_to_dec : (a b : Place) → Dec (¬ (Less a b))
  up_to_dec a b = elim (below_dec b a) [ yes l ↦ no (λ n. n l) | no n ↦ yes n ]

  pub up_to_segment : (a : Place) → IsSegment (λ b. ¬ (Less a b))
  up_to_segment a = record { dec = up_to_dec a; down = λ l n k. n (S.less_trans k l) }

  pub all_segment : IsSegment (Anywhere S)
  all_segment = record { dec = λ b. yes tt; down = λ l k. tt }

  pub place_in : {P : Place → Type 0} → IsSegment P → (v : Vect S) → ((b : Place) → ¬ (P b) → v b ≡ 𝟘) → (b : Place) → ¬ (v b ≡ 𝟘) → P b
  place_in seg v outside b nz = elim (seg.dec b) [ yes p ↦ p | no n ↦ absurd (nz (outside b n)) ]

  -- ---- multiples by monomials
  pub shift_view : (m : Monomial) (b : Place)
      → ((x : Place) × (m • x ≡ b) × ((v : Vect S) → shift S m v b ≡ v x)) ⊎ (((x : Place) → ¬ (m • x ≡ b)) × ((v : Vect S) → shift S m v b ≡ 𝟘))
  unfolding shift
  shift_view m b = view (quotient m b) refl
    where
      view : (o : Option Place) → quotient m b ≡ o
          → ((x : Place) × (m • x ≡ b) × ((v : Vect S) → at_quotient S v o ≡ v x)) ⊎ (((x : Place) → ¬ (m • x ≡ b)) × ((v : Vect S) → at_quotient S v o ≡ 𝟘))
      view (Some x) e = inl (x, S.quotient_is m b x e, λ v. refl)
      view None e = inr ((λ x p. cc (S.quotient_at m x, e, p)), λ v. refl)

  pub shift_at : (m : Monomial) (v : Vect S) (x : Place) → shift S m v (m • x) ≡ v x
  shift_at m v x = elim (shift_view m (m • x)) [
    | inl p ↦ p.2 v ∙ ap v (at_injective m p.0 x p.1)
    | inr p ↦ absurd (p.0 x refl)
  ]

  pub shift_off : (m : Monomial) (v : Vect S) (b : Place) → ((x : Place) → ¬ (m • x ≡ b)) → shift S m v b ≡ 𝟘
  shift_off m v b n = elim (shift_view m b) [
    | inl p ↦ absurd (n p.0 p.1)
    | inr p ↦ p.1 v
  ]

  pub shift_eq : (m : Monomial) (u v : Vect S) → ((b : Place) → u b ≡ v b) → (b : Place) → shift S m u b ≡ shift S m v b
  shift_eq m u v e b = elim (shift_view m b) [
    | inl p ↦ p.2 u ∙ e p.0 ∙ sym (p.2 v)
    | inr p ↦ p.1 u ∙ sym (p.1 v)
  ]

  pub shift_shift : (m n : Monomial) (v : Vect S) (b : Place) → shift S m (shift S n v) b ≡ shift S (m · n) v b
  shift_shift m n v b = elim (shift_view m b) [
    | inl p ↦ p.2 (shift S n v) ∙ inner p.0 p.1 (shift_view n p.0)
    | inr p ↦ p.1 (shift S n v) ∙ sym (shift_off (m · n) v b (λ x e. p.0 (n • x) (sym (S.at_at m n x) ∙ e)))
  ]
    where
      inner : (x : Place) → m • x ≡ b
          → ((y : Place) × (n • y ≡ x) × ((u : Vect S) → shift S n u x ≡ u y)) ⊎ (((y : Place) → ¬ (n • y ≡ x)) × ((u : Vect S) → shift S n u x ≡ 𝟘))
          → shift S n v x ≡ shift S (m · n) v b
      inner x e (inl q) = q.2 v ∙ sym (shift_at (m · n) v q.0) ∙ ap (shift S (m · n) v) (S.at_at m n q.0 ∙ ap (λ z. m • z) q.1 ∙ e)
      inner x e (inr q) = q.1 v ∙ sym (shift_off (m · n) v b (λ y f. q.0 y (at_injective m (n • y) x (sym (S.at_at m n y) ∙ f ∙ sym e))))

  pub shift_one : (v : Vect S) (b : Place) → shift S S.one v b ≡ v b
  shift_one v b = ap (shift S S.one v) (sym (S.one_at b)) ∙ shift_at S.one v b

  pub shift_linear : (m : Monomial) → IsLinear (shift S m)
  shift_linear m = record {
    on_zero = λ v z b. elim (shift_view m b) [
      | inl p ↦ p.2 v ∙ z p.0
      | inr p ↦ p.1 v
    ];
    on_comb = λ c u w v e b. elim (shift_view m b) [
      | inl p ↦ p.2 v ∙ e p.0 ∙ sym (ap₂ (λ x y. c ⊗ x ⊕ y) (p.2 u) (p.2 w))
      | inr p ↦ p.1 v ∙ sym (comb_zero S.laws c (shift S m u b) (shift S m w b) (p.1 u) (p.1 w))
    ];
  }

  -- ---- sums of multiples of members
  module _ {G : Family S} where
    pub rep_shift : {P Q : Place → Type 0} (t : Monomial) → ((b : Place) → P b → Q (t • b)) → {v : Vect S} → Representation S G P v → Representation S G Q (shift S t v)
    rep_shift {P} {Q} t f = lin_map (shift S t) (shift_linear t) (λ u g. lin_gen (record {
      by = t · g.by;
      member = g.member;
      at = g.at;
      in_G = g.in_G;
      in_P = subst Q (sym (S.at_at t g.by g.at)) (f (g.by • g.at) g.in_P);
      is = λ b. shift_eq t u (shift S g.by g.member) g.is b ∙ shift_shift t g.by g.member b;
    }))

    pub rep_member : {P : Place → Type 0} (m : Monomial) (g : Vect S) (h : Place) → G g h → P (m • h) → Representation S G P (shift S m g)
    rep_member m g h i p = lin_gen (record { by = m; member = g; at = h; in_G = i; in_P = p; is = λ b. refl })

    pub rep_mono : {P Q : Place → Type 0} → ((b : Place) → P b → Q b) → {v : Vect S} → Representation S G P v → Representation S G Q v
    rep_mono f r = lin_mono (λ u g. record { by = g.by; member = g.member; at = g.at; in_G = g.in_G; in_P = f (g.by • g.at) g.in_P; is = g.is }) r

    pub rep_more : {H : Family S} {P : Place → Type 0} → ((g : Vect S) (h : Place) → G g h → H g h) → {v : Vect S} → Representation S G P v → Representation S H P v
    rep_more f r = lin_mono (λ u g. record { by = g.by; member = g.member; at = g.at; in_G = f g.member g.at g.in_G; in_P = g.in_P; is = g.is }) r

  -- v is zero, or a place in P is the greatest head of the multiples that v is a sum of
  Top : Family S → (Place → Type 0) → Vect S → Type 0
  Top G P v = IsNil S v ⊎ ((a : Place) × P a × Representation S G (λ c. ¬ (Less a c)) v)

  both_tops : (G : Family S) (P : Place → Type 0) (c : Carrier) (u w v : Vect S) → ((b : Place) → v b ≡ c ⊗ u b ⊕ w b) → Top G P u → Top G P w → Top G P v
  unfolding Top
  both_tops G P c u w v e (inl z) (inl y) = inl (λ b. e b ∙ comb_zero S.laws c (u b) (w b) (z b) (y b))
  both_tops G P c u w v e (inl z) (inr t) = inr (t.0, t.1, lin_comb c (lin_zero z) t.2 e)
  both_tops G P c u w v e (inr s) (inl y) = inr (s.0, s.1, lin_comb c s.2 (lin_zero y) e)
  both_tops G P c u w v e (inr s) (inr t) = elim (S.compared s.0 t.0) [
    | below l ↦ inr (t.0, t.1, lin_comb c (rep_mono (λ b n k. n (S.less_trans l k)) s.2) t.2 e)
    | same p ↦ inr (t.0, t.1, lin_comb c (rep_mono (λ b n k. n (subst (λ z. Less z b) (sym p) k)) s.2) t.2 e)
    | above l ↦ inr (s.0, s.1, lin_comb c s.2 (rep_mono (λ b n k. n (S.less_trans l k)) t.2) e)
  ]

  module _ {G : Family S} where
    top_of : {P : Place → Type 0} {v : Vect S} → Representation S G P v → Top G P v
    unfolding Top
    top_of (lin_zero z) = inl z
    top_of (lin_gen g) = inr (g.by • g.at, g.in_P, lin_gen (record { by = g.by; member = g.member; at = g.at; in_G = g.in_G; in_P = less_irrefl (g.by • g.at); is = g.is }))
    top_of {P} (lin_comb {u = u} {w = w} {v = v} c p q e) = both_tops G P c u w v e (top_of p) (top_of q)

    -- the greatest head of a sum of multiples
    pub rep_top : {P : Place → Type 0} {v : Vect S} → Representation S G P v → IsNil S v ⊎ ((a : Place) × P a × Representation S G (λ c. ¬ (Less a c)) v)
    unfolding Top
    rep_top r = top_of r

    either_divides : (a : Place) (c : Carrier) (u w v : Vect S) → ((b : Place) → v b ≡ c ⊗ u b ⊕ w b) → Low S G a u ⊎ Divides S G a → Low S G a w ⊎ Divides S G a → Low S G a v ⊎ Divides S G a
    either_divides a c u w v e (inl p) (inl q) = inl (lin_comb c p q e)
    either_divides a c u w v e (inl p) (inr d) = inr d
    either_divides a c u w v e (inr d) q = inr d

    -- with heads up to a: all heads are below a, or some member's head divides a
    pub rep_split : {a : Place} {v : Vect S} → Representation S G (λ c. ¬ (Less a c)) v → Low S G a v ⊎ Divides S G a
    rep_split (lin_zero z) = inl (lin_zero z)
    rep_split {a} (lin_gen g) = elim (S.compared (g.by • g.at) a) [
      | below l ↦ inl (lin_gen (record { by = g.by; member = g.member; at = g.at; in_G = g.in_G; in_P = l; is = g.is }))
      | same e ↦ inr (record { by = g.by; member = g.member; at = g.at; in_G = g.in_G; is = e })
      | above l ↦ absurd (g.in_P l)
    ]
    rep_split {a} (lin_comb {u = u} {w = w} {v = v} c p q e) = either_divides a c u w v e (rep_split p) (rep_split q)

  pub head_one : {v : Vect S} {a b : Place} → IsHead S v a → IsHead S v b → a ≡ b
  head_one {v} {a} {b} p q = elim (S.compared a b) [
    | below l ↦ absurd (q.0 (p.1 b l))
    | same e ↦ e
    | above l ↦ absurd (p.0 (q.1 a l))
  ]

  pub head_eq : {u v : Vect S} {a : Place} → ((b : Place) → v b ≡ u b) → IsHead S u a → IsHead S v a
  head_eq {u} {v} {a} e p = ((λ z. p.0 (sym (e a) ∙ z)), λ b l. e b ∙ p.1 b l)

  -- ---- the submodule that a set spans
  module _ {A : Vect S → Type 0} where
    pub span_member : {g : Vect S} → A g → Span S A g
    span_member {g} i = lin_gen (record { by = S.one; member = g; in_A = i; is = λ b. sym (shift_one g b) })

    pub span_shift : (m : Monomial) {v : Vect S} → Span S A v → Span S A (shift S m v)
    span_shift m = lin_map (shift S m) (shift_linear m) (λ u g. lin_gen (record {
      by = m · g.by;
      member = g.member;
      in_A = g.in_A;
      is = λ b. shift_eq m u (shift S g.by g.member) g.is b ∙ shift_shift m g.by g.member b;
    }))

    pub span_bind : {B : Vect S → Type 0} → ((g : Vect S) → B g → Span S A g) → {v : Vect S} → Span S B v → Span S A v
    span_bind f = lin_bind (λ u g. lin_eq (span_shift g.by (f g.member g.in_A)) g.is)

    pub span_of_rep : {G : Family S} {P : Place → Type 0} → ((g : Vect S) (h : Place) → G g h → Span S A g) → {v : Vect S} → Representation S G P v → Span S A v
    span_of_rep f = lin_bind (λ u g. lin_eq (span_shift g.by (f g.member g.at g.in_G)) g.is)

    pub rep_of_span : {G : Family S} → ((g : Vect S) → A g → Representation S G (Anywhere S) g) → {v : Vect S} → Span S A v → Representation S G (Anywhere S) v
    rep_of_span f = lin_bind (λ u g. lin_eq (rep_shift g.by (λ b t. tt) (f g.member g.in_A)) g.is)

  -- ---- finite vectors
  nonzero_head : (v : Vect S) (ps : List Place) → ((b : Place) → (v b ≡ 𝟘) ⊎ In ps b) → IsNil S v ⊎ ((a : Place) × IsHead S v a)
  nonzero_head v ps cover = finish (greatest ps)
    where
      -- the greatest place of a list at which v isn't zero
      Greatest : List Place → Type 0
      Greatest qs = ((b : Place) → In qs b → v b ≡ 𝟘) ⊎ ((a : Place) × ¬ (v a ≡ 𝟘) × ((b : Place) → In qs b → Less a b → v b ≡ 𝟘))

      at_here : {q : Place} {qs : List Place} (b : Place) {P : Place → Type 0} → P q → ((c : Place) → In qs c → P c) → In (q ∷ qs) b → P b
      at_here b p f here = p
      at_here b p f (there i) = f b i

      extend : (q : Place) (qs : List Place) → Dec (v q ≡ 𝟘) → Greatest qs → Greatest (q ∷ qs)
      extend q qs (yes z) (inl f) = inl (λ b i. at_here b {P = λ c. v c ≡ 𝟘} z f i)
      extend q qs (yes z) (inr t) = inr (t.0, t.1, λ b i. at_here b {P = λ c. Less t.0 c → v c ≡ 𝟘} (λ l. z) t.2 i)
      extend q qs (no n) (inl f) = inr (q, n, λ b i. at_here b {P = λ c. Less q c → v c ≡ 𝟘} (λ l. absurd (less_irrefl q l)) (λ c j l. f c j) i)
      extend q qs (no n) (inr t) = elim (S.compared q t.0) [
        | below l ↦ inr (t.0, t.1, λ b i. at_here b {P = λ c. Less t.0 c → v c ≡ 𝟘} (λ k. absurd (less_asym l k)) t.2 i)
        | same e ↦ inr (t.0, t.1, λ b i. at_here b {P = λ c. Less t.0 c → v c ≡ 𝟘} (λ k. absurd (not_less_of_same (sym e) k)) t.2 i)
        | above l ↦ inr (q, n, λ b i. at_here b {P = λ c. Less q c → v c ≡ 𝟘} (λ k. absurd (less_irrefl q k)) (λ c j k. t.2 c j (S.less_trans l k)) i)
      ]

      greatest : (qs : List Place) → Greatest qs
      greatest [] = inl (λ b i. elim i [ ])
      greatest (q ∷ qs) = extend q qs (S.is_zero (v q)) (greatest qs)

      finish : Greatest ps → IsNil S v ⊎ ((a : Place) × IsHead S v a)
      finish (inl f) = inl (λ b. elim (cover b) [ inl z ↦ z | inr i ↦ f b i ])
      finish (inr t) = inr (t.0, (t.1, λ b l. elim (cover b) [ inl z ↦ z | inr i ↦ t.2 b i l ]))

  -- a vector with finitely many nonzero coefficients is zero or has a head
  pub head_of_finite : {v : Vect S} → IsFinite S v → IsNil S v ⊎ ((a : Place) × IsHead S v a)
  head_of_finite {v} f = nonzero_head v f.0 f.1

  pub finite_of_lin : {A : Vect S → Type 0} → ((u : Vect S) → A u → IsFinite S u) → {v : Vect S} → Lin S A v → IsFinite S v
  finite_of_lin f (lin_zero z) = ([], λ b. inl (z b))
  finite_of_lin f (lin_gen {v = v} g) = f v g
  finite_of_lin f (lin_comb {u = u} {w = w} {v = v} c p q e) = join (finite_of_lin f p) (finite_of_lin f q)
    where
      join : IsFinite S u → IsFinite S w → IsFinite S v
      join l r = (
        l.0 ++ r.0,
        λ b. elim (l.1 b) [
          | inl z ↦ elim (r.1 b) [ inl y ↦ inl (e b ∙ comb_zero S.laws c (u b) (w b) z y) | inr i ↦ inr (in_right l.0 r.0 i) ]
          | inr i ↦ inr (in_left l.0 r.0 i)
        ],
      )

  pub finite_shift : (m : Monomial) {v : Vect S} → IsFinite S v → IsFinite S (shift S m v)
  finite_shift m {v} f = (
    map (λ y. m • y) f.0,
    λ b. elim (shift_view m b) [
      | inl p ↦ elim (f.1 p.0) [ inl z ↦ inl (p.2 v ∙ z) | inr i ↦ inr (subst (In (map (λ y. m • y) f.0)) p.1 (in_map (λ y. m • y) i)) ]
      | inr p ↦ inl (p.1 v)
    ],
  )

  pub finite_eq : {u v : Vect S} → ((b : Place) → v b ≡ u b) → IsFinite S u → IsFinite S v
  finite_eq e f = (f.0, λ b. elim (f.1 b) [ inl z ↦ inl (e b ∙ z) | inr i ↦ inr i ])

  pub finite_of_span : {A : Vect S → Type 0} → ((g : Vect S) → A g → IsFinite S g) → {v : Vect S} → Span S A v → IsFinite S v
  finite_of_span f = finite_of_lin (λ u g. finite_eq g.is (finite_shift g.by (f g.member g.in_A)))
