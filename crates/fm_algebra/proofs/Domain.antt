-- Heads in any order that sums respect; over a field a product of nonzero polynomials is not zero
use Rattle.std.proofs.Common.{◌≡◌, ℕ, List, [], ◌∷◌, length, ◌⊎◌, inl, inr, refl, ap, ap₂, sym, ◌∙◌, Less, Equal, Greater}
use Rattle.std.specs.Cmp.{tied_itself}
use Rattle.std.specs.Ordering.{ordering_reverse}
use Rattle.std.specs.declared.cmp.Ordering.{Ordering}
use native.Mathlib.Decide.{ℕ_discrete}
use Rattle.fm_tuple.specs.Tuple.{tuple_sum}
use Rattle.fm_tuple.proofs.Tuples.{length_tuple_sum, tuple_sum_comm}
use Rattle.fm_algebra.specs.Ring.{Ring, IsRing, IsField}
use Rattle.fm_algebra.specs.Series.{Series}
use Rattle.fm_algebra.specs.Poly.{Poly, coeff, Among}
use Rattle.fm_algebra.specs.PolyRing.{poly, support}
use Rattle.fm_algebra.specs.Heads.{IsMonomialOrder, IsHead}
use Rattle.fm_algebra.proofs.Algebra.{zero_mul, mul_zero}
use Rattle.fm_algebra.proofs.Sums.{IsSum, IsSum-of, IsSum-tuple_sum, length_left, length_right, splits_single, splits_same_if, splits_zero}
use Rattle.fm_algebra.proofs.Poly.{support_covers, coeff_fixed, same_at_tuples}
use Rattle.fm_algebra.proofs.PolyRing.{coeff_zero, coeff_mul}

pub Greater≢Equal : ¬ (Greater ≡ Equal)
Greater≢Equal e = cc

pub Less≢Equal : ¬ (Less ≡ Equal)
Less≢Equal e = cc

pub Less≢Greater : ¬ (Less ≡ Greater)
Less≢Greater e = cc

module _ {R : List ℕ → List ℕ → Ordering} (o : IsMonomialOrder R) where
  pub order_itself : (a : List ℕ) → R a a ≡ Equal
  order_itself a = tied_itself o.total a

  pub order_turned : (a b : List ℕ) (r : Ordering) → R b a ≡ r → R a b ≡ ordering_reverse r
  order_turned a b r e = o.total.antisymm a b ∙ ap ordering_reverse e

  pub greater_trans : (a b c : List ℕ) → R a b ≡ Greater → R b c ≡ Greater → R a c ≡ Greater
  greater_trans a b c e f = order_turned a c Less (o.total.trans c b a (order_turned c b Greater f) (order_turned b a Greater e))

  not_itself : (a b : List ℕ) → a ≡ b → ¬ (R a b ≡ Greater)
  not_itself a b e g = Greater≢Equal (sym g ∙ ap (λ x. R x b) e ∙ order_itself b)

  module _ (K : Ring) (is_zero : (c : K.Carrier) → Dec (c ≡ K.zero)) (h : Series K) where
    abbrev IsGreatest : List (List ℕ) → List ℕ → Type 0
    IsGreatest ks a = ¬ (h a ≡ K.zero) × ((b : List ℕ) → Among b ks → R b a ≡ Greater → h b ≡ K.zero)

    larger : (k a : List ℕ) (ks : List (List ℕ)) → ¬ (h k ≡ K.zero) → IsGreatest ks a → (r : Ordering) → R k a ≡ r → (c : List ℕ) × IsGreatest (k ∷ ks) c
    larger k a ks nz t Less e = (a, (t.0, λ b w g. elim w [ inl s ↦ absurd (Less≢Greater (sym e ∙ ap (λ x. R x a) (sym s) ∙ g)) | inr v ↦ t.1 b v g ]))
    larger k a ks nz t Equal e = (a, (t.0, λ b w g. elim w [ inl s ↦ absurd (Greater≢Equal (sym g ∙ ap (λ x. R x a) s ∙ e)) | inr v ↦ t.1 b v g ]))
    larger k a ks nz t Greater e = (k, (nz, λ b w g. elim w [ inl s ↦ absurd (not_itself b k s g) | inr v ↦ t.1 b v (greater_trans b k a g e) ]))

    -- the greatest tuple of a list at which h is not 0
    greatest : (ks : List (List ℕ)) → ((b : List ℕ) → Among b ks → h b ≡ K.zero) ⊎ ((a : List ℕ) × IsGreatest ks a)
    greatest [] = inl (λ b w. absurd w)
    greatest (k ∷ ks) = elim (is_zero (h k)) [
      | yes z ↦ elim (greatest ks) [
        | inl all ↦ inl (λ b w. elim w [ inl s ↦ ap h s ∙ z | inr v ↦ all b v ])
        | inr t ↦ inr (t.0, (t.1.0, λ b w g. elim w [ inl s ↦ ap h s ∙ z | inr v ↦ t.1.1 b v g ]))
      ]
      | no nz ↦ elim (greatest ks) [
        | inl all ↦ inr (k, (nz, λ b w g. elim w [ inl s ↦ absurd (not_itself b k s g) | inr v ↦ all b v ]))
        | inr t ↦ inr (larger k t.0 ks nz t.1 (R k t.0) refl)
      ]
    ]

  -- ---- sums of tuples
  respects_left : (v b a : List ℕ) → length v ≡ length a → length b ≡ length a → R (tuple_sum a v) (tuple_sum a b) ≡ R v b
  respects_left v b a l m = ap₂ R (tuple_sum_comm a v (sym l)) (tuple_sum_comm a b (sym m)) ∙ o.respects v b a l m

  -- u + v against a + b, where neither part is greater
  pub sums_less : (u a v b : List ℕ) → length u ≡ length v → length a ≡ length v → length b ≡ length v
      → R u a ≡ Less → (s : Ordering) → R v b ≡ s → ¬ (s ≡ Greater) → R (tuple_sum u v) (tuple_sum a b) ≡ Less
  sums_less u a v b l m k e Less f w =
      o.total.trans (tuple_sum u v) (tuple_sum a v) (tuple_sum a b) (o.respects u a v l m ∙ e) (respects_left v b a (sym m) (k ∙ sym m) ∙ f)
  sums_less u a v b l m k e Equal f w = ap (λ x. R (tuple_sum u v) (tuple_sum a x)) (sym (o.exact v b f)) ∙ o.respects u a v l m ∙ e
  sums_less u a v b l m k e Greater f w = absurd (w refl)

  -- if u + v is at least a + b, one part is greater or both are equal
  one_greater : (u a v b : List ℕ) → length u ≡ length v → length a ≡ length v → length b ≡ length v → ¬ (R (tuple_sum u v) (tuple_sum a b) ≡ Less)
      → (r s : Ordering) → R u a ≡ r → R v b ≡ s → (R u a ≡ Greater) ⊎ ((R v b ≡ Greater) ⊎ ((u ≡ a) × (v ≡ b)))
  one_greater u a v b l m k n Greater s e f = inl e
  one_greater u a v b l m k n Less Less e f = absurd (n (sums_less u a v b l m k e Less f Less≢Greater))
  one_greater u a v b l m k n Less Equal e f = absurd (n (sums_less u a v b l m k e Equal f (λ x. Greater≢Equal (sym x))))
  one_greater u a v b l m k n Less Greater e f = inr (inl f)
  one_greater u a v b l m k n Equal Less e f =
      absurd (n (ap (λ x. R (tuple_sum x v) (tuple_sum a b)) (o.exact u a e) ∙ respects_left v b a (sym m) (k ∙ sym m) ∙ f))
  one_greater u a v b l m k n Equal Equal e f = inr (inr (o.exact u a e, o.exact v b f))
  one_greater u a v b l m k n Equal Greater e f = inr (inl f)

module _ {K : Ring} (L : IsRing K) (F : IsField K) where
  -- a product of what is not 0 is not 0
  pub nonzero_mul : (c d : K.Carrier) → ¬ (c ≡ K.zero) → ¬ (d ≡ K.zero) → ¬ (K.mul c d ≡ K.zero)
  nonzero_mul c d x y z = elim (F.zero_or_inverse c) [
    | inl w ↦ x w
    | inr t ↦ y (
        sym (L.one_mul d) ∙ ap (λ e. K.mul e d) (sym t.1 ∙ L.mul_comm c t.0) ∙ L.mul_assoc t.0 c d ∙ ap (K.mul t.0) z ∙ mul_zero L t.0
        )
  ]

module _ (K : Ring) (L : IsRing K) (is_zero : (c : K.Carrier) → Dec (c ≡ K.zero)) (n : ℕ) {R : List ℕ → List ℕ → Ordering} (o : IsMonomialOrder R) where
  -- a polynomial is 0 or has a head
  pub zero_or_head : (f : Poly K n) → (f ≡ (poly K is_zero n).zero) ⊎ ((a : List ℕ) × IsHead R f a)
  zero_or_head f = elim (greatest o K is_zero (coeff f) (support f)) [
    | inl all ↦ inl (same_at_tuples K is_zero n f _ (λ b l.
        elim (support_covers f b l) [ inl z ↦ z | inr w ↦ all b w ] ∙ sym (ap (λ h. h b) (coeff_zero K L is_zero n))))
    | inr t ↦ inr (
      t.0,
      record {
        fits = elim (ℕ_discrete (length t.0) n) [ yes l ↦ l | no w ↦ absurd (t.1.0 (coeff_fixed f t.0 w)) ];
        nonzero = t.1.0;
        zero_above = λ b g. elim (ℕ_discrete (length b) n) [
          | yes l ↦ elim (support_covers f b l) [ inl z ↦ z | inr w ↦ t.1.1 b w g ]
          | no w ↦ coeff_fixed f b w
        ];
      },
    )
  ]

  one_head : (f : Poly K n) (a b : List ℕ) → IsHead R f a → IsHead R f b → (r : Ordering) → R a b ≡ r → a ≡ b
  one_head f a b h k Less e = absurd (k.nonzero (h.zero_above b (order_turned o b a Less e)))
  one_head f a b h k Equal e = o.exact a b e
  one_head f a b h k Greater e = absurd (h.nonzero (k.zero_above a e))

  -- a polynomial has one head
  pub head_unique : (f : Poly K n) (a b : List ℕ) → IsHead R f a → IsHead R f b → a ≡ b
  head_unique f a b h k = one_head f a b h k (R a b) refl

  -- 0 has none
  pub zero_no_head : (a : List ℕ) → ¬ (IsHead R (poly K is_zero n).zero a)
  zero_no_head a h = h.nonzero (ap (λ x. x a) (coeff_zero K L is_zero n))

module _ (K : Ring) (L : IsRing K) (F : IsField K) (is_zero : (c : K.Carrier) → Dec (c ≡ K.zero)) (n : ℕ) {R : List ℕ → List ℕ → Ordering} (o : IsMonomialOrder R) where
  open K use {Carrier, zero as 𝟘, one as 𝟙, add as ◌⊕◌, mul as ◌⊗◌, neg}

  infixl 60 ◌⊕◌
  infixl 70 ◌⊗◌
  abbrev P : Ring
  P = poly K is_zero n

  module _ (f g : Poly K n) (a b : List ℕ) (h : IsHead R f a) (k : IsHead R g b) where
    -- a split of a tuple that is at least a + b gives 0, but for the split in a and b
    split_zero : (u v c : List ℕ) → IsSum u v c → length c ≡ n → ¬ (R c (tuple_sum a b) ≡ Less) → ¬ ((u ≡ a) × (v ≡ b)) → coeff f u ⊗ coeff g v ≡ 𝟘
    split_zero u v c s l m w =
        let right : length v ≡ length c = length_right s in
        elim (one_greater o u a v b (length_left s ∙ sym right) (h.fits ∙ sym l ∙ sym right) (k.fits ∙ sym l ∙ sym right)
        (λ e. m (ap (λ x. R x (tuple_sum a b)) (IsSum-tuple_sum s) ∙ e)) (R u a) (R v b) refl refl) [
          | inl above ↦ ap (λ x. x ⊗ coeff g v) (h.zero_above u above) ∙ zero_mul L _
          | inr t ↦ elim t [
            | inl above ↦ ap (λ x. coeff f u ⊗ x) (k.zero_above v above) ∙ mul_zero L _
            | inr both ↦ absurd (w both)
          ]
        ]

    fits_sum : length (tuple_sum a b) ≡ n
    fits_sum = length_tuple_sum a b (h.fits ∙ sym k.fits) ∙ h.fits

    -- the coefficient at the sum of the heads is the product of theirs
    pub coeff_head_mul : coeff (P.mul f g) (tuple_sum a b) ≡ coeff f a ⊗ coeff g b
    coeff_head_mul =
        ap (λ x. x (tuple_sum a b)) (coeff_mul K L is_zero n f g)
        ∙ splits_single L (λ u v. coeff f u ⊗ coeff g v) (IsSum-of a b (h.fits ∙ sym k.fits))
        (λ u v s w. split_zero u v (tuple_sum a b) s fits_sum (λ e. Less≢Equal (sym e ∙ order_itself o (tuple_sum a b))) (λ both. w both.0))

    -- the head of a product is the sum of the heads
    pub head_mul : IsHead R (P.mul f g) (tuple_sum a b)
    head_mul = record {
      fits = fits_sum;
      nonzero = λ z. nonzero_mul L F (coeff f a) (coeff g b) h.nonzero k.nonzero (sym coeff_head_mul ∙ z);
      zero_above = λ c e. elim (ℕ_discrete (length c) n) [
        | yes l ↦ ap (λ x. x c) (coeff_mul K L is_zero n f g)
            ∙ splits_same_if ◌⊕◌ c (λ u v s. split_zero u v c s l (λ d. Less≢Greater (sym d ∙ e))
            (λ both. not_itself o c (tuple_sum a b) (IsSum-tuple_sum s ∙ ap₂ tuple_sum both.0 both.1) e)) ∙ splits_zero L c
        | no w ↦ coeff_fixed (P.mul f g) c w
      ];
    }

  -- a product is 0 only if a factor is
  pub domain : (f g : Poly K n) → P.mul f g ≡ P.zero → (f ≡ P.zero) ⊎ (g ≡ P.zero)
  domain f g e = elim (zero_or_head K L is_zero n o f) [
    | inl z ↦ inl z
    | inr s ↦ elim (zero_or_head K L is_zero n o g) [
      | inl z ↦ inr z
      | inr t ↦ absurd ((head_mul f g s.0 t.0 s.1 t.1).nonzero (ap (λ x. coeff x (tuple_sum s.0 t.0)) e ∙ ap (λ h. h (tuple_sum s.0 t.0)) (coeff_zero K L is_zero n)))
    ]
  ]
