-- Polynomials are a commutative ring
use Rattle.std.proofs.Common.{◌≡◌, ℕ, zero, suc, List, [], ◌∷◌, ◌++◌, map, length, replicate, ◌⊎◌, inl, inr, refl, ap, ap₂, sym, ◌∙◌, subst, arith}
use mathlib.Core.Path.{fun_ext}
use native.Mathlib.Decide.{ℕ_discrete}
use Rattle.fm_tuple.specs.Tuple.{tuple_sum}
use Rattle.fm_algebra.specs.Ring.{Ring, IsRing}
use Rattle.fm_algebra.specs.Series.{Series, series, plus, times, unit}
use Rattle.fm_algebra.specs.Poly.{Poly, coeff, Among, same_tuple, apart, restrict}
use Rattle.fm_algebra.specs.PolyRing.{poly, support, tuple_sums, multiple}
use Rattle.fm_algebra.proofs.Algebra.{mul_zero, zero_mul, neg_zero}
use Rattle.fm_algebra.proofs.Sums.{IsSum-tuple_sum, length_left, length_right, splits_same_if, splits_zero, splits_mul, splits_same}
use Rattle.fm_algebra.proofs.Series.{series_laws, unit_times}
use Rattle.fm_algebra.proofs.Poly.{Covers, Fixed, support_covers, coeff_fixed, coeff_restricted, restricted, coeff_polynomial, same_poly, Poly_set}

-- ---- lists of tuples
pub among_left : (a : List ℕ) (ks ls : List (List ℕ)) → Among a ks → Among a (ks ++ ls)
among_left a [] ls w = absurd w
among_left a (k ∷ ks) ls (inl e) = inl e
among_left a (k ∷ ks) ls (inr w) = inr (among_left a ks ls w)

pub among_right : (a : List ℕ) (ks ls : List (List ℕ)) → Among a ls → Among a (ks ++ ls)
among_right a [] ls w = w
among_right a (k ∷ ks) ls w = inr (among_right a ks ls w)

pub among_map : (f : List ℕ → List ℕ) (a : List ℕ) (ks : List (List ℕ)) → Among a ks → Among (f a) (map f ks)
among_map f a [] w = absurd w
among_map f a (k ∷ ks) (inl e) = inl (ap f e)
among_map f a (k ∷ ks) (inr w) = inr (among_map f a ks w)

among_sums : (b c : List ℕ) (bs cs : List (List ℕ)) → Among b bs → Among c cs → Among (tuple_sum b c) (tuple_sums bs cs)
unfolding tuple_sums
among_sums b c [] cs w v = absurd w
among_sums b c (k ∷ bs) cs (inl e) v =
    among_left (tuple_sum b c) (map (tuple_sum k) cs) (tuple_sums bs cs) (subst (λ x. Among (tuple_sum x c) (map (tuple_sum k) cs)) (sym e) (among_map (tuple_sum k) c cs v))
among_sums b c (k ∷ bs) cs (inr w) v = among_right (tuple_sum b c) (map (tuple_sum k) cs) (tuple_sums bs cs) (among_sums b c bs cs w v)

pub is_among : (a : List ℕ) (ks : List (List ℕ)) → Dec (Among a ks)
is_among a [] = no (λ w. w)
is_among a (k ∷ ks) = elim (same_tuple a k) [
  | inl s ↦ yes (inl s.0)
  | inr n ↦ elim (is_among a ks) [
    | yes w ↦ yes (inr w)
    | no v ↦ no (λ w. elim w [ inl e ↦ apart a k n e | inr u ↦ v u ])
  ]
]

-- ---- sums and products
module _ {K : Ring} (L : IsRing K) (n : ℕ) where
  open K use {Carrier, zero as 𝟘, one as 𝟙, add as ◌⊕◌, mul as ◌⊗◌, neg}
  open L use {zero_add}

  infixl 60 ◌⊕◌
  infixl 70 ◌⊗◌
  pub times_fixed : (f g : Series K) → Fixed K n f → Fixed K n (times K f g)
  times_fixed f g h a w =
      splits_same_if ◌⊕◌ a (λ b c s. ap (λ x. x ⊗ g c) (h b (λ l. w (sym (length_left s) ∙ l))) ∙ zero_mul L (g c)) ∙ splits_zero L a

  pub times_covers : (f g : Series K) (ks ls : List (List ℕ)) → Covers K n f ks → Covers K n g ls → Covers K n (times K f g) (tuple_sums ks ls)
  times_covers f g ks ls h k a l = elim (is_among a (tuple_sums ks ls)) [
    | yes w ↦ inr w
    | no v ↦ inl (splits_same_if ◌⊕◌ a (λ b c s. elim (h b (length_left s ∙ l)) [
      | inl z ↦ ap (λ x. x ⊗ g c) z ∙ zero_mul L (g c)
      | inr w ↦ elim (k c (length_right s ∙ l)) [
        | inl z ↦ ap (λ x. f b ⊗ x) z ∙ mul_zero L (f b)
        | inr u ↦ absurd (v (subst (λ x. Among x (tuple_sums ks ls)) (sym (IsSum-tuple_sum s)) (among_sums b c ks ls w u)))
      ]
    ]) ∙ splits_zero L a)
  ]

  pub plus_covers : (f g : Series K) (ks ls : List (List ℕ)) → Covers K n f ks → Covers K n g ls → Covers K n (plus K f g) (ks ++ ls)
  plus_covers f g ks ls h k a l = elim (h a l) [
    | inr w ↦ inr (among_left a ks ls w)
    | inl z ↦ elim (k a l) [
      | inr v ↦ inr (among_right a ks ls v)
      | inl y ↦ inl (ap₂ (λ s t. s ⊕ t) z y ∙ zero_add 𝟘)
    ]
  ]

  unit_covers : (m : ℕ) (a : List ℕ) → length a ≡ m → (unit K a ≡ 𝟘) ⊎ (a ≡ replicate m 0)
  unfolding unit
  unit_covers zero [] e = inr refl
  unit_covers zero (i ∷ a) e = absurd (omega arith)
  unit_covers (suc m) [] e = absurd (omega arith)
  unit_covers (suc m) (zero ∷ a) e = elim (unit_covers m a (omega arith)) [ inl z ↦ inl z | inr s ↦ inr (ap (λ x. 0 ∷ x) s) ]
  unit_covers (suc m) (suc k ∷ a) e = inl refl

  pub unit_at_zeros : (m : ℕ) → unit K (replicate m 0) ≡ 𝟙
  unfolding unit
  unit_at_zeros zero = refl
  unit_at_zeros (suc m) = unit_at_zeros m

  pub unit_elsewhere : (m : ℕ) (a : List ℕ) → length a ≡ m → ¬ (a ≡ replicate m 0) → unit K a ≡ 𝟘
  unit_elsewhere m a l w = elim (unit_covers m a l) [ inl z ↦ z | inr s ↦ absurd (w s) ]

-- ---- the ring
module _ (K : Ring) (L : IsRing K) (is_zero : (c : K.Carrier) → Dec (c ≡ K.zero)) (n : ℕ) where
  open K use {Carrier, zero as 𝟘, one as 𝟙, add as ◌⊕◌, mul as ◌⊗◌, neg}

  infixl 60 ◌⊕◌
  infixl 70 ◌⊗◌
  abbrev P : Ring
  P = poly K is_zero n

  pub coeff_zero : coeff P.zero ≡ (series K).zero
  coeff_zero = coeff_polynomial K is_zero n _ [] (λ a l. inl refl) (λ a w. refl)

  pub coeff_add : (f g : Poly K n) → coeff (P.add f g) ≡ plus K (coeff f) (coeff g)
  coeff_add f g =
      coeff_polynomial K is_zero n _ _ (plus_covers L n (coeff f) (coeff g) (support f) (support g) (support_covers f) (support_covers g))
      (λ a w. ap₂ (λ s t. s ⊕ t) (coeff_fixed f a w) (coeff_fixed g a w) ∙ L.zero_add 𝟘)

  pub coeff_mul : (f g : Poly K n) → coeff (P.mul f g) ≡ times K (coeff f) (coeff g)
  coeff_mul f g =
      coeff_polynomial K is_zero n _ _ (times_covers L n (coeff f) (coeff g) (support f) (support g) (support_covers f) (support_covers g))
      (times_fixed L n (coeff f) (coeff g) (coeff_fixed f))

  pub coeff_neg : (f : Poly K n) → coeff (P.neg f) ≡ (series K).neg (coeff f)
  coeff_neg f =
      coeff_polynomial K is_zero n _ _ (λ a l. elim (support_covers f a l) [ inl z ↦ inl (ap neg z ∙ neg_zero L) | inr w ↦ inr w ])
      (λ a w. ap neg (coeff_fixed f a w) ∙ neg_zero L)

  pub coeff_multiple : (c : Carrier) (f : Poly K n) → coeff (multiple K is_zero n c f) ≡ (λ a. c ⊗ coeff f a)
  unfolding multiple
  coeff_multiple c f =
      coeff_polynomial K is_zero n _ _ (λ a l. elim (support_covers f a l) [ inl z ↦ inl (ap (λ x. c ⊗ x) z ∙ mul_zero L c) | inr w ↦ inr w ])
      (λ a w. ap (λ x. c ⊗ x) (coeff_fixed f a w) ∙ mul_zero L c)

  -- 1 at the tuple of n zeros
  pub coeff_one : (a : List ℕ) → coeff P.one a ≡ restrict K is_zero n (unit K) a
  coeff_one a = coeff_restricted K is_zero n (unit K) _ (λ b l. elim (unit_covers L n n b l) [ inl z ↦ inl z | inr s ↦ inr (inl s) ]) a

  coeff_one_times : (f : Poly K n) (a : List ℕ) → times K (coeff P.one) (coeff f) a ≡ coeff f a
  coeff_one_times f a = elim (ℕ_discrete (length a) n) [
    | yes l ↦ splits_same_if ◌⊕◌ a (λ b c s. ap (λ x. x ⊗ coeff f c) (coeff_one b ∙ restricted K is_zero n (unit K) b (ℕ_discrete (length b) n) (length_left s ∙ l))) ∙ unit_times L a (coeff f)
    | no w ↦ times_fixed L n (coeff P.one) (coeff f) (coeff_fixed P.one) a w ∙ sym (coeff_fixed f a w)
  ]

  by_coeff : (f g : Poly K n) → coeff f ≡ coeff g → f ≡ g
  by_coeff f g e = same_poly K n f g (λ a. ap (λ h. h a) e)

  pub poly_laws : IsRing P
  poly_laws =
      let S = series_laws L in
      record {
        is_set = Poly_set K n L.is_set;
        add_assoc = λ f g h. by_coeff _ _ (coeff_add _ h ∙ ap (λ x. plus K x (coeff h)) (coeff_add f g) ∙ S.add_assoc _ _ _ ∙ ap (plus K (coeff f)) (sym (coeff_add g h)) ∙ sym (coeff_add f _));
        add_comm = λ f g. by_coeff _ _ (coeff_add f g ∙ S.add_comm _ _ ∙ sym (coeff_add g f));
        zero_add = λ f. by_coeff _ _ (coeff_add P.zero f ∙ ap (λ x. plus K x (coeff f)) coeff_zero ∙ S.zero_add _);
        neg_add = λ f. by_coeff _ _ (coeff_add _ f ∙ ap (λ x. plus K x (coeff f)) (coeff_neg f) ∙ S.neg_add _ ∙ sym coeff_zero);
        mul_assoc = λ f g h. by_coeff _ _ (coeff_mul _ h ∙ ap (λ x. times K x (coeff h)) (coeff_mul f g) ∙ S.mul_assoc _ _ _ ∙ ap (times K (coeff f)) (sym (coeff_mul g h)) ∙ sym (coeff_mul f _));
        mul_comm = λ f g. by_coeff _ _ (coeff_mul f g ∙ S.mul_comm _ _ ∙ sym (coeff_mul g f));
        one_mul = λ f. by_coeff _ _ (coeff_mul P.one f ∙ fun_ext (coeff_one_times f));
        mul_add = λ f g h. by_coeff _ _ (coeff_mul f _ ∙ ap (times K (coeff f)) (coeff_add g h) ∙ S.mul_add _ _ _ ∙ ap₂ (plus K) (sym (coeff_mul f g)) (sym (coeff_mul f h)) ∙ sym (coeff_add _ _));
      }

  -- c * f is associative with the product
  pub multiple_mul : (c : Carrier) (f g : Poly K n) → multiple K is_zero n c (P.mul f g) ≡ P.mul (multiple K is_zero n c f) g
  multiple_mul c f g = by_coeff _ _ (
      coeff_multiple c (P.mul f g) ∙ ap (λ h a. c ⊗ h a) (coeff_mul f g)
      ∙ fun_ext (λ a. splits_mul L a c (λ x y. coeff f x ⊗ coeff g y) ∙ splits_same ◌⊕◌ a (λ x y. sym (L.mul_assoc c (coeff f x) (coeff g y))))
      ∙ ap (λ h. times K h (coeff g)) (sym (coeff_multiple c f)) ∙ sym (coeff_mul _ g))

  -- c * f is the product with the constant c * 1
  pub multiple_one : (c : Carrier) (f : Poly K n) → multiple K is_zero n c f ≡ P.mul (multiple K is_zero n c P.one) f
  multiple_one c f = ap (multiple K is_zero n c) (sym (poly_laws.one_mul f)) ∙ multiple_mul c P.one f
