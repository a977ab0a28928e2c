-- Sums over pairs and over splits
use Rattle.std.proofs.Common.{◌≡◌, ℕ, zero, suc, ◌+◌, List, [], ◌∷◌, length, refl, ap, ap₂, sym, ◌∙◌, arith}
use mathlib.Core.Path.{fun_ext}
use Rattle.fm_tuple.specs.Tuple.{tuple_sum}
use Rattle.fm_algebra.specs.Ring.{Ring, IsRing}
use Rattle.fm_algebra.specs.Splits.{over_pairs, over_splits}
use Rattle.fm_algebra.proofs.Algebra.{add_zero, add_left_comm, add_swap}

-- b + c = a, entry by entry
pub data IsSum : List ℕ → List ℕ → List ℕ → Type 0 where
  none : IsSum [] [] []
  more : {i j k : ℕ} {b c a : List ℕ} → i + j ≡ k → IsSum b c a → IsSum (i ∷ b) (j ∷ c) (k ∷ a)

pub length_left : {b c a : List ℕ} → IsSum b c a → length b ≡ length a
length_left none = refl
length_left (more e s) = ap suc (length_left s)

pub length_right : {b c a : List ℕ} → IsSum b c a → length c ≡ length a
length_right none = refl
length_right (more e s) = ap suc (length_right s)

pub IsSum-tuple_sum : {b c a : List ℕ} → IsSum b c a → a ≡ tuple_sum b c
IsSum-tuple_sum none = refl
IsSum-tuple_sum (more e s) = ap₂ (λ x y. x ∷ y) (sym e) (IsSum-tuple_sum s)

pub IsSum-of : (b c : List ℕ) → length b ≡ length c → IsSum b c (tuple_sum b c)
IsSum-of [] [] e = none
IsSum-of [] (j ∷ c) e = absurd (omega arith)
IsSum-of (i ∷ b) [] e = absurd (omega arith)
IsSum-of (i ∷ b) (j ∷ c) e = more refl (IsSum-of b c (omega arith))

module _ {A : Type 0} (add : A → A → A) where
  pub pairs_same : (k : ℕ) {F G : ℕ → ℕ → A} → ((i j : ℕ) → F i j ≡ G i j) → over_pairs add k F ≡ over_pairs add k G
  pairs_same k h = ap (over_pairs add k) (fun_ext (λ i. fun_ext (λ j. h i j)))

  pub splits_same : (a : List ℕ) {F G : List ℕ → List ℕ → A} → ((b c : List ℕ) → F b c ≡ G b c) → over_splits add a F ≡ over_splits add a G
  splits_same a h = ap (over_splits add a) (fun_ext (λ b. fun_ext (λ c. h b c)))

  -- what is known of the two parts
  pub pairs_same_if : (k : ℕ) {F G : ℕ → ℕ → A} → ((i j : ℕ) → i + j ≡ k → F i j ≡ G i j) → over_pairs add k F ≡ over_pairs add k G
  unfolding over_pairs
  pairs_same_if zero h = h 0 0 refl
  pairs_same_if (suc k) h = ap₂ add (h 0 (suc k) (omega arith)) (pairs_same_if k (λ i j e. h (suc i) j (omega arith)))

  pub splits_same_if : (a : List ℕ) {F G : List ℕ → List ℕ → A} → ((b c : List ℕ) → IsSum b c a → F b c ≡ G b c) → over_splits add a F ≡ over_splits add a G
  unfolding over_splits
  splits_same_if [] h = h [] [] none
  splits_same_if (k ∷ a) h = pairs_same_if k (λ i j e. splits_same_if a (λ b c s. h (i ∷ b) (j ∷ c) (more e s)))

-- ---- sums in which one summand counts, in any commutative monoid
module _ {A : Type 0} (add : A → A → A) (nil : A) (left : (a : A) → add nil a ≡ a) (right : (a : A) → add a nil ≡ a) where
  pub pairs_all_zero : (k : ℕ) → over_pairs add k (λ i j. nil) ≡ nil
  unfolding over_pairs
  pairs_all_zero zero = refl
  pairs_all_zero (suc k) = left _ ∙ pairs_all_zero k

  pub splits_all_zero : (a : List ℕ) → over_splits add a (λ b c. nil) ≡ nil
  unfolding over_splits
  splits_all_zero [] = refl
  splits_all_zero (k ∷ a) = pairs_same add k (λ i j. splits_all_zero a) ∙ pairs_all_zero k

  -- all pairs but the first give 0
  pub pairs_first : (k : ℕ) (F : ℕ → ℕ → A) → ((i j : ℕ) → F (suc i) j ≡ nil) → over_pairs add k F ≡ F 0 k
  unfolding over_pairs
  pairs_first zero F h = refl
  pairs_first (suc k) F h = ap (add (F 0 (suc k))) (pairs_same add k h ∙ pairs_all_zero k) ∙ right _

  -- all pairs give 0
  pairs_none : (k : ℕ) (F : ℕ → ℕ → A) → ((i j : ℕ) → i + j ≡ k → F i j ≡ nil) → over_pairs add k F ≡ nil
  pairs_none k F h = pairs_same_if add k h ∙ pairs_all_zero k

  -- only the pair of i and j counts
  pairs_single : (k i j : ℕ) (F : ℕ → ℕ → A) → i + j ≡ k → ((u v : ℕ) → u + v ≡ k → ¬ (u ≡ i) → F u v ≡ nil) → over_pairs add k F ≡ F i j
  unfolding over_pairs
  pairs_single zero zero zero F e h = refl
  pairs_single zero zero (suc j) F e h = absurd (omega arith)
  pairs_single zero (suc i) j F e h = absurd (omega arith)
  pairs_single (suc k) zero j F e h =
      let last : suc k ≡ j = omega arith in
      ap (add (F 0 (suc k))) (pairs_none k (λ u v. F (suc u) v) (λ u v s. h (suc u) v (omega arith) (λ z. omega arith))) ∙ right _ ∙ ap (F 0) last
  pairs_single (suc k) (suc i) j F e h =
      ap (λ x. add x (over_pairs add k (λ u v. F (suc u) v))) (h 0 (suc k) (omega arith) (λ z. omega arith)) ∙ left _
      ∙ pairs_single k i j (λ u v. F (suc u) v) (omega arith) (λ u v s w. h (suc u) v (omega arith) (λ z. w (omega arith)))

  -- only the split in b and c counts
  pub splits_one : {b c a : List ℕ} (F : List ℕ → List ℕ → A) → IsSum b c a
      → ((u v : List ℕ) → IsSum u v a → ¬ (u ≡ b) → F u v ≡ nil) → over_splits add a F ≡ F b c
  unfolding over_splits
  splits_one F none h = refl
  splits_one F (more {i = i} {j = j} {k = k} {b = b} {c = c} {a = a} e s) h =
      pairs_single k i j (λ x y. over_splits add a (λ u v. F (x ∷ u) (y ∷ v))) e
      (λ x y d w. splits_same_if add a (λ u v t. h (x ∷ u) (y ∷ v) (more d t) (λ z. w (heads z))) ∙ splits_all_zero a)
      ∙ splits_one (λ u v. F (i ∷ u) (j ∷ v)) s (λ u v t w. h (i ∷ u) (j ∷ v) (more e t) (λ z. w (tails z)))
    where
      heads : {x y : ℕ} {u v : List ℕ} → x ∷ u ≡ y ∷ v → x ≡ y
      heads z = cc

      tails : {x y : ℕ} {u v : List ℕ} → x ∷ u ≡ y ∷ v → u ≡ v
      tails z = cc

-- ---- in a ring
module _ {K : Ring} (L : IsRing K) where
  open K use {Carrier, zero as 𝟘, one as 𝟙, add as ◌⊕◌, mul as ◌⊗◌, neg}
  open L use {add_assoc, add_comm, zero_add, neg_add, mul_assoc, mul_comm, one_mul, mul_add}

  infixl 60 ◌⊕◌
  infixl 70 ◌⊗◌
  pub pairs_zero : (k : ℕ) → over_pairs ◌⊕◌ k (λ i j. 𝟘) ≡ 𝟘
  pairs_zero k = pairs_all_zero ◌⊕◌ 𝟘 zero_add (add_zero L) k

  pub pairs_add : (k : ℕ) (F G : ℕ → ℕ → Carrier) → over_pairs ◌⊕◌ k (λ i j. F i j ⊕ G i j) ≡ over_pairs ◌⊕◌ k F ⊕ over_pairs ◌⊕◌ k G
  unfolding over_pairs
  pairs_add zero F G = refl
  pairs_add (suc k) F G = ap (λ x. (F 0 (suc k) ⊕ G 0 (suc k)) ⊕ x) (pairs_add k (λ i j. F (suc i) j) (λ i j. G (suc i) j)) ∙ add_swap L _ _ _ _

  pub pairs_mul : (k : ℕ) (c : Carrier) (F : ℕ → ℕ → Carrier) → c ⊗ over_pairs ◌⊕◌ k F ≡ over_pairs ◌⊕◌ k (λ i j. c ⊗ F i j)
  unfolding over_pairs
  pairs_mul zero c F = refl
  pairs_mul (suc k) c F = mul_add c _ _ ∙ ap (λ x. c ⊗ F 0 (suc k) ⊕ x) (pairs_mul k c (λ i j. F (suc i) j))

  -- the last pair first
  pub pairs_last : (k : ℕ) (F : ℕ → ℕ → Carrier) → over_pairs ◌⊕◌ (suc k) F ≡ F (suc k) 0 ⊕ over_pairs ◌⊕◌ k (λ i j. F i (suc j))
  unfolding over_pairs
  pairs_last zero F = add_comm _ _
  pairs_last (suc k) F = ap (λ x. F 0 (suc (suc k)) ⊕ x) (pairs_last k (λ i j. F (suc i) j)) ∙ add_left_comm L _ _ _

  pub pairs_turned : (k : ℕ) (F : ℕ → ℕ → Carrier) → over_pairs ◌⊕◌ k F ≡ over_pairs ◌⊕◌ k (λ i j. F j i)
  unfolding over_pairs
  pairs_turned zero F = refl
  pairs_turned (suc k) F = ap (λ x. F 0 (suc k) ⊕ x) (pairs_turned k (λ i j. F (suc i) j)) ∙ sym (pairs_last k (λ i j. F j i))

  -- i + j + m = k, by i + j first or by j + m first
  pub pairs_assoc : (k : ℕ) (F : ℕ → ℕ → ℕ → Carrier)
      → over_pairs ◌⊕◌ k (λ n m. over_pairs ◌⊕◌ n (λ i j. F i j m)) ≡ over_pairs ◌⊕◌ k (λ i n. over_pairs ◌⊕◌ n (λ j m. F i j m))
  unfolding over_pairs
  pairs_assoc zero F = refl
  pairs_assoc (suc k) F =
      ap (λ x. F 0 0 (suc k) ⊕ x) (pairs_add k (λ n m. F 0 (suc n) m) _ ∙ ap (λ x. over_pairs ◌⊕◌ k (λ n m. F 0 (suc n) m) ⊕ x) (pairs_assoc k (λ i j m. F (suc i) j m)))
      ∙ sym (add_assoc _ _ _)

  -- ---- over splits
  pub splits_zero : (a : List ℕ) → over_splits ◌⊕◌ a (λ b c. 𝟘) ≡ 𝟘
  splits_zero a = splits_all_zero ◌⊕◌ 𝟘 zero_add (add_zero L) a

  pub splits_add : (a : List ℕ) (F G : List ℕ → List ℕ → Carrier) → over_splits ◌⊕◌ a (λ b c. F b c ⊕ G b c) ≡ over_splits ◌⊕◌ a F ⊕ over_splits ◌⊕◌ a G
  unfolding over_splits
  splits_add [] F G = refl
  splits_add (k ∷ a) F G = pairs_same ◌⊕◌ k (λ i j. splits_add a (λ b c. F (i ∷ b) (j ∷ c)) (λ b c. G (i ∷ b) (j ∷ c))) ∙ pairs_add k _ _

  pub splits_mul : (a : List ℕ) (c : Carrier) (F : List ℕ → List ℕ → Carrier) → c ⊗ over_splits ◌⊕◌ a F ≡ over_splits ◌⊕◌ a (λ x y. c ⊗ F x y)
  unfolding over_splits
  splits_mul [] c F = refl
  splits_mul (k ∷ a) c F = pairs_mul k c _ ∙ pairs_same ◌⊕◌ k (λ i j. splits_mul a c (λ x y. F (i ∷ x) (j ∷ y)))

  pub splits_turned : (a : List ℕ) (F : List ℕ → List ℕ → Carrier) → over_splits ◌⊕◌ a F ≡ over_splits ◌⊕◌ a (λ b c. F c b)
  unfolding over_splits
  splits_turned [] F = refl
  splits_turned (k ∷ a) F = pairs_same ◌⊕◌ k (λ i j. splits_turned a (λ b c. F (i ∷ b) (j ∷ c))) ∙ pairs_turned k (λ i j. over_splits ◌⊕◌ a (λ b c. F (i ∷ c) (j ∷ b)))

  -- a sum over pairs and a sum over splits change places
  pub splits_pairs : (a : List ℕ) (k : ℕ) (F : List ℕ → List ℕ → ℕ → ℕ → Carrier)
      → over_splits ◌⊕◌ a (λ b c. over_pairs ◌⊕◌ k (λ i j. F b c i j)) ≡ over_pairs ◌⊕◌ k (λ i j. over_splits ◌⊕◌ a (λ b c. F b c i j))
  unfolding over_pairs
  splits_pairs a zero F = refl
  splits_pairs a (suc k) F =
      splits_add a (λ b c. F b c 0 (suc k)) _ ∙ ap (λ x. over_splits ◌⊕◌ a (λ b c. F b c 0 (suc k)) ⊕ x) (splits_pairs a k (λ b c i j. F b c (suc i) j))

  pub splits_assoc : (a : List ℕ) (F : List ℕ → List ℕ → List ℕ → Carrier)
      → over_splits ◌⊕◌ a (λ n m. over_splits ◌⊕◌ n (λ b c. F b c m)) ≡ over_splits ◌⊕◌ a (λ b n. over_splits ◌⊕◌ n (λ c m. F b c m))
  unfolding over_splits
  splits_assoc [] F = refl
  splits_assoc (k ∷ a) F =
      pairs_same ◌⊕◌ k (λ n m. splits_pairs a n (λ x y i j. over_splits ◌⊕◌ x (λ b c. F (i ∷ b) (j ∷ c) (m ∷ y))))
      ∙ pairs_assoc k (λ i j m. over_splits ◌⊕◌ a (λ x y. over_splits ◌⊕◌ x (λ b c. F (i ∷ b) (j ∷ c) (m ∷ y))))
      ∙ pairs_same ◌⊕◌ k (λ i n. pairs_same ◌⊕◌ n (λ j m. splits_assoc a (λ b c y. F (i ∷ b) (j ∷ c) (m ∷ y))))
      ∙ pairs_same ◌⊕◌ k (λ i n. sym (splits_pairs a n (λ b z j m. over_splits ◌⊕◌ z (λ c y. F (i ∷ b) (j ∷ c) (m ∷ y)))))

  -- only the split in b and c counts
  pub splits_single : {b c a : List ℕ} (F : List ℕ → List ℕ → Carrier) → IsSum b c a
      → ((u v : List ℕ) → IsSum u v a → ¬ (u ≡ b) → F u v ≡ 𝟘) → over_splits ◌⊕◌ a F ≡ F b c
  splits_single F s h = splits_one ◌⊕◌ 𝟘 zero_add (add_zero L) F s h
