-- Images and kernels over the interface of matrices
use Rattle.std.proofs.Common.{ℕ, zero, suc, ◌<◌, ◌≡◌, ◌∙◌, refl, sym, ap, subst, ◌↔◌}
use Rattle.std.proofs.Math.Numerals.{one-add, add-one}
use Rattle.fm_algebra.specs.Matrices.{Matrices, IsMatrices}
use Rattle.fm_algebra.specs.Image.{InImage}
use Rattle.fm_algebra.proofs.Generation.{Generates, GeneratesKernel, Within, Everything, Flat}

module _ {M : Matrices} (L : IsMatrices M) where
  open M use {Mat, ◌⊛◌, ◌⊕◌, neg, nil, unit, flip, basis, twist}
  open L use {assoc, unit_left, unit_right, add_comm, add_assoc, add_nil, add_neg, dist_left, dist_right, flip_mul, flip_add, twist_mul, twist_add, twist_unit, twist_none, twist_twist, gather}

  infixl 70 ◌⊛◌
  infixl 60 ◌⊕◌
  -- ---- zero and negatives
  pub nil_add : {m n : ℕ} (A : Mat m n) → nil m n ⊕ A ≡ A
  nil_add {m} {n} A = add_comm (nil m n) A ∙ add_nil A

  pub add_cancel : {m n : ℕ} (A B C : Mat m n) → A ⊕ B ≡ A ⊕ C → B ≡ C
  add_cancel {m} {n} A B C e = sym (back B) ∙ ap (λ x. neg A ⊕ x) e ∙ back C
    where
      back : (x : Mat m n) → neg A ⊕ (A ⊕ x) ≡ x
      back x = sym (add_assoc (neg A) A x) ∙ ap (λ y. y ⊕ x) (add_comm (neg A) A ∙ add_neg A) ∙ nil_add x

  pub mul_nil : {m n k : ℕ} (A : Mat m n) → A ⊛ nil n k ≡ nil m k
  mul_nil {m} {n} {k} A =
      add_cancel (A ⊛ nil n k) (A ⊛ nil n k) (nil m k) (sym (dist_left A (nil n k) (nil n k)) ∙ ap (λ x. A ⊛ x) (add_nil (nil n k)) ∙ sym (add_nil (A ⊛ nil n k)))

  pub nil_mul : (m : ℕ) {n k : ℕ} (A : Mat n k) → nil m n ⊛ A ≡ nil m k
  nil_mul m {n} {k} A =
      add_cancel (nil m n ⊛ A) (nil m n ⊛ A) (nil m k) (sym (dist_right (nil m n) (nil m n) A) ∙ ap (λ x. x ⊛ A) (add_nil (nil m n)) ∙ sym (add_nil (nil m n ⊛ A)))

  pub twist_nil : (e m n : ℕ) → twist e (nil m n) ≡ nil m n
  twist_nil e m n =
      add_cancel (twist e (nil m n)) (twist e (nil m n)) (nil m n) (sym (twist_add e (nil m n) (nil m n)) ∙ ap (λ x. twist e x) (add_nil (nil m n)) ∙ sym (add_nil (twist e (nil m n))))

  pub flip_nil : (m n : ℕ) → flip (nil m n) ≡ nil n m
  flip_nil m n =
      add_cancel (flip (nil m n)) (flip (nil m n)) (nil n m) (sym (flip_add (nil m n) (nil m n)) ∙ ap (λ x. flip x) (add_nil (nil m n)) ∙ sym (add_nil (flip (nil m n))))

  pub neg_unique : {m n : ℕ} (A B : Mat m n) → A ⊕ B ≡ nil m n → B ≡ neg A
  neg_unique A B e = add_cancel A B (neg A) (e ∙ sym (add_neg A))

  pub mul_neg : {m n k : ℕ} (A : Mat m n) (B : Mat n k) → A ⊛ neg B ≡ neg (A ⊛ B)
  mul_neg A B = neg_unique (A ⊛ B) (A ⊛ neg B) (sym (dist_left A B (neg B)) ∙ ap (λ x. A ⊛ x) (add_neg B) ∙ mul_nil A)

  pub neg_mul : {m n k : ℕ} (A : Mat m n) (B : Mat n k) → neg A ⊛ B ≡ neg (A ⊛ B)
  neg_mul {m} A B = neg_unique (A ⊛ B) (neg A ⊛ B) (sym (dist_right A (neg A) B) ∙ ap (λ x. x ⊛ B) (add_neg A) ∙ nil_mul m B)

  pub twist_neg : (e : ℕ) {m n : ℕ} (A : Mat m n) → twist e (neg A) ≡ neg (twist e A)
  twist_neg e {m} {n} A = neg_unique (twist e A) (twist e (neg A)) (sym (twist_add e A (neg A)) ∙ ap (λ x. twist e x) (add_neg A) ∙ twist_nil e m n)

  pub flip_neg : {m n : ℕ} (A : Mat m n) → flip (neg A) ≡ neg (flip A)
  flip_neg {m} {n} A = neg_unique (flip A) (flip (neg A)) (sym (flip_add A (neg A)) ∙ ap (λ x. flip x) (add_neg A) ∙ flip_nil m n)

  -- what differs by 0 is equal
  pub sub_nil : {m n : ℕ} (A B : Mat m n) → A ⊕ neg B ≡ nil m n → A ≡ B
  sub_nil A B e = add_cancel (neg B) A B (add_comm (neg B) A ∙ e ∙ sym (add_neg B) ∙ add_comm B (neg B))

  pub sub_add : {m n : ℕ} (A B : Mat m n) → B ⊕ (A ⊕ neg B) ≡ A
  sub_add A B =
      ap (λ x. B ⊕ x) (add_comm A (neg B)) ∙ sym (add_assoc B (neg B) A) ∙ ap (λ x. x ⊕ A) (add_neg B) ∙ nil_add A

  pub add_sub : {m n : ℕ} (A B : Mat m n) → (A ⊕ B) ⊕ neg A ≡ B
  add_sub A B = add_comm (A ⊕ B) (neg A) ∙ sym (add_assoc (neg A) A B) ∙ ap (λ x. x ⊕ B) (add_comm (neg A) A ∙ add_neg A) ∙ nil_add B

  -- ---- twists of twists
  pub twist_more : (e : ℕ) {m n : ℕ} (A : Mat m n) → twist e (twist 1 A) ≡ twist (suc e) A
  twist_more e A = twist_twist e 1 A ∙ ap (λ x. twist x A) (one-add e)

  pub twist_in : (e : ℕ) {m n : ℕ} (A : Mat m n) → twist 1 (twist e A) ≡ twist (suc e) A
  twist_in e A = twist_twist 1 e A ∙ ap (λ x. twist x A) (add-one e)

  -- ---- images
  pub image_self : {m n k : ℕ} (A : Mat m n) (X : Mat n k) → InImage M A (A ⊛ X)
  image_self A X = (X, refl)

  pub image_mul : {m n k l : ℕ} (A : Mat m n) (B : Mat m k) (X : Mat k l) → InImage M A B → InImage M A (B ⊛ X)
  image_mul A B X h = (h.0 ⊛ X, sym (assoc A h.0 X) ∙ ap (λ y. y ⊛ X) h.1)

  pub image_trans : {m n k l : ℕ} (A : Mat m n) (B : Mat m k) (C : Mat m l) → InImage M A B → InImage M B C → InImage M A C
  image_trans A B C h g = (h.0 ⊛ g.0, sym (assoc A h.0 g.0) ∙ ap (λ y. y ⊛ g.0) h.1 ∙ g.1)

  pub image_left : {m n k l : ℕ} (T : Mat l m) (A : Mat m n) (B : Mat m k) → InImage M A B → InImage M (T ⊛ A) (T ⊛ B)
  image_left T A B h = (h.0, assoc T A h.0 ∙ ap (λ y. T ⊛ y) h.1)

  pub image_twist : (e : ℕ) {m n k : ℕ} (A : Mat m n) (B : Mat m k) → InImage M A B → InImage M (twist e A) (twist e B)
  image_twist e A B h = (twist e h.0, sym (twist_mul e A h.0) ∙ ap (λ y. twist e y) h.1)

  pub image_add : {m n k : ℕ} (A : Mat m n) (B C : Mat m k) → InImage M A B → InImage M A C → InImage M A (B ⊕ C)
  image_add A B C h g = (h.0 ⊕ g.0, dist_left A h.0 g.0 ∙ ap (λ y. y ⊕ A ⊛ g.0) h.1 ∙ ap (λ y. B ⊕ y) g.1)

  pub image_neg : {m n k : ℕ} (A : Mat m n) (B : Mat m k) → InImage M A B → InImage M A (neg B)
  image_neg A B h = (neg h.0, mul_neg A h.0 ∙ ap (λ y. neg y) h.1)

  pub image_nil : {m n : ℕ} (k : ℕ) (A : Mat m n) → InImage M A (nil m k)
  image_nil {m} {n} k A = (nil n k, mul_nil A)

  pub image_near : {m n k : ℕ} (A : Mat m n) (B C : Mat m k) → InImage M A (B ⊕ neg C) → InImage M A C → InImage M A B
  image_near A B C h g = subst (λ y. InImage M A y) (sub_add B C) (image_add A C (B ⊕ neg C) g h)

  -- ---- column by column
  pub image_columns : {m n k : ℕ} (A : Mat m n) (B : Mat m k) → ((c : ℕ) (h : c < k) → InImage M A (B ⊛ basis k c h)) → InImage M A B
  image_columns A B f = gather B A f

  pub within_columns : {m n k : ℕ} (A : Mat m n) (B : Mat m k) → Within M B A → InImage M A B
  within_columns {m} {n} {k} A B f = gather B A (λ c h. f (B ⊛ basis k c h) (image_self B (basis k c h)))

  pub columns_within : {m n k : ℕ} (A : Mat m n) (B : Mat m k) → InImage M A B → Within M B A
  columns_within A B h v g = image_trans A B v h g

  pub within_twist : (e : ℕ) {m n k : ℕ} (A : Mat m n) (B : Mat m k) → Within M A B → Within M (twist e A) (twist e B)
  within_twist e A B f = columns_within (twist e B) (twist e A) (image_twist e B A (within_columns B A f))

  pub everything_columns : {m n : ℕ} (A : Mat m n) → Everything M A ↔ InImage M A (unit m)
  everything_columns {m} {n} A = (
    λ f. gather (unit m) A (λ c h. f (unit m ⊛ basis m c h)),
    λ h v. subst (λ y. InImage M A y) (unit_left v) (image_mul A (unit m) v h),
  )

  pub everything_twist : (e : ℕ) {m n : ℕ} (A : Mat m n) → Everything M A → Everything M (twist e A)
  everything_twist e {m} A f =
      (everything_columns (twist e A)).1 (subst (λ y. InImage M (twist e A) y) (twist_unit e m) (image_twist e A (unit m) ((everything_columns A).0 f)))

  -- ---- kernels and what a matrix generates
  pub nil_columns : {m n : ℕ} (A : Mat m n) → ((c : ℕ) (h : c < n) → A ⊛ basis n c h ≡ nil m 1) → A ≡ nil m n
  nil_columns {m} {n} A f =
      let r : InImage M (nil m zero) A = gather A (nil m zero) (λ c h. (nil zero 1, nil_mul m (nil zero 1) ∙ sym (f c h))) in
      sym r.1 ∙ nil_mul m r.0

  pub generates_matrix : {m n k l : ℕ} (C : Mat n l) (A : Mat m n) (B : Mat m k) → Generates M C A B → InImage M B (A ⊛ C)
  generates_matrix {m} {n} {k} {l} C A B g =
      image_columns B (A ⊛ C) (λ c h. subst (λ y. InImage M B y) (sym (assoc A C (basis l c h))) ((g (C ⊛ basis l c h)).0 (image_self C (basis l c h))))

  pub kernel_product : {m n l : ℕ} (C : Mat n l) (A : Mat m n) → GeneratesKernel M C A → A ⊛ C ≡ nil m l
  kernel_product {m} {n} {l} C A g =
      nil_columns (A ⊛ C) (λ c h. assoc A C (basis l c h) ∙ (g (C ⊛ basis l c h)).0 (image_self C (basis l c h)))

  pub kernel_matrix : {m n l k : ℕ} (C : Mat n l) (A : Mat m n) → GeneratesKernel M C A → (W : Mat n k) → A ⊛ W ≡ nil m k → InImage M C W
  kernel_matrix {m} {n} {l} {k} C A g W e =
      image_columns C W (λ c h. (g (W ⊛ basis k c h)).1 (sym (assoc A W (basis k c h)) ∙ ap (λ y. y ⊛ basis k c h) e ∙ nil_mul m (basis k c h)))

  -- a kernel is the preimage of the image of a matrix with no columns
  pub kernel_nil : {m n l : ℕ} (C : Mat n l) (A : Mat m n) → GeneratesKernel M C A → Generates M C A (nil m zero)
  kernel_nil {m} {n} {l} C A g w = (
    λ h. (nil zero 1, nil_mul m (nil zero 1) ∙ sym ((g w).0 h)),
    λ h. (g w).1 (sym h.1 ∙ nil_mul m h.0),
  )

  pub nil_kernel : {m n l : ℕ} (C : Mat n l) (A : Mat m n) → Generates M C A (nil m zero) → GeneratesKernel M C A
  nil_kernel {m} {n} {l} C A g w = (
    λ h. let r : InImage M (nil m zero) (A ⊛ w) = (g w).0 h in sym r.1 ∙ nil_mul m r.0,
    λ h. (g w).1 (nil zero 1, nil_mul m (nil zero 1) ∙ sym h),
  )

  pub twist_product : (e : ℕ) {m n k : ℕ} (A : Mat m n) (C : Mat n k) (y : Mat k 1) → twist e A ⊛ (twist e C ⊛ y) ≡ twist e (A ⊛ C) ⊛ y
  twist_product e A C y = sym (assoc (twist e A) (twist e C) y) ∙ ap (λ x. x ⊛ y) (sym (twist_mul e A C))

  -- ---- flatness of Frobenius
  module _ (F : Flat M) where
    pub generates_twist : (e : ℕ) {m n k l : ℕ} (C : Mat n l) (A : Mat m n) (B : Mat m k) → Generates M C A B
        → Generates M (twist e C) (twist e A) (twist e B)
    generates_twist e {m} {n} {k} {l} C A B g w = (
      (λ h.
          let r : InImage M (twist e B) (twist e (A ⊛ C)) = image_twist e B (A ⊛ C) (generates_matrix C A B g) in
          let r' : InImage M (twist e B) (twist e (A ⊛ C) ⊛ h.0) = image_mul (twist e B) (twist e (A ⊛ C)) h.0 r in
          let q : twist e (A ⊛ C) ⊛ h.0 ≡ twist e A ⊛ w = sym (twist_product e A C h.0) ∙ ap (λ x. twist e A ⊛ x) h.1 in
          subst (λ x. InImage M (twist e B) x) q r'),
      (λ h. F.flat e A B C (λ v. (g v).1) w h),
    )

    pub kernel_twist : (e : ℕ) {m n l : ℕ} (C : Mat n l) (A : Mat m n) → GeneratesKernel M C A → GeneratesKernel M (twist e C) (twist e A)
    kernel_twist e {m} {n} C A g =
        nil_kernel (twist e C) (twist e A) (subst (λ x. Generates M (twist e C) (twist e A) x) (twist_nil e m zero) (generates_twist e C A (nil m zero) (kernel_nil C A g)))

    pub member_twist : (e : ℕ) {m n : ℕ} (A : Mat m n) (v : Mat m 1) → InImage M A v ↔ InImage M (twist e A) (twist e v)
    member_twist e A v = (λ h. image_twist e A v h, λ h. F.descend e A v h)
