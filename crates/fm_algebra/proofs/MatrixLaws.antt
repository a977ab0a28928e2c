-- Laws of matrices of lists, from those of families
use Rattle.std.proofs.Common.{ℕ, zero, ◌+◌, ◌<◌, ◌≡◌, ◌∙◌, sym, ap, ap₂, List, [], length, get_or}
use Rattle.std.proofs.lemmas.List.{length-map}
use Rattle.fm_algebra.specs.Ring.{Ring, IsRing, IsFrobenius}
use Rattle.fm_algebra.specs.Matrix.{Matrix, entry, IsShaped, column_matrix, product, apply, sum, negative, zero_matrix, scalar_matrix, unit_matrix, transpose, entrywise, joined, stacked, picked, InListImage, InListKernel}
use Rattle.fm_algebra.specs.Families.{delta, mul, add, flip, each, beside, stack, read, vector, element, families}
use Rattle.fm_algebra.specs.Image.{InImage}
use Rattle.fm_algebra.proofs.FamilyLaws.{assoc, unit_left, unit_right, dist_left, dist_right, flip_mul, join_mul, scalar_mul, sum_comm, sum_assoc, sum_nil, sum_neg, sum_at, each_mul, each_add, each_unit, each_none, each_each, each_beside, each_stack, flip_beside, families_laws}
use Rattle.fm_algebra.proofs.Images.{image_trans, mul_nil}
use Rattle.fm_algebra.proofs.Tables.{read_injective, read_product, product_shaped, read_sum, sum_shaped, read_negative, read_zero, zero_shaped, read_scalar, scalar_shaped, read_unit, unit_shaped, read_transpose, transpose_shaped, read_entrywise, entrywise_shaped, read_joined, joined_shaped, read_stacked, stacked_shaped, read_column, column_shaped, entry_picked, length-apply, vector_apply, vector_injective}
use Rattle.fm_algebra.proofs.ListImages.{list_image, list_kernel, length_image}

module _ {R : Ring} (L : IsRing R) where
  -- (A * B) * C = A * (B * C)
  pub product_assoc : (m n k l : ℕ) (A B C : Matrix R) → IsShaped R m n A → IsShaped R n k B → IsShaped R k l C
      → product R (product R A B) C ≡ product R A (product R B C)
  product_assoc m n k l A B C a b c =
      let ab = product_shaped R m k A B a.0 b.1 in
      let bc = product_shaped R n l B C b.0 c.1 in
      read_injective R m l (product R (product R A B) C) (product R A (product R B C)) (product_shaped R m l (product R A B) C ab.0 c.1) (product_shaped R m l A (product R B C) a.0 bc.1)
      (read_product R m k l (product R A B) C ab.0 ab.1 c.1 ∙ ap (λ X. mul R X (read R k l C)) (read_product R m n k A B a.0 a.1 b.1)
      ∙ assoc L (read R m n A) (read R n k B) (read R k l C)
      ∙ sym (read_product R m n l A (product R B C) a.0 a.1 bc.1 ∙ ap (λ X. mul R (read R m n A) X) (read_product R n k l B C b.0 b.1 c.1)))

  pub unit_product : (m n : ℕ) (A : Matrix R) → IsShaped R m n A → product R (unit_matrix R m) A ≡ A
  unit_product m n A a =
      let u = unit_shaped R m in
      read_injective R m n (product R (unit_matrix R m) A) A (product_shaped R m n (unit_matrix R m) A u.0 a.1) a
      (read_product R m m n (unit_matrix R m) A u.0 u.1 a.1 ∙ ap (λ X. mul R X (read R m n A)) (read_unit R m) ∙ unit_left L (read R m n A))

  pub product_unit : (m n : ℕ) (A : Matrix R) → IsShaped R m n A → product R A (unit_matrix R n) ≡ A
  product_unit m n A a =
      let u = unit_shaped R n in
      read_injective R m n (product R A (unit_matrix R n)) A (product_shaped R m n A (unit_matrix R n) a.0 u.1) a
      (read_product R m n n A (unit_matrix R n) a.0 a.1 u.1 ∙ ap (λ X. mul R (read R m n A) X) (read_unit R n) ∙ unit_right L (read R m n A))

  pub product_sum : (m n k : ℕ) (A B C : Matrix R) → IsShaped R m n A → IsShaped R n k B → IsShaped R n k C
      → product R A (sum R B C) ≡ sum R (product R A B) (product R A C)
  product_sum m n k A B C a b c =
      let s = sum_shaped R n k B C b.0 b.1 in
      let ab = product_shaped R m k A B a.0 b.1 in
      let ac = product_shaped R m k A C a.0 c.1 in
      read_injective R m k (product R A (sum R B C)) (sum R (product R A B) (product R A C)) (product_shaped R m k A (sum R B C) a.0 s.1) (sum_shaped R m k (product R A B) (product R A C) ab.0 ab.1)
      (read_product R m n k A (sum R B C) a.0 a.1 s.1 ∙ ap (λ X. mul R (read R m n A) X) (read_sum R n k B C b.0 b.1)
      ∙ dist_left L (read R m n A) (read R n k B) (read R n k C)
      ∙ sym (read_sum R m k (product R A B) (product R A C) ab.0 ab.1 ∙ ap₂ (λ X Y. add R X Y) (read_product R m n k A B a.0 a.1 b.1) (read_product R m n k A C a.0 a.1 c.1)))

  pub sum_product : (m n k : ℕ) (A B C : Matrix R) → IsShaped R m n A → IsShaped R m n B → IsShaped R n k C
      → product R (sum R A B) C ≡ sum R (product R A C) (product R B C)
  sum_product m n k A B C a b c =
      let s = sum_shaped R m n A B a.0 a.1 in
      let ac = product_shaped R m k A C a.0 c.1 in
      read_injective R m k (product R (sum R A B) C) (sum R (product R A C) (product R B C)) (product_shaped R m k (sum R A B) C s.0 c.1) (sum_shaped R m k (product R A C) (product R B C) ac.0 ac.1)
      (read_product R m n k (sum R A B) C s.0 s.1 c.1 ∙ ap (λ X. mul R X (read R n k C)) (read_sum R m n A B a.0 a.1)
      ∙ dist_right L (read R m n A) (read R m n B) (read R n k C)
      ∙ sym (read_sum R m k (product R A C) (product R B C) ac.0 ac.1 ∙ ap₂ (λ X Y. add R X Y) (read_product R m n k A C a.0 a.1 c.1) (read_product R m n k B C b.0 b.1 c.1)))

  -- ---- sums
  pub matrix_sum_comm : (m n : ℕ) (A B : Matrix R) → IsShaped R m n A → IsShaped R m n B → sum R A B ≡ sum R B A
  matrix_sum_comm m n A B a b =
      read_injective R m n (sum R A B) (sum R B A) (sum_shaped R m n A B a.0 a.1) (sum_shaped R m n B A b.0 b.1)
      (read_sum R m n A B a.0 a.1 ∙ sum_comm L (read R m n A) (read R m n B) ∙ sym (read_sum R m n B A b.0 b.1))

  pub matrix_sum_assoc : (m n : ℕ) (A B C : Matrix R) → IsShaped R m n A → IsShaped R m n B → IsShaped R m n C
      → sum R (sum R A B) C ≡ sum R A (sum R B C)
  matrix_sum_assoc m n A B C a b c =
      let ab = sum_shaped R m n A B a.0 a.1 in
      read_injective R m n (sum R (sum R A B) C) (sum R A (sum R B C)) (sum_shaped R m n (sum R A B) C ab.0 ab.1) (sum_shaped R m n A (sum R B C) a.0 a.1)
      (read_sum R m n (sum R A B) C ab.0 ab.1 ∙ ap (λ X. add R X (read R m n C)) (read_sum R m n A B a.0 a.1)
      ∙ sum_assoc L (read R m n A) (read R m n B) (read R m n C)
      ∙ sym (read_sum R m n A (sum R B C) a.0 a.1 ∙ ap (λ X. add R (read R m n A) X) (read_sum R m n B C b.0 b.1)))

  pub matrix_sum_zero : (m n : ℕ) (A : Matrix R) → IsShaped R m n A → sum R A (zero_matrix R m n) ≡ A
  matrix_sum_zero m n A a =
      read_injective R m n (sum R A (zero_matrix R m n)) A (sum_shaped R m n A (zero_matrix R m n) a.0 a.1) a
      (read_sum R m n A (zero_matrix R m n) a.0 a.1 ∙ ap (λ X. add R (read R m n A) X) (read_zero R m n) ∙ sum_nil L (read R m n A))

  pub matrix_sum_negative : (m n : ℕ) (A : Matrix R) → IsShaped R m n A → sum R A (negative R A) ≡ zero_matrix R m n
  matrix_sum_negative m n A a =
      read_injective R m n (sum R A (negative R A)) (zero_matrix R m n) (sum_shaped R m n A (negative R A) a.0 a.1) (zero_shaped R m n)
      (read_sum R m n A (negative R A) a.0 a.1 ∙ ap (λ X. add R (read R m n A) X) (read_negative R m n A a.0 a.1) ∙ sum_neg L (read R m n A) ∙ sym (read_zero R m n))

  pub scalar_commutes : (f : R.Carrier) (m n : ℕ) (A : Matrix R) → IsShaped R m n A
      → product R (scalar_matrix R f m) A ≡ product R A (scalar_matrix R f n)
  scalar_commutes f m n A a =
      let s = scalar_shaped R f m in
      let t = scalar_shaped R f n in
      read_injective R m n (product R (scalar_matrix R f m) A) (product R A (scalar_matrix R f n)) (product_shaped R m n (scalar_matrix R f m) A s.0 a.1) (product_shaped R m n A (scalar_matrix R f n) a.0 t.1)
      (read_product R m m n (scalar_matrix R f m) A s.0 s.1 a.1 ∙ ap (λ X. mul R X (read R m n A)) (read_scalar R f m)
      ∙ scalar_mul L (element R f) (read R m n A)
      ∙ sym (read_product R m n n A (scalar_matrix R f n) a.0 a.1 t.1 ∙ ap (λ X. mul R (read R m n A) X) (read_scalar R f n)))

  -- ---- transposes
  pub transpose_transpose : (m n : ℕ) (A : Matrix R) → IsShaped R m n A → transpose R (transpose R A) ≡ A
  unfolding flip
  transpose_transpose m n A a =
      let t = transpose_shaped R m n A a.0 a.1 in
      read_injective R m n (transpose R (transpose R A)) A (transpose_shaped R n m (transpose R A) t.0 t.1) a
      (read_transpose R n m (transpose R A) t.0 t.1 ∙ ap (λ X. flip R X) (read_transpose R m n A a.0 a.1))

  pub transpose_product : (m n k : ℕ) (A B : Matrix R) → IsShaped R m n A → IsShaped R n k B
      → transpose R (product R A B) ≡ product R (transpose R B) (transpose R A)
  transpose_product m n k A B a b =
      let ab = product_shaped R m k A B a.0 b.1 in
      let ta = transpose_shaped R m n A a.0 a.1 in
      let tb = transpose_shaped R n k B b.0 b.1 in
      read_injective R k m (transpose R (product R A B)) (product R (transpose R B) (transpose R A)) (transpose_shaped R m k (product R A B) ab.0 ab.1) (product_shaped R k m (transpose R B) (transpose R A) tb.0 ta.1)
      (read_transpose R m k (product R A B) ab.0 ab.1 ∙ ap (λ X. flip R X) (read_product R m n k A B a.0 a.1 b.1)
      ∙ flip_mul L (read R m n A) (read R n k B)
      ∙ sym (read_product R k n m (transpose R B) (transpose R A) tb.0 tb.1 ta.1 ∙ ap₂ (λ X Y. mul R X Y) (read_transpose R n k B b.0 b.1) (read_transpose R m n A a.0 a.1)))

  pub transpose_sum : (m n : ℕ) (A B : Matrix R) → IsShaped R m n A → IsShaped R m n B → transpose R (sum R A B) ≡ sum R (transpose R A) (transpose R B)
  unfolding flip add
  transpose_sum m n A B a b =
      let s = sum_shaped R m n A B a.0 a.1 in
      let ta = transpose_shaped R m n A a.0 a.1 in
      read_injective R n m (transpose R (sum R A B)) (sum R (transpose R A) (transpose R B)) (transpose_shaped R m n (sum R A B) s.0 s.1) (sum_shaped R n m (transpose R A) (transpose R B) ta.0 ta.1)
      (read_transpose R m n (sum R A B) s.0 s.1 ∙ ap (λ X. flip R X) (read_sum R m n A B a.0 a.1)
      ∙ sym (read_sum R n m (transpose R A) (transpose R B) ta.0 ta.1 ∙ ap₂ (λ X Y. add R X Y) (read_transpose R m n A a.0 a.1) (read_transpose R m n B b.0 b.1)))

  pub transpose_joined : (m n k : ℕ) (A B : Matrix R) → IsShaped R m n A → IsShaped R m k B
      → transpose R (joined R A B) ≡ stacked R (transpose R A) (transpose R B)
  transpose_joined m n k A B a b =
      let j = joined_shaped R m n k A B a.0 a.1 b.1 in
      let ta = transpose_shaped R m n A a.0 a.1 in
      let tb = transpose_shaped R m k B b.0 b.1 in
      read_injective R (n + k) m (transpose R (joined R A B)) (stacked R (transpose R A) (transpose R B)) (transpose_shaped R m (n + k) (joined R A B) j.0 j.1) (stacked_shaped R n m k (transpose R A) (transpose R B) ta.0 tb.0 ta.1)
      (read_transpose R m (n + k) (joined R A B) j.0 j.1 ∙ ap (λ X. flip R X) (read_joined R m n k A B a.0 a.1 b.1)
      ∙ flip_beside L (read R m n A) (read R m k B)
      ∙ sym (read_stacked R n m k (transpose R A) (transpose R B) ta.0 tb.0 ta.1 ∙ ap₂ (λ X Y. stack R X Y) (read_transpose R m n A a.0 a.1) (read_transpose R m k B b.0 b.1)))

  -- ---- joins
  pub joined_stacked : (m n k l : ℕ) (A B X Y : Matrix R) → IsShaped R m n A → IsShaped R m k B → IsShaped R n l X → IsShaped R k l Y
      → product R (joined R A B) (stacked R X Y) ≡ sum R (product R A X) (product R B Y)
  joined_stacked m n k l A B X Y a b x y =
      let j = joined_shaped R m n k A B a.0 a.1 b.1 in
      let s = stacked_shaped R n l k X Y x.0 y.0 x.1 in
      let ax = product_shaped R m l A X a.0 x.1 in
      read_injective R m l (product R (joined R A B) (stacked R X Y)) (sum R (product R A X) (product R B Y)) (product_shaped R m l (joined R A B) (stacked R X Y) j.0 s.1) (sum_shaped R m l (product R A X) (product R B Y) ax.0 ax.1)
      (read_product R m (n + k) l (joined R A B) (stacked R X Y) j.0 j.1 s.1
      ∙ ap₂ (λ U V. mul R U V) (read_joined R m n k A B a.0 a.1 b.1) (read_stacked R n l k X Y x.0 y.0 x.1)
      ∙ join_mul L (read R m n A) (read R m k B) (read R n l X) (read R k l Y)
      ∙ sym (read_sum R m l (product R A X) (product R B Y) ax.0 ax.1 ∙ ap₂ (λ U V. add R U V) (read_product R m n l A X a.0 a.1 x.1) (read_product R m k l B Y b.0 b.1 y.1)))

  -- ---- matrices and vectors
  pub apply_product : (m n k : ℕ) (A B : Matrix R) (w : List R.Carrier) → IsShaped R m n A → IsShaped R n k B → length w ≡ k
      → apply R (product R A B) w ≡ apply R A (apply R B w)
  apply_product m n k A B w a b l =
      let ab = product_shaped R m k A B a.0 b.1 in
      vector_injective R m (apply R (product R A B) w) (apply R A (apply R B w)) (length-apply R (product R A B) w ∙ ab.0) (length-apply R A (apply R B w) ∙ a.0)
      (vector_apply R m k (product R A B) w ab.0 ab.1 ∙ ap (λ X. mul R X (vector R k w)) (read_product R m n k A B a.0 a.1 b.1)
      ∙ assoc L (read R m n A) (read R n k B) (vector R k w)
      ∙ sym (vector_apply R m n A (apply R B w) a.0 a.1 ∙ ap (λ X. mul R (read R m n A) X) (vector_apply R n k B w b.0 b.1)))

  pub product_column : (m n : ℕ) (A : Matrix R) (w : List R.Carrier) → IsShaped R m n A → length w ≡ n
      → product R A (column_matrix R w) ≡ column_matrix R (apply R A w)
  product_column m n A w a l =
      let c = column_shaped R n w l in
      read_injective R m 1 (product R A (column_matrix R w)) (column_matrix R (apply R A w)) (product_shaped R m 1 A (column_matrix R w) a.0 c.1) (column_shaped R m (apply R A w) (length-apply R A w ∙ a.0))
      (read_product R m n 1 A (column_matrix R w) a.0 a.1 c.1 ∙ ap (λ X. mul R (read R m n A) X) (read_column R n w)
      ∙ sym (read_column R m (apply R A w) ∙ vector_apply R m n A w a.0 a.1))

  -- ---- twists
  module _ {twist : ℕ → R.Carrier → R.Carrier} (F : IsFrobenius R twist) where
    pub twist_of_product : (e m n k : ℕ) (A B : Matrix R) → IsShaped R m n A → IsShaped R n k B
        → entrywise R (twist e) (product R A B) ≡ product R (entrywise R (twist e) A) (entrywise R (twist e) B)
    twist_of_product e m n k A B a b =
        let ab = product_shaped R m k A B a.0 b.1 in
        let ta = entrywise_shaped R (twist e) m n A a.0 a.1 in
        let tb = entrywise_shaped R (twist e) n k B b.0 b.1 in
        read_injective R m k (entrywise R (twist e) (product R A B)) (product R (entrywise R (twist e) A) (entrywise R (twist e) B)) (entrywise_shaped R (twist e) m k (product R A B) ab.0 ab.1) (product_shaped R m k (entrywise R (twist e) A) (entrywise R (twist e) B) ta.0 tb.1)
        (read_entrywise R (twist e) m k (product R A B) ab.0 ab.1 ∙ ap (λ X. each R (twist e) X) (read_product R m n k A B a.0 a.1 b.1)
        ∙ each_mul L F e (read R m n A) (read R n k B)
        ∙ sym (read_product R m n k (entrywise R (twist e) A) (entrywise R (twist e) B) ta.0 ta.1 tb.1 ∙ ap₂ (λ X Y. mul R X Y) (read_entrywise R (twist e) m n A a.0 a.1) (read_entrywise R (twist e) n k B b.0 b.1)))

    pub twist_of_sum : (e m n : ℕ) (A B : Matrix R) → IsShaped R m n A → IsShaped R m n B
        → entrywise R (twist e) (sum R A B) ≡ sum R (entrywise R (twist e) A) (entrywise R (twist e) B)
    twist_of_sum e m n A B a b =
        let s = sum_shaped R m n A B a.0 a.1 in
        let ta = entrywise_shaped R (twist e) m n A a.0 a.1 in
        read_injective R m n (entrywise R (twist e) (sum R A B)) (sum R (entrywise R (twist e) A) (entrywise R (twist e) B)) (entrywise_shaped R (twist e) m n (sum R A B) s.0 s.1) (sum_shaped R m n (entrywise R (twist e) A) (entrywise R (twist e) B) ta.0 ta.1)
        (read_entrywise R (twist e) m n (sum R A B) s.0 s.1 ∙ ap (λ X. each R (twist e) X) (read_sum R m n A B a.0 a.1)
        ∙ each_add L F e (read R m n A) (read R m n B)
        ∙ sym (read_sum R m n (entrywise R (twist e) A) (entrywise R (twist e) B) ta.0 ta.1 ∙ ap₂ (λ X Y. add R X Y) (read_entrywise R (twist e) m n A a.0 a.1) (read_entrywise R (twist e) m n B b.0 b.1)))

    pub twist_of_transpose : (e m n : ℕ) (A : Matrix R) → IsShaped R m n A → entrywise R (twist e) (transpose R A) ≡ transpose R (entrywise R (twist e) A)
    unfolding flip each
    twist_of_transpose e m n A a =
        let t = transpose_shaped R m n A a.0 a.1 in
        let ta = entrywise_shaped R (twist e) m n A a.0 a.1 in
        read_injective R n m (entrywise R (twist e) (transpose R A)) (transpose R (entrywise R (twist e) A)) (entrywise_shaped R (twist e) n m (transpose R A) t.0 t.1) (transpose_shaped R m n (entrywise R (twist e) A) ta.0 ta.1)
        (read_entrywise R (twist e) n m (transpose R A) t.0 t.1 ∙ ap (λ X. each R (twist e) X) (read_transpose R m n A a.0 a.1)
        ∙ sym (read_transpose R m n (entrywise R (twist e) A) ta.0 ta.1 ∙ ap (λ X. flip R X) (read_entrywise R (twist e) m n A a.0 a.1)))

    pub twist_of_unit : (e n : ℕ) → entrywise R (twist e) (unit_matrix R n) ≡ unit_matrix R n
    twist_of_unit e n =
        let u = unit_shaped R n in
        read_injective R n n (entrywise R (twist e) (unit_matrix R n)) (unit_matrix R n) (entrywise_shaped R (twist e) n n (unit_matrix R n) u.0 u.1) u
        (read_entrywise R (twist e) n n (unit_matrix R n) u.0 u.1 ∙ ap (λ X. each R (twist e) X) (read_unit R n) ∙ each_unit L F e n ∙ sym (read_unit R n))

    pub twist_by_none : (m n : ℕ) (A : Matrix R) → IsShaped R m n A → entrywise R (twist zero) A ≡ A
    twist_by_none m n A a =
        read_injective R m n (entrywise R (twist zero) A) A (entrywise_shaped R (twist zero) m n A a.0 a.1) a
        (read_entrywise R (twist zero) m n A a.0 a.1 ∙ each_none L F (read R m n A))

    pub twist_of_twist : (d e m n : ℕ) (A : Matrix R) → IsShaped R m n A
        → entrywise R (twist d) (entrywise R (twist e) A) ≡ entrywise R (twist (e + d)) A
    twist_of_twist d e m n A a =
        let t = entrywise_shaped R (twist e) m n A a.0 a.1 in
        read_injective R m n (entrywise R (twist d) (entrywise R (twist e) A)) (entrywise R (twist (e + d)) A) (entrywise_shaped R (twist d) m n (entrywise R (twist e) A) t.0 t.1) (entrywise_shaped R (twist (e + d)) m n A a.0 a.1)
        (read_entrywise R (twist d) m n (entrywise R (twist e) A) t.0 t.1 ∙ ap (λ X. each R (twist d) X) (read_entrywise R (twist e) m n A a.0 a.1)
        ∙ each_each L F d e (read R m n A)
        ∙ sym (read_entrywise R (twist (e + d)) m n A a.0 a.1))

    pub twist_of_joined : (e m n k : ℕ) (A B : Matrix R) → IsShaped R m n A → IsShaped R m k B
        → entrywise R (twist e) (joined R A B) ≡ joined R (entrywise R (twist e) A) (entrywise R (twist e) B)
    twist_of_joined e m n k A B a b =
        let j = joined_shaped R m n k A B a.0 a.1 b.1 in
        let ta = entrywise_shaped R (twist e) m n A a.0 a.1 in
        let tb = entrywise_shaped R (twist e) m k B b.0 b.1 in
        read_injective R m (n + k) (entrywise R (twist e) (joined R A B)) (joined R (entrywise R (twist e) A) (entrywise R (twist e) B)) (entrywise_shaped R (twist e) m (n + k) (joined R A B) j.0 j.1) (joined_shaped R m n k (entrywise R (twist e) A) (entrywise R (twist e) B) ta.0 ta.1 tb.1)
        (read_entrywise R (twist e) m (n + k) (joined R A B) j.0 j.1 ∙ ap (λ X. each R (twist e) X) (read_joined R m n k A B a.0 a.1 b.1)
        ∙ each_beside L F e (read R m n A) (read R m k B)
        ∙ sym (read_joined R m n k (entrywise R (twist e) A) (entrywise R (twist e) B) ta.0 ta.1 tb.1 ∙ ap₂ (λ X Y. beside R X Y) (read_entrywise R (twist e) m n A a.0 a.1) (read_entrywise R (twist e) m k B b.0 b.1)))

    pub twist_of_stacked : (e m n k : ℕ) (A B : Matrix R) → IsShaped R m n A → IsShaped R k n B
        → entrywise R (twist e) (stacked R A B) ≡ stacked R (entrywise R (twist e) A) (entrywise R (twist e) B)
    twist_of_stacked e m n k A B a b =
        let s = stacked_shaped R m n k A B a.0 b.0 a.1 in
        let ta = entrywise_shaped R (twist e) m n A a.0 a.1 in
        let tb = entrywise_shaped R (twist e) k n B b.0 b.1 in
        read_injective R (m + k) n (entrywise R (twist e) (stacked R A B)) (stacked R (entrywise R (twist e) A) (entrywise R (twist e) B)) (entrywise_shaped R (twist e) (m + k) n (stacked R A B) s.0 s.1) (stacked_shaped R m n k (entrywise R (twist e) A) (entrywise R (twist e) B) ta.0 tb.0 ta.1)
        (read_entrywise R (twist e) (m + k) n (stacked R A B) s.0 s.1 ∙ ap (λ X. each R (twist e) X) (read_stacked R m n k A B a.0 b.0 a.1)
        ∙ each_stack L F e (read R m n A) (read R k n B)
        ∙ sym (read_stacked R m n k (entrywise R (twist e) A) (entrywise R (twist e) B) ta.0 tb.0 ta.1 ∙ ap₂ (λ X Y. stack R X Y) (read_entrywise R (twist e) m n A a.0 a.1) (read_entrywise R (twist e) k n B b.0 b.1)))

    -- ---- images and kernels
    -- im (A * B) lies in im A
    pub image_of_product : (m n k : ℕ) (A B : Matrix R) (v : List R.Carrier) → IsShaped R m n A → IsShaped R n k B → InListImage R (product R A B) v → InListImage R A v
    image_of_product m n k A B v a b h =
        (apply R B h.0, length-apply R B h.0 ∙ b.0 ∙ sym a.1, sym (apply_product m n k A B h.0 a b (h.1 ∙ (product_shaped R m k A B a.0 b.1).1)) ∙ h.2)

    -- ker B lies in ker (A * B)
    pub kernel_of_product : (m n k : ℕ) (A B : Matrix R) (w : List R.Carrier) → IsShaped R m n A → IsShaped R n k B → InListKernel R B w → InListKernel R (product R A B) w
    kernel_of_product m n k A B w a b h =
        let ab = product_shaped R m k A B a.0 b.1 in
        let l : length w ≡ k = h.0 ∙ b.1 in
        (list_kernel R twist m k (product R A B) w ab.0 ab.1 l).1
        (ap (λ X. mul R X (vector R k w)) (read_product R m n k A B a.0 a.1 b.1)
        ∙ assoc L (read R m n A) (read R n k B) (vector R k w)
        ∙ ap (λ X. mul R (read R m n A) X) ((list_kernel R twist n k B w b.0 b.1 l).0 h)
        ∙ mul_nil (families_laws L F) (read R m n A))

    -- picked columns: A times a matrix of unit vectors
    read_picked : (m n : ℕ) (A : Matrix R) (js : List ℕ) (inside : (j : ℕ) → j < length js → get_or js j zero < n)
        → mul R (read R m n A) (λ s h j b. delta R s (get_or js j zero)) ≡ read R m (length js) (picked R A js)
    unfolding mul
    read_picked m n A js inside =
        λ t i a j b. (sum_at L n (get_or js j zero) (λ s h. entry R A i s) (inside j b) ∙ sym (entry_picked R A js i j b)) t

    -- the columns that are picked from A span no more than A does
    pub image_of_picked : (m n : ℕ) (A : Matrix R) (js : List ℕ) (v : List R.Carrier) → IsShaped R m n A → ((j : ℕ) → j < length js → get_or js j zero < n)
        → InListImage R (picked R A js) v → InListImage R A v
    unfolding picked
    image_of_picked m n A js v a inside h =
        let l : length v ≡ m = length_image R twist (picked R A js) v h ∙ a.0 in
        let p : InImage (families R twist) (read R m (length js) (picked R A js)) (vector R m v) = (list_image R twist m (length js) (picked R A js) v a.0 (length-map js (λ j. get_or A.columns j [])) l).0 h in
        let q : InImage (families R twist) (read R m n A) (read R m (length js) (picked R A js)) = ((λ s h j b. delta R s (get_or js j zero)), read_picked m n A js inside) in
        (list_image R twist m n A v a.0 a.1 l).1 (image_trans (families_laws L F) (read R m n A) (read R m (length js) (picked R A js)) (vector R m v) q p)
