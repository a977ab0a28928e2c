-- Facts on matrices of lists, read as facts on families
use Rattle.std.proofs.Common.{ℕ, ◌<◌, ◌≡◌, ◌∙◌, ◌↔◌, sym, subst, List, [], ◌∷◌, length, get_or, arith}
use Rattle.fm_algebra.specs.Ring.{Ring, IsRing, IsFrobenius}
use Rattle.fm_algebra.specs.Matrix.{Matrix, cols, entry, component, IsShaped, apply, InListImage, InListKernel, InListPreimage}
use Rattle.fm_algebra.specs.Families.{Mat, mul, basis, read, vector, families}
use Rattle.fm_algebra.specs.Image.{InImage, InKernel}
use Rattle.fm_algebra.proofs.Generation.{Generates, GeneratesKernel, SameImage}
use Rattle.fm_algebra.proofs.FamilyLaws.{sum_at, families_laws}
use Rattle.fm_algebra.proofs.Tables.{list_of, length-list_of, vector_list_of}
use Rattle.fm_algebra.proofs.Images.{image_columns, image_mul}
use Rattle.fm_algebra.proofs.ListImages.{through, turned, list_image, list_kernel, list_preimage}

-- what holds of lists of one entry
pub one_entry : {X : Type 0} (P Q : List X → Type 0) → ((f : X) → P (f ∷ []) ↔ Q (f ∷ [])) → (v : List X) → length v ≡ 1 → P v ↔ Q v
one_entry P Q g [] e = absurd (omega arith)
one_entry P Q g (f ∷ []) e = g f
one_entry P Q g (f ∷ h ∷ v) e = absurd (omega arith)

module _ (R : Ring) (twist : ℕ → R.Carrier → R.Carrier) where
  -- a vector of the families is that of a list
  by_list : (n : ℕ) (P : Mat R n 1 → Type 0) → ((w : List R.Carrier) → length w ≡ n → P (vector R n w)) → (x : Mat R n 1) → P x
  by_list n P f x = subst P (vector_list_of R n x) (f (list_of R n x) (length-list_of R n x))

  pub generates_kernel_read : (m n l : ℕ) (C A : Matrix R) → A.rows ≡ m → cols R A ≡ n → C.rows ≡ n → cols R C ≡ l
      → ((w : List R.Carrier) → InListKernel R A w ↔ InListImage R C w) → GeneratesKernel (families R twist) (read R n l C) (read R m n A)
  generates_kernel_read m n l C A p q r s g =
      by_list n (λ x. InImage (families R twist) (read R n l C) x ↔ InKernel (families R twist) (read R m n A) x) (λ w e. through (turned (list_image R twist n l C w r s e)) (through (turned (g w)) (list_kernel R twist m n A w p q e)))

  pub generates_read : (m n k l : ℕ) (C A B : Matrix R) → A.rows ≡ m → cols R A ≡ n → B.rows ≡ m → cols R B ≡ k → C.rows ≡ n → cols R C ≡ l
      → ((w : List R.Carrier) → InListPreimage R A B w ↔ InListImage R C w) → Generates (families R twist) (read R n l C) (read R m n A) (read R m k B)
  generates_read m n k l C A B p q u v r s g =
      by_list n (λ x. InImage (families R twist) (read R n l C) x ↔ InImage (families R twist) (read R m k B) (mul R (read R m n A) x)) (λ w e.
      let at : InListPreimage R A B w ↔ InListImage R B (apply R A w) = (λ h. h.1, λ h. (e ∙ sym q, h)) in
      through (turned (list_image R twist n l C w r s e)) (through (turned (g w)) (through at (list_preimage R twist m n k A B w p q u v))))

  -- what A sends into im B lies in im C, of lists and of families
  pub inside_read : (m n k l : ℕ) (C A B : Matrix R) → A.rows ≡ m → cols R A ≡ n → B.rows ≡ m → cols R B ≡ k → C.rows ≡ n → cols R C ≡ l
      → ((w : List R.Carrier) → InListPreimage R A B w → InListImage R C w)
      ↔ ((w : Mat R n 1) → InImage (families R twist) (read R m k B) (mul R (read R m n A) w) → InImage (families R twist) (read R n l C) w)
  inside_read m n k l C A B p q u v r s = (
    λ f. by_list n (λ x. InImage (families R twist) (read R m k B) (mul R (read R m n A) x) → InImage (families R twist) (read R n l C) x) (λ w e h.
        (list_image R twist n l C w r s e).0 (f w (e ∙ sym q, (list_preimage R twist m n k A B w p q u v).1 h))),
    λ f w h.
        let e : length w ≡ n = h.0 ∙ q in
        (list_image R twist n l C w r s e).1 (f (vector R n w) ((list_preimage R twist m n k A B w p q u v).0 h.1)),
  )

  -- the image of a vector as one of a list
  pub image_read : (m n : ℕ) (A : Matrix R) → A.rows ≡ m → cols R A ≡ n → (P : Mat R m 1 → Type 0)
      → ((v : List R.Carrier) → length v ≡ m → InListImage R A v → P (vector R m v)) → (x : Mat R m 1) → InImage (families R twist) (read R m n A) x → P x
  image_read m n A p q P f = by_list m (λ x. InImage (families R twist) (read R m n A) x → P x) (λ v e h. f v e ((list_image R twist m n A v p q e).1 h))

  -- two matrices of lists with one image
  pub same_read : (m n k : ℕ) (A B : Matrix R) → A.rows ≡ m → cols R A ≡ n → B.rows ≡ m → cols R B ≡ k
      → ((v : List R.Carrier) → length v ≡ m → InListImage R A v ↔ InListImage R B v) → SameImage (families R twist) (read R m n A) (read R m k B)
  same_read m n k A B p q r s g =
      by_list m (λ x. InImage (families R twist) (read R m n A) x ↔ InImage (families R twist) (read R m k B) x) (λ v e. through (turned (list_image R twist m n A v p q e)) (through (g v e) (list_image R twist m k B v r s e)))

  module _ (L : IsRing R) (F : IsFrobenius R twist) where
    -- a column of a matrix of lists
    pub column_read : (m k : ℕ) (B : Matrix R) (c : ℕ) (h : c < k) → mul R (read R m k B) (basis R k c h) ≡ vector R m (get_or B.columns c [])
    unfolding mul basis entry component
    column_read m k B c h = λ t i a j b. sum_at L k c (λ s g. get_or (get_or B.columns s []) i R.zero) h t

    -- each column of B is in im A
    pub columns_read : (m n k : ℕ) (A B : Matrix R) → A.rows ≡ m → cols R A ≡ n → IsShaped R m k B
        → ((c : ℕ) → c < cols R B → InListImage R A (get_or B.columns c [])) ↔ InImage (families R twist) (read R m n A) (read R m k B)
    columns_read m n k A B p q b = (
      λ f. image_columns (families_laws L F) (read R m n A) (read R m k B) (λ c h. subst (λ x. InImage (families R twist) (read R m n A) x) (sym (column_read m k B c h)) ((list_image R twist m n A (get_or B.columns c []) p q (b.2 c h)).0 (f c (subst (λ x. c < x) (sym b.1) h)))),
      λ h c i.
          let j : c < k = subst (λ x. c < x) b.1 i in
          (list_image R twist m n A (get_or B.columns c []) p q (b.2 c j)).1 (subst (λ x. InImage (families R twist) (read R m n A) x) (column_read m k B c j) (image_mul (families_laws L F) (read R m n A) (read R m k B) (basis R k c j) h)),
    )
