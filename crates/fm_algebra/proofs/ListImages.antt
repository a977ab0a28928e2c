-- Images, kernels and flatness of matrices of lists
use Rattle.std.proofs.Common.{ℕ, ◌≡◌, ◌∙◌, ◌↔◌, refl, sym, ap, subst, List, length, map, replicate}
use Rattle.std.proofs.lemmas.List.{length-map, length-replicate}
use Rattle.fm_algebra.specs.Ring.{Ring, IsRing, IsFrobenius, IsSliced}
use Rattle.fm_algebra.specs.Matrix.{Matrix, cols, IsShaped, entry, apply, product, entrywise, InListImage, InListKernel, InListPreimage}
use Rattle.fm_algebra.specs.Families.{Mat, mul, each, read, vector, families}
use Rattle.fm_algebra.specs.Image.{InImage, InKernel}
use Rattle.fm_algebra.proofs.Generation.{Generates, GeneratesKernel}
use Rattle.fm_algebra.proofs.FamilyLaws.{families_laws, twist_zero}
use Rattle.fm_algebra.proofs.Tables.{read_injective, read_product, product_shaped, write, write_shaped, read_write, rows_table, cols_table, read_entrywise, length-apply, vector_apply, vector_injective, vector_zero, vector_map, list_of, length-list_of, vector_list_of}
use Rattle.fm_algebra.proofs.Images.{image_nil, kernel_twist, generates_twist, member_twist, mul_nil}
use Rattle.fm_algebra.proofs.Flatness.{IsListed, monomials, slices, slices_generate, slices_equation, is_flat}

pub through : {P Q S : Type 0} → P ↔ Q → Q ↔ S → P ↔ S
through f g = (λ x. g.0 (f.0 x), λ z. f.1 (g.1 z))

pub turned : {P Q : Type 0} → P ↔ Q → Q ↔ P
turned f = (f.1, f.0)

-- an equivalence may assume what follows from either side
by_length : {P Q S : Type 0} → (P → S) → (Q → S) → (S → P ↔ Q) → P ↔ Q
by_length f g h = (λ x. (h (f x)).0 x, λ y. (h (g y)).1 y)

module _ (R : Ring) (twist : ℕ → R.Carrier → R.Carrier) where
  -- a vector is in the image of a matrix of lists exactly if it is in that of its entries
  pub list_image : (m n : ℕ) (A : Matrix R) (v : List R.Carrier) → A.rows ≡ m → cols R A ≡ n → length v ≡ m
      → InListImage R A v ↔ InImage (families R twist) (read R m n A) (vector R m v)
  list_image m n A v p q l = (
    λ h. (vector R n h.0, sym (vector_apply R m n A h.0 p q) ∙ ap (vector R m) h.2),
    λ h. let w : List R.Carrier = list_of R n h.0 in (
      w,
      length-list_of R n h.0 ∙ sym q,
      vector_injective R m (apply R A w) v (length-apply R A w ∙ p) l (vector_apply R m n A w p q ∙ ap (λ X. mul R (read R m n A) X) (vector_list_of R n h.0) ∙ h.1),
    ),
  )

  pub list_kernel : (m n : ℕ) (A : Matrix R) (w : List R.Carrier) → A.rows ≡ m → cols R A ≡ n → length w ≡ n
      → InListKernel R A w ↔ InKernel (families R twist) (read R m n A) (vector R n w)
  list_kernel m n A w p q l = (
    λ h. sym (vector_apply R m n A w p q) ∙ ap (vector R m) (h.1 ∙ ap (λ x. replicate x R.zero) p) ∙ vector_zero R m,
    λ h. (
      l ∙ sym q,
      vector_injective R m (apply R A w) (replicate A.rows R.zero) (length-apply R A w ∙ p) (length-replicate A.rows R.zero ∙ p) (vector_apply R m n A w p q ∙ h ∙ sym (vector_zero R m) ∙ ap (λ x. vector R m (replicate x R.zero)) (sym p)),
    ),
  )

  -- A * w is in im B
  pub list_preimage : (m n k : ℕ) (A B : Matrix R) (w : List R.Carrier) → A.rows ≡ m → cols R A ≡ n → B.rows ≡ m → cols R B ≡ k
      → InListImage R B (apply R A w) ↔ InImage (families R twist) (read R m k B) (mul R (read R m n A) (vector R n w))
  list_preimage m n k A B w p q r s =
      subst (λ x. InListImage R B (apply R A w) ↔ InImage (families R twist) (read R m k B) x) (vector_apply R m n A w p q) (list_image m k B (apply R A w) r s (length-apply R A w ∙ p))

  -- a vector in the image has as many entries as the matrix has rows
  pub length_image : (A : Matrix R) (v : List R.Carrier) → InListImage R A v → length v ≡ A.rows
  length_image A v h = sym (ap length h.2) ∙ length-apply R A h.0

  rows_entrywise : (t : R.Carrier → R.Carrier) (A : Matrix R) → (entrywise R t A).rows ≡ A.rows
  unfolding entrywise
  rows_entrywise t A = rows_table R A.rows (cols R A) (λ i j. t (entry R A i j))

  cols_entrywise : (t : R.Carrier → R.Carrier) (A : Matrix R) → cols R (entrywise R t A) ≡ cols R A
  unfolding entrywise
  cols_entrywise t A = cols_table R A.rows (cols R A) (λ i j. t (entry R A i j))

  module _ (L : IsRing R) (F : IsFrobenius R twist) where
    -- the zero vector is in every image
    zero_in_image : (A : Matrix R) → InListImage R A (replicate A.rows R.zero)
    zero_in_image A =
        (list_image A.rows (cols R A) A (replicate A.rows R.zero) refl refl (length-replicate A.rows R.zero)).1 (subst (λ x. InImage (families R twist) (read R A.rows (cols R A) A) x) (sym (vector_zero R A.rows)) (image_nil (families_laws L F) 1 (read R A.rows (cols R A) A)))

    module _ {I : ℕ → Type 0} {slice : (e : ℕ) → I e → R.Carrier → R.Carrier} (S : (e : ℕ) → IsSliced R (I e) (twist e) (slice e)) where
      -- the twist of a matrix of lists
      abbrev power : ℕ → Matrix R → Matrix R
      power e A = entrywise R (twist e) A

      -- membership in the image of a twist, in families
      twist_image : (e m n : ℕ) (A : Matrix R) (v : List R.Carrier) → A.rows ≡ m → cols R A ≡ n → length v ≡ m
          → InListImage R (power e A) v ↔ InImage (families R twist) (each R (twist e) (read R m n A)) (vector R m v)
      twist_image e m n A v p q l =
          subst (λ X. InListImage R (power e A) v ↔ InImage (families R twist) X (vector R m v)) (read_entrywise R (twist e) m n A p q) (list_image m n (power e A) v (rows_entrywise (twist e) A ∙ p) (cols_entrywise (twist e) A ∙ q) l)

      twist_kernel : (e m n : ℕ) (A : Matrix R) (w : List R.Carrier) → A.rows ≡ m → cols R A ≡ n → length w ≡ n
          → InListKernel R (power e A) w ↔ InKernel (families R twist) (each R (twist e) (read R m n A)) (vector R n w)
      twist_kernel e m n A w p q l =
          subst (λ X. InListKernel R (power e A) w ↔ InKernel (families R twist) X (vector R n w)) (read_entrywise R (twist e) m n A p q) (list_kernel m n (power e A) w (rows_entrywise (twist e) A ∙ p) (cols_entrywise (twist e) A ∙ q) l)

      twist_preimage : (e m n k : ℕ) (A B : Matrix R) (w : List R.Carrier) → A.rows ≡ m → cols R A ≡ n → B.rows ≡ m → cols R B ≡ k
          → InListImage R (power e B) (apply R (power e A) w) ↔ InImage (families R twist) (each R (twist e) (read R m k B)) (mul R (each R (twist e) (read R m n A)) (vector R n w))
      twist_preimage e m n k A B w p q r s =
          subst (λ X. InListImage R (power e B) (apply R (power e A) w) ↔ InImage (families R twist) (each R (twist e) (read R m k B)) X)
          (vector_apply R m n (power e A) w (rows_entrywise (twist e) A ∙ p) (cols_entrywise (twist e) A ∙ q) ∙ ap (λ X. mul R X (vector R n w)) (read_entrywise R (twist e) m n A p q))
          (twist_image e m k B (apply R (power e A) w) r s (length-apply R (power e A) w ∙ rows_entrywise (twist e) A ∙ p))

      -- v is in im A exactly if its twist is in the image of the twist of A
      pub list_member_twist : (e : ℕ) (A : Matrix R) (v : List R.Carrier) → InListImage R A v ↔ InListImage R (power e A) (map (twist e) v)
      list_member_twist e A v =
          by_length (length_image A v) (λ h. sym (length-map v (twist e)) ∙ length_image (power e A) (map (twist e) v) h ∙ rows_entrywise (twist e) A) at
        where
          at : length v ≡ A.rows → InListImage R A v ↔ InListImage R (power e A) (map (twist e) v)
          at l =
              through (list_image A.rows (cols R A) A v refl refl l)
              (through (member_twist (families_laws L F) (is_flat L S) e (read R A.rows (cols R A) A) (vector R A.rows v))
              (turned (subst (λ X. InListImage R (power e A) (map (twist e) v) ↔ InImage (families R twist) (each R (twist e) (read R A.rows (cols R A) A)) X) (vector_map R (twist e) (twist_zero L F e) A.rows v) (twist_image e A.rows (cols R A) A (map (twist e) v) refl refl (length-map v (twist e) ∙ l)))))

      -- the kernel of the twist of A is generated by the twists of generators of ker A
      pub list_kernel_twist : (e : ℕ) (A C : Matrix R) → ((w : List R.Carrier) → InListKernel R A w ↔ InListImage R C w)
          → (w : List R.Carrier) → InListKernel R (power e A) w ↔ InListImage R (power e C) w
      list_kernel_twist e A C g w =
          by_length (λ h. h.0 ∙ cols_entrywise (twist e) A) (λ h. length_image (power e C) w h ∙ rows_entrywise (twist e) C ∙ fits) at
        where
          m : ℕ
          m = A.rows

          fits : C.rows ≡ cols R A
          fits = sym (length-replicate C.rows R.zero) ∙ ((g (replicate C.rows R.zero)).1 (zero_in_image C)).0

          generates : GeneratesKernel (families R twist) (read R (cols R A) (cols R C) C) (read R A.rows (cols R A) A)
          generates x =
              subst (λ X. InImage (families R twist) (read R (cols R A) (cols R C) C) X ↔ InKernel (families R twist) (read R A.rows (cols R A) A) X) (vector_list_of R (cols R A) x)
              (through (turned (list_image (cols R A) (cols R C) C (list_of R (cols R A) x) fits refl (length-list_of R (cols R A) x)))
              (through (turned (g (list_of R (cols R A) x))) (list_kernel A.rows (cols R A) A (list_of R (cols R A) x) refl refl (length-list_of R (cols R A) x))))

          at : length w ≡ cols R A → InListKernel R (power e A) w ↔ InListImage R (power e C) w
          at l =
              through (twist_kernel e A.rows (cols R A) A w refl refl l)
              (through (turned (kernel_twist (families_laws L F) (is_flat L S) e (read R (cols R A) (cols R C) C) (read R A.rows (cols R A) A) generates (vector R (cols R A) w)))
              (turned (twist_image e (cols R A) (cols R C) C w fits refl l)))

      -- if im C has all w with A * w in im B, then the image of the twist of C has all w with this for the twists of A and B
      pub list_flat : (e : ℕ) (A B C : Matrix R) → ((w : List R.Carrier) → InListPreimage R A B w → InListImage R C w)
          → (w : List R.Carrier) → InListPreimage R (power e A) (power e B) w → InListImage R (power e C) w
      list_flat e A B C g w h = (twist_image e (cols R A) (cols R C) C w fits refl l).1 member
        where
          l : length w ≡ cols R A
          l = h.0 ∙ cols_entrywise (twist e) A

          rows : B.rows ≡ A.rows
          rows = sym (rows_entrywise (twist e) B) ∙ sym (length_image (power e B) (apply R (power e A) w) h.1) ∙ length-apply R (power e A) w ∙ rows_entrywise (twist e) A

          preimage : (x : List R.Carrier) → length x ≡ cols R A → InImage (families R twist) (read R A.rows (cols R B) B) (mul R (read R A.rows (cols R A) A) (vector R (cols R A) x)) → InListImage R C x
          preimage x q i = g x (q, (list_preimage A.rows (cols R A) (cols R B) A B x refl refl rows refl).1 i)

          zero_member : InListImage R C (replicate (cols R A) R.zero)
          zero_member =
              preimage (replicate (cols R A) R.zero) (length-replicate (cols R A) R.zero) (subst (λ X. InImage (families R twist) (read R A.rows (cols R B) B) X) (sym (ap (λ X. mul R (read R A.rows (cols R A) A) X) (vector_zero R (cols R A)) ∙ mul_nil (families_laws L F) (read R A.rows (cols R A) A))) (image_nil (families_laws L F) 1 (read R A.rows (cols R B) B)))

          fits : C.rows ≡ cols R A
          fits = sym (length_image C (replicate (cols R A) R.zero) zero_member) ∙ length-replicate (cols R A) R.zero

          generates : (x : Mat R (cols R A) 1) → InImage (families R twist) (read R A.rows (cols R B) B) (mul R (read R A.rows (cols R A) A) x) → InImage (families R twist) (read R (cols R A) (cols R C) C) x
          generates x i =
              subst (λ X. InImage (families R twist) (read R (cols R A) (cols R C) C) X) (vector_list_of R (cols R A) x)
              ((list_image (cols R A) (cols R C) C (list_of R (cols R A) x) fits refl (length-list_of R (cols R A) x)).0 (preimage (list_of R (cols R A) x) (length-list_of R (cols R A) x) (subst (λ X. InImage (families R twist) (read R A.rows (cols R B) B) (mul R (read R A.rows (cols R A) A) X)) (sym (vector_list_of R (cols R A) x)) i)))

          member : InImage (families R twist) (each R (twist e) (read R (cols R A) (cols R C) C)) (vector R (cols R A) w)
          member =
              (is_flat L S).flat e (read R A.rows (cols R A) A) (read R A.rows (cols R B) B) (read R (cols R A) (cols R C) C) generates (vector R (cols R A) w) ((twist_preimage e A.rows (cols R A) (cols R B) A B w refl refl rows refl).0 h.1)

      -- if C generates all w with A * w in im B, then the twist of C generates all w with this for the twists of A and B
      pub list_preimage_twist : (e : ℕ) (A B C : Matrix R) → ((w : List R.Carrier) → InListImage R C w ↔ InListPreimage R A B w)
          → (w : List R.Carrier) → InListImage R (power e C) w ↔ InListPreimage R (power e A) (power e B) w
      list_preimage_twist e A B C g w = (there, list_flat e A B C (λ x. (g x).1) w)
        where
          first : InListPreimage R A B (replicate C.rows R.zero)
          first = (g (replicate C.rows R.zero)).0 (zero_in_image C)

          fits : C.rows ≡ cols R A
          fits = sym (length-replicate C.rows R.zero) ∙ first.0

          rows : B.rows ≡ A.rows
          rows = sym (length_image B (apply R A (replicate C.rows R.zero)) first.1) ∙ length-apply R A (replicate C.rows R.zero)

          by_list : (x : List R.Carrier) → length x ≡ cols R A → InListImage R C x ↔ InListImage R B (apply R A x)
          by_list x q = (λ h. ((g x).0 h).1, λ h. (g x).1 (q, h))

          generates : Generates (families R twist) (read R (cols R A) (cols R C) C) (read R A.rows (cols R A) A) (read R A.rows (cols R B) B)
          generates x =
              subst (λ X. InImage (families R twist) (read R (cols R A) (cols R C) C) X ↔ InImage (families R twist) (read R A.rows (cols R B) B) (mul R (read R A.rows (cols R A) A) X)) (vector_list_of R (cols R A) x)
              (through (turned (list_image (cols R A) (cols R C) C (list_of R (cols R A) x) fits refl (length-list_of R (cols R A) x)))
              (through (by_list (list_of R (cols R A) x) (length-list_of R (cols R A) x)) (list_preimage A.rows (cols R A) (cols R B) A B (list_of R (cols R A) x) refl refl rows refl)))

          there : InListImage R (power e C) w → InListPreimage R (power e A) (power e B) w
          there h =
              let l : length w ≡ cols R A = length_image (power e C) w h ∙ rows_entrywise (twist e) C ∙ fits in (
                l ∙ sym (cols_entrywise (twist e) A),
                (twist_preimage e A.rows (cols R A) (cols R B) A B w refl refl rows refl).1 ((generates_twist (families_laws L F) (is_flat L S) e (read R (cols R A) (cols R C) C) (read R A.rows (cols R A) A) (read R A.rows (cols R B) B) generates (vector R (cols R A) w)).0 ((twist_image e (cols R A) (cols R C) C w fits refl l).0 h)),
              )

      -- The form by equations: where the twist of A sends w into the image of the twist of B, there are C and X with A * C = B * X
      -- and w in the image of the twist of C.
      pub list_equations : (N : (e : ℕ) → IsListed (I e)) (e : ℕ) (A B : Matrix R) (w : List R.Carrier) → InListPreimage R (power e A) (power e B) w
          → (C : Matrix R) × (X : Matrix R) × (IsShaped R (cols R A) (cols R C) C) × (IsShaped R (cols R B) (cols R C) X) × (product R A C ≡ product R B X) × InListImage R (power e C) w
      list_equations N e A B w h = (
        C,
        X,
        subst (λ k. IsShaped R (cols R A) k C) (sym c.1) c,
        subst (λ k. IsShaped R (cols R B) k X) (sym c.1) x,
        equal,
        (twist_image e (cols R A) count C w c.0 c.1 l).1 (subst (λ Y. InImage (families R twist) (each R (twist e) Y) (vector R (cols R A) w)) (sym (read_write R (cols R A) count ws)) (monomials L (S e) (N e), slices_generate L (S e) (N e) (vector R (cols R A) w))),
      )
        where
          count : ℕ
          count = (N e).count

          l : length w ≡ cols R A
          l = h.0 ∙ cols_entrywise (twist e) A

          rows : B.rows ≡ A.rows
          rows = sym (rows_entrywise (twist e) B) ∙ sym (length_image (power e B) (apply R (power e A) w) h.1) ∙ length-apply R (power e A) w ∙ rows_entrywise (twist e) A

          source : InImage (families R twist) (each R (twist e) (read R A.rows (cols R B) B)) (mul R (each R (twist e) (read R A.rows (cols R A) A)) (vector R (cols R A) w))
          source = (twist_preimage e A.rows (cols R A) (cols R B) A B w refl refl rows refl).0 h.1

          ws : Mat R (cols R A) count
          ws = slices L (S e) (N e) (vector R (cols R A) w)

          us : Mat R (cols R B) count
          us = slices L (S e) (N e) source.0

          C : Matrix R
          C = write R (cols R A) count ws

          X : Matrix R
          X = write R (cols R B) count us

          c : IsShaped R (cols R A) count C
          c = write_shaped R (cols R A) count ws

          x : IsShaped R (cols R B) count X
          x = write_shaped R (cols R B) count us

          equal : product R A C ≡ product R B X
          equal =
              read_injective R A.rows count (product R A C) (product R B X) (product_shaped R A.rows count A C refl c.1) (product_shaped R A.rows count B X rows x.1)
              (read_product R A.rows (cols R A) count A C refl refl c.1 ∙ ap (λ Y. mul R (read R A.rows (cols R A) A) Y) (read_write R (cols R A) count ws)
              ∙ sym (slices_equation L (S e) (N e) (read R A.rows (cols R A) A) (read R A.rows (cols R B) B) (vector R (cols R A) w) source.0 source.1)
              ∙ sym (read_product R A.rows (cols R B) count B X rows refl x.1 ∙ ap (λ Y. mul R (read R A.rows (cols R B) B) Y) (read_write R (cols R B) count us)))
