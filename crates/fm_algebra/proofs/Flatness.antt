-- Flatness of Frobenius from slices
use Rattle.std.proofs.Common.{ℕ, zero, suc, ◌<◌, ◌≡◌, ◌∙◌, sym, ap, arith}
use Rattle.fm_algebra.specs.Ring.{Ring, IsRing, IsSliced}
use Rattle.fm_algebra.specs.FiniteSums.{below, last, finite_sum}
use Rattle.fm_algebra.specs.Families.{only, Mat, delta, mul, each, families}
use Rattle.fm_algebra.specs.Image.{InImage}
use Rattle.fm_algebra.proofs.Generation.{Flat}
use Rattle.fm_algebra.proofs.Algebra.{add_zero, add_cancel}
use Rattle.fm_algebra.proofs.FiniteSums.{index, sum_ext}
use Rattle.fm_algebra.proofs.FamilyLaws.{sum_at}

-- a finite type: each member has a place below a number, and stands there
pub record IsListed (I : Type 0) : Type 0 where
  pub count : ℕ
  pub member : (k : ℕ) → k < count → I
  pub place : I → ℕ
  pub inside : (c : I) → place c < count
  pub found : (c : I) → member (place c) (inside c) ≡ c

module _ {R : Ring} (L : IsRing R) where
  open R use {Carrier, zero as 𝟘, one as 𝟙, add as ◌⊕◌, mul as ◌⊗◌}

  infixl 60 ◌⊕◌
  infixl 70 ◌⊗◌
  module _ {I : Type 0} {t : Carrier → Carrier} {slice : I → Carrier → Carrier} (S : IsSliced R I t slice) where
    slice_zero : (c : I) → slice c 𝟘 ≡ 𝟘
    slice_zero c =
        add_cancel L (slice c 𝟘) (slice c 𝟘) 𝟘 (sym (S.slice_add c 𝟘 𝟘) ∙ ap (slice c) (L.zero_add 𝟘) ∙ sym (add_zero L (slice c 𝟘)))

    slice_sum : (c : I) (n : ℕ) (a w : (s : ℕ) → s < n → Carrier)
        → slice c (finite_sum R n (λ s g. t (a s g) ⊗ w s g)) ≡ finite_sum R n (λ s g. a s g ⊗ slice c (w s g))
    unfolding finite_sum
    slice_sum c zero a w = slice_zero c
    slice_sum c (suc n) a w =
        S.slice_add c (finite_sum R n (λ s g. t (a s (below g)) ⊗ w s (below g))) (t (a n (last n)) ⊗ w n (last n))
        ∙ ap (λ x. x ⊕ slice c (t (a n (last n)) ⊗ w n (last n))) (slice_sum c n (λ s g. a s (below g)) (λ s g. w s (below g)))
        ∙ ap (λ x. finite_sum R n (λ s g. a s (below g) ⊗ slice c (w s (below g))) ⊕ x) (S.slice_mul c (a n (last n)) (w n (last n)))

    -- to multiply by a twisted matrix is to multiply each slice
    pub each_slice_mul : (c : I) {m n k : ℕ} (A : Mat R m n) (w : Mat R n k) → each R (slice c) (mul R (each R t A) w) ≡ mul R A (each R (slice c) w)
    unfolding each mul
    each_slice_mul c {m} {n} {k} A w = λ i r a j b. slice_sum c n (λ s g. A r a s g) (λ s g. w s g j b) i

    pub each_slice_same : {m n : ℕ} (A B : Mat R m n) → ((c : I) → each R (slice c) A ≡ each R (slice c) B) → A ≡ B
    unfolding each
    each_slice_same A B f = λ t i a j b. S.same (A i a j b) (B i a j b) (λ c. ap (λ X. X i a j b) (f c)) t

    -- the matrix with given slices
    pub glued : {m n : ℕ} → (I → Mat R m n) → Mat R m n
    glued Y i a j b = S.glue (λ c. Y c i a j b)

    pub each_slice_glued : {m n : ℕ} (Y : I → Mat R m n) (c : I) → each R (slice c) (glued Y) ≡ Y c
    unfolding each glued
    each_slice_glued Y c = λ t i a j b. S.slice_glue (λ c. Y c i a j b) c t

    pub each_slice_origin : {m n : ℕ} (v : Mat R m n) → each R (slice S.origin) (each R t v) ≡ v
    unfolding each
    each_slice_origin v = λ t i a j b. S.slice_origin (v i a j b) t

    -- ---- finitely many slices
    module _ (N : IsListed I) where
      open N use {count, member, place, inside, found}

      -- the matrix whose columns are the slices of a vector
      pub slices : {n : ℕ} → Mat R n 1 → Mat R n count
      slices w i a j b = slice (member j b) (w i a zero only)

      -- the coordinates of a vector in its slices: the monomials below q
      pub monomials : Mat R count 1
      monomials i a j b = S.glue (λ c. delta R i (place c))

      -- the entry of the product of the matrix of slices and the monomials, slice by slice
      slice_entry : {n : ℕ} (w : Mat R n 1) (c : I) (i : ℕ) (a : i < n) (j : ℕ) (b : j < 1)
          → mul R (slices w) (each R (slice c) monomials) i a j b ≡ each R (slice c) w i a j b
      unfolding mul each slices monomials
      slice_entry {n} w c i a j b =
          sum_ext L count (λ s h. slice (member s h) (w i a zero only) ⊗ slice c (S.glue (λ d. delta R s (place d)))) (λ s h. slice (member s h) (w i a zero only) ⊗ delta R s (place c)) (λ s h. ap (λ x. slice (member s h) (w i a zero only) ⊗ x) (S.slice_glue (λ d. delta R s (place d)) c))
          ∙ sum_at L count (place c) (λ s h. slice (member s h) (w i a zero only)) (inside c)
          ∙ ap (λ d. slice d (w i a zero only)) (found c)
          ∙ (let z : zero ≡ j = omega arith in ap (slice c) (index (λ k h. w i a k h) z only b))

      -- a vector is in the image of the twist of the matrix of its slices
      pub slices_generate : {n : ℕ} (w : Mat R n 1) → mul R (each R t (slices w)) monomials ≡ w
      slices_generate {n} w =
          each_slice_same (mul R (each R t (slices w)) monomials) w (λ c. each_slice_mul c (slices w) monomials ∙ (λ r i a j b. slice_entry w c i a j b r))

      -- where the twists of A and B send w and u to one vector, A and B send their slices to one matrix
      pub slices_equation : {m n k : ℕ} (A : Mat R m n) (B : Mat R m k) (w : Mat R n 1) (u : Mat R k 1)
          → mul R (each R t B) u ≡ mul R (each R t A) w → mul R B (slices u) ≡ mul R A (slices w)
      unfolding mul each slices
      slices_equation {m} {n} {k} A B w u e =
          λ r i a j b. (ap (λ X. X i a zero only) (sym (each_slice_mul (member j b) B u) ∙ ap (λ X. each R (slice (member j b)) X) e ∙ each_slice_mul (member j b) A w)) r

  -- Frobenius with slices for each exponent
  module _ {twist : ℕ → Carrier → Carrier} {I : ℕ → Type 0} {slice : (e : ℕ) → I e → Carrier → Carrier} (S : (e : ℕ) → IsSliced R (I e) (twist e) (slice e)) where
    pub is_flat : Flat (families R twist)
    is_flat = record {
      flat = λ e {m} {n} {k} {l} A B C f w h.
          let member : (c : I e) → InImage (families R twist) C (each R (slice e c) w) =
          λ c. f (each R (slice e c) w) (each R (slice e c) h.0, sym (each_slice_mul (S e) c B h.0) ∙ ap (λ X. each R (slice e c) X) h.1 ∙ each_slice_mul (S e) c A w) in
          let y : Mat R l 1 = glued (S e) (λ c. (member c).0) in
          (y, each_slice_same (S e) (mul R (each R (twist e) C) y) w (λ c. each_slice_mul (S e) c C y ∙ ap (λ Y. mul R C Y) (each_slice_glued (S e) (λ c. (member c).0) c) ∙ (member c).1));
      descend = λ e {m} {n} A v h. (
        each R (slice e (S e).origin) h.0,
        sym (each_slice_mul (S e) (S e).origin A h.0) ∙ ap (λ X. each R (slice e (S e).origin) X) h.1 ∙ each_slice_origin (S e) v,
      );
    }
