-- Homotopy: two lifts of one map differ by a homotopy; from resolutions and lifts to one degree
use Rattle.std.proofs.Common.{ℕ, zero, suc, ◌*◌, ◌^◌, ◌<◌, ◌≤◌, ◌≡◌, ◌∙◌, refl, sym, ap, subst, arith, ◌↔◌}
use Rattle.std.proofs.Math.Nat.{pow-suc, pow-zero, one-mul}
use Rattle.fm_algebra.specs.Matrices.{Matrices, IsMatrices}
use Rattle.fm_algebra.specs.Image.{InImage, InKernel, pow}
use Rattle.fm_algebra.proofs.Generation.{GeneratesKernel, IsPower}
use Rattle.fm_algebra.proofs.Images.{image_trans, image_columns, within_columns, twist_more, mul_nil, nil_mul, twist_nil, flip_nil, mul_neg, sub_add, add_sub, kernel_product, kernel_matrix}
use Rattle.fm_limit.specs.Resolution.{rank_of, rank_before, d_below, Complex}
use Rattle.fm_limit.proofs.Resolutions.{IsResolution, IsFrobeniusLift, IsLiftOfIdentity}
use Rattle.fm_limit.specs.DirectSystem.{degree, IsCocycle, IsCoboundary, move}
use Rattle.fm_limit.proofs.Moves.{Moves}
use Rattle.fm_limit.proofs.Maps.{Maps, differ}

module _ (M : Matrices) where
  open M use {Mat, ◌⊛◌, nil, twist}

  infixl 70 ◌⊛◌
  -- d_j * d_(j+1) = 0 for j from 1 to i
  abbrev pub IsComplex : ℕ → Complex M → Type 0
  IsComplex i C = (j : ℕ) → j < i → C.d j ⊛ C.d (suc j) ≡ nil (rank_of C.cols j) (C.cols (suc j))

  -- the complex of the twisted matrices
  abbrev pub twisted_of : ℕ → Complex M → Complex M
  twisted_of e C = record { cols = C.cols; d = λ j. twist e (C.d j) }

module _ {M : Matrices} (L : IsMatrices M) where
  open M use {Mat, ◌⊛◌, ◌⊕◌, neg, nil, unit, flip, basis, twist}
  open L use {assoc, unit_left, unit_right, add_comm, add_nil, add_neg, dist_left, dist_right, twist_mul, twist_unit}

  infixl 70 ◌⊛◌
  infixl 60 ◌⊕◌
  -- in degree 0 only 0 is a coboundary
  pub coboundary_first : (P : Complex M) (theta : (j : ℕ) → Mat (rank_of P.cols j) (rank_of P.cols j)) (e : ℕ) (z : Mat 1 1)
      → IsCoboundary M (degree M zero P theta) e z ↔ (z ≡ nil 1 1)
  unfolding d_below
  coboundary_first P theta e z =
      let q : flip (twist e (nil zero 1)) ≡ nil 1 zero = ap (λ y. flip y) (twist_nil L e zero 1) ∙ flip_nil L zero 1 in (
        λ h. sym h.1 ∙ ap (λ y. y ⊛ h.0) q ∙ nil_mul L 1 h.0,
        λ h. (nil zero 1, ap (λ y. y ⊛ nil zero 1) q ∙ nil_mul L 1 (nil zero 1) ∙ sym h),
      )

  pub complex_below : (i : ℕ) (C : Complex M) → IsComplex M i C → (j : ℕ) → j ≤ i
      → d_below M C j ⊛ C.d j ≡ nil (rank_before C.cols j) (C.cols j)
  unfolding d_below
  complex_below i C z zero b = nil_mul L zero (C.d zero)
  complex_below i C z (suc j) b = z j (omega arith)

  -- ---- two maps of complexes that agree in degree 0, from C to an exact D, are homotopic
  module _ (i : ℕ) (C D : Complex M) (z : IsComplex M i C) (exact : (j : ℕ) → j < i → GeneratesKernel M (D.d (suc j)) (D.d j)) (f g : (j : ℕ) → Mat (rank_of D.cols j) (rank_of C.cols j)) (first : f zero ≡ g zero) (fs : (j : ℕ) → j < i → D.d j ⊛ f (suc j) ≡ f j ⊛ C.d j) (gs : (j : ℕ) → j < i → D.d j ⊛ g (suc j) ≡ g j ⊛ C.d j) where
    pub record Homotopy (j : ℕ) : Type 0 where
      pub h : Mat (D.cols j) (rank_of C.cols j)
      pub k : Mat (rank_of D.cols j) (rank_before C.cols j)
      pub holds : f j ≡ g j ⊕ (D.d j ⊛ h ⊕ k ⊛ d_below M C j)

    pub homotopic : (j : ℕ) → j ≤ i → Homotopy j
    unfolding d_below
    homotopic zero b =
        record {
          h = nil (D.cols zero) 1;
          k = nil 1 zero;
          holds = first ∙ sym (ap (λ y. g zero ⊕ y) (ap (λ y. y ⊕ nil 1 zero ⊛ nil zero 1) (mul_nil L (D.d zero)) ∙ ap (λ y. nil 1 1 ⊕ y) (nil_mul L 1 (nil zero 1)) ∙ add_nil (nil 1 1)) ∙ add_nil (g zero));
        }
    homotopic (suc j) b =
        let lt : j < i = omega arith in
        let le : j ≤ i = omega arith in
        let H = homotopic j le in
        let d : Mat (rank_of D.cols j) (D.cols j) = D.d j in
        let c : Mat (rank_of C.cols j) (C.cols j) = C.d j in
        let delta : Mat (D.cols j) (C.cols j) = f (suc j) ⊕ neg (g (suc j)) in
        let e1 : d ⊛ delta ≡ f j ⊛ c ⊕ neg (g j ⊛ c) = dist_left d (f (suc j)) (neg (g (suc j))) ∙ ap (λ y. y ⊕ d ⊛ neg (g (suc j))) (fs j lt) ∙ ap (λ y. f j ⊛ c ⊕ y) (mul_neg L d (g (suc j)) ∙ ap (λ y. neg y) (gs j lt)) in
        let e2 : f j ⊛ c ≡ g j ⊛ c ⊕ (d ⊛ H.h) ⊛ c = ap (λ y. y ⊛ c) H.holds ∙ dist_right (g j) (d ⊛ H.h ⊕ H.k ⊛ d_below M C j) c ∙ ap (λ y. g j ⊛ c ⊕ y) (dist_right (d ⊛ H.h) (H.k ⊛ d_below M C j) c ∙ ap (λ y. (d ⊛ H.h) ⊛ c ⊕ y) (assoc H.k (d_below M C j) c ∙ ap (λ y. H.k ⊛ y) (complex_below i C z j le) ∙ mul_nil L H.k) ∙ add_nil ((d ⊛ H.h) ⊛ c)) in
        let e3 : d ⊛ delta ≡ d ⊛ (H.h ⊛ c) = e1 ∙ ap (λ y. y ⊕ neg (g j ⊛ c)) e2 ∙ add_sub L (g j ⊛ c) ((d ⊛ H.h) ⊛ c) ∙ assoc d H.h c in
        let e4 : d ⊛ (delta ⊕ neg (H.h ⊛ c)) ≡ nil (rank_of D.cols j) (C.cols j) = dist_left d delta (neg (H.h ⊛ c)) ∙ ap (λ y. y ⊕ d ⊛ neg (H.h ⊛ c)) e3 ∙ ap (λ y. d ⊛ (H.h ⊛ c) ⊕ y) (mul_neg L d (H.h ⊛ c)) ∙ add_neg (d ⊛ (H.h ⊛ c)) in
        let r = kernel_matrix L (D.d (suc j)) d (exact j lt) (delta ⊕ neg (H.h ⊛ c)) e4 in
        let e5 : D.d (suc j) ⊛ r.0 ⊕ H.h ⊛ c ≡ delta = ap (λ y. y ⊕ H.h ⊛ c) r.1 ∙ add_comm (delta ⊕ neg (H.h ⊛ c)) (H.h ⊛ c) ∙ sub_add L delta (H.h ⊛ c) in
        record { h = r.0; k = H.h; holds = sym (ap (λ y. g (suc j) ⊕ y) e5 ∙ sub_add L (f (suc j)) (g (suc j))) }

  -- ---- resolutions and their twists
  pub resolution_complex : {g : ℕ} {I : Mat 1 g} {i : ℕ} {P : Complex M} → IsResolution M g I i P → IsComplex M i P
  resolution_complex {g} {I} {i} {P} r j b = kernel_product L (P.d (suc j)) (P.d j) (r.exact j b)

  pub twisted_complex : (e i : ℕ) (C : Complex M) → IsComplex M i C → IsComplex M i (twisted_of M e C)
  twisted_complex e i C z j b =
      sym (twist_mul e (C.d j) (C.d (suc j))) ∙ ap (λ y. twist e y) (z j b) ∙ twist_nil L e (rank_of C.cols j) (C.cols (suc j))

  pub below_twist : (e : ℕ) (C : Complex M) (j : ℕ) → d_below M (twisted_of M e C) j ≡ twist e (d_below M C j)
  unfolding d_below
  below_twist e C zero = sym (twist_nil L e zero 1)
  below_twist e C (suc j) = refl

  -- I^[p] lies in I
  pub row_power : (p : ℕ) → zero < p → IsPower M p → {n : ℕ} (A : Mat 1 n) → InImage M A (twist 1 A)
  unfolding pow
  row_power zero b power A = absurd (omega arith)
  row_power (suc p) b power {n} A =
      image_columns L A (twist 1 A) (λ c h.
      let x : Mat n 1 = basis n c h in
      let a : Mat 1 1 = A ⊛ x in
      let one : suc p ^ 1 ≡ suc p = pow-suc (suc p) zero ∙ (let z : suc p ^ zero ≡ 1 = pow-zero (suc p) in ap (λ y. y * suc p) z ∙ one-mul (suc p)) in
      let q : twist 1 a ≡ a ⊛ pow M a p = power 1 a ∙ ap (λ k. pow M a k) one in
      (x ⊛ pow M a p, sym (assoc A x (pow M a p)) ∙ sym q ∙ twist_mul 1 A x ∙ ap (λ y. twist 1 A ⊛ y) (L.twist_basis 1 n c h)))

  -- what moves rest on, from a resolution and a Frobenius lift; in degree 0 this is I^[p] in I
  pub lift_moves : (p : ℕ) → zero < p → IsPower M p → {g : ℕ} {I : Mat 1 g} (i : ℕ) {P : Complex M} → IsResolution M g I i P
      → {theta : (j : ℕ) → Mat (rank_of P.cols j) (rank_of P.cols j)} → IsFrobeniusLift M i P theta → Moves M (degree M i P theta)
  unfolding d_below
  lift_moves p b power zero {P} r {theta} t =
      let u = row_power p b power (P.d zero) in
      record {
        complex = nil_mul L zero (P.d zero);
        lower = (nil zero zero, nil_mul L zero (theta zero) ∙ sym (nil_mul L zero (twist 1 (nil zero 1))));
        upper = (u.0, ap (λ y. y ⊛ twist 1 (P.d zero)) t.first ∙ unit_left (twist 1 (P.d zero)) ∙ sym u.1);
      }
  lift_moves p b power (suc j) {P} r {theta} t =
      let lt : j < suc j = omega arith in
      let d0 : Mat (rank_of P.cols j) (P.cols j) = P.d j in
      let d1 : Mat (P.cols j) (P.cols (suc j)) = P.d (suc j) in
      let z : d0 ⊛ d1 ≡ nil (rank_of P.cols j) (P.cols (suc j)) = kernel_product L d1 d0 (r.exact j lt) in
      let e : d0 ⊛ (theta (suc j) ⊛ twist 1 d1) ≡ nil (rank_of P.cols j) (P.cols (suc j)) = sym (assoc d0 (theta (suc j)) (twist 1 d1)) ∙ ap (λ y. y ⊛ twist 1 d1) (t.square j lt) ∙ assoc (theta j) (twist 1 d0) (twist 1 d1) ∙ ap (λ y. theta j ⊛ y) (sym (twist_mul 1 d0 d1) ∙ ap (λ y. twist 1 y) z ∙ twist_nil L 1 (rank_of P.cols j) (P.cols (suc j))) ∙ mul_nil L (theta j) in
      let u = kernel_matrix L d1 d0 (r.exact j lt) (theta (suc j) ⊛ twist 1 d1) e in
      record { complex = z; lower = (theta j, t.square j lt); upper = (u.0, sym u.1) }

  -- two Frobenius lifts of one resolution move a class to results that differ by a coboundary
  pub lifts_differ : {g : ℕ} {I : Mat 1 g} (i : ℕ) {P : Complex M} → IsResolution M g I i P
      → (t u : (j : ℕ) → Mat (rank_of P.cols j) (rank_of P.cols j)) → IsFrobeniusLift M i P t → IsFrobeniusLift M i P u
      → (e : ℕ) (z : Mat (rank_of P.cols i) 1) → IsCocycle M (degree M i P t) e z
      → IsCoboundary M (degree M i P t) (suc e) (move M (degree M i P t) e z ⊕ neg (move M (degree M i P u) e z))
  lifts_differ i {P} r t u a b e z c =
      let i_le : i ≤ i = omega arith in
      let H = homotopic i (twisted_of M 1 P) P (twisted_complex 1 i P (resolution_complex r)) r.exact t u (a.first ∙ sym b.first) a.square b.square i i_le in
      let d = differ L (t i) (u i) (P.d i) H.h H.k (d_below M (twisted_of M 1 P) i) H.holds e z c in
      subst (λ y. InImage M (flip y) (flip (twist e (t i)) ⊛ z ⊕ neg (flip (twist e (u i)) ⊛ z))) (ap (λ y. twist e y) (below_twist 1 P i) ∙ twist_more L e (d_below M P i)) d

  -- ---- lifts of the identity
  lower_square : (i : ℕ) (P Q : Complex M) (l : (j : ℕ) → Mat (rank_of Q.cols j) (rank_of P.cols j)) → IsLiftOfIdentity M i P Q l
      → (s : Mat (rank_before Q.cols i) (rank_before P.cols i)) × (d_below M Q i ⊛ l i ≡ s ⊛ d_below M P i)
  unfolding d_below
  lower_square zero P Q l a = (nil zero zero, nil_mul L zero (l zero) ∙ sym (nil_mul L zero (nil zero 1)))
  lower_square (suc j) P Q l a = (l j, a.square j (omega arith))

  -- P is a complex and Q is exact
  module _ (i : ℕ) (P Q : Complex M) (x : IsComplex M i P) (y : (j : ℕ) → j < i → GeneratesKernel M (Q.d (suc j)) (Q.d j)) where
    pub complexes_differ : (t u : (j : ℕ) → Mat (rank_of Q.cols j) (rank_of P.cols j)) → IsLiftOfIdentity M i P Q t → IsLiftOfIdentity M i P Q u
        → (e : ℕ) (z : Mat (rank_of Q.cols i) 1) → InKernel M (flip (twist e (Q.d i))) z
        → InImage M (flip (twist e (d_below M P i))) (flip (twist e (t i)) ⊛ z ⊕ neg (flip (twist e (u i)) ⊛ z))
    complexes_differ t u a b e z c =
        let i_le : i ≤ i = omega arith in
        let H = homotopic i P Q x y t u (a.first ∙ sym b.first) a.square b.square i i_le in
        differ L (t i) (u i) (Q.d i) H.h H.k (d_below M P i) H.holds e z c

    pub complex_maps : (s : (j : ℕ) → Mat (rank_of Q.cols j) (rank_of Q.cols j)) (t : (j : ℕ) → Mat (rank_of P.cols j) (rank_of P.cols j)) (l : (j : ℕ) → Mat (rank_of Q.cols j) (rank_of P.cols j))
        → IsFrobeniusLift M i Q s → IsFrobeniusLift M i P t → IsLiftOfIdentity M i P Q l → Maps M (degree M i Q s) (degree M i P t) (l i)
    complex_maps s t l a b c =
        let i_le : i ≤ i = omega arith in
        let f : (j : ℕ) → Mat (rank_of Q.cols j) (rank_of P.cols j) = λ j. s j ⊛ twist 1 (l j) in
        let k : (j : ℕ) → Mat (rank_of Q.cols j) (rank_of P.cols j) = λ j. l j ⊛ t j in
        let first : f zero ≡ k zero = (ap (λ y. y ⊛ twist 1 (l zero)) a.first ∙ unit_left (twist 1 (l zero)) ∙ ap (λ y. twist 1 y) c.first ∙ twist_unit 1 1) ∙ sym (ap (λ y. y ⊛ t zero) c.first ∙ unit_left (t zero) ∙ b.first) in
        let fs : (j : ℕ) → j < i → Q.d j ⊛ f (suc j) ≡ f j ⊛ twist 1 (P.d j) = λ j v.
        sym (assoc (Q.d j) (s (suc j)) (twist 1 (l (suc j)))) ∙ ap (λ y. y ⊛ twist 1 (l (suc j))) (a.square j v) ∙ assoc (s j) (twist 1 (Q.d j)) (twist 1 (l (suc j))) ∙ ap (λ y. s j ⊛ y) (sym (twist_mul 1 (Q.d j) (l (suc j))) ∙ ap (λ y. twist 1 y) (c.square j v) ∙ twist_mul 1 (l j) (P.d j)) ∙ sym (assoc (s j) (twist 1 (l j)) (twist 1 (P.d j))) in
        let ks : (j : ℕ) → j < i → Q.d j ⊛ k (suc j) ≡ k j ⊛ twist 1 (P.d j) = λ j v.
        sym (assoc (Q.d j) (l (suc j)) (t (suc j))) ∙ ap (λ y. y ⊛ t (suc j)) (c.square j v) ∙ assoc (l j) (P.d j) (t (suc j)) ∙ ap (λ y. l j ⊛ y) (b.square j v) ∙ sym (assoc (l j) (t j) (twist 1 (P.d j))) in
        let H = homotopic i (twisted_of M 1 P) Q (twisted_complex 1 i P x) y f k first fs ks i i_le in
        record {
          lower = lower_square i P Q l c;
          h = H.h;
          k = H.k;
          homotopy = subst (λ y. s i ⊛ twist 1 (l i) ≡ l i ⊛ t i ⊕ (Q.d i ⊛ H.h ⊕ H.k ⊛ y)) (below_twist 1 P i) H.holds;
        }

  module _ {g h : ℕ} {I : Mat 1 g} {J : Mat 1 h} where
    -- lambda_i goes with d_(i+1), where I lies in J
    pub upper_square : (i : ℕ) (P Q : Complex M) (l : (j : ℕ) → Mat (rank_of Q.cols j) (rank_of P.cols j)) → IsResolution M g I i P → IsResolution M h J i Q
        → IsLiftOfIdentity M i P Q l → InImage M J I → InImage M (Q.d i) (l i ⊛ P.d i)
    upper_square zero P Q l x y a w =
        let p : InImage M I (P.d zero) = within_columns L I (P.d zero) (λ v k. (x.generators v).0 k) in
        let q : InImage M (Q.d zero) J = within_columns L (Q.d zero) J (λ v k. (y.generators v).1 k) in
        let r : InImage M (Q.d zero) (P.d zero) = image_trans L (Q.d zero) J (P.d zero) q (image_trans L J I (P.d zero) w p) in
        subst (λ y. InImage M (Q.d zero) y) (sym (ap (λ y. y ⊛ P.d zero) a.first ∙ unit_left (P.d zero))) r
    upper_square (suc j) P Q l x y a w =
        let lt : j < suc j = omega arith in
        let z : P.d j ⊛ P.d (suc j) ≡ nil (rank_of P.cols j) (P.cols (suc j)) = kernel_product L (P.d (suc j)) (P.d j) (x.exact j lt) in
        let e : Q.d j ⊛ (l (suc j) ⊛ P.d (suc j)) ≡ nil (rank_of Q.cols j) (P.cols (suc j)) = sym (assoc (Q.d j) (l (suc j)) (P.d (suc j))) ∙ ap (λ v. v ⊛ P.d (suc j)) (a.square j lt) ∙ assoc (l j) (P.d j) (P.d (suc j)) ∙ ap (λ v. l j ⊛ v) z ∙ mul_nil L (l j) in
        kernel_matrix L (Q.d (suc j)) (Q.d j) (y.exact j lt) (l (suc j) ⊛ P.d (suc j)) e

    module _ (i : ℕ) (P Q : Complex M) (x : IsResolution M g I i P) (y : IsResolution M h J i Q) where
      -- two lifts of the identity map a class to results that differ by a coboundary
      pub identities_differ : (t u : (j : ℕ) → Mat (rank_of Q.cols j) (rank_of P.cols j)) → IsLiftOfIdentity M i P Q t → IsLiftOfIdentity M i P Q u
          → (e : ℕ) (z : Mat (rank_of Q.cols i) 1) → InKernel M (flip (twist e (Q.d i))) z
          → InImage M (flip (twist e (d_below M P i))) (flip (twist e (t i)) ⊛ z ⊕ neg (flip (twist e (u i)) ⊛ z))
      identities_differ = complexes_differ i P Q (resolution_complex x) y.exact

      -- what an induced map rests on, from two resolutions with their lifts and a lift of the identity
      pub lift_maps : (s : (j : ℕ) → Mat (rank_of Q.cols j) (rank_of Q.cols j)) (t : (j : ℕ) → Mat (rank_of P.cols j) (rank_of P.cols j)) (l : (j : ℕ) → Mat (rank_of Q.cols j) (rank_of P.cols j))
          → IsFrobeniusLift M i Q s → IsFrobeniusLift M i P t → IsLiftOfIdentity M i P Q l → Maps M (degree M i Q s) (degree M i P t) (l i)
      lift_maps = complex_maps i P Q (resolution_complex x) y.exact
