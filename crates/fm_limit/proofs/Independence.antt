-- The limit does not depend on the resolution, the Frobenius lift or the lift of the identity
use Rattle.std.proofs.Common.{ℕ, zero, suc, ◌+◌, ◌<◌, ◌≤◌, ◌≡◌, ◌∙◌, refl, sym, ap, subst, arith, add-zero}
use native.Mathlib.Decide.{dec_le}
use native.Mathlib.Bridge.{le_prop}
use Rattle.fm_algebra.specs.Matrices.{Matrices, IsMatrices}
use Rattle.fm_algebra.specs.Image.{InImage}
use Rattle.fm_algebra.proofs.Images.{image_add, image_nil, image_neg, image_trans, within_columns, nil_add, neg_unique, sub_add, mul_neg, kernel_product, kernel_matrix, mul_nil}
use Rattle.fm_limit.specs.Resolution.{rank_of, Complex}
use Rattle.fm_limit.proofs.Resolutions.{IsResolution, IsLiftOfIdentity}
use Rattle.fm_limit.specs.System as system
use Rattle.fm_limit.specs.DirectSystem.{Degree, IsCocycle, IsCoboundary, move, moved, IsKilledBy, IsZeroInLimit}
use Rattle.fm_limit.specs.Limit.{mapped}
use Rattle.fm_limit.proofs.Moves.{Moves, cocycle_moves, coboundaries_moves, moved_add, moved_neg}
use Rattle.fm_limit.proofs.Maps.{Maps, mapped_coboundary, mapped_move}

-- s moves of (e, z) and s' moves of (e', z') come to one stage, where they differ by a coboundary
abbrev pub IsSameBy : {M : Matrices} (D : Degree M) (s s' e : ℕ) (z : M.Mat D.mid 1) (e' : ℕ) (z' : M.Mat D.mid 1) → Type 0
IsSameBy {M} D s s' e z e' z' = (e + s ≡ e' + s') × IsCoboundary M D (e + s) (M.◌⊕◌ (moved M D s e z) (M.neg (moved M D s' e' z')))

module _ {M : Matrices} (L : IsMatrices M) where
  open M use {Mat, ◌⊛◌, ◌⊕◌, neg, nil, unit, flip, twist}
  open L use {assoc, unit_left, unit_right, add_comm, add_assoc, add_nil, add_neg, dist_left, flip_flip, flip_mul, twist_unit}

  infixl 70 ◌⊛◌
  infixl 60 ◌⊕◌
  pub sub_chain : {m n : ℕ} (a b c : Mat m n) → (a ⊕ neg b) ⊕ (b ⊕ neg c) ≡ a ⊕ neg c
  sub_chain a b c =
      add_assoc a (neg b) (b ⊕ neg c)
      ∙ ap (λ y. a ⊕ y) (sym (add_assoc (neg b) b (neg c)) ∙ ap (λ y. y ⊕ neg c) (add_comm (neg b) b ∙ add_neg b) ∙ nil_add L (neg c))

  pub neg_sub : {m n : ℕ} (a b : Mat m n) → neg (a ⊕ neg b) ≡ b ⊕ neg a
  neg_sub {m} {n} a b = sym (neg_unique L (a ⊕ neg b) (b ⊕ neg a) (sub_chain a b a ∙ add_neg a))

  pub flip_unit : (n : ℕ) → flip (unit n) ≡ unit n
  flip_unit n = sym (unit_left (flip (unit n))) ∙ ap (λ y. y ⊛ flip (unit n)) (sym (flip_flip (unit n))) ∙ sym (flip_mul (unit n) (flip (unit n))) ∙ ap (λ y. flip y) (unit_left (flip (unit n))) ∙ flip_flip (unit n)

  -- a class that differs from one that is killed by a coboundary is killed
  pub killed_near : {D : Degree M} → Moves M D → (s e : ℕ) (x y : Mat D.mid 1) → IsCoboundary M D e (x ⊕ neg y) → IsKilledBy M D s e y → IsKilledBy M D s e x
  killed_near {D} H s e x y c h =
      let k : IsKilledBy M D s e (x ⊕ neg y) = coboundaries_moves L H s e (x ⊕ neg y) c in
      subst (λ v. IsKilledBy M D s e v) (sub_add L x y) (subst (λ v. IsCoboundary M D (e + s) v) (sym (moved_add L D s e y (x ⊕ neg y))) (image_add L (flip (twist (e + s) D.below)) (moved M D s e y) (moved M D s e (x ⊕ neg y)) h k))

  pub zero_near : {D : Degree M} → Moves M D → (e : ℕ) (x y : Mat D.mid 1) → IsCoboundary M D e (x ⊕ neg y) → IsZeroInLimit M D e y → IsZeroInLimit M D e x
  zero_near H e x y c h = (h.0, killed_near H h.0 e x y c h.1)

  module _ {S T : Degree M} {lambda : Mat S.mid T.mid} (HS : Moves M S) (HT : Moves M T) (A : Maps M S T lambda) where
    -- s moves and mapping, in either order, differ by a coboundary
    pub mapped_moves : (s e : ℕ) (z : Mat S.mid 1) → IsCocycle M S e z
        → IsCoboundary M T (e + s) (mapped M S T lambda (e + s) (moved M S s e z) ⊕ neg (moved M T s e (mapped M S T lambda e z)))
    unfolding system.moved
    mapped_moves zero e z c =
        rw add-zero (subst (λ y. InImage M (flip (twist e T.below)) y) (sym (add_neg (mapped M S T lambda e z))) (image_nil L 1 (flip (twist e T.below))))
    mapped_moves (suc s) e z c =
        let z1 : Mat S.mid 1 = move M S e z in
        let q : suc e + s ≡ e + suc s = omega arith in
        let a : Mat T.mid 1 = mapped M S T lambda (suc e + s) (moved M S s (suc e) z1) in
        let b : Mat T.mid 1 = moved M T s (suc e) (mapped M S T lambda (suc e) z1) in
        let d : Mat T.mid 1 = moved M T s (suc e) (move M T e (mapped M S T lambda e z)) in
        let ih : IsCoboundary M T (suc e + s) (a ⊕ neg b) = mapped_moves s (suc e) z1 (cocycle_moves L HS e z c) in
        let k : IsCoboundary M T (suc e + s) (moved M T s (suc e) (mapped M S T lambda (suc e) z1 ⊕ neg (move M T e (mapped M S T lambda e z)))) = coboundaries_moves L HT s (suc e) (mapped M S T lambda (suc e) z1 ⊕ neg (move M T e (mapped M S T lambda e z))) (mapped_move L A e z c) in
        let r : moved M T s (suc e) (mapped M S T lambda (suc e) z1 ⊕ neg (move M T e (mapped M S T lambda e z))) ≡ b ⊕ neg d = moved_add L T s (suc e) (mapped M S T lambda (suc e) z1) (neg (move M T e (mapped M S T lambda e z))) ∙ ap (λ y. b ⊕ y) (moved_neg L T s (suc e) (move M T e (mapped M S T lambda e z))) in
        let k1 : IsCoboundary M T (suc e + s) (b ⊕ neg d) = subst (λ y. IsCoboundary M T (suc e + s) y) r k in
        let sum : IsCoboundary M T (suc e + s) (a ⊕ neg d) = subst (λ y. IsCoboundary M T (suc e + s) y) (sub_chain a b d) (image_add L (flip (twist (suc e + s) T.below)) (a ⊕ neg b) (b ⊕ neg d) ih k1) in
        subst (λ x. IsCoboundary M T x (mapped M S T lambda x (moved M S s (suc e) z1) ⊕ neg d)) q sum

    -- a class that s moves kill has an image that s moves kill
    pub mapped_killed : (s e : ℕ) (z : Mat S.mid 1) → IsCocycle M S e z → IsKilledBy M S s e z → IsKilledBy M T s e (mapped M S T lambda e z)
    mapped_killed s e z c h =
        let a : Mat T.mid 1 = mapped M S T lambda (e + s) (moved M S s e z) in
        let b : Mat T.mid 1 = moved M T s e (mapped M S T lambda e z) in
        let k : IsCoboundary M T (e + s) a = mapped_coboundary L A (e + s) (moved M S s e z) h in
        let d : IsCoboundary M T (e + s) (neg (a ⊕ neg b)) = image_neg L (flip (twist (e + s) T.below)) (a ⊕ neg b) (mapped_moves s e z c) in
        let r : neg (a ⊕ neg b) ⊕ a ≡ b = ap (λ y. y ⊕ a) (neg_sub a b) ∙ add_assoc b (neg a) a ∙ ap (λ y. b ⊕ y) (add_comm (neg a) a ∙ add_neg a) ∙ add_nil b in
        subst (λ y. IsCoboundary M T (e + s) y) r (image_add L (flip (twist (e + s) T.below)) (neg (a ⊕ neg b)) a d k)

    pub mapped_zero : (e : ℕ) (z : Mat S.mid 1) → IsCocycle M S e z → IsZeroInLimit M S e z → IsZeroInLimit M T e (mapped M S T lambda e z)
    mapped_zero e z c h = (h.0, mapped_killed h.0 e z c h.1)

    -- mapping respects differences
    pub mapped_sub : (e : ℕ) (x y : Mat S.mid 1) → mapped M S T lambda e (x ⊕ neg y) ≡ mapped M S T lambda e x ⊕ neg (mapped M S T lambda e y)
    mapped_sub e x y = dist_left (flip (twist e lambda)) x (neg y) ∙ ap (λ v. mapped M S T lambda e x ⊕ v) (mul_neg L (flip (twist e lambda)) y)

    -- classes that are the same have images that are the same
    pub mapped_same : (s s' e : ℕ) (x : Mat S.mid 1) (e' : ℕ) (y : Mat S.mid 1) → IsCocycle M S e x → IsCocycle M S e' y → IsSameBy S s s' e x e' y
        → IsSameBy T s s' e (mapped M S T lambda e x) e' (mapped M S T lambda e' y)
    mapped_same s s' e x e' y cx cy h =
        let q : e + s ≡ e' + s' = h.0 in
        let B : Mat T.mid T.low = flip (twist (e + s) T.below) in
        let a : Mat T.mid 1 = moved M T s e (mapped M S T lambda e x) in
        let b : Mat T.mid 1 = mapped M S T lambda (e + s) (moved M S s e x) in
        let c : Mat T.mid 1 = mapped M S T lambda (e + s) (moved M S s' e' y) in
        let d : Mat T.mid 1 = moved M T s' e' (mapped M S T lambda e' y) in
        let ab : InImage M B (a ⊕ neg b) = subst (λ v. InImage M B v) (neg_sub b a) (image_neg L B (b ⊕ neg a) (mapped_moves s e x cx)) in
        let bc : InImage M B (b ⊕ neg c) = subst (λ v. InImage M B v) (mapped_sub (e + s) (moved M S s e x) (moved M S s' e' y)) (mapped_coboundary L A (e + s) (moved M S s e x ⊕ neg (moved M S s' e' y)) h.1) in
        let cd : InImage M B (c ⊕ neg d) = subst (λ k. InImage M (flip (twist k T.below)) (mapped M S T lambda k (moved M S s' e' y) ⊕ neg d)) (sym q) (mapped_moves s' e' y cy) in
        let ac : InImage M B (a ⊕ neg c) = subst (λ v. InImage M B v) (sub_chain a b c) (image_add L B (a ⊕ neg b) (b ⊕ neg c) ab bc) in
        (q, subst (λ v. InImage M B v) (sub_chain a c d) (image_add L B (a ⊕ neg c) (c ⊕ neg d) ac cd))

  -- ---- the same in the limit, up to coboundaries
  pub same_near : {D : Degree M} → Moves M D → (s s' e : ℕ) (x y : Mat D.mid 1) (e' : ℕ) (z : Mat D.mid 1)
      → IsCoboundary M D e (x ⊕ neg y) → IsSameBy D s s' e y e' z → IsSameBy D s s' e x e' z
  same_near {D} H s s' e x y e' z c h =
      let B : Mat D.mid D.low = flip (twist (e + s) D.below) in
      let a : Mat D.mid 1 = moved M D s e x in
      let b : Mat D.mid 1 = moved M D s e y in
      let d : Mat D.mid 1 = moved M D s' e' z in
      let ab : InImage M B (a ⊕ neg b) = subst (λ v. InImage M B v) (moved_add L D s e x (neg y) ∙ ap (λ v. a ⊕ v) (moved_neg L D s e y)) (coboundaries_moves L H s e (x ⊕ neg y) c) in
      (h.0, subst (λ v. InImage M B v) (sub_chain a b d) (image_add L B (a ⊕ neg b) (b ⊕ neg d) ab h.1))

  pub same_turned : (D : Degree M) (s s' e : ℕ) (x : Mat D.mid 1) (e' : ℕ) (y : Mat D.mid 1) → IsSameBy D s s' e x e' y → IsSameBy D s' s e' y e x
  same_turned D s s' e x e' y h =
      let B : Mat D.mid D.low = flip (twist (e' + s') D.below) in
      let a : Mat D.mid 1 = moved M D s e x in
      let b : Mat D.mid 1 = moved M D s' e' y in
      let k : InImage M B (a ⊕ neg b) = subst (λ n. InImage M (flip (twist n D.below)) (a ⊕ neg b)) h.0 h.1 in
      (sym h.0, subst (λ v. InImage M B v) (neg_sub a b) (image_neg L B (a ⊕ neg b) k))

  -- ---- lifts of the identity: composites, the identity, existence
  pub lift_after : {i : ℕ} {P Q V : Complex M} (k : (j : ℕ) → Mat (rank_of Q.cols j) (rank_of P.cols j)) (l : (j : ℕ) → Mat (rank_of V.cols j) (rank_of Q.cols j))
      → IsLiftOfIdentity M i P Q k → IsLiftOfIdentity M i Q V l → IsLiftOfIdentity M i P V (λ j. l j ⊛ k j)
  lift_after {i} {P} {Q} {V} k l a b = record {
    first = ap (λ y. y ⊛ k zero) b.first ∙ unit_left (k zero) ∙ a.first;
    square = λ j h. sym (assoc (V.d j) (l (suc j)) (k (suc j))) ∙ ap (λ y. y ⊛ k (suc j)) (b.square j h) ∙ assoc (l j) (Q.d j) (k (suc j)) ∙ ap (λ y. l j ⊛ y) (a.square j h) ∙ sym (assoc (l j) (k j) (P.d j));
  }

  pub lift_itself : (i : ℕ) (P : Complex M) → IsLiftOfIdentity M i P P (λ j. unit (rank_of P.cols j))
  lift_itself i P = record { first = refl; square = λ j h. unit_right (P.d j) ∙ sym (unit_left (P.d j)) }

  -- where I lies in J, a lift of the identity exists
  module _ {g h : ℕ} {I : Mat 1 g} {J : Mat 1 h} (i : ℕ) (P Q : Complex M) (x : IsResolution M g I i P) (y : IsResolution M h J i Q) (inside : InImage M J I) where
    weaker : {j : ℕ} → suc j ≤ i → j ≤ i
    weaker b = omega arith

    built : (j : ℕ) → j ≤ i → (l : Mat (rank_of Q.cols j) (rank_of P.cols j)) × InImage M (Q.d j) (l ⊛ P.d j)
    built zero b =
        let p : InImage M I (P.d zero) = within_columns L I (P.d zero) (λ v k. (x.generators v).0 k) in
        let q : InImage M (Q.d zero) J = within_columns L (Q.d zero) J (λ v k. (y.generators v).1 k) in
        let r : InImage M (Q.d zero) (P.d zero) = image_trans L (Q.d zero) J (P.d zero) q (image_trans L J I (P.d zero) inside p) in
        (unit 1, subst (λ v. InImage M (Q.d zero) v) (sym (unit_left (P.d zero))) r)
    built (suc j) b =
        let lt : j < i = omega arith in
        let r = built j (weaker b) in
        let l : Mat (rank_of Q.cols j) (rank_of P.cols j) = r.0 in
        let n : Mat (Q.cols j) (P.cols j) = r.1.0 in
        let z : P.d j ⊛ P.d (suc j) ≡ nil (rank_of P.cols j) (P.cols (suc j)) = kernel_product L (P.d (suc j)) (P.d j) (x.exact j lt) in
        let e : Q.d j ⊛ (n ⊛ P.d (suc j)) ≡ nil (rank_of Q.cols j) (P.cols (suc j)) = sym (assoc (Q.d j) n (P.d (suc j))) ∙ ap (λ v. v ⊛ P.d (suc j)) r.1.1 ∙ assoc l (P.d j) (P.d (suc j)) ∙ ap (λ v. l ⊛ v) z ∙ mul_nil L l in
        (n, kernel_matrix L (Q.d (suc j)) (Q.d j) (y.exact j lt) (n ⊛ P.d (suc j)) e)

    lifted : (j : ℕ) → Dec (j ≤ i) → Mat (rank_of Q.cols j) (rank_of P.cols j)
    lifted j (yes b) = (built j b).0
    lifted j (no b) = nil (rank_of Q.cols j) (rank_of P.cols j)

    lifted_first : (d : Dec (zero ≤ i)) → lifted zero d ≡ unit 1
    unfolding lifted built
    lifted_first (yes b) = refl
    lifted_first (no b) = absurd (b (omega arith))

    lifted_square : (j : ℕ) → j < i → (d : Dec (suc j ≤ i)) (c : Dec (j ≤ i)) → Q.d j ⊛ lifted (suc j) d ≡ lifted j c ⊛ P.d j
    unfolding lifted built
    lifted_square j lt (yes b) (yes c) = (built j (weaker b)).1.1 ∙ ap (λ v. (built j v).0 ⊛ P.d j) (le_prop {n = j} {m = i} (weaker b) c)
    lifted_square j lt (no b) c = absurd (b (omega arith))
    lifted_square j lt (yes b) (no c) = absurd (c (omega arith))

    pub lift_exists : (l : (j : ℕ) → Mat (rank_of Q.cols j) (rank_of P.cols j)) × IsLiftOfIdentity M i P Q l
    lift_exists = (
      λ j. lifted j (dec_le j i),
      record { first = lifted_first (dec_le zero i); square = λ j b. lifted_square j b (dec_le (suc j) i) (dec_le j i) },
    )
