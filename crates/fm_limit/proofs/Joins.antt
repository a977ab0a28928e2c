-- Maps between presented systems in coordinates, and where the chain of the target's morphism that begins with [N | Phi] may begin
use Rattle.std.proofs.Common.{ℕ, zero, ◌+◌, ◌≡◌, ◌↔◌, ◌∙◌, sym, ap, subst}
use Rattle.fm_algebra.specs.Matrices.{Matrices, IsMatrices}
use Rattle.fm_algebra.specs.Image.{InImage}
use Rattle.fm_algebra.proofs.Images.{image_self, image_mul, image_add, image_neg, within_columns, mul_nil, mul_neg, nil_add, add_sub}
use Rattle.fm_limit.specs.System.{System, move, MapMatrices, MapCommutes, IsPresentedBy}
use Rattle.fm_limit.proofs.SystemMoves.{move_coords}

module _ {M : Matrices} (L : IsMatrices M) where
  open M use {Mat, ◌⊛◌, ◌⊕◌, neg, nil, beside, stack, twist}
  open L use {assoc, add_comm, add_assoc, add_nil, add_neg, dist_left, twist_none, join_mul, split, twist_beside}

  infixl 70 ◌⊛◌
  infixl 60 ◌⊕◌
  module _ {S : System M} {g n : ℕ} {Z : Mat S.size g} {N : Mat g n} {U : Mat g g} (E : IsPresentedBy M S g n Z N U) where
    pub presented_class : (e : ℕ) (w : Mat g 1) → S.IsCocycle e (twist e Z ⊛ w)
    presented_class e w = (E.cocycles e (twist e Z ⊛ w)).0 (image_self L (twist e Z) w)

    pub presented_sub : (e : ℕ) (x y : Mat g 1) → InImage M (twist e N) (x ⊕ neg y) ↔ S.IsCoboundary e (twist e Z ⊛ x ⊕ neg (twist e Z ⊛ y))
    presented_sub e x y =
        subst (λ v. InImage M (twist e N) (x ⊕ neg y) ↔ S.IsCoboundary e v) (dist_left (twist e Z) x (neg y) ∙ ap (λ v. twist e Z ⊛ x ⊕ v) (mul_neg L (twist e Z) y)) (E.relations e (x ⊕ neg y))

  module _ (S T : System M) (along : MapMatrices M S T) {g k : ℕ} {ZS : Mat S.size g} {ZT : Mat T.size k} (Phi : Mat k g) (square : (e : ℕ) → along e ⊛ twist e ZS ≡ twist e ZT ⊛ twist e Phi) where
    pub mapped_coords : (e : ℕ) (w : Mat g 1) → along e ⊛ (twist e ZS ⊛ w) ≡ twist e ZT ⊛ (twist e Phi ⊛ w)
    mapped_coords e w = sym (assoc (along e) (twist e ZS) w) ∙ ap (λ y. y ⊛ w) (square e) ∙ assoc (twist e ZT) (twist e Phi) w

    module _ {l : ℕ} (N : Mat k l) where
      -- [N | Phi]
      abbrev pub J : Mat k (l + g)
      J = beside N Phi

      pub join_left : (e : ℕ) (a : Mat k 1) → InImage M (twist e N) a → InImage M (twist e J) a
      join_left e a h = (
        stack h.0 (nil g 1),
        ap (λ y. y ⊛ stack h.0 (nil g 1)) (twist_beside e N Phi)
            ∙ join_mul (twist e N) (twist e Phi) h.0 (nil g 1)
            ∙ ap (λ y. twist e N ⊛ h.0 ⊕ y) (mul_nil L (twist e Phi))
            ∙ add_nil (twist e N ⊛ h.0)
            ∙ h.1,
      )

      pub join_right : (e : ℕ) (b : Mat g 1) → InImage M (twist e J) (twist e Phi ⊛ b)
      join_right e b = (
        stack (nil l 1) b,
        ap (λ y. y ⊛ stack (nil l 1) b) (twist_beside e N Phi)
            ∙ join_mul (twist e N) (twist e Phi) (nil l 1) b
            ∙ ap (λ y. y ⊕ twist e Phi ⊛ b) (mul_nil L (twist e N))
            ∙ nil_add L (twist e Phi ⊛ b),
      )

    module _ (A : MapCommutes M S T along) {m l : ℕ} {NS : Mat g m} {US : Mat g g} {NT : Mat k l} {UT : Mat k k} (X : IsPresentedBy M S g m ZS NS US) (Y : IsPresentedBy M T k l ZT NT UT) where
      -- Phi goes with the moves of both sides, up to relations of the target
      pub phi_moves : (b : Mat g 1) → InImage M (twist 1 NT) (twist 1 Phi ⊛ (US ⊛ b) ⊕ neg (UT ⊛ (Phi ⊛ b)))
      phi_moves b =
          let z : Mat S.size 1 = twist zero ZS ⊛ b in
          let c : T.IsCoboundary 1 (along 1 ⊛ move M S zero z ⊕ neg (move M T zero (along zero ⊛ z))) = A zero z (presented_class X zero b) in
          let p : along 1 ⊛ move M S zero z ≡ twist 1 ZT ⊛ (twist 1 Phi ⊛ (US ⊛ b)) = ap (λ y. along 1 ⊛ y) (move_coords L X zero b) ∙ mapped_coords 1 (twist zero US ⊛ b) ∙ ap (λ y. twist 1 ZT ⊛ (twist 1 Phi ⊛ (y ⊛ b))) (twist_none US) in
          let q : move M T zero (along zero ⊛ z) ≡ twist 1 ZT ⊛ (UT ⊛ (Phi ⊛ b)) = ap (λ y. move M T zero y) (mapped_coords zero b) ∙ move_coords L Y zero (twist zero Phi ⊛ b) ∙ ap (λ y. twist 1 ZT ⊛ (y ⊛ (twist zero Phi ⊛ b))) (twist_none UT) ∙ ap (λ y. twist 1 ZT ⊛ (UT ⊛ (y ⊛ b))) (twist_none Phi) in
          let c1 : T.IsCoboundary 1 (twist 1 ZT ⊛ (twist 1 Phi ⊛ (US ⊛ b)) ⊕ neg (twist 1 ZT ⊛ (UT ⊛ (Phi ⊛ b)))) = subst (λ y. T.IsCoboundary 1 (twist 1 ZT ⊛ (twist 1 Phi ⊛ (US ⊛ b)) ⊕ neg y)) q (subst (λ y. T.IsCoboundary 1 (y ⊕ neg (move M T zero (along zero ⊛ z)))) p c) in
          (presented_sub Y 1 (twist 1 Phi ⊛ (US ⊛ b)) (UT ⊛ (Phi ⊛ b))).1 c1

      -- the chain of the target's morphism may begin with J
      pub join_begins : InImage M (twist 1 NT) (UT ⊛ NT) → InImage M (twist 1 (J NT)) (UT ⊛ J NT)
      join_begins begins =
          within_columns L (twist 1 (J NT)) (UT ⊛ J NT) (λ v h.
          let p = split {n = l} {k = g} h.0 in
          let q : UT ⊛ (NT ⊛ p.0) ⊕ UT ⊛ (Phi ⊛ p.1) ≡ v = sym (dist_left UT (NT ⊛ p.0) (Phi ⊛ p.1)) ∙ ap (λ y. UT ⊛ y) (sym (join_mul NT Phi p.0 p.1) ∙ ap (λ y. J NT ⊛ y) (sym p.2)) ∙ sym (assoc UT (J NT) h.0) ∙ h.1 in
          let a : InImage M (twist 1 NT) (UT ⊛ (NT ⊛ p.0)) = subst (λ y. InImage M (twist 1 NT) y) (assoc UT NT p.0) (image_mul L (twist 1 NT) (UT ⊛ NT) p.0 begins) in
          let x : Mat k 1 = twist 1 Phi ⊛ (US ⊛ p.1) in
          let y : Mat k 1 = UT ⊛ (Phi ⊛ p.1) in
          let d : InImage M (twist 1 (J NT)) (neg (x ⊕ neg y)) = image_neg L (twist 1 (J NT)) (x ⊕ neg y) (join_left NT 1 (x ⊕ neg y) (phi_moves p.1)) in
          let e : x ⊕ neg (x ⊕ neg y) ≡ y = sub_back x y in
          let b : InImage M (twist 1 (J NT)) y = subst (λ v. InImage M (twist 1 (J NT)) v) e (image_add L (twist 1 (J NT)) x (neg (x ⊕ neg y)) (join_right NT 1 (US ⊛ p.1)) d) in
          subst (λ v. InImage M (twist 1 (J NT)) v) q (image_add L (twist 1 (J NT)) (UT ⊛ (NT ⊛ p.0)) y (join_left NT 1 (UT ⊛ (NT ⊛ p.0)) a) b))
        where
          sub_back : (x y : Mat k 1) → x ⊕ neg (x ⊕ neg y) ≡ y
          sub_back x y =
              let a : (x ⊕ neg y) ⊕ y ≡ x = add_assoc x (neg y) y ∙ ap (λ v. x ⊕ v) (add_comm (neg y) y ∙ add_neg y) ∙ add_nil x in
              ap (λ v. v ⊕ neg (x ⊕ neg y)) (sym a) ∙ add_sub L (x ⊕ neg y) y
