-- Moves of the classes of a system with a generating morphism, in coordinates; roots and the vanishing of the limit
use Rattle.std.proofs.Common.{ℕ, zero, suc, ◌+◌, ◌≡◌, ◌↔◌, ◌∙◌, refl, sym, ap, subst, arith, add-zero}
use Rattle.fm_algebra.specs.Matrices.{Matrices, IsMatrices}
use Rattle.fm_algebra.specs.Image.{InImage}
use Rattle.fm_algebra.proofs.Generation.{Within, Everything, SameImage, Flat}
use Rattle.fm_limit.specs.System.{System, move, moved, IsKilledBy, IsZeroInLimit, LimitIsZero, IsRoot, IsPresentedBy, MovesCoboundaries}
use Rattle.fm_algebra.proofs.Images.{image_self, image_columns, image_nil, within_twist, everything_twist, mul_nil, nil_mul, mul_neg}
use Rattle.fm_limit.proofs.Chains.{Chain, steps, to_repeat, steps_exact}

-- What is computed of a system: coordinates, relations, the move in coordinates, and the chain with a repeat at t.
pub record Computed (M : Matrices) (S : System M) : Type 0 where
  pub g : ℕ
  pub sizes : ℕ → ℕ
  pub Z : M.Mat S.size g
  pub U : M.Mat g g
  pub K : (s : ℕ) → M.Mat g (sizes s)
  pub chain : Chain M g U sizes K
  pub presents : IsPresentedBy M S g (sizes zero) Z (K zero) U
  pub t : ℕ
  pub same : SameImage M (K t) (K (suc t))

module _ {M : Matrices} (L : IsMatrices M) where
  open M use {Mat, ◌⊛◌, ◌⊕◌, neg, nil, basis, twist}
  open L use {assoc, add_neg, dist_left, twist_none}

  infixl 70 ◌⊛◌
  infixl 60 ◌⊕◌
  -- ---- any system
  module _ (S : System M) where
    pub moved_add : (s e : ℕ) (x y : Mat S.size 1) → moved M S s e (x ⊕ y) ≡ moved M S s e x ⊕ moved M S s e y
    unfolding moved
    moved_add zero e x y = refl
    moved_add (suc s) e x y = ap (λ v. moved M S s (suc e) v) (dist_left (S.step e) x y) ∙ moved_add s (suc e) (move M S e x) (move M S e y)

    pub moved_neg : (s e : ℕ) (x : Mat S.size 1) → moved M S s e (neg x) ≡ neg (moved M S s e x)
    unfolding moved
    moved_neg zero e x = refl
    moved_neg (suc s) e x = ap (λ v. moved M S s (suc e) v) (mul_neg L (S.step e) x) ∙ moved_neg s (suc e) (move M S e x)

    pub moved_times : (s e : ℕ) (x : Mat S.size 1) (f : Mat 1 1) → moved M S s e (x ⊛ f) ≡ moved M S s e x ⊛ f
    unfolding moved
    moved_times zero e x f = refl
    moved_times (suc s) e x f = ap (λ v. moved M S s (suc e) v) (sym (assoc (S.step e) x f)) ∙ moved_times s (suc e) (move M S e x) f

    pub moved_more : (s n e : ℕ) (x : Mat S.size 1) → moved M S (s + n) e x ≡ moved M S n (e + s) (moved M S s e x)
    unfolding moved
    moved_more zero n e x =
        let q : zero + n ≡ n = omega arith in
        let r : e ≡ e + zero = omega arith in
        ap (λ k. moved M S k e x) q ∙ ap (λ k. moved M S n k x) r
    moved_more (suc s) n e x =
        let q : suc s + n ≡ suc (s + n) = omega arith in
        let r : suc e + s ≡ e + suc s = omega arith in
        ap (λ k. moved M S k e x) q
        ∙ moved_more s n (suc e) (move M S e x)
        ∙ ap (λ k. moved M S n k (moved M S s (suc e) (move M S e x))) r

    pub coboundaries_moves : MovesCoboundaries M S → (s e : ℕ) (z : Mat S.size 1) → S.IsCoboundary e z → IsKilledBy M S s e z
    unfolding moved
    coboundaries_moves H zero e z h = subst (λ x. S.IsCoboundary x z) (sym (add-zero e)) h
    coboundaries_moves H (suc s) e z h =
        let q : suc e + s ≡ e + suc s = omega arith in
        subst (λ x. S.IsCoboundary x (moved M S s (suc e) (move M S e z))) q (coboundaries_moves H s (suc e) (move M S e z) (H e z h))

    -- what s moves kill, more moves kill
    pub killed_more : MovesCoboundaries M S → (s m e : ℕ) (z : Mat S.size 1) → IsKilledBy M S s e z → IsKilledBy M S (s + m) e z
    killed_more H s m e z h =
        let q : (e + s) + m ≡ e + (s + m) = omega arith in
        subst (λ v. S.IsCoboundary (e + (s + m)) v) (sym (moved_more s m e z)) (subst (λ x. S.IsCoboundary x (moved M S m (e + s) (moved M S s e z))) q (coboundaries_moves H m (e + s) (moved M S s e z) h))

  -- ---- a generating morphism
  module _ {S : System M} {g n : ℕ} {Z : Mat S.size g} {N : Mat g n} {U : Mat g g} (E : IsPresentedBy M S g n Z N U) where
    pub move_coords : (e : ℕ) (w : Mat g 1) → move M S e (twist e Z ⊛ w) ≡ twist (suc e) Z ⊛ (twist e U ⊛ w)
    move_coords e w = sym (assoc (S.step e) (twist e Z) w) ∙ ap (λ y. y ⊛ w) (E.moves e) ∙ assoc (twist (suc e) Z) (twist e U) w

    pub moves_coords : (s e : ℕ) (w : Mat g 1) → moved M S s e (twist e Z ⊛ w) ≡ twist (e + s) Z ⊛ steps M g U s e w
    unfolding moved steps
    moves_coords zero e w = ap (λ x. twist x Z ⊛ w) (sym (add-zero e))
    moves_coords (suc s) e w =
        let q : suc e + s ≡ e + suc s = omega arith in
        ap (λ y. moved M S s (suc e) y) (move_coords e w)
        ∙ moves_coords s (suc e) (twist e U ⊛ w)
        ∙ ap (λ x. twist x Z ⊛ steps M g U s (suc e) (twist e U ⊛ w)) q

    -- the chain of U may begin with the relations
    pub relations_begin : MovesCoboundaries M S → InImage M (twist 1 N) (U ⊛ N)
    relations_begin H =
        image_columns L (twist 1 N) (U ⊛ N) (λ c h.
        let b : Mat n 1 = basis n c h in
        let w : Mat g 1 = N ⊛ b in
        let k : S.IsCoboundary zero (twist zero Z ⊛ w) = (E.relations zero w).0 (subst (λ y. InImage M y w) (sym (twist_none N)) (image_self L N b)) in
        let k1 : S.IsCoboundary 1 (twist 1 Z ⊛ (twist zero U ⊛ w)) = subst (λ y. S.IsCoboundary 1 y) (move_coords zero w) (H zero (twist zero Z ⊛ w) k) in
        let k2 : InImage M (twist 1 N) (U ⊛ w) = subst (λ y. InImage M (twist 1 N) (y ⊛ w)) (twist_none U) ((E.relations 1 (twist zero U ⊛ w)).1 k1) in
        subst (λ y. InImage M (twist 1 N) y) (sym (assoc U N b)) k2)

    -- the zero vector is a coboundary
    pub nil_coboundary : (e : ℕ) → S.IsCoboundary e (nil S.size 1)
    nil_coboundary e = subst (λ y. S.IsCoboundary e y) (mul_nil L (twist e Z)) ((E.relations e (nil g 1)).0 (image_nil L 1 (twist e N)))

  module _ (F : Flat M) {S : System M} (X : Computed M S) where
    -- every cocycle is the twist of Z times its coordinates
    pub coords : (e : ℕ) (z : Mat S.size 1) → S.IsCocycle e z → InImage M (twist e X.Z) z
    coords e z h = ((X.presents).cocycles e z).1 h

    pub is_class : (e : ℕ) (w : Mat X.g 1) → S.IsCocycle e (twist e X.Z ⊛ w)
    is_class e w = ((X.presents).cocycles e (twist e X.Z ⊛ w)).0 (image_self L (twist e X.Z) w)

    pub is_coboundary : (e : ℕ) (w : Mat X.g 1) → InImage M (twist e (X.K zero)) w ↔ S.IsCoboundary e (twist e X.Z ⊛ w)
    is_coboundary e w = (X.presents).relations e w

    pub coboundary_sub : (e : ℕ) (x y : Mat X.g 1)
        → InImage M (twist e (X.K zero)) (x ⊕ neg y) ↔ S.IsCoboundary e (twist e X.Z ⊛ x ⊕ neg (twist e X.Z ⊛ y))
    coboundary_sub e x y =
        subst (λ v. InImage M (twist e (X.K zero)) (x ⊕ neg y) ↔ S.IsCoboundary e v) (dist_left (twist e X.Z) x (neg y) ∙ ap (λ v. twist e X.Z ⊛ x ⊕ v) (mul_neg L (twist e X.Z) y)) (is_coboundary e (x ⊕ neg y))

    pub moved_class : (s e : ℕ) (w : Mat X.g 1) → moved M S s e (twist e X.Z ⊛ w) ≡ twist (e + s) X.Z ⊛ steps M X.g X.U s e w
    moved_class s e w = moves_coords X.presents s e w

    -- s moves make the class with coordinates w a coboundary exactly if w is in the image of the twist of K_s
    pub killed_exactly : (s e : ℕ) (w : Mat X.g 1) → IsKilledBy M S s e (twist e X.Z ⊛ w) ↔ InImage M (twist e (X.K s)) w
    killed_exactly s e w =
        let a = is_coboundary (e + s) (steps M X.g X.U s e w) in
        let b = steps_exact L X.chain F s e w in
        let q = moved_class s e w in (
          λ h. b.0 (a.1 (subst (λ y. S.IsCoboundary (e + s) y) q h)),
          λ h. subst (λ y. S.IsCoboundary (e + s) y) (sym q) (a.0 (b.1 h)),
        )

    pub to_stable : (s : ℕ) → Within M (X.K s) (X.K X.t)
    to_stable s = to_repeat L X.chain X.t X.same s

    pub zero_exactly : (e : ℕ) (w : Mat X.g 1) → IsZeroInLimit M S e (twist e X.Z ⊛ w) ↔ InImage M (twist e (X.K X.t)) w
    zero_exactly e w = (
      λ h. within_twist L e (X.K h.0) (X.K X.t) (to_stable h.0) w ((killed_exactly h.0 e w).0 h.1),
      λ h. (X.t, (killed_exactly X.t e w).1 h),
    )

    pub is_root : IsRoot M S X.g (X.sizes X.t) X.Z (X.K X.t) X.U
    is_root = record {
      generates = λ e z h.
          let w = coords e z h in
          (w.0, subst (λ y. S.IsCoboundary e y) (sym (add_neg z) ∙ ap (λ y. z ⊕ neg y) (sym w.1)) (nil_coboundary X.presents e));
      classes = is_class;
      embeds = zero_exactly;
      moves = λ c h.
          let q : S.step zero ⊛ X.Z ≡ twist 1 X.Z ⊛ X.U = ap (λ y. S.step zero ⊛ y) (sym (twist_none X.Z)) ∙ (X.presents).moves zero ∙ ap (λ y. twist 1 X.Z ⊛ y) (twist_none X.U) in
          let r : nil S.size 1 ≡ (S.step zero ⊛ X.Z ⊕ neg (twist 1 X.Z ⊛ X.U)) ⊛ basis X.g c h = sym (nil_mul L S.size (basis X.g c h)) ∙ ap (λ y. y ⊛ basis X.g c h) (sym (add_neg (twist 1 X.Z ⊛ X.U)) ∙ ap (λ y. y ⊕ neg (twist 1 X.Z ⊛ X.U)) (sym q)) in
          subst (λ y. S.IsCoboundary 1 y) r (nil_coboundary X.presents 1);
    }

    pub zero_limit : LimitIsZero M S ↔ Everything M (X.K X.t)
    zero_limit = (
      λ f w. subst (λ y. InImage M y w) (twist_none (X.K X.t)) ((zero_exactly zero w).0 (f zero (twist zero X.Z ⊛ w) (is_class zero w))),
      λ f e z h.
          let w = coords e z h in
          subst (λ y. IsZeroInLimit M S e y) w.1 ((zero_exactly e w.0).1 (everything_twist L e (X.K X.t) f w.0)),
    )
