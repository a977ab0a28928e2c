-- Ideals with resolutions and lifts: what is said of the limit does not depend on them
use Rattle.std.proofs.Common.{ℕ, zero, ◌+◌, ◌<◌, ◌≡◌, ◌↔◌, ◌∙◌, sym, ap, subst, arith}
use Rattle.fm_algebra.specs.Matrices.{Matrices, IsMatrices}
use Rattle.fm_algebra.specs.Image.{InImage, pow}
use Rattle.fm_algebra.proofs.Generation.{IsPower}
use Rattle.fm_algebra.proofs.Images.{sub_add, image_add, image_neg, nil_mul}
use Rattle.fm_limit.specs.Resolution.{rank_of, d_below, Complex}
use Rattle.fm_limit.proofs.Resolutions.{IsResolution, IsFrobeniusLift, IsLiftOfIdentity}
use Rattle.fm_limit.specs.System as system
use Rattle.fm_limit.specs.DirectSystem.{degree, Degree, IsCocycle, IsCoboundary, moved, IsKilledBy, IsZeroInLimit}
use Rattle.fm_limit.specs.Limit.{mapped, LimitIsZero, VanishesInverting, Annihilates, IsEnough, IsSupportIdeal, InducedMapIsZero, InducedMapIsOneToOne, InducedMapIsOnto, IsOntoBy}
use Rattle.fm_limit.proofs.Moves.{Moves, coboundary_cocycle, dual}
use Rattle.fm_limit.proofs.Maps.{Maps, mapped_coboundary, mapped_cocycle}
use Rattle.fm_limit.proofs.Homotopy.{lift_moves, lift_maps, identities_differ, upper_square}
use Rattle.fm_limit.proofs.Independence.{IsSameBy, neg_sub, sub_chain, flip_unit, killed_near, zero_near, mapped_killed, mapped_zero, mapped_sub, mapped_same, same_near, same_turned, lift_after, lift_itself, lift_exists}

-- an ideal with a resolution through degree i and a Frobenius lift
pub record Resolved (M : Matrices) (i : ℕ) : Type 0 where
  pub size : ℕ
  pub ideal : M.Mat 1 size
  pub P : Complex M
  pub resolves : IsResolution M size ideal i P
  pub theta : (j : ℕ) → M.Mat (rank_of P.cols j) (rank_of P.cols j)
  pub lifts : IsFrobeniusLift M i P theta

module _ {M : Matrices} {i : ℕ} where
  -- its classes in degree i
  abbrev pub degree_of : Resolved M i → Degree M
  degree_of A = degree M i A.P A.theta

  -- the ideal of A lies in that of B
  abbrev pub Inside : Resolved M i → Resolved M i → Type 0
  Inside A B = InImage M B.ideal A.ideal

  -- a family of matrices from the resolution of A to that of B
  abbrev pub Family : Resolved M i → Resolved M i → Type 0
  Family A B = (j : ℕ) → M.Mat (rank_of (B.P).cols j) (rank_of (A.P).cols j)

  abbrev pub IsLift : (A B : Resolved M i) → Family A B → Type 0
  IsLift A B k = IsLiftOfIdentity M i A.P B.P k

  -- the map that a lift from A to B induces, from the classes of B to those of A
  abbrev pub carried : (A B : Resolved M i) (k : Family A B) (e : ℕ) → M.Mat (rank_of (B.P).cols i) 1 → M.Mat (rank_of (A.P).cols i) 1
  carried A B k e z = mapped M (degree_of B) (degree_of A) (k i) e z

module _ {M : Matrices} (L : IsMatrices M) (p : ℕ) (positive : zero < p) (power : IsPower M p) {i : ℕ} where
  open M use {Mat, ◌⊛◌, ◌⊕◌, neg, nil, unit, flip, twist}
  open L use {assoc, unit_left, twist_unit}

  infixl 70 ◌⊛◌
  infixl 60 ◌⊕◌
  pub moves_of : (A : Resolved M i) → Moves M (degree_of A)
  moves_of A = lift_moves L p positive power i A.resolves A.lifts

  pub maps_of : (A B : Resolved M i) (k : Family A B) → IsLift A B k → Maps M (degree_of B) (degree_of A) (k i)
  maps_of A B k a = lift_maps L i A.P B.P A.resolves B.resolves B.theta A.theta k B.lifts A.lifts a

  pub carried_class : (A B : Resolved M i) (k : Family A B) → IsLift A B k → Inside A B → (e : ℕ) (z : Mat (rank_of (B.P).cols i) 1)
      → IsCocycle M (degree_of B) e z → IsCocycle M (degree_of A) e (carried A B k e z)
  carried_class A B k a w = mapped_cocycle L (degree_of B) (degree_of A) (k i) (upper_square L i A.P B.P k A.resolves B.resolves a w)

  -- two lifts of the identity carry a class to results that differ by a coboundary
  pub lifts_agree : (A B : Resolved M i) (k l : Family A B) → IsLift A B k → IsLift A B l → (e : ℕ) (z : Mat (rank_of (B.P).cols i) 1)
      → IsCocycle M (degree_of B) e z → IsCoboundary M (degree_of A) e (carried A B k e z ⊕ neg (carried A B l e z))
  lifts_agree A B k l a b e z c = identities_differ L i A.P B.P A.resolves B.resolves k l a b e z c

  -- ---- one ideal, resolved twice
  module _ (A B : Resolved M i) (k : Family A B) (l : Family B A) (kl : IsLift A B k) (lk : IsLift B A l) where
    -- there and back changes a class by a coboundary
    pub there_back : (e : ℕ) (z : Mat (rank_of (B.P).cols i) 1) → IsCocycle M (degree_of B) e z
        → IsCoboundary M (degree_of B) e (z ⊕ neg (carried B A l e (carried A B k e z)))
    there_back e z c =
        let d = lifts_agree B B (λ j. unit (rank_of (B.P).cols j)) (λ j. k j ⊛ l j) (lift_itself L i B.P) (lift_after L l k lk kl) e z c in
        let q : flip (twist e (unit (rank_of (B.P).cols i))) ⊛ z ≡ z = ap (λ y. flip y ⊛ z) (twist_unit e (rank_of (B.P).cols i)) ∙ ap (λ y. y ⊛ z) (flip_unit L (rank_of (B.P).cols i)) ∙ unit_left z in
        let r : flip (twist e (k i ⊛ l i)) ⊛ z ≡ carried B A l e (carried A B k e z) = sym (dual L e (k i) (l i) z) in
        subst (λ y. IsCoboundary M (degree_of B) e (z ⊕ neg y)) r (subst (λ y. IsCoboundary M (degree_of B) e (y ⊕ neg (flip (twist e (k i ⊛ l i)) ⊛ z))) q d)

    -- s moves kill a class exactly if they kill what it is carried to
    pub carried_killed : Inside A B → (s e : ℕ) (z : Mat (rank_of (B.P).cols i) 1) → IsCocycle M (degree_of B) e z
        → IsKilledBy M (degree_of B) s e z ↔ IsKilledBy M (degree_of A) s e (carried A B k e z)
    carried_killed w s e z c = (
      λ h. mapped_killed L (moves_of B) (moves_of A) (maps_of A B k kl) s e z c h,
      λ h. killed_near L (moves_of B) s e z (carried B A l e (carried A B k e z)) (there_back e z c) (mapped_killed L (moves_of A) (moves_of B) (maps_of B A l lk) s e (carried A B k e z) (carried_class A B k kl w e z c) h),
    )

    pub carried_zero : Inside A B → (e : ℕ) (z : Mat (rank_of (B.P).cols i) 1) → IsCocycle M (degree_of B) e z
        → IsZeroInLimit M (degree_of B) e z ↔ IsZeroInLimit M (degree_of A) e (carried A B k e z)
    carried_zero w e z c = (
      λ h. (h.0, (carried_killed w h.0 e z c).0 h.1),
      λ h. (h.0, (carried_killed w h.0 e z c).1 h.1),
    )

    pub zero_carried : Inside A B → LimitIsZero M (degree_of A) → LimitIsZero M (degree_of B)
    zero_carried w f e z c = (carried_zero w e z c).1 (f e (carried A B k e z) (carried_class A B k kl w e z c))

    -- a multiple of a cocycle is a cocycle
    times_class : (e : ℕ) (z : Mat (rank_of (B.P).cols i) 1) (a : Mat 1 1) → IsCocycle M (degree_of B) e z → IsCocycle M (degree_of B) e (z ⊛ a)
    times_class e z a c = sym (assoc (flip (twist e ((B.P).d i))) z a) ∙ ap (λ y. y ⊛ a) c ∙ nil_mul L ((B.P).cols i) a

    -- a multiple is carried to the multiple
    carried_times : (e : ℕ) (z : Mat (rank_of (B.P).cols i) 1) (a : Mat 1 1) → carried A B k e (z ⊛ a) ≡ carried A B k e z ⊛ a
    carried_times e z a = sym (assoc (flip (twist e (k i))) z a)

    pub vanishes_carried : Inside A B → (f : Mat 1 1) → VanishesInverting M (degree_of A) f → VanishesInverting M (degree_of B) f
    vanishes_carried w f v e z c =
        let r = v e (carried A B k e z) (carried_class A B k kl w e z c) in
        (r.0, (carried_zero w e (z ⊛ pow M f r.0) (times_class e z (pow M f r.0) c)).1 (subst (λ y. IsZeroInLimit M (degree_of A) e y) (sym (carried_times e z (pow M f r.0))) r.1))

    pub annihilates_carried : Inside A B → (a : Mat 1 1) → Annihilates M (degree_of A) a → Annihilates M (degree_of B) a
    annihilates_carried w a f z c =
        (carried_zero w zero (z ⊛ a) (times_class zero z a c)).1 (subst (λ y. IsZeroInLimit M (degree_of A) zero y) (sym (carried_times zero z a)) (f (carried A B k zero z) (carried_class A B k kl w zero z c)))

    pub enough_carried : Inside A B → (s : ℕ) → IsEnough M (degree_of A) s → IsEnough M (degree_of B) s
    enough_carried w s f z c h =
        (carried_killed w s zero z c).1 (f (carried A B k zero z) (carried_class A B k kl w zero z c) ((carried_zero w zero z c).0 h))

  -- a class of A is what a class of B is carried to, plus a coboundary
  pub carried_onto : (A B : Resolved M i) (k : Family A B) (l : Family B A) (kl : IsLift A B k) (lk : IsLift B A l) → Inside B A
      → (e : ℕ) (z : Mat (rank_of (A.P).cols i) 1) → IsCocycle M (degree_of A) e z
      → (z' : Mat (rank_of (B.P).cols i) 1) × IsCocycle M (degree_of B) e z' × IsCoboundary M (degree_of A) e (z ⊕ neg (carried A B k e z'))
  carried_onto A B k l kl lk w e z c = (carried B A l e z, carried_class B A l lk w e z c, there_back B A l k lk kl e z c)

  -- ---- what is said of the limit of an ideal holds for all resolutions and lifts
  module _ (A B : Resolved M i) (ab : Inside A B) (ba : Inside B A) where
    pub same_zero : LimitIsZero M (degree_of A) → LimitIsZero M (degree_of B)
    same_zero =
        let k = lift_exists L i A.P B.P A.resolves B.resolves ab in
        let l = lift_exists L i B.P A.P B.resolves A.resolves ba in
        zero_carried A B k.0 l.0 k.1 l.1 ab

    pub same_vanishing : (f : Mat 1 1) → VanishesInverting M (degree_of A) f → VanishesInverting M (degree_of B) f
    same_vanishing =
        let k = lift_exists L i A.P B.P A.resolves B.resolves ab in
        let l = lift_exists L i B.P A.P B.resolves A.resolves ba in
        vanishes_carried A B k.0 l.0 k.1 l.1 ab

    pub same_annihilators : (a : Mat 1 1) → Annihilates M (degree_of A) a → Annihilates M (degree_of B) a
    same_annihilators =
        let k = lift_exists L i A.P B.P A.resolves B.resolves ab in
        let l = lift_exists L i B.P A.P B.resolves A.resolves ba in
        annihilates_carried A B k.0 l.0 k.1 l.1 ab

    pub same_enough : (s : ℕ) → IsEnough M (degree_of A) s → IsEnough M (degree_of B) s
    same_enough =
        let k = lift_exists L i A.P B.P A.resolves B.resolves ab in
        let l = lift_exists L i B.P A.P B.resolves A.resolves ba in
        enough_carried A B k.0 l.0 k.1 l.1 ab

  pub same_support : (A B : Resolved M i) → Inside A B → Inside B A → (member : Mat 1 1 → Type 0)
      → IsSupportIdeal M (degree_of A) member → IsSupportIdeal M (degree_of B) member
  same_support A B ab ba member f x = (
    λ v. (f x).0 (same_vanishing B A ba ab x v),
    λ h. same_vanishing A B ab ba x ((f x).1 h),
  )

  -- ---- induced maps: A and A2 resolve one ideal, B and B2 one that it lies in
  module _ (A B A2 B2 : Resolved M i) (aa : Inside A A2) (a2 : Inside A2 A) (bb : Inside B B2) (b2 : Inside B2 B) (k : Family A B) (k2 : Family A2 B2) (kl : IsLift A B k) (kl2 : IsLift A2 B2 k2) (to_classes : (e : ℕ) (z : Mat (rank_of (B.P).cols i) 1) → IsCocycle M (degree_of B) e z → IsCocycle M (degree_of A) e (carried A B k e z)) where
    up : (l : Family A2 A) × IsLift A2 A l
    up = lift_exists L i A2.P A.P A2.resolves A.resolves a2

    up_back : (l : Family A A2) × IsLift A A2 l
    up_back = lift_exists L i A.P A2.P A.resolves A2.resolves aa

    down : (l : Family B B2) × IsLift B B2 l
    down = lift_exists L i B.P B2.P B.resolves B2.resolves bb

    down_back : (l : Family B2 B) × IsLift B2 B l
    down_back = lift_exists L i B2.P B.P B2.resolves B.resolves b2

    -- the class of the first source that a class of the second is carried to
    abbrev source : (e : ℕ) → Mat (rank_of (B2.P).cols i) 1 → Mat (rank_of (B.P).cols i) 1
    source e z = carried B B2 down.0 e z

    -- mapping by the second lift agrees with going round by the first
    round : (e : ℕ) (z : Mat (rank_of (B2.P).cols i) 1) → IsCocycle M (degree_of B2) e z
        → IsCoboundary M (degree_of A2) e (carried A2 B2 k2 e z ⊕ neg (carried A2 A up.0 e (carried A B k e (source e z))))
    round e z c =
        let d = lifts_agree A2 B2 k2 (λ j. down.0 j ⊛ (k j ⊛ up.0 j)) kl2 (lift_after L (λ j. k j ⊛ up.0 j) down.0 (lift_after L up.0 k up.1 kl) down.1) e z c in
        let q : flip (twist e (down.0 i ⊛ (k i ⊛ up.0 i))) ⊛ z ≡ carried A2 A up.0 e (carried A B k e (source e z)) = sym (dual L e (down.0 i) (k i ⊛ up.0 i) z) ∙ sym (dual L e (k i) (up.0 i) (source e z)) in
        subst (λ y. IsCoboundary M (degree_of A2) e (carried A2 B2 k2 e z ⊕ neg y)) q d

    source_class : (e : ℕ) (z : Mat (rank_of (B2.P).cols i) 1) → IsCocycle M (degree_of B2) e z → IsCocycle M (degree_of B) e (source e z)
    source_class e z c = carried_class B B2 down.0 down.1 bb e z c

    image_class : (e : ℕ) (z : Mat (rank_of (B.P).cols i) 1) → IsCocycle M (degree_of B) e z → IsCocycle M (degree_of A) e (carried A B k e z)
    image_class e z c = to_classes e z c

    -- so the second lift takes classes to classes too
    pub same_map_classes : (e : ℕ) (z : Mat (rank_of (B2.P).cols i) 1) → IsCocycle M (degree_of B2) e z → IsCocycle M (degree_of A2) e (carried A2 B2 k2 e z)
    same_map_classes e z c =
        let x : Mat (rank_of (A.P).cols i) 1 = carried A B k e (source e z) in
        let y : Mat (rank_of (A2.P).cols i) 1 = carried A2 A up.0 e x in
        let v : Mat (rank_of (A2.P).cols i) 1 = carried A2 B2 k2 e z in
        let a : IsCocycle M (degree_of A2) e y = carried_class A2 A up.0 up.1 a2 e x (image_class e (source e z) (source_class e z c)) in
        let b : IsCocycle M (degree_of A2) e (v ⊕ neg y) = coboundary_cocycle L (moves_of A2) e (v ⊕ neg y) (round e z c) in
        sub_cocycle e v y a b
      where
        sub_cocycle : (e : ℕ) (v y : Mat (rank_of (A2.P).cols i) 1) → IsCocycle M (degree_of A2) e y → IsCocycle M (degree_of A2) e (v ⊕ neg y) → IsCocycle M (degree_of A2) e v
        sub_cocycle e v y a b =
            let D : Mat ((A2.P).cols i) (rank_of (A2.P).cols i) = flip (twist e ((A2.P).d i)) in
            ap (λ w. D ⊛ w) (sym (sub_add L v y)) ∙ L.dist_left D y (v ⊕ neg y) ∙ ap (λ w. w ⊕ D ⊛ (v ⊕ neg y)) a ∙ ap (λ w. nil ((A2.P).cols i) 1 ⊕ w) b ∙ L.add_nil (nil ((A2.P).cols i) 1)

    pub same_map_zero : InducedMapIsZero M (degree_of B) (degree_of A) (k i) → InducedMapIsZero M (degree_of B2) (degree_of A2) (k2 i)
    same_map_zero f e z c =
        let x : Mat (rank_of (B.P).cols i) 1 = source e z in
        let h : IsZeroInLimit M (degree_of A) e (carried A B k e x) = f e x (source_class e z c) in
        zero_near L (moves_of A2) e (carried A2 B2 k2 e z) (carried A2 A up.0 e (carried A B k e x)) (round e z c)
        (mapped_zero L (moves_of A) (moves_of A2) (maps_of A2 A up.0 up.1) e (carried A B k e x) (image_class e x (source_class e z c)) h)

    -- the other way round: what the second lift sends to zero, so does the first
    round_zero : (e : ℕ) (z : Mat (rank_of (B2.P).cols i) 1) → IsCocycle M (degree_of B2) e z → IsZeroInLimit M (degree_of A2) e (carried A2 B2 k2 e z) → IsZeroInLimit M (degree_of A) e (carried A B k e (source e z))
    round_zero e z c h =
        let x : Mat (rank_of (B.P).cols i) 1 = source e z in
        let y : Mat (rank_of (A2.P).cols i) 1 = carried A2 A up.0 e (carried A B k e x) in
        let v : Mat (rank_of (A2.P).cols i) 1 = carried A2 B2 k2 e z in
        let d : IsCoboundary M (degree_of A2) e (y ⊕ neg v) = subst (λ u. IsCoboundary M (degree_of A2) e u) (neg_sub L v y) (image_neg L (flip (twist e (d_below M A2.P i))) (v ⊕ neg y) (round e z c)) in
        (carried_zero A2 A up.0 up_back.0 up.1 up_back.1 a2 e (carried A B k e x) (image_class e x (source_class e z c))).1 (zero_near L (moves_of A2) e y v d h)

    pub same_map_one : InducedMapIsOneToOne M (degree_of B) (degree_of A) (k i) → InducedMapIsOneToOne M (degree_of B2) (degree_of A2) (k2 i)
    same_map_one f e z c h =
        (carried_zero B B2 down.0 down_back.0 down.1 down_back.1 bb e z c).1 (f e (source e z) (source_class e z c) (round_zero e z c h))

    -- where a class of the second target is the same as an image by the first lift, it is the same as one by the second
    carried_same : (s s' e : ℕ) (z : Mat (rank_of (A2.P).cols i) 1) → IsCocycle M (degree_of A2) e z → (e' : ℕ) (x : Mat (rank_of (B.P).cols i) 1) → IsCocycle M (degree_of B) e' x
        → IsSameBy (degree_of A) s s' e (carried A A2 up_back.0 e z) e' (carried A B k e' x)
        → IsSameBy (degree_of A2) s s' e z e' (carried A2 B2 k2 e' (carried B2 B down_back.0 e' x))
    carried_same s s' e z c e' x cx h =
        let y : Mat (rank_of (A.P).cols i) 1 = carried A A2 up_back.0 e z in
        let x2 : Mat (rank_of (B2.P).cols i) 1 = carried B2 B down_back.0 e' x in
        let cx2 : IsCocycle M (degree_of B2) e' x2 = carried_class B2 B down_back.0 down_back.1 b2 e' x cx in
        let w1 : Mat (rank_of (A2.P).cols i) 1 = carried A2 A up.0 e' (carried A B k e' x) in
        let w2 : Mat (rank_of (A2.P).cols i) 1 = carried A2 B2 k2 e' x2 in
        let v : Mat (rank_of (A2.P).cols i) 1 = carried A2 A up.0 e' (carried A B k e' (source e' x2)) in
        let first : IsSameBy (degree_of A2) s s' e (carried A2 A up.0 e y) e' w1 = mapped_same L (moves_of A) (moves_of A2) (maps_of A2 A up.0 up.1) s s' e y e' (carried A B k e' x) (carried_class A A2 up_back.0 up_back.1 aa e z c) (image_class e' x cx) h in
        let second : IsSameBy (degree_of A2) s s' e z e' w1 = same_near L (moves_of A2) s s' e z (carried A2 A up.0 e y) e' w1 (there_back A A2 up_back.0 up.0 up_back.1 up.1 e z c) first in
        let near : IsCoboundary M (degree_of B) e' (x ⊕ neg (source e' x2)) = there_back B2 B down_back.0 down.0 down_back.1 down.1 e' x cx in
        let mid : IsCoboundary M (degree_of A) e' (carried A B k e' x ⊕ neg (carried A B k e' (source e' x2))) = subst (λ u. IsCoboundary M (degree_of A) e' u) (mapped_sub L (moves_of B) (moves_of A) (maps_of A B k kl) e' x (source e' x2)) (mapped_coboundary L (maps_of A B k kl) e' (x ⊕ neg (source e' x2)) near) in
        let far : IsCoboundary M (degree_of A2) e' (w1 ⊕ neg v) = subst (λ u. IsCoboundary M (degree_of A2) e' u) (mapped_sub L (moves_of A) (moves_of A2) (maps_of A2 A up.0 up.1) e' (carried A B k e' x) (carried A B k e' (source e' x2))) (mapped_coboundary L (maps_of A2 A up.0 up.1) e' (carried A B k e' x ⊕ neg (carried A B k e' (source e' x2))) mid) in
        let turned : IsCoboundary M (degree_of A2) e' (v ⊕ neg w1) = subst (λ u. IsCoboundary M (degree_of A2) e' u) (neg_sub L w1 v) (image_neg L (flip (twist e' (d_below M A2.P i))) (w1 ⊕ neg v) far) in
        let last : IsCoboundary M (degree_of A2) e' (w2 ⊕ neg w1) = subst (λ u. IsCoboundary M (degree_of A2) e' u) (sub_chain L w2 v w1) (image_add L (flip (twist e' (d_below M A2.P i))) (w2 ⊕ neg v) (v ⊕ neg w1) (round e' x2 cx2) turned) in
        same_turned L (degree_of A2) s' s e' w2 e z (same_near L (moves_of A2) s' s e' w2 w1 e z last (same_turned L (degree_of A2) s s' e z e' w1 second))

    pub same_map_onto : InducedMapIsOnto M (degree_of B) (degree_of A) (k i) → InducedMapIsOnto M (degree_of B2) (degree_of A2) (k2 i)
    same_map_onto f e z c =
        let r = f e (carried A A2 up_back.0 e z) (carried_class A A2 up_back.0 up_back.1 aa e z c) in
        let h = r.3 in
        let q = carried_same h.0 h.1 e z c r.0 r.1 r.2 (h.2, h.3) in
        (r.0, carried B2 B down_back.0 r.0 r.1, carried_class B2 B down_back.0 down_back.1 b2 r.0 r.1 r.2, (h.0, h.1, q.0, q.1))

    -- the number of moves after which all classes of stage 0 are images is the same
    pub same_onto_by : (s : ℕ) → IsOntoBy M (degree_of B) (degree_of A) (k i) s → IsOntoBy M (degree_of B2) (degree_of A2) (k2 i) s
    unfolding system.moved
    same_onto_by s f z c =
        let y : Mat (rank_of (A.P).cols i) 1 = carried A A2 up_back.0 zero z in
        let r = f y (carried_class A A2 up_back.0 up_back.1 aa zero z c) in
        let q : s ≡ zero + s = omega arith in
        let n : zero + s ≡ s + zero = omega arith in
        let h = carried_same s zero zero z c s r.0 r.1 (n, subst (λ e. IsCoboundary M (degree_of A) e (moved M (degree_of A) s zero y ⊕ neg (carried A B k s r.0))) q r.2) in (
          carried B2 B down_back.0 s r.0,
          carried_class B2 B down_back.0 down_back.1 b2 s r.0 r.1,
          subst (λ e. IsCoboundary M (degree_of A2) e (moved M (degree_of A2) s zero z ⊕ neg (carried A2 B2 k2 s (carried B2 B down_back.0 s r.0)))) (sym q) h.1,
        )
