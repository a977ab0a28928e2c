-- Maps between systems with generating morphisms, in coordinates: zero, one to one, onto
use Rattle.std.proofs.Common.{ℕ, zero, suc, ◌+◌, ◌≡◌, ◌↔◌, ◌∙◌, sym, ap, subst, add-zero, zero-add}
use Rattle.fm_algebra.specs.Matrices.{Matrices, IsMatrices}
use Rattle.fm_algebra.specs.Image.{InImage}
use Rattle.fm_algebra.proofs.Generation.{Within, SameImage, Everything, Flat, Generates}
use Rattle.fm_algebra.proofs.Images.{image_self, image_mul, image_trans, image_twist, image_near, image_columns, within_columns, within_twist, everything_twist, add_sub}
use Rattle.fm_limit.specs.System.{System, moved, IsZeroInLimit, MapMatrices, MapIsZero, MapIsOneToOne, MapIsOnto, IsOntoBy, MapCommutes}
use Rattle.fm_limit.proofs.Chains.{Chain, steps, rising_more, to_repeat, steps_exact}
use Rattle.fm_limit.proofs.Joins as joins
use Rattle.fm_limit.proofs.SystemMoves.{Computed, coords, is_class, coboundary_sub, moved_class, zero_exactly}

module _ {M : Matrices} (L : IsMatrices M) where
  open M use {Mat, ◌⊛◌, ◌⊕◌, neg, nil, flip, basis, beside, stack, twist}
  open L use {assoc, add_comm, add_assoc, add_nil, add_neg, dist_left, twist_flip, twist_none, join_mul, split, twist_beside}

  infixl 70 ◌⊛◌
  infixl 60 ◌⊕◌
  module _ (F : Flat M) {S T : System M} (along : MapMatrices M S T) (A : MapCommutes M S T along) (X : Computed M S) (Y : Computed M T) (Phi : Mat Y.g X.g) (square : (e : ℕ) → along e ⊛ twist e X.Z ≡ twist e Y.Z ⊛ twist e Phi) where
    -- the image of (e, z)
    abbrev pub map : ℕ → Mat S.size 1 → Mat T.size 1
    map e z = along e ⊛ z

    pub mapped_coords : (e : ℕ) (w : Mat X.g 1) → map e (twist e X.Z ⊛ w) ≡ twist e Y.Z ⊛ (twist e Phi ⊛ w)
    mapped_coords = joins.mapped_coords L S T along Phi square

    -- a class is mapped to a class
    pub mapped_class : (e : ℕ) (z : Mat S.size 1) → S.IsCocycle e z → T.IsCocycle e (map e z)
    mapped_class e z c =
        let w = coords L F X e z c in
        subst (λ y. T.IsCocycle e y) (sym (mapped_coords e w.0) ∙ ap (λ y. map e y) w.1) (is_class L F Y e (twist e Phi ⊛ w.0))

    -- an image is zero in the limit exactly if Phi sends the coordinates into the stable kernel of the target
    zero_coords : (e : ℕ) (w : Mat X.g 1) → IsZeroInLimit M T e (map e (twist e X.Z ⊛ w)) ↔ InImage M (twist e (Y.K Y.t)) (twist e Phi ⊛ w)
    zero_coords e w =
        subst (λ y. IsZeroInLimit M T e y ↔ InImage M (twist e (Y.K Y.t)) (twist e Phi ⊛ w)) (sym (mapped_coords e w)) (zero_exactly L F Y e (twist e Phi ⊛ w))

    zero_first : (w : Mat X.g 1) → InImage M (twist zero (Y.K Y.t)) (twist zero Phi ⊛ w) → InImage M (Y.K Y.t) (Phi ⊛ w)
    zero_first w h = subst (λ y. InImage M y (Phi ⊛ w)) (twist_none (Y.K Y.t)) (subst (λ y. InImage M (twist zero (Y.K Y.t)) (y ⊛ w)) (twist_none Phi) h)

    first_zero : (w : Mat X.g 1) → InImage M (Y.K Y.t) (Phi ⊛ w) → InImage M (twist zero (Y.K Y.t)) (twist zero Phi ⊛ w)
    first_zero w h =
        subst (λ y. InImage M (twist zero (Y.K Y.t)) (y ⊛ w)) (sym (twist_none Phi)) (subst (λ y. InImage M y (Phi ⊛ w)) (sym (twist_none (Y.K Y.t))) h)

    -- the induced map is zero exactly if im Phi lies in the stable kernel of the target
    pub zero_map : MapIsZero M S T along ↔ InImage M (Y.K Y.t) Phi
    zero_map = (
      λ f. image_columns L (Y.K Y.t) Phi (λ c h.
          let b : Mat X.g 1 = basis X.g c h in
          zero_first b ((zero_coords zero b).0 (f zero (twist zero X.Z ⊛ b) (is_class L F X zero b)))),
      λ h e z c.
          let w = coords L F X e z c in
          let k : InImage M (twist e (Y.K Y.t)) (twist e Phi ⊛ w.0) = image_mul L (twist e (Y.K Y.t)) (twist e Phi) w.0 (image_twist L e (Y.K Y.t) Phi h) in
          subst (λ y. IsZeroInLimit M T e (map e y)) w.1 ((zero_coords e w.0).1 k),
    )

    -- it is one to one exactly if every w with Phi * w in the stable kernel of the target is in that of the source
    pub one_map : MapIsOneToOne M S T along ↔ ((w : Mat X.g 1) → InImage M (Y.K Y.t) (Phi ⊛ w) → InImage M (X.K X.t) w)
    one_map = (there, back)
      where
        there : MapIsOneToOne M S T along → (w : Mat X.g 1) → InImage M (Y.K Y.t) (Phi ⊛ w) → InImage M (X.K X.t) w
        there f w h =
            let r : IsZeroInLimit M T zero (map zero (twist zero X.Z ⊛ w)) = (zero_coords zero w).1 (first_zero w h) in
            subst (λ y. InImage M y w) (twist_none (X.K X.t)) ((zero_exactly L F X zero w).0 (f zero (twist zero X.Z ⊛ w) (is_class L F X zero w) r))

        back : ((w : Mat X.g 1) → InImage M (Y.K Y.t) (Phi ⊛ w) → InImage M (X.K X.t) w) → MapIsOneToOne M S T along
        back f e z c i =
            let w = coords L F X e z c in
            let r : IsZeroInLimit M T e (map e (twist e X.Z ⊛ w.0)) = subst (λ y. IsZeroInLimit M T e (map e y)) (sym w.1) i in
            let n : InImage M (twist e (X.K X.t)) w.0 = F.flat e Phi (Y.K Y.t) (X.K X.t) f w.0 ((zero_coords e w.0).0 r) in
            subst (λ y. IsZeroInLimit M S e y) w.1 ((zero_exactly L F X e w.0).1 n)

    -- the same by a matrix that generates the preimage
    pub one_columns : {l : ℕ} (C : Mat X.g l) → Generates M C Phi (Y.K Y.t)
        → ((w : Mat X.g 1) → InImage M (Y.K Y.t) (Phi ⊛ w) → InImage M (X.K X.t) w) ↔ InImage M (X.K X.t) C
    one_columns {l} C g = (
      λ f. image_columns L (X.K X.t) C (λ c h. f (C ⊛ basis l c h) ((g (C ⊛ basis l c h)).0 (image_self L C (basis l c h)))),
      λ h w k. image_trans L (X.K X.t) C w h ((g w).1 k),
    )

    -- ---- onto: the chain of the target's morphism that begins with J = [N_target | Phi]
    abbrev pub J : Mat Y.g (Y.sizes zero + X.g)
    J = joins.J L S T along Phi square (Y.K zero)

    pub join_left : (e : ℕ) (a : Mat Y.g 1) → InImage M (twist e (Y.K zero)) a → InImage M (twist e J) a
    join_left = joins.join_left L S T along Phi square (Y.K zero)

    pub join_right : (e : ℕ) (b : Mat X.g 1) → InImage M (twist e J) (twist e Phi ⊛ b)
    join_right = joins.join_right L S T along Phi square (Y.K zero)

    pub join_parts : (e : ℕ) (v : Mat Y.g 1) → InImage M (twist e J) v → (b : Mat X.g 1) × InImage M (twist e (Y.K zero)) (v ⊕ neg (twist e Phi ⊛ b))
    join_parts e v h =
        let p = split {n = Y.sizes zero} {k = X.g} h.0 in
        let N : Mat Y.g (Y.sizes zero) = twist e (Y.K zero) in
        let x : Mat Y.g 1 = N ⊛ p.0 in
        let y : Mat Y.g 1 = twist e Phi ⊛ p.1 in
        let q : x ⊕ y ≡ v = sym (join_mul N (twist e Phi) p.0 p.1) ∙ ap (λ u. u ⊛ stack p.0 p.1) (sym (twist_beside e (Y.K zero) Phi)) ∙ ap (λ u. twist e J ⊛ u) (sym p.2) ∙ h.1 in
        (p.1, (p.0, sym (add_sub L y x) ∙ ap (λ u. u ⊕ neg y) (add_comm y x ∙ q)))

    pub join_near : (e : ℕ) (v u : Mat Y.g 1) → T.IsCoboundary e (twist e Y.Z ⊛ v ⊕ neg (twist e Y.Z ⊛ u)) → InImage M (twist e J) u → InImage M (twist e J) v
    join_near e v u k h = image_near L (twist e J) v u (join_left e (v ⊕ neg u) ((coboundary_sub L F Y e v u).1 k)) h

    pub join_image : (e : ℕ) (v : Mat Y.g 1) → InImage M (twist e J) v
        → (b : Mat X.g 1) × T.IsCoboundary e (twist e Y.Z ⊛ v ⊕ neg (map e (twist e X.Z ⊛ b)))
    join_image e v h =
        let r = join_parts e v h in
        (r.0, subst (λ y. T.IsCoboundary e (twist e Y.Z ⊛ v ⊕ neg y)) (sym (mapped_coords e r.0)) ((coboundary_sub L F Y e v (twist e Phi ⊛ r.0)).0 r.1))

    -- the chain of the target's morphism may begin with J
    pub join_begins : InImage M (twist 1 J) (Y.U ⊛ J)
    join_begins = joins.join_begins L S T along Phi square A X.presents Y.presents Y.chain.begins

    pub begins_same : {n : ℕ} (W : Mat Y.g n) → SameImage M W J → InImage M (twist 1 W) (Y.U ⊛ W)
    begins_same {n} W same =
        let there : InImage M J W = within_columns L J W (λ v h. (same v).0 h) in
        let back : InImage M W J = within_columns L W J (λ v h. (same v).1 h) in
        let a : InImage M (Y.U ⊛ J) (Y.U ⊛ W) = (there.0, assoc Y.U J there.0 ∙ ap (λ y. Y.U ⊛ y) there.1) in
        image_trans L (twist 1 W) (twist 1 J) (Y.U ⊛ W) (image_twist L 1 W J back) (image_trans L (twist 1 J) (Y.U ⊛ J) (Y.U ⊛ W) join_begins a)

    module _ {sizes : ℕ → ℕ} {W : (s : ℕ) → Mat Y.g (sizes s)} (C : Chain M Y.g Y.U sizes W) (begins : SameImage M (W zero) J) where
      to_join : (e : ℕ) (v : Mat Y.g 1) → InImage M (twist e (W zero)) v → InImage M (twist e J) v
      to_join e = within_twist L e (W zero) J (λ v h. (begins v).0 h)

      of_join : (e : ℕ) (v : Mat Y.g 1) → InImage M (twist e J) v → InImage M (twist e (W zero)) v
      of_join e = within_twist L e J (W zero) (λ v h. (begins v).1 h)

      -- s moves take every class of stage 0 to an image plus a coboundary exactly if W_s is everything
      pub onto_by : (s : ℕ) → IsOntoBy M S T along s ↔ Everything M (W s)
      onto_by s = (there, back)
        where
          there : IsOntoBy M S T along s → Everything M (W s)
          there f w =
              let r = f (twist zero Y.Z ⊛ w) (is_class L F Y zero w) in
              let b = coords L F X s r.0 r.1 in
              let u : Mat Y.g 1 = twist s Phi ⊛ b.0 in
              let p : map s r.0 ≡ twist s Y.Z ⊛ u = ap (λ y. map s y) (sym b.1) ∙ mapped_coords s b.0 in
              let v : Mat Y.g 1 = steps M Y.g Y.U s zero w in
              let q : moved M T s zero (twist zero Y.Z ⊛ w) ≡ twist s Y.Z ⊛ v = moved_class L F Y s zero w ∙ ap (λ k. twist k Y.Z ⊛ v) (zero-add s) in
              let k : T.IsCoboundary s (twist s Y.Z ⊛ v ⊕ neg (twist s Y.Z ⊛ u)) = subst (λ y. T.IsCoboundary s (y ⊕ neg (twist s Y.Z ⊛ u))) q (subst (λ y. T.IsCoboundary s (moved M T s zero (twist zero Y.Z ⊛ w) ⊕ neg y)) p r.2) in
              let l : InImage M (twist s (W zero)) v = of_join s v (join_near s v u k (join_right s b.0)) in
              let l' : InImage M (twist (zero + s) (W zero)) v = subst (λ x. InImage M (twist x (W zero)) v) (sym (zero-add s)) l in
              subst (λ y. InImage M y w) (twist_none (W s)) ((steps_exact L C F s zero w).0 l')

          back : Everything M (W s) → IsOntoBy M S T along s
          back f z c =
              let w = coords L F Y zero z c in
              let v : Mat Y.g 1 = steps M Y.g Y.U s zero w.0 in
              let m : InImage M (twist (zero + s) (W zero)) v = (steps_exact L C F s zero w.0).1 (everything_twist L zero (W s) f w.0) in
              let m' : InImage M (twist s (W zero)) v = subst (λ x. InImage M (twist x (W zero)) v) (zero-add s) m in
              let b = join_image s v (to_join s v m') in
              let q : twist s Y.Z ⊛ v ≡ moved M T s zero z = sym (moved_class L F Y s zero w.0 ∙ ap (λ k. twist k Y.Z ⊛ v) (zero-add s)) ∙ ap (λ y. moved M T s zero y) w.1 in
              (twist s X.Z ⊛ b.0, is_class L F X s b.0, subst (λ y. T.IsCoboundary s (y ⊕ neg (map s (twist s X.Z ⊛ b.0)))) q b.1)

      module _ (t : ℕ) (same : SameImage M (W t) (W (suc t))) where
        join_stable : (s : ℕ) → Within M (W s) (W t)
        join_stable s = to_repeat L C t same s

        -- the induced map is onto exactly if the constant member is everything
        pub onto_map : MapIsOnto M S T along ↔ Everything M (W t)
        unfolding moved
        onto_map = (there, back)
          where
            there : MapIsOnto M S T along → Everything M (W t)
            there f w =
                let r = f zero (twist zero Y.Z ⊛ w) (is_class L F Y zero w) in
                let e : ℕ = r.0 in
                let i = r.3 in
                let s : ℕ = i.0 in
                let n : ℕ = i.1 in
                let b = coords L F X e r.1 r.2 in
                let u : Mat Y.g 1 = twist e Phi ⊛ b.0 in
                let p : map e r.1 ≡ twist e Y.Z ⊛ u = ap (λ y. map e y) (sym b.1) ∙ mapped_coords e b.0 in
                let q : moved M T s zero (twist zero Y.Z ⊛ w) ≡ twist (zero + s) Y.Z ⊛ steps M Y.g Y.U s zero w = moved_class L F Y s zero w in
                let q' : moved M T n e (map e r.1) ≡ twist (zero + s) Y.Z ⊛ steps M Y.g Y.U n e u = ap (λ y. moved M T n e y) p ∙ moved_class L F Y n e u ∙ ap (λ k. twist k Y.Z ⊛ steps M Y.g Y.U n e u) (sym i.2) in
                let k : T.IsCoboundary (zero + s) (twist (zero + s) Y.Z ⊛ steps M Y.g Y.U s zero w ⊕ neg (twist (zero + s) Y.Z ⊛ steps M Y.g Y.U n e u)) = subst (λ y. T.IsCoboundary (zero + s) (y ⊕ neg (twist (zero + s) Y.Z ⊛ steps M Y.g Y.U n e u))) q (subst (λ y. T.IsCoboundary (zero + s) (moved M T s zero (twist zero Y.Z ⊛ w) ⊕ neg y)) q' i.3) in
                let m : InImage M (twist e (W n)) u = within_twist L e (W zero) (W n) (λ v h. subst (λ x. InImage M (W x) v) (zero-add n) (rising_more L C zero n v h)) u (of_join e u (join_right e b.0)) in
                let j : InImage M (twist (zero + s) (W zero)) (steps M Y.g Y.U n e u) = subst (λ x. InImage M (twist x (W zero)) (steps M Y.g Y.U n e u)) (sym i.2) ((steps_exact L C F n e u).1 m) in
                let l : InImage M (twist (zero + s) (W zero)) (steps M Y.g Y.U s zero w) = of_join (zero + s) (steps M Y.g Y.U s zero w) (join_near (zero + s) (steps M Y.g Y.U s zero w) (steps M Y.g Y.U n e u) k (to_join (zero + s) (steps M Y.g Y.U n e u) j)) in
                join_stable s w (subst (λ y. InImage M y w) (twist_none (W s)) ((steps_exact L C F s zero w).0 l))

            back : Everything M (W t) → MapIsOnto M S T along
            back f e z c =
                let w = coords L F Y e z c in
                let m : InImage M (twist (e + t) (W zero)) (steps M Y.g Y.U t e w.0) = (steps_exact L C F t e w.0).1 (everything_twist L e (W t) f w.0) in
                let b = join_image (e + t) (steps M Y.g Y.U t e w.0) (to_join (e + t) (steps M Y.g Y.U t e w.0) m) in
                let q : twist (e + t) Y.Z ⊛ steps M Y.g Y.U t e w.0 ≡ moved M T t e z = sym (moved_class L F Y t e w.0) ∙ ap (λ y. moved M T t e y) w.1 in
                (e + t, twist (e + t) X.Z ⊛ b.0, is_class L F X (e + t) b.0, (t, zero, sym (add-zero (e + t)), subst (λ y. T.IsCoboundary (e + t) (y ⊕ neg (map (e + t) (twist (e + t) X.Z ⊛ b.0)))) q b.1))
