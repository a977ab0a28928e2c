-- The rising chain of a generating morphism, its first repeat, and steps at any stage
use Rattle.std.proofs.Common.{ℕ, zero, suc, ◌+◌, ◌<◌, ◌≤◌, ◌≡◌, ◌↔◌, ◌∙◌, sym, ap, subst, arith, add-zero, add-suc, min, ◌⊎◌, inl, inr}
use Rattle.std.proofs.lemmas.Bool.{cases_lt}
use Rattle.fm_algebra.specs.Matrices.{Matrices, IsMatrices}
use Rattle.fm_algebra.specs.Image.{InImage}
use Rattle.fm_algebra.proofs.Generation.{Generates, Within, SameImage, Everything, Flat}
use Rattle.fm_algebra.proofs.Images.{image_mul, within_twist, everything_twist, twist_more, columns_within, generates_twist}

module _ (M : Matrices) where
  open M use {Mat, ◌⊛◌, twist}

  infixl 70 ◌⊛◌
  -- The chain of U that begins with K_0: each member generates all w with U * w in the image of the twist of the one before.
  pub record Chain (g : ℕ) (U : Mat g g) (sizes : ℕ → ℕ) (K : (s : ℕ) → Mat g (sizes s)) : Type 0 where
    pub begins : InImage M (twist 1 (K zero)) (U ⊛ K zero)
    pub step : (s : ℕ) → Generates M (K (suc s)) U (twist 1 (K s))

  -- s steps from w at stage e; a step multiplies by the twist of U
  unfoldable pub steps : (g : ℕ) → Mat g g → ℕ → ℕ → Mat g 1 → Mat g 1
  steps g U zero e w = w
  steps g U (suc s) e w = steps g U s (suc e) (twist e U ⊛ w)

module _ {M : Matrices} (L : IsMatrices M) where
  open M use {Mat, ◌⊛◌, twist}
  open L use {assoc}

  infixl 70 ◌⊛◌
  module _ {g : ℕ} {U : Mat g g} {sizes : ℕ → ℕ} {K : (s : ℕ) → Mat g (sizes s)} (H : Chain M g U sizes K) where
    -- the chain rises
    pub rising : (s : ℕ) → Within M (K s) (K (suc s))
    rising zero v h =
        (H.step zero v).1 (subst (λ x. InImage M (twist 1 (K zero)) x) (assoc U (K zero) h.0 ∙ ap (λ x. U ⊛ x) h.1) (image_mul L (twist 1 (K zero)) (U ⊛ K zero) h.0 H.begins))
    rising (suc s) v h =
        (H.step (suc s) v).1 (within_twist L 1 (K s) (K (suc s)) (rising s) (U ⊛ v) ((H.step s v).0 h))

    pub rising_more : (s n : ℕ) → Within M (K s) (K (s + n))
    rising_more s zero v h = subst (λ x. InImage M (K x) v) (sym (add-zero s)) h
    rising_more s (suc n) v h = subst (λ x. InImage M (K x) v) (sym (add-suc s n)) (rising (s + n) v (rising_more s n v h))

    -- if two members are equal, so are the next two, and so all later ones
    pub repeats : (t : ℕ) → SameImage M (K t) (K (suc t)) → SameImage M (K (suc t)) (K (suc (suc t)))
    repeats t same v = (
      rising (suc t) v,
      λ h. (H.step t v).1 (within_twist L 1 (K (suc t)) (K t) (λ u k. (same u).1 k) (U ⊛ v) ((H.step (suc t) v).0 h)),
    )

    pub repeats_more : (t n : ℕ) → SameImage M (K t) (K (suc t)) → SameImage M (K (t + n)) (K (suc (t + n)))
    repeats_more t zero same = subst (λ x. SameImage M (K x) (K (suc x))) (sym (add-zero t)) same
    repeats_more t (suc n) same = subst (λ x. SameImage M (K x) (K (suc x))) (sym (add-suc t n)) (repeats (t + n) (repeats_more t n same))

    pub constant : (t n : ℕ) → SameImage M (K t) (K (suc t)) → SameImage M (K t) (K (t + n))
    constant t zero same = subst (λ x. SameImage M (K t) (K x)) (sym (add-zero t)) (λ v. (λ h. h, λ h. h))
    constant t (suc n) same =
        subst (λ x. SameImage M (K t) (K x)) (sym (add-suc t n)) (λ v. (λ h. (repeats_more t n same v).0 ((constant t n same v).0 h), λ h. (constant t n same v).1 ((repeats_more t n same v).1 h)))

    pub same_columns : (t : ℕ) → InImage M (K t) (K (suc t)) → SameImage M (K t) (K (suc t))
    same_columns t h v = (rising t v, columns_within L (K t) (K (suc t)) h v)

    -- every member lies in the one at a repeat
    pub to_repeat : (t : ℕ) → SameImage M (K t) (K (suc t)) → (s : ℕ) → Within M (K s) (K t)
    to_repeat t same s v h =
        let q : s + t ≡ t + s = omega arith in
        (constant t s same v).1 (subst (λ x. InImage M (K x) v) q (rising_more s t v h))

    module _ (F : Flat M) where
      -- s steps from w at stage e end in the image of the twist of K_0 exactly if w is in the image of the twist of K_s
      pub steps_exact : (s e : ℕ) (w : Mat g 1) → InImage M (twist (e + s) (K zero)) (steps M g U s e w) ↔ InImage M (twist e (K s)) w
      unfolding steps
      steps_exact zero e w = rw add-zero (λ h. h, λ h. h)
      steps_exact (suc s) e w =
          let ih = steps_exact s (suc e) (twist e U ⊛ w) in
          let q : suc e + s ≡ e + suc s = omega arith in
          let l = generates_twist L F e (K (suc s)) U (twist 1 (K s)) (H.step s) w in
          let m : twist e (twist 1 (K s)) ≡ twist (suc e) (K s) = twist_more L e (K s) in (
            λ h. l.1 (subst (λ x. InImage M x (twist e U ⊛ w)) (sym m) (ih.0 (subst (λ x. InImage M (twist x (K zero)) (steps M g U s (suc e) (twist e U ⊛ w))) (sym q) h))),
            λ h. subst (λ x. InImage M (twist x (K zero)) (steps M g U s (suc e) (twist e U ⊛ w))) q (ih.1 (subst (λ x. InImage M x (twist e U ⊛ w)) m (l.0 h))),
          )

      -- some number of steps does so exactly if w is in the image of the twist of the member at a repeat
      pub some_steps_exact : (t : ℕ) → SameImage M (K t) (K (suc t)) → (e : ℕ) (w : Mat g 1)
          → ((s : ℕ) × InImage M (twist (e + s) (K zero)) (steps M g U s e w)) ↔ InImage M (twist e (K t)) w
      some_steps_exact t same e w = (
        λ h. within_twist L e (K h.0) (K t) (to_repeat t same h.0) w ((steps_exact h.0 e w).0 h.1),
        λ h. (t, (steps_exact t e w).1 h),
      )

  -- a chain that was computed through its repeat rises
  module _ {g : ℕ} {U : Mat g g} {sizes : ℕ → ℕ} {K : (s : ℕ) → Mat g (sizes s)} (t : ℕ) (begins : InImage M (twist 1 (K zero)) (U ⊛ K zero)) (step : (s : ℕ) → s < suc t → Generates M (K (suc s)) U (twist 1 (K s))) where
    pub rising_to : (s : ℕ) → s < suc t → Within M (K s) (K (suc s))
    rising_to zero b v h =
        (step zero b v).1 (subst (λ x. InImage M (twist 1 (K zero)) x) (assoc U (K zero) h.0 ∙ ap (λ x. U ⊛ x) h.1) (image_mul L (twist 1 (K zero)) (U ⊛ K zero) h.0 begins))
    rising_to (suc s) b v h =
        let c : s < suc t = omega arith in
        (step (suc s) b v).1 (within_twist L 1 (K s) (K (suc s)) (rising_to s c) (U ⊛ v) ((step s c v).0 h))

  -- a chain that was computed through K_t goes on with K_t where K_t generates all w with U * w in the image of its own twist
  module _ {g : ℕ} {U : Mat g g} {sizes : ℕ → ℕ} {K : (s : ℕ) → Mat g (sizes s)} (t : ℕ) (begins : InImage M (twist 1 (K zero)) (U ⊛ K zero)) (step : (s : ℕ) → s < t → Generates M (K (suc s)) U (twist 1 (K s))) (last : Generates M (K t) U (twist 1 (K t))) where
    pub continued : Chain M g U (λ s. sizes (min s t)) (λ s. K (min s t))
    continued = record {
      begins = let q : min zero t ≡ zero = omega arith in subst (λ x. InImage M (twist 1 (K x)) (U ⊛ K x)) (sym q) begins;
      step = λ s. go s (cases_lt s t);
    }
      where
        go : (s : ℕ) → (s < t) ⊎ (t ≤ s) → Generates M (K (min (suc s) t)) U (twist 1 (K (min s t)))
        go s (inl b) =
            let q : min s t ≡ s = omega arith in
            let r : min (suc s) t ≡ suc s = omega arith in
            subst (λ x. Generates M (K (min (suc s) t)) U (twist 1 (K x))) (sym q) (subst (λ x. Generates M (K x) U (twist 1 (K s))) (sym r) (step s b))
        go s (inr b) =
            let q : min s t ≡ t = omega arith in
            let r : min (suc s) t ≡ t = omega arith in
            subst (λ x. Generates M (K (min (suc s) t)) U (twist 1 (K x))) (sym q) (subst (λ x. Generates M (K x) U (twist 1 (K t))) (sym r) last)

  -- so it does at a repeat, and where K_t is everything
  pub last_repeats : {g a b : ℕ} {U : Mat g g} (K : Mat g a) (next : Mat g b) → Generates M next U (twist 1 K) → SameImage M K next → Generates M K U (twist 1 K)
  last_repeats K next step same w = (λ h. (step w).0 ((same w).0 h), λ h. (same w).1 ((step w).1 h))

  pub last_everything : {g a : ℕ} {U : Mat g g} (K : Mat g a) → Everything M K → Generates M K U (twist 1 K)
  last_everything {g} {a} {U} K f w = (λ h. everything_twist L 1 K f (U ⊛ w), λ h. f w)
