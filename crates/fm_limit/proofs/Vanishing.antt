-- The least number of moves, vanishing after inverting an element, and support ideals, for any system with a generating morphism
use Rattle.std.proofs.Common.{ℕ, zero, suc, ◌+◌, ◌*◌, ◌^◌, ◌<◌, ◌≤◌, ◌≡◌, ◌↔◌, ◌∙◌, sym, ap, subst, arith, add-zero}
use Rattle.std.proofs.Math.Nat.{mul-zero}
use native.Mathlib.Decide.{dec_le}
use native.Mathlib.Bridge.{le_prop}
use Rattle.fm_algebra.specs.Matrices.{Matrices, IsMatrices}
use Rattle.fm_algebra.specs.Image.{InImage, pow}
use Rattle.fm_algebra.proofs.Generation.{Generates, SameImage, Everything, Flat, IsPower}
use Rattle.fm_algebra.proofs.Images.{image_mul, image_twist, image_columns}
use Rattle.fm_limit.specs.System.{System, IsKilledBy, IsZeroInLimit, VanishesInverting, Annihilates, IsEnough, IsSupportIdeal}
use Rattle.fm_limit.proofs.Chains.{rising}
use Rattle.fm_limit.proofs.SystemMoves.{Computed, coords, is_class, killed_exactly, to_stable, zero_exactly}

-- one bound for finitely many
pub bounded : (n : ℕ) (P : ℕ → ℕ → Type 0) → ((c k j : ℕ) → P c k → P c (k + j)) → ((c : ℕ) → c < n → (k : ℕ) × P c k)
    → (k : ℕ) × ((c : ℕ) → c < n → P c k)
bounded zero P more f = (zero, λ c h. absurd (omega arith))
bounded (suc n) P more f =
    let r = bounded n P more (λ c h. f c (omega arith)) in
    let l = f n (omega arith) in (
      l.0 + r.0,
      λ c h. elim (dec_le n c) [
        | yes g ↦ let q : n ≡ c = omega arith in subst (λ x. P x (l.0 + r.0)) q (more n l.0 r.0 l.1)
        | no g ↦ let b : c < n = omega arith in let q : r.0 + l.0 ≡ l.0 + r.0 = omega arith in subst (λ x. P c x) q (more c r.0 l.0 (r.1 c b))
      ],
    )

module _ {M : Matrices} (L : IsMatrices M) where
  open M use {Mat, ◌⊛◌, unit, basis, scalar, twist}
  open L use {assoc, unit_left, unit_right, twist_mul, twist_none, twist_basis, scalar_mul, scalar_one}

  infixl 70 ◌⊛◌
  -- ---- powers
  pub pow_add : (f : Mat 1 1) (k j : ℕ) → pow M f (k + j) ≡ pow M f k ⊛ pow M f j
  unfolding pow
  pow_add f zero j = let q : zero + j ≡ j = omega arith in ap (λ x. pow M f x) q ∙ sym (unit_left (pow M f j))
  pow_add f (suc k) j =
      let q : suc k + j ≡ suc (k + j) = omega arith in
      ap (λ x. pow M f x) q ∙ ap (λ x. f ⊛ x) (pow_add f k j) ∙ sym (assoc f (pow M f k) (pow M f j))

  pub pow_pow : (f : Mat 1 1) (k n : ℕ) → pow M (pow M f k) n ≡ pow M f (k * n)
  unfolding pow
  pow_pow f k zero = ap (λ x. pow M f x) (sym (mul-zero k))
  pow_pow f k (suc n) =
      let q : k + k * n ≡ k * suc n = omega arith in
      ap (λ x. pow M f k ⊛ x) (pow_pow f k n) ∙ sym (pow_add f k (k * n)) ∙ ap (λ x. pow M f x) q

  pub pow_one : (f : Mat 1 1) → pow M f 1 ≡ f
  unfolding pow
  pow_one f = unit_right f

  -- ---- elements of the ring
  pub scalar_column : (a : Mat 1 1) {n : ℕ} (w : Mat n 1) → scalar a n ⊛ w ≡ w ⊛ a
  scalar_column a w = scalar_mul a w ∙ ap (λ x. w ⊛ x) (scalar_one a)

  pub commute : (a b : Mat 1 1) → a ⊛ b ≡ b ⊛ a
  commute a b = ap (λ x. x ⊛ b) (sym (scalar_one a)) ∙ scalar_column a b

  pub scalar_all : (a : Mat 1 1) {g k : ℕ} (A : Mat g k) → InImage M A (scalar a g) → (w : Mat g 1) → InImage M A (w ⊛ a)
  scalar_all a {g} A h w = subst (λ y. InImage M A y) (scalar_column a w) (image_mul L A (scalar a g) w h)

  pub scalar_columns : (a : Mat 1 1) {g k : ℕ} (A : Mat g k) → ((c : ℕ) (h : c < g) → InImage M A (basis g c h ⊛ a)) → InImage M A (scalar a g)
  scalar_columns a {g} A f =
      image_columns L A (scalar a g) (λ c h. subst (λ y. InImage M A y) (sym (scalar_column a (basis g c h))) (f c h))

  pub scalar_twist : (e : ℕ) (a : Mat 1 1) {g k : ℕ} (A : Mat g k) → InImage M A (scalar a g) → InImage M (twist e A) (scalar (twist e a) g)
  scalar_twist e a {g} A h =
      scalar_columns (twist e a) (twist e A) (λ c b.
      let q : twist e (basis g c b ⊛ a) ≡ basis g c b ⊛ twist e a = twist_mul e (basis g c b) a ∙ ap (λ y. y ⊛ twist e a) (twist_basis e g c b) in
      subst (λ y. InImage M (twist e A) y) q (image_twist L e A (basis g c b ⊛ a) (scalar_all a A h (basis g c b))))

  -- what a power does, so does a higher one
  pub scalar_more : (f : Mat 1 1) {g k : ℕ} (A : Mat g k) (i j : ℕ) → InImage M A (scalar (pow M f i) g) → InImage M A (scalar (pow M f (i + j)) g)
  scalar_more f {g} A i j h =
      scalar_columns (pow M f (i + j)) A (λ c b. subst (λ y. InImage M A y) (assoc (basis g c b) (pow M f i) (pow M f j) ∙ ap (λ y. basis g c b ⊛ y) (sym (pow_add f i j))) (image_mul L A (basis g c b ⊛ pow M f i) (pow M f j) (scalar_all (pow M f i) A h (basis g c b))))

  module _ (F : Flat M) {S : System M} (X : Computed M S) where
    -- ---- the least number of moves
    pub stable_enough : IsEnough M S X.t
    stable_enough z c i =
        let w = coords L F X zero z c in
        let k : InImage M (twist zero (X.K X.t)) w.0 = (zero_exactly L F X zero w.0).0 (subst (λ y. IsZeroInLimit M S zero y) (sym w.1) i) in
        subst (λ y. IsKilledBy M S X.t zero y) w.1 ((killed_exactly L F X X.t zero w.0).1 k)

    pub enough_stable : (s : ℕ) → IsEnough M S s → SameImage M (X.K s) (X.K (suc s))
    enough_stable s f v = (
      rising L X.chain s v,
      λ h.
          let k : InImage M (twist zero (X.K X.t)) v = subst (λ y. InImage M y v) (sym (twist_none (X.K X.t))) (to_stable L F X (suc s) v h) in
          let z : Mat S.size 1 = twist zero X.Z ⊛ v in
          let i : IsZeroInLimit M S zero z = (zero_exactly L F X zero v).1 k in
          let j : IsKilledBy M S s zero z = f z (is_class L F X zero v) i in
          subst (λ y. InImage M y v) (twist_none (X.K s)) ((killed_exactly L F X s zero v).0 j),
    )

    -- if no member before t repeats, t is the least number of moves that is enough
    pub stable_least : ((s : ℕ) → s < X.t → SameImage M (X.K s) (X.K (suc s)) → ⊥) → IsEnough M S X.t × ((s : ℕ) → IsEnough M S s → X.t ≤ s)
    stable_least first = (
      stable_enough,
      λ s f. elim (dec_le X.t s) [
        | yes h ↦ h
        | no h ↦ absurd (let b : s < X.t = omega arith in first s b (enough_stable s f))
      ],
    )

    -- ---- elements that annihilate
    pub annihilates_exactly : (a : Mat 1 1) → InImage M (X.K X.t) (scalar a X.g) ↔ Annihilates M S a
    annihilates_exactly a = (
      λ h z c.
          let w = coords L F X zero z c in
          let k : InImage M (twist zero (X.K X.t)) (w.0 ⊛ a) = subst (λ y. InImage M y (w.0 ⊛ a)) (sym (twist_none (X.K X.t))) (scalar_all a (X.K X.t) h w.0) in
          subst (λ y. IsZeroInLimit M S zero y) (sym (assoc (twist zero X.Z) w.0 a) ∙ ap (λ y. y ⊛ a) w.1) ((zero_exactly L F X zero (w.0 ⊛ a)).1 k),
      λ f. scalar_columns a (X.K X.t) (λ c h.
          let b : Mat X.g 1 = basis X.g c h in
          let i : IsZeroInLimit M S zero (twist zero X.Z ⊛ (b ⊛ a)) = subst (λ y. IsZeroInLimit M S zero y) (assoc (twist zero X.Z) b a) (f (twist zero X.Z ⊛ b) (is_class L F X zero b)) in
          subst (λ y. InImage M y (b ⊛ a)) (twist_none (X.K X.t)) ((zero_exactly L F X zero (b ⊛ a)).0 i)),
    )

    module _ (p : ℕ) (power : IsPower M p) (f : Mat 1 1) where
      pub more : {k : ℕ} (A : Mat X.g k) (w : Mat X.g 1) (i j : ℕ) → InImage M A (w ⊛ pow M f i) → InImage M A (w ⊛ pow M f (i + j))
      more A w i j h =
          subst (λ y. InImage M A y) (assoc w (pow M f i) (pow M f j) ∙ ap (λ y. w ⊛ y) (sym (pow_add f i j))) (image_mul L A (w ⊛ pow M f i) (pow M f j) h)

      -- the limit vanishes after inverting f exactly if some f^k times the unit matrix is in the image of the stable member
      pub vanishes_exactly : VanishesInverting M S f ↔ ((k : ℕ) × InImage M (X.K X.t) (scalar (pow M f k) X.g))
      vanishes_exactly = (there, back)
        where
          there : VanishesInverting M S f → (k : ℕ) × InImage M (X.K X.t) (scalar (pow M f k) X.g)
          there v =
              let one : (c : ℕ) (h : c < X.g) → (k : ℕ) × InImage M (X.K X.t) (basis X.g c h ⊛ pow M f k) = λ c h.
              let b : Mat X.g 1 = basis X.g c h in
              let r = v zero (twist zero X.Z ⊛ b) (is_class L F X zero b) in
              let x : IsZeroInLimit M S zero (twist zero X.Z ⊛ (b ⊛ pow M f r.0)) = subst (λ y. IsZeroInLimit M S zero y) (assoc (twist zero X.Z) b (pow M f r.0)) r.1 in
              (r.0, subst (λ x. InImage M x (b ⊛ pow M f r.0)) (twist_none (X.K X.t)) ((zero_exactly L F X zero (b ⊛ pow M f r.0)).0 x)) in
              let P : ℕ → ℕ → Type 0 = λ c k. (h : c < X.g) → InImage M (X.K X.t) (basis X.g c h ⊛ pow M f k) in
              let all = bounded X.g P (λ c i j q h. more (X.K X.t) (basis X.g c h) i j (q h)) (λ c h. ((one c h).0, λ h'. subst (λ x. InImage M (X.K X.t) (basis X.g c x ⊛ pow M f (one c h).0)) (le_prop {n = suc c} {m = X.g} h h') (one c h).1)) in
              (all.0, scalar_columns (pow M f all.0) (X.K X.t) (λ c h. all.1 c h h))

          back : ((k : ℕ) × InImage M (X.K X.t) (scalar (pow M f k) X.g)) → VanishesInverting M S f
          back h e z i =
              let c = coords L F X e z i in
              let n : ℕ = h.0 * (p ^ e) in
              let q : twist e (pow M f h.0) ≡ pow M f n = power e (pow M f h.0) ∙ pow_pow f h.0 (p ^ e) in
              let r : InImage M (twist e (X.K X.t)) (scalar (pow M f n) X.g) = subst (λ x. InImage M (twist e (X.K X.t)) (scalar x X.g)) q (scalar_twist e (pow M f h.0) (X.K X.t) h.1) in
              (n, subst (λ y. IsZeroInLimit M S e y) (sym (assoc (twist e X.Z) c.0 (pow M f n)) ∙ ap (λ y. y ⊛ pow M f n) c.1) ((zero_exactly L F X e (c.0 ⊛ pow M f n)).1 (scalar_all (pow M f n) (twist e (X.K X.t)) r c.0)))

    -- an ideal whose members are the a with a times the unit matrix in the image of the stable member is a support ideal
    pub support_exactly : (p : ℕ) → IsPower M p → (member : Mat 1 1 → Type 0)
        → ((a : Mat 1 1) → member a ↔ InImage M (X.K X.t) (scalar a X.g)) → IsSupportIdeal M S member
    support_exactly p power member m f = (
      λ v. let r = (vanishes_exactly p power f).0 v in (r.0, (m (pow M f r.0)).1 r.1),
      λ h. (vanishes_exactly p power f).1 (h.0, (m (pow M f h.0)).0 h.1),
    )

  -- ---- colons: C_0 is the stable member A, and each C_j generates all w with f * w in im C_(j-1)
  module _ {g a : ℕ} (A : Mat g a) (f : Mat 1 1) {size : ℕ → ℕ} {colon : (j : ℕ) → Mat g (size j)} (k : ℕ) (first : SameImage M (colon zero) A) (step : (j : ℕ) → j < suc k → Generates M (colon (suc j)) (scalar f g) (colon j)) where
    further : (w : Mat g 1) (i j : ℕ) → InImage M A (w ⊛ pow M f i) → InImage M A (w ⊛ pow M f (i + j))
    further w i j h =
        subst (λ y. InImage M A y) (assoc w (pow M f i) (pow M f j) ∙ ap (λ y. w ⊛ y) (sym (pow_add f i j))) (image_mul L A (w ⊛ pow M f i) (pow M f j) h)

    -- w is in im C_j exactly if f^j * w is in im A
    pub colon_exact : (j : ℕ) → j ≤ suc k → (w : Mat g 1) → InImage M (colon j) w ↔ InImage M A (w ⊛ pow M f j)
    unfolding pow
    colon_exact zero b w = subst (λ y. InImage M (colon zero) w ↔ InImage M A y) (sym (unit_right w)) (first w)
    colon_exact (suc j) b w =
        let lt : j < suc k = omega arith in
        let le : j ≤ suc k = omega arith in
        let s = step j lt w in
        let i = colon_exact j le (w ⊛ f) in
        let q : scalar f g ⊛ w ≡ w ⊛ f = scalar_column f w in
        let r : (w ⊛ f) ⊛ pow M f j ≡ w ⊛ (f ⊛ pow M f j) = assoc w f (pow M f j) in (
          λ h. subst (λ y. InImage M A y) r (i.0 (subst (λ y. InImage M (colon j) y) q (s.0 h))),
          λ h. s.1 (subst (λ y. InImage M (colon j) y) (sym q) (i.1 (subst (λ y. InImage M A y) (sym r) h))),
        )

    -- C_j is everything exactly if f^j times the unit matrix is in im A
    pub colon_everything : (j : ℕ) → j ≤ suc k → Everything M (colon j) ↔ InImage M A (scalar (pow M f j) g)
    colon_everything j b = (
      λ e. scalar_columns (pow M f j) A (λ c h. (colon_exact j b (basis g c h)).0 (e (basis g c h))),
      λ h w. (colon_exact j b w).1 (scalar_all (pow M f j) A h w),
    )

    -- the colons rise
    pub colon_rises : (w : Mat g 1) → InImage M (colon k) w → InImage M (colon (suc k)) w
    colon_rises w h =
        let bk : k ≤ suc k = omega arith in
        let bs : suc k ≤ suc k = omega arith in
        let q : k + 1 ≡ suc k = omega arith in
        (colon_exact (suc k) bs w).1 (subst (λ x. InImage M A (w ⊛ pow M f x)) q (further w k 1 ((colon_exact k bk w).0 h)))

    pub colon_down : SameImage M (colon k) (colon (suc k)) → (n : ℕ) (w : Mat g 1) → InImage M A (w ⊛ pow M f (k + n)) → InImage M A (w ⊛ pow M f k)
    colon_down rep zero w h = subst (λ x. InImage M A (w ⊛ pow M f x)) (add-zero k) h
    colon_down rep (suc n) w h =
        let q : k + suc n ≡ n + suc k = omega arith in
        let q' : n + k ≡ k + n = omega arith in
        let l : (i : ℕ) → w ⊛ pow M f (n + i) ≡ (w ⊛ pow M f n) ⊛ pow M f i = λ i. ap (λ x. w ⊛ x) (pow_add f n i) ∙ sym (assoc w (pow M f n) (pow M f i)) in
        let x : InImage M A ((w ⊛ pow M f n) ⊛ pow M f (suc k)) = subst (λ y. InImage M A y) (l (suc k)) (subst (λ y. InImage M A (w ⊛ pow M f y)) q h) in
        let bk : k ≤ suc k = omega arith in
        let bs : suc k ≤ suc k = omega arith in
        let y : InImage M A ((w ⊛ pow M f n) ⊛ pow M f k) = (colon_exact k bk (w ⊛ pow M f n)).0 ((rep (w ⊛ pow M f n)).1 ((colon_exact (suc k) bs (w ⊛ pow M f n)).1 x)) in
        colon_down rep n w (subst (λ v. InImage M A (w ⊛ pow M f v)) q' (subst (λ v. InImage M A v) (sym (l k)) y))

    -- if C_k = C_(k+1) is not everything, no power of f works
    pub colon_never : SameImage M (colon k) (colon (suc k)) → (Everything M (colon (suc k)) → ⊥) → (m : ℕ) → InImage M A (scalar (pow M f m) g) → ⊥
    colon_never rep proper m h =
        proper (λ w.
        let bk : k ≤ suc k = omega arith in
        let q : m + k ≡ k + m = omega arith in
        let x : InImage M A (w ⊛ pow M f (k + m)) = subst (λ v. InImage M A (w ⊛ pow M f v)) q (further w m k (scalar_all (pow M f m) A h w)) in
        (rep w).0 ((colon_exact k bk w).1 (colon_down rep m w x)))
