-- A matrix with copies of one matrix along its diagonal, and a unit matrix written as one column
use Rattle.std.proofs.Common.{ℕ, zero, suc, ◌+◌, ◌*◌, ◌/◌, ◌%◌, ◌<◌, ◌≤◌, ◌≡◌, ◌∙◌, ◌↔◌, ◌⊎◌, inl, inr, refl, sym, ap, ap₂, subst, arith, add_comm, cond, eqb, List, [], ◌∷◌, length}
use native.Mathlib.Nat.{mod-lt, mod-eq_of_lt, div-eq_of_lt, add-mul-mod_self_right, add-mul-div_right, div-lt_iff_lt-mul, div-add-mod, mul-le-mul_right}
use Rattle.std.proofs.lemmas.Bool.{cases_lt, cases_eq}
use native.Mathlib.Bridge.{le_prop}
use Rattle.std.proofs.Math.Nat.{mul_comm, zero-mul}
use Rattle.std.proofs.lemmas.List.{ext_get_or}
use Rattle.fm_algebra.specs.Ring.{Ring, IsRing}
use Rattle.fm_algebra.specs.FiniteSums.{finite_sum}
use Rattle.fm_algebra.specs.Matrix.{Matrix, cols, component, entry, listed, table, apply, InListImage}
use Rattle.fm_algebra.proofs.Algebra.{zero_mul}
use Rattle.fm_algebra.proofs.FiniteSums.{sum_ext, sum_zero, sum_only, sum_cast, sum_append, where_same, where_other}
use Rattle.fm_algebra.proofs.Tables.{length-listed, get_or-listed, entry_table, rows_table, cols_table, length-apply}

-- the row or column c * k + s of a matrix of blocks lies in block c, at place s
block_of : (c k s : ℕ) → s < k → (c * k + s) / k ≡ c
block_of c k s h =
    let pos : 0 < k = omega arith in
    let z : s / k ≡ 0 = div-eq_of_lt h in
    ap (λ x. x / k) (add_comm (c * k) s) ∙ add-mul-div_right s c pos ∙ (let q : s / k + c ≡ c = omega arith in q)

place_of : (c k s : ℕ) → s < k → (c * k + s) % k ≡ s
place_of c k s h = ap (λ x. x % k) (add_comm (c * k) s) ∙ add-mul-mod_self_right s c k ∙ mod-eq_of_lt h

module _ {R : Ring} (L : IsRing R) where
  open R use {Carrier, zero as 𝟘, one as 𝟙, add as ◌⊕◌, mul as ◌⊗◌}

  infixl 60 ◌⊕◌
  infixl 70 ◌⊗◌
  -- a sum block by block
  sum_blocks : (m k : ℕ) (f : ℕ → Carrier) → finite_sum R (m * k) (λ j h. f j) ≡ finite_sum R m (λ c h. finite_sum R k (λ s b. f (c * k + s)))
  unfolding finite_sum
  sum_blocks zero k f = let q : zero * k ≡ zero = omega arith in sum_cast L (zero * k) zero (λ j h. f j) (λ j h. f j) q (λ j a b. refl)
  sum_blocks (suc m) k f =
      let q : suc m * k ≡ m * k + k = omega arith in
      sum_cast L (suc m * k) (m * k + k) (λ j h. f j) (λ j h. f j) q (λ j a b. refl)
      ∙ sum_append L (m * k) k (λ j h. f j) (λ j h. f j) (λ s h. f (m * k + s)) (λ j a b. refl) (λ j a b. refl)
      ∙ ap (λ x. x ⊕ finite_sum R k (λ s h. f (m * k + s))) (sum_blocks m k f)

  component_apply : (A : Matrix R) (w : List Carrier) (i : ℕ) → i < A.rows → component R (apply R A w) i ≡ finite_sum R (cols R A) (λ j h. entry R A i j ⊗ component R w j)
  unfolding component apply
  component_apply A w i h = get_or-listed A.rows i 𝟘 (λ i. finite_sum R (cols R A) (λ j h. entry R A i j ⊗ component R w j)) h

  component_listed : (n i : ℕ) (f : ℕ → Carrier) → i < n → component R (listed n f) i ≡ f i
  unfolding component
  component_listed n i f h = get_or-listed n i 𝟘 f h

  same_components : (u v : List Carrier) (n : ℕ) → length u ≡ n → length v ≡ n → ((i : ℕ) → i < n → component R u i ≡ component R v i) → u ≡ v
  unfolding component
  same_components u v n p q f = ext_get_or 𝟘 u v (p ∙ sym q) (λ i h. f i (subst (λ x. i < x) p h))

  module _ (K : Matrix R) where
    abbrev g : ℕ
    g = K.rows

    abbrev k : ℕ
    k = cols R K

    -- copies of K along the diagonal
    abbrev D : Matrix R
    D = table R (g * g) (g * k) (λ i j. cond (eqb (i / g) (j / k)) (entry R K (i % g) (j % k)) 𝟘)

    -- the unit matrix as one column
    abbrev V : Matrix R
    V = table R (g * g) 1 (λ i j. cond (eqb (i / g) (i % g)) 𝟙 𝟘)

    below_block : (c s m : ℕ) → c < g → s < m → c * m + s < g * m
    below_block c s m a b =
        let e : c + 1 ≤ g = omega arith in
        let f : (c + 1) * m ≤ g * m = mul-le-mul_right m e in
        omega arith

    -- the part of a vector in block c
    part : List Carrier → ℕ → List Carrier
    part w c = listed k (λ s. component R w (c * k + s))

    -- D acts block by block
    blocks_act : (w : List Carrier) (c r : ℕ) → c < g → r < g → component R (apply R D w) (c * g + r) ≡ component R (apply R K (part w c)) r
    unfolding part
    blocks_act w c r a b =
        component_apply D w (c * g + r) (subst (λ x. c * g + r < x) (sym (rows_table R (g * g) (g * k) (λ i j. cond (eqb (i / g) (j / k)) (entry R K (i % g) (j % k)) 𝟘))) (below_block c r g a b))
        ∙ sum_cast L (cols R D) (g * k) (λ j h. entry R D (c * g + r) j ⊗ component R w j) (λ j h. cond (eqb c (j / k)) (entry R K r (j % k)) 𝟘 ⊗ component R w j) (cols_table R (g * g) (g * k) (λ i j. cond (eqb (i / g) (j / k)) (entry R K (i % g) (j % k)) 𝟘)) (λ j u v. ap (λ x. x ⊗ component R w j) (entry_table R (g * g) (g * k) (c * g + r) j (λ i j. cond (eqb (i / g) (j / k)) (entry R K (i % g) (j % k)) 𝟘) (below_block c r g a b) v ∙ ap₂ (λ x y. cond (eqb x (j / k)) (entry R K y (j % k)) 𝟘) (block_of c g r b) (place_of c g r b)))
        ∙ sum_blocks g k (λ j. cond (eqb c (j / k)) (entry R K r (j % k)) 𝟘 ⊗ component R w j)
        ∙ sum_ext L g (λ d h. finite_sum R k (λ s u. cond (eqb c ((d * k + s) / k)) (entry R K r ((d * k + s) % k)) 𝟘 ⊗ component R w (d * k + s))) (λ d h. finite_sum R k (λ s u. cond (eqb c d) (entry R K r s) 𝟘 ⊗ component R w (d * k + s))) (λ d h. sum_ext L k (λ s u. cond (eqb c ((d * k + s) / k)) (entry R K r ((d * k + s) % k)) 𝟘 ⊗ component R w (d * k + s)) (λ s u. cond (eqb c d) (entry R K r s) 𝟘 ⊗ component R w (d * k + s)) (λ s u. ap₂ (λ x y. cond (eqb c x) (entry R K r y) 𝟘 ⊗ component R w (d * k + s)) (block_of d k s u) (place_of d k s u)))
        ∙ sum_only L g c (λ d h. finite_sum R k (λ s u. cond (eqb c d) (entry R K r s) 𝟘 ⊗ component R w (d * k + s))) a (λ d h ne. sum_ext L k (λ s u. cond (eqb c d) (entry R K r s) 𝟘 ⊗ component R w (d * k + s)) (λ s u. 𝟘) (λ s u. ap (λ x. x ⊗ component R w (d * k + s)) (where_other L c d (entry R K r s) (λ q. ne (sym q))) ∙ zero_mul L (component R w (d * k + s))) ∙ sum_zero L k)
        ∙ sum_ext L k (λ s u. cond (eqb c c) (entry R K r s) 𝟘 ⊗ component R w (c * k + s)) (λ s u. entry R K r s ⊗ component R (part w c) s) (λ s u. ap₂ (λ x y. x ⊗ y) (where_same L c (entry R K r s)) (sym (component_listed k s (λ s. component R w (c * k + s)) u)))
        ∙ sym (component_apply K (part w c) r b)

    -- column c of a times the unit matrix
    unfoldable pub column_of : Carrier → ℕ → List Carrier
    column_of a c = listed g (λ i. cond (eqb i c) a 𝟘)

    turned_delta : (a : Carrier) (c r : ℕ) → cond (eqb c r) 𝟙 𝟘 ⊗ a ≡ cond (eqb r c) a 𝟘
    turned_delta a c r = elim (cases_eq c r) [
      | inl e ↦ ap (λ x. cond (eqb c x) 𝟙 𝟘 ⊗ a) (sym e) ∙ ap (λ x. x ⊗ a) (where_same L c 𝟙) ∙ L.one_mul a ∙ sym (ap (λ x. cond (eqb x c) a 𝟘) (sym e) ∙ where_same L c a)
      | inr ne ↦ ap (λ x. x ⊗ a) (where_other L c r 𝟙 ne) ∙ zero_mul L a ∙ sym (where_other L r c a (λ e. ne (sym e)))
    ]

    unit_acts : (a : Carrier) (c r : ℕ) → c < g → r < g → component R (apply R V (a ∷ [])) (c * g + r) ≡ cond (eqb r c) a 𝟘
    unfolding finite_sum component
    unit_acts a c r u v =
        component_apply V (a ∷ []) (c * g + r) (subst (λ x. c * g + r < x) (sym (rows_table R (g * g) 1 (λ i j. cond (eqb (i / g) (i % g)) 𝟙 𝟘))) (below_block c r g u v))
        ∙ sum_cast L (cols R V) 1 (λ j h. entry R V (c * g + r) j ⊗ component R (a ∷ []) j) (λ j h. cond (eqb c r) 𝟙 𝟘 ⊗ component R (a ∷ []) j) (cols_table R (g * g) 1 (λ i j. cond (eqb (i / g) (i % g)) 𝟙 𝟘)) (λ j p q. ap (λ x. x ⊗ component R (a ∷ []) j) (entry_table R (g * g) 1 (c * g + r) j (λ i j. cond (eqb (i / g) (i % g)) 𝟙 𝟘) (below_block c r g u v) q ∙ ap₂ (λ x y. cond (eqb x y) 𝟙 𝟘) (block_of c g r v) (place_of c g r v)))
        ∙ L.zero_add (cond (eqb c r) 𝟙 𝟘 ⊗ a)
        ∙ turned_delta a c r

    length_D : (w : List Carrier) → length (apply R D w) ≡ g * g
    length_D w = length-apply R D w ∙ rows_table R (g * g) (g * k) (λ i j. cond (eqb (i / g) (j / k)) (entry R K (i % g) (j % k)) 𝟘)

    length_V : (a : Carrier) → length (apply R V (a ∷ [])) ≡ g * g
    length_V a = length-apply R V (a ∷ []) ∙ rows_table R (g * g) 1 (λ i j. cond (eqb (i / g) (i % g)) 𝟙 𝟘)

    cols_D : cols R D ≡ g * k
    cols_D = cols_table R (g * g) (g * k) (λ i j. cond (eqb (i / g) (j / k)) (entry R K (i % g) (j % k)) 𝟘)

    -- a in every block
    there : (a : Carrier) → InListImage R D (apply R V (a ∷ [])) → (c : ℕ) → c < g → InListImage R K (column_of a c)
    unfolding part column_of
    there a h c u = (
      part h.0 c,
      length-listed k (λ s. component R h.0 (c * k + s)),
      same_components (apply R K (part h.0 c)) (column_of a c) g (length-apply R K (part h.0 c)) (length-listed g (λ i. cond (eqb i c) a 𝟘)) (λ r v. sym (blocks_act h.0 c r u v) ∙ ap (λ x. component R x (c * g + r)) h.2 ∙ unit_acts a c r u v ∙ sym (component_listed g r (λ i. cond (eqb i c) a 𝟘) v)),
    )

    module _ (a : Carrier) (f : (c : ℕ) → c < g → InListImage R K (column_of a c)) where
      pick_by : (c : ℕ) → (c < g) ⊎ (g ≤ c) → List Carrier
      pick_by c (inl h) = (f c h).0
      pick_by c (inr h) = []

      pick_is : (c : ℕ) (t : (c < g) ⊎ (g ≤ c)) (h : c < g) → pick_by c t ≡ (f c h).0
      unfolding pick_by
      pick_is c (inl h') h = ap (λ x. (f c x).0) (le_prop {n = suc c} {m = g} h' h)
      pick_is c (inr h') h = absurd (omega arith)

      whole : List Carrier
      whole = listed (g * k) (λ j. component R (pick_by (j / k) (cases_lt (j / k) g)) (j % k))

      part_is : (c : ℕ) (h : c < g) → part whole c ≡ (f c h).0
      unfolding part whole
      part_is c h =
          same_components (part whole c) (f c h).0 k (length-listed k (λ s. component R whole (c * k + s))) (f c h).1 (λ s v.
          component_listed k s (λ s. component R whole (c * k + s)) v
          ∙ component_listed (g * k) (c * k + s) (λ j. component R (pick_by (j / k) (cases_lt (j / k) g)) (j % k)) (below_block c s k h v)
          ∙ ap₂ (λ x y. component R (pick_by x (cases_lt x g)) y) (block_of c k s v) (place_of c k s v)
          ∙ ap (λ x. component R x s) (pick_is c (cases_lt c g) h))

      back_entry : (c r : ℕ) → c < g → r < g → component R (apply R D whole) (c * g + r) ≡ component R (apply R V (a ∷ [])) (c * g + r)
      unfolding column_of
      back_entry c r u v =
          blocks_act whole c r u v
          ∙ ap (λ x. component R (apply R K x) r) (part_is c u)
          ∙ ap (λ x. component R x r) (f c u).2
          ∙ component_listed g r (λ i. cond (eqb i c) a 𝟘) v
          ∙ sym (unit_acts a c r u v)

      back : InListImage R D (apply R V (a ∷ []))
      unfolding whole
      back = (
        whole,
        length-listed (g * k) (λ j. component R (pick_by (j / k) (cases_lt (j / k) g)) (j % k)) ∙ sym cols_D,
        same_components (apply R D whole) (apply R V (a ∷ [])) (g * g) (length_D whole) (length_V a) (λ i h.
            let pos : 0 < g = positive_of i h in
            let c : i / g < g = (div-lt_iff_lt-mul pos).1 h in
            let r : i % g < g = mod-lt i pos in
            let q : (i / g) * g + i % g ≡ i = parts_of i in
            subst (λ x. component R (apply R D whole) x ≡ component R (apply R V (a ∷ [])) x) q (back_entry (i / g) (i % g) c r)),
      )
        where
          positive_of : (i : ℕ) → i < g * g → 0 < g
          positive_of i h = elim (cases_lt 0 g) [
            | inl b ↦ b
            | inr b ↦ absurd (let z : g ≡ 0 = omega arith in let y : g * g ≡ 0 = ap (λ x. x * g) z ∙ zero-mul g in omega arith)
          ]

          parts_of : (i : ℕ) → (i / g) * g + i % g ≡ i
          parts_of i = ap (λ x. x + i % g) (mul_comm (i / g) g) ∙ div-add-mod i g

    -- the column V times a is in the image of the blocks exactly if each column of a times the unit matrix is in im K
    pub blocks_image : (a : Carrier) → InListImage R D (apply R V (a ∷ [])) ↔ ((c : ℕ) → c < g → InListImage R K (column_of a c))
    blocks_image a = (there a, back a)
