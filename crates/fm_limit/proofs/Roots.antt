-- What a root says of a limit, and support ideals of one limit
use Rattle.std.proofs.Common.{ℕ, zero, suc, ◌≡◌, ◌∙◌, ◌↔◌, refl, sym, ap, ap₂, subst, add-zero, List, length}
use Rattle.fm_gfp.specs.declared.prime.Prime.{Prime}
use Rattle.fm_algebra.specs.Matrices.{Matrices, IsMatrices}
use Rattle.fm_algebra.specs.Families.{mul, each, read, vector, element}
use Rattle.fm_algebra.specs.Image.{InImage}
use Rattle.fm_algebra.specs.Polynomials.{Polynomial, polynomials, polynomial_power, frobenius_twist}
use Rattle.fm_algebra.specs.PolynomialMatrices.{HasShape, PolynomialMatrix, matrix_twist, vector_product}
use Rattle.fm_algebra.proofs.Generation.{Everything}
use Rattle.fm_algebra.proofs.Images.{image_mul, image_twist, everything_twist, neg_mul, twist_neg, twist_more}
use Rattle.fm_algebra.proofs.ListImages.{through, turned}
use Rattle.fm_algebra.proofs.Tables.{list_of, length-list_of, vector_list_of, vector_apply}
use Rattle.fm_limit.specs.DirectSystem.{Degree, IsCocycle, IsCoboundary, move, IsSameInLimit}
use Rattle.fm_limit.specs.Limit.{LimitIsZero, IsRoot}
use Rattle.fm_limit.specs.System as system
use Rattle.fm_limit.specs.ResolvedIdeal.{ResolvedIdeal, row, InIdeal, IsResolved}
use Rattle.fm_limit.specs.Classes.{matrices, degree_in, length_in, vector_in, moved_once, IsClass, IsRootOf, IsZeroLimit, IsSameClass, AreCohomologous, IsSupportIdealOf}
use Rattle.fm_limit.specs.Facts.{IsEverything}
use Rattle.fm_limit.proofs.Moves.{Moves}
use Rattle.fm_limit.proofs.Independence.{zero_near}
use Rattle.fm_limit.proofs.FactsRead.{matrices_laws, moves_read}
use Rattle.fm_limit.proofs.MatrixWords.{twist_read, twist_fits, everything_read, powers}
use Rattle.fm_limit.proofs.IndependenceWords.{member_read}
use Rattle.fm_limit.proofs.StageWords.{moved_read}

module _ {M : Matrices} (L : IsMatrices M) where
  open M use {Mat, ◌⊛◌, ◌⊕◌, neg, nil, flip, twist}
  open L use {assoc, add_assoc, add_comm, add_nil, add_neg, dist_right, twist_mul, twist_add, twist_flip, twist_none}

  infixl 70 ◌⊛◌
  infixl 60 ◌⊕◌
  module _ {D : Degree M} (H : Moves M D) {g k : ℕ} {Z : Mat D.mid g} {K : Mat g k} {U : Mat g g} (R : IsRoot M D g k Z K U) where
    -- the limit is zero exactly if im K is everything
    pub root_zero : LimitIsZero M D ↔ Everything M K
    root_zero = (
      λ f w. subst (λ y. InImage M y w) (twist_none K) ((R.embeds zero w).0 (f zero (twist zero Z ⊛ w) (R.classes zero w))),
      λ f e z c.
          let r = R.generates e z c in
          let h = (R.embeds e r.0).1 (everything_twist L e K f r.0) in
          zero_near L H e z (twist e Z ⊛ r.0) r.1 h,
    )

    -- each class is the same as some Z^[q] * w
    pub root_covers : (e : ℕ) (z : Mat D.mid 1) → IsCocycle M D e z → (w : Mat g 1) × IsSameInLimit M D e z e (twist e Z ⊛ w)
    unfolding system.moved
    root_covers e z c = let r = R.generates e z c in (r.0, (zero, zero, refl, subst (λ x. IsCoboundary M D x (z ⊕ neg (twist e Z ⊛ r.0))) (sym (add-zero e)) r.1))

    -- Z^[q] * w is moved to Z^[pq] * (U^[q] * w), up to a coboundary
    pub root_moves : (e : ℕ) (w : Mat g 1) → IsCoboundary M D (suc e) (move M D e (twist e Z ⊛ w) ⊕ neg (twist (suc e) Z ⊛ (twist e U ⊛ w)))
    root_moves e w =
        let A : Mat D.mid g = flip D.theta ⊛ Z in
        let B : Mat D.mid g = twist 1 Z ⊛ U in
        let h = image_mul L (twist e (flip (twist 1 D.below))) (twist e (A ⊕ neg B)) w (image_twist L e (flip (twist 1 D.below)) (A ⊕ neg B) R.moves) in
        let p : twist e (flip (twist 1 D.below)) ≡ flip (twist (suc e) D.below) = twist_flip e (twist 1 D.below) ∙ ap (λ y. flip y) (twist_more L e D.below) in
        let a : twist e A ⊛ w ≡ move M D e (twist e Z ⊛ w) = ap (λ y. y ⊛ w) (twist_mul e (flip D.theta) Z ∙ ap (λ y. y ⊛ twist e Z) (twist_flip e D.theta)) ∙ assoc (flip (twist e D.theta)) (twist e Z) w in
        let b : twist e B ⊛ w ≡ twist (suc e) Z ⊛ (twist e U ⊛ w) = ap (λ y. y ⊛ w) (twist_mul e (twist 1 Z) U ∙ ap (λ y. y ⊛ twist e U) (twist_more L e Z)) ∙ assoc (twist (suc e) Z) (twist e U) w in
        let q : twist e (A ⊕ neg B) ⊛ w ≡ move M D e (twist e Z ⊛ w) ⊕ neg (twist (suc e) Z ⊛ (twist e U ⊛ w)) = ap (λ y. y ⊛ w) (twist_add e A (neg B) ∙ ap (λ y. twist e A ⊕ y) (twist_neg L e B)) ∙ dist_right (twist e A) (neg (twist e B)) w ∙ ap₂ (λ x y. x ⊕ y) a (neg_mul L (twist e B) w ∙ ap (λ y. neg y) b) in
        subst (λ y. InImage M y (move M D e (twist e Z ⊛ w) ⊕ neg (twist (suc e) Z ⊛ (twist e U ⊛ w)))) p (subst (λ y. InImage M (twist e (flip (twist 1 D.below))) y) q h)

module _ (p : Prime) (n : ℕ) where
  module _ {i : ℕ} {I : ResolvedIdeal p n} (r : IsResolved p n i I) {Z K U : PolynomialMatrix p n} (R : IsRootOf p n i I Z K U) where
    abbrev g : ℕ
    g = length Z.columns

    abbrev a : ℕ
    a = length_in p n i I

    -- the vector of Z^[q] * w
    times_read : (e : ℕ) (w : List (Polynomial p n)) → vector_in p n i I (vector_product p n (matrix_twist p n e Z) w) ≡ mul (polynomials p n) (each (polynomials p n) (frobenius_twist p n e) (read (polynomials p n) a g Z)) (vector (polynomials p n) g w)
    unfolding vector_product HasShape
    times_read e w =
        let s = twist_fits p n e a g Z R.generators_fit in
        vector_apply (polynomials p n) a g (matrix_twist p n e Z) w s.0 s.1 ∙ ap (λ A. mul (polynomials p n) A (vector (polynomials p n) g w)) (twist_read p n e a g Z R.generators_fit)

    step_read : (e : ℕ) (w : List (Polynomial p n)) → vector (polynomials p n) g (vector_product p n (matrix_twist p n e U) w) ≡ mul (polynomials p n) (each (polynomials p n) (frobenius_twist p n e) (read (polynomials p n) g g U)) (vector (polynomials p n) g w)
    unfolding vector_product HasShape
    step_read e w =
        let s = twist_fits p n e g g U R.morphism_fits in
        vector_apply (polynomials p n) g g (matrix_twist p n e U) w s.0 s.1 ∙ ap (λ A. mul (polynomials p n) A (vector (polynomials p n) g w)) (twist_read p n e g g U R.morphism_fits)

    pub root_zero_words : IsZeroLimit p n i I ↔ IsEverything p n K
    unfolding IsZeroLimit
    root_zero_words = through (root_zero (matrices_laws p n) (moves_read p n r) R.root) (turned (everything_read p n g (length K.columns) K R.kernel_fits))

    pub root_covers_words : (e : ℕ) (z : List (Polynomial p n)) → IsClass p n i I e z → (w : List (Polynomial p n)) × (length w ≡ g) × IsSameClass p n i I e z e (vector_product p n (matrix_twist p n e Z) w)
    unfolding IsSameClass
    root_covers_words e z c =
        let h = root_covers (matrices_laws p n) (moves_read p n r) R.root e (vector_in p n i I z) c.cocycle in
        let w : List (Polynomial p n) = list_of (polynomials p n) g h.0 in
        let q = times_read e w ∙ ap (mul (polynomials p n) (each (polynomials p n) (frobenius_twist p n e) (read (polynomials p n) a g Z))) (vector_list_of (polynomials p n) g h.0) in
        (w, length-list_of (polynomials p n) g h.0, subst (λ x. IsSameInLimit (matrices p n) (degree_in p n i I) e (vector_in p n i I z) e x) (sym q) h.1)

    pub root_moves_words : (e : ℕ) (w : List (Polynomial p n)) → length w ≡ g
        → AreCohomologous p n i I (suc e) (moved_once p n i I e (vector_product p n (matrix_twist p n e Z) w)) (vector_product p n (matrix_twist p n (suc e) Z) (vector_product p n (matrix_twist p n e U) w))
    unfolding AreCohomologous
    root_moves_words e w l =
        let M = matrices p n in
        let D = degree_in p n i I in
        let x = vector_product p n (matrix_twist p n e Z) w in
        let y = vector_product p n (matrix_twist p n (suc e) Z) (vector_product p n (matrix_twist p n e U) w) in
        let h = root_moves (matrices_laws p n) (moves_read p n r) R.root e (vector (polynomials p n) g w) in
        let u = moved_read p n r e x ∙ ap (move M D e) (times_read e w) in
        let v = times_read (suc e) (vector_product p n (matrix_twist p n e U) w) ∙ ap (mul (polynomials p n) (each (polynomials p n) (frobenius_twist p n (suc e)) (read (polynomials p n) a g Z))) (step_read e w) in
        subst (λ b. IsCoboundary M D (suc e) (M.◌⊕◌ (vector_in p n i I (moved_once p n i I e x)) (M.neg b))) (sym v) (subst (λ b. IsCoboundary M D (suc e) (M.◌⊕◌ b (M.neg (mul (polynomials p n) (each (polynomials p n) (frobenius_twist p n (suc e)) (read (polynomials p n) a g Z)) (mul (polynomials p n) (each (polynomials p n) (frobenius_twist p n e) (read (polynomials p n) g g U)) (vector (polynomials p n) g w)))))) (sym u) h)

  -- two support ideals of one limit have the same powers
  pub same_powers : (i : ℕ) (I : ResolvedIdeal p n) (fs gs : List (Polynomial p n)) → IsSupportIdealOf p n i I fs → IsSupportIdealOf p n i I gs → (f : Polynomial p n)
      → ((k : ℕ) × InIdeal p n fs (polynomial_power p n k f)) → (k : ℕ) × InIdeal p n gs (polynomial_power p n k f)
  unfolding IsSupportIdealOf
  same_powers i I fs gs a b f h =
      let e = element (polynomials p n) f in
      let v = (a e).1 (h.0, subst (λ x. InImage (matrices p n) (read (polynomials p n) 1 (length fs) (row p n fs)) x) (powers p n f h.0) ((member_read p n fs (polynomial_power p n h.0 f)).0 h.1)) in
      let r = (b e).0 v in
      (r.0, (member_read p n gs (polynomial_power p n r.0 f)).1 (subst (λ x. InImage (matrices p n) (read (polynomials p n) 1 (length gs) (row p n gs)) x) (sym (powers p n f r.0)) r.1))
