-- To be the same in the limit is an equivalence that moves respect
use Rattle.std.proofs.Common.{ℕ, zero, suc, ◌+◌, ◌≡◌, ◌∙◌, ◌↔◌, refl, sym, ap, ap₂, subst, arith, List, replicate}
use Rattle.fm_gfp.specs.declared.prime.Prime.{Prime}
use Rattle.fm_algebra.specs.Matrices.{Matrices, IsMatrices}
use Rattle.fm_algebra.specs.Polynomials.{Polynomial, polynomials, polynomial_zero}
use Rattle.fm_algebra.specs.PolynomialMatrices.{PolynomialMatrix}
use Rattle.fm_algebra.proofs.Images.{image_nil, image_add, mul_nil, add_cancel}
use Rattle.fm_algebra.proofs.Tables.{vector_zero}
use Rattle.fm_limit.specs.System as system
use Rattle.fm_limit.specs.DirectSystem.{Degree, IsCoboundary, move, moved, IsKilledBy, IsZeroInLimit, IsSameInLimit}
use Rattle.fm_limit.specs.Limit.{mapped}
use Rattle.fm_limit.specs.ResolvedIdeal.{ResolvedIdeal, IsResolved, IsLiftOfIdentityOf}
use Rattle.fm_limit.specs.Classes.{matrices, degree_in, length_in, vector_in, lambda_of, moved_once, image_of, IsClass, IsZeroClass, IsSameClass}
use Rattle.fm_limit.proofs.Moves.{Moves, coboundaries_moves, moved_add, moved_neg, moved_more}
use Rattle.fm_limit.proofs.Independence.{IsSameBy, sub_chain, mapped_same, same_turned}
use Rattle.fm_limit.proofs.FactsRead.{matrices_laws, moves_read}
use Rattle.fm_limit.proofs.StageWords.{moved_read}
use Rattle.fm_limit.proofs.IndependenceWords.{image_read}
use Rattle.fm_limit.proofs.HomotopyWords.{maps}

module _ {M : Matrices} (L : IsMatrices M) where
  open M use {Mat, ◌⊛◌, ◌⊕◌, neg, nil, flip, twist}
  open L use {add_nil, add_neg}

  infixl 70 ◌⊛◌
  infixl 60 ◌⊕◌
  module _ {D : Degree M} (H : Moves M D) where
    -- more moves on both sides
    same_more : (m s s' e : ℕ) (x : Mat D.mid 1) (e' : ℕ) (y : Mat D.mid 1) → IsSameBy D s s' e x e' y → IsSameBy D (s + m) (s' + m) e x e' y
    same_more m s s' e x e' y h =
        let a : Mat D.mid 1 = moved M D s e x in
        let b : Mat D.mid 1 = moved M D s' e' y in
        let q : (e + s) + m ≡ e + (s + m) = omega arith in
        let r : e + (s + m) ≡ e' + (s' + m) = let c = h.0 in omega arith in
        let c : IsKilledBy M D m (e + s) (a ⊕ neg b) = coboundaries_moves L H m (e + s) (a ⊕ neg b) h.1 in
        let d : moved M D m (e + s) (a ⊕ neg b) ≡ moved M D (s + m) e x ⊕ neg (moved M D (s' + m) e' y) = moved_add L D m (e + s) a (neg b) ∙ ap₂ (λ u v. u ⊕ v) (sym (moved_more L D s m e x)) (moved_neg L D m (e + s) b ∙ ap (λ v. neg v) (ap (λ k. moved M D m k b) h.0 ∙ sym (moved_more L D s' m e' y))) in
        (r, subst (λ v. IsCoboundary M D (e + (s + m)) v) d (subst (λ k. IsCoboundary M D k (moved M D m (e + s) (a ⊕ neg b))) q c))

    pub same_trans : (e : ℕ) (x : Mat D.mid 1) (e' : ℕ) (y : Mat D.mid 1) (e'' : ℕ) (z : Mat D.mid 1) → IsSameInLimit M D e x e' y → IsSameInLimit M D e' y e'' z → IsSameInLimit M D e x e'' z
    same_trans e x e' y e'' z h k =
        let s : ℕ = h.0 in
        let s' : ℕ = h.1 in
        let r : ℕ = k.0 in
        let r' : ℕ = k.1 in
        let p = same_more r s s' e x e' y (h.2, h.3) in
        let q = same_more s' r r' e' y e'' z (k.2, k.3) in
        let c : s' + r ≡ r + s' = omega arith in
        let a : Mat D.mid 1 = moved M D (s + r) e x in
        let b : Mat D.mid 1 = moved M D (r + s') e' y in
        let d : Mat D.mid 1 = moved M D (r' + s') e'' z in
        let u : IsCoboundary M D (e + (s + r)) (a ⊕ neg b) = subst (λ n. IsCoboundary M D (e + (s + r)) (a ⊕ neg (moved M D n e' y))) c p.1 in
        let same : e' + (r + s') ≡ e + (s + r) = let i = p.0 in omega arith in
        let v : IsCoboundary M D (e + (s + r)) (b ⊕ neg d) = subst (λ n. IsCoboundary M D n (b ⊕ neg d)) same q.1 in
        let end : e + (s + r) ≡ e'' + (r' + s') = let i = p.0 in let j = q.0 in omega arith in
        (s + r, r' + s', end, subst (λ w. IsCoboundary M D (e + (s + r)) w) (sub_chain L a b d) (image_add L (flip (twist (e + (s + r)) D.below)) (a ⊕ neg b) (b ⊕ neg d) u v))

  nothing : (D : Degree M) (e : ℕ) (x : Mat D.mid 1) → IsCoboundary M D e (x ⊕ neg x)
  nothing D e x = subst (λ v. IsCoboundary M D e v) (sym (add_neg x)) (image_nil L 1 (flip (twist e D.below)))

  pub same_itself : (D : Degree M) (e : ℕ) (x : Mat D.mid 1) → IsSameInLimit M D e x e x
  same_itself D e x = (zero, zero, refl, nothing D (e + zero) (moved M D zero e x))

  -- a class and what it is moved to are the same
  pub same_moved : (D : Degree M) (e : ℕ) (x : Mat D.mid 1) → IsSameInLimit M D e x (suc e) (move M D e x)
  unfolding system.moved
  same_moved D e x = let q : e + 1 ≡ suc e + zero = omega arith in (1, zero, q, nothing D (e + 1) (move M D e x))

  moved_nil : (D : Degree M) (s e : ℕ) → moved M D s e (nil D.mid 1) ≡ nil D.mid 1
  unfolding system.moved
  moved_nil D zero e = refl
  moved_nil D (suc s) e = ap (moved M D s (suc e)) (mul_nil L (flip (twist e D.theta))) ∙ moved_nil D s (suc e)

  sub_zero : {m n : ℕ} (A : Mat m n) → A ⊕ neg (nil m n) ≡ A
  sub_zero {m} {n} A = ap (λ v. A ⊕ v) (neg_nil m n) ∙ add_nil A
    where
      neg_nil : (m n : ℕ) → neg (nil m n) ≡ nil m n
      neg_nil m n = add_cancel L (nil m n) (neg (nil m n)) (nil m n) (add_neg (nil m n) ∙ sym (add_nil (nil m n)))

  -- zero in the limit is the same as 0
  pub zero_is_same : (D : Degree M) (e : ℕ) (x : Mat D.mid 1) → IsZeroInLimit M D e x ↔ IsSameInLimit M D e x e (nil D.mid 1)
  zero_is_same D e x = (
    λ h. (h.0, h.0, refl, subst (λ v. IsCoboundary M D (e + h.0) v) (sym (flat h.0 h.0)) h.1),
    λ h. (h.0, subst (λ v. IsCoboundary M D (e + h.0) v) (flat h.0 h.1) h.3),
  )
    where
      flat : (s s' : ℕ) → moved M D s e x ⊕ neg (moved M D s' e (nil D.mid 1)) ≡ moved M D s e x
      flat s s' = ap (λ v. moved M D s e x ⊕ neg v) (moved_nil D s' e) ∙ sub_zero (moved M D s e x)

module _ (p : Prime) (n : ℕ) where
  module _ {i : ℕ} {I : ResolvedIdeal p n} (r : IsResolved p n i I) where
    pub same_itself_words : (e : ℕ) (z : List (Polynomial p n)) → IsSameClass p n i I e z e z
    unfolding IsSameClass
    same_itself_words e z = same_itself (matrices_laws p n) (degree_in p n i I) e (vector_in p n i I z)

    pub same_turned_words : (e : ℕ) (z : List (Polynomial p n)) (e' : ℕ) (z' : List (Polynomial p n)) → IsSameClass p n i I e z e' z' → IsSameClass p n i I e' z' e z
    unfolding IsSameClass
    same_turned_words e z e' z' h =
        let k = same_turned (matrices_laws p n) (degree_in p n i I) h.0 h.1 e (vector_in p n i I z) e' (vector_in p n i I z') (h.2, h.3) in
        (h.1, h.0, k.0, k.1)

    pub same_trans_words : (e : ℕ) (z : List (Polynomial p n)) (e' : ℕ) (z' : List (Polynomial p n)) (e'' : ℕ) (z'' : List (Polynomial p n)) → IsSameClass p n i I e z e' z' → IsSameClass p n i I e' z' e'' z'' → IsSameClass p n i I e z e'' z''
    unfolding IsSameClass
    same_trans_words e z e' z' e'' z'' = same_trans (matrices_laws p n) (moves_read p n r) e (vector_in p n i I z) e' (vector_in p n i I z') e'' (vector_in p n i I z'')

    pub same_moved_words : (e : ℕ) (z : List (Polynomial p n)) → IsSameClass p n i I e z (suc e) (moved_once p n i I e z)
    unfolding IsSameClass
    same_moved_words e z =
        subst (λ v. IsSameInLimit (matrices p n) (degree_in p n i I) e (vector_in p n i I z) (suc e) v) (sym (moved_read p n r e z)) (same_moved (matrices_laws p n) (degree_in p n i I) e (vector_in p n i I z))

    pub zero_is_same_words : (e : ℕ) (z : List (Polynomial p n)) → IsZeroClass p n i I e z ↔ IsSameClass p n i I e z e (replicate (length_in p n i I) (polynomial_zero p n))
    unfolding IsSameClass IsZeroClass polynomial_zero
    zero_is_same_words e z =
        subst (λ v. IsZeroClass p n i I e z ↔ IsSameInLimit (matrices p n) (degree_in p n i I) e (vector_in p n i I z) e v) (sym (vector_zero (polynomials p n) (length_in p n i I))) (zero_is_same (matrices_laws p n) (degree_in p n i I) e (vector_in p n i I z))

  -- the induced map is well defined
  pub well_defined_words : {i : ℕ} {I J : ResolvedIdeal p n} {ls : List (PolynomialMatrix p n)} (r : IsResolved p n i I) (s : IsResolved p n i J) (k : IsLiftOfIdentityOf p n i I.differentials J.differentials ls)
      → (e : ℕ) (z : List (Polynomial p n)) (e' : ℕ) (z' : List (Polynomial p n)) → IsClass p n i J e z → IsClass p n i J e' z' → IsSameClass p n i J e z e' z' → IsSameClass p n i I e (image_of p n i ls e z) e' (image_of p n i ls e' z')
  unfolding IsSameClass
  well_defined_words {i} {I} {J} {ls} r s k e z e' z' c c' h =
      let m = mapped_same (matrices_laws p n) (moves_read p n s) (moves_read p n r) (maps p n r s k) h.0 h.1 e (vector_in p n i J z) e' (vector_in p n i J z') c.cocycle c'.cocycle (h.2, h.3) in
      let y : IsSameInLimit (matrices p n) (degree_in p n i I) e (mapped (matrices p n) (degree_in p n i J) (degree_in p n i I) (lambda_of p n I.differentials J.differentials ls i) e (vector_in p n i J z)) e' (mapped (matrices p n) (degree_in p n i J) (degree_in p n i I) (lambda_of p n I.differentials J.differentials ls i) e' (vector_in p n i J z')) = (h.0, h.1, m.0, m.1) in
      subst (λ v. IsSameInLimit (matrices p n) (degree_in p n i I) e v e' (vector_in p n i I (image_of p n i ls e' z'))) (sym (image_read p n r s k e z)) (subst (λ v. IsSameInLimit (matrices p n) (degree_in p n i I) e (mapped (matrices p n) (degree_in p n i J) (degree_in p n i I) (lambda_of p n I.differentials J.differentials ls i) e (vector_in p n i J z)) e' v) (sym (image_read p n r s k e' z')) y)
