-- Facts of a system give verdicts on its limit
use Rattle.std.proofs.Common.{ℕ, suc, ◌+◌, ◌<◌, ◌≤◌, ◌-◌, ◌≡◌, ◌↔◌, ◌∙◌, refl, subst, ap, arith, Bool, IsTrue, List, [], ◌∷◌, length, Some, None}
use native.Mathlib.Decide.{dec_le}
use Rattle.fm_gfp.specs.declared.prime.Prime.{Prime}
use Rattle.fm_algebra.specs.Families.{mul, each, read, vector, element}
use Rattle.fm_algebra.specs.Polynomials.{Polynomial, polynomials, polynomial_power, frobenius_twist}
use Rattle.fm_algebra.specs.PolynomialMatrices.{PolynomialMatrix, HasShape, matrix_scalar, matrix_twist, vector_product, InImage}
use Rattle.fm_algebra.proofs.ListImages.{through}
use Rattle.fm_algebra.proofs.Tables.{list_of, length-list_of, vector_list_of, vector_apply, vector_injective, length-apply}
use Rattle.fm_limit.specs.System.{System, IsKilledBy, Annihilates}
use Rattle.fm_limit.specs.ResolvedIdeal.{matrix_at, InIdeal}
use Rattle.fm_limit.specs.Classes.{matrices}
use Rattle.fm_limit.specs.Facts.{ColumnsInImage, IsEverything, IsFirstRepeat, AreCoordinates, IsColons, IsAnnihilatorRow, first_entries}
use Rattle.fm_limit.specs.Verdicts.{IsLeast}
use Rattle.fm_limit.specs.SystemFacts.{vector_of, IsClassOf, SystemFacts, ZeroHolds, ClassHolds, InvertingHolds, SupportHolds}
use Rattle.fm_limit.proofs.SystemMoves.{killed_more, coords}
use Rattle.fm_limit.proofs.FactsRead.{matrices_laws, matrices_flat}
use Rattle.fm_limit.proofs.MatrixWords.{twist_read, twist_fits}
use Rattle.fm_limit.proofs.SystemRead.{system_read}
use Rattle.fm_limit.proofs.SystemWaist as waist
use Rattle.fm_limit.proofs.SystemWaist.{zero_fact, least_fact, killed_fact, zero_class_fact, root_fact, annihilates_fact, vanishes_fact, support_fact, power_more}
use Rattle.fm_limit.proofs.ColonFacts.{never_fact}
use Rattle.fm_limit.proofs.AnnihilatorRows.{annihilator_fact, entries_row}

-- a number for which P holds, but not for the one before it, is the least, where P goes up
pub least_by_last : (P : ℕ → Type 0) (m : ℕ) → P m → ((k : ℕ) → k < m → P k → (j : ℕ) × (suc j ≡ m) × P j) → ((j : ℕ) → suc j ≡ m → P j → ⊥) → IsLeast P m
least_by_last P m h up fails = (
  h,
  λ k q. elim (dec_le m k) [
    | yes b ↦ b
    | no c ↦ absurd (let lt : k < m = omega arith in let r = up k lt q in fails r.0 r.1 r.2)
  ],
)

-- the number before a positive one
pub before : (k m : ℕ) → k < m → (j : ℕ) × (d : ℕ) × (suc j ≡ m) × (k + d ≡ j)
before k m b = (m - 1, (m - 1) - k, omega arith, omega arith)

module _ (p : Prime) (n : ℕ) where
  module _ {D : System (matrices p n)} {Z U : PolynomialMatrix p n} {Ks : List (PolynomialMatrix p n)} {t : ℕ} (X : SystemFacts p n D Z U Ks t) where
    pub zero_verdict : IsFirstRepeat p n Ks t → (answer : Bool) → IsTrue answer ↔ IsEverything p n (matrix_at p n Ks t) → ZeroHolds p n D answer t
    zero_verdict first answer h = (through h (zero_fact p n X), least_fact p n X first)

    pub class_yes_verdict : (e : ℕ) (z w : List (Polynomial p n)) (s : ℕ) → IsClassOf p n D e z → AreCoordinates p n Z e z w → s ≤ t
        → InImage p n (matrix_twist p n e (matrix_at p n Ks s)) w → ((r : ℕ) → suc r ≡ s → InImage p n (matrix_twist p n e (matrix_at p n Ks r)) w → ⊥)
        → ClassHolds p n D e z (Some (e + s))
    class_yes_verdict e z w s c a b h fails =
        let least = least_by_last (λ s. IsKilledBy (matrices p n) D s e (vector_of p n D z)) s ((killed_fact p n X e z w a s b).0 h) (λ k lt q.
        let r = before k s lt in
        (r.0, r.2, subst (λ x. IsKilledBy (matrices p n) D x e (vector_of p n D z)) r.3 (killed_more (matrices_laws p n) D X.moves k r.1 e (vector_of p n D z) q)))
        (λ j q k. let bj : j ≤ t = omega arith in fails j q ((killed_fact p n X e z w a j bj).1 k)) in
        (c, (s, refl, least))

    pub class_no_verdict : (e : ℕ) (z w : List (Polynomial p n)) → IsClassOf p n D e z → AreCoordinates p n Z e z w
        → (InImage p n (matrix_twist p n e (matrix_at p n Ks t)) w → ⊥) → ClassHolds p n D e z None
    class_no_verdict e z w c a fails = (c, λ k. fails ((zero_class_fact p n X e z w a).1 k))

    pub inverting_yes_verdict : (f : Polynomial p n) (k : ℕ) → ColumnsInImage p n (matrix_at p n Ks t) (matrix_scalar p n (polynomial_power p n k f) (matrix_at p n Ks t).rows)
        → ((j : ℕ) → suc j ≡ k → ColumnsInImage p n (matrix_at p n Ks t) (matrix_scalar p n (polynomial_power p n j f) (matrix_at p n Ks t).rows) → ⊥)
        → InvertingHolds p n D f (Some k)
    inverting_yes_verdict f k h fails = (
      (vanishes_fact p n X f).0 (k, h),
      least_by_last (λ k. Annihilates (matrices p n) D (element (polynomials p n) (polynomial_power p n k f))) k ((annihilates_fact p n X (polynomial_power p n k f)).0 h) (λ l lt q.
          let r = before l k lt in
          (r.0, r.2, (annihilates_fact p n X (polynomial_power p n r.0 f)).0 (subst (λ x. ColumnsInImage p n (matrix_at p n Ks t) (matrix_scalar p n (polynomial_power p n x f) (matrix_at p n Ks t).rows)) r.3 (power_more p n X f l r.1 ((annihilates_fact p n X (polynomial_power p n l f)).1 q)))))
          (λ j q a. fails j q ((annihilates_fact p n X (polynomial_power p n j f)).1 a)),
    )

    pub inverting_no_verdict : (f : Polynomial p n) (Cs : List (PolynomialMatrix p n)) (k : ℕ) → IsColons p n (matrix_at p n Ks t) f Cs k
        → ColumnsInImage p n (matrix_at p n Cs k) (matrix_at p n Cs (suc k)) → (IsEverything p n (matrix_at p n Cs k) → ⊥) → InvertingHolds p n D f None
    inverting_no_verdict f Cs k C rep proper v =
        let r = (vanishes_fact p n X f).1 v in
        never_fact p n (waist.stable_shape p n X) C rep proper r.0 r.1

    pub support_verdict : (fs : List (Polynomial p n)) → ((a : Polynomial p n) → InIdeal p n fs a ↔ ColumnsInImage p n (matrix_at p n Ks t) (matrix_scalar p n a (matrix_at p n Ks t).rows))
        → SupportHolds p n D fs
    support_verdict fs m = (support_fact p n X fs m, λ a. through (m a) (annihilates_fact p n X a))

    pub annihilator_verdict : (P : PolynomialMatrix p n) → IsAnnihilatorRow p n (matrix_at p n Ks t) P → (fs : List (Polynomial p n)) → ((a : Polynomial p n) → InIdeal p n fs a ↔ InImage p n P (a ∷ [])) → SupportHolds p n D fs
    annihilator_verdict P A fs m = support_verdict fs (λ a. through (m a) (annihilator_fact p n A a))

    pub entries_verdict : (P : PolynomialMatrix p n) → IsAnnihilatorRow p n (matrix_at p n Ks t) P → SupportHolds p n D (first_entries p n P)
    unfolding InIdeal
    entries_verdict P A =
        annihilator_verdict P A (first_entries p n P) (λ a. subst (λ B. InIdeal p n (first_entries p n P) a ↔ InImage p n B (a ∷ [])) (entries_row p n A.fits) ((λ h. h), (λ h. h)))

    -- every class has coordinates
    pub coordinates_fact : (e : ℕ) (z : List (Polynomial p n)) → IsClassOf p n D e z → (w : List (Polynomial p n)) × AreCoordinates p n Z e z w
    unfolding vector_product HasShape
    coordinates_fact e z c =
        let g = length Z.columns in
        let a = D.size in
        let h = coords (matrices_laws p n) (matrices_flat p n) (system_read p n X) e (vector_of p n D z) c.cocycle in
        let w : List (Polynomial p n) = list_of (polynomials p n) g h.0 in
        let s = twist_fits p n e a g Z X.cocycles_fit in
        let l : length w ≡ g = length-list_of (polynomials p n) g h.0 in
        let q : vector (polynomials p n) a (vector_product p n (matrix_twist p n e Z) w) ≡ vector (polynomials p n) a z = vector_apply (polynomials p n) a g (matrix_twist p n e Z) w s.0 s.1 ∙ ap (λ M. mul (polynomials p n) M (vector (polynomials p n) g w)) (twist_read p n e a g Z X.cocycles_fit) ∙ ap (λ v. mul (polynomials p n) (each (polynomials p n) (frobenius_twist p n e) (read (polynomials p n) a g Z)) v) (vector_list_of (polynomials p n) g h.0) ∙ h.1 in
        (w, (l, vector_injective (polynomials p n) a (vector_product p n (matrix_twist p n e Z) w) z (length-apply (polynomials p n) (matrix_twist p n e Z) w ∙ s.0) c.fits q))
