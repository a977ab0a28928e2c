-- Facts give verdicts
use Rattle.std.proofs.Common.{ℕ, suc, ◌+◌, ◌≤◌, ◌≡◌, ◌↔◌, refl, Bool, IsTrue, List, [], ◌∷◌, length, Option, Some, None}
use Rattle.fm_gfp.specs.declared.prime.Prime.{Prime}
use Rattle.fm_algebra.specs.Matrix.{listed}
use Rattle.fm_algebra.specs.Polynomials.{Polynomial, polynomial_power}
use Rattle.fm_algebra.specs.PolynomialMatrices.{PolynomialMatrix, HasShape, matrix_scalar, matrix_twist, InImage, GeneratesPreimage}
use Rattle.fm_algebra.proofs.ListImages.{through}
use Rattle.fm_limit.specs.ResolvedIdeal.{ResolvedIdeal, matrix_at, rank, InIdeal, IsResolutionOf}
use Rattle.fm_limit.specs.Classes.{IsClass, IsCoboundaryAfter, IsZeroClass, IsZeroLimit, IsEnoughMoves, VanishesAfterInverting, AnnihilatesClasses, IsSupportIdealOf, IsOntoMap, IsOntoAfter}
use Rattle.fm_limit.specs.Facts.{ColumnsInImage, IsEverything, IsFirstRepeat, AreCoordinates, PresentsExt, DegreeFacts, MapFacts, JoinFacts, IsColons, IsAnnihilatorRow, first_entries}
use Rattle.fm_limit.specs.Verdicts.{zero_limit, zero_class, inverting, support, root, induced_map, member, resolution, ext, Holds, HoldsOfOnto}
use Rattle.fm_limit.proofs.Waist.{degree_facts, root_fact}
use Rattle.fm_limit.proofs.SystemWaist as waist
use Rattle.fm_limit.proofs.SystemVerdicts as general
use Rattle.fm_limit.proofs.SystemMapVerdicts as maps
use Rattle.fm_limit.proofs.InducedFacts.{classes_fact, zero_map_fact, one_map_fact, inclusion_facts}

module _ (p : Prime) (n : ℕ) where
  module _ {i : ℕ} {I : ResolvedIdeal p n} {Z U : PolynomialMatrix p n} {Ks : List (PolynomialMatrix p n)} {t : ℕ} (X : DegreeFacts p n i I Z U Ks t) where
    pub zero_verdict : IsFirstRepeat p n Ks t → (answer : Bool) → IsTrue answer ↔ IsEverything p n (matrix_at p n Ks t) → Holds p n (zero_limit i I answer t)
    unfolding IsZeroLimit IsEnoughMoves
    zero_verdict = general.zero_verdict p n (degree_facts p n X)

    pub class_yes_verdict : (e : ℕ) (z w : List (Polynomial p n)) (s : ℕ) → IsClass p n i I e z → AreCoordinates p n Z e z w → s ≤ t
        → InImage p n (matrix_twist p n e (matrix_at p n Ks s)) w → ((r : ℕ) → suc r ≡ s → InImage p n (matrix_twist p n e (matrix_at p n Ks r)) w → ⊥)
        → Holds p n (zero_class i I e z (Some (e + s)))
    unfolding IsCoboundaryAfter
    class_yes_verdict e z w s c a b h fails =
        (c, (general.class_yes_verdict p n (degree_facts p n X) e z w s (record { fits = c.fits; cocycle = c.cocycle }) a b h fails).1)

    pub class_no_verdict : (e : ℕ) (z w : List (Polynomial p n)) → IsClass p n i I e z → AreCoordinates p n Z e z w
        → (InImage p n (matrix_twist p n e (matrix_at p n Ks t)) w → ⊥) → Holds p n (zero_class i I e z None)
    unfolding IsZeroClass
    class_no_verdict e z w c a fails = (c, (general.class_no_verdict p n (degree_facts p n X) e z w (record { fits = c.fits; cocycle = c.cocycle }) a fails).1)

    pub inverting_yes_verdict : (f : Polynomial p n) (k : ℕ) → ColumnsInImage p n (matrix_at p n Ks t) (matrix_scalar p n (polynomial_power p n k f) (matrix_at p n Ks t).rows)
        → ((j : ℕ) → suc j ≡ k → ColumnsInImage p n (matrix_at p n Ks t) (matrix_scalar p n (polynomial_power p n j f) (matrix_at p n Ks t).rows) → ⊥)
        → Holds p n (inverting i I f (Some k))
    unfolding VanishesAfterInverting AnnihilatesClasses
    inverting_yes_verdict = general.inverting_yes_verdict p n (degree_facts p n X)

    pub inverting_no_verdict : (f : Polynomial p n) (Cs : List (PolynomialMatrix p n)) (k : ℕ) → IsColons p n (matrix_at p n Ks t) f Cs k
        → ColumnsInImage p n (matrix_at p n Cs k) (matrix_at p n Cs (suc k)) → (IsEverything p n (matrix_at p n Cs k) → ⊥) → Holds p n (inverting i I f None)
    unfolding VanishesAfterInverting
    inverting_no_verdict = general.inverting_no_verdict p n (degree_facts p n X)

    pub support_verdict : (fs : List (Polynomial p n)) → ((a : Polynomial p n) → InIdeal p n fs a ↔ ColumnsInImage p n (matrix_at p n Ks t) (matrix_scalar p n a (matrix_at p n Ks t).rows))
        → Holds p n (support i I fs)
    unfolding IsSupportIdealOf AnnihilatesClasses
    support_verdict = general.support_verdict p n (degree_facts p n X)

    pub annihilator_verdict : (P : PolynomialMatrix p n) → IsAnnihilatorRow p n (matrix_at p n Ks t) P → (fs : List (Polynomial p n)) → ((a : Polynomial p n) → InIdeal p n fs a ↔ InImage p n P (a ∷ [])) → Holds p n (support i I fs)
    unfolding IsSupportIdealOf AnnihilatesClasses
    annihilator_verdict = general.annihilator_verdict p n (degree_facts p n X)

    pub entries_verdict : (P : PolynomialMatrix p n) → IsAnnihilatorRow p n (matrix_at p n Ks t) P → Holds p n (support i I (first_entries p n P))
    unfolding IsSupportIdealOf AnnihilatesClasses
    entries_verdict = general.entries_verdict p n (degree_facts p n X)

    pub root_verdict : IsFirstRepeat p n Ks t → Holds p n (root i I Z (matrix_at p n Ks t) U (length Z.columns) t)
    unfolding IsEnoughMoves
    root_verdict first = (refl, root_fact p n X, waist.least_fact p n (degree_facts p n X) first)

  module _ {i : ℕ} {source target : ResolvedIdeal p n} {ZS US ZT UT Phi : PolynomialMatrix p n} {KS KT ls : List (PolynomialMatrix p n)} {s t : ℕ} (X : DegreeFacts p n i source ZS US KS s) (Y : DegreeFacts p n i target ZT UT KT t) (F : MapFacts p n i source target ls ZS ZT Phi) where
    pub map_verdict : (C : PolynomialMatrix p n) → HasShape p n (length ZS.columns) (length C.columns) C → GeneratesPreimage p n C Phi (matrix_at p n KT t)
        → (is_zero is_one : Bool) (onto : Option ℕ) → IsTrue is_zero ↔ ColumnsInImage p n (matrix_at p n KT t) Phi → IsTrue is_one ↔ ColumnsInImage p n (matrix_at p n KS s) C
        → HoldsOfOnto p n i source target ls onto → Holds p n (induced_map i source target ls is_zero is_one onto)
    map_verdict C c g is_zero is_one onto a b o = (classes_fact p n X Y F, through a (zero_map_fact p n X Y F), through b (one_map_fact p n X Y F C c g), o)

    pub onto_yes_verdict : (Ws : List (PolynomialMatrix p n)) (r : ℕ) → JoinFacts p n (matrix_at p n KT 0) Phi UT Ws r → IsEverything p n (matrix_at p n Ws r)
        → ((k : ℕ) → suc k ≡ r → IsEverything p n (matrix_at p n Ws k) → ⊥) → HoldsOfOnto p n i source target ls (Some r)
    unfolding IsOntoMap IsOntoAfter
    onto_yes_verdict = maps.onto_yes_verdict p n (degree_facts p n X) (degree_facts p n Y) (inclusion_facts p n X Y F)

    pub onto_no_verdict : (Ws : List (PolynomialMatrix p n)) (r : ℕ) → JoinFacts p n (matrix_at p n KT 0) Phi UT Ws (suc r) → ColumnsInImage p n (matrix_at p n Ws r) (matrix_at p n Ws (suc r))
        → (IsEverything p n (matrix_at p n Ws r) → ⊥) → HoldsOfOnto p n i source target ls None
    unfolding IsOntoMap
    onto_no_verdict = maps.onto_no_verdict p n (degree_facts p n X) (degree_facts p n Y) (inclusion_facts p n X Y F)

  -- ---- plain verdicts
  pub member_verdict : (fs : List (Polynomial p n)) (f : Polynomial p n) (answer : Bool) → IsTrue answer ↔ InIdeal p n fs f → Holds p n (member fs f answer)
  member_verdict fs f answer h = h

  pub resolution_verdict : (fs : List (Polynomial p n)) (i : ℕ) (ds : List (PolynomialMatrix p n)) → IsResolutionOf p n fs i ds → Holds p n (resolution fs i ds (listed (i + 2) (rank p n ds)))
  resolution_verdict fs i ds h = (h, refl)

  pub ext_verdict : (i : ℕ) (I : ResolvedIdeal p n) (Z N U : PolynomialMatrix p n) → PresentsExt p n i I Z N U → Holds p n (ext i I Z N U (length Z.columns) (length N.columns))
  ext_verdict i I Z N U h = (refl, refl, h)
