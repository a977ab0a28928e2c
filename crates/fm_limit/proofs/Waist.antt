-- The facts of a degree are facts of a direct system: what is said of its limit
use Rattle.std.proofs.Common.{ℕ, ◌≤◌, ◌↔◌, List, length, suc}
use Rattle.fm_gfp.specs.declared.prime.Prime.{Prime}
use Rattle.fm_algebra.specs.Polynomials.{Polynomial, polynomial_power}
use Rattle.fm_algebra.specs.PolynomialMatrices.{PolynomialMatrix, HasShape, matrix_scalar, matrix_twist, InImage}
use Rattle.fm_limit.specs.System.{System}
use Rattle.fm_limit.specs.DirectSystem.{degree_system}
use Rattle.fm_limit.specs.ResolvedIdeal.{ResolvedIdeal, matrix_at}
use Rattle.fm_limit.specs.Classes.{matrices, degree_in, IsClass, IsCoboundaryAfter, IsZeroClass, IsRootOf, VanishesAfterInverting}
use Rattle.fm_limit.specs.Facts.{ColumnsInImage, AreCoordinates, DegreeFacts}
use Rattle.fm_limit.specs.SystemFacts.{SystemFacts}
use Rattle.fm_limit.proofs.Moves.{coboundary_moves, ext_presents, degree_root}
use Rattle.fm_limit.proofs.FactsRead.{matrices_laws, matrices_flat, moves_read, ext_read}
use Rattle.fm_limit.proofs.SystemWaist as general
use Rattle.fm_limit.proofs.SystemVerdicts as verdicts

module _ (p : Prime) (n : ℕ) where
  -- degree i of I as a direct system
  abbrev pub system_in : ℕ → ResolvedIdeal p n → System (matrices p n)
  system_in i I = degree_system (matrices p n) (degree_in p n i I)

  module _ {i : ℕ} {I : ResolvedIdeal p n} {Z U : PolynomialMatrix p n} {Ks : List (PolynomialMatrix p n)} {t : ℕ} (X : DegreeFacts p n i I Z U Ks t) where
    pub degree_facts : SystemFacts p n (system_in i I) Z U Ks t
    degree_facts = record {
      cocycles_fit = (X.ext).cocycles_fit;
      morphism_fits = (X.ext).morphism_fits;
      moves = coboundary_moves (matrices_laws p n) (moves_read p n X.resolved);
      presents = ext_presents (matrices_laws p n) (matrices_flat p n) (ext_read p n X.resolved X.ext);
      chain = X.chain;
      repeats = X.repeats;
    }

    pub stable_shape : HasShape p n (matrix_at p n Ks t).rows (length (matrix_at p n Ks t).columns) (matrix_at p n Ks t)
    stable_shape = general.stable_shape p n degree_facts

    pub killed_fact : (e : ℕ) (z w : List (Polynomial p n)) → AreCoordinates p n Z e z w → (s : ℕ) → s ≤ t
        → InImage p n (matrix_twist p n e (matrix_at p n Ks s)) w ↔ IsCoboundaryAfter p n i I s e z
    unfolding IsCoboundaryAfter
    killed_fact = general.killed_fact p n degree_facts

    pub killed_through_fact : (e : ℕ) (z w : List (Polynomial p n)) → AreCoordinates p n Z e z w → (s : ℕ) → s ≤ suc t
        → InImage p n (matrix_twist p n e (matrix_at p n Ks s)) w ↔ IsCoboundaryAfter p n i I s e z
    unfolding IsCoboundaryAfter
    killed_through_fact = general.killed_through_fact p n degree_facts

    pub zero_class_fact : (e : ℕ) (z w : List (Polynomial p n)) → AreCoordinates p n Z e z w → InImage p n (matrix_twist p n e (matrix_at p n Ks t)) w ↔ IsZeroClass p n i I e z
    unfolding IsZeroClass
    zero_class_fact = general.zero_class_fact p n degree_facts

    pub vanishes_fact : (f : Polynomial p n) → ((k : ℕ) × ColumnsInImage p n (matrix_at p n Ks t) (matrix_scalar p n (polynomial_power p n k f) (matrix_at p n Ks t).rows)) ↔ VanishesAfterInverting p n i I f
    unfolding VanishesAfterInverting
    vanishes_fact = general.vanishes_fact p n degree_facts

    pub root_fact : IsRootOf p n i I Z (matrix_at p n Ks t) U
    root_fact =
        let r = general.root_fact p n degree_facts in
        record { generators_fit = r.generators_fit; kernel_fits = r.kernel_fits; morphism_fits = r.morphism_fits; root = degree_root (matrices_laws p n) (degree_in p n i I) r.root }

    -- every class has coordinates
    pub coordinates_fact : (e : ℕ) (z : List (Polynomial p n)) → IsClass p n i I e z → (w : List (Polynomial p n)) × AreCoordinates p n Z e z w
    coordinates_fact e z c = verdicts.coordinates_fact p n degree_facts e z (record { fits = c.fits; cocycle = c.cocycle })
