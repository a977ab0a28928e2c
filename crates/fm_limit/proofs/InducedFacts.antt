-- From the finite facts of an inclusion of ideals to the induced map
use Rattle.std.proofs.Common.{ℕ, suc, ◌≤◌, ◌≡◌, ◌∙◌, ◌↔◌, sym, ap, subst, arith, List, length}
use Rattle.fm_gfp.specs.declared.prime.Prime.{Prime}
use Rattle.fm_algebra.specs.Families.{mul, flip, read}
use Rattle.fm_algebra.specs.Polynomials.{polynomials, Polynomial}
use Rattle.fm_algebra.specs.PolynomialMatrices as words
use Rattle.fm_algebra.specs.PolynomialMatrices.{PolynomialMatrix, HasShape, matrix_beside, matrix_transpose}
use Rattle.fm_limit.specs.ResolvedIdeal.{ResolvedIdeal, matrix_at, columns_of, IsResolved}
use Rattle.fm_limit.specs.Classes.{matrices, degree_in, length_in, theta_of, lambda_of, lambda_in, complex_of, IsMapOfClasses, vector_in, IsZeroMap, IsOneToOneMap, IsOntoMap}
use Rattle.fm_limit.specs.Facts.{ColumnsInImage, IsEverything, DegreeFacts, MapFacts, JoinFacts, PresentsExt}
use Rattle.fm_limit.specs.System.{MapMatrices, MapCommutes}
use Rattle.fm_limit.proofs.Maps.{Maps, maps_commute, square_twist}
use Rattle.fm_limit.proofs.Homotopy.{lift_maps}
use Rattle.fm_limit.proofs.FactsRead.{matrices_laws, resolution_read, frobenius_read, identity_read}
use Rattle.fm_limit.proofs.MatrixWords.{product_read, transpose_read, transpose_fits}
use Rattle.fm_limit.specs.DirectSystem.{degree_system, IsCocycle}
use Rattle.fm_limit.specs.SystemFacts.{SystemMapFacts}
use Rattle.fm_limit.proofs.Waist.{degree_facts, system_in}
use Rattle.fm_limit.proofs.SystemMaps as general
use Rattle.fm_limit.proofs.IndependenceWords.{image_read, image_length_words}

module _ (p : Prime) (n : ℕ) where
  module _ {i : ℕ} {source target : ResolvedIdeal p n} {ZS NS US ZT NT UT Phi : PolynomialMatrix p n} {ls : List (PolynomialMatrix p n)} (S : IsResolved p n i source) (T : IsResolved p n i target) (X : PresentsExt p n i source ZS NS US) (Y : PresentsExt p n i target ZT NT UT) (F : MapFacts p n i source target ls ZS ZT Phi) where
    abbrev gS : ℕ
    gS = length ZS.columns

    abbrev gT : ℕ
    gT = length ZT.columns

    abbrev phi : (matrices p n).Mat gT gS
    phi = read (polynomials p n) gT gS Phi

    abbrev pub lambda : (matrices p n).Mat (length_in p n i source) (length_in p n i target)
    lambda = lambda_in p n i source target ls

    pub maps_read : Maps (matrices p n) (degree_in p n i source) (degree_in p n i target) lambda
    maps_read =
        let x = T.resolution in
        let y = S.resolution in
        lift_maps (matrices_laws p n) i (complex_of p n target.differentials) (complex_of p n source.differentials) (resolution_read p n x) (resolution_read p n y) (theta_of p n source.differentials source.lift) (theta_of p n target.differentials target.lift) (lambda_of p n target.differentials source.differentials ls) (frobenius_read p n y S.frobenius) (frobenius_read p n x T.frobenius) (identity_read p n x y F.identity)

    pub square_read : mul (polynomials p n) (flip (polynomials p n) lambda) (read (polynomials p n) (length_in p n i source) gS ZS) ≡ mul (polynomials p n) (read (polynomials p n) (length_in p n i target) gT ZT) phi
    square_read =
        let a = length_in p n i source in
        let b = length_in p n i target in
        let l = matrix_at p n ls i in
        let lf = (F.identity).fits i (let c = (F.identity).count in omega arith) in
        ap (λ M. mul (polynomials p n) M (read (polynomials p n) a gS ZS)) (sym (transpose_read p n a b l lf))
        ∙ sym (product_read p n b a gS (matrix_transpose p n l) ZS (transpose_fits p n a b l lf) X.cocycles_fit)
        ∙ ap (read (polynomials p n) b gS) F.square
        ∙ product_read p n b gT gS ZT Phi Y.cocycles_fit F.fits

    abbrev pub along : MapMatrices (matrices p n) (degree_system (matrices p n) (degree_in p n i source)) (degree_system (matrices p n) (degree_in p n i target))
    along e = (matrices p n).flip ((matrices p n).twist e lambda)

    pub commutes : MapCommutes (matrices p n) (degree_system (matrices p n) (degree_in p n i source)) (degree_system (matrices p n) (degree_in p n i target)) along
    commutes = maps_commute (matrices_laws p n) maps_read

    pub squares : (e : ℕ) → (matrices p n).◌⊛◌ (along e) ((matrices p n).twist e (read (polynomials p n) (length_in p n i source) gS ZS)) ≡ (matrices p n).◌⊛◌ ((matrices p n).twist e (read (polynomials p n) (length_in p n i target) gT ZT)) ((matrices p n).twist e phi)
    squares = square_twist (matrices_laws p n) lambda (read (polynomials p n) (length_in p n i source) gS ZS) (read (polynomials p n) (length_in p n i target) gT ZT) phi square_read

    -- the facts of an inclusion are facts of a map of systems
    pub inclusion_is : SystemMapFacts p n (system_in p n i source) (system_in p n i target) along ZS ZT Phi
    inclusion_is = record { fits = F.fits; commutes = commutes; squares = squares }

  -- ---- with the facts of both sides
  module _ {i : ℕ} {source target : ResolvedIdeal p n} {ZS US ZT UT Phi : PolynomialMatrix p n} {KS KT ls : List (PolynomialMatrix p n)} {s t : ℕ} (X : DegreeFacts p n i source ZS US KS s) (Y : DegreeFacts p n i target ZT UT KT t) (F : MapFacts p n i source target ls ZS ZT Phi) where
    pub inclusion_facts : SystemMapFacts p n (system_in p n i source) (system_in p n i target) (along X.resolved Y.resolved X.ext Y.ext F) ZS ZT Phi
    inclusion_facts = inclusion_is X.resolved Y.resolved X.ext Y.ext F

    pub target_fits : (r : ℕ) → r ≤ suc t → HasShape p n (length ZT.columns) (columns_of p n KT r) (matrix_at p n KT r)
    target_fits = general.target_fits p n (degree_facts p n X) (degree_facts p n Y) inclusion_facts

    -- classes are mapped to classes
    pub classes_fact : IsMapOfClasses p n i source target ls
    classes_fact e z c = record {
      fits = image_length_words p n (Y.resolved) (X.resolved) F.identity e z;
      cocycle = subst (λ x. IsCocycle (matrices p n) (degree_in p n i target) e x) (sym (image_read p n (Y.resolved) (X.resolved) F.identity e z)) (general.classes_fact p n (degree_facts p n X) (degree_facts p n Y) inclusion_facts e (vector_in p n i source z) c.cocycle);
    }

    -- the induced map is zero exactly if the columns of Phi lie in the stable kernel of the target
    pub zero_map_fact : ColumnsInImage p n (matrix_at p n KT t) Phi ↔ IsZeroMap p n i source target ls
    unfolding IsZeroMap
    zero_map_fact = general.zero_map_fact p n (degree_facts p n X) (degree_facts p n Y) inclusion_facts

    -- it is one to one exactly if a matrix that generates all w with Phi * w in the stable kernel of the target has its columns
    -- in that of the source
    pub one_map_fact : (C : PolynomialMatrix p n) → HasShape p n (length ZS.columns) (length C.columns) C → words.GeneratesPreimage p n C Phi (matrix_at p n KT t)
        → ColumnsInImage p n (matrix_at p n KS s) C ↔ IsOneToOneMap p n i source target ls
    unfolding IsOneToOneMap
    one_map_fact = general.one_map_fact p n (degree_facts p n X) (degree_facts p n Y) inclusion_facts

    -- it is one to one exactly if all that Phi sends into the stable kernel of the target lies in that of the source
    pub one_exactly_fact : ((w : List (Polynomial p n)) → words.InPreimage p n Phi (matrix_at p n KT t) w → words.InImage p n (matrix_at p n KS s) w) ↔ IsOneToOneMap p n i source target ls
    unfolding IsOneToOneMap
    one_exactly_fact = general.one_exactly_fact p n (degree_facts p n X) (degree_facts p n Y) inclusion_facts

    -- where the chain repeats, the map is onto exactly if the constant member is everything
    module _ {Ws : List (PolynomialMatrix p n)} {r : ℕ} (W : JoinFacts p n (matrix_at p n KT 0) Phi UT Ws (suc r)) (repeats : ColumnsInImage p n (matrix_at p n Ws r) (matrix_at p n Ws (suc r))) where
      pub onto_repeat_fact : IsEverything p n (matrix_at p n Ws r) ↔ IsOntoMap p n i source target ls
      unfolding IsOntoMap
      onto_repeat_fact = general.onto_repeat_fact p n (degree_facts p n X) (degree_facts p n Y) inclusion_facts W repeats
