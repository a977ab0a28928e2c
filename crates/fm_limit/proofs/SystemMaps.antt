-- From the finite facts of an inclusion of ideals to the induced map
use Rattle.std.proofs.Common.{ℕ, zero, suc, ◌+◌, ◌<◌, ◌≤◌, ◌≡◌, ◌↔◌, min, sym, subst, arith, List, length}
use Rattle.fm_gfp.specs.declared.prime.Prime.{Prime}
use Rattle.fm_algebra.specs.Families.{mul, beside, each, read, Mat}
use Rattle.fm_algebra.specs.Image.{InImage}
use Rattle.fm_algebra.proofs.Generation.{Everything, SameImage, Generates}
use Rattle.fm_algebra.specs.Polynomials.{polynomials, frobenius_twist, Polynomial}
use Rattle.fm_algebra.specs.PolynomialMatrices as words
use Rattle.fm_algebra.specs.PolynomialMatrices.{PolynomialMatrix, HasShape, matrix_beside, matrix_transpose}
use Rattle.fm_algebra.proofs.ListImages.{through, turned}
use Rattle.fm_limit.specs.ResolvedIdeal.{matrix_at, columns_of}
use Rattle.fm_limit.specs.Classes.{matrices}
use Rattle.fm_limit.specs.SystemFacts.{SystemFacts, SystemMapFacts, TakesClasses}
use Rattle.fm_limit.specs.Facts.{ColumnsInImage, IsEverything, JoinFacts}
use Rattle.fm_limit.proofs.Chains.{Chain, rising_to, last_repeats, last_everything}
use Rattle.fm_limit.specs.System.{System, MapMatrices, MapIsZero, MapIsOneToOne, MapIsOnto, IsOntoBy}
use Rattle.fm_limit.proofs.SystemRead.{system_read}
use Rattle.fm_limit.proofs.Induced.{J, mapped_class, zero_map, one_map, one_columns, begins_same, onto_by, onto_map}
use Rattle.fm_limit.proofs.FactsRead.{matrices_laws, matrices_flat, member, member_fits, step_read, shorter, same_members, chain_read, last_same}
use Rattle.fm_limit.proofs.MatrixWords.{beside_read, beside_fits, preimage_from, columns_from, same_from, everything_read, inside_from}

module _ (p : Prime) (n : ℕ) where
  module _ {S T : System (matrices p n)} {f : MapMatrices (matrices p n) S T} {ZS US ZT UT Phi : PolynomialMatrix p n} {KS KT : List (PolynomialMatrix p n)} {s t : ℕ} (X : SystemFacts p n S ZS US KS s) (Y : SystemFacts p n T ZT UT KT t) (F : SystemMapFacts p n S T f ZS ZT Phi) where
    abbrev gS : ℕ
    gS = length ZS.columns

    abbrev gT : ℕ
    gT = length ZT.columns

    abbrev phi : (matrices p n).Mat gT gS
    phi = read (polynomials p n) gT gS Phi

    min_source : min s s ≡ s
    min_source = omega arith

    min_target : min t t ≡ t
    min_target = omega arith

    source_fits : HasShape p n gS (columns_of p n KS s) (matrix_at p n KS s)
    source_fits = member_fits p n gS X.morphism_fits X.chain s (omega arith)

    pub target_fits : (r : ℕ) → r ≤ suc t → HasShape p n gT (columns_of p n KT r) (matrix_at p n KT r)
    target_fits r b = member_fits p n gT Y.morphism_fits Y.chain r b

    -- classes are mapped to classes
    pub classes_fact : TakesClasses p n S T f
    classes_fact = mapped_class (matrices_laws p n) (matrices_flat p n) f F.commutes (system_read p n X) (system_read p n Y) phi F.squares

    -- the induced map is zero exactly if the columns of Phi lie in the stable kernel of the target
    pub zero_map_fact : ColumnsInImage p n (matrix_at p n KT t) Phi ↔ MapIsZero (matrices p n) S T f
    zero_map_fact =
        let h = zero_map (matrices_laws p n) (matrices_flat p n) f F.commutes (system_read p n X) (system_read p n Y) phi F.squares in
        through (columns_from p n gT (columns_of p n KT t) gS (matrix_at p n KT t) Phi (target_fits t (omega arith)) F.fits) (turned (subst (λ x. MapIsZero (matrices p n) S T f ↔ InImage (matrices p n) (member p n gT KT x) phi) min_target h))

    -- it is one to one exactly if a matrix that generates all w with Phi * w in the stable kernel of the target has its columns
    -- in that of the source
    pub one_map_fact : (C : PolynomialMatrix p n) → HasShape p n gS (length C.columns) C → words.GeneratesPreimage p n C Phi (matrix_at p n KT t)
        → ColumnsInImage p n (matrix_at p n KS s) C ↔ MapIsOneToOne (matrices p n) S T f
    one_map_fact C c g =
        let M = matrices p n in
        let k = length C.columns in
        let a = one_map (matrices_laws p n) (matrices_flat p n) f F.commutes (system_read p n X) (system_read p n Y) phi F.squares in
        let gen : Generates M (read (polynomials p n) gS k C) phi (member p n gT KT t) = preimage_from p n gT gS (columns_of p n KT t) k C Phi (matrix_at p n KT t) F.fits (target_fits t (omega arith)) c g in
        let gen' : Generates M (read (polynomials p n) gS k C) phi (member p n gT KT (min t t)) = subst (λ x. Generates M (read (polynomials p n) gS k C) phi (member p n gT KT x)) (sym min_target) gen in
        let b = one_columns (matrices_laws p n) (matrices_flat p n) f F.commutes (system_read p n X) (system_read p n Y) phi F.squares (read (polynomials p n) gS k C) gen' in
        through (columns_from p n gS (columns_of p n KS s) k (matrix_at p n KS s) C source_fits c) (turned (subst (λ x. MapIsOneToOne (matrices p n) S T f ↔ InImage M (member p n gS KS x) (read (polynomials p n) gS k C)) min_source (through a b)))

    -- it is one to one exactly if all that Phi sends into the stable kernel of the target lies in that of the source
    pub one_exactly_fact : ((w : List (Polynomial p n)) → words.InPreimage p n Phi (matrix_at p n KT t) w → words.InImage p n (matrix_at p n KS s) w) ↔ MapIsOneToOne (matrices p n) S T f
    one_exactly_fact =
        let M = matrices p n in
        let a = one_map (matrices_laws p n) (matrices_flat p n) f F.commutes (system_read p n X) (system_read p n Y) phi F.squares in
        let b = subst (λ x. MapIsOneToOne M S T f ↔ ((w : Mat (polynomials p n) gS 1) → InImage M (member p n gT KT x) (mul (polynomials p n) phi w) → InImage M (member p n gS KS (min s s)) w)) min_target a in
        let c = subst (λ x. MapIsOneToOne M S T f ↔ ((w : Mat (polynomials p n) gS 1) → InImage M (member p n gT KT t) (mul (polynomials p n) phi w) → InImage M (member p n gS KS x) w)) min_source b in
        through (inside_from p n gT gS (columns_of p n KT t) (columns_of p n KS s) (matrix_at p n KS s) Phi (matrix_at p n KT t) F.fits (target_fits t (omega arith)) source_fits) (turned c)

    -- ---- onto
    module _ {Ws : List (PolynomialMatrix p n)} {r : ℕ} (W : JoinFacts p n (matrix_at p n KT 0) Phi UT Ws r) where
      join_same : SameImage (matrices p n) (member p n gT Ws zero) (J (matrices_laws p n) (matrices_flat p n) f F.commutes (system_read p n X) (system_read p n Y) phi F.squares)
      join_same =
          let k = columns_of p n KT zero in
          let N = matrix_at p n KT zero in
          let nf = target_fits zero (omega arith) in
          let w0 = member_fits p n gT Y.morphism_fits W.chain zero (omega arith) in
          let q : zero ≡ min zero t = omega arith in
          let h : SameImage (matrices p n) (member p n gT Ws zero) (beside (polynomials p n) {m = gT} {n = k} {k = gS} (member p n gT KT zero) phi) = subst (λ M. SameImage (matrices p n) (member p n gT Ws zero) M) (beside_read p n gT k gS N Phi nf F.fits) (same_from p n gT (columns_of p n Ws zero) (k + gS) (matrix_at p n Ws zero) (matrix_beside p n N Phi) w0 (beside_fits p n gT k gS N Phi nf F.fits) W.begins) in
          subst (λ x. SameImage (matrices p n) (member p n gT Ws zero) (beside (polynomials p n) {m = gT} {n = columns_of p n KT x} {k = gS} (member p n gT KT x) phi)) q h

      join_begins : InImage (matrices p n) (each (polynomials p n) (frobenius_twist p n 1) (member p n gT Ws zero)) (mul (polynomials p n) (read (polynomials p n) gT gT UT) (member p n gT Ws zero))
      join_begins =
          begins_same (matrices_laws p n) (matrices_flat p n) f F.commutes (system_read p n X) (system_read p n Y) phi F.squares (member p n gT Ws zero) join_same

      join_fits : (k : ℕ) → k ≤ r → HasShape p n gT (columns_of p n Ws k) (matrix_at p n Ws k)
      join_fits k b = member_fits p n gT Y.morphism_fits W.chain k b

      join_start : SameImage (matrices p n) (member p n gT Ws (min zero r)) (J (matrices_laws p n) (matrices_flat p n) f F.commutes (system_read p n X) (system_read p n Y) phi F.squares)
      join_start =
          let q : zero ≡ min zero r = omega arith in
          subst (λ x. SameImage (matrices p n) (member p n gT Ws x) (J (matrices_laws p n) (matrices_flat p n) f F.commutes (system_read p n X) (system_read p n Y) phi F.squares)) q join_same

      -- the members of the chain rise
      join_rises : (k m : ℕ) → k + m ≤ r → IsEverything p n (matrix_at p n Ws k) → IsEverything p n (matrix_at p n Ws (k + m))
      join_rises k zero b h = let q : k ≡ k + zero = omega arith in subst (λ x. IsEverything p n (matrix_at p n Ws x)) q h
      join_rises k (suc m) b h =
          let q : suc (k + m) ≡ k + suc m = omega arith in
          let c : k + m < r = omega arith in
          let fk = join_fits (k + m) (omega arith) in
          let fs = join_fits (suc (k + m)) (omega arith) in
          let before : Everything (matrices p n) (member p n gT Ws (k + m)) = (everything_read p n gT (columns_of p n Ws (k + m)) (matrix_at p n Ws (k + m)) fk).0 (join_rises k m (omega arith) h) in
          let after : Everything (matrices p n) (member p n gT Ws (suc (k + m))) = λ v. rising_to (matrices_laws p n) (k + m) join_begins (λ j d. step_read p n gT Y.morphism_fits W.chain j (omega arith)) (k + m) (omega arith) v (before v) in
          subst (λ x. IsEverything p n (matrix_at p n Ws x)) q ((everything_read p n gT (columns_of p n Ws (suc (k + m))) (matrix_at p n Ws (suc (k + m))) fs).1 after)

      module _ (last : Generates (matrices p n) (member p n gT Ws r) (read (polynomials p n) gT gT UT) (each (polynomials p n) (frobenius_twist p n 1) (member p n gT Ws r))) where
        join_chain : Chain (matrices p n) gT (read (polynomials p n) gT gT UT) (λ k. columns_of p n Ws (min k r)) (λ k. member p n gT Ws (min k r))
        join_chain = chain_read p n gT Y.morphism_fits W.chain join_begins last

        -- k moves take all classes of stage 0 to images plus coboundaries exactly if W_k is everything
        after_exactly : (k : ℕ) → k ≤ r → IsEverything p n (matrix_at p n Ws k) ↔ IsOntoBy (matrices p n) S T f k
        after_exactly k b =
            let q : min k r ≡ k = omega arith in
            let h = onto_by (matrices_laws p n) (matrices_flat p n) f F.commutes (system_read p n X) (system_read p n Y) phi F.squares join_chain join_start k in
            through (everything_read p n gT (columns_of p n Ws k) (matrix_at p n Ws k) (join_fits k b)) (turned (subst (λ x. IsOntoBy (matrices p n) S T f k ↔ Everything (matrices p n) (member p n gT Ws x)) q h))

        -- the induced map is onto exactly if the constant member is everything
        onto_exactly : IsEverything p n (matrix_at p n Ws r) ↔ MapIsOnto (matrices p n) S T f
        onto_exactly =
            let q : min r r ≡ r = omega arith in
            let h = onto_map (matrices_laws p n) (matrices_flat p n) f F.commutes (system_read p n X) (system_read p n Y) phi F.squares join_chain join_start r (last_same p n gT Ws r) in
            through (everything_read p n gT (columns_of p n Ws r) (matrix_at p n Ws r) (join_fits r (omega arith))) (turned (subst (λ x. MapIsOnto (matrices p n) S T f ↔ Everything (matrices p n) (member p n gT Ws x)) q h))

      -- where W_r is everything, the map is onto, and the least such r is the least number of moves
      pub onto_yes_fact : IsEverything p n (matrix_at p n Ws r) → MapIsOnto (matrices p n) S T f × ((k : ℕ) → k ≤ r → IsEverything p n (matrix_at p n Ws k) ↔ IsOntoBy (matrices p n) S T f k)
      onto_yes_fact e =
          let f : Everything (matrices p n) (member p n gT Ws r) = (everything_read p n gT (columns_of p n Ws r) (matrix_at p n Ws r) (join_fits r (omega arith))).0 e in
          let last = last_everything (matrices_laws p n) (member p n gT Ws r) f in
          ((onto_exactly last).0 e, after_exactly last)

      pub everything_rises : (k m : ℕ) → k + m ≤ r → IsEverything p n (matrix_at p n Ws k) → IsEverything p n (matrix_at p n Ws (k + m))
      everything_rises = join_rises

    -- where the chain repeats, the map is onto exactly if the constant member is everything; the same of each number of moves
    module _ {Ws : List (PolynomialMatrix p n)} {r : ℕ} (W : JoinFacts p n (matrix_at p n KT 0) Phi UT Ws (suc r)) (repeats : ColumnsInImage p n (matrix_at p n Ws r) (matrix_at p n Ws (suc r))) where
      short : JoinFacts p n (matrix_at p n KT 0) Phi UT Ws r
      short = record { begins = W.begins; chain = shorter p n W.chain }

      last_step : Generates (matrices p n) (member p n gT Ws r) (read (polynomials p n) gT gT UT) (each (polynomials p n) (frobenius_twist p n 1) (member p n gT Ws r))
      last_step =
          last_repeats (matrices_laws p n) (member p n gT Ws r) (member p n gT Ws (suc r)) (step_read p n gT Y.morphism_fits W.chain r (omega arith)) (same_members p n gT Y.morphism_fits W.chain repeats (join_begins short))

      pub onto_repeat_fact : IsEverything p n (matrix_at p n Ws r) ↔ MapIsOnto (matrices p n) S T f
      onto_repeat_fact = onto_exactly short last_step

      pub onto_after_fact : (k : ℕ) → k ≤ r → IsEverything p n (matrix_at p n Ws k) ↔ IsOntoBy (matrices p n) S T f k
      onto_after_fact = after_exactly short last_step
