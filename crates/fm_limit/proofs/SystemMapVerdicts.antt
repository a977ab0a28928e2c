-- Facts of a map between systems give verdicts on it
use Rattle.std.proofs.Common.{ℕ, suc, ◌+◌, ◌≤◌, ◌≡◌, ◌↔◌, subst, arith, Bool, IsTrue, List, length, Option, Some, None}
use Rattle.fm_gfp.specs.declared.prime.Prime.{Prime}
use Rattle.fm_algebra.specs.PolynomialMatrices.{PolynomialMatrix, HasShape, GeneratesPreimage}
use Rattle.fm_algebra.proofs.ListImages.{through}
use Rattle.fm_limit.specs.System.{System, MapMatrices, IsOntoBy}
use Rattle.fm_limit.specs.ResolvedIdeal.{matrix_at}
use Rattle.fm_limit.specs.Classes.{matrices}
use Rattle.fm_limit.specs.Facts.{ColumnsInImage, IsEverything, JoinFacts}
use Rattle.fm_limit.specs.SystemFacts.{SystemFacts, SystemMapFacts, MapHolds, OntoHolds}
use Rattle.fm_limit.proofs.SystemMaps.{classes_fact, zero_map_fact, one_map_fact, onto_yes_fact, everything_rises, onto_repeat_fact}
use Rattle.fm_limit.proofs.SystemVerdicts.{least_by_last, before}

module _ (p : Prime) (n : ℕ) where
  module _ {S T : System (matrices p n)} {f : MapMatrices (matrices p n) S T} {ZS US ZT UT Phi : PolynomialMatrix p n} {KS KT : List (PolynomialMatrix p n)} {s t : ℕ} (X : SystemFacts p n S ZS US KS s) (Y : SystemFacts p n T ZT UT KT t) (F : SystemMapFacts p n S T f ZS ZT Phi) where
    pub map_verdict : (C : PolynomialMatrix p n) → HasShape p n (length ZS.columns) (length C.columns) C → GeneratesPreimage p n C Phi (matrix_at p n KT t)
        → (is_zero is_one : Bool) (onto : Option ℕ) → IsTrue is_zero ↔ ColumnsInImage p n (matrix_at p n KT t) Phi → IsTrue is_one ↔ ColumnsInImage p n (matrix_at p n KS s) C
        → OntoHolds p n S T f onto → MapHolds p n S T f is_zero is_one onto
    map_verdict C c g is_zero is_one onto a b o = (classes_fact p n X Y F, through a (zero_map_fact p n X Y F), through b (one_map_fact p n X Y F C c g), o)

    pub onto_yes_verdict : (Ws : List (PolynomialMatrix p n)) (r : ℕ) → JoinFacts p n (matrix_at p n KT 0) Phi UT Ws r → IsEverything p n (matrix_at p n Ws r)
        → ((k : ℕ) → suc k ≡ r → IsEverything p n (matrix_at p n Ws k) → ⊥) → OntoHolds p n S T f (Some r)
    onto_yes_verdict Ws r W e fails =
        let h = onto_yes_fact p n X Y F W e in (
          h.0,
          least_by_last (IsOntoBy (matrices p n) S T f) r ((h.1 r (omega arith)).0 e) (λ k lt q.
              let b = before k r lt in
              let bk : k ≤ r = omega arith in
              let j : ℕ = b.0 in
              let d : ℕ = b.1 in
              let bj : suc j ≡ r = b.2 in
              let bd : k + d ≡ j = b.3 in
              let x : IsEverything p n (matrix_at p n Ws j) = subst (λ x. IsEverything p n (matrix_at p n Ws x)) bd (everything_rises p n X Y F W k d (omega arith) ((h.1 k bk).1 q)) in
              (j, bj, (h.1 j (omega arith)).0 x))
              (λ j q a. let bj : j ≤ r = omega arith in fails j q ((h.1 j bj).1 a)),
        )

    pub onto_no_verdict : (Ws : List (PolynomialMatrix p n)) (r : ℕ) → JoinFacts p n (matrix_at p n KT 0) Phi UT Ws (suc r) → ColumnsInImage p n (matrix_at p n Ws r) (matrix_at p n Ws (suc r))
        → (IsEverything p n (matrix_at p n Ws r) → ⊥) → OntoHolds p n S T f None
    onto_no_verdict Ws r W rep fails h = fails ((onto_repeat_fact p n X Y F W rep).1 h)
