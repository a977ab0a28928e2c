-- The chain of the target's morphism that begins with [N | Phi], and whether a map is onto.
use Rattle.std.proofs.Common.{◌≡◌, ℕ, zero, suc, ◌+◌, ◌-◌, ◌<◌, ◌≤◌, true, List, [], ◌∷◌, ◌++◌, length, Option, Some, None, refl, sym, ap, ◌∙◌, subst, subst₂, arith}
use Rattle.std.proofs.lemmas.List.{length-append, length-map}
use Rattle.fm_algebra.specs.PolynomialMatrices.{HasShape, GeneratesPreimage, matrix_beside, matrix_twist, matrix_unit}
use Rattle.fm_limit.specs.ResolvedIdeal.{matrix_at}
use Rattle.fm_limit.specs.Facts.{ColumnsInImage, IsEverything, IsChain, JoinFacts}
use Rattle.fm_limit.specs.Verdicts.{HoldsOfOnto}
use Rattle.fm_limit.proofs.MatrixWords.{beside_fits, shape_rows, shape_columns}
use Rattle.fm_limit.proofs.VerdictLaws.{onto_yes_verdict, onto_no_verdict}
use Rattle.fm_poly.specs.declared.ring.Ring.{Ring}
use Rattle.fm_graphs.specs.Graphs.{MatrixOf}
use Rattle.fm_plan.proofs.Chains.{longer}
use Rattle.fm_report.specs.Parts.{Part, beside, twist, times, part_value, part_values}
use Rattle.fm_report.specs.Sheets.{Block, numbered}
use Rattle.fm_parts.specs.Shapes.{rows_of, columns_of, fits}
use Rattle.fm_parts.specs.Conditions.{Log, equal, outside, preimage}
use Rattle.fm_parts.specs.Meanings.{Says}
use Rattle.fm_parts.proofs.Shapes.{factors, part_shape}
use Rattle.fm_judge.specs.Goals.{Goal}
use Rattle.fm_judge.specs.Claims.{unit_part, link_at}
use Rattle.fm_judge.proofs.Options.{same_some, followed, last_number, later_number}
use Rattle.fm_judge.proofs.Goods.{AreGood, good_append, good_at, value_at, values_append, renamed, rows_are, columns_are}
use Rattle.fm_judge.proofs.Lifting.{ideal_of}
use Rattle.fm_judge.proofs.Chains.{Kernels, Repeating, multiple_columns}
use Rattle.fm_judge.proofs.Verdicts.{columns_outside, whole_everything}
use Rattle.fm_judge.proofs.Mapping.{Sides, Mapped, source_goal}

module _ (r : Ring) (g : Goal) (c : Block) (t : ℕ) (A : Sides r g c t) (ls : List Part) (Phi : Part) (M : Mapped r g c t A ls Phi) where
  abbrev T : Repeating r g t c
  T = A.repeating

  abbrev S : Repeating r (source_goal g A.source A.behind.name A.behind.aim) A.source.repeat A.source.block
  S = A.behind.repeating

  abbrev U : MatrixOf r
  U = part_value r T.chained.U

  abbrev N : MatrixOf r
  N = matrix_at r.prime r.vars (Kernels r g c) 0

  abbrev first : MatrixOf r
  first = matrix_beside r.prime r.vars N (part_value r Phi)

  abbrev gT : ℕ
  gT = length (part_value r T.chained.Z).columns

  -- L_0, L_1, ..
  abbrev pub Members : List Part → List (MatrixOf r)
  Members found = first ∷ part_values r found

  pub record Links (found : List Part) : Type 0 where
    pub good : AreGood found
    pub chain : IsChain r.prime r.vars U (Members found) (length found)

  square : gT ≡ length U.columns
  square = sym (shape_columns r.prime r.vars gT gT U T.facts.ext.morphism_fits)

  first_shape : HasShape r.prime r.vars (length U.columns) (length first.columns) first
  first_shape =
      let s = beside_fits r.prime r.vars gT (length N.columns) (length (part_value r S.chained.Z).columns) N (part_value r Phi) T.facts.ext.relations_fit M.facts.fits in
      renamed r first square (sym (shape_columns r.prime r.vars gT (length N.columns + length (part_value r S.chained.Z).columns) first s)) s

  pub links_begin : Links []
  unfolding matrix_at
  links_begin = record {
    good = tt;
    chain = record {
      fits = λ j l. let z : 0 ≡ j = omega (arith, l) in
          subst (λ x. HasShape r.prime r.vars (length U.columns) (length (matrix_at r.prime r.vars (first ∷ []) x).columns) (matrix_at r.prime r.vars (first ∷ []) x)) z first_shape;
      step = λ j l. absurd (omega (arith, l));
    };
  }

  first_means : (P L : Part) → N ≡ part_value r P → beside P Phi ≡ L → first ≡ part_value r L
  unfolding part_value
  first_means P L v e = ap (λ X. matrix_beside r.prime r.vars X (part_value r Phi)) v ∙ ap (part_value r) e

  first_rows : N.rows ≡ first.rows
  first_rows = shape_rows r.prime r.vars gT (length N.columns) N T.facts.ext.relations_fit ∙ square
      ∙ sym (shape_rows r.prime r.vars (length U.columns) (length first.columns) first first_shape)

  -- what L_j means, and its number of rows
  pub link_is : (parts : List Part) (logs : List Log) (found : List Part) (j : ℕ) (L : Part) → AreGood found → link_at r g c parts logs Phi found j ≡ Some L
      → (matrix_at r.prime r.vars (Members found) j ≡ part_value r L) × (rows_of L ≡ (matrix_at r.prime r.vars (Members found) j).rows)
  unfolding matrix_at
  link_is parts logs found j L good e =
      let a = followed (numbered c.kernels 1) (λ P. numbered (beside P Phi ∷ found) (suc j)) L e in
      by_place a.0 (good_at c.kernels 1 a.0 T.chained.good a.1) (value_at r c.kernels 0 a.0 a.1).1 j a.2
    where
      by_place : (P : Part) → fits P ≡ true → N ≡ part_value r P → (j : ℕ) → numbered (beside P Phi ∷ found) (suc j) ≡ Some L
          → (matrix_at r.prime r.vars (Members found) j ≡ part_value r L) × (rows_of L ≡ (matrix_at r.prime r.vars (Members found) j).rows)
      by_place P f v zero i = (first_means P L v (same_some i), ap rows_of (sym (same_some i)) ∙ rows_are r P f ∙ ap (λ (X : MatrixOf r). X.rows) (sym v) ∙ first_rows)
      by_place P f v (suc j) i =
          let k = later_number found (beside P Phi) L j i in
          let w = (value_at r found j L k).1 in
          (w, rows_are r L (good_at found (suc j) L good k) ∙ ap (λ (X : MatrixOf r). X.rows) (sym w))

  -- `link r+1`
  pub link_named : (found : List Part) → Links found → (P L V X W : Part) (log : Log) → fits P ≡ true → numbered c.morphism 1 ≡ Some V → matrix_at r.prime r.vars (Members found) (length found) ≡ part_value r L
      → Says r (preimage log V (twist L 1) P X W) → Links (found ++ P ∷ [])
  unfolding part_value
  link_named found K P L V X W log f i is h =
      let k = length found in
      let same : T.chained.U ≡ V = last_number [] T.chained.U V 1 refl (ap (λ xs. numbered xs 1) (sym T.chained.U_is) ∙ i) in
      let q = subst (λ V. Says r (preimage log V (twist L 1) P X W)) (sym same) h in
      let count : length (Members found) ≡ suc k = ap suc (length-map found (part_value r)) in
      let all : Members (found ++ P ∷ []) ≡ Members found ++ part_value r P ∷ [] = ap (λ xs. first ∷ xs) (values_append r found P) in
      let many : length (found ++ P ∷ []) ≡ suc k = length-append found (P ∷ []) ∙ omega arith in
      record {
        good = good_append found P K.good f;
        chain = subst₂ (λ Ms j. IsChain r.prime r.vars U Ms j) (sym all) (sym many)
            (longer r.prime r.vars (Members found) (part_value r P) U k count K.chain
            (renamed r (part_value r P) (q.0 ∙ columns_are r T.chained.U T.chained.U_good) (columns_are r P f) (part_shape r P f))
            (subst (λ Y. GeneratesPreimage r.prime r.vars (part_value r P) U (matrix_twist r.prime r.vars 1 Y)) (sym is) q.1));
      }

  -- ---- everything, or not
  pub link_short : (found : List Part) → Links found → (j : ℕ) → j ≤ length found → (L : Part) (log : Log) (k : ℕ) (by : List ℕ) → matrix_at r.prime r.vars (Members found) j ≡ part_value r L
      → rows_of L ≡ (matrix_at r.prime r.vars (Members found) j).rows → 0 < k → k ≤ columns_of (unit_part r (rows_of L)) → Says r (outside log 0 L (unit_part r (rows_of L)) k by) → ¬ (IsEverything r.prime r.vars (matrix_at r.prime r.vars (Members found) j))
  link_short found K j l L log k by is rows some few h all =
      let Y = matrix_at r.prime r.vars (Members found) j in
      columns_outside r (length U.columns) (length Y.columns) log L (matrix_unit r.prime r.vars (rows_of L)) k by (subst (HasShape r.prime r.vars (length U.columns) (length Y.columns)) is (K.chain.fits j l)) some few h
      (subst₂ (ColumnsInImage r.prime r.vars) is (ap (matrix_unit r.prime r.vars) (sym rows)) all)

  pub link_everything : (found : List Part) (j : ℕ) (L W : Part) → matrix_at r.prime r.vars (Members found) j ≡ part_value r L → Says r (equal (times L W) (unit_part r (rows_of L))) → IsEverything r.prime r.vars (matrix_at r.prime r.vars (Members found) j)
  link_everything found j L W is h = whole_everything r L W (matrix_at r.prime r.vars (Members found) j) is (factors L W h.0).0 h

  -- L_r adds nothing to L_(r-1)
  abbrev pub Closed : List Part → Type 0
  Closed found = ColumnsInImage r.prime r.vars (matrix_at r.prime r.vars (Members found) (length found - 1)) (matrix_at r.prime r.vars (Members found) (length found))

  pub closed : (found : List Part) (L P W : Part) → matrix_at r.prime r.vars (Members found) (length found - 1) ≡ part_value r L → matrix_at r.prime r.vars (Members found) (length found) ≡ part_value r P
      → Says r (equal P (times L W)) → Closed found
  unfolding part_value
  closed found L P W l e h = subst₂ (ColumnsInImage r.prime r.vars) (sym l) (sym e) (multiple_columns r L W (part_value r P) h.1 h.4)

  -- ---- onto
  abbrev Holding : Option ℕ → Type 0
  Holding onto = HoldsOfOnto r.prime r.vars g.degree (ideal_of r (source_goal g A.source A.behind.name A.behind.aim) A.source.block) (ideal_of r g c) (part_values r ls) onto

  joined : (found : List Part) (k : ℕ) → k ≡ length found → Links found → JoinFacts r.prime r.vars N (part_value r Phi) U (Members found) k
  unfolding matrix_at
  joined found k e K = record { begins = λ v. ((λ x. x), (λ x. x)); chain = subst (IsChain r.prime r.vars U (Members found)) (sym e) K.chain }

  pub onto_right : (found : List Part) → Links found → IsEverything r.prime r.vars (matrix_at r.prime r.vars (Members found) (length found))
      → ((k : ℕ) → suc k ≡ length found → ¬ (IsEverything r.prime r.vars (matrix_at r.prime r.vars (Members found) k))) → Holding (Some (length found))
  onto_right found K all before = onto_yes_verdict r.prime r.vars S.facts T.facts M.facts (Members found) (length found) (joined found (length found) refl K) all before

  pub never_onto_right : (found : List Part) → Links found → 0 < length found → Closed found → ¬ (IsEverything r.prime r.vars (matrix_at r.prime r.vars (Members found) (length found - 1))) → Holding None
  never_onto_right found K some_found closed short =
      let k = length found - 1 in
      let next : suc k ≡ length found = omega (arith, some_found) in
      onto_no_verdict r.prime r.vars S.facts T.facts M.facts (Members found) k (joined found (suc k) next K)
      (subst (λ j. ColumnsInImage r.prime r.vars (matrix_at r.prime r.vars (Members found) k) (matrix_at r.prime r.vars (Members found) j)) (sym next) closed) short
