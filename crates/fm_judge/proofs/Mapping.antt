-- The lines of a map: a lift of the identity, its matrix in coordinates, and whether the map is zero and one to one.
use Rattle.std.proofs.Common.{◌≡◌, ℕ, zero, suc, ◌+◌, ◌<◌, ◌≤◌, ◌↔◌, Bool, true, false, IsTrue, List, [], ◌∷◌, ◌++◌, length, Option, Some, refl, sym, ap, ap₂, ◌∙◌, subst, subst₂, arith}
use Rattle.std.proofs.lemmas.List.{length-append}
use Rattle.std.proofs.lemmas.Bool.{false≢true}
use native.Mathlib.Decide.{dec_lt}
use Rattle.fm_algebra.specs.PolynomialMatrices.{HasShape, GeneratesPreimage, matrix_product, matrix_transpose, matrix_unit}
use Rattle.fm_limit.specs.ResolvedIdeal.{ResolvedIdeal, matrix_at, rank, IsLiftOfIdentityOf}
use Rattle.fm_limit.specs.Facts.{ColumnsInImage, MapFacts}
use Rattle.fm_limit.specs.Verdicts.{HoldsOfOnto, induced_map}
use Rattle.fm_limit.proofs.MatrixWords.{unit_fits}
use Rattle.fm_limit.proofs.VerdictLaws.{map_verdict}
use Rattle.fm_poly.specs.declared.ring.Ring.{Ring}
use Rattle.fm_words.specs.Parts.{Bytes}
use Rattle.fm_graphs.specs.Graphs.{MatrixOf}
use Rattle.fm_answers.proofs.PrintedMatrices.{matrix_means}
use Rattle.fm_plan.proofs.Chains.{old_at, new_at}
use Rattle.fm_report.specs.Parts.{Part, flip, times, part_value, part_values}
use Rattle.fm_report.specs.Sheets.{Block, numbered}
use Rattle.fm_parts.specs.Shapes.{rows_of, columns_of, fits}
use Rattle.fm_parts.specs.Conditions.{Log, equal, outside, preimage}
use Rattle.fm_parts.specs.Meanings.{Says}
use Rattle.fm_parts.proofs.Shapes.{factors, part_shape}
use Rattle.fm_judge.specs.Goals.{Goal, Aim, MapSource, incoming}
use Rattle.fm_judge.specs.Claims.{unit_part}
use Rattle.fm_judge.proofs.Options.{last_number}
use Rattle.fm_judge.proofs.Goods.{AreGood, good_append, good_at, value_at, values_append, renamed, columns_are}
use Rattle.fm_judge.proofs.Resolving.{Ds}
use Rattle.fm_judge.proofs.Lifting.{ideal_of}
use Rattle.fm_judge.proofs.Chains.{Kernels, Repeating, multiple_columns, not_all_inside}
use Rattle.fm_judge.proofs.Verdicts.{IsRight}

-- the goal on the side of the source, by its name and what was said of it
abbrev pub source_goal : Goal → MapSource → Bytes → Aim → Goal
source_goal g source name aim = record { name = name; generators = source.generators; degree = g.degree; aim = aim }

module _ (r : Ring) (g : Goal) where
  -- the chain of the source repeats
  pub record Behind (source : MapSource) : Type 0 where
    pub name : Bytes
    pub aim : Aim
    pub repeating : Repeating r (source_goal g source name aim) source.repeat source.block

  -- and so does that of the target
  pub record Sides (c : Block) (t : ℕ) : Type 0 where
    pub source : MapSource
    pub is_zero : Bool
    pub is_one : Bool
    pub onto : Option ℕ
    pub aim_is : g.aim ≡ incoming source is_zero is_one onto
    pub behind : Behind source
    pub repeating : Repeating r g t c

module _ (r : Ring) (g : Goal) (c : Block) (t : ℕ) (A : Sides r g c t) where
  abbrev h : Goal
  h = source_goal g A.source A.behind.name A.behind.aim

  abbrev b : Block
  b = A.source.block

  abbrev s : ℕ
  s = A.source.repeat

  abbrev S : Repeating r h s b
  S = A.behind.repeating

  abbrev T : Repeating r g t c
  T = A.repeating

  abbrev J : ResolvedIdeal r.prime r.vars
  J = ideal_of r h b

  abbrev I : ResolvedIdeal r.prime r.vars
  I = ideal_of r g c

  abbrev us : List (MatrixOf r)
  us = Ds r h b

  abbrev ds : List (MatrixOf r)
  ds = Ds r g c

  abbrev ZS : MatrixOf r
  ZS = part_value r S.chained.Z

  abbrev ZT : MatrixOf r
  ZT = part_value r T.chained.Z

  abbrev KS : MatrixOf r
  KS = matrix_at r.prime r.vars (Kernels r h b) s

  abbrev KT : MatrixOf r
  KT = matrix_at r.prime r.vars (Kernels r g c) t

  -- ---- a lift of the identity
  -- lambda_0 .. lambda_(j-1) are these
  pub record Identity (ls : List Part) : Type 0 where
    pub good : AreGood ls
    pub lifted : (k : ℕ) → length ls ≡ suc k → IsLiftOfIdentityOf r.prime r.vars k ds us (part_values r ls)

  pub identity_begins : Identity []
  identity_begins = record { good = tt; lifted = λ k e. absurd (omega (arith, e)) }

  pub first_identity : (P : Part) → fits P ≡ true → Says r (equal P (unit_part r 1)) → Identity (P ∷ [])
  unfolding matrix_at
  first_identity P f e = record {
    good = (f, tt);
    lifted = λ k l. let z : 0 ≡ k = omega (arith, l) in
        subst (λ k. IsLiftOfIdentityOf r.prime r.vars k ds us (part_value r P ∷ [])) z
        (subst (λ X. IsLiftOfIdentityOf r.prime r.vars 0 ds us (X ∷ [])) (sym (e.4 ∙ matrix_means r (matrix_unit r.prime r.vars 1)))
        (record { count = refl; fits = fits_zero; first = refl; square = λ k h. absurd (omega (arith, h)) }));
  }
    where
      fits_zero : (k : ℕ) → k < 1 → HasShape r.prime r.vars (rank r.prime r.vars us k) (rank r.prime r.vars ds k) (matrix_at r.prime r.vars (matrix_unit r.prime r.vars 1 ∷ []) k)
      fits_zero zero h = unit_fits r.prime r.vars 1
      fits_zero (suc k) h = absurd (omega arith)

  longer : (j : ℕ) (ls : List (MatrixOf r)) (X : MatrixOf r) → IsLiftOfIdentityOf r.prime r.vars j ds us ls → HasShape r.prime r.vars (rank r.prime r.vars us (suc j)) (rank r.prime r.vars ds (suc j)) X
      → matrix_product r.prime r.vars (matrix_at r.prime r.vars us j) X ≡ matrix_product r.prime r.vars (matrix_at r.prime r.vars ls j) (matrix_at r.prime r.vars ds j) → IsLiftOfIdentityOf r.prime r.vars (suc j) ds us (ls ++ X ∷ [])
  longer j ls X f shape e = record {
    count = length-append ls (X ∷ []) ∙ ap (λ k. k + 1) f.count ∙ omega arith;
    fits = λ k h. elim (dec_lt k (suc j)) [
      | yes l ↦ let m : k < length ls = (let c = f.count in omega (arith, c, l)) in
          subst (HasShape r.prime r.vars (rank r.prime r.vars us k) (rank r.prime r.vars ds k)) (sym (old_at r.prime r.vars ls X k m)) (f.fits k m)
      | no w ↦ let m : suc j ≡ k = (let c = f.count in let n = length-append ls (X ∷ []) in omega (arith, c, w, n, h)) in
          subst (λ x. HasShape r.prime r.vars (rank r.prime r.vars us x) (rank r.prime r.vars ds x) (matrix_at r.prime r.vars (ls ++ X ∷ []) x)) m
          (subst (HasShape r.prime r.vars (rank r.prime r.vars us (suc j)) (rank r.prime r.vars ds (suc j))) (sym (new_at r.prime r.vars ls X (suc j) (let c = f.count in omega (arith, c)))) shape)
    ];
    first = old_at r.prime r.vars ls X zero (let c = f.count in omega (arith, c)) ∙ f.first;
    square = λ k h. elim (dec_lt k j) [
      | yes l ↦
          let c = f.count in
          ap (matrix_product r.prime r.vars (matrix_at r.prime r.vars us k)) (old_at r.prime r.vars ls X (suc k) (omega (arith, c, l))) ∙ f.square k l
          ∙ ap (λ Y. matrix_product r.prime r.vars Y (matrix_at r.prime r.vars ds k)) (sym (old_at r.prime r.vars ls X k (omega (arith, c, l))))
      | no w ↦
          let c = f.count in
          let m : j ≡ k = omega (arith, w, h) in
          subst (λ x. matrix_product r.prime r.vars (matrix_at r.prime r.vars us x) (matrix_at r.prime r.vars (ls ++ X ∷ []) (suc x)) ≡ matrix_product r.prime r.vars (matrix_at r.prime r.vars (ls ++ X ∷ []) x) (matrix_at r.prime r.vars ds x)) m
          (ap (matrix_product r.prime r.vars (matrix_at r.prime r.vars us j)) (new_at r.prime r.vars ls X (suc j) (omega (arith, c))) ∙ e
          ∙ ap (λ Y. matrix_product r.prime r.vars Y (matrix_at r.prime r.vars ds j)) (sym (old_at r.prime r.vars ls X j (omega (arith, c)))))
    ];
  }

  -- lambda_(j+1)
  pub next_identity : (j : ℕ) (ls : List Part) → length ls ≡ suc j → Identity ls → (P d last d' : Part) → fits P ≡ true → numbered b.differentials (suc j) ≡ Some d → numbered ls (suc j) ≡ Some last
      → numbered c.differentials (suc j) ≡ Some d' → Says r (equal (times d P) (times last d')) → Identity (ls ++ P ∷ [])
  unfolding part_value
  next_identity j ls long L P d last d' f i k i' e =
      let dv = (value_at r b.differentials j d i).1 in
      let lv = (value_at r ls j last k).1 in
      let dv' = (value_at r c.differentials j d' i').1 in
      let fd = good_at b.differentials (suc j) d S.chained.base.good i in
      let fd' = good_at c.differentials (suc j) d' T.chained.base.good i' in
      let rows : rows_of P ≡ rank r.prime r.vars us (suc j) = sym (factors d P e.0).2 ∙ columns_are r d fd ∙ ap (λ (X : MatrixOf r). length X.columns) (sym dv) in
      let columns : columns_of P ≡ rank r.prime r.vars ds (suc j) = e.3 ∙ columns_are r d' fd' ∙ ap (λ (X : MatrixOf r). length X.columns) (sym dv') in
      record {
        good = good_append ls P L.good f;
        lifted = λ m q. let same : suc j ≡ m = (let n = length-append ls (P ∷ []) in omega (arith, q, long, n)) in
            subst₂ (λ m xs. IsLiftOfIdentityOf r.prime r.vars m ds us xs) same (sym (values_append r ls P))
            (longer j (part_values r ls) (part_value r P) (L.lifted j long) (renamed r (part_value r P) rows columns (part_shape r P f))
            (ap (λ X. matrix_product r.prime r.vars X (part_value r P)) dv ∙ e.4 ∙ ap₂ (λ X Y. matrix_product r.prime r.vars X Y) (sym lv) (sym dv')));
      }

  -- ---- Phi
  pub record Mapped (ls : List Part) (Phi : Part) : Type 0 where
    pub good : fits Phi ≡ true
    pub rows : rows_of Phi ≡ columns_of T.chained.Z
    pub columns : columns_of Phi ≡ columns_of S.chained.Z
    pub facts : MapFacts r.prime r.vars g.degree J I (part_values r ls) ZS ZT (part_value r Phi)

  pub phi_named : (ls : List Part) → length ls ≡ suc g.degree → Identity ls → (Phi Z last Z' : Part) → fits Phi ≡ true → numbered b.cocycles 1 ≡ Some Z → numbered ls (suc g.degree) ≡ Some last → numbered c.cocycles 1 ≡ Some Z'
      → Says r (equal (times (flip last) Z) (times Z' Phi)) → Mapped ls Phi
  unfolding part_value
  phi_named ls long L Phi Z last Z' f i k i' e =
      let same : S.chained.Z ≡ Z = last_number [] S.chained.Z Z 1 refl (ap (λ xs. numbered xs 1) (sym S.chained.Z_is) ∙ i) in
      let same' : T.chained.Z ≡ Z' = last_number [] T.chained.Z Z' 1 refl (ap (λ xs. numbered xs 1) (sym T.chained.Z_is) ∙ i') in
      let lv = (value_at r ls g.degree last k).1 in
      let q = subst₂ (λ Z Z'. Says r (equal (times (flip last) Z) (times Z' Phi))) (sym same) (sym same') e in
      let rows : rows_of Phi ≡ columns_of T.chained.Z = sym (factors T.chained.Z Phi q.1).2 in
      let columns : columns_of Phi ≡ columns_of S.chained.Z = sym q.3 in
      record {
        good = f;
        rows = rows;
        columns = columns;
        facts = record {
          identity = L.lifted g.degree long;
          fits = renamed r (part_value r Phi) (rows ∙ columns_are r T.chained.Z T.chained.Z_good) (columns ∙ columns_are r S.chained.Z S.chained.Z_good) (part_shape r Phi f);
          square = ap (λ X. matrix_product r.prime r.vars (matrix_transpose r.prime r.vars X) ZS) lv ∙ q.4;
        };
      }

  -- ---- is it zero
  abbrev pub ZeroSaid : Part → Type 0
  ZeroSaid Phi = IsTrue A.is_zero ↔ ColumnsInImage r.prime r.vars KT (part_value r Phi)

  -- the columns of Phi lie in the stable kernel of the target, or one doesn't
  pub zero_said : (Phi K W : Part) → A.is_zero ≡ true → numbered c.kernels (suc t) ≡ Some K → Says r (equal Phi (times K W)) → ZeroSaid Phi
  unfolding part_value
  zero_said Phi K W e i h =
      ((λ x. subst (λ X. ColumnsInImage r.prime r.vars X (part_value r Phi)) (sym (value_at r c.kernels t K i).1) (multiple_columns r K W (part_value r Phi) h.1 h.4)), λ x. e)

  pub zero_denied : (Phi K : Part) (log : Log) (k : ℕ) (by : List ℕ) → fits Phi ≡ true → A.is_zero ≡ false → numbered c.kernels (suc t) ≡ Some K → 0 < k → k ≤ columns_of Phi → Says r (outside log 0 K Phi k by) → ZeroSaid Phi
  zero_denied Phi K log k by f e i some few h = (
    (λ x. absurd (false≢true (sym e ∙ x))),
    λ x. absurd (not_all_inside r K (part_value r Phi) k (good_at c.kernels (suc t) K T.chained.good i) some (let n = columns_are r Phi f in omega (arith, few, n)) (h some few)
        (subst (λ X. ColumnsInImage r.prime r.vars X (part_value r Phi)) (value_at r c.kernels t K i).1 x)),
  )

  -- ---- is it one to one
  -- C generates all that Phi sends into the stable kernel of the target
  pub record Fibre (Phi C : Part) : Type 0 where
    pub good : fits C ≡ true
    pub rows : rows_of C ≡ columns_of Phi
    pub generates : GeneratesPreimage r.prime r.vars (part_value r C) (part_value r Phi) KT

  pub fibre_named : (Phi K C X W : Part) (log : Log) → fits C ≡ true → numbered c.kernels (suc t) ≡ Some K → Says r (preimage log Phi K C X W) → Fibre Phi C
  fibre_named Phi K C X W log f i h = record { good = f; rows = h.0; generates = subst (GeneratesPreimage r.prime r.vars (part_value r C) (part_value r Phi)) (sym (value_at r c.kernels t K i).1) h.1 }

  pub record OneSaid (Phi : Part) : Type 0 where
    pub C : Part
    pub fibre : Fibre Phi C
    pub says : IsTrue A.is_one ↔ ColumnsInImage r.prime r.vars KS (part_value r C)

  pub one_said : (Phi C K W : Part) → Fibre Phi C → A.is_one ≡ true → numbered b.kernels (suc s) ≡ Some K → Says r (equal C (times K W)) → OneSaid Phi
  unfolding part_value
  one_said Phi C K W F e i h = record {
    C = C;
    fibre = F;
    says = ((λ x. subst (λ X. ColumnsInImage r.prime r.vars X (part_value r C)) (sym (value_at r b.kernels s K i).1) (multiple_columns r K W (part_value r C) h.1 h.4)), λ x. e);
  }

  pub one_denied : (Phi C K : Part) (log : Log) (k : ℕ) (by : List ℕ) → Fibre Phi C → A.is_one ≡ false → numbered b.kernels (suc s) ≡ Some K → 0 < k → k ≤ columns_of C → Says r (outside log 0 K C k by) → OneSaid Phi
  one_denied Phi C K log k by F e i some few h = record {
    C = C;
    fibre = F;
    says = (
      (λ x. absurd (false≢true (sym e ∙ x))),
      λ x. absurd (not_all_inside r K (part_value r C) k (good_at b.kernels (suc s) K S.chained.good i) some (let n = columns_are r C F.good in omega (arith, few, n)) (h some few)
          (subst (λ X. ColumnsInImage r.prime r.vars X (part_value r C)) (value_at r b.kernels s K i).1 x)),
    );
  }

  -- both are said of Phi
  pub record Compared (ls : List Part) (Phi : Part) : Type 0 where
    pub mapped : Mapped ls Phi
    pub is_zero_so : ZeroSaid Phi
    pub is_one_so : OneSaid Phi

  pub map_right : (ls : List Part) (Phi : Part) → Compared ls Phi → HoldsOfOnto r.prime r.vars g.degree J I (part_values r ls) A.onto
      → IsRight r (induced_map g.degree J I (part_values r ls) A.is_zero A.is_one A.onto)
  map_right ls Phi D onto = let M = D.mapped in let O = D.is_one_so in (
    (S.facts.resolved, T.facts.resolved, M.facts.identity),
    map_verdict r.prime r.vars S.facts T.facts M.facts (part_value r O.C)
        (renamed r (part_value r O.C) (O.fibre.rows ∙ M.columns ∙ columns_are r S.chained.Z S.chained.Z_good) (columns_are r O.C O.fibre.good) (part_shape r O.C O.fibre.good)) O.fibre.generates A.is_zero A.is_one A.onto D.is_zero_so O.says onto,
  )
