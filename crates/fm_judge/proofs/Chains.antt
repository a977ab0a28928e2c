-- The lines `chain`, `grows` and `stable` give the chain of kernels through its first repeat.
use Rattle.std.proofs.Common.{◌≡◌, ℕ, suc, ◌-◌, ◌<◌, ◌≤◌, true, List, [], ◌∷◌, length, get_or, Some, refl, sym, ap, ◌∙◌, subst, subst₂, arith}
use Rattle.std.proofs.lemmas.List.{length-append, length-map}
use native.Mathlib.Decide.{dec_lt}
use Rattle.fm_algebra.specs.Families.{read}
use Rattle.fm_algebra.specs.Polynomials.{polynomials}
use Rattle.fm_algebra.specs.PolynomialMatrices.{HasShape, GeneratesPreimage, InImage, matrix_product, matrix_twist}
use Rattle.fm_algebra.proofs.PolynomialMatrices.{twist_law_none}
use Rattle.fm_limit.specs.ResolvedIdeal.{matrix_at}
use Rattle.fm_limit.specs.Facts.{ColumnsInImage, IsChain, IsFirstRepeat, PresentsExt, DegreeFacts}
use Rattle.fm_limit.proofs.MatrixWords.{columns_from, product_read, product_fits}
use Rattle.fm_poly.specs.declared.ring.Ring.{Ring}
use Rattle.fm_graphs.specs.Graphs.{MatrixOf}
use Rattle.fm_report.specs.Parts.{Part, twist, times, part_value, part_values}
use Rattle.fm_report.specs.Sheets.{Block, numbered, add_kernel}
use Rattle.fm_plan.proofs.Chains.{old_at, longer}
use Rattle.fm_parts.specs.Shapes.{rows_of, columns_of, fits}
use Rattle.fm_parts.specs.Conditions.{equal}
use Rattle.fm_parts.specs.Meanings.{Says}
use Rattle.fm_parts.proofs.Shapes.{factors, part_shape}
use Rattle.fm_judge.specs.Goals.{Goal, told_generators}
use Rattle.fm_judge.proofs.Goods.{AreGood, good_append, good_at, value_at, values_append, renamed, columns_are}
use Rattle.fm_judge.proofs.Resolving.{Told}
use Rattle.fm_judge.proofs.Lifting.{Resolved, Presented, ideal_of}

-- ---- columns of products, and columns outside an image
module _ (r : Ring) where
  pub product_columns : (m k c : ℕ) (A W B : MatrixOf r) → HasShape r.prime r.vars m k A → HasShape r.prime r.vars k c W → B ≡ matrix_product r.prime r.vars A W → ColumnsInImage r.prime r.vars A B
  product_columns m k c A W B s t e = (columns_from r.prime r.vars m k c A B s (subst (HasShape r.prime r.vars m c) (sym e) (product_fits r.prime r.vars m k c A W s t))).1
      (read (polynomials r.prime r.vars) k c W, sym (product_read r.prime r.vars m k c A W s t) ∙ ap (read (polynomials r.prime r.vars) m c) (sym e))

  -- the columns of a part that is a multiple of another
  pub multiple_columns : (K W : Part) (B : MatrixOf r) → fits (times K W) ≡ true → B ≡ matrix_product r.prime r.vars (part_value r K) (part_value r W) → ColumnsInImage r.prime r.vars (part_value r K) B
  multiple_columns K W B f e = let h = factors K W f in
      product_columns (rows_of K) (columns_of K) (columns_of W) (part_value r K) (part_value r W) B (part_shape r K h.0) (renamed r (part_value r W) (sym h.2) refl (part_shape r W h.1)) e

  -- where a column is outside, not all columns are inside
  pub not_inside : (m k : ℕ) (A B : MatrixOf r) (c : ℕ) → HasShape r.prime r.vars m k A → 0 < c → c ≤ length B.columns → ¬ (InImage r.prime r.vars (matrix_twist r.prime r.vars 0 A) (get_or B.columns (c - 1) [])) → ¬ (ColumnsInImage r.prime r.vars A B)
  not_inside m k A B c s some few out all =
      out (subst (λ X. InImage r.prime r.vars X (get_or B.columns (c - 1) [])) (sym (twist_law_none r.prime r.vars m k A s)) (all (c - 1) (omega (arith, some, few))))

  pub not_all_inside : (K : Part) (B : MatrixOf r) (c : ℕ) → fits K ≡ true → 0 < c → c ≤ length B.columns → ¬ (InImage r.prime r.vars (matrix_twist r.prime r.vars 0 (part_value r K)) (get_or B.columns (c - 1) [])) → ¬ (ColumnsInImage r.prime r.vars (part_value r K) B)
  not_all_inside K B c f some few out = not_inside (rows_of K) (columns_of K) (part_value r K) B c (part_shape r K f) some few out

module _ (r : Ring) (g : Goal) where
  abbrev pub Kernels : Block → List (MatrixOf r)
  Kernels b = part_values r b.kernels

  -- K_0 .. K_s are named, and K_0 .. K_t differ
  pub record Chained (s t : ℕ) (b : Block) : Type 0 where
    pub base : Resolved r g b
    pub Z : Part
    pub Z_is : b.cocycles ≡ Z ∷ []
    pub Z_good : fits Z ≡ true
    pub told : Told (told_generators g.aim) (columns_of Z)
    pub U : Part
    pub U_is : b.morphism ≡ U ∷ []
    pub U_good : fits U ≡ true
    pub presents : PresentsExt r.prime r.vars g.degree (ideal_of r g b) (part_value r Z) (matrix_at r.prime r.vars (Kernels b) 0) (part_value r U)
    pub good : AreGood b.kernels
    pub count : length b.kernels ≡ suc s
    pub chain : IsChain r.prime r.vars (part_value r U) (Kernels b) s
    pub first : IsFirstRepeat r.prime r.vars (Kernels b) t

  pub chain_begins : (b : Block) → Presented r g b → Chained 0 0 b
  unfolding matrix_at
  chain_begins b P =
      let R = P.relations in
      let C = R.cocycles in
      let X = P.presents in
      let only : Kernels b ≡ part_value r R.N ∷ [] = ap (part_values r) R.is in
      let square : length (part_value r C.Z).columns ≡ length (part_value r P.U).columns = sym (columns_are r C.Z C.good) ∙ sym P.columns ∙ columns_are r P.U P.good in
      record {
        base = C.base;
        Z = C.Z;
        Z_is = C.is;
        Z_good = C.good;
        told = C.told;
        U = P.U;
        U_is = P.is;
        U_good = P.good;
        presents = subst (λ Ks. PresentsExt r.prime r.vars g.degree (ideal_of r g b) (part_value r C.Z) (matrix_at r.prime r.vars Ks 0) (part_value r P.U)) (sym only) X;
        good = subst AreGood (sym R.is) (R.good, tt);
        count = ap length R.is;
        chain = subst (λ Ks. IsChain r.prime r.vars (part_value r P.U) Ks 0) (sym only) (record {
          fits = λ s l. let z : 0 ≡ s = omega (arith, l) in
              subst (λ x. HasShape r.prime r.vars (length (part_value r P.U).columns) (length (matrix_at r.prime r.vars (part_value r R.N ∷ []) x).columns) (matrix_at r.prime r.vars (part_value r R.N ∷ []) x)) z
              (renamed r (part_value r R.N) square refl X.relations_fit);
          step = λ s l. absurd (omega (arith, l));
        });
        first = λ s l. absurd (omega (arith, l));
      }

  count_values : (s t : ℕ) (b : Block) → Chained s t b → length (Kernels b) ≡ suc s
  count_values s t b C = length-map b.kernels (part_value r) ∙ C.count

  -- `chain s+1`
  pub chain_named : (s : ℕ) (b : Block) → (C : Chained s s b) → (next K : Part) → fits next ≡ true → numbered b.kernels (suc s) ≡ Some K → rows_of next ≡ columns_of C.U
      → GeneratesPreimage r.prime r.vars (part_value r next) (part_value r C.U) (part_value r (twist K 1)) → Chained (suc s) s (add_kernel b next)
  unfolding part_value
  chain_named s b C next K f i rows h =
      let c = count_values s s b C in
      let all = values_append r b.kernels next in
      let old : (k : ℕ) → k ≤ s → matrix_at r.prime r.vars (Kernels (add_kernel b next)) k ≡ matrix_at r.prime r.vars (Kernels b) k =
      λ k l. ap (λ xs. matrix_at r.prime r.vars xs k) all ∙ old_at r.prime r.vars (Kernels b) (part_value r next) k (omega (arith, c, l)) in
      record {
        base = record { resolved = C.base.resolved; good = C.base.good; good_lift = C.base.good_lift };
        Z = C.Z;
        Z_is = C.Z_is;
        Z_good = C.Z_good;
        told = C.told;
        U = C.U;
        U_is = C.U_is;
        U_good = C.U_good;
        presents = subst (λ A. PresentsExt r.prime r.vars g.degree (ideal_of r g b) (part_value r C.Z) A (part_value r C.U)) (sym (old 0 (omega arith))) C.presents;
        good = good_append b.kernels next C.good f;
        count = length-append b.kernels (next ∷ []) ∙ (let n = C.count in omega (arith, n));
        chain = subst (λ Ks. IsChain r.prime r.vars (part_value r C.U) Ks (suc s)) (sym all)
            (longer r.prime r.vars (Kernels b) (part_value r next) (part_value r C.U) s c C.chain
            (renamed r (part_value r next) (rows ∙ columns_are r C.U C.U_good) (columns_are r next f) (part_shape r next f))
            (subst (λ A. GeneratesPreimage r.prime r.vars (part_value r next) (part_value r C.U) (matrix_twist r.prime r.vars 1 A)) (sym (value_at r b.kernels s K i).1) h));
        first = λ k l all_in. C.first k l (subst₂ (ColumnsInImage r.prime r.vars) (old k (omega (arith, l))) (old (suc k) (omega (arith, l))) all_in);
      }

  -- `grows s`
  pub chain_grows : (s c : ℕ) (b : Block) → (C : Chained (suc s) s b) → (K next : Part) → numbered b.kernels (suc s) ≡ Some K → numbered b.kernels (suc (suc s)) ≡ Some next
      → 0 < c → c ≤ columns_of next → ¬ (InImage r.prime r.vars (matrix_twist r.prime r.vars 0 (part_value r K)) (get_or (part_value r next).columns (c - 1) [])) → Chained (suc s) (suc s) b
  chain_grows s c b C K next i i' some few out = record {
    base = C.base;
    Z = C.Z;
    Z_is = C.Z_is;
    Z_good = C.Z_good;
    told = C.told;
    U = C.U;
    U_is = C.U_is;
    U_good = C.U_good;
    presents = C.presents;
    good = C.good;
    count = C.count;
    chain = C.chain;
    first = λ k l all_in. elim (dec_lt k s) [
      | yes w ↦ C.first k w all_in
      | no w ↦
          let e : k ≡ s = omega (arith, w, l) in
          not_all_inside r K (part_value r next) c (good_at b.kernels (suc s) K C.good i) some (let q = columns_are r next (good_at b.kernels (suc (suc s)) next C.good i') in omega (arith, q, few)) out
          (subst₂ (ColumnsInImage r.prime r.vars) (ap (matrix_at r.prime r.vars (Kernels b)) e ∙ (value_at r b.kernels s K i).1) (ap (λ x. matrix_at r.prime r.vars (Kernels b) (suc x)) e ∙ (value_at r b.kernels (suc s) next i').1) all_in)
    ];
  }

  -- `stable s`: the facts of the degree
  pub record Repeating (t : ℕ) (b : Block) : Type 0 where
    pub chained : Chained (suc t) t b
    pub facts : DegreeFacts r.prime r.vars g.degree (ideal_of r g b) (part_value r chained.Z) (part_value r chained.U) (Kernels b) t

  pub chain_repeats : (s : ℕ) (b : Block) → Chained (suc s) s b → (K next W : Part) → numbered b.kernels (suc s) ≡ Some K → numbered b.kernels (suc (suc s)) ≡ Some next → Says r (equal next (times K W)) → Repeating s b
  unfolding part_value
  chain_repeats s b C K next W i i' h = record {
    chained = C;
    facts = record {
      resolved = C.base.resolved;
      ext = C.presents;
      chain = C.chain;
      repeats = subst₂ (ColumnsInImage r.prime r.vars) (sym (value_at r b.kernels s K i).1) (sym (value_at r b.kernels (suc s) next i').1) (multiple_columns r K W (part_value r next) h.1 h.4);
    };
  }
