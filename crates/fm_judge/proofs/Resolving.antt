-- The lines `d` and `exact` give a resolution.
use Rattle.std.proofs.Common.{◌≡◌, ℕ, zero, suc, ◌+◌, ◌<◌, ◌≤◌, true, List, [], ◌∷◌, length, get_or, slice_get, Option, Some, None, refl, sym, ap, ◌∙◌, subst, subst₂, arith}
use Rattle.std.proofs.lemmas.List.{length-append, length-map, ext_get_or}
use native.Mathlib.Decide.{dec_lt}
use Rattle.fm_algebra.specs.Matrix.{column_matrix, listed}
use Rattle.fm_algebra.specs.PolynomialMatrices.{HasShape, GeneratesKernel, InImage, matrix_column}
use Rattle.fm_algebra.proofs.Tables.{length-listed, get_or-listed}
use Rattle.fm_limit.specs.ResolvedIdeal.{matrix_at, rank, row, InIdeal, IsResolutionOf}
use Rattle.fm_poly.specs.Polys.{PolyValue, meaning}
use Rattle.fm_poly.specs.declared.ring.Ring.{Ring}
use Rattle.fm_graphs.specs.Graphs.{MatrixOf}
use Rattle.fm_report.specs.Parts.{Part, meant, part_value, part_values}
use Rattle.fm_report.specs.Sheets.{Block, numbered, add_differential}
use Rattle.fm_plan.proofs.Chains.{old_at, new_at}
use Rattle.fm_parts.specs.Shapes.{rows_of, columns_of, fits}
use Rattle.fm_parts.proofs.Shapes.{part_shape}
use Rattle.fm_judge.specs.Goals.{Goal, told_rank}
use Rattle.fm_judge.specs.Claims.{row_part}
use Rattle.fm_judge.proofs.Goods.{AreGood, good_append, value_at, values_append, renamed, columns_are}

-- the number that the answer tells, if it tells one
abbrev pub Told : Option ℕ → ℕ → Type 0
Told None n = Unit {0}
Told (Some k) n = k ≡ n

-- the row of polynomials, as the tables have it
pub row_means : (r : Ring) (fs : List PolyValue) → part_value r (row_part fs) ≡ row r.prime r.vars (meant r fs)
unfolding part_value row matrix_column column_matrix
row_means r fs = ap (λ k. Rattle.fm_algebra.specs.PolynomialMatrices.matrix_transpose r.prime r.vars (record { rows = k; columns = meant r fs ∷ [] })) (sym (length-map fs (λ (f : PolyValue). meaning r f.terms)))

module _ (r : Ring) (g : Goal) where
  abbrev pub Ds : Block → List (MatrixOf r)
  Ds b = part_values r b.differentials

  -- d_1 .. d_j are named, and nothing after them
  pub record Naming (j : ℕ) (b : Block) : Type 0 where
    pub count : length b.differentials ≡ j
    pub good : AreGood b.differentials
    pub first : 0 < j → matrix_at r.prime r.vars (Ds b) 0 ≡ row r.prime r.vars (meant r g.generators)
    pub fits : (k : ℕ) → k < j → HasShape r.prime r.vars (rank r.prime r.vars (Ds b) k) (rank r.prime r.vars (Ds b) (suc k)) (matrix_at r.prime r.vars (Ds b) k)
    pub told : (k : ℕ) → 0 < j → k ≤ j → Told (told_rank g.aim k) (rank r.prime r.vars (Ds b) k)
    pub no_lift : b.lift ≡ []
    pub no_cocycles : b.cocycles ≡ []
    pub no_kernels : b.kernels ≡ []
    pub no_morphism : b.morphism ≡ []

  module _ (j : ℕ) (b : Block) (N : Naming j b) (P : Part) (good : fits P ≡ true) where
    abbrev after : Block
    after = add_differential b P

    abbrev old : List (MatrixOf r)
    old = Ds b

    count_values : length old ≡ j
    count_values = length-map b.differentials (part_value r) ∙ N.count

    at_old : (k : ℕ) → k < j → matrix_at r.prime r.vars (Ds after) k ≡ matrix_at r.prime r.vars old k
    at_old k h = ap (λ xs. matrix_at r.prime r.vars xs k) (values_append r b.differentials P) ∙ old_at r.prime r.vars old (part_value r P) k (let c = count_values in omega (arith, c, h))

    at_new : matrix_at r.prime r.vars (Ds after) j ≡ part_value r P
    at_new = ap (λ xs. matrix_at r.prime r.vars xs j) (values_append r b.differentials P) ∙ new_at r.prime r.vars old (part_value r P) j (sym count_values)

    pub rank_old : (k : ℕ) → k ≤ j → rank r.prime r.vars (Ds after) k ≡ rank r.prime r.vars old k
    rank_old zero h = refl
    rank_old (suc k) h = ap (λ (A : MatrixOf r). length A.columns) (at_old k (omega (arith, h)))

    rank_new : rank r.prime r.vars (Ds after) (suc j) ≡ columns_of P
    rank_new = ap (λ (A : MatrixOf r). length A.columns) at_new ∙ sym (columns_are r P good)

    new_fits : rows_of P ≡ rank r.prime r.vars old j → HasShape r.prime r.vars (rank r.prime r.vars (Ds after) j) (rank r.prime r.vars (Ds after) (suc j)) (matrix_at r.prime r.vars (Ds after) j)
    new_fits h = subst (HasShape r.prime r.vars (rank r.prime r.vars (Ds after) j) (rank r.prime r.vars (Ds after) (suc j))) (sym at_new)
        (renamed r (part_value r P) (h ∙ sym (rank_old j (omega arith))) (sym rank_new) (part_shape r P good))

    -- one more
    pub named_more : rows_of P ≡ rank r.prime r.vars old j → (j ≡ 0 → part_value r P ≡ row r.prime r.vars (meant r g.generators)) → (j ≡ 0 → Told (told_rank g.aim 0) 1) → Told (told_rank g.aim (suc j)) (columns_of P) → Naming (suc j) after
    named_more rows is_row told_zero told_new = record {
      count = length-append b.differentials (P ∷ []) ∙ (let c = N.count in omega (arith, c));
      good = good_append b.differentials P N.good good;
      first = λ h. elim (dec_lt 0 j) [
        | yes l ↦ at_old 0 l ∙ N.first l
        | no w ↦ let z : j ≡ 0 = omega (arith, w) in ap (matrix_at r.prime r.vars (Ds after)) (sym z) ∙ at_new ∙ is_row z
      ];
      fits = λ k h. elim (dec_lt k j) [
        | yes l ↦ subst (HasShape r.prime r.vars (rank r.prime r.vars (Ds after) k) (rank r.prime r.vars (Ds after) (suc k))) (sym (at_old k l))
            (subst₂ (λ x y. HasShape r.prime r.vars x y (matrix_at r.prime r.vars old k)) (sym (rank_old k (omega (arith, l)))) (sym (rank_old (suc k) (omega (arith, l)))) (N.fits k l))
        | no w ↦ let e : j ≡ k = omega (arith, w, h) in subst (λ x. HasShape r.prime r.vars (rank r.prime r.vars (Ds after) x) (rank r.prime r.vars (Ds after) (suc x)) (matrix_at r.prime r.vars (Ds after) x)) e (new_fits rows)
      ];
      told = λ k h l. elim (dec_lt j k) [
        | yes w ↦ let e : suc j ≡ k = omega (arith, w, l) in subst (λ x. Told (told_rank g.aim x) (rank r.prime r.vars (Ds after) x)) e (subst (Told (told_rank g.aim (suc j))) (sym rank_new) told_new)
        | no w ↦ subst (Told (told_rank g.aim k)) (sym (rank_old k (omega (arith, w)))) (told_old k (omega (arith, w)))
      ];
      no_lift = N.no_lift;
      no_cocycles = N.no_cocycles;
      no_kernels = N.no_kernels;
      no_morphism = N.no_morphism;
    }
      where
        told_old : (k : ℕ) → k ≤ j → Told (told_rank g.aim k) (rank r.prime r.vars old k)
        told_old zero l = elim (dec_lt 0 j) [
          | yes w ↦ N.told 0 w l
          | no w ↦ told_zero (omega (arith, w))
        ]
        told_old (suc k) l = N.told (suc k) (omega (arith, l)) l

  -- exactness at P_1 .. P_j
  pub record Exact (j : ℕ) (b : Block) : Type 0 where
    pub named : Naming (suc g.degree) b
    pub exact : (k : ℕ) → k < j → GeneratesKernel r.prime r.vars (matrix_at r.prime r.vars (Ds b) (suc k)) (matrix_at r.prime r.vars (Ds b) k)

  pub exact_more : (j : ℕ) (b : Block) → Exact j b → (d next : Part) → numbered b.differentials (suc j) ≡ Some d → numbered b.differentials (suc (suc j)) ≡ Some next
      → GeneratesKernel r.prime r.vars (part_value r next) (part_value r d) → Exact (suc j) b
  exact_more j b E d next i i' h = record {
    named = E.named;
    exact = λ k l. elim (dec_lt k j) [
      | yes w ↦ E.exact k w
      | no w ↦ let e : j ≡ k = omega (arith, w, l) in subst (λ x. GeneratesKernel r.prime r.vars (matrix_at r.prime r.vars (Ds b) (suc x)) (matrix_at r.prime r.vars (Ds b) x)) e
          (subst₂ (GeneratesKernel r.prime r.vars) (sym (value_at r b.differentials (suc j) next i').1) (sym (value_at r b.differentials j d i).1) h)
    ];
  }

  pub resolution_is : (b : Block) → Exact g.degree b → IsResolutionOf r.prime r.vars (meant r g.generators) g.degree (Ds b)
  unfolding InIdeal
  resolution_is b E = record {
    count = length-map b.differentials (part_value r) ∙ E.named.count ∙ omega arith;
    fits = λ j l. E.named.fits j (let c = length-map b.differentials (part_value r) in let e = E.named.count in omega (arith, c, e, l));
    first = λ f. let e = E.named.first (omega arith) in
        (λ x. subst (λ A. InImage r.prime r.vars A (f ∷ [])) e x, λ x. subst (λ A. InImage r.prime r.vars A (f ∷ [])) (sym e) x);
    exact = E.exact;
  }

  -- the ranks are those of the answer
  slice_some : (xs : List ℕ) (j : ℕ) → j < length xs → slice_get xs j ≡ Some (get_or xs j 0)
  slice_some [] j l = absurd (omega (arith, l))
  slice_some (x ∷ xs) zero l = refl
  slice_some (x ∷ xs) (suc j) l = slice_some xs j (omega (arith, l))

  pub ranks_are : (b : Block) → Exact g.degree b → (ranks : List ℕ) → ((k : ℕ) → told_rank g.aim k ≡ slice_get ranks k) → length ranks ≡ g.degree + 2 → ranks ≡ listed (g.degree + 2) (rank r.prime r.vars (Ds b))
  ranks_are b E ranks tells long = ext_get_or 0 ranks (listed (g.degree + 2) (rank r.prime r.vars (Ds b))) (long ∙ sym (length-listed (g.degree + 2) (rank r.prime r.vars (Ds b))))
      (λ j l. subst (λ x. Told x (rank r.prime r.vars (Ds b) j)) (tells j ∙ slice_some ranks j l) (E.named.told j (omega arith) (omega (arith, long, l)))
      ∙ sym (get_or-listed (g.degree + 2) j 0 (rank r.prime r.vars (Ds b)) (subst (λ x. j < x) long l)))
