-- The lines `theta` give a Frobenius lift, and `cocycles`, `relations` and `morphism` present Ext.
use Rattle.std.proofs.Common.{◌≡◌, ℕ, zero, suc, true, List, [], ◌∷◌, ◌++◌, length, Some, refl, sym, ap, ap₂, ◌∙◌, subst, arith}
use Rattle.std.proofs.lemmas.List.{length-append}
use Rattle.fm_algebra.specs.PolynomialMatrices.{GeneratesKernel, GeneratesPreimage, matrix_product, matrix_transpose, matrix_twist, matrix_unit, matrix_zero}
use Rattle.fm_limit.specs.ResolvedIdeal.{ResolvedIdeal, matrix_at, rank, columns_of as columns_at, differential, IsResolutionOf, IsFrobeniusLiftOf, IsResolved}
use Rattle.fm_limit.specs.Facts.{PresentsExt}
use Rattle.fm_poly.specs.declared.ring.Ring.{Ring}
use Rattle.fm_graphs.specs.Graphs.{MatrixOf}
use Rattle.fm_report.specs.Parts.{Part, flip, twist, times, meant, part_value, part_values}
use Rattle.fm_report.specs.Sheets.{Block, numbered, add_lift, add_cocycles, add_kernel, add_morphism}
use Rattle.fm_answers.proofs.PrintedMatrices.{matrix_means}
use Rattle.fm_limit.proofs.MatrixWords.{shape_rows}
use Rattle.fm_plan.proofs.Lifting as lifts
use Rattle.fm_parts.specs.Shapes.{rows_of, columns_of, fits}
use Rattle.fm_parts.specs.Conditions.{equal}
use Rattle.fm_parts.specs.Meanings.{Says}
use Rattle.fm_parts.proofs.Shapes.{factors, part_shape}
use Rattle.fm_judge.specs.Goals.{Goal, told_generators, told_relations}
use Rattle.fm_judge.specs.Claims.{unit_part, codifferential}
use Rattle.fm_judge.proofs.Options.{same_some, mapped}
use Rattle.fm_judge.proofs.Goods.{AreGood, good_append, good_at, value_at, values_append, renamed, rows_are, columns_are}
use Rattle.fm_judge.proofs.Resolving.{Told, Ds, Exact, resolution_is}

pub empty : {A : Type 0} (xs : List A) → length xs ≡ 0 → xs ≡ []
empty [] e = refl
empty (x ∷ xs) e = absurd (omega (arith, e))

module _ (r : Ring) (g : Goal) where
  abbrev pub Ts : Block → List (MatrixOf r)
  Ts b = part_values r b.lift

  abbrev pub ideal_of : Block → ResolvedIdeal r.prime r.vars
  ideal_of b = record { generators = meant r g.generators; differentials = Ds r g b; lift = Ts b }

  -- the resolution stands
  pub record Standing (b : Block) : Type 0 where
    pub resolution : IsResolutionOf r.prime r.vars (meant r g.generators) g.degree (Ds r g b)
    pub good : AreGood b.differentials

  -- theta_0 .. theta_(j-1) are named, and nothing after them
  pub record Lifting (j : ℕ) (b : Block) : Type 0 where
    pub standing : Standing b
    pub count : length b.lift ≡ j
    pub good : AreGood b.lift
    pub lifted : (k : ℕ) → j ≡ suc k → IsFrobeniusLiftOf r.prime r.vars k (Ds r g b) (Ts b)
    pub no_cocycles : b.cocycles ≡ []
    pub no_kernels : b.kernels ≡ []
    pub no_morphism : b.morphism ≡ []

  -- nothing of the lift yet
  pub lifting_begins : (b : Block) → Exact r g g.degree b → Lifting 0 b
  lifting_begins b E = record {
    standing = record { resolution = resolution_is r g b E; good = E.named.good };
    count = ap length E.named.no_lift;
    good = subst AreGood (sym E.named.no_lift) tt;
    lifted = λ k e. absurd (omega (arith, e));
    no_cocycles = E.named.no_cocycles;
    no_kernels = E.named.no_kernels;
    no_morphism = E.named.no_morphism;
  }

  lift_more : (j : ℕ) (b : Block) → Lifting j b → (P : Part) → fits P ≡ true → IsFrobeniusLiftOf r.prime r.vars j (Ds r g b) (Ts b ++ part_value r P ∷ []) → Lifting (suc j) (add_lift b P)
  lift_more j b L P f is = record {
    standing = record { resolution = L.standing.resolution; good = L.standing.good };
    count = length-append b.lift (P ∷ []) ∙ (let c = L.count in omega (arith, c));
    good = good_append b.lift P L.good f;
    lifted = λ k e. let q : j ≡ k = omega (arith, e) in subst (λ x. IsFrobeniusLiftOf r.prime r.vars x (Ds r g b) (Ts (add_lift b P))) q
        (subst (IsFrobeniusLiftOf r.prime r.vars j (Ds r g b)) (sym (values_append r b.lift P)) is);
    no_cocycles = L.no_cocycles;
    no_kernels = L.no_kernels;
    no_morphism = L.no_morphism;
  }

  -- theta_0
  pub first_lift : (b : Block) → Lifting 0 b → (P : Part) → Says r (equal P (unit_part r 1)) → Lifting 1 (add_lift b P)
  first_lift b L P h = lift_more 0 b L P h.0
      (subst (λ xs. IsFrobeniusLiftOf r.prime r.vars 0 (Ds r g b) (xs ++ part_value r P ∷ [])) (sym (ap (part_values r) (empty b.lift L.count)))
      (subst (λ A. IsFrobeniusLiftOf r.prime r.vars 0 (Ds r g b) (A ∷ [])) (sym (h.4 ∙ matrix_means r (matrix_unit r.prime r.vars 1))) (lifts.no_lift r.prime r.vars L.standing.resolution)))

  -- theta_(j+1)
  pub next_lift : (j : ℕ) (b : Block) → Lifting (suc j) b → (P d theta : Part) → fits P ≡ true → numbered b.differentials (suc j) ≡ Some d → numbered b.lift (suc j) ≡ Some theta
      → Says r (equal (times d P) (times theta (twist d 1))) → Lifting (suc (suc j)) (add_lift b P)
  unfolding part_value
  next_lift j b L P d theta f i i' h =
      let dv = (value_at r b.differentials j d i).1 in
      let tv = (value_at r b.lift j theta i').1 in
      let fd = good_at b.differentials (suc j) d L.standing.good i in
      let wide : columns_of d ≡ columns_at r.prime r.vars (Ds r g b) j = columns_are r d fd ∙ ap (λ (A : MatrixOf r). length A.columns) (sym dv) in
      let inner : columns_of d ≡ rows_of P = (factors d P h.0).2 in
      let outer : columns_of P ≡ columns_of d = h.3 in
      lift_more (suc j) b L P f (lifts.longer r.prime r.vars L.standing.resolution j (Ts b) (part_value r P) (L.lifted j refl)
      (renamed r (part_value r P) (sym inner ∙ wide) (outer ∙ wide) (part_shape r P f))
      (ap (λ A. matrix_product r.prime r.vars A (part_value r P)) dv ∙ h.4 ∙ ap₂ (λ A B. matrix_product r.prime r.vars A (matrix_twist r.prime r.vars 1 B)) (sym tv) (sym dv)))

  -- ---- Z, N and U
  pub record Resolved (b : Block) : Type 0 where
    pub resolved : IsResolved r.prime r.vars g.degree (ideal_of b)
    pub good : AreGood b.differentials
    pub good_lift : AreGood b.lift

  pub lifted_all : (b : Block) → Lifting (suc g.degree) b → Resolved b
  lifted_all b L = record { resolved = record { resolution = L.standing.resolution; frobenius = L.lifted g.degree refl }; good = L.standing.good; good_lift = L.good }

  abbrev d_of : Block → MatrixOf r
  d_of b = matrix_at r.prime r.vars (Ds r g b) g.degree

  abbrev below : Block → MatrixOf r
  below b = differential r.prime r.vars (Ds r g b) g.degree

  abbrev mid : Block → ℕ
  mid b = rank r.prime r.vars (Ds r g b) g.degree

  -- before `cocycles`
  pub record BeforeCocycles (b : Block) : Type 0 where
    pub base : Resolved b
    pub no_cocycles : b.cocycles ≡ []
    pub no_kernels : b.kernels ≡ []
    pub no_morphism : b.morphism ≡ []

  pub lifted_through : (b : Block) → Lifting (suc g.degree) b → BeforeCocycles b
  lifted_through b L = record { base = lifted_all b L; no_cocycles = L.no_cocycles; no_kernels = L.no_kernels; no_morphism = L.no_morphism }

  pub record WithCocycles (b : Block) : Type 0 where
    pub base : Resolved b
    pub Z : Part
    pub is : b.cocycles ≡ Z ∷ []
    pub good : fits Z ≡ true
    pub rows : rows_of Z ≡ mid b
    pub generates : GeneratesKernel r.prime r.vars (part_value r Z) (matrix_transpose r.prime r.vars (d_of b))
    pub told : Told (told_generators g.aim) (columns_of Z)

  pub record BeforeRelations (b : Block) : Type 0 where
    pub cocycles : WithCocycles b
    pub no_kernels : b.kernels ≡ []
    pub no_morphism : b.morphism ≡ []

  pub cocycles_named : (b : Block) → BeforeCocycles b → (Z d : Part) → fits Z ≡ true → numbered b.differentials (suc g.degree) ≡ Some d → rows_of Z ≡ columns_of (flip d)
      → GeneratesKernel r.prime r.vars (part_value r Z) (part_value r (flip d)) → Told (told_generators g.aim) (columns_of Z) → BeforeRelations (add_cocycles b Z)
  unfolding part_value
  cocycles_named b B Z d f i rows h told =
      let dv = (value_at r b.differentials g.degree d i).1 in
      let fd = good_at b.differentials (suc g.degree) d B.base.good i in
      let shape = B.base.resolved.resolution.fits g.degree (let c = B.base.resolved.resolution.count in omega (arith, c)) in
      let high : rows_of d ≡ mid b = rows_are r d fd ∙ ap (λ (A : MatrixOf r). A.rows) (sym dv) ∙ shape_rows r.prime r.vars (mid b) (rank r.prime r.vars (Ds r g b) (suc g.degree)) (d_of b) shape in
      record {
        cocycles = record {
          base = record { resolved = B.base.resolved; good = B.base.good; good_lift = B.base.good_lift };
          Z = Z;
          is = ap (λ xs. xs ++ Z ∷ []) B.no_cocycles;
          good = f;
          rows = rows ∙ high;
          generates = subst (λ A. GeneratesKernel r.prime r.vars (part_value r Z) (matrix_transpose r.prime r.vars A)) (sym dv) h;
          told = told;
        };
        no_kernels = B.no_kernels;
        no_morphism = B.no_morphism;
      }

  pub record WithRelations (b : Block) : Type 0 where
    pub cocycles : WithCocycles b
    pub N : Part
    pub is : b.kernels ≡ N ∷ []
    pub good : fits N ≡ true
    pub rows : rows_of N ≡ columns_of cocycles.Z
    pub generates : GeneratesPreimage r.prime r.vars (part_value r N) (part_value r cocycles.Z) (matrix_transpose r.prime r.vars (below b))
    pub told : Told (told_relations g.aim) (columns_of N)

  pub record BeforeMorphism (b : Block) : Type 0 where
    pub relations : WithRelations b
    pub no_morphism : b.morphism ≡ []

  -- d_i as a map to cochains
  codifferential_is : (ds : List Part) (i : ℕ) (d : Part) → codifferential r ds i ≡ Some d → part_value r d ≡ matrix_transpose r.prime r.vars (differential r.prime r.vars (part_values r ds) i)
  unfolding part_value differential
  codifferential_is ds zero d e = ap (part_value r) (sym (same_some e)) ∙ matrix_means r (matrix_transpose r.prime r.vars (matrix_zero r.prime r.vars 0 1))
  codifferential_is ds (suc i) d e = let m = mapped flip (numbered ds (suc i)) d e in
      ap (part_value r) (sym m.2) ∙ ap (matrix_transpose r.prime r.vars) (sym (value_at r ds i m.0 m.1).1)

  pub relations_named : (b : Block) → (B : BeforeRelations b) → (N d : Part) → fits N ≡ true → codifferential r b.differentials g.degree ≡ Some d → rows_of N ≡ columns_of B.cocycles.Z
      → GeneratesPreimage r.prime r.vars (part_value r N) (part_value r B.cocycles.Z) (part_value r d) → Told (told_relations g.aim) (columns_of N) → BeforeMorphism (add_kernel b N)
  relations_named b B N d f i rows h told = record {
    relations = record {
      cocycles = record {
        base = record { resolved = B.cocycles.base.resolved; good = B.cocycles.base.good; good_lift = B.cocycles.base.good_lift };
        Z = B.cocycles.Z;
        is = B.cocycles.is;
        good = B.cocycles.good;
        rows = B.cocycles.rows;
        generates = B.cocycles.generates;
        told = B.cocycles.told;
      };
      N = N;
      is = ap (λ xs. xs ++ N ∷ []) B.no_kernels;
      good = f;
      rows = rows;
      generates = subst (GeneratesPreimage r.prime r.vars (part_value r N) (part_value r B.cocycles.Z)) (codifferential_is b.differentials g.degree d i) h;
      told = told;
    };
    no_morphism = B.no_morphism;
  }

  -- Ext is presented
  pub record Presented (b : Block) : Type 0 where
    pub relations : WithRelations b
    pub U : Part
    pub is : b.morphism ≡ U ∷ []
    pub good : fits U ≡ true
    pub rows : rows_of U ≡ columns_of relations.cocycles.Z
    pub columns : columns_of U ≡ columns_of relations.cocycles.Z
    pub presents : PresentsExt r.prime r.vars g.degree (ideal_of b) (part_value r relations.cocycles.Z) (part_value r relations.N) (part_value r U)

  pub morphism_named : (b : Block) → (B : BeforeMorphism b) → (U theta : Part) → fits U ≡ true → numbered b.lift (suc g.degree) ≡ Some theta
      → Says r (equal (times (flip theta) B.relations.cocycles.Z) (times (twist B.relations.cocycles.Z 1) U)) → Presented (add_morphism b U)
  unfolding part_value
  morphism_named b B U theta f i h =
      let R = B.relations in
      let C = R.cocycles in
      let Z = C.Z in
      let tv = (value_at r b.lift g.degree theta i).1 in
      let rows : rows_of U ≡ columns_of Z = sym (factors (twist Z 1) U h.1).2 in
      let columns : columns_of U ≡ columns_of Z = sym h.3 in
      let wide : columns_of Z ≡ length (part_value r Z).columns = columns_are r Z C.good in
      record {
        relations = record {
          cocycles = record {
            base = record { resolved = C.base.resolved; good = C.base.good; good_lift = C.base.good_lift };
            Z = Z;
            is = C.is;
            good = C.good;
            rows = C.rows;
            generates = C.generates;
            told = C.told;
          };
          N = R.N;
          is = R.is;
          good = R.good;
          rows = R.rows;
          generates = R.generates;
          told = R.told;
        };
        U = U;
        is = ap (λ xs. xs ++ U ∷ []) B.no_morphism;
        good = f;
        rows = rows;
        columns = columns;
        presents = record {
          cocycles_fit = renamed r (part_value r Z) C.rows wide (part_shape r Z C.good);
          relations_fit = renamed r (part_value r R.N) (R.rows ∙ wide) (columns_are r R.N R.good) (part_shape r R.N R.good);
          morphism_fits = renamed r (part_value r U) (rows ∙ wide) (columns ∙ wide) (part_shape r U f);
          cocycles = C.generates;
          relations = R.generates;
          morphism = ap (λ A. matrix_product r.prime r.vars (matrix_transpose r.prime r.vars A) (part_value r Z)) tv ∙ h.4;
        };
      }
