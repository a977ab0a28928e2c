-- The tasks `contained`, `lambda` and `phi` of an inclusion of ideals: a lift of the identity, and its matrix in coordinates.
use Rattle.std.proofs.Common.{ℕ, zero, suc, ◌+◌, ◌<◌, ◌≤◌, ◌≡◌, ◌↔◌, if◌then◌else◌, Bool, true, false, inl, inr, Option, Some, None, List, [], ◌∷◌, ◌++◌, map, length, take, get_or, refl, sym, ap, ◌∙◌, subst, subst₂, append_assoc, arith}
use Rattle.std.proofs.lemmas.List.{length-append, length-map, get_or-map}
use native.Mathlib.Decide.{dec_lt}
use Rattle.fm_gfp.specs.declared.prime.Prime.{Prime}
use Rattle.fm_algebra.specs.Matrix.{entry, component}
use Rattle.fm_algebra.specs.Families.{read, flip as family_flip}
use Rattle.fm_algebra.specs.Image.{InImage as InFamilyImage}
use Rattle.fm_algebra.proofs.Tables.{matrix_ext}
use Rattle.fm_algebra.specs.Polynomials.{Polynomial, polynomials}
use Rattle.fm_algebra.specs.PolynomialMatrices.{HasShape, InImage, GeneratesKernel, matrix_product, matrix_unit}
use Rattle.fm_limit.specs.ResolvedIdeal.{matrix_at, columns_of, rank, row, IsResolutionOf, IsLiftOfIdentityOf}
use Rattle.fm_limit.specs.Facts.{ColumnsInImage}
use Rattle.fm_limit.specs.Classes.{matrices}
use Rattle.fm_limit.proofs.NextMatrices.{inside, product_fits_at, identity_exists, phi_exists}
use Rattle.fm_limit.proofs.MatrixWords.{row_fits, row_read, product_fits, transpose_fits, unit_fits, columns_from, shape_rows, shape_columns}
use Rattle.fm_groebner.proofs.Setting.{In}
use Rattle.fm_groebner.proofs.Numbers.{in_of_map}
use Rattle.fm_poly.specs.declared.ring.Ring.{Ring}
use Rattle.fm_complete.specs.Reductions.{Reduced, divided}
use Rattle.fm_run.specs.Runs.{ready, ◌>>=◌}
use Rattle.fm_graphs.specs.Listing.{VectorOf, terms_of}
use Rattle.fm_complete.specs.Completions.{Completion, completed}
use Rattle.fm_graphs.specs.Graphs.{MatrixOf, Graph, width, lifted}
use Rattle.fm_graphs.specs.Bounds.{multiplied}
use Rattle.fm_graphs.specs.Trims.{is_zero}
use Rattle.fm_run.proofs.Ends.{Ends, same_value, bound, bounded_value}
use Rattle.fm_complete.proofs.PendingPairs.{in_cases}
use Rattle.fm_graphs.proofs.Columns.{AllLong, column_length, shape_of, Spanned, solutions_shaped, solutions_product}
use Rattle.fm_graphs.specs.Graphs.{IsCompletedGraph}
use Rattle.fm_graphs.proofs.Graphs.{Basis, completed_columns}
use Rattle.fm_graphs.proofs.Lifts.{lifted_solves}
use Rattle.fm_graphs.proofs.Trims.{basis_decides}
use Rattle.fm_run.specs.declared.task.Side.TheVariants.{Alone}
use Rattle.fm_plan.specs.Tasks.{task}
use Rattle.fm_plan.specs.Results.{Ideal}
use Rattle.fm_plan.specs.Base.{flip}
use Rattle.fm_plan.specs.Queries.{contained_from, contained_work, over_identity}
use Rattle.fm_plan.proofs.Tasks.{task_ends, columns_in, in_columns}
use Rattle.fm_plan.proofs.Lifting.{GraphsFrom}
use Rattle.fm_plan.proofs.Chains.{old_at, new_at}
use Rattle.fm_run.specs.declared.task.Name.TheVariants as names

-- ---- containment
module _ (r : Ring) where
  abbrev p : Prime
  p = r.prime

  abbrev n : ℕ
  n = r.vars

  abbrev entries : Ideal r → List (VectorOf r)
  entries fs = map (λ (f : Polynomial p n). f ∷ []) fs

  entries_long : (fs : Ideal r) → AllLong p n 1 (entries fs)
  entries_long fs v i = ap length (sym (in_of_map (λ (f : Polynomial p n). f ∷ []) fs i).2)

  row_is : (fs : Ideal r) → row p n fs ≡ record { rows = 1; columns = entries fs }
  unfolding HasShape component entry family_flip
  row_is fs = matrix_ext (polynomials p n) 1 (length fs) (row p n fs) (record { rows = 1; columns = entries fs }) (row_fits p n fs)
      (subst (λ k. HasShape p n 1 k (record { rows = 1; columns = entries fs })) (length-map fs (λ (f : Polynomial p n). f ∷ [])) (shape_of p n 1 (entries fs) (entries_long fs)))
      (λ i j h l. ap (λ X. X i h j l) (row_read p n fs) ∙ sym (ap (λ v. get_or v i (polynomials p n).zero) (get_or-map (λ (f : Polynomial p n). f ∷ []) fs j (polynomials p n).zero [] l) ∙ first i (get_or fs j (polynomials p n).zero) h))
    where
      first : (i : ℕ) (f : Polynomial p n) → i < 1 → get_or (f ∷ []) i (polynomials p n).zero ≡ f
      first zero f h = refl
      first (suc i) f h = absurd (omega arith)

  some_none : (k : ℕ) → ◌≡◌ {A = Option ℕ} (Some k) None → ⊥
  some_none k e = cc

  -- each generator of the target lies in the span of those of the source
  module _ (fs : Ideal r) (c : Completion) (B : Basis r 1 (entries fs) c) where
    none_outside : (k : ℕ) (gs : Ideal r) (units left : ℕ) → Ends (contained_from r c.members k gs units) None left → (g : Polynomial p n) → In gs g → Spanned p n 1 (entries fs) (g ∷ [])
    none_outside k [] units left ends g i = elim i [ ]
    none_outside k (h ∷ gs) units left ends g i =
        let after = λ (x : Reduced). if is_zero x.rest then contained_from r c.members (suc k) gs else ready (Some k) in
        let b = bound (λ units. divided r c.members units (terms_of r (h ∷ []))) after units left None ends in
        let d = basis_decides r 1 (entries fs) c B (h ∷ []) refl units b.between b.value b.first in
        go (is_zero b.value.rest) d b.between b.second (λ units left e g j. none_outside (suc k) gs units left e g j)
      where
        go : (z : Bool) → Spanned p n 1 (entries fs) (h ∷ []) ↔ (z ≡ true) → (u : ℕ) → Ends ((if z then contained_from r c.members (suc k) gs else ready (Some k)) u) None left
            → ((units left : ℕ) → Ends (contained_from r c.members (suc k) gs units) None left → (g : Polynomial p n) → In gs g → Spanned p n 1 (entries fs) (g ∷ [])) → Spanned p n 1 (entries fs) (g ∷ [])
        go true d u e later = elim (in_cases h gs g i) [ inl s ↦ subst (λ x. Spanned p n 1 (entries fs) (x ∷ [])) (sym s) (d.1 refl) | inr j ↦ later u left e g j ]
        go false d u e later = absurd (some_none k (same_value (Some k) None u left e))

  pub contained_is : (fs gs : Ideal r) (units left : ℕ) → Ends (contained_work r fs gs units) None left → ColumnsInImage p n (row p n fs) (row p n gs)
  unfolding contained_work
  contained_is fs gs units left ends =
      let inputs = map (λ (f : Polynomial p n). terms_of r (f ∷ [])) fs in
      let b = bound (completed r inputs) (λ c. contained_from r c.members 1 gs) units left None ends in
      let B = completed_columns r 1 (entries fs) (entries_long fs) units b.between b.value (subst (λ xs. Ends (completed r xs units) b.value b.between) (sym (map_map fs)) b.first) in
      columns_in r (row p n fs) (row p n gs) (λ v i.
      let x = in_of_map (λ (f : Polynomial p n). f ∷ []) gs (subst (λ (A : MatrixOf r). In A.columns v) (row_is gs) i) in
      subst₂ (λ A w. InImage p n A w) (sym (row_is fs)) x.2 (none_outside fs b.value B 1 gs b.between left b.second x.0 x.1))
    where
      map_map : (hs : Ideal r) → map (terms_of r) (entries hs) ≡ map (λ (f : Polynomial p n). terms_of r (f ∷ [])) hs
      map_map [] = refl
      map_map (h ∷ hs) = ap (λ xs. terms_of r (h ∷ []) ∷ xs) (map_map hs)

  -- ---- lifts of the identity, from the target's resolution ds to the source's us
  module _ {fs gs : Ideal r} {i : ℕ} {ds us : List (MatrixOf r)} (D : IsResolutionOf p n gs i ds) (S : IsResolutionOf p n fs i us) (contained : ColumnsInImage p n (row p n fs) (row p n gs)) where
    contained_read : InFamilyImage (matrices p n) (read (polynomials p n) 1 (length fs) (row p n fs)) (read (polynomials p n) 1 (length gs) (row p n gs))
    contained_read = (columns_from p n 1 (length fs) (length gs) (row p n fs) (row p n gs) (row_fits p n fs) (row_fits p n gs)).0 contained

    longer : (j : ℕ) (ls : List (MatrixOf r)) (t : MatrixOf r) → IsLiftOfIdentityOf p n j ds us ls → HasShape p n (columns_of p n us j) (columns_of p n ds j) t
        → matrix_product p n (matrix_at p n us j) t ≡ matrix_product p n (matrix_at p n ls j) (matrix_at p n ds j) → IsLiftOfIdentityOf p n (suc j) ds us (ls ++ t ∷ [])
    longer j ls t f s e = record {
      count = length-append ls (t ∷ []) ∙ ap (λ k. k + 1) f.count ∙ omega arith;
      fits = λ k h. elim (dec_lt k (suc j)) [
        | yes l ↦ let b : k < length ls = (let c = f.count in omega (arith, c, l)) in subst (HasShape p n (rank p n us k) (rank p n ds k)) (sym (old_at p n ls t k b)) (f.fits k b)
        | no w ↦ let b : suc j ≡ k = (let c = f.count in let g = length-append ls (t ∷ []) in omega (arith, c, w, g, h)) in
            subst (λ x. HasShape p n (rank p n us x) (rank p n ds x) (matrix_at p n (ls ++ t ∷ []) x)) b (subst (HasShape p n (columns_of p n us j) (columns_of p n ds j)) (sym (new_at p n ls t (suc j) (let c = f.count in omega (arith, c)))) s)
      ];
      first = old_at p n ls t zero (let c = f.count in omega (arith, c)) ∙ f.first;
      square = λ k h. elim (dec_lt k j) [
        | yes l ↦
            let c = f.count in
            ap (matrix_product p n (matrix_at p n us k)) (old_at p n ls t (suc k) (omega (arith, c, l))) ∙ f.square k l ∙ ap (λ X. matrix_product p n X (matrix_at p n ds k)) (sym (old_at p n ls t k (omega (arith, c, l))))
        | no w ↦
            let c = f.count in
            let b : j ≡ k = omega (arith, w, h) in
            subst (λ x. matrix_product p n (matrix_at p n us x) (matrix_at p n (ls ++ t ∷ []) (suc x)) ≡ matrix_product p n (matrix_at p n (ls ++ t ∷ []) x) (matrix_at p n ds x)) b
            (ap (matrix_product p n (matrix_at p n us j)) (new_at p n ls t (suc j) (omega (arith, c))) ∙ e ∙ ap (λ X. matrix_product p n X (matrix_at p n ds j)) (sym (old_at p n ls t j (omega (arith, c)))))
      ];
    }

    -- one task
    work_is : (g : Graph r) → IsCompletedGraph r g → (j : ℕ) (ls : List (MatrixOf r)) → j < i → g.matrix ≡ matrix_at p n us j → IsLiftOfIdentityOf p n j ds us ls → (units left : ℕ) (t : MatrixOf r)
        → Ends ((multiplied p n (matrix_at p n ls j) (matrix_at p n ds j) >>= λ B. lifted r g B.columns) units) t left → IsLiftOfIdentityOf p n (suc j) ds us (ls ++ t ∷ [])
    unfolding multiplied
    work_is g G j ls h e f units left t ends =
        let B = matrix_product p n (matrix_at p n ls j) (matrix_at p n ds j) in
        let b = bound (multiplied p n (matrix_at p n ls j) (matrix_at p n ds j)) (λ B. lifted r g B.columns) units left t ends in
        let same : B ≡ b.value = bounded_value _ B b.value units b.between b.first in
        let low : j ≤ i = omega (arith, h) in
        let a = rank p n us j in
        let c = columns_of p n us j in
        let k = columns_of p n ds j in
        let b_shape = product_fits_at p n D S contained_read j ls low f in
        let d_shape = S.fits j (inside p n S j low) in
        let rows : a ≡ g.matrix.rows = sym (shape_rows p n a c (matrix_at p n us j) d_shape) ∙ ap (λ (M : MatrixOf r). M.rows) (sym e) in
        let long : AllLong p n g.matrix.rows B.columns = (λ v q. column_length p n a k B b_shape v q ∙ rows) in
        let s = lifted_solves r g G B.columns long (λ v q. subst (λ M. InImage p n M v) (sym e) (in_columns r (matrix_at p n us j) B (identity_exists p n D S contained_read j ls low f) v q)) b.between left t
        (subst (λ (M : MatrixOf r). Ends (lifted r g M.columns b.between) t left) (sym same) b.second) in
        let shape : HasShape p n (width r g) (length B.columns) t = subst (HasShape p n (width r g) (length B.columns)) (sym s.1) (solutions_shaped p n a g.matrix B.columns t.columns s.0) in
        let product : matrix_product p n g.matrix t ≡ record { rows = g.matrix.rows; columns = B.columns } = ap (matrix_product p n g.matrix) s.1 ∙ solutions_product p n g.matrix.rows g.matrix B.columns t.columns G.shape long s.0 in
        longer j ls t f (subst₂ (λ x y. HasShape p n x y t) (ap (λ (M : MatrixOf r). length M.columns) e) (shape_columns p n a k B b_shape) shape)
        (ap (λ M. matrix_product p n M t) (sym e) ∙ product ∙ (λ q. record { rows = (sym rows ∙ sym (shape_rows p n a k B b_shape)) q; columns = B.columns }))

    -- d_(j+1), d_(j+2), ..
    abbrev pub MatricesFrom : ℕ → List (MatrixOf r) → Type 0
    MatricesFrom j [] = Unit {0}
    MatricesFrom j (d ∷ dl) = (d ≡ matrix_at p n ds j) × MatricesFrom (suc j) dl

    pub identities_are : (j k : ℕ) (ls dl : List (MatrixOf r)) (gl : List (Graph r)) → MatricesFrom j dl → GraphsFrom r fs i us S j gl → length dl ≡ length gl → IsLiftOfIdentityOf p n j ds us ls → (lambda : MatrixOf r) → matrix_at p n ls j ≡ lambda
        → (units left : ℕ) (later : List (MatrixOf r)) → Ends (over_identity r k lambda dl gl units) later left → IsLiftOfIdentityOf p n (j + length dl) ds us (ls ++ later)
    identities_are j k ls [] gl M G q f lambda e units left later ends =
        subst₂ (λ x y. IsLiftOfIdentityOf p n x ds us y) (plain j) (sym (append_nil ls) ∙ ap (λ y. ls ++ y) (same_value [] later units left ends)) f
      where
        plain : (j : ℕ) → j ≡ j + 0
        plain j = omega arith

        append_nil : (xs : List (MatrixOf r)) → xs ++ [] ≡ xs
        append_nil [] = refl
        append_nil (x ∷ xs) = ap (λ ys. x ∷ ys) (append_nil xs)
    identities_are j k ls (d ∷ dl) [] M G q f lambda e units left later ends = absurd (omega arith)
    identities_are j k ls (d ∷ dl) (g ∷ gl) M G q f lambda e units left later ends =
        let work = λ (l m : MatrixOf r). multiplied p n l m >>= λ B. lifted r g B.columns in
        let b = bound (task Alone names.Lambda k (work lambda d)) (λ next. over_identity r (suc k) next dl gl >>= λ later. ready (next ∷ later)) units left later ends in
        let t = b.value in
        let F = work_is g G.0 j ls G.2 G.1 f units b.between t (subst₂ (λ l m. Ends (work l m units) t b.between) (sym e) M.0 (task_ends Alone names.Lambda k (work lambda d) units b.between t b.first)) in
        let c = bound (over_identity r (suc k) t dl gl) (λ later. ready (t ∷ later)) b.between left later b.second in
        let rest = identities_are (suc j) (suc k) (ls ++ t ∷ []) dl gl M.1 G.3 (omega arith) F t (new_at p n ls t (suc j) (let c = f.count in omega (arith, c))) b.between c.between c.value c.first in
        subst₂ (λ x y. IsLiftOfIdentityOf p n x ds us y) (moved j (length dl)) (append_assoc ls (t ∷ []) c.value ∙ ap (λ y. ls ++ y) (same_value (t ∷ c.value) later c.between left c.second)) rest
      where
        moved : (j l : ℕ) → suc j + l ≡ j + suc l
        moved j l = omega arith

    matrices_at : (k j : ℕ) (xs : List (MatrixOf r)) → ((l : ℕ) → matrix_at p n xs l ≡ matrix_at p n ds (j + l)) → k ≤ length xs → MatricesFrom j (take k xs) × (length (take k xs) ≡ k)
    unfolding matrix_at
    matrices_at zero j xs at h = (tt, refl)
    matrices_at (suc k) j [] at h = absurd (omega arith)
    matrices_at (suc k) j (x ∷ xs) at h =
        let later = matrices_at k (suc j) xs (λ l. at (suc l) ∙ ap (matrix_at p n ds) (moved j l)) (omega arith) in
        ((at 0 ∙ ap (matrix_at p n ds) (plain j), later.0), ap suc later.1)
      where
        plain : (j : ℕ) → j + 0 ≡ j
        plain j = omega arith

        moved : (j l : ℕ) → j + suc l ≡ suc j + l
        moved j l = omega arith

    no_identity : IsLiftOfIdentityOf p n 0 ds us (matrix_unit p n 1 ∷ [])
    unfolding matrix_at
    no_identity = record { count = refl; fits = fits; first = refl; square = λ k h. absurd (omega (arith, h)) }
      where
        fits : (k : ℕ) → k < 1 → HasShape p n (rank p n us k) (rank p n ds k) (matrix_at p n (matrix_unit p n 1 ∷ []) k)
        fits zero h = unit_fits p n 1
        fits (suc k) h = absurd (omega arith)

    pub identity_is : (gl : List (Graph r)) → GraphsFrom r fs i us S 0 gl → length gl ≡ i → (units left : ℕ) (later : List (MatrixOf r)) → Ends (over_identity r 1 (matrix_unit p n 1) (take i ds) gl units) later left
        → IsLiftOfIdentityOf p n i ds us (matrix_unit p n 1 ∷ later)
    unfolding matrix_at
    identity_is gl G q units left later ends =
        let unit = matrix_unit p n 1 in
        let M = matrices_at i 0 ds (λ l. ap (matrix_at p n ds) (plain l)) (let c = D.count in omega (arith, c)) in
        subst (λ k. IsLiftOfIdentityOf p n k ds us (unit ∷ later)) (zero_plus (length (take i ds)) ∙ M.1)
        (identities_are 0 1 (unit ∷ []) (take i ds) gl M.0 G (M.1 ∙ sym q) no_identity unit refl units left later ends)
      where
        plain : (l : ℕ) → l ≡ 0 + l
        plain l = omega arith

        zero_plus : (k : ℕ) → 0 + k ≡ k
        zero_plus k = omega arith

    -- ---- Phi
    module _ (ls : List (MatrixOf r)) (f : IsLiftOfIdentityOf p n i ds us ls) (gS gT : ℕ) (ZS ZT : MatrixOf r) (s_shape : HasShape p n (rank p n us i) gS ZS) (t_shape : HasShape p n (rank p n ds i) gT ZT)
        (kS : GeneratesKernel p n ZS (flip r (matrix_at p n us i))) (kT : GeneratesKernel p n ZT (flip r (matrix_at p n ds i))) (z : Graph r) (G : IsCompletedGraph r z) (is : z.matrix ≡ ZT) where
      abbrev mS : ℕ
      mS = rank p n us i

      abbrev mT : ℕ
      mT = rank p n ds i

      abbrev lambda : MatrixOf r
      lambda = matrix_at p n ls i

      lambda_shape : HasShape p n mS mT lambda
      lambda_shape = f.fits i (let c = f.count in omega (arith, c))

      abbrev B : MatrixOf r
      B = matrix_product p n (flip r lambda) ZS

      B_shape : HasShape p n mT gS B
      B_shape = product_fits p n mT mS gS (flip r lambda) ZS (transpose_fits p n mS mT lambda lambda_shape) s_shape

      inside_target : ColumnsInImage p n ZT B
      inside_target = phi_exists p n D S contained_read ls f gS gT ZS ZT s_shape t_shape kS kT

      pub phi_is : (units left : ℕ) (Phi : MatrixOf r) → Ends ((multiplied p n (flip r lambda) ZS >>= λ B. lifted r z B.columns) units) Phi left → HasShape p n gT gS Phi × (B ≡ matrix_product p n ZT Phi)
      unfolding multiplied
      phi_is units left Phi ends =
          let b = bound (multiplied p n (flip r lambda) ZS) (λ B. lifted r z B.columns) units left Phi ends in
          let same : B ≡ b.value = bounded_value _ B b.value units b.between b.first in
          let rows : mT ≡ z.matrix.rows = sym (ap (λ (A : MatrixOf r). A.rows) is ∙ shape_rows p n mT gT ZT t_shape) in
          let wide : width r z ≡ gT = ap (λ (A : MatrixOf r). length A.columns) is ∙ shape_columns p n mT gT ZT t_shape in
          let long : AllLong p n z.matrix.rows B.columns = (λ v k. column_length p n mT gS B B_shape v k ∙ rows) in
          let s = lifted_solves r z G B.columns long (λ v k. subst (λ A. InImage p n A v) (sym is) (in_columns r ZT B inside_target v k)) b.between left Phi
          (subst (λ (A : MatrixOf r). Ends (lifted r z A.columns b.between) Phi left) (sym same) b.second) in
          let shape : HasShape p n (width r z) (length B.columns) Phi = subst (HasShape p n (width r z) (length B.columns)) (sym s.1) (solutions_shaped p n mT z.matrix B.columns Phi.columns s.0) in
          let product : matrix_product p n z.matrix Phi ≡ record { rows = z.matrix.rows; columns = B.columns } = ap (matrix_product p n z.matrix) s.1 ∙ solutions_product p n z.matrix.rows z.matrix B.columns Phi.columns G.shape long s.0 in (
            subst₂ (λ a b. HasShape p n a b Phi) wide (shape_columns p n mT gS B B_shape) shape,
            sym (ap (λ A. matrix_product p n A Phi) (sym is) ∙ product ∙ (λ k. record { rows = (sym rows ∙ sym (shape_rows p n mT gS B B_shape)) k; columns = B.columns })),
          )
