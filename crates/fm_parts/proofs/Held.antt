-- Equations, kernels and preimages: conditions that hold are true of the matrices that the parts mean.
use Rattle.std.proofs.Common.{◌≡◌, ℕ, suc, ◌+◌, ◌-◌, ◌<◌, ◌≤◌, Bool, true, ◌&&◌, cond, ltb, nat_eq, List, [], ◌∷◌, map, length, get_or, take, Some, Ok, refl, sym, ap, ap₂, ◌∙◌, subst, arith}
use Rattle.std.proofs.lemmas.Bool.{and_parts, eqb-true, lt-ltb}
use Rattle.std.proofs.lemmas.List.{length-map, take_all, get_or-map}
use Rattle.fm_algebra.specs.Matrix.{entry, cols, stacked}
use Rattle.fm_algebra.specs.Polynomials.{Polynomial, polynomials}
use Rattle.fm_algebra.specs.PolynomialMatrices.{HasShape, matrix_product, matrix_above, matrix_beside, matrix_zero, GeneratesKernel, GeneratesPreimage}
use Rattle.fm_algebra.proofs.Tables.{matrix_ext, entry_table, stacked_shaped}
use Rattle.fm_limit.proofs.MatrixWords.{shape_rows, shape_columns}
use Rattle.fm_words.specs.Steps.{◌>>=◌}
use Rattle.fm_poly.specs.declared.ring.Ring.{Ring}
use Rattle.fm_term.specs.declared.vterm.VTerm.{VTerm}
use Rattle.fm_groebner.specs.Syzygies.{lower_members, syzygies, first_rows, IsBasisOfGraph}
use Rattle.fm_groebner.proofs.Shown.{kernel_shown, preimage_shown}
use Rattle.fm_groebner.proofs.Syzygies.{syzygies_fit}
use Rattle.fm_graphs.specs.Graphs.{MatrixOf}
use Rattle.fm_report.specs.Parts.{Part, beside, stack, times, part_value}
use Rattle.fm_parts.specs.Shapes.{rows_of, columns_of, fits, have_one_shape}
use Rattle.fm_parts.specs.Values.{value_of, is_within_bound, same_matrix, is_zero_matrix}
use Rattle.fm_parts.specs.Replays.{Exponents, Value, needs}
use Rattle.fm_parts.specs.Conditions.{Log, equal, kernel, preimage, generators_fit, shapes_fit, evaluated, holds_generating, holds}
use Rattle.fm_parts.specs.Sound.{IsSoundLog}
use Rattle.fm_parts.proofs.Results.{needed, need_holds, there_is}
use Rattle.fm_parts.proofs.Shapes.{factors, layers, neighbours, one_shape, part_shape}
use Rattle.fm_parts.proofs.SameValues.{value_is, matrices_equal, zeros_equal}

-- C has the rows that it is to have
pub front_held : (log : Log) (G : Part) (front : ℕ) (C X W : Part) → generators_fit log G front C X W ≡ true → rows_of C ≡ front
front_held log G front C X W fit =
    let count = length (lower_members (rows_of G) log.members) in
    let a = and_parts (have_one_shape log.part G) (nat_eq (rows_of C) front && (fits (times G (stack C X)) && (fits (times C W) && nat_eq (columns_of W) count))) fit in
    eqb-true (rows_of C) front (and_parts (nat_eq (rows_of C) front) (fits (times G (stack C X)) && (fits (times C W) && nat_eq (columns_of W) count)) a.1).0

module _ (r : Ring) where
  -- equal values make equal matrices
  pub equal_held : (A B : Part) → (u : Unit {0}) → holds r (equal A B) ≡ Ok u → part_value r A ≡ part_value r B
  unfolding holds
  equal_held A B u e =
      let a = there_is Exponents (value_of r A) (λ a. evaluated r B >>= λ b. needs (same_matrix r a b) Value) u e in
      let b = there_is Exponents (value_of r B) (λ b. needs (same_matrix r a.0 b) Value) u a.2 in
      (value_is r A a.0 a.1).1 ∙ matrices_equal r a.0 b.0 (need_holds (same_matrix r a.0 b.0) Value u b.2) ∙ sym (value_is r B b.0 b.1).1

  -- ---- matrices without rows, and all rows of a matrix
  above_nothing : (m n : ℕ) (C X : MatrixOf r) → HasShape r.prime r.vars m n C → HasShape r.prime r.vars 0 n X → matrix_above r.prime r.vars C X ≡ C
  unfolding HasShape matrix_above stacked
  above_nothing m n C X s t =
      let plain : m + 0 ≡ m = omega arith in
      let fit = stacked_shaped (polynomials r.prime r.vars) m n 0 C X s.0 t.0 s.1 in
      matrix_ext (polynomials r.prime r.vars) m n (stacked (polynomials r.prime r.vars) C X) C
      (subst (λ k. HasShape r.prime r.vars k n (stacked (polynomials r.prime r.vars) C X)) plain fit) s (λ i j a b.
      entry_table (polynomials r.prime r.vars) (C.rows + X.rows) (cols (polynomials r.prime r.vars) C) i j
      (λ i j. cond (ltb i C.rows) (entry (polynomials r.prime r.vars) C i j) (entry (polynomials r.prime r.vars) X (i - C.rows) j)) (let e = s.0 in omega (arith, e, a)) (subst (λ k. j < k) (sym s.1) b)
      ∙ ap (λ c. cond c (entry (polynomials r.prime r.vars) C i j) (entry (polynomials r.prime r.vars) X (i - C.rows) j)) (lt-ltb i C.rows (subst (λ k. i < k) (sym s.0) a)))

  taken_whole : (n : ℕ) (vs : List (List (Polynomial r.prime r.vars))) → ((j : ℕ) → j < length vs → length (get_or vs j []) ≡ n) → map (take n) vs ≡ vs
  taken_whole n [] h = refl
  taken_whole n (v ∷ vs) h = ap₂ (λ x xs. x ∷ xs) (take_all n v (let l = h 0 (omega arith) in omega (arith, l))) (taken_whole n vs (λ j k. h (suc j) (omega (arith, k))))

  all_rows : (n k : ℕ) (S : MatrixOf r) → HasShape r.prime r.vars n k S → first_rows r.prime r.vars n S ≡ S
  unfolding HasShape
  all_rows n k S s = λ i. record { rows = (sym s.0) i; columns = taken_whole n S.columns (λ j h. s.2 j (subst (λ x. j < x) s.1 h)) i }

  -- the shape of a matrix in other numbers
  renamed : {m n k l : ℕ} (A : MatrixOf r) → m ≡ k → n ≡ l → HasShape r.prime r.vars m n A → HasShape r.prime r.vars k l A
  renamed {m} {n} {k} {l} A p q s = subst (λ x. HasShape r.prime r.vars x l A) p (subst (λ x. HasShape r.prime r.vars m x A) q s)

  rows : (a : Part) → fits a ≡ true → rows_of a ≡ (part_value r a).rows
  rows a f = sym (shape_rows r.prime r.vars (rows_of a) (columns_of a) (part_value r a) (part_shape r a f))

  columns : (a : Part) → fits a ≡ true → columns_of a ≡ length (part_value r a).columns
  columns a f = sym (shape_columns r.prime r.vars (rows_of a) (columns_of a) (part_value r a) (part_shape r a f))

  own : (a : Part) → fits a ≡ true → HasShape r.prime r.vars (part_value r a).rows (length (part_value r a).columns) (part_value r a)
  own a f = renamed (part_value r a) (rows a f) (columns a f) (part_shape r a f)

  -- ---- kernels and preimages
  module _ (log : Log) (sound : IsSoundLog r log) (G : Part) (front : ℕ) (C X W : Part) (fit : generators_fit log G front C X W ≡ true) (u : Unit {0}) (held : holds_generating r log G C X W ≡ Ok u) where
    abbrev pub count : ℕ
    count = length (lower_members (rows_of G) log.members)

    record Fits : Type 0 where
      one : (rows_of log.part ≡ rows_of G) × (columns_of log.part ≡ columns_of G)
      front_is : rows_of C ≡ front
      g_fits : fits G ≡ true
      c_fits : fits C ≡ true
      x_fits : fits X ≡ true
      w_fits : fits W ≡ true
      product_fits : fits (times G (stack C X)) ≡ true
      inner : columns_of G ≡ rows_of C + rows_of X
      width : columns_of C ≡ columns_of X
      factor : columns_of C ≡ rows_of W

    fitting : Fits
    fitting =
        let a = and_parts (have_one_shape log.part G) (nat_eq (rows_of C) front && (fits (times G (stack C X)) && (fits (times C W) && nat_eq (columns_of W) count))) fit in
        let b = and_parts (nat_eq (rows_of C) front) (fits (times G (stack C X)) && (fits (times C W) && nat_eq (columns_of W) count)) a.1 in
        let c = and_parts (fits (times G (stack C X))) (fits (times C W) && nat_eq (columns_of W) count) b.1 in
        let d = and_parts (fits (times C W)) (nat_eq (columns_of W) count) c.1 in
        let g = factors G (stack C X) c.0 in
        let s = layers C X g.1 in
        let w = factors C W d.0 in
        record {
          one = one_shape log.part G a.0;
          front_is = eqb-true (rows_of C) front b.0;
          g_fits = g.0;
          c_fits = s.0;
          x_fits = s.1;
          w_fits = w.1;
          product_fits = c.0;
          inner = g.2;
          width = s.2;
          factor = w.2;
        }

    abbrev g : MatrixOf r
    g = part_value r G

    record Shown : Type 0 where
      logged : part_value r log.part ≡ g
      vanishes : matrix_product r.prime r.vars g (matrix_above r.prime r.vars (part_value r C) (part_value r X)) ≡ matrix_zero r.prime r.vars (rows_of G) (columns_of C)
      covers : first_rows r.prime r.vars (rows_of C) (syzygies r.prime r.vars g log.members) ≡ matrix_product r.prime r.vars (part_value r C) (part_value r W)

    shown : Shown
    unfolding part_value
    shown =
        let last = λ (cover : MatrixOf r) (h : MatrixOf r). needs (same_matrix r (first_rows r.prime r.vars (rows_of C) (syzygies r.prime r.vars h log.members)) cover) Value in
        let third = λ (h z : MatrixOf r). needs (is_zero_matrix r z) Value >>= λ _. evaluated r (times C W) >>= λ cover. last cover h in
        let a = there_is Exponents (value_of r log.part) (λ logged. evaluated r G >>= λ h. needs (same_matrix r logged h) Value >>= λ _. evaluated r (times G (stack C X)) >>= third h) u held in
        let b = there_is Exponents (value_of r G) (λ h. needs (same_matrix r a.0 h) Value >>= λ _. evaluated r (times G (stack C X)) >>= third h) u a.2 in
        let c = needed (same_matrix r a.0 b.0) Value (λ _. evaluated r (times G (stack C X)) >>= third b.0) u b.2 in
        let d = there_is Exponents (value_of r (times G (stack C X))) (third b.0) u c.1 in
        let e = needed (is_zero_matrix r d.0) Value (λ _. evaluated r (times C W) >>= λ cover. last cover b.0) u d.2 in
        let f = there_is Exponents (value_of r (times C W)) (λ cover. last cover b.0) u e.1 in
        let g_is = (value_is r G b.0 b.1).1 in
        let product_is = (value_is r (times G (stack C X)) d.0 d.1).1 in
        record {
          logged = (value_is r log.part a.0 a.1).1 ∙ matrices_equal r a.0 b.0 c.0 ∙ sym g_is;
          vanishes = product_is ∙ zeros_equal r (rows_of G) (columns_of C) d.0 (subst (HasShape r.prime r.vars (rows_of G) (columns_of C)) product_is (part_shape r (times G (stack C X)) fitting.product_fits)) e.0;
          covers = ap (λ h. first_rows r.prime r.vars (rows_of C) (syzygies r.prime r.vars h log.members)) g_is
              ∙ matrices_equal r (first_rows r.prime r.vars (rows_of C) (syzygies r.prime r.vars b.0 log.members)) f.0 (need_holds (same_matrix r (first_rows r.prime r.vars (rows_of C) (syzygies r.prime r.vars b.0 log.members)) f.0) Value u f.2)
              ∙ sym (value_is r (times C W) f.0 f.1).1;
        }

    completed : IsBasisOfGraph r.prime r.vars r.order g log.members
    completed = subst (λ x. IsBasisOfGraph r.prime r.vars r.order x log.members) shown.logged sound.basis

  -- C generates the kernel of A
  pub kernel_held : (log : Log) → IsSoundLog r log → (A C X W : Part) → shapes_fit (kernel log A C X W) ≡ true → (u : Unit {0}) → holds r (kernel log A C X W) ≡ Ok u → GeneratesKernel r.prime r.vars (part_value r C) (part_value r A)
  unfolding holds
  kernel_held log sound A C X W fit u held =
      let F = fitting log sound A (columns_of A) C X W fit u held in
      let S = shown log sound A (columns_of A) C X W fit u held in
      let base = completed log sound A (columns_of A) C X W fit u held in
      let front : rows_of C ≡ length (part_value r A).columns = F.front_is ∙ columns A F.g_fits in
      let none : rows_of X ≡ 0 = let e = F.inner in let h = F.front_is in omega (arith, e, h) in
      let above = above_nothing (rows_of C) (columns_of C) (part_value r C) (part_value r X) (part_shape r C F.c_fits) (renamed (part_value r X) none (sym F.width) (part_shape r X F.x_fits)) in
      kernel_shown r.prime r.vars r.order (part_value r A) (part_value r C) (part_value r W) log.members (record {
        fits = own A F.g_fits;
        found_fits = renamed (part_value r C) front (columns C F.c_fits) (part_shape r C F.c_fits);
        factor_fits = renamed (part_value r W) (sym F.factor ∙ columns C F.c_fits) (columns W F.w_fits) (part_shape r W F.w_fits);
        completed = base;
        vanishes = ap (matrix_product r.prime r.vars (part_value r A)) (sym above) ∙ S.vanishes ∙ ap₂ (matrix_zero r.prime r.vars) (rows A F.g_fits) (columns C F.c_fits);
        covers = sym (all_rows (rows_of C) (length (lower_members (part_value r A).rows log.members)) (syzygies r.prime r.vars (part_value r A) log.members)
            (renamed (syzygies r.prime r.vars (part_value r A) log.members) (sym front) refl (syzygies_fit r.prime r.vars r.order (part_value r A) log.members base))) ∙ S.covers;
      })

  -- C generates all w with A * w in im B
  pub preimage_held : (log : Log) → IsSoundLog r log → (A B C X W : Part) → shapes_fit (preimage log A B C X W) ≡ true → (u : Unit {0}) → holds r (preimage log A B C X W) ≡ Ok u
      → GeneratesPreimage r.prime r.vars (part_value r C) (part_value r A) (part_value r B)
  unfolding holds part_value
  preimage_held log sound A B C X W fit u held =
      let F = fitting log sound (beside A B) (columns_of A) C X W fit u held in
      let S = shown log sound (beside A B) (columns_of A) C X W fit u held in
      let join = neighbours A B F.g_fits in
      let front : rows_of C ≡ length (part_value r A).columns = F.front_is ∙ columns A join.0 in
      let rest : rows_of X ≡ columns_of B = let e = F.inner in let h = F.front_is in omega (arith, e, h) in
      preimage_shown r.prime r.vars r.order (part_value r A) (part_value r B) (part_value r C) (part_value r X) (part_value r W) log.members (record {
        fits = own A join.0;
        modulo_fits = renamed (part_value r B) (sym join.2 ∙ rows A join.0) (columns B join.1) (part_shape r B join.1);
        found_fits = renamed (part_value r C) front (columns C F.c_fits) (part_shape r C F.c_fits);
        rest_fits = renamed (part_value r X) (rest ∙ columns B join.1) (sym F.width ∙ columns C F.c_fits) (part_shape r X F.x_fits);
        factor_fits = renamed (part_value r W) (sym F.factor ∙ columns C F.c_fits) (columns W F.w_fits) (part_shape r W F.w_fits);
        completed = completed log sound (beside A B) (columns_of A) C X W fit u held;
        vanishes = S.vanishes ∙ ap₂ (matrix_zero r.prime r.vars) (rows A join.0) (columns C F.c_fits);
        covers = ap (λ k. first_rows r.prime r.vars k (syzygies r.prime r.vars (matrix_beside r.prime r.vars (part_value r A) (part_value r B)) log.members)) (sym front) ∙ S.covers;
      })
