-- Runs over matrices and graphs that end find at most as many columns as they had units.
use Rattle.std.proofs.Common.{ℕ, suc, ◌+◌, ◌<◌, ◌≤◌, ◌≡◌, if◌then◌else◌, cond, Bool, true, false, List, [], ◌∷◌, ◌++◌, map, length, take, drop, refl, sym, ap, ◌∙◌, subst, arith}
use Rattle.std.proofs.lemmas.List.{length-map}
use Rattle.std.proofs.lemmas.List.FromFn.{length-map-range_with_len}
use Rattle.std.specs.List.{filter}
use Rattle.fm_algebra.specs.Matrix.{listed, product, joined, entrywise, transpose, unit_matrix, scalar_matrix, table}
use Rattle.fm_algebra.specs.PolynomialMatrices.{matrix_product, matrix_twist, matrix_transpose, matrix_unit, matrix_beside}
use Rattle.fm_groebner.specs.Graphs.{graph}
use Rattle.fm_poly.specs.declared.ring.Ring.{Ring}
use Rattle.fm_run.specs.Runs.{Spends, ready, ◌>>=◌, each}
use Rattle.fm_run.proofs.Ends.{Ends, same_value, bound, bounded_value}
use Rattle.fm_run.proofs.Counting.{same_left, left_of}
use Rattle.fm_run.proofs.Spending.{ready_spends, then_spends, bounded_spends}
use Rattle.fm_complete.specs.Reductions.{Reduced}
use Rattle.fm_complete.specs.Completions.{completed, numbers}
use Rattle.fm_complete.proofs.Counting.{completed_counted}
use Rattle.fm_graphs.specs.Listing.{VectorOf, terms_of}
use Rattle.fm_graphs.specs.Bounds.{multiplied, twisted_matrix}
use Rattle.fm_graphs.specs.Graphs.{MatrixOf, Graph, Inside, all_inside, first_outside, width, graph_run, is_below, lower_block, syzygies, lift_run, is_inside, solution, lifted, with_solution, inside_from, inside_run, whole_run, twisted_graph}
use Rattle.fm_graphs.specs.Trims.{Preimage, spanned, trimmed_after, trimmed, is_nonzero, part, generating, kernel_run, preimage_run}
use Rattle.fm_graphs.specs.Sizes.{IsMatrixAtMost, IsInsideAtMost, IsPreimageAtMost}
use Rattle.fm_graphs.proofs.Spending.{graph_spends, lift_spends, trim_spends, generating_spends, outside_spends}

-- what a filter keeps
filter_length : {X : Type 0} (test : X → Bool) (xs : List X) → length (filter test xs) ≤ length xs
filter_length test [] = omega arith
filter_length test (x ∷ xs) = go (test x) (filter_length test xs)
  where
    go : (b : Bool) → length (filter test xs) ≤ length xs → length (cond b (x ∷ filter test xs) (filter test xs)) ≤ suc (length xs)
    go true h = omega (arith, h)
    go false h = omega (arith, h)

module _ (r : Ring) where
  -- ---- graphs
  pub graph_size : (A : MatrixOf r) (units left : ℕ) (g : Graph r) → Ends (graph_run r A units) g left → (A ≡ g.matrix) × (length g.members + left ≤ units)
  unfolding graph_run
  graph_size A units left g e =
      let inputs = map (terms_of r) (graph r.prime r.vars A).columns in
      let b = bound (completed r inputs) (λ c. ready (record { matrix = A; members = c.members; log = c.log })) units left g e in
      let made : Graph r = record { matrix = A; members = b.value.members; log = b.value.log } in
      let counted = completed_counted r inputs units b.between b.value b.first in
      let rest : b.between ≡ left = same_left made g b.between left b.second in
      subst (λ (h : Graph r). (A ≡ h.matrix) × (length h.members + left ≤ units)) {x = made} (same_value made g b.between left b.second) (refl, omega (arith, counted, rest))

  pub syzygies_size : (g : Graph r) → length (syzygies r g).columns ≤ length g.members
  unfolding syzygies
  syzygies_size g =
      let below = filter (is_below g.matrix.rows) g.members in
      let h = length-map below (lower_block r g.matrix.rows (width r g)) in
      let k = filter_length (is_below g.matrix.rows) g.members in
      omega (arith, h, k)

  -- ---- lifts
  each_size : (g : Graph r) (vs : List (VectorOf r)) (units left : ℕ) (ws : List (VectorOf r)) → Ends (each (λ v. lift_run r g v >>= λ x. ready (solution r g x)) vs units) ws left → length ws ≡ length vs
  each_size g [] units left ws e = ap length (sym (same_value [] ws units left e))
  each_size g (v ∷ vs) units left ws e =
      let lift = λ (v : VectorOf r). lift_run r g v >>= λ x. ready (solution r g x) in
      let b = bound (lift v) (λ y. each lift vs >>= λ ys. ready (y ∷ ys)) units left ws e in
      let d = bound (each lift vs) (λ ys. ready (b.value ∷ ys)) b.between left ws b.second in
      ap length (sym (same_value (b.value ∷ d.value) ws d.between left d.second)) ∙ ap suc (each_size g vs b.between d.between d.value d.first)

  pub lifted_size : (g : Graph r) (vs : List (VectorOf r)) (units left : ℕ) (W : MatrixOf r) → Ends (lifted r g vs units) W left → (W.rows ≡ width r g) × (length W.columns ≡ length vs)
  unfolding lifted
  lifted_size g vs units left W e =
      let b = bound (each (λ v. lift_run r g v >>= λ x. ready (solution r g x)) vs) (λ ws. ready (record { rows = width r g; columns = ws })) units left W e in
      subst (λ (W : MatrixOf r). (W.rows ≡ width r g) × (length W.columns ≡ length vs)) {x = record { rows = width r g; columns = b.value }}
      (same_value (record { rows = width r g; columns = b.value }) W b.between left b.second) (refl, each_size g vs units b.between b.value b.first)

  -- ---- what is inside
  -- where k columns stand before these
  abbrev Counted : (k n : ℕ) → Inside r → Type 0
  Counted k n (all_inside ws) = length ws ≡ n
  Counted k n (first_outside o) = o.column + 1 ≤ k + n

  counted_next : (k n : ℕ) (w : VectorOf r) (y : Inside r) → Counted (suc k) n y → Counted k (suc n) (with_solution r w y)
  counted_next k n w (all_inside ws) h = ap suc h
  counted_next k n w (first_outside o) h = omega (arith, h)

  inside_from_size : (g : Graph r) (k : ℕ) (vs : List (VectorOf r)) (units left : ℕ) (y : Inside r) → Ends (inside_from r g k vs units) y left → Counted k (length vs) y
  inside_from_size g k [] units left y e = subst (Counted k 0) (same_value (all_inside []) y units left e) refl
  inside_from_size g k (v ∷ vs) units left y e =
      let after = λ (x : Reduced). if is_inside r g x then (inside_from r g (suc k) vs >>= λ y. ready (with_solution r (solution r g x) y)) else ready (first_outside (record { column = k; by = numbers x.steps; rest = x.rest })) in
      let b = bound (lift_run r g v) after units left y e in
      go b.value b.between (is_inside r g b.value) b.second (λ units left y. inside_from_size g (suc k) vs units left y)
    where
      go : (x : Reduced) (u : ℕ) → (b : Bool)
          → Ends ((if b then (inside_from r g (suc k) vs >>= λ y. ready (with_solution r (solution r g x) y)) else ready (first_outside (record { column = k; by = numbers x.steps; rest = x.rest }))) u) y left
          → ((units left : ℕ) (y : Inside r) → Ends (inside_from r g (suc k) vs units) y left → Counted (suc k) (length vs) y) → Counted k (suc (length vs)) y
      go x u true e later =
          let d = bound (inside_from r g (suc k) vs) (λ y. ready (with_solution r (solution r g x) y)) u left y e in
          subst (Counted k (suc (length vs))) (same_value (with_solution r (solution r g x) d.value) y d.between left d.second)
          (counted_next k (length vs) (solution r g x) d.value (later u d.between d.value d.first))
      go x u false e later = subst (Counted k (suc (length vs))) (same_value (first_outside (record { column = k; by = numbers x.steps; rest = x.rest })) y u left e) (omega arith)

  counted_most : (n : ℕ) (y : Inside r) → Counted 1 n y → IsInsideAtMost r n y
  counted_most n (all_inside ws) h = omega (arith, h)
  counted_most n (first_outside o) h = omega (arith, h)

  pub inside_size : (M : MatrixOf r) (g : Graph r) (units left : ℕ) (y : Inside r) → Ends (inside_run r M g units) y left → IsInsideAtMost r (length M.columns) y
  unfolding inside_run
  inside_size M g units left y e = counted_most (length M.columns) y (inside_from_size g 1 M.columns units left y e)

  inside_from_spends : (g : Graph r) (k : ℕ) (vs : List (VectorOf r)) → Spends (inside_from r g k vs)
  inside_from_spends g k [] = ready_spends {A = Inside r} (all_inside [])
  inside_from_spends g k (v ∷ vs) =
      then_spends (lift_run r g v) (λ (x : Reduced). if is_inside r g x then (inside_from r g (suc k) vs >>= λ y. ready (with_solution r (solution r g x) y)) else ready (first_outside (record { column = k; by = numbers x.steps; rest = x.rest })))
      (lift_spends r g v) (λ x. go x (is_inside r g x) (inside_from_spends g (suc k) vs))
    where
      go : (x : Reduced) (b : Bool) → Spends (inside_from r g (suc k) vs)
          → Spends (if b then (inside_from r g (suc k) vs >>= λ y. ready (with_solution r (solution r g x) y)) else ready (first_outside (record { column = k; by = numbers x.steps; rest = x.rest })))
      go x true later = then_spends (inside_from r g (suc k) vs) (λ y. ready (with_solution r (solution r g x) y)) later (λ y. ready_spends {A = Inside r} (with_solution r (solution r g x) y))
      go x false later = ready_spends {A = Inside r} (first_outside (record { column = k; by = numbers x.steps; rest = x.rest }))

  pub inside_spends : (M : MatrixOf r) (g : Graph r) → Spends (inside_run r M g)
  unfolding inside_run
  inside_spends M g = inside_from_spends g 1 M.columns

  pub whole_spends : (g : Graph r) → Spends (whole_run r g)
  unfolding whole_run
  whole_spends g = inside_spends (matrix_unit r.prime r.vars g.matrix.rows) g

  -- a column that is outside was divided
  abbrev pub IsPaid : ℕ → ℕ → Inside r → Type 0
  IsPaid units left (all_inside ws) = left ≤ units
  IsPaid units left (first_outside o) = left < units

  pub inside_paid : (M : MatrixOf r) (g : Graph r) (units left : ℕ) (y : Inside r) → Ends (inside_run r M g units) y left → IsPaid units left y
  unfolding inside_run
  inside_paid M g units left (all_inside ws) e = left_of (inside_from r g 1 M.columns) units left (all_inside ws) (inside_from_spends g 1 M.columns) e
  inside_paid M g units left (first_outside o) e = outside_spends r g 1 M.columns units left o e

  pub whole_paid : (g : Graph r) (units left : ℕ) (y : Inside r) → Ends (whole_run r g units) y left → IsPaid units left y
  unfolding whole_run
  whole_paid g units left y e = inside_paid (matrix_unit r.prime r.vars g.matrix.rows) g units left y e

  -- ---- trimmed lists
  trimmed_after_size : {X : Type 0} (column : X → VectorOf r) (former later : List X) (units left : ℕ) (kept : List X) → Ends (trimmed_after r column former later units) kept left → length kept ≤ length later
  trimmed_after_size column former [] units left kept e = let h = ap length (same_value [] kept units left e) in omega (arith, h)
  trimmed_after_size {X} column former (x ∷ later) units left kept e =
      let after = λ (kept : List X). spanned r (map column (former ++ kept)) (column x) >>= λ yes. ready (if yes then kept else x ∷ kept) in
      let b = bound (trimmed_after r column (former ++ x ∷ []) later) after units left kept e in
      let d = bound (spanned r (map column (former ++ b.value)) (column x)) (λ yes. ready (if yes then b.value else x ∷ b.value)) b.between left kept b.second in
      subst (λ (xs : List X). length xs ≤ suc (length later)) (same_value (if d.value then b.value else x ∷ b.value) kept d.between left d.second)
      (go d.value b.value (trimmed_after_size column (former ++ x ∷ []) later units b.between b.value b.first))
    where
      go : (yes : Bool) (xs : List X) → length xs ≤ length later → length (if yes then xs else x ∷ xs) ≤ suc (length later)
      go true xs h = omega (arith, h)
      go false xs h = omega (arith, h)

  pub trimmed_size : {X : Type 0} (column : X → VectorOf r) (xs : List X) (units left : ℕ) (kept : List X) → Ends (trimmed r column xs units) kept left → length kept ≤ length xs
  unfolding trimmed
  trimmed_size column xs units left kept e = trimmed_after_size column [] xs units left kept e

  -- ---- preimages
  abbrev made : (a b : ℕ) (g : Graph r) (kept : List (VectorOf r)) (W : MatrixOf r) (h : Graph r) → Preimage r
  made a b g kept W h = record { whole = g; found = part r a (take a) kept; x = part r b (drop a) kept; w = W; graph = h }

  trim_left : (a : ℕ) (vs : List (VectorOf r)) (units left : ℕ) (kept : List (VectorOf r)) → Ends (trimmed r (take a) vs units) kept left → left ≤ units
  unfolding trimmed
  trim_left a vs units left kept e = left_of (trimmed r (take a) vs) units left kept (trim_spends r (take a) [] vs) e

  module _ (most : ℕ) where
    pub generating_size : (a b : ℕ) (g : Graph r) → a ≤ most → length g.members ≤ most → (units left : ℕ) (Q : Preimage r) → units ≤ most → Ends (generating r a b g units) Q left → IsPreimageAtMost r most Q
    unfolding generating
    generating_size a b g rows whole units left Q enough ends =
        let S = (syzygies r g).columns in
        let candidates = filter (λ v. is_nonzero r (take a v)) S in
        let after = λ (kept : List (VectorOf r)) (h : Graph r). lifted r h (map (take a) S) >>= λ W. ready (made a b g kept W h) in
        let t = bound (trimmed r (take a) candidates) (λ kept. graph_run r (part r a (take a) kept) >>= after kept) units left Q ends in
        let F = part r a (take a) t.value in
        let h = bound (graph_run r F) (after t.value) t.between left Q t.second in
        let l = bound (lifted r h.value (map (take a) S)) (λ W. ready (made a b g t.value W h.value)) h.between left Q h.second in
        let s = syzygies_size g in
        let f = filter_length (λ v. is_nonzero r (take a v)) S in
        let k = trimmed_size (take a) candidates units t.between t.value t.first in
        let found : length F.columns ≡ length t.value = length-map t.value (take a) in
        let below : length (part r b (drop a) t.value).columns ≡ length t.value = length-map t.value (drop a) in
        let columns : IsMatrixAtMost r most F = record { rows = rows; columns = omega (arith, whole, s, f, k, found) } in
        let G = graph_size F t.between h.between h.value h.first in
        let kept = trim_left a candidates units t.between t.value t.first in
        let members = G.1 in
        let W = lifted_size h.value (map (take a) S) h.between l.between l.value l.first in
        let upper : length (map (take a) S) ≡ length S = length-map S (take a) in
        let wide : width r h.value ≡ length F.columns = ap (λ (A : MatrixOf r). length A.columns) (sym G.0) in
        let w_rows = W.0 in
        let w_columns = W.1 in
        let some = columns.columns in
        subst (IsPreimageAtMost r most) {x = made a b g t.value l.value h.value} (same_value (made a b g t.value l.value h.value) Q l.between left l.second) (record {
          whole = whole;
          found = columns;
          x = omega (arith, whole, s, f, k, below);
          w = record { rows = omega (arith, w_rows, wide, some); columns = omega (arith, w_columns, upper, s, whole) };
          graph = record { matrix = subst (IsMatrixAtMost r most) G.0 columns; members = omega (arith, members, kept, enough) };
        })

    pub kernel_size : (A : MatrixOf r) → length A.columns ≤ most → (units left : ℕ) (Q : Preimage r) → units ≤ most → Ends (kernel_run r A units) Q left → IsPreimageAtMost r most Q
    unfolding kernel_run
    kernel_size A rows units left Q enough ends =
        let b = bound (graph_run r A) (generating r (length A.columns) 0) units left Q ends in
        let G = (graph_size A units b.between b.value b.first).1 in
        generating_size (length A.columns) 0 b.value rows (omega (arith, G, enough)) b.between left Q (omega (arith, G, enough)) b.second

    pub preimage_size : (A B : MatrixOf r) → length A.columns ≤ most → (units left : ℕ) (Q : Preimage r) → units ≤ most → Ends (preimage_run r A B units) Q left → IsPreimageAtMost r most Q
    unfolding preimage_run
    preimage_size A B rows units left Q enough ends =
        let J = matrix_beside r.prime r.vars A B in
        let b = bound (graph_run r J) (generating r (length A.columns) (length B.columns)) units left Q ends in
        let G = (graph_size J units b.between b.value b.first).1 in
        generating_size (length A.columns) (length B.columns) b.value rows (omega (arith, G, enough)) b.between left Q (omega (arith, G, enough)) b.second

  -- ---- products and twists
  pub product_columns : (A B : MatrixOf r) → length (matrix_product r.prime r.vars A B).columns ≡ length B.columns
  unfolding matrix_product product table listed
  product_columns A B = length-map-range_with_len _ 0 (length B.columns)

  pub twist_columns : (e : ℕ) (A : MatrixOf r) → length (matrix_twist r.prime r.vars e A).columns ≡ length A.columns
  unfolding matrix_twist entrywise table listed
  twist_columns e A = length-map-range_with_len _ 0 (length A.columns)

  pub transpose_columns : (A : MatrixOf r) → length (matrix_transpose r.prime r.vars A).columns ≡ A.rows
  unfolding matrix_transpose transpose table listed
  transpose_columns A = length-map-range_with_len _ 0 A.rows

  pub transpose_rows : (A : MatrixOf r) → (matrix_transpose r.prime r.vars A).rows ≡ length A.columns
  unfolding matrix_transpose transpose table
  transpose_rows A = refl

  pub unit_columns : (n : ℕ) → length (matrix_unit r.prime r.vars n).columns ≡ n
  unfolding matrix_unit unit_matrix scalar_matrix table listed
  unit_columns n = length-map-range_with_len _ 0 n

  pub unit_rows : (n : ℕ) → (matrix_unit r.prime r.vars n).rows ≡ n
  unfolding matrix_unit unit_matrix scalar_matrix table
  unit_rows n = refl

  pub multiplied_columns : (A B : MatrixOf r) (units left : ℕ) (C : MatrixOf r) → Ends (multiplied r.prime r.vars A B units) C left → length C.columns ≡ length B.columns
  unfolding multiplied
  multiplied_columns A B units left C e = ap (λ (M : MatrixOf r). length M.columns) (sym (bounded_value _ (matrix_product r.prime r.vars A B) C units left e)) ∙ product_columns A B

  pub twisted_columns : (e : ℕ) (A : MatrixOf r) (units left : ℕ) (C : MatrixOf r) → Ends (twisted_matrix r.prime r.vars e A units) C left → length C.columns ≡ length A.columns
  unfolding twisted_matrix
  twisted_columns e A units left C ends = ap (λ (M : MatrixOf r). length M.columns) (sym (bounded_value _ (matrix_twist r.prime r.vars e A) C units left ends)) ∙ twist_columns e A

  pub twisted_graph_width : (e : ℕ) (g : Graph r) (units left : ℕ) (h : Graph r) → Ends (twisted_graph r e g units) h left → width r h ≡ width r g
  unfolding twisted_graph
  twisted_graph_width e g units left h ends = ap (λ (G : Graph r). width r G) (sym (bounded_value _ _ h units left ends)) ∙ twist_columns e g.matrix

  pub multiplied_spends : (A B : MatrixOf r) → Spends (multiplied r.prime r.vars A B)
  unfolding multiplied
  multiplied_spends A B = bounded_spends _ (matrix_product r.prime r.vars A B)

  pub twisted_graph_spends : (e : ℕ) (g : Graph r) → Spends (twisted_graph r e g)
  unfolding twisted_graph
  twisted_graph_spends e g = bounded_spends _ _

  pub kernel_spends : (A : MatrixOf r) → Spends (kernel_run r A)
  unfolding kernel_run
  kernel_spends A = then_spends (graph_run r A) (generating r (length A.columns) 0) (graph_spends r A) (λ g. generating_spends r (length A.columns) 0 g)

  -- the columns that a test of the whole goes through
  pub whole_size : (g : Graph r) (units left : ℕ) (y : Inside r) → Ends (whole_run r g units) y left → IsInsideAtMost r g.matrix.rows y
  unfolding whole_run
  whole_size g units left y e = subst (λ n. IsInsideAtMost r n y) (unit_columns g.matrix.rows) (inside_size (matrix_unit r.prime r.vars g.matrix.rows) g units left y e)

  pub inside_at_most : (most n : ℕ) (y : Inside r) → n ≤ most → IsInsideAtMost r n y → IsInsideAtMost r most y
  inside_at_most most n (all_inside ws) h k = omega (arith, h, k)
  inside_at_most most n (first_outside o) h k = omega (arith, h, k)

  pub beside_columns : (A B : MatrixOf r) → length (matrix_beside r.prime r.vars A B).columns ≡ length A.columns + length B.columns
  unfolding matrix_beside joined table listed
  beside_columns A B = length-map-range_with_len _ 0 (length A.columns + length B.columns)

  pub beside_rows : (A B : MatrixOf r) → (matrix_beside r.prime r.vars A B).rows ≡ A.rows
  unfolding matrix_beside joined table
  beside_rows A B = refl
