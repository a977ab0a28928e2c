-- Runs over matrices and graphs that end stay within the bound on exponents.
use Rattle.std.proofs.Common.{ℕ, suc, ◌^◌, ◌≡◌, ◌&&◌, if◌then◌else◌, cond, Bool, true, false, List, [], ◌∷◌, ◌++◌, map, length, take, drop, refl, subst}
use Rattle.std.proofs.lemmas.Bool.{and_parts, and_from}
use Rattle.std.specs.List.{list_all, filter}
use Rattle.fm_gfp.specs.Primes.{prime_value}
use Rattle.fm_mono.specs.Bounded.{is_bounded}
use Rattle.fm_algebra.specs.Polynomials.{polynomial_zero, polynomial_negative}
use Rattle.fm_algebra.specs.PolynomialMatrices.{matrix_product, matrix_twist, matrix_unit, matrix_beside}
use Rattle.fm_groebner.specs.Graphs.{graph, zero_vector}
use Rattle.fm_poly.specs.declared.ring.Ring.{Ring}
use Rattle.fm_term.specs.declared.vterm.VTerm.{VTerm}
use Rattle.fm_term.specs.Multiples.{twisted}
use Rattle.fm_vec.specs.Multiples.{twist_fits}
use Rattle.fm_mat.specs.Bounds.{products_fit, entries_fit}
use Rattle.fm_run.specs.Runs.{Exponent, ready, ◌>>=◌, each, bounded}
use Rattle.fm_run.proofs.Ends.{Ends, same_value, no_value, bound, bounded_value}
use Rattle.fm_complete.specs.Reductions.{Reduced}
use Rattle.fm_complete.specs.Completions.{completed, numbers}
use Rattle.fm_complete.specs.Within.{AllBounded, AreBounded}
use Rattle.fm_complete.proofs.BoundedQuotients.{twist_bounded}
use Rattle.fm_complete.proofs.WithinBound.{divided_bounded, completed_bounded}
use Rattle.fm_graphs.specs.Listing.{VectorOf, terms_of}
use Rattle.fm_graphs.specs.Bounds.{multiplied, twisted_matrix}
use Rattle.fm_graphs.specs.Graphs.{MatrixOf, Graph, Inside, all_inside, first_outside, width, graph_run, is_below, lower_block, syzygies, lift_run, is_inside, solution, lifted, with_solution, inside_from, inside_run, whole_run, twisted_graph}
use Rattle.fm_graphs.specs.Trims.{Preimage, spanned, trimmed_after, trimmed, is_nonzero, part, generating, kernel_run, preimage_run}
use Rattle.fm_graphs.specs.Within.{is_within, are_within, IsMatrixWithin, IsGraphWithin, IsInsideWithin, IsPreimageWithin}
use Rattle.fm_graphs.proofs.WithinPolynomials.{nothing_fails, negative_within, components_within, terms_bounded, columns_bounded}
use Rattle.fm_graphs.proofs.WithinMatrices.{all_take, all_drop, all_filter, all_append, all_replicate, all_map, units_within, above_within, beside_within, twisted_within, multiplied_within}

-- a value that was formed passed its test
pub test_passed : {A : Type 0} (fits : Bool) (x y : A) (units left : ℕ) → Ends (bounded fits x units) y left → fits ≡ true
test_passed true x y units left e = refl
test_passed false x y units left e = absurd (no_value Exponent y units left e)

module _ (r : Ring) where
  abbrev vector_within : VectorOf r → Bool
  vector_within v = are_within r.prime r.vars v

  abbrev AllWithin : List (VectorOf r) → Type 0
  AllWithin vs = list_all vector_within vs ≡ true

  -- ---- products and twists
  pub multiplied_ends : (A B : MatrixOf r) (units left : ℕ) (C : MatrixOf r) → Ends (multiplied r.prime r.vars A B units) C left → IsMatrixWithin r C
  unfolding multiplied
  multiplied_ends A B units left C e =
      let fits = list_all (products_fit r.prime r.vars A.columns) B.columns in
      subst (IsMatrixWithin r) (bounded_value fits (matrix_product r.prime r.vars A B) C units left e)
      (multiplied_within r.prime r.vars A B (test_passed fits (matrix_product r.prime r.vars A B) C units left e))

  pub twist_ends : (e : ℕ) (A : MatrixOf r) (units left : ℕ) (C : MatrixOf r) → Ends (twisted_matrix r.prime r.vars e A units) C left → IsMatrixWithin r C
  unfolding twisted_matrix
  twist_ends e A units left C ends =
      let fits = entries_fit r.prime r.vars e A in
      subst (IsMatrixWithin r) (bounded_value fits (matrix_twist r.prime r.vars e A) C units left ends)
      (twisted_within r.prime r.vars e A (test_passed fits (matrix_twist r.prime r.vars e A) C units left ends))

  twisted_members : (q : ℕ) (members : List (List VTerm)) → list_all (twist_fits q) members ≡ true → AreBounded (map (twisted q) members)
  twisted_members q [] h = tt
  twisted_members q (g ∷ gs) h = let h = and_parts _ _ h in (twist_bounded q g h.0, twisted_members q gs h.1)

  pub twisted_graph_ends : (e : ℕ) (g : Graph r) (units left : ℕ) (h : Graph r) → Ends (twisted_graph r e g units) h left → IsGraphWithin r h
  unfolding twisted_graph
  twisted_graph_ends e g units left h ends =
      let q = prime_value r.prime ^ e in
      let fits = entries_fit r.prime r.vars e g.matrix && list_all (twist_fits q) g.members in
      let made : Graph r = record { matrix = matrix_twist r.prime r.vars e g.matrix; members = map (twisted q) g.members; log = g.log } in
      let passed = and_parts (entries_fit r.prime r.vars e g.matrix) (list_all (twist_fits q) g.members) (test_passed fits made h units left ends) in
      let is : IsGraphWithin r made = record { matrix = twisted_within r.prime r.vars e g.matrix passed.0; members = twisted_members q g.members passed.1 } in
      subst (IsGraphWithin r) (bounded_value fits made h units left ends) is

  -- ---- graphs
  pub graph_ends : (A : MatrixOf r) → IsMatrixWithin r A → (units left : ℕ) (g : Graph r) → Ends (graph_run r A units) g left → IsGraphWithin r g
  unfolding graph_run
  graph_ends A w units left g e =
      let columns = (graph r.prime r.vars A).columns in
      let b = bound (completed r (map (terms_of r) columns)) (λ c. ready (record { matrix = A; members = c.members; log = c.log })) units left g e in
      let made : Graph r = record { matrix = A; members = b.value.members; log = b.value.log } in
      let inputs = columns_bounded r columns (above_within r.prime r.vars A (matrix_unit r.prime r.vars (length A.columns)) w (units_within r.prime r.vars (length A.columns))) in
      let is : IsGraphWithin r made = record { matrix = w; members = completed_bounded r (map (terms_of r) columns) inputs units b.between b.value b.first } in
      subst (IsGraphWithin r) (same_value made g b.between left b.second) is

  blocks_within : (m c : ℕ) (members : List (List VTerm)) → AreBounded members → AllWithin (map (lower_block r m c) (filter (is_below m) members))
  blocks_within m c [] w = refl
  blocks_within m c (g ∷ gs) w = go (is_below m g) (blocks_within m c gs w.1)
    where
      go : (b : Bool) → AllWithin (map (lower_block r m c) (filter (is_below m) gs)) → AllWithin (map (lower_block r m c) (cond b (g ∷ filter (is_below m) gs) (filter (is_below m) gs)))
      go true later = and_from _ _ (components_within r c (suc m) g w.0) later
      go false later = later

  pub syzygies_within : (g : Graph r) → IsGraphWithin r g → IsMatrixWithin r (syzygies r g)
  unfolding syzygies
  syzygies_within g w = blocks_within g.matrix.rows (width r g) g.members w.members

  -- ---- lifts
  pub lift_ends : (g : Graph r) (v : VectorOf r) → vector_within v ≡ true → (units left : ℕ) (x : Reduced) → Ends (lift_run r g v units) x left → AllBounded x.rest
  unfolding lift_run
  lift_ends g v w units left x e =
      let longer = v ++ zero_vector r.prime r.vars (width r g) in
      divided_bounded r g.members units left (terms_of r longer) x
      (terms_bounded r longer (all_append (is_within r.prime r.vars) v (zero_vector r.prime r.vars (width r g)) w (all_replicate (is_within r.prime r.vars) (width r g) (polynomial_zero r.prime r.vars) (nothing_fails r.prime r.vars is_bounded)))) e

  pub solution_within : (g : Graph r) (x : Reduced) → AllBounded x.rest → vector_within (solution r g x) ≡ true
  solution_within g x w = all_map (is_within r.prime r.vars) (is_within r.prime r.vars) (polynomial_negative r.prime r.vars) (negative_within r.prime r.vars)
      (lower_block r g.matrix.rows (width r g) x.rest) (components_within r (width r g) (suc g.matrix.rows) x.rest w)

  solutions_within : (g : Graph r) (vs : List (VectorOf r)) → AllWithin vs → (units left : ℕ) (ws : List (VectorOf r)) → Ends (each (λ v. lift_run r g v >>= λ x. ready (solution r g x)) vs units) ws left → AllWithin ws
  solutions_within g [] h units left ws e = subst AllWithin (same_value [] ws units left e) refl
  solutions_within g (v ∷ vs) h units left ws e =
      let h = and_parts _ _ h in
      let lift = λ (v : VectorOf r). lift_run r g v >>= λ x. ready (solution r g x) in
      let b = bound (lift v) (λ y. each lift vs >>= λ ys. ready (y ∷ ys)) units left ws e in
      let c = bound (lift_run r g v) (λ x. ready (solution r g x)) units b.between b.value b.first in
      let d = bound (each lift vs) (λ ys. ready (b.value ∷ ys)) b.between left ws b.second in
      let own : vector_within b.value ≡ true = subst (λ y. vector_within y ≡ true) (same_value (solution r g c.value) b.value c.between b.between c.second)
      (solution_within g c.value (lift_ends g v h.0 units c.between c.value c.first)) in
      subst AllWithin (same_value (b.value ∷ d.value) ws d.between left d.second) (and_from _ _ own (solutions_within g vs h.1 b.between d.between d.value d.first))

  pub lifted_ends : (g : Graph r) (vs : List (VectorOf r)) → AllWithin vs → (units left : ℕ) (W : MatrixOf r) → Ends (lifted r g vs units) W left → IsMatrixWithin r W
  unfolding lifted
  lifted_ends g vs h units left W e =
      let b = bound (each (λ v. lift_run r g v >>= λ x. ready (solution r g x)) vs) (λ ws. ready (record { rows = width r g; columns = ws })) units left W e in
      subst (IsMatrixWithin r) (same_value (record { rows = width r g; columns = b.value }) W b.between left b.second) (solutions_within g vs h units b.between b.value b.first)

  with_solution_within : (w : VectorOf r) (y : Inside r) → vector_within w ≡ true → IsInsideWithin r y → IsInsideWithin r (with_solution r w y)
  with_solution_within w (all_inside ws) h k = and_from _ _ h k
  with_solution_within w (first_outside o) h k = k

  inside_from_ends : (g : Graph r) (k : ℕ) (vs : List (VectorOf r)) → AllWithin vs → (units left : ℕ) (y : Inside r) → Ends (inside_from r g k vs units) y left → IsInsideWithin r y
  inside_from_ends g k [] h units left y e = subst (IsInsideWithin r) (same_value (all_inside []) y units left e) refl
  inside_from_ends g k (v ∷ vs) h units left y e =
      let after = λ (x : Reduced). if is_inside r g x then (inside_from r g (suc k) vs >>= λ y. ready (with_solution r (solution r g x) y)) else ready (first_outside (record { column = k; by = numbers x.steps; rest = x.rest })) in
      let b = bound (lift_run r g v) after units left y e in
      go b.value b.between (lift_ends g v (and_parts _ _ h).0 units b.between b.value b.first) (is_inside r g b.value) b.second (λ units left y. inside_from_ends g (suc k) vs (and_parts _ _ h).1 units left y)
    where
      go : (x : Reduced) (u : ℕ) → AllBounded x.rest → (b : Bool)
          → Ends ((if b then (inside_from r g (suc k) vs >>= λ y. ready (with_solution r (solution r g x) y)) else ready (first_outside (record { column = k; by = numbers x.steps; rest = x.rest }))) u) y left
          → ((units left : ℕ) (y : Inside r) → Ends (inside_from r g (suc k) vs units) y left → IsInsideWithin r y) → IsInsideWithin r y
      go x u w true e later =
          let d = bound (inside_from r g (suc k) vs) (λ y. ready (with_solution r (solution r g x) y)) u left y e in
          subst (IsInsideWithin r) (same_value (with_solution r (solution r g x) d.value) y d.between left d.second)
          (with_solution_within (solution r g x) d.value (solution_within g x w) (later u d.between d.value d.first))
      go x u w false e later = subst (IsInsideWithin r) (same_value (first_outside (record { column = k; by = numbers x.steps; rest = x.rest })) y u left e) w

  pub inside_ends : (M : MatrixOf r) (g : Graph r) → IsMatrixWithin r M → (units left : ℕ) (y : Inside r) → Ends (inside_run r M g units) y left → IsInsideWithin r y
  unfolding inside_run
  inside_ends M g h units left y e = inside_from_ends g 1 M.columns h units left y e

  pub whole_ends : (g : Graph r) (units left : ℕ) (y : Inside r) → Ends (whole_run r g units) y left → IsInsideWithin r y
  unfolding whole_run
  whole_ends g units left y e = inside_ends (matrix_unit r.prime r.vars g.matrix.rows) g (units_within r.prime r.vars g.matrix.rows) units left y e

  -- ---- trimmed lists
  module _ {X : Type 0} (column : X → VectorOf r) (test : X → Bool) where
    trimmed_after_ends : (former later : List X) → list_all test later ≡ true → (units left : ℕ) (kept : List X) → Ends (trimmed_after r column former later units) kept left → list_all test kept ≡ true
    trimmed_after_ends former [] h units left kept e = subst (λ xs. list_all test xs ≡ true) (same_value [] kept units left e) refl
    trimmed_after_ends former (x ∷ later) h units left kept e =
        let h = and_parts _ _ h in
        let after = λ (kept : List X). spanned r (map column (former ++ kept)) (column x) >>= λ yes. ready (if yes then kept else x ∷ kept) in
        let b = bound (trimmed_after r column (former ++ x ∷ []) later) after units left kept e in
        let d = bound (spanned r (map column (former ++ b.value)) (column x)) (λ yes. ready (if yes then b.value else x ∷ b.value)) b.between left kept b.second in
        subst (λ xs. list_all test xs ≡ true) (same_value (if d.value then b.value else x ∷ b.value) kept d.between left d.second)
        (go d.value b.value h.0 (trimmed_after_ends (former ++ x ∷ []) later h.1 units b.between b.value b.first))
      where
        go : (yes : Bool) (xs : List X) → test x ≡ true → list_all test xs ≡ true → list_all test (if yes then xs else x ∷ xs) ≡ true
        go true xs own h = h
        go false xs own h = and_from _ _ own h

    -- what is kept is part of the list
    pub trimmed_ends : (xs : List X) → list_all test xs ≡ true → (units left : ℕ) (kept : List X) → Ends (trimmed r column xs units) kept left → list_all test kept ≡ true
    unfolding trimmed
    trimmed_ends xs h units left kept e = trimmed_after_ends [] xs h units left kept e

  -- ---- preimages
  abbrev made : (a b : ℕ) (g : Graph r) (kept : List (VectorOf r)) (W : MatrixOf r) (h : Graph r) → Preimage r
  made a b g kept W h = record { whole = g; found = part r a (take a) kept; x = part r b (drop a) kept; w = W; graph = h }

  upper_within : (a : ℕ) (vs : List (VectorOf r)) → AllWithin vs → AllWithin (map (take a) vs)
  upper_within a vs h = all_map vector_within vector_within (take a) (all_take (is_within r.prime r.vars) a) vs h

  lower_within : (a : ℕ) (vs : List (VectorOf r)) → AllWithin vs → AllWithin (map (drop a) vs)
  lower_within a vs h = all_map vector_within vector_within (drop a) (all_drop (is_within r.prime r.vars) a) vs h

  pub generating_ends : (a b : ℕ) (g : Graph r) → IsGraphWithin r g → (units left : ℕ) (Q : Preimage r) → Ends (generating r a b g units) Q left → IsPreimageWithin r Q
  unfolding generating
  generating_ends a b g w units left Q ends =
      let S = (syzygies r g).columns in
      let all : AllWithin S = syzygies_within g w in
      let candidates = filter (λ v. is_nonzero r (take a v)) S in
      let after = λ (kept : List (VectorOf r)) (h : Graph r). lifted r h (map (take a) S) >>= λ W. ready (made a b g kept W h) in
      let t = bound (trimmed r (take a) candidates) (λ kept. graph_run r (part r a (take a) kept) >>= after kept) units left Q ends in
      let kept : AllWithin t.value = trimmed_ends (take a) vector_within candidates (all_filter vector_within (λ v. is_nonzero r (take a v)) S all) units t.between t.value t.first in
      let h = bound (graph_run r (part r a (take a) t.value)) (after t.value) t.between left Q t.second in
      let l = bound (lifted r h.value (map (take a) S)) (λ W. ready (made a b g t.value W h.value)) h.between left Q h.second in
      subst (IsPreimageWithin r) {x = made a b g t.value l.value h.value} (same_value (made a b g t.value l.value h.value) Q l.between left l.second) (record {
        whole = w;
        found = upper_within a t.value kept;
        x = lower_within a t.value kept;
        w = lifted_ends h.value (map (take a) S) (upper_within a S all) h.between l.between l.value l.first;
        graph = graph_ends (part r a (take a) t.value) (upper_within a t.value kept) t.between h.between h.value h.first;
      })

  pub kernel_ends : (A : MatrixOf r) → IsMatrixWithin r A → (units left : ℕ) (Q : Preimage r) → Ends (kernel_run r A units) Q left → IsPreimageWithin r Q
  unfolding kernel_run
  kernel_ends A w units left Q ends =
      let b = bound (graph_run r A) (generating r (length A.columns) 0) units left Q ends in
      generating_ends (length A.columns) 0 b.value (graph_ends A w units b.between b.value b.first) b.between left Q b.second

  pub preimage_ends : (A B : MatrixOf r) → IsMatrixWithin r A → IsMatrixWithin r B → (units left : ℕ) (Q : Preimage r) → Ends (preimage_run r A B units) Q left → IsPreimageWithin r Q
  unfolding preimage_run
  preimage_ends A B w v units left Q ends =
      let J = matrix_beside r.prime r.vars A B in
      let b = bound (graph_run r J) (generating r (length A.columns) (length B.columns)) units left Q ends in
      generating_ends (length A.columns) (length B.columns) b.value (graph_ends J (beside_within r.prime r.vars A B w v) units b.between b.value b.first) b.between left Q b.second
