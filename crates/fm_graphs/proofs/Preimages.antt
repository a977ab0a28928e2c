-- Generators of kernels and of preimages.
use Rattle.std.proofs.Common.{ℕ, zero, suc, ◌+◌, ◌-◌, ◌<◌, ◌≤◌, ◌≡◌, ◌↔◌, not, Bool, true, false, List, [], ◌∷◌, ◌++◌, map, length, take, drop, get_or, refl, sym, ap, ap₂, ◌∙◌, subst, subst₂, arith}
use Rattle.std.proofs.lemmas.List.{length-map, length-drop, length-replicate, get_or-map, get_or-take, get_or-drop, take-append-drop}
use Rattle.std.specs.List.{filter}
use Rattle.fm_algebra.specs.Ring.{Ring as AlgebraRing, IsRing}
use Rattle.fm_algebra.specs.Matrix.{component, entry, apply}
use Rattle.fm_algebra.specs.Polynomials.{Polynomial, polynomials, polynomial_zero, polynomial_of}
use Rattle.fm_algebra.specs.PolynomialMatrices.{HasShape, InImage, InKernel, GeneratesKernel, GeneratesPreimage, matrix_product, matrix_beside}
use Rattle.fm_algebra.proofs.FiniteSums.{sum_cast}
use Rattle.fm_algebra.proofs.Concrete.{polynomials_laws}
use Rattle.fm_algebra.proofs.Tables.{length-apply, joined_shaped}
use Rattle.fm_term.specs.Meanings.{vector_of, terms_in}
use Rattle.fm_groebner.proofs.Setting.{lin_zero}
use Rattle.fm_groebner.proofs.TermValues.{val_nil, vector_value}
use Rattle.fm_groebner.specs.Bases.{generators}
use Rattle.fm_groebner.specs.Graphs.{zero_vector}
use Rattle.fm_groebner.proofs.Setting.{In}
use Rattle.fm_groebner.proofs.Numbers.{in_of_map}
use Rattle.fm_groebner.proofs.GraphMatrices.{apply_component, same_components, component_zeros}
use Rattle.fm_groebner.proofs.Vectors.{length_vector, component_of_vector}
use Rattle.fm_groebner.proofs.Bases.{image_of, image_length}
use Rattle.fm_poly.specs.declared.ring.Ring.{Ring}
use Rattle.fm_term.specs.declared.vterm.VTerm.{VTerm}
use Rattle.fm_run.specs.Runs.{ready, ◌>>=◌}
use Rattle.fm_graphs.specs.Listing.{VectorOf, terms_of}
use Rattle.fm_graphs.specs.Graphs.{MatrixOf, Graph, width, graph_run, syzygies, lifted}
use Rattle.fm_graphs.specs.Trims.{is_zero, trimmed, is_nonzero, Preimage, part, Generating, generating, kernel_run, preimage_run}
use Rattle.fm_run.proofs.Ends.{Ends, same_value, bound}
use Rattle.fm_graphs.proofs.Listing.{terms_mean}
use Rattle.fm_graphs.proofs.Columns.{AllLong, shape_of, in_place, Solved, Spanned, span_own, span_within, solutions_shaped, solutions_product}
use Rattle.fm_graphs.specs.Graphs.{IsCompletedGraph}
use Rattle.fm_graphs.proofs.Graphs.{graph_is, in_filter, filter_in, syzygies_generate, syzygies_long}
use Rattle.fm_graphs.proofs.Lifts.{lifted_solves}
use Rattle.fm_graphs.proofs.Trims.{Trimmed, trimmed_is}
use Rattle.fm_graphs.proofs.Joins.{preimage_is}

map_append : {A B : Type 0} (f : A → B) (xs ys : List A) → map f (xs ++ ys) ≡ map f xs ++ map f ys
map_append f [] ys = refl
map_append f (x ∷ xs) ys = ap (λ zs. f x ∷ zs) (map_append f xs ys)

map_split : {A B : Type 0} (f : A → B) (xs : List A) (us : List B) (v : B) (vs : List B) → map f xs ≡ us ++ v ∷ vs
    → (ys : List A) × (x : A) × (zs : List A) × (xs ≡ ys ++ x ∷ zs) × (map f ys ≡ us) × (f x ≡ v) × (map f zs ≡ vs)
map_split f [] [] v vs e = cc
map_split f [] (u ∷ us) v vs e = cc
map_split f (x ∷ xs) [] v vs e = ([], x, xs, refl, refl, cc, cc)
map_split f (x ∷ xs) (u ∷ us) v vs e =
    let first : f x ≡ u = cc in
    let later : map f xs ≡ us ++ v ∷ vs = cc in
    let s = map_split f xs us v vs later in
    (x ∷ s.0, s.1, s.2, ap (λ zs. x ∷ zs) s.3, ap₂ (λ y ys. y ∷ ys) first s.4, s.5, s.6)

module _ (r : Ring) where
  abbrev P : AlgebraRing
  P = polynomials r.prime r.vars

  abbrev PL : IsRing P
  PL = polynomials_laws r.prime r.vars

  abbrev Vec : Type 0
  Vec = VectorOf r

  abbrev Span : ℕ → List Vec → Vec → Type 0
  Span m vs v = Spanned r.prime r.vars m vs v

  -- ---- parts of columns
  -- the product of parts of columns is that part of the product
  part_apply : (m k : ℕ) (f : Vec → Vec) (place : ℕ → ℕ) → ((i : ℕ) → i < k → place i < m) → ((w : Vec) (i : ℕ) → i < k → component P (f w) i ≡ component P w (place i)) → f [] ≡ []
      → (vs : List Vec) (y : Vec) (i : ℕ) → i < k → component P (apply P (part r k f vs) y) i ≡ component P (apply P (generators r.prime r.vars m vs) y) (place i)
  unfolding entry component
  part_apply m k f place low is none vs y i h =
      apply_component P PL (part r k f vs) y i h
      ∙ sum_cast PL (length (map f vs)) (length vs) (λ j b. P.mul (entry P (part r k f vs) i j) (component P y j)) (λ j b. P.mul (entry P (generators r.prime r.vars m vs) (place i) j) (component P y j)) (length-map vs f)
      (λ j a b. ap (λ x. P.mul x (component P y j)) (ap (λ v. component P v i) (get_or-map f vs j [] [] b) ∙ is (get_or vs j []) i h))
      ∙ sym (apply_component P PL (generators r.prime r.vars m vs) y (place i) (low i h))

  length_upper : (a b : ℕ) (v : Vec) → length v ≡ a + b → length (take a v) ≡ a
  length_upper a b v l = take_length a v (omega (arith, l))
    where
      take_length : (a : ℕ) (v : Vec) → a ≤ length v → length (take a v) ≡ a
      take_length zero v h = refl
      take_length (suc a) [] h = absurd (omega arith)
      take_length (suc a) (x ∷ v) h = ap suc (take_length a v (omega arith))

  length_lower : (a b : ℕ) (v : Vec) → length v ≡ a + b → length (drop a v) ≡ b
  length_lower a b v l = length-drop a v ∙ ap (λ x. x - a) l ∙ omega arith

  take_none : (a : ℕ) → ◌≡◌ {A = Vec} (take a []) []
  take_none zero = refl
  take_none (suc a) = refl

  drop_none : (a : ℕ) → ◌≡◌ {A = Vec} (drop a []) []
  drop_none zero = refl
  drop_none (suc a) = refl

  upper_apply : (a b : ℕ) (vs : List Vec) (y : Vec) → take a (apply P (generators r.prime r.vars (a + b) vs) y) ≡ apply P (part r a (take a) vs) y
  unfolding component
  upper_apply a b vs y = same_components P PL a (take a (apply P (generators r.prime r.vars (a + b) vs) y)) (apply P (part r a (take a) vs) y)
      (length_upper a b (apply P (generators r.prime r.vars (a + b) vs) y) (length-apply P (generators r.prime r.vars (a + b) vs) y)) (length-apply P (part r a (take a) vs) y)
      (λ i h. get_or-take a (apply P (generators r.prime r.vars (a + b) vs) y) i P.zero h ∙ sym (part_apply (a + b) a (take a) (λ i. i) (λ i h. omega arith) (λ w i h. get_or-take a w i P.zero h) (take_none a) vs y i h))

  lower_apply : (a b : ℕ) (vs : List Vec) (y : Vec) → drop a (apply P (generators r.prime r.vars (a + b) vs) y) ≡ apply P (part r b (drop a) vs) y
  unfolding component
  lower_apply a b vs y = same_components P PL b (drop a (apply P (generators r.prime r.vars (a + b) vs) y)) (apply P (part r b (drop a) vs) y)
      (length_lower a b (apply P (generators r.prime r.vars (a + b) vs) y) (length-apply P (generators r.prime r.vars (a + b) vs) y)) (length-apply P (part r b (drop a) vs) y)
      (λ i h. get_or-drop a (apply P (generators r.prime r.vars (a + b) vs) y) i P.zero ∙ sym (part_apply (a + b) b (drop a) (λ i. a + i) (λ i h. omega arith) (λ w i h. get_or-drop a w i P.zero) (drop_none a) vs y i h))

  -- the upper parts span the upper parts of the span
  upper_span : (a b : ℕ) (vs : List Vec) (w : Vec) → Span (a + b) vs w → Span a (map (take a) vs) (take a w)
  unfolding InImage
  upper_span a b vs w (y, l, e) = (y, l ∙ sym (length-map vs (take a)), sym (upper_apply a b vs y) ∙ ap (take a) e)

  span_above : (a b : ℕ) (vs : List Vec) (v : Vec) → Span a (map (take a) vs) v → (u : Vec) × (length u ≡ b) × Span (a + b) vs (v ++ u)
  unfolding InImage
  span_above a b vs v (y, l, e) =
      let z = apply P (generators r.prime r.vars (a + b) vs) y in (
        drop a z,
        length_lower a b z (length-apply P (generators r.prime r.vars (a + b) vs) y),
        (y, l ∙ length-map vs (take a), sym (take-append-drop a z) ∙ ap (λ x. x ++ drop a z) (upper_apply a b vs y ∙ e)),
      )

  no_terms : (ts : List VTerm) → is_zero ts ≡ true → ts ≡ []
  no_terms [] e = refl
  no_terms (t ∷ ts) e = cc

  -- the zero vector lies in every span
  pub zero_spanned : (m : ℕ) (vs : List Vec) (v : Vec) → length v ≡ m → is_zero (terms_of r v) ≡ true → Span m vs v
  zero_spanned m vs v l e = image_of r.prime r.vars m r.order vs v l
      (lin_zero (λ b. ap (λ u. vector_value r.prime r.vars m r.order u b) (sym (terms_mean r m v l) ∙ ap (vector_of r.prime r.vars m) (no_terms (terms_of r v) e)) ∙ val_nil r.prime r.vars m r.order b))

  no_terms_mean : (m : ℕ) → vector_of r.prime r.vars m [] ≡ zero_vector r.prime r.vars m
  unfolding polynomial_zero polynomial_of terms_in
  no_terms_mean m = same_components P PL m (vector_of r.prime r.vars m []) (zero_vector r.prime r.vars m) (length_vector r.prime r.vars m []) (length-replicate m P.zero)
      (λ i h. component_of_vector r.prime r.vars m [] i h ∙ sym (component_zeros P PL m i h))

  -- only the zero vector has no terms
  pub zero_terms : (m : ℕ) (v : Vec) → length v ≡ m → is_zero (terms_of r v) ≡ true → v ≡ zero_vector r.prime r.vars m
  zero_terms m v l e = sym (terms_mean r m v l) ∙ ap (vector_of r.prime r.vars m) (no_terms (terms_of r v) e) ∙ no_terms_mean m

  -- ---- generators of a part of the kernel
  module _ (a b : ℕ) (g : Graph r) (G : IsCompletedGraph r g) (wide : width r g ≡ a + b) where
    abbrev S : List Vec
    S = (syzygies r g).columns

    long : AllLong r.prime r.vars (a + b) S
    long w i = syzygies_long r g G w i ∙ wide

    in_kernel : (w : Vec) → InKernel r.prime r.vars g.matrix w ↔ Span (a + b) S w
    unfolding syzygies
    in_kernel w = subst (λ k. InKernel r.prime r.vars g.matrix w ↔ Span k S w) wide (syzygies_generate r g G w)

    abbrev candidates : List Vec
    candidates = filter (λ v. is_nonzero r (take a v)) S

    upper_long : (w : Vec) → In S w → length (take a w) ≡ a
    upper_long w i = length_upper a b w (long w i)

    module _ (kept : List Vec) (T : Trimmed r a (take a) [] candidates kept) where
      from_kernel : (w : Vec) → In kept w → In S w
      from_kernel w i = (in_filter (λ v. is_nonzero r (take a v)) S w (T.part w i)).0

      long_upper : AllLong r.prime r.vars a (map (take a) kept)
      long_upper v i = let x = in_of_map (take a) kept i in ap length (sym x.2) ∙ upper_long x.0 (from_kernel x.0 x.1)

      long_lower : AllLong r.prime r.vars b (map (drop a) kept)
      long_lower v i = let x = in_of_map (drop a) kept i in ap length (sym x.2) ∙ length_lower a b x.0 (long x.0 (from_kernel x.0 x.1))

      abbrev found : MatrixOf r
      found = part r a (take a) kept

      all_spanned : (w : Vec) → In S w → Span a (map (take a) kept) (take a w)
      all_spanned w i = go (is_zero (terms_of r (take a w))) refl
        where
          go : (z : Bool) → is_zero (terms_of r (take a w)) ≡ z → Span a (map (take a) kept) (take a w)
          go true e = zero_spanned a (map (take a) kept) (take a w) (upper_long w i) e
          go false e = T.same w (filter_in (λ v. is_nonzero r (take a v)) S w i (ap not e))

      generates : (v : Vec) → InImage r.prime r.vars found v ↔ ((u : Vec) × (length u ≡ b) × (length v ≡ a) × InKernel r.prime r.vars g.matrix (v ++ u))
      generates v = (
        λ h.
            let x = span_above a b kept v h in (
              x.0,
              x.1,
              image_length r.prime r.vars a r.order (map (take a) kept) v h,
              (in_kernel (v ++ x.0)).1 (span_within r.prime r.vars (a + b) r.order kept S (λ w i. span_own r.prime r.vars (a + b) r.order S w (from_kernel w i) (long w (from_kernel w i))) (v ++ x.0) x.2),
            ),
        λ (u, l, k, h).
            subst (Span a (map (take a) kept)) (take_front a v u k)
            (span_within r.prime r.vars a r.order (map (take a) S) (map (take a) kept) (λ w i. let x = in_of_map (take a) S i in subst (Span a (map (take a) kept)) x.2 (all_spanned x.0 x.1)) (take a (v ++ u))
            (upper_span a b S (v ++ u) ((in_kernel (v ++ u)).0 h))),
      )
        where
          take_front : (a : ℕ) (v u : Vec) → length v ≡ a → take a (v ++ u) ≡ v
          take_front zero [] u l = refl
          take_front zero (x ∷ v) u l = absurd (omega arith)
          take_front (suc a) [] u l = absurd (omega arith)
          take_front (suc a) (x ∷ v) u l = ap (λ y. x ∷ y) (take_front a v u (omega arith))

      kernel : (j : ℕ) → j < length found.columns → InKernel r.prime r.vars g.matrix (get_or found.columns j [] ++ get_or (map (drop a) kept) j [])
      kernel j h =
          let w = get_or kept j [] in
          let l : j < length kept = subst (λ k. j < k) (length-map kept (take a)) h in
          let i = in_place [] kept j l in
          subst (InKernel r.prime r.vars g.matrix) (sym (ap₂ (λ x y. x ++ y) (get_or-map (take a) kept j [] [] l) (get_or-map (drop a) kept j [] [] l) ∙ take-append-drop a w))
          ((in_kernel w).1 (span_own r.prime r.vars (a + b) r.order S w (from_kernel w i) (long w (from_kernel w i))))

      free : (xs ys : List Vec) (v : Vec) → map (take a) kept ≡ xs ++ v ∷ ys → ¬ (Span a (xs ++ ys) v)
      free xs ys v e s =
          let x = map_split (take a) kept xs v ys e in
          T.free x.0 x.2 x.1 x.3 (subst₂ (λ vs w. Span a vs w) (sym (map_append (take a) x.0 x.2 ∙ ap₂ (λ p q. p ++ q) x.4 x.6)) (sym x.5) s)

      abbrev made : (W : MatrixOf r) (h : Graph r) → Preimage r
      made W h = record { whole = g; found = found; x = part r b (drop a) kept; w = W; graph = h }

      generating_made : (W : MatrixOf r) (h : Graph r) (H : IsCompletedGraph r h) → h.matrix ≡ found → (units left : ℕ) → Ends (lifted r h (map (take a) S) units) W left → Generating r a b g (made W h)
      generating_made W h H e units left ends =
          let long_s : AllLong r.prime r.vars a (map (take a) S) = (λ v i. let x = in_of_map (take a) S i in ap length (sym x.2) ∙ upper_long x.0 x.1) in
          let inside : (v : Vec) → In (map (take a) S) v → InImage r.prime r.vars found v = (λ v i. let x = in_of_map (take a) S i in subst (Span a (map (take a) kept)) x.2 (all_spanned x.0 x.1)) in
          let s = lifted_solves r h H (map (take a) S) (λ v i. long_s v i ∙ sym (ap (λ (M : MatrixOf r). M.rows) e)) (λ v i. subst (λ M. InImage r.prime r.vars M v) (sym e) (inside v i)) units left W ends in
          let solved = subst (λ M. Solved r.prime r.vars M (map (take a) S) W.columns) e s.0 in
          let w_is : W ≡ record { rows = length found.columns; columns = W.columns } = s.1 ∙ (λ i. record { rows = length (e i).columns; columns = W.columns }) in
          let shape : HasShape r.prime r.vars a (length found.columns) found = shape_of r.prime r.vars a (map (take a) kept) long_upper in
          record {
            whole = refl;
            found_shape = shape;
            x_shape = subst (λ k. HasShape r.prime r.vars b k (part r b (drop a) kept)) (length-map kept (drop a) ∙ sym (length-map kept (take a))) (shape_of r.prime r.vars b (map (drop a) kept) long_lower);
            graph = H;
            graph_matrix = e;
            kernel = kernel;
            w_shape = subst₂ (λ k M. HasShape r.prime r.vars (length found.columns) k M) (length-map S (take a)) (sym w_is) (solutions_shaped r.prime r.vars a found (map (take a) S) W.columns solved);
            w_equation = ap (matrix_product r.prime r.vars found) w_is ∙ solutions_product r.prime r.vars a found (map (take a) S) W.columns shape long_s solved;
            generates = generates;
            free = free;
          }

    pub generating_is : (units left : ℕ) (Q : Preimage r) → Ends (generating r a b g units) Q left → Generating r a b g Q
    unfolding generating
    generating_is units left Q ends =
        let after_graph = λ (kept : List Vec) (h : Graph r). lifted r h (map (take a) S) >>= λ w. ready (record { whole = g; found = part r a (take a) kept; x = part r b (drop a) kept; w = w; graph = h }) in
        let x = bound (trimmed r (take a) candidates) (λ kept. graph_run r (part r a (take a) kept) >>= after_graph kept) units left Q ends in
        let kept = x.value in
        let T = trimmed_is r a (take a) candidates (λ w i. upper_long w (in_filter (λ v. is_nonzero r (take a v)) S w i).0) units x.between kept x.first in
        let y = bound (graph_run r (part r a (take a) kept)) (after_graph kept) x.between left Q x.second in
        let H = graph_is r (part r a (take a) kept) (shape_of r.prime r.vars a (map (take a) kept) (long_upper kept T)) x.between y.between y.value y.first in
        let z = bound (lifted r y.value (map (take a) S)) (λ w. ready (record { whole = g; found = part r a (take a) kept; x = part r b (drop a) kept; w = w; graph = y.value })) y.between left Q y.second in
        subst (Generating r a b g) (same_value (made kept T z.value y.value) Q z.between left z.second) (generating_made kept T z.value y.value H.0 H.1 y.between z.between z.first)

  -- ---- kernels and preimages
  pub own_shape : (k c : ℕ) (B : MatrixOf r) → HasShape r.prime r.vars k c B → HasShape r.prime r.vars B.rows (length B.columns) B
  unfolding HasShape
  own_shape k c B s = (refl, refl, λ j h. s.2 j (subst (λ k. j < k) s.1 h) ∙ sym s.0)

  cols_of : (k c : ℕ) (B : MatrixOf r) → HasShape r.prime r.vars k c B → length B.columns ≡ c
  unfolding HasShape
  cols_of k c B s = s.1

  rows_shape : (k c : ℕ) (B : MatrixOf r) → HasShape r.prime r.vars k c B → B.rows ≡ k
  unfolding HasShape
  rows_shape k c B s = s.0

  -- from the completed graph of A, generators of its kernel
  pub kernel_from : (g : Graph r) → IsCompletedGraph r g → (units left : ℕ) (Q : Preimage r) → Ends (generating r (width r g) 0 g units) Q left → GeneratesKernel r.prime r.vars Q.found g.matrix
  unfolding InKernel
  kernel_from g G units left Q ends w =
      let D = generating_is (width r g) 0 g G (plain (width r g)) units left Q ends in (
        λ k. (D.generates w).1 ([], refl, k.0, subst (InKernel r.prime r.vars g.matrix) (sym (append_nil w)) k),
        λ i. let x = (D.generates w).0 i in subst (InKernel r.prime r.vars g.matrix) (ap (λ u. w ++ u) (none x.0 x.1) ∙ append_nil w) x.3,
      )
    where
      plain : (a : ℕ) → a ≡ a + 0
      plain a = omega arith

      append_nil : (xs : List (Polynomial r.prime r.vars)) → xs ++ [] ≡ xs
      append_nil [] = refl
      append_nil (x ∷ xs) = ap (λ ys. x ∷ ys) (append_nil xs)

      none : (u : List (Polynomial r.prime r.vars)) → length u ≡ 0 → u ≡ []
      none [] l = refl
      none (x ∷ u) l = absurd (omega arith)

  pub record IsKernel (A : MatrixOf r) (Q : Preimage r) : Type 0 where
    pub whole : IsCompletedGraph r Q.whole
    pub matrix : Q.whole.matrix ≡ A
    pub generating : Generating r (length A.columns) 0 Q.whole Q
    pub generates : GeneratesKernel r.prime r.vars Q.found A

  pub kernel_is : (A : MatrixOf r) → HasShape r.prime r.vars A.rows (length A.columns) A → (units left : ℕ) (Q : Preimage r) → Ends (kernel_run r A units) Q left → IsKernel A Q
  unfolding kernel_run
  kernel_is A s units left Q ends =
      let b = bound (graph_run r A) (generating r (length A.columns) 0) units left Q ends in
      let g = graph_is r A s units b.between b.value b.first in
      let wide : width r b.value ≡ length A.columns = ap (λ (M : MatrixOf r). length M.columns) g.1 in
      let D = generating_is (length A.columns) 0 b.value g.0 (wide ∙ plain (length A.columns)) b.between left Q b.second in
      record {
        whole = subst (IsCompletedGraph r) (sym D.whole) g.0;
        matrix = ap (λ (h : Graph r). h.matrix) D.whole ∙ g.1;
        generating = subst (λ h. Generating r (length A.columns) 0 h Q) (sym D.whole) D;
        generates = subst (GeneratesKernel r.prime r.vars Q.found) g.1 (kernel_from b.value g.0 b.between left Q (subst (λ a. Ends (generating r a 0 b.value b.between) Q left) (sym wide) b.second));
      }
    where
      plain : (a : ℕ) → a ≡ a + 0
      plain a = omega arith

  pub record IsPreimage (A B : MatrixOf r) (Q : Preimage r) : Type 0 where
    pub whole : IsCompletedGraph r Q.whole
    pub matrix : Q.whole.matrix ≡ matrix_beside r.prime r.vars A B
    pub generating : Generating r (length A.columns) (length B.columns) Q.whole Q
    pub generates : GeneratesPreimage r.prime r.vars Q.found A B

  beside_shape : (k a b : ℕ) (A B : MatrixOf r) → HasShape r.prime r.vars k a A → HasShape r.prime r.vars k b B → HasShape r.prime r.vars k (a + b) (matrix_beside r.prime r.vars A B)
  unfolding HasShape matrix_beside
  beside_shape k a b A B s t = joined_shaped P k a b A B s.0 s.1 t.1

  pub preimage_run_is : (k a b : ℕ) (A B : MatrixOf r) → HasShape r.prime r.vars k a A → HasShape r.prime r.vars k b B → (units left : ℕ) (Q : Preimage r) → Ends (preimage_run r A B units) Q left → IsPreimage A B Q
  unfolding preimage_run
  preimage_run_is k a b A B s t units left Q ends =
      let J = matrix_beside r.prime r.vars A B in
      let shape = beside_shape k a b A B s t in
      let x = bound (graph_run r J) (generating r (length A.columns) (length B.columns)) units left Q ends in
      let g = graph_is r J (own_shape k (a + b) J shape) units x.between x.value x.first in
      let wide : width r x.value ≡ length A.columns + length B.columns =
      ap (λ (M : MatrixOf r). length M.columns) g.1 ∙ cols_of k (a + b) J shape ∙ ap₂ (λ i j. i + j) (sym (cols_of k a A s)) (sym (cols_of k b B t)) in
      let D = generating_is (length A.columns) (length B.columns) x.value g.0 wide x.between left Q x.second in
      let joins = preimage_is r.prime r.vars A B (rows_shape k b B t ∙ sym (rows_shape k a A s)) in
      record {
        whole = subst (IsCompletedGraph r) (sym D.whole) g.0;
        matrix = ap (λ (h : Graph r). h.matrix) D.whole ∙ g.1;
        generating = subst (λ h. Generating r (length A.columns) (length B.columns) h Q) (sym D.whole) D;
        generates = λ w. (
          λ h. let y = (joins w).0 h in (D.generates w).1 (y.1.0, y.1.1, y.0, subst (λ M. InKernel r.prime r.vars M (w ++ y.1.0)) (sym g.1) y.1.2),
          λ i. let y = (D.generates w).0 i in (joins w).1 (y.2, (y.0, y.1, subst (λ M. InKernel r.prime r.vars M (w ++ y.0)) g.1 y.3)),
        );
      }
