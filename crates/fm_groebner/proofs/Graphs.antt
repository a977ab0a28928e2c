-- Kernels and images from a Gröbner basis of the graph of a matrix.
use Rattle.std.proofs.Common.{◌≡◌, ◌↔◌, inl, inr, ℕ, ◌+◌, ◌<◌, ◌≤◌, List, [], ◌∷◌, ◌++◌, map, length, replicate, drop, get_or, Contains, refl, sym, ap, ap₂, ◌∙◌, subst, arith, Bool}
use Rattle.std.proofs.lemmas.List.{length-append, length-map, length-replicate}
use Rattle.fm_gfp.specs.declared.prime.Prime.{Prime}
use Rattle.fm_mono.specs.declared.order.Order.{Order}
use Rattle.fm_algebra.specs.Ring.{Ring, IsRing}
use Rattle.fm_algebra.specs.Gf.{gf, gf_is_zero}
use Rattle.fm_algebra.specs.Matrix.{component, listed, apply}
use Rattle.fm_algebra.specs.Polynomials.{Polynomial, polynomials, polynomial_one, polynomial_zero, polynomial_negative}
use Rattle.fm_algebra.specs.PolynomialMatrices.{PolynomialMatrix, HasShape, InImage, InKernel, vector_product, matrix_above, matrix_unit}
use Rattle.fm_algebra.proofs.Gf.{gf_laws}
use Rattle.fm_algebra.proofs.Algebra.{mul_zero, neg_unique, neg_zero}
use Rattle.fm_algebra.proofs.Tables.{length-apply}
use Rattle.fm_algebra.proofs.Concrete.{polynomials_laws}
use Rattle.fm_groebner.proofs.Vectors.{length_vector}
use Rattle.fm_term.specs.declared.vterm.VTerm.{VTerm}
use Rattle.fm_term.specs.Falling.{IsFalling}
use Rattle.fm_term.specs.Meanings.{vector_of, vectors_of}
use Rattle.fm_groebner.specs.Bases.{generators}
use Rattle.fm_groebner.specs.Logs.{ReducesBy, IsIrreducible}
use Rattle.fm_groebner.specs.Graphs.{graph, unit_vector, IsGraphBasis, zero_vector, vector_negative, AreLowerBlocks}
use Rattle.fm_groebner.proofs.Setting as setting
use Rattle.fm_groebner.proofs.Setting.{Vect, In, in_map, lin_comb, Span, Divides, IsFinite}
use Rattle.fm_groebner.proofs.Differences.{scale_only, sum_back, diff_back}
use Rattle.fm_groebner.proofs.Span.{lin_nil, lin_eq, span_member, span_bind, finite_eq}
use Rattle.fm_groebner.proofs.Basis.{eliminate, reduces_span}
use Rattle.fm_groebner.proofs.Monomials.{Monomial}
use Rattle.fm_groebner.proofs.Ordered.{ordered}
use Rattle.fm_groebner.proofs.Values.{value_finite}
use Rattle.fm_groebner.proofs.Numbers.{in_of_contains, contains_of_in, in_of_map}
use Rattle.fm_groebner.proofs.TermValues.{space, list_value, vector_value, head_of_terms}
use Rattle.fm_groebner.proofs.MonicLists.{head_place, reduces_falling}
use Rattle.fm_groebner.proofs.Bases.{Generated, Divided, divided_monic, groebner_of_basis, image_vector, span_of, image_of, image_length}
use Rattle.fm_groebner.proofs.Blocks as Blocks
use Rattle.fm_groebner.proofs.Blocks.{component_sum, upper_dec, lower_level, upper_zero, below_of_upper, upper_same, upper_of_rest}
use Rattle.fm_groebner.proofs.Membership.{reduces_divided, divides_listed}
use Rattle.fm_groebner.proofs.Twists.{component_map}
use Rattle.fm_groebner.proofs.GraphMatrices.{graph_columns_listed, append_injective, graph_cols, zeros, component_left, component_right, component_zeros, same_components, graph_apply, lowered_apply}

module _ (p : Prime) (n : ℕ) (o : Order) where
  abbrev P : Ring
  P = polynomials p n

  PL : IsRing P
  PL = polynomials_laws p n

  module _ (A : PolynomialMatrix p n) where
    abbrev m : ℕ
    m = A.rows

    abbrev c : ℕ
    c = length A.columns

    abbrev Upper : ℕ × Monomial n → Type 0
    Upper = Blocks.Upper p n o m c

    -- ---- the image of the graph
    graph_to : (v : List (Polynomial p n)) → InImage p n (generators p n (m + c) (graph p n A).columns) v → (w : List (Polynomial p n)) × (length w ≡ c) × (v ≡ apply P A w ++ w)
    unfolding InImage matrix_above matrix_unit
    graph_to v (w, l, e) = (w, l ∙ graph_cols_length, sym e ∙ graph_apply P PL A w (l ∙ graph_cols_length))
      where
        graph_cols_length : length (graph p n A).columns ≡ c
        graph_cols_length = graph_cols P PL A

    graph_of : (w : List (Polynomial p n)) → length w ≡ c → InImage p n (generators p n (m + c) (graph p n A).columns) (apply P A w ++ w)
    unfolding InImage matrix_above matrix_unit
    graph_of w l = (w, l ∙ sym (graph_cols P PL A), graph_apply P PL A w l)

    module _ (members : List (List (Polynomial p n))) (basis : IsGraphBasis p n o A members) where
      abbrev X : setting.Setting
      X = space p n (m + c) o

      abbrev W : List (Polynomial p n) → Vect X
      W v = vector_value p n (m + c) o v

      abbrev columns : List (List (Polynomial p n))
      columns = (graph p n A).columns

      abbrev basis_functions : setting.IsGroebner X (Divided p n (m + c) o members) (Generated p n (m + c) o columns)
      basis_functions = groebner_of_basis p n (m + c) o members columns basis

      generated_finite : (g : Vect X) → Generated p n (m + c) o columns g → IsFinite X g
      generated_finite g v = finite_eq X v.2 (value_finite (ordered o n) (gf p) (gf_laws p) (gf_is_zero p) (m + c) v.0)

      -- ---- the kernel
      module _ (C : List (List (Polynomial p n))) (blocks : AreLowerBlocks p n m members C) where
        abbrev below_columns : List (List (Polynomial p n))
        below_columns = map (λ w. zero_vector p n m ++ w) C

        -- a member that is zero in the upper block has its lower block among the columns
        lower_member : (g : Vect X) → (h : ℕ × Monomial n) × Divided p n (m + c) o members g h × ((b : ℕ × Monomial n) → Upper b → g b ≡ (gf p).zero) → Span X (Generated p n (m + c) o below_columns) g
        lower_member g (h, d, z) = lin_comb d.factor (span_member X (d.vector, listed, λ b. refl)) (lin_nil X) (λ b. scale_only (gf_laws p) d.factor (W d.vector b) (g b) (d.is b))
          where
            vector_zero : (b : ℕ × Monomial n) → Upper b → W d.vector b ≡ (gf p).zero
            vector_zero b up =
                sym ((gf_laws p).one_mul (W d.vector b))
                ∙ ap (λ x. (gf p).mul x (W d.vector b)) (sym d.inverse ∙ (gf_laws p).mul_comm d.factor (W d.vector h))
                ∙ (gf_laws p).mul_assoc (W d.vector h) d.factor (W d.vector b)
                ∙ ap ((gf p).mul (W d.vector h)) (sym (d.is b) ∙ z b up)
                ∙ mul_zero (gf_laws p) (W d.vector h)

            split : d.vector ≡ zero_vector p n m ++ drop m d.vector
            split = below_of_upper p n o m c d.vector (image_length p n (m + c) o columns d.vector (basis.inside d.vector (contains_of_in d.is_member))) vector_zero

            listed : In below_columns d.vector
            listed = subst (In below_columns) (sym split) (in_map (λ w. zero_vector p n m ++ w)
                (in_of_contains C (drop m d.vector) ((blocks (drop m d.vector)).1 (subst (Contains members) split (contains_of_in d.is_member)))))

        -- the products of the columns below zeros are those of the columns, below zeros
        lowered_to : (w : List (Polynomial p n)) → InImage p n (generators p n (m + c) below_columns) (zero_vector p n m ++ w) → InImage p n (generators p n c C) w
        unfolding InImage polynomial_zero
        lowered_to w (y, l, e) = (
          y,
          l ∙ length-map C (λ w. zero_vector p n m ++ w),
          sym (append_injective (zeros P PL m) (zeros P PL m) w (apply P (generators p n c C) y) refl (sym e ∙ lowered_apply P PL m c C y)).1,
        )

        lowered_from : (w : List (Polynomial p n)) → InImage p n (generators p n c C) w → InImage p n (generators p n (m + c) below_columns) (zero_vector p n m ++ w)
        unfolding InImage polynomial_zero
        lowered_from w (y, l, e) = (y, l ∙ sym (length-map C (λ w. zero_vector p n m ++ w)), lowered_apply P PL m c C y ∙ ap (λ u. zeros P PL m ++ u) e)

        kernel_to_image : (w : List (Polynomial p n)) → InKernel p n A w → InImage p n (generators p n c C) w
        unfolding InKernel polynomial_zero
        kernel_to_image w k = lowered_to w (image_of p n (m + c) o below_columns (zero_vector p n m ++ w) long in_lowers)
          where
            long : length (zero_vector p n m ++ w) ≡ m + c
            long = length-append (zero_vector p n m) w ∙ ap₂ (λ x y. x + y) (length-replicate m P.zero) k.0

            in_graph : InImage p n (generators p n (m + c) columns) (zero_vector p n m ++ w)
            in_graph = subst (λ u. InImage p n (generators p n (m + c) columns) (u ++ w)) k.1 (graph_of w k.0)

            in_lowers : Span X (Generated p n (m + c) o below_columns) (W (zero_vector p n m ++ w))
            in_lowers = span_bind X (λ g l. lower_member g l)
                (eliminate X (divided_monic p n (m + c) o members) basis_functions generated_finite Upper (upper_dec p n o m c) (λ a b na ub. inl (lower_level p n o m c a b na ub)) (λ t x up. up)
                (W (zero_vector p n m ++ w)) (span_of p n (m + c) o columns (zero_vector p n m ++ w) in_graph) (upper_zero p n o m c w))

        below_span : (g : Vect X) → Generated p n (m + c) o below_columns g → Span X (Generated p n (m + c) o columns) g
        below_span g (v, i, e) =
            let x = in_of_map (λ w. zero_vector p n m ++ w) C i in
            lin_eq X (span_of p n (m + c) o columns v (basis.inside v (subst (Contains members) x.2 ((blocks x.0).0 (contains_of_in x.1))))) e

        image_to_kernel : (w : List (Polynomial p n)) → InImage p n (generators p n c C) w → InKernel p n A w
        unfolding InKernel polynomial_zero
        image_to_kernel w i = in_kernel (graph_to (zero_vector p n m ++ w) (image_of p n (m + c) o columns (zero_vector p n m ++ w) long in_span))
          where
            long : length (zero_vector p n m ++ w) ≡ m + c
            long = length-append (zero_vector p n m) w ∙ ap₂ (λ x y. x + y) (length-replicate m P.zero) (image_length p n c o C w i)

            in_span : Span X (Generated p n (m + c) o columns) (W (zero_vector p n m ++ w))
            in_span = span_bind X below_span (span_of p n (m + c) o below_columns (zero_vector p n m ++ w) (lowered_from w i))

            in_kernel : (u : List (Polynomial p n)) × (length u ≡ c) × (zero_vector p n m ++ w ≡ apply P A u ++ u) → (length w ≡ c) × (apply P A w ≡ replicate m P.zero)
            in_kernel (u, l, e) =
                let parts = append_injective (zeros P PL m) (apply P A u) w u (length-replicate m P.zero ∙ sym (length-apply P A u)) e in
                (ap length parts.1 ∙ l, ap (apply P A) parts.1 ∙ sym parts.0)

        -- the lower blocks of the members with a zero upper block generate the kernel
        pub kernel_of_graph : (w : List (Polynomial p n)) → InKernel p n A w ↔ InImage p n (generators p n c C) w
        kernel_of_graph w = (kernel_to_image w, image_to_kernel w)

    -- ---- the image
    module _ {bound : List ℕ → Bool} (ms : List (List VTerm)) (falling : (x : List VTerm) → Contains ms x → IsFalling p n (m + c) o x) (basis : IsGraphBasis p n o A (vectors_of p n (m + c) ms))
        {by : List ℕ} {t r : List VTerm} (red : ReducesBy p n (m + c) o bound ms by t r) (falls : IsFalling p n (m + c) o t) (v : List (Polynomial p n)) (fits : length v ≡ m)
        (is : vector_of p n (m + c) t ≡ v ++ zero_vector p n c) where
      abbrev Z : setting.Setting
      Z = space p n (m + c) o

      abbrev U : List (Polynomial p n) → Vect Z
      U w = vector_value p n (m + c) o w

      rest : List (Polynomial p n)
      rest = vector_of p n (m + c) r

      abbrev graph_columns : List (List (Polynomial p n))
      graph_columns = (graph p n A).columns

      abbrev basis_family : setting.IsGroebner Z (Divided p n (m + c) o (vectors_of p n (m + c) ms)) (Generated p n (m + c) o graph_columns)
      basis_family = groebner_of_basis p n (m + c) o (vectors_of p n (m + c) ms) graph_columns basis

      reduction : setting.Reduces Z (Divided p n (m + c) o (vectors_of p n (m + c) ms)) (list_value p n (m + c) o t) (list_value p n (m + c) o r)
      reduction = reduces_divided p n (m + c) o ms falling red falls

      difference_span : Span Z (Generated p n (m + c) o graph_columns) (λ b. (gf p).add ((gf p).mul ((gf p).neg (gf p).one) (list_value p n (m + c) o r b)) (list_value p n (m + c) o t b))
      difference_span = reduces_span Z basis_family.members reduction

      -- v over zeros is the rest and a vector of the graph
      Taken : List (Polynomial p n) → Type 0
      Taken u = (length u ≡ c) × ((i : ℕ) → i < m + c → component P (v ++ zero_vector p n c) i ≡ P.add (component P rest i) (component P (apply P A u ++ u) i))

      taken : (u : List (Polynomial p n)) × Taken u
      unfolding Taken rest
      taken =
          let d = image_vector p n (m + c) o graph_columns difference_span in
          let u = graph_to d.0 d.1 in (
            u.0,
            (
              u.1,
              λ i h. ap (λ x. component P x i) (sym is)
                  ∙ component_sum p n o (m + c) (vector_of p n (m + c) t) (vector_of p n (m + c) r) d.0
                  (λ b. sum_back (gf_laws p) (list_value p n (m + c) o r b) (list_value p n (m + c) o t b) ∙ ap ((gf p).add (list_value p n (m + c) o r b)) (d.2 b)) i h
                  ∙ ap (λ x. P.add (component P (vector_of p n (m + c) r) i) (component P x i)) u.2,
            ),
          )

      -- where the upper block of the rest is zero, minus its lower block is a solution
      pub solution_of_rest : (w : List (Polynomial p n)) → vector_of p n (m + c) r ≡ zero_vector p n m ++ w → (length w ≡ c) × (vector_product p n A (vector_negative p n w) ≡ v)
      unfolding Taken rest vector_product polynomial_negative polynomial_zero
      solution_of_rest w e = (size, ap (apply P A) (sym lower) ∙ sym upper)
        where
          size : length w ≡ c
          size =
              let a : length (vector_of p n (m + c) r) ≡ m + c = length_vector p n (m + c) r in
              let b : length (zero_vector p n m ++ w) ≡ length (zero_vector p n m) + length w = length-append (zero_vector p n m) w in
              let d : length (zero_vector p n m) ≡ m = length-replicate m P.zero in
              let g : length (vector_of p n (m + c) r) ≡ length (zero_vector p n m ++ w) = ap length e in
              omega (arith, a, b, d, g)

          u : List (Polynomial p n)
          u = taken.0

          upper : v ≡ apply P A u
          upper = same_components P PL m v (apply P A u) fits (length-apply P A u) (λ i h.
              sym (component_left P PL v (zeros P PL c) i (subst (λ x. i < x) (sym fits) h))
              ∙ taken.1.1 i (omega (arith, h))
              ∙ ap₂ P.add (ap (λ x. component P x i) e ∙ component_left P PL (zeros P PL m) w i (subst (λ x. i < x) (sym (length-replicate m P.zero)) h) ∙ component_zeros P PL m i h)
              (component_left P PL (apply P A u) u i (subst (λ x. i < x) (sym (length-apply P A u)) h))
              ∙ PL.zero_add (component P (apply P A u) i))

          lower : u ≡ map P.neg w
          lower = same_components P PL c u (map P.neg w) taken.1.0 (length-map w P.neg ∙ size) (λ j h.
              neg_unique PL (component P w j) (component P u j) (sym (
              sym (component_zeros P PL c j h)
              ∙ sym (component_right P PL m v (zeros P PL c) j fits)
              ∙ taken.1.1 (m + j) (omega (arith, h))
              ∙ ap₂ P.add (ap (λ x. component P x (m + j)) e ∙ component_right P PL m (zeros P PL m) w j (length-replicate m P.zero)) (component_right P PL m (apply P A u) u j (length-apply P A u))))
              ∙ sym (component_map p n P.neg (neg_zero PL) w j))

      -- where v is in the image, the upper block of an irreducible rest is zero
      module _ (irreducible : IsIrreducible ms r) (x : List (Polynomial p n)) (size : length x ≡ c) (solves : apply P A x ≡ v) where
        Y : Vect Z
        Y b = (gf p).add ((gf p).mul ((gf p).neg (gf p).one) ((gf p).add ((gf p).mul ((gf p).neg (gf p).one) (list_value p n (m + c) o r b)) (list_value p n (m + c) o t b))) (U (v ++ x) b)

        y_span : Span Z (Generated p n (m + c) o graph_columns) Y
        unfolding Y
        y_span = lin_comb ((gf p).neg (gf p).one) difference_span
            (span_of p n (m + c) o graph_columns (v ++ x) (subst (λ u. InImage p n (generators p n (m + c) graph_columns) (u ++ x)) solves (graph_of x size))) (λ b. refl)

        y_upper : (b : ℕ × Monomial n) → Upper b → Y b ≡ list_value p n (m + c) o r b
        unfolding Y
        y_upper b up = ap ((gf p).add ((gf p).mul ((gf p).neg (gf p).one) ((gf p).add ((gf p).mul ((gf p).neg (gf p).one) (list_value p n (m + c) o r b)) (list_value p n (m + c) o t b))))
            (upper_same p n o m c v x (zero_vector p n c) fits b up ∙ ap (λ u. U u b) (sym is))
            ∙ sym (diff_back (gf_laws p) (list_value p n (m + c) o r b) (list_value p n (m + c) o t b))

        head_low : (s : VTerm) (rs : List VTerm) (f : IsFalling p n (m + c) o (s ∷ rs)) → r ≡ s ∷ rs → ¬ (Upper (head_place p n (m + c) o (s ∷ rs) f))
        head_low s rs f e up = divides_listed p n (m + c) o ms falling s rs f (subst (IsIrreducible ms) e irreducible)
            (basis_family.heads Y (head_place p n (m + c) o (s ∷ rs) f) y_span y_head)
          where
            hd : setting.IsHead Z (list_value p n (m + c) o r) (head_place p n (m + c) o (s ∷ rs) f)
            hd = subst (λ z. setting.IsHead Z (list_value p n (m + c) o z) (head_place p n (m + c) o (s ∷ rs) f)) (sym e) (head_of_terms p n (m + c) o s rs f)

            level_up : (b : ℕ × Monomial n) → Z.Less (head_place p n (m + c) o (s ∷ rs) f) b → c ≤ b.0
            level_up b (inl l) = omega (arith, up, l)
            level_up b (inr l) = let q = l.0 in omega (arith, up, q)

            y_head : setting.IsHead Z Y (head_place p n (m + c) o (s ∷ rs) f)
            y_head = ((λ z. hd.0 (sym (y_upper (head_place p n (m + c) o (s ∷ rs) f) up) ∙ z)), λ b l. y_upper b (level_up b l) ∙ hd.1 b l)

        pub rest_of_solution : vector_of p n (m + c) r ≡ zero_vector p n m ++ drop m (vector_of p n (m + c) r)
        rest_of_solution = below_of_upper p n o m c (vector_of p n (m + c) r) (length_vector p n (m + c) r) (upper_of_rest p n o m c r (reduces_falling p n (m + c) o red falls) head_low)

      -- v is in the image exactly where the upper block of an irreducible rest is zero
      pub image_of_graph : IsIrreducible ms r → InImage p n A v ↔ (w : List (Polynomial p n)) × (vector_of p n (m + c) r ≡ zero_vector p n m ++ w)
      unfolding InImage vector_product
      image_of_graph irreducible = (
        λ i. (drop m (vector_of p n (m + c) r), rest_of_solution irreducible i.0 i.1 i.2),
        λ w. let s = solution_of_rest w.0 w.1 in (vector_negative p n w.0, length-map w.0 (polynomial_negative p n) ∙ s.0, s.1),
      )

-- the columns of the graph
module _ (p : Prime) (n : ℕ) (A : PolynomialMatrix p n) where
  pub graph_columns_are : HasShape p n A.rows (length A.columns) A → (graph p n A).columns ≡ listed (length A.columns) (λ j. get_or A.columns j [] ++ unit_vector p n (length A.columns) j)
  unfolding HasShape matrix_above matrix_unit polynomial_one polynomial_zero
  graph_columns_are shape = graph_columns_listed (polynomials p n) (polynomials_laws p n) A shape.2
