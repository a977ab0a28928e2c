-- What equations of matrices show of kernels and preimages, and what a reduction shows of an image
use Rattle.std.proofs.Common.{◌^◌, ◌≡◌, ◌⊎◌, inl, inr, ℕ, zero, suc, ◌+◌, ◌-◌, ◌<◌, ◌≤◌, ◌↔◌, List, [], ◌∷◌, ◌++◌, map, length, get_or, take, refl, sym, ap, ap₂, ◌∙◌, subst, arith, Bool}
use Rattle.std.proofs.lemmas.Bool.{cases_lt}
use Rattle.std.proofs.lemmas.List.{length-map, get_or-map}
use Rattle.fm_gfp.specs.Primes.{prime_value}
use Rattle.fm_gfp.specs.declared.prime.Prime.{Prime}
use Rattle.fm_mono.specs.declared.order.Order.{Order}
use Rattle.fm_algebra.specs.Matrices.{Matrices, IsMatrices}
use Rattle.fm_algebra.specs.Matrix.{entry}
use Rattle.fm_algebra.specs.Families.{Mat, mul, nil, beside, stack, either, read, vector, families}
use Rattle.fm_algebra.specs.Image.{InImage, InKernel}
use Rattle.fm_algebra.specs.Polynomials.{Polynomial, polynomials, frobenius_twist}
use Rattle.fm_algebra.specs.PolynomialMatrices as words
use Rattle.fm_algebra.specs.PolynomialMatrices.{PolynomialMatrix, HasShape, matrix_product, matrix_zero, matrix_beside, matrix_above, matrix_twist, vector_twist, InPreimage}
use Rattle.fm_algebra.proofs.Generation.{Generates, GeneratesKernel}
use Rattle.fm_algebra.proofs.Concrete.{polynomials_laws, polynomials_frobenius}
use Rattle.fm_algebra.proofs.FamilyLaws.{families_laws}
use Rattle.fm_algebra.proofs.Images.{nil_mul, mul_neg, neg_unique}
use Rattle.fm_algebra.proofs.ListImages.{through, turned, list_image, list_kernel, list_preimage, length_image}
use Rattle.fm_algebra.proofs.Tables.{list_of, length-list_of, vector_list_of, read_product, product_shaped, read_joined, joined_shaped, read_stacked, stacked_shaped, read_zero, entrywise_shaped}
use Rattle.fm_term.specs.declared.vterm.VTerm.{VTerm}
use Rattle.fm_term.specs.Falling.{IsBelowBlock, AreFalling, IsFalling}
use Rattle.fm_term.specs.Multiples.{twisted}
use Rattle.fm_term.specs.Meanings.{vector_of, vectors_of}
use Rattle.fm_groebner.specs.Graphs.{graph_rows, zero_vector, IsGraphBasis}
use Rattle.fm_groebner.specs.Logs.{ReducesBy, IsIrreducible, no_more, one_more}
use Rattle.fm_groebner.specs.Syzygies.{lower_members, syzygies, first_rows, IsKernelShown, IsPreimageShown, IsOutside, IsOutsideShown}
use Rattle.fm_groebner.proofs.Numbers.{in_of_contains, contains_of_in, in_of_map}
use Rattle.fm_groebner.proofs.Graphs.{image_of_graph}
use Rattle.fm_groebner.proofs.Consequences.{upper_block}
use Rattle.fm_groebner.proofs.Twists.{twisted_graph}
use Rattle.fm_groebner.proofs.NormalForms.{vector_of_twisted, twisted_falling}
use Rattle.fm_groebner.proofs.Syzygies.{syzygies_generate, syzygies_fit}

module _ {M : Matrices} (L : IsMatrices M) where
  open M use {Mat as Of, ◌⊛◌, ◌⊕◌, neg, nil as none, unit, beside as join, stack as over}
  open L use {assoc, unit_left, add_comm, add_nil, add_neg, join_mul}

  infixl 70 ◌⊛◌
  infixl 60 ◌⊕◌
  -- the rows of a matrix above another
  upper : {a b k : ℕ} (x : Of a k) (y : Of b k) → join (unit a) (none a b) ⊛ over x y ≡ x
  upper {a} {b} {k} x y = join_mul (unit a) (none a b) x y ∙ ap₂ (λ u v. u ⊕ v) (unit_left x) (nil_mul L a y) ∙ add_nil x

  -- the first rows of a vector in the image of (C * W above Y) are in the image of C
  upper_image : {a b c s : ℕ} (C : Of a c) (W : Of c s) (Y : Of b s) (w : Of a 1) (y : Of b 1) → InImage M (over (C ⊛ W) Y) (over w y) → InImage M C w
  upper_image {a} {b} C W Y w y (u, e) = (
    W ⊛ u,
    sym (assoc C W u) ∙ ap (λ x. x ⊛ u) (sym (upper (C ⊛ W) Y)) ∙ assoc (join (unit a) (none a b)) (over (C ⊛ W) Y) u ∙ ap (λ x. join (unit a) (none a b) ⊛ x) e ∙ upper w y,
  )

  generates_preimage : {m a b c s : ℕ} (A : Of m a) (B : Of m b) (C : Of a c) (X : Of b c) (W : Of c s) (Y : Of b s)
      → GeneratesKernel M (over (C ⊛ W) Y) (join A B) → join A B ⊛ over C X ≡ none m c → Generates M C A B
  generates_preimage {m} {a} {b} {c} A B C X W Y kernel vanishes w = (there, back)
    where
      negative : A ⊛ C ≡ B ⊛ neg X
      negative = neg_unique L (B ⊛ X) (A ⊛ C) (add_comm (B ⊛ X) (A ⊛ C) ∙ sym (join_mul A B C X) ∙ vanishes) ∙ sym (mul_neg L B X)

      there : InImage M C w → InImage M B (A ⊛ w)
      there (u, e) = (neg X ⊛ u, sym (assoc B (neg X) u) ∙ ap (λ x. x ⊛ u) (sym negative) ∙ assoc A C u ∙ ap (λ x. A ⊛ x) e)

      back : InImage M B (A ⊛ w) → InImage M C w
      back (y, e) =
          upper_image C W Y w (neg y) ((kernel (over w (neg y))).1 (join_mul A B w (neg y) ∙ ap₂ (λ u v. u ⊕ v) (sym e) (mul_neg L B y) ∙ add_neg (B ⊛ y)))

  generates_kernel : {m a c s : ℕ} (G : Of m a) (C : Of a c) (W : Of c s) → GeneratesKernel M (C ⊛ W) G → G ⊛ C ≡ none m c → GeneratesKernel M C G
  generates_kernel {m} {a} {c} G C W kernel vanishes w = (there, back)
    where
      there : InImage M C w → InKernel M G w
      there (u, e) = ap (λ x. G ⊛ x) (sym e) ∙ sym (assoc G C u) ∙ ap (λ x. x ⊛ u) vanishes ∙ nil_mul L m u

      back : InKernel M G w → InImage M C w
      back k = let i = (kernel w).1 k in (W ⊛ i.0, sym (assoc C W i.0) ∙ i.1)

module _ (p : Prime) (n : ℕ) where
  -- ---- matrices of lists, read as families
  abbrev M : Matrices
  M = families (polynomials p n) (frobenius_twist p n)

  laws : IsMatrices M
  laws = families_laws (polynomials_laws p n) (polynomials_frobenius p n)

  abbrev at : (a b : ℕ) → PolynomialMatrix p n → Mat (polynomials p n) a b
  at a b A = read (polynomials p n) a b A

  by_list : (k : ℕ) (Q : Mat (polynomials p n) k 1 → Type 0) → ((w : List (Polynomial p n)) → length w ≡ k → Q (vector (polynomials p n) k w)) → (x : Mat (polynomials p n) k 1) → Q x
  by_list k Q f x = subst Q (vector_list_of (polynomials p n) k x) (f (list_of (polynomials p n) k x) (length-list_of (polynomials p n) k x))

  kernel_from : (m a l : ℕ) (C A : PolynomialMatrix p n) → HasShape p n m a A → HasShape p n a l C → words.GeneratesKernel p n C A → GeneratesKernel M (at a l C) (at m a A)
  unfolding HasShape words.InImage words.InKernel
  kernel_from m a l C A s t g =
      by_list a (λ x. InImage M (at a l C) x ↔ InKernel M (at m a A) x) (λ w e. through (turned (list_image (polynomials p n) (frobenius_twist p n) a l C w t.0 t.1 e)) (through (turned (g w)) (list_kernel (polynomials p n) (frobenius_twist p n) m a A w s.0 s.1 e)))

  kernel_to : (m a c : ℕ) (C G : PolynomialMatrix p n) → HasShape p n m a G → HasShape p n a c C → GeneratesKernel M (at a c C) (at m a G) → words.GeneratesKernel p n C G
  unfolding HasShape words.InImage words.InKernel
  kernel_to m a c C G s t g w = (
    λ k. let l = k.0 ∙ s.1 in (list_image (polynomials p n) (frobenius_twist p n) a c C w t.0 t.1 l).1 ((g (vector (polynomials p n) a w)).1 ((list_kernel (polynomials p n) (frobenius_twist p n) m a G w s.0 s.1 l).0 k)),
    λ i. let l = length_image (polynomials p n) (frobenius_twist p n) C w i ∙ t.0 in (list_kernel (polynomials p n) (frobenius_twist p n) m a G w s.0 s.1 l).1 ((g (vector (polynomials p n) a w)).0 ((list_image (polynomials p n) (frobenius_twist p n) a c C w t.0 t.1 l).0 i)),
  )

  preimage_to : (m a b c : ℕ) (C A B : PolynomialMatrix p n) → HasShape p n m a A → HasShape p n m b B → HasShape p n a c C → Generates M (at a c C) (at m a A) (at m b B) → words.GeneratesPreimage p n C A B
  unfolding HasShape words.InImage InPreimage
  preimage_to m a b c C A B s t u g w = (
    λ h. let l = h.0 ∙ s.1 in (list_image (polynomials p n) (frobenius_twist p n) a c C w u.0 u.1 l).1 ((g (vector (polynomials p n) a w)).1 ((list_preimage (polynomials p n) (frobenius_twist p n) m a b A B w s.0 s.1 t.0 t.1).0 h.1)),
    λ i.
        let l = length_image (polynomials p n) (frobenius_twist p n) C w i ∙ u.0 in
        (l ∙ sym s.1, (list_preimage (polynomials p n) (frobenius_twist p n) m a b A B w s.0 s.1 t.0 t.1).1 ((g (vector (polynomials p n) a w)).0 ((list_image (polynomials p n) (frobenius_twist p n) a c C w u.0 u.1 l).0 i))),
  )

  product_is : (a b c : ℕ) (A B : PolynomialMatrix p n) → HasShape p n a b A → HasShape p n b c B → at a c (matrix_product p n A B) ≡ mul (polynomials p n) (at a b A) (at b c B)
  unfolding HasShape matrix_product
  product_is a b c A B s t = read_product (polynomials p n) a b c A B s.0 s.1 t.1

  beside_is : (m a b : ℕ) (A B : PolynomialMatrix p n) → HasShape p n m a A → HasShape p n m b B → at m (a + b) (matrix_beside p n A B) ≡ beside (polynomials p n) (at m a A) (at m b B)
  unfolding HasShape matrix_beside
  beside_is m a b A B s t = read_joined (polynomials p n) m a b A B s.0 s.1 t.1

  beside_shape : (m a b : ℕ) (A B : PolynomialMatrix p n) → HasShape p n m a A → HasShape p n m b B → HasShape p n m (a + b) (matrix_beside p n A B)
  unfolding HasShape matrix_beside
  beside_shape m a b A B s t = joined_shaped (polynomials p n) m a b A B s.0 s.1 t.1

  above_is : (a b c : ℕ) (A B : PolynomialMatrix p n) → HasShape p n a c A → HasShape p n b c B → at (a + b) c (matrix_above p n A B) ≡ stack (polynomials p n) (at a c A) (at b c B)
  unfolding HasShape matrix_above
  above_is a b c A B s t = read_stacked (polynomials p n) a c b A B s.0 t.0 s.1

  above_shape : (a b c : ℕ) (A B : PolynomialMatrix p n) → HasShape p n a c A → HasShape p n b c B → HasShape p n (a + b) c (matrix_above p n A B)
  unfolding HasShape matrix_above
  above_shape a b c A B s t = stacked_shaped (polynomials p n) a c b A B s.0 t.0 s.1

  zero_is : (a b : ℕ) → at a b (matrix_zero p n a b) ≡ nil (polynomials p n) a b
  unfolding matrix_zero
  zero_is a b = read_zero (polynomials p n) a b

  -- a matrix whose first rows are T
  split_rows : (a b s : ℕ) (S T : PolynomialMatrix p n) → ((i j : ℕ) → i < a → j < s → entry (polynomials p n) S i j ≡ entry (polynomials p n) T i j)
      → at (a + b) s S ≡ stack (polynomials p n) (at a s T) (λ i h j k. entry (polynomials p n) S (a + i) j)
  unfolding stack either
  split_rows a b s S T e = λ t i h j k. go i h j k (cases_lt i a) t
    where
      go : (i : ℕ) (h : i < a + b) (j : ℕ) (k : j < s) (c : (i < a) ⊎ (a ≤ i))
          → entry (polynomials p n) S i j ≡ either (polynomials p n) {n = a} {k = b} i h c (λ i h. entry (polynomials p n) T i j) (λ i h. entry (polynomials p n) S (a + i) j)
      go i h j k (inl l) = e i j l k
      go i h j k (inr l) = let q : i ≡ a + (i - a) = omega (arith, l) in ap (λ x. entry (polynomials p n) S x j) q

  -- the first rows have the same entries
  taken : (a i : ℕ) (d : Polynomial p n) (v : List (Polynomial p n)) → i < a → get_or v i d ≡ get_or (take a v) i d
  taken (suc a) i d [] h = refl
  taken (suc a) zero d (x ∷ v) h = refl
  taken (suc a) (suc i) d (x ∷ v) h = taken a i d v (omega arith)
  taken zero i d v h = absurd (omega arith)

  first_entries : (a : ℕ) (S : PolynomialMatrix p n) (i j : ℕ) → i < a → j < length S.columns → entry (polynomials p n) S i j ≡ entry (polynomials p n) (first_rows p n a S) i j
  unfolding entry
  first_entries a S i j h k = taken a i (polynomials p n).zero (get_or S.columns j []) h ∙ ap (λ v. get_or v i (polynomials p n).zero) (sym (get_or-map (take a) S.columns j [] [] k))

  rows_of_shape : (a b : ℕ) (A : PolynomialMatrix p n) → HasShape p n a b A → A.rows ≡ a
  unfolding HasShape
  rows_of_shape a b A s = s.0

  columns_of_shape : (a b : ℕ) (A : PolynomialMatrix p n) → HasShape p n a b A → length A.columns ≡ b
  unfolding HasShape
  columns_of_shape a b A s = s.1

  product_columns : (A B : PolynomialMatrix p n) → length (matrix_product p n A B).columns ≡ length B.columns
  unfolding matrix_product HasShape
  product_columns A B = (product_shaped (polynomials p n) A.rows (length B.columns) A B refl refl).1

  -- ---- kernels and preimages
  pub kernel_shown : (o : Order) (A C W : PolynomialMatrix p n) (members : List (List VTerm)) → IsKernelShown p n o A C W members → words.GeneratesKernel p n C A
  kernel_shown o A C W members K =
      let m = A.rows in
      let a = length A.columns in
      let c = length C.columns in
      let s = length W.columns in
      let S = syzygies p n A members in
      let k = length (lower_members m members) in
      let fit = syzygies_fit p n o A members K.completed in
      let wide : k ≡ s = sym (columns_of_shape a k S fit) ∙ ap (λ (X : PolynomialMatrix p n). length X.columns) K.covers ∙ product_columns C W in
      kernel_to m a c C A K.fits K.found_fits (generates_kernel laws (at m a A) (at a c C) (at c s W)
      (subst (λ x. GeneratesKernel M x (at m a A)) (ap (at a s) K.covers ∙ product_is a c s C W K.found_fits K.factor_fits) (kernel_from m a s S A K.fits (subst (λ k. HasShape p n a k S) wide fit) (syzygies_generate p n o A members K.completed)))
      (sym (product_is m a c A C K.fits K.found_fits) ∙ ap (at m c) K.vanishes ∙ zero_is m c))

  pub preimage_shown : (o : Order) (A B C X W : PolynomialMatrix p n) (members : List (List VTerm)) → IsPreimageShown p n o A B C X W members → words.GeneratesPreimage p n C A B
  preimage_shown o A B C X W members K =
      let m = A.rows in
      let a = length A.columns in
      let b = length B.columns in
      let c = length C.columns in
      let s = length W.columns in
      let G = matrix_beside p n A B in
      let S = syzygies p n G members in
      let g_fits = beside_shape m a b A B K.fits K.modulo_fits in
      let rows : G.rows ≡ m = rows_of_shape m (a + b) G g_fits in
      let wide : length G.columns ≡ a + b = columns_of_shape m (a + b) G g_fits in
      let k = length (lower_members G.rows members) in
      let fit : HasShape p n (a + b) k S = subst (λ x. HasShape p n x k S) wide (syzygies_fit p n o G members K.completed) in
      let many : length S.columns ≡ s = sym (length-map S.columns (take a)) ∙ ap (λ (Y : PolynomialMatrix p n). length Y.columns) K.covers ∙ product_columns C W in
      let s_fits : HasShape p n (a + b) s S = subst (λ x. HasShape p n (a + b) x S) (sym (columns_of_shape (a + b) k S fit) ∙ many) fit in
      let Y = λ (i : ℕ) (h : i < b) (j : ℕ) (k : j < s). entry (polynomials p n) S (a + i) j in
      let split = split_rows a b s S (first_rows p n a S) (λ i j h l. first_entries a S i j h (subst (λ x. j < x) (sym many) l)) ∙ ap (λ x. stack (polynomials p n) x Y) (ap (at a s) K.covers ∙ product_is a c s C W K.found_fits K.factor_fits) in
      preimage_to m a b c C A B K.fits K.modulo_fits K.found_fits (generates_preimage laws (at m a A) (at m b B) (at a c C) (at b c X) (at c s W) Y
      (subst (λ x. GeneratesKernel M x (beside (polynomials p n) (at m a A) (at m b B))) split
      (subst (λ x. GeneratesKernel M (at (a + b) s S) x) (beside_is m a b A B K.fits K.modulo_fits) (kernel_from m (a + b) s S G g_fits s_fits (syzygies_generate p n o G members K.completed))))
      (ap₂ (mul (polynomials p n)) (sym (beside_is m a b A B K.fits K.modulo_fits)) (sym (above_is a b c C X K.found_fits K.rest_fits))
      ∙ sym (product_is m (a + b) c G (matrix_above p n C X) g_fits (above_shape a b c C X K.found_fits K.rest_fits)) ∙ ap (at m c) K.vanishes ∙ zero_is m c))

  -- ---- outside an image
  twisted_rows : (e : ℕ) (A : PolynomialMatrix p n) → (matrix_twist p n e A).rows ≡ A.rows
  unfolding matrix_twist
  twisted_rows e A = (entrywise_shaped (polynomials p n) (frobenius_twist p n e) A.rows (length A.columns) A refl refl).0

  twisted_columns : (e : ℕ) (A : PolynomialMatrix p n) → length (matrix_twist p n e A).columns ≡ length A.columns
  unfolding matrix_twist
  twisted_columns e A = (entrywise_shaped (polynomials p n) (frobenius_twist p n e) A.rows (length A.columns) A refl refl).1

  irreducible : (m : ℕ) (members : List (List VTerm)) (r : List VTerm) → IsOutside m members r → IsIrreducible members r
  irreducible m members [] h = tt
  irreducible m members (s ∷ ss) h = h.1

  not_below : (m : ℕ) (members : List (List VTerm)) (r : List VTerm) → IsOutside m members r → IsBelowBlock m r → ⊥
  not_below m members [] h b = h
  not_below m members (s ∷ ss) h b = let l = h.0 in absurd (omega (arith, l, b))

  -- the rest of a reduction falls
  falls_on : {bound : List ℕ → Bool} → (k : ℕ) (o : Order) (ms : List (List VTerm)) {by : List ℕ} {v r : List VTerm} → ReducesBy p n k o bound ms by v r → IsFalling p n k o v → IsFalling p n k o r
  falls_on k o ms no_more f = f
  falls_on k o ms (one_more c i d e g w q red) f = falls_on k o ms red g

  twisted_lists : (k e : ℕ) (members : List (List VTerm)) → map (vector_twist p n e) (vectors_of p n k members) ≡ vectors_of p n k (map (twisted (prime_value p ^ e)) members)
  twisted_lists k e [] = refl
  twisted_lists k e (v ∷ gs) = ap₂ (λ x y. x ∷ y) (sym (vector_of_twisted p n k e v)) (twisted_lists k e gs)

  pub falling_members : (k : ℕ) (o : Order) (e : ℕ) (members : List (List VTerm)) → AreFalling p n k o members → AreFalling p n k o (map (twisted (prime_value p ^ e)) members)
  falling_members k o e members all ts i =
      let x = in_of_map (twisted (prime_value p ^ e)) members (in_of_contains (map (twisted (prime_value p ^ e)) members) ts i) in
      subst (IsFalling p n k o) x.2 (twisted_falling p n k o e x.0 (all x.0 (contains_of_in x.1)))

  pub outside_shown : (o : Order) (bound : List ℕ → Bool) (e : ℕ) (A : PolynomialMatrix p n) (members : List (List VTerm)) (v : List (Polynomial p n)) (by : List ℕ) (t r : List VTerm) → IsOutsideShown p n o bound e A members v by t r → words.InImage p n (matrix_twist p n e A) v → ⊥
  outside_shown o bound e A members v by t r K i =
      let Q = matrix_twist p n e A in
      let ms = map (twisted (prime_value p ^ e)) members in
      let m = A.rows in
      let c = length A.columns in
      let size : m + c ≡ graph_rows p n Q = ap₂ ◌+◌ (sym (twisted_rows e A)) (sym (twisted_columns e A)) in
      let fall = subst (λ k. AreFalling p n k o ms) size (falling_members (m + c) o e members K.completed.falling) in
      let falls = subst (λ k. IsFalling p n k o t) size K.falls in
      let reduces = subst (λ k. ReducesBy p n k o bound ms by t r) size K.reduces in
      let is = ap (λ k. vector_of p n k t) (sym size) ∙ K.is ∙ ap (λ k. v ++ zero_vector p n k) (sym (twisted_columns e A)) in
      let basis : IsGraphBasis p n o Q (vectors_of p n (graph_rows p n Q) ms) = subst (λ k. IsGraphBasis p n o Q (vectors_of p n k ms)) size (subst (λ x. IsGraphBasis p n o Q x) (twisted_lists (m + c) e members) (twisted_graph p n o e A (vectors_of p n (m + c) members) K.completed.basis)) in
      let found = (image_of_graph p n o Q ms fall basis reduces falls v (K.shape ∙ sym (twisted_rows e A)) is (irreducible m ms r K.outside)).0 i in
      not_below m ms r K.outside ((upper_block p n m o c r (falls_on (m + c) o ms K.reduces K.falls)).0 (found.0, ap (λ k. vector_of p n k r) size ∙ found.1 ∙ ap (λ k. zero_vector p n k ++ found.0) (twisted_rows e A)))
