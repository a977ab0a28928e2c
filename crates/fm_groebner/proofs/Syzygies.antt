-- The syzygies of a basis of a graph, in their order, generate the kernel.
use Rattle.std.proofs.Common.{◌≡◌, ℕ, ◌+◌, ◌<◌, Bool, true, false, if◌then◌else◌, nat_lt, List, [], ◌∷◌, ◌++◌, map, length, get_or, drop, refl, sym, ap, ◌∙◌, subst, arith}
use Rattle.std.proofs.lemmas.Bool.Decides.{nat_tests}
use Rattle.std.proofs.Math.Seq.{drop-append_seam}
use Rattle.std.proofs.lemmas.List.{length-map, get_or-map, length-drop, length-replicate}
use Rattle.fm_gfp.specs.declared.prime.Prime.{Prime}
use Rattle.fm_mono.specs.declared.order.Order.{Order}
use Rattle.fm_algebra.specs.Polynomials.{Polynomial, polynomial_zero}
use Rattle.fm_algebra.specs.PolynomialMatrices.{PolynomialMatrix, HasShape, GeneratesKernel}
use Rattle.fm_term.specs.declared.vterm.VTerm.{VTerm}
use Rattle.fm_term.specs.Falling.{IsBelowBlock}
use Rattle.fm_term.specs.Meanings.{vector_of, vectors_of}
use Rattle.fm_groebner.specs.Graphs.{AreLowerBlocks, zero_vector}
use Rattle.fm_groebner.specs.Syzygies.{is_lower, lower_members, syzygies, IsBasisOfGraph}
use Rattle.fm_groebner.proofs.Setting.{In, here, there}
use Rattle.fm_groebner.proofs.Numbers.{in_of_contains, contains_of_in, in_of_map}
use Rattle.fm_groebner.proofs.Vectors.{length_vector}
use Rattle.fm_groebner.proofs.Graphs.{kernel_of_graph}
use Rattle.fm_groebner.proofs.Consequences.{upper_block}

-- ---- lower members
pub in_lower : (m : ℕ) (gs : List (List VTerm)) (g : List VTerm) → In gs g → is_lower m g ≡ true → In (lower_members m gs) g
in_lower m [] g i e = elim i [ ]
in_lower m (f ∷ gs) g here e = subst (λ b. In (if b then f ∷ lower_members m gs else lower_members m gs) f) (sym e) here
in_lower m (f ∷ gs) g (there i) e = go (is_lower m f) (in_lower m gs g i e)
  where
    go : (b : Bool) → In (lower_members m gs) g → In (if b then f ∷ lower_members m gs else lower_members m gs) g
    go true j = there j
    go false j = j

first_or : (m : ℕ) (f : List VTerm) (gs ls : List (List VTerm)) (g : List VTerm) → is_lower m f ≡ true → In (f ∷ ls) g → (In ls g → In gs g × (is_lower m g ≡ true)) → In (f ∷ gs) g × (is_lower m g ≡ true)
first_or m f gs ls g e here later = (here, e)
first_or m f gs ls g e (there k) later = let h = later k in (there h.0, h.1)

pub lower_in : (m : ℕ) (gs : List (List VTerm)) (g : List VTerm) → In (lower_members m gs) g → In gs g × (is_lower m g ≡ true)
lower_in m [] g i = elim i [ ]
lower_in m (f ∷ gs) g i = go (is_lower m f) refl i (lower_in m gs g)
  where
    go : (b : Bool) → is_lower m f ≡ b → In (if b then f ∷ lower_members m gs else lower_members m gs) g → (In (lower_members m gs) g → In gs g × (is_lower m g ≡ true)) → In (f ∷ gs) g × (is_lower m g ≡ true)
    go true e j later = first_or m f gs (lower_members m gs) g e j later
    go false e j later = let h = later j in (there h.0, h.1)

in_map : {A B : Type 0} (f : A → B) {xs : List A} {x : A} → In xs x → In (map f xs) (f x)
in_map f here = here
in_map f (there i) = there (in_map f i)

below_of_lower : (m : ℕ) (g : List VTerm) → is_lower m g ≡ true → IsBelowBlock m g
below_of_lower m [] e = tt
below_of_lower m (t ∷ ts) e = let h : nat_lt m t.component ≡ true = e in grind (arith, nat_tests)

lower_of_below : (m : ℕ) (g : List VTerm) → IsBelowBlock m g → is_lower m g ≡ true
lower_of_below m [] b = refl
lower_of_below m (t ∷ ts) b = let h : m < t.component = b in grind (arith, nat_tests)

module _ (p : Prime) (n : ℕ) (o : Order) (A : PolynomialMatrix p n) (members : List (List VTerm)) (B : IsBasisOfGraph p n o A members) where
  abbrev m : ℕ
  m = A.rows

  abbrev c : ℕ
  c = length A.columns

  abbrev vec : List VTerm → List (Polynomial p n)
  vec v = vector_of p n (m + c) v

  abbrev low : List VTerm → List (Polynomial p n)
  low v = drop m (vec v)

  -- zeros above the lower block
  drop_zeros : (w : List (Polynomial p n)) → drop m (zero_vector p n m ++ w) ≡ w
  drop_zeros w = ap (λ k. drop k (zero_vector p n m ++ w)) (sym (length-replicate m (polynomial_zero p n))) ∙ drop-append_seam (zero_vector p n m) w

  split : (v : List VTerm) → In (lower_members m members) v → vec v ≡ zero_vector p n m ++ low v
  split v i =
      let h = lower_in m members v i in
      let w = (upper_block p n m o c v (B.falling v (contains_of_in h.0))).1 (below_of_lower m v h.1) in
      w.1 ∙ ap (λ x. zero_vector p n m ++ x) (sym (ap (drop m) w.1 ∙ drop_zeros w.0))

  blocks : AreLowerBlocks p n m (vectors_of p n (m + c) members) (map low (lower_members m members))
  blocks w = (
    λ i.
        let v = in_of_map low (lower_members m members) (in_of_contains (map low (lower_members m members)) w i) in
        let h = lower_in m members v.0 v.1 in
        contains_of_in (subst (In (map vec members)) (split v.0 v.1 ∙ ap (λ x. zero_vector p n m ++ x) v.2) (in_map vec h.0)),
    λ i.
        let v = in_of_map vec members (in_of_contains (vectors_of p n (m + c) members) (zero_vector p n m ++ w) i) in
        let b = (upper_block p n m o c v.0 (B.falling v.0 (contains_of_in v.1))).0 (w, v.2) in
        let l = in_lower m members v.0 v.1 (lower_of_below m v.0 b) in
        contains_of_in (subst (In (map low (lower_members m members))) (ap (drop m) v.2 ∙ drop_zeros w) (in_map low l)),
  )

  pub syzygies_generate : GeneratesKernel p n (syzygies p n A members) A
  syzygies_generate w = kernel_of_graph p n o A (vectors_of p n (m + c) members) B.basis (map low (lower_members m members)) blocks w

  pub syzygies_fit : HasShape p n c (length (lower_members m members)) (syzygies p n A members)
  unfolding HasShape
  syzygies_fit = (
    refl,
    length-map (lower_members m members) low,
    λ j h.
        ap length (get_or-map low (lower_members m members) j [] [] h) ∙ length-drop m (vec (get_or (lower_members m members) j []))
        ∙ (let l = length_vector p n (m + c) (get_or (lower_members m members) j []) in omega (arith, l)),
  )
