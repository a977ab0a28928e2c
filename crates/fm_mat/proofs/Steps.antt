-- Steps of the loops of products.
use Rattle.std.proofs.Common.{ℕ, zero, suc, ◌+◌, ◌≡◌, Bool, true, false, ◌&&◌, cond, eqb, List, [], ◌∷◌, ◌++◌, map, length, refl, sym, ap, ◌∙◌, subst, arith}
use Rattle.std.specs.List.{list_all}
use Rattle.std.proofs.lemmas.Bool.{ne_eqb}
use Rattle.fm_algebra.specs.Polynomials.{polynomial_sum, polynomial_product, polynomial_zero, polynomial_one, polynomial_of}
use Rattle.fm_algebra.specs.PolynomialMatrices.{vector_product}
use Rattle.fm_groebner.specs.Graphs.{zero_vector}
use Rattle.fm_poly.specs.declared.ring.Ring.{Ring}
use Rattle.fm_poly.specs.declared.term.Term.{Term}
use Rattle.fm_poly.specs.Polys.{PolyValue, meaning}
use Rattle.fm_poly.specs.Bounds.{ProductFits, ProductPasses}
use Rattle.fm_vec.specs.Components.{AreOver}
use Rattle.fm_mat.specs.Bounds.{product_fits}
use Rattle.fm_mat.specs.Matrices.{column_meaning, columns_meaning, AreColumns}
use Rattle.fm_mat.specs.Acting.{acted}
use Rattle.fm_mat.proofs.Supports.{fits_as_test, passes_as_test}
use Rattle.fm_mat.proofs.Acting.{Long, acted_is}

-- one more at the end of what is written
pub mapped_more : {X Y : Type 0} (F : X → Y) (out : List X) (h : X) (y : Y) (ys all : List Y) (out' : List X) → out' ≡ out ++ h ∷ [] → F h ≡ y → map F out ++ y ∷ ys ≡ all → map F out' ++ ys ≡ all
mapped_more F out h y ys all out' e v w = ap (λ o. map F o ++ ys) e ∙ go out ∙ ap (λ x. map F out ++ x ∷ ys) v ∙ w
  where
    go : (out : List _) → map F (out ++ h ∷ []) ++ ys ≡ map F out ++ F h ∷ ys
    go [] = refl
    go (x ∷ out) = ap (λ l. F x ∷ l) (go out)

pub test_more : {X : Type 0} (test : X → Bool) (x : X) (xs : List X) (all : Bool) → test x ≡ true → list_all test (x ∷ xs) ≡ all → list_all test xs ≡ all
test_more test x xs all t h = ap (λ b. b && list_all test xs) (sym t) ∙ h

pub over_more : (r : Ring) (out : List PolyValue) (h : PolyValue) → AreOver r out → h.ring ≡ r → AreOver r (out ++ h ∷ [])
over_more r [] h o e = (e, tt)
over_more r (f ∷ out) h o e = (o.0, over_more r out h o.1 e)

pub columns_more : (r : Ring) (m : ℕ) (out : List (List PolyValue)) (h : List PolyValue) → AreColumns r m out → AreOver r h → length h ≡ m → AreColumns r m (out ++ h ∷ [])
columns_more r m [] h o e l = (e, l, tt)
columns_more r m (f ∷ out) h o e l = (o.0, o.1, columns_more r m out h o.2 e l)

pub columns_long : (r : Ring) (m : ℕ) (cs : List (List PolyValue)) → AreColumns r m cs → Long r.prime r.vars m (columns_meaning r cs)
columns_long r m [] a = tt
columns_long r m (c ∷ cs) a = (meaning_length c ∙ a.1, columns_long r m cs a.2)
  where
    meaning_length : (fs : List PolyValue) → length (column_meaning r fs) ≡ length fs
    meaning_length [] = refl
    meaning_length (f ∷ fs) = ap suc (meaning_length fs)

pub map_length : {X Y : Type 0} (F : X → Y) (xs : List X) → length (map F xs) ≡ length xs
map_length F [] = refl
map_length F (x ∷ xs) = ap suc (map_length F xs)

module _ (r r' : Ring) (same : r' ≡ r) where
  pub passes_at : (f g : List Term) → ProductPasses r'.prime r'.vars (meaning r' f) (meaning r' g) → product_fits r.prime r.vars (meaning r f) (meaning r g) ≡ false
  passes_at f g h = passes_as_test r.prime r.vars (meaning r f) (meaning r g) (subst (λ (s : Ring). ProductPasses s.prime s.vars (meaning s f) (meaning s g)) same h)

  pub fits_at : (f g : List Term) → ProductFits r'.prime r'.vars (meaning r' f) (meaning r' g) → product_fits r.prime r.vars (meaning r f) (meaning r g) ≡ true
  fits_at f g h = fits_as_test r.prime r.vars (meaning r f) (meaning r g) (subst (λ (s : Ring). ProductFits s.prime s.vars (meaning s f) (meaning s g)) same h)

  pub entry_at : (r'' : Ring) → r'' ≡ r → (x f g h k : List Term) → meaning r' k ≡ polynomial_product r'.prime r'.vars (meaning r' f) (meaning r' g)
      → meaning r'' h ≡ polynomial_sum r''.prime r''.vars (meaning r'' x) (meaning r'' k)
      → meaning r h ≡ polynomial_sum r.prime r.vars (meaning r x) (polynomial_product r.prime r.vars (meaning r f) (meaning r g))
  entry_at r'' also x f g h k p s =
      subst (λ (t : Ring). meaning t h ≡ polynomial_sum t.prime t.vars (meaning t x) (meaning t k)) also s
      ∙ ap (polynomial_sum r.prime r.vars (meaning r x)) (subst (λ (t : Ring). meaning t k ≡ polynomial_product t.prime t.vars (meaning t f) (meaning t g)) same p)

-- where no column is left, what was added up is the product
pub act_done : (r : Ring) (m : ℕ) (a rest : List (List PolyValue)) (w later sum : List PolyValue) → length rest ≡ 0 → AreColumns r m a → length w ≡ length a
    → acted r.prime r.vars (column_meaning r sum) (columns_meaning r rest) (column_meaning r later) ≡ acted r.prime r.vars (zero_vector r.prime r.vars m) (columns_meaning r a) (column_meaning r w)
    → column_meaning r sum ≡ vector_product r.prime r.vars (record { rows = m; columns = columns_meaning r a }) (column_meaning r w)
act_done r m a [] w later sum none shape inner whole =
    whole
    ∙ acted_is r.prime r.vars m (columns_meaning r a) (column_meaning r w) (columns_long r m a shape)
    (map_length (λ (f : PolyValue). meaning r f.terms) w ∙ inner ∙ sym (map_length (column_meaning r) a))
act_done r m a (c ∷ cs) w later sum none shape inner whole = absurd (omega (arith, none))

-- one more zero
pub zero_more : (r : Ring) (k : ℕ) (out out' : List PolyValue) (h : PolyValue) → out' ≡ out ++ h ∷ [] → h.terms ≡ [] → column_meaning r out ≡ zero_vector r.prime r.vars k → column_meaning r out' ≡ zero_vector r.prime r.vars (k + 1)
unfolding meaning polynomial_of
zero_more r k out out' h e none w =
    ap (column_meaning r) e ∙ joined out ∙ ap (λ x. x ++ meaning r h.terms ∷ []) w ∙ ap (λ t. zero_vector r.prime r.vars k ++ meaning r t ∷ []) none ∙ turn k ∙ ap (zero_vector r.prime r.vars) (next k)
  where
    joined : (out : List PolyValue) → column_meaning r (out ++ h ∷ []) ≡ column_meaning r out ++ meaning r h.terms ∷ []
    joined [] = refl
    joined (f ∷ out) = ap (λ l. meaning r f.terms ∷ l) (joined out)

    turn : (k : ℕ) → zero_vector r.prime r.vars k ++ polynomial_zero r.prime r.vars ∷ [] ≡ zero_vector r.prime r.vars (suc k)
    turn zero = refl
    turn (suc k) = ap (λ l. polynomial_zero r.prime r.vars ∷ l) (turn k)

    next : (k : ℕ) → suc k ≡ k + 1
    next k = omega arith

-- an entry of a unit vector beside its 1
pub other_entry : (r : Ring) (h : PolyValue) (i j : ℕ) → h.terms ≡ [] → (i ≡ j → ⊥) → meaning r h.terms ≡ cond (eqb i j) (polynomial_one r.prime r.vars) (polynomial_zero r.prime r.vars)
unfolding meaning polynomial_of
other_entry r h i j none apart = ap (meaning r) none ∙ sym (ap (λ b. cond b (polynomial_one r.prime r.vars) (polynomial_zero r.prime r.vars)) (ne_eqb i j apart))
