-- Lower blocks that are cut in two.
use mathlib.Core.List.{map-map}
use Rattle.std.proofs.Common.{ℕ, zero, suc, ◌+◌, ◌≤◌, ◌≡◌, Bool, true, cond, Result, Ok, Err, List, [], ◌∷◌, ◌++◌, length, map, take, drop, refl, sym, ap, ap₂, ◌∙◌, subst, arith}
use Rattle.std.specs.Prelude.{IfOk}
use Rattle.std.specs.List.{filter}
use Rattle.fm_poly.specs.declared.ring.Ring.{Ring}
use Rattle.fm_poly.specs.Polys.{PolyValue}
use Rattle.fm_term.specs.declared.vterm.VTerm.{VTerm}
use Rattle.fm_vec.specs.Components.{AreOver, column_from}
use Rattle.fm_vec.specs.Vectors.{VectorValue}
use Rattle.fm_complete.specs.Divisions as divisions
use Rattle.fm_mat.specs.Matrices.{MatrixValue, column_meaning, columns_meaning, matrix_meaning}
use Rattle.fm_mat.proofs.Steps.{mapped_more, map_length}
use Rattle.fm_graphs.specs.Listing.{VectorOf}
use Rattle.fm_graphs.specs.Graphs.{is_below, lower_block, syzygies}
use Rattle.fm_graphs.specs.Trims.{part}
use Rattle.fm_syz.specs.GraphValues.{GraphValue, graph_meaning}
use Rattle.fm_syz.proofs.Lower.{components_are, over_column, length_column}

map_take : {X Y : Type 0} (f : X → Y) (a : ℕ) (xs : List X) → map f (take a xs) ≡ take a (map f xs)
map_take f zero xs = refl
map_take f (suc a) [] = refl
map_take f (suc a) (x ∷ xs) = ap (λ ys. f x ∷ ys) (map_take f a xs)

map_drop : {X Y : Type 0} (f : X → Y) (a : ℕ) (xs : List X) → map f (drop a xs) ≡ drop a (map f xs)
map_drop f zero xs = refl
map_drop f (suc a) [] = refl
map_drop f (suc a) (x ∷ xs) = map_drop f a xs

length_taken : {X : Type 0} (a b : ℕ) (xs : List X) → length xs ≡ a + b → length (take a xs) ≡ a
length_taken zero b xs h = refl
length_taken (suc a) b [] h = absurd (omega (arith, h))
length_taken (suc a) b (x ∷ xs) h = ap suc (length_taken a b xs (omega (arith, h)))

length_left : {X : Type 0} (a b : ℕ) (xs : List X) → length xs ≡ a + b → length (drop a xs) ≡ b
length_left zero b xs h = omega (arith, h)
length_left (suc a) b [] h = absurd (omega (arith, h))
length_left (suc a) b (x ∷ xs) h = length_left a b xs (omega (arith, h))

over_taken : (r : Ring) (a : ℕ) (fs : List PolyValue) → AreOver r fs → AreOver r (take a fs)
over_taken r zero fs o = tt
over_taken r (suc a) [] o = tt
over_taken r (suc a) (f ∷ fs) o = (o.0, over_taken r a fs o.1)

over_left : (r : Ring) (a : ℕ) (fs : List PolyValue) → AreOver r fs → AreOver r (drop a fs)
over_left r zero fs o = o
over_left r (suc a) [] o = tt
over_left r (suc a) (f ∷ fs) o = over_left r a fs o.1

module _ (r : Ring) (m a b : ℕ) (ts : List VTerm) (block upper lower : List PolyValue) (is : block ≡ column_from r (a + b) (suc m) ts) where
  pub upper_over : upper ≡ take a block → AreOver r upper
  upper_over e = subst (AreOver r) (sym (e ∙ ap (take a) is)) (over_taken r a (column_from r (a + b) (suc m) ts) (over_column r (a + b) (suc m) ts))

  pub lower_over : lower ≡ drop a block → AreOver r lower
  lower_over e = subst (AreOver r) (sym (e ∙ ap (drop a) is)) (over_left r a (column_from r (a + b) (suc m) ts) (over_column r (a + b) (suc m) ts))

  block_long : length block ≡ a + b
  block_long = ap length is ∙ length_column r (a + b) (suc m) ts

  pub upper_long : upper ≡ take a block → length upper ≡ a
  upper_long e = ap length e ∙ length_taken a b block block_long

  pub lower_long : lower ≡ drop a block → length lower ≡ b
  lower_long e = ap length e ∙ length_left a b block block_long

  pub upper_means : upper ≡ take a block → column_meaning r upper ≡ take a (lower_block r m (a + b) ts)
  upper_means e = ap (column_meaning r) (e ∙ ap (take a) is) ∙ map_take _ a (column_from r (a + b) (suc m) ts) ∙ ap (take a) (components_are r (a + b) (suc m) ts)

  pub lower_means : lower ≡ drop a block → column_meaning r lower ≡ drop a (lower_block r m (a + b) ts)
  lower_means e = ap (column_meaning r) (e ∙ ap (drop a) is) ∙ map_drop _ a (column_from r (a + b) (suc m) ts) ∙ ap (drop a) (components_are r (a + b) (suc m) ts)

pub block_room : (r : Ring) (m a b : ℕ) (ts : List VTerm) (block : List PolyValue) → block ≡ column_from r (a + b) (suc m) ts → a ≤ length block
block_room r m a b ts block is = let h = ap length is ∙ length_column r (a + b) (suc m) ts in omega (arith, h)

pub if_both : {A E : Type 0} (answer : Result A E) {P Q R : A → Type 0} → ((x : A) → P x → Q x → R x) → IfOk answer P → IfOk answer Q → IfOk answer R
if_both (Ok x) f p q = f x p q
if_both (Err e) f p q = tt

-- a block after the taken ones
module _ (r : Ring) (m c : ℕ) (cut : VectorOf r → VectorOf r) where
  abbrev pub Cuts : List (List VTerm) → List (VectorOf r)
  Cuts members = map (λ ts. cut (lower_block r m c ts)) (filter (is_below m) members)

  pub cut_taken : (ts : List VTerm) (rest : List (List VTerm)) (all : List (VectorOf r)) (below : Bool) (out out' : List (List PolyValue)) (piece : List PolyValue) → below ≡ true → below ≡ is_below m ts
      → column_meaning r piece ≡ cut (lower_block r m c ts) → out' ≡ out ++ piece ∷ [] → columns_meaning r out ++ Cuts (ts ∷ rest) ≡ all → columns_meaning r out' ++ Cuts rest ≡ all
  cut_taken ts rest all below out out' piece here is means pushed whole =
      mapped_more (column_meaning r) out piece (cut (lower_block r m c ts)) (Cuts rest) all out' pushed means
      (ap (λ b. columns_meaning r out ++ map (λ us. cut (lower_block r m c us)) (cond b (ts ∷ filter (is_below m) rest) (filter (is_below m) rest))) (sym here ∙ is) ∙ whole)

-- the blocks that are cut are the syzygies
module _ (r s : Ring) (g : GraphValue) (m c : ℕ) (members : List VectorValue) (cut : (q : Ring) → VectorOf q → VectorOf q) (ring : s ≡ r) (rows : m ≡ g.matrix.rows) (width : c ≡ length g.matrix.columns) (same : members ≡ g.members) where
  pub cuts_are : (out : MatrixValue) (k : ℕ) → out.rows ≡ k → columns_meaning s out.columns ≡ map (λ ts. cut s (lower_block s m c ts)) (filter (is_below m) (divisions.terms_of members))
      → matrix_meaning r out ≡ part r k (cut r) (syzygies r (graph_meaning r g)).columns
  unfolding syzygies
  cuts_are out k high is =
      ap₂ (λ n (cs : List (VectorOf r)). record { rows = n; columns = cs }) high
      (subst (λ (q : Ring). columns_meaning q out.columns ≡ map (λ ts. cut q (lower_block q m c ts)) (filter (is_below m) (divisions.terms_of members))) ring is
      ∙ ap (λ k. map (λ ts. cut r (lower_block r k c ts)) (filter (is_below k) (divisions.terms_of members))) rows
      ∙ ap (λ k. map (λ ts. cut r (lower_block r g.matrix.rows k ts)) (filter (is_below g.matrix.rows) (divisions.terms_of members))) (width ∙ sym (map_length _ g.matrix.columns))
      ∙ ap (λ ms. map (λ ts. cut r (lower_block r g.matrix.rows (length (columns_meaning r g.matrix.columns)) ts)) (filter (is_below g.matrix.rows) (divisions.terms_of ms))) same
      ∙ sym (map-map (cut r) (lower_block r g.matrix.rows (length (columns_meaning r g.matrix.columns))) (filter (is_below g.matrix.rows) (divisions.terms_of g.members))))
