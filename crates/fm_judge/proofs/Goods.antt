-- Lists of parts whose shapes fit, and the matrices that they mean.
use Rattle.std.proofs.Common.{◌≡◌, ℕ, zero, suc, ◌-◌, ◌<◌, Bool, true, false, nat_eq, if◌then◌else◌, List, [], ◌∷◌, ◌++◌, length, get_or, Some, refl, sym, ap, subst, arith}
use Rattle.std.proofs.lemmas.Bool.{eqb-true}
use Rattle.fm_algebra.specs.PolynomialMatrices.{HasShape, matrix_zero}
use Rattle.fm_limit.specs.ResolvedIdeal.{matrix_at}
use Rattle.fm_limit.proofs.MatrixWords.{shape_rows, shape_columns}
use Rattle.fm_poly.specs.declared.ring.Ring.{Ring}
use Rattle.fm_graphs.specs.Graphs.{MatrixOf}
use Rattle.fm_report.specs.Parts.{Part, part_value, part_values}
use Rattle.fm_report.specs.Sheets.{numbered}
use Rattle.fm_plan.proofs.Chains.{map_append}
use Rattle.fm_parts.specs.Shapes.{rows_of, columns_of, fits}
use Rattle.fm_parts.proofs.Shapes.{part_shape}
use Rattle.fm_judge.proofs.Options.{none_some, same_some}

abbrev pub AreGood : List Part → Type 0
AreGood [] = Unit {0}
AreGood (a ∷ xs) = (fits a ≡ true) × AreGood xs

pub good_append : (xs : List Part) (a : Part) → AreGood xs → fits a ≡ true → AreGood (xs ++ a ∷ [])
good_append [] a g f = (f, tt)
good_append (x ∷ xs) a g f = (g.0, good_append xs a g.1 f)

-- a part with a number in such a list fits
pub good_at : (xs : List Part) (k : ℕ) (a : Part) → AreGood xs → numbered xs k ≡ Some a → fits a ≡ true
good_at [] k a g e = absurd (none_some e)
good_at (x ∷ xs) k a g e = go (nat_eq k 1) e (good_at xs (k - 1) a g.1)
  where
    go : (b : Bool) → (if b then Some x else numbered xs (k - 1)) ≡ Some a → (numbered xs (k - 1) ≡ Some a → fits a ≡ true) → fits a ≡ true
    go true h later = subst (λ y. fits y ≡ true) (same_some h) g.0
    go false h later = later h

module _ (r : Ring) where
  -- the matrix of a part in the list of all
  pub value_at : (xs : List Part) (j : ℕ) (a : Part) → numbered xs (suc j) ≡ Some a → (j < length xs) × (matrix_at r.prime r.vars (part_values r xs) j ≡ part_value r a)
  unfolding matrix_at
  value_at [] j a e = absurd (none_some e)
  value_at (x ∷ xs) zero a e = (omega arith, ap (part_value r) (same_some e))
  value_at (x ∷ xs) (suc j) a e = go (nat_eq (suc (suc j)) 1) refl e (value_at xs j a)
    where
      go : (b : Bool) → nat_eq (suc (suc j)) 1 ≡ b → (if b then Some x else numbered xs (suc (suc j) - 1)) ≡ Some a
          → (numbered xs (suc j) ≡ Some a → (j < length xs) × (get_or (part_values r xs) j (matrix_zero r.prime r.vars 0 0) ≡ part_value r a))
          → (suc j < length (x ∷ xs)) × (get_or (part_values r (x ∷ xs)) (suc j) (matrix_zero r.prime r.vars 0 0) ≡ part_value r a)
      go true t h later = let o = eqb-true (suc (suc j)) 1 t in absurd (omega (arith, o))
      go false t h later =
          let one : suc (suc j) - 1 ≡ suc j = omega arith in
          let l = later (subst (λ k. numbered xs k ≡ Some a) one h) in
          let few = l.0 in (omega (arith, few), l.1)

  pub values_append : (xs : List Part) (a : Part) → part_values r (xs ++ a ∷ []) ≡ part_values r xs ++ part_value r a ∷ []
  values_append xs a = map_append (part_value r) xs (a ∷ [])

  -- the shape of a matrix in other numbers
  pub renamed : {m n k l : ℕ} (A : MatrixOf r) → m ≡ k → n ≡ l → HasShape r.prime r.vars m n A → HasShape r.prime r.vars k l A
  renamed {m} {n} {k} {l} A p q s = subst (λ x. HasShape r.prime r.vars x l A) p (subst (λ x. HasShape r.prime r.vars m x A) q s)

  pub rows_are : (a : Part) → fits a ≡ true → rows_of a ≡ (part_value r a).rows
  rows_are a f = sym (shape_rows r.prime r.vars (rows_of a) (columns_of a) (part_value r a) (part_shape r a f))

  pub columns_are : (a : Part) → fits a ≡ true → columns_of a ≡ length (part_value r a).columns
  columns_are a f = sym (shape_columns r.prime r.vars (rows_of a) (columns_of a) (part_value r a) (part_shape r a f))
