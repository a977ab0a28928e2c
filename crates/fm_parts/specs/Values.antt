-- The values of parts, as far as no product and no twist in them passes the bound on exponents, and when two values are equal.
use Rattle.std.specs.Prelude.{ℕ, Bool, true, ◌&&◌, nat_eq, List, length, Option, Some}
use Rattle.std.specs.List.{list_all}
use lib.Pointwise.{pointwise}
use Rattle.fm_words.specs.Options.{where_so}
use Rattle.fm_poly.specs.declared.ring.Ring.{Ring}
use Rattle.fm_term.specs.declared.vterm.VTerm.{VTerm}
use Rattle.fm_mat.specs.Bounds.{products_fit, entries_fit}
use Rattle.fm_graphs.specs.Listing.{VectorOf, terms_of}
use Rattle.fm_graphs.specs.Graphs.{MatrixOf}
use Rattle.fm_graphs.specs.Trims.{is_zero}
use Rattle.fm_report.specs.Parts.{Part, given, twist, flip, beside, stack, times, pick, part_value}

abbrev pub same_term : VTerm → VTerm → Bool
same_term t u = nat_eq t.component u.component && (pointwise nat_eq t.mono u.mono && nat_eq t.coeff u.coeff)

module _ (r : Ring) where
  -- No product and no twist of which the part is made passes the bound. The bound speaks of all products of terms: those that cancel count.
  unfoldable pub is_within_bound : Part → Bool
  is_within_bound (given rows columns) = true
  is_within_bound (twist a e) = is_within_bound a && entries_fit r.prime r.vars e (part_value r a)
  is_within_bound (flip a) = is_within_bound a
  is_within_bound (beside a b) = is_within_bound a && is_within_bound b
  is_within_bound (stack a b) = is_within_bound a && is_within_bound b
  is_within_bound (times a b) =
      is_within_bound a && (is_within_bound b && list_all (products_fit r.prime r.vars (part_value r a).columns) (part_value r b).columns)
  is_within_bound (pick a js) = is_within_bound a

  -- the matrix that the part means; None where it can't be formed within the bound
  unfoldable pub value_of : Part → Option (MatrixOf r)
  value_of a = where_so (is_within_bound a) (Some (part_value r a))

  -- ---- tests

  -- vectors are equal where their falling lists of terms are
  abbrev pub same_vector : VectorOf r → VectorOf r → Bool
  same_vector v w = nat_eq (length v) (length w) && pointwise same_term (terms_of r v) (terms_of r w)

  unfoldable pub same_matrix : MatrixOf r → MatrixOf r → Bool
  same_matrix A B = nat_eq A.rows B.rows && pointwise same_vector A.columns B.columns

  unfoldable pub is_zero_matrix : MatrixOf r → Bool
  is_zero_matrix A = list_all (λ v. is_zero (terms_of r v)) A.columns
