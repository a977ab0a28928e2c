-- Which line stands in which place, and what it claims: the tables of certificates.
use Rattle.std.specs.Prelude.{ℕ, zero, suc, ◌-◌, ◌&&◌, if◌then◌else◌, nat_eq, nat_lt, nat_le, List, [], ◌∷◌, ◌++◌, length, Option, Some, None, option_map}
use Rattle.fm_words.specs.Options.{◌>>=◌, where_so}
use Rattle.fm_algebra.specs.Polynomials.{Polynomial, polynomial_power}
use Rattle.fm_algebra.specs.PolynomialMatrices.{matrix_transpose, matrix_unit, matrix_scalar, matrix_zero}
use Rattle.fm_limit.specs.Facts.{unit_column, diagonal_blocks}
use Rattle.fm_poly.specs.Polys.{PolyValue, meaning}
use Rattle.fm_poly.specs.declared.ring.Ring.{Ring}
use Rattle.fm_graphs.specs.Graphs.{MatrixOf}
use Rattle.fm_cert.specs.Fields.{Values}
use Rattle.fm_cert.specs.Kinds.{Kind, row}
use Rattle.fm_cert.specs.Kinds as kinds
use Rattle.fm_report.specs.Parts.{Part, given, twist, flip, beside, times, part_value}
use Rattle.fm_report.specs.Sheets.{Block, new_block, numbered}
use Rattle.fm_answers.specs.Printed.{grid_of}
use Rattle.fm_parts.specs.Shapes.{rows_of, columns_of}
use Rattle.fm_parts.specs.Replays.{are_numbers}
use Rattle.fm_parts.specs.Conditions.{Log, Condition, equal, follows, kernel, preimage, outside, lists, agrees, never}
use Rattle.fm_judge.specs.Goals.{Aim, Goal, MapSource, membership, dying, living, incoming, told_rank, told_generators, told_relations, told_moves}
use Rattle.fm_judge.specs.Places.{Place, differential, exactness, lift, cocycles, relations, morphism, chain, turn, whole, proper, coordinates, lives, dies, lives_on, power, least, colon, proper_colon, annihilator, lambda, phi, null, nonnull, fibre, one, notone, link, open_link, short, onto, never_onto, ideal_row, cofactors, foreign, end, after_exact, after_differential, after_lift, after_morphism, after_stable, after_coordinates, after_power, after_lambda, after_phi, after_fibre, after_link, after_row}

-- What a line claims: its conditions in their order, or None where a part, a log, a member or a column doesn't exist; and the place after it.
pub record Claim : Type 0 where
  pub conditions : Option (List Condition)
  pub next : Place

-- ---- matrices that the tables speak of

abbrev pub printed_part : (r : Ring) → MatrixOf r → Part
printed_part r A = given (grid_of r A).rows (grid_of r A).columns

abbrev pub unit_part : Ring → ℕ → Part
unit_part r n = printed_part r (matrix_unit r.prime r.vars n)

-- a polynomial times the unit matrix with n rows; and so the power of one that is printed
abbrev pub scalar_part : (r : Ring) → Polynomial r.prime r.vars → ℕ → Part
scalar_part r a n = printed_part r (matrix_scalar r.prime r.vars a n)

abbrev pub power_part : (r : Ring) → PolyValue → (k n : ℕ) → Part
power_part r f k n = scalar_part r (polynomial_power r.prime r.vars k (meaning r f.terms)) n

-- f^k, as a product of k factors: its value is formed by k products. That it equals itself says that it can be formed, and so for a part.
abbrev pub factored_part : Ring → PolyValue → ℕ → Part
factored_part r f zero = unit_part r 1
factored_part r f (suc k) = times (factored_part r f k) (given 1 ((f ∷ []) ∷ []))

-- the unit matrix with n rows as one column, and the blocks of K along the diagonal, as many as K has rows
abbrev pub unit_column_part : Ring → ℕ → Part
unit_column_part r n = printed_part r (unit_column r.prime r.vars n)

abbrev pub blocks_part : Ring → Part → Part
blocks_part r K = printed_part r (diagonal_blocks r.prime r.vars (part_value r K))

abbrev pub row_part : List PolyValue → Part
row_part fs = flip (given (length fs) (fs ∷ []))

abbrev pub column_part : List PolyValue → Part
column_part z = given (length z) (z ∷ [])

-- d_i as a map to cochains; of d_0, which has no rows, it has no columns
abbrev pub codifferential : Ring → List Part → ℕ → Option Part
codifferential r ds zero = Some (printed_part r (matrix_transpose r.prime r.vars (matrix_zero r.prime r.vars 0 1)))
codifferential r ds (suc i) = option_map flip (numbered ds (suc i))

-- a number of the answer, where it tells it
abbrev pub agreeing : Option ℕ → ℕ → List Condition
agreeing None n = []
agreeing (Some k) n = agrees k n ∷ []

-- the stage and the entries of the class
abbrev pub stage_of : Aim → ℕ
stage_of (dying e z moves) = e
stage_of (living e z) = e
stage_of aim = 0

abbrev pub class_of : Aim → List PolyValue
class_of (dying e z moves) = z
class_of (living e z) = z
class_of aim = []

abbrev pub member_of : Aim → List PolyValue
member_of (membership f inside) = f ∷ []
member_of aim = []

-- the side of the source of a map
abbrev pub source_of : Aim → MapSource
source_of (incoming source is_zero is_one stage) = source
source_of aim = record { generators = []; block = new_block 0 0; repeat = 0 }

module _ (r : Ring) (g : Goal) (b : Block) (parts : List Part) (logs : List Log) where
  -- the line stands in the place, and claims these conditions
  abbrev pub claims : Option (List Condition) → Place → Option Claim
  claims cs next = Some (record { conditions = cs; next = next })

  -- what is claimed where the number is the one that is next
  abbrev pub numbered_so : (wanted n : ℕ) → Option (List Condition) → Place → Option Claim
  numbered_so wanted n cs next = where_so (nat_eq n wanted) (claims cs next)

  -- what is claimed of a part, where it exists
  abbrev pub of_part : Option Part → (Part → Option Claim) → Option Claim
  of_part None says = claims None end
  of_part (Some a) says = says a

  -- PREIMAGE, with the numbers of a log, of X and of W
  abbrev pub generated : (Log → (X W : Part) → Condition) → (n x w : ℕ) → List Condition → Option (List Condition)
  generated says n x w more = numbered logs n >>= λ log. numbered parts x >>= λ X. option_map (λ W. says log X W ∷ more) (numbered parts w)

  -- OUT, with the number of a log, the number of a column of V, and the numbers of members
  abbrev pub excluded : (e : ℕ) (A V : Part) → (n c : ℕ) → List ℕ → Option (List Condition)
  excluded e A V n c by =
      numbered logs n >>= λ log. where_so (are_numbers log.members by && (nat_lt 0 c && nat_le c (columns_of V))) (Some (outside log e A V c by ∷ []))

  abbrev pub kernel_at : ℕ → Option Part
  kernel_at s = numbered b.kernels (suc s)

  -- K_k at `lives k`, which has to come before the repeat
  abbrev pub lives_before : (w : Part) (t k n : ℕ) → List ℕ → Option (List Condition)
  lives_before w t k n by =
      if nat_lt k t then (kernel_at k >>= λ K. excluded (stage_of g.aim) K w n 1 by)
      else (kernel_at t >>= λ K. option_map (λ cs. never ∷ []) (excluded (stage_of g.aim) K w n 1 by))

  -- C_j, where C_0 is K_t, and C_1, C_2, .. are found
  abbrev pub colon_at : (t : ℕ) (found : List Part) (j : ℕ) → Option Part
  colon_at t found j = kernel_at t >>= λ K. numbered (K ∷ found) (suc j)

  -- `colon j+1`, where j colons are found: all that f sends into C_j
  abbrev pub on_colon : PolyValue → (t : ℕ) (found : List Part) (P : Part) → (n x w : ℕ) → Option (List Condition)
  on_colon f t found P n x w =
      colon_at t found (length found) >>= λ C. generated (λ log X W. preimage log (scalar_part r (meaning r f.terms) (rows_of C)) C P X W) n x w []

  -- of the source of a map: d_j, Z, and the stable kernel
  abbrev pub source_differential : ℕ → Option Part
  source_differential j = numbered (source_of g.aim).block.differentials j

  abbrev pub source_cocycles : Option Part
  source_cocycles = numbered (source_of g.aim).block.cocycles 1

  abbrev pub source_kernel : Option Part
  source_kernel = numbered (source_of g.aim).block.kernels (suc (source_of g.aim).repeat)

  -- `lambda j`, where lambda_0 .. lambda_(j-1) are these
  abbrev pub on_lambda : List Part → (P : Part) → Option (List Condition)
  on_lambda [] P = Some (equal P (unit_part r 1) ∷ [])
  on_lambda (L ∷ ls) P =
      source_differential (length (L ∷ ls)) >>= λ d. numbered (L ∷ ls) (length (L ∷ ls)) >>= λ before.
      option_map (λ d'. equal (times d P) (times before d') ∷ []) (numbered b.differentials (length (L ∷ ls)))

  -- L_r, where L_0 is [N | Phi], and L_1, L_2, .. are found
  abbrev pub link_at : (Phi : Part) (found : List Part) (j : ℕ) → Option Part
  link_at Phi found j = kernel_at 0 >>= λ N. numbered (beside N Phi ∷ found) (suc j)

  -- `link r+1`, where r are found
  abbrev pub on_link : (Phi : Part) (found : List Part) (P : Part) → (n x w : ℕ) → Option (List Condition)
  on_link Phi found P n x w =
      numbered b.morphism 1 >>= λ U. link_at Phi found (length found) >>= λ L. generated (λ log X W. preimage log U (twist L 1) P X W) n x w []

  -- L_j isn't everything
  abbrev pub is_short : (Phi : Part) (found : List Part) (j : ℕ) → (n c : ℕ) → List ℕ → Option (List Condition)
  is_short Phi found j n c by = link_at Phi found j >>= λ L. excluded 0 L (unit_part r (rows_of L)) n c by

  abbrev pub on_differential : ℕ → Option (List Condition)
  on_differential zero = option_map (λ d. equal d (row_part g.generators) ∷ agreeing (told_rank g.aim 0) 1 ++ agreeing (told_rank g.aim 1) (columns_of d)) (numbered b.differentials 1)
  on_differential (suc j) =
      numbered b.differentials (suc j) >>= λ d. option_map (λ next. follows d next ∷ agreeing (told_rank g.aim (suc (suc j))) (columns_of next)) (numbered b.differentials (suc (suc j)))

  abbrev pub on_lift : ℕ → Option (List Condition)
  on_lift zero = option_map (λ theta. equal theta (unit_part r 1) ∷ []) (numbered b.lift 1)
  on_lift (suc j) =
      numbered b.differentials (suc j) >>= λ d. numbered b.lift (suc j) >>= λ theta.
      option_map (λ next. equal (times d next) (times theta (twist d 1)) ∷ []) (numbered b.lift (suc (suc j)))

  -- The line of each place, and what it claims; None where another line stands there, or its number isn't the next.
  unfoldable pub claim : Place → (kind : Kind) → Values (row kind) → Option Claim
  claim (differential j) kinds.D (n, (k, u)) = numbered_so (suc j) n (on_differential j) (after_differential g (suc j))
  claim (exactness j) kinds.Exact (i, (n, (x, (w, u)))) =
      numbered_so (suc j) i (numbered b.differentials (suc j) >>= λ d. numbered b.differentials (suc (suc j)) >>= λ next. generated (λ log X W. kernel log d next X W) n x w []) (after_exact g (suc j))
  claim (lift j) kinds.Theta (n, (k, u)) = numbered_so j n (on_lift j) (after_lift g (suc j))
  claim cocycles kinds.Cocycles (k, (n, (x, (w, u)))) =
      claims (numbered b.differentials (suc g.degree) >>= λ d. numbered b.cocycles 1 >>= λ Z.
      generated (λ log X W. kernel log (flip d) Z X W) n x w (agreeing (told_generators g.aim) (columns_of Z))) relations
  claim relations kinds.Relations (k, (n, (x, (w, u)))) =
      claims (numbered b.cocycles 1 >>= λ Z. codifferential r b.differentials g.degree >>= λ d. kernel_at 0 >>= λ N.
      generated (λ log X W. preimage log Z d N X W) n x w (agreeing (told_relations g.aim) (columns_of N))) morphism
  claim morphism kinds.Morphism (k, u) =
      claims (numbered b.cocycles 1 >>= λ Z. numbered b.lift (suc g.degree) >>= λ theta. option_map (λ U. equal (times (flip theta) Z) (times (twist Z 1) U) ∷ []) (numbered b.morphism 1))
      (after_morphism g.aim)
  claim (chain s) kinds.Chain (i, (k, (n, (x, (w, u))))) =
      numbered_so (suc s) i (numbered b.morphism 1 >>= λ U. kernel_at s >>= λ K. kernel_at (suc s) >>= λ next. generated (λ log X W. preimage log U (twist K 1) next X W) n x w []) (turn s)
  claim (turn s) kinds.Grows (i, (n, (c, (by, u)))) = numbered_so s i (kernel_at s >>= λ K. kernel_at (suc s) >>= λ next. excluded 0 K next n c by) (chain (suc s))
  claim (turn s) kinds.Stable (i, (w, u)) =
      numbered_so s i (kernel_at s >>= λ K. kernel_at (suc s) >>= λ next. option_map (λ W. equal next (times K W) ∷ agreeing (told_moves g.aim) s) (numbered parts w)) (after_stable g.aim s)
  claim (whole t) kinds.Whole (w, u) = claims (kernel_at t >>= λ K. option_map (λ W. equal (times K W) (unit_part r (rows_of K)) ∷ []) (numbered parts w)) end
  claim (proper t) kinds.Proper (n, (c, (by, u))) = claims (kernel_at t >>= λ K. excluded 0 K (unit_part r (rows_of K)) n c by) end
  claim (coordinates t) kinds.Coordinates (k, u) =
      of_part (numbered parts k) (λ w. claims (option_map (λ Z. equal (times (twist Z (stage_of g.aim)) w) (column_part (class_of g.aim)) ∷ []) (numbered b.cocycles 1)) (after_coordinates g.aim w t))
  claim (lives w t k) kinds.Lives (i, (n, (by, u))) = numbered_so k i (lives_before w t k n by) (dies w t (suc k))
  claim (dies w t m) kinds.Dies (i, (x, u)) =
      numbered_so m i (kernel_at m >>= λ K. option_map (λ W. equal w (times (twist K (stage_of g.aim)) W) ∷ []) (numbered parts x)) end
  claim (lives_on w t) kinds.Lives (i, (n, (by, u))) = numbered_so t i (kernel_at t >>= λ K. excluded (stage_of g.aim) K w n 1 by) end
  claim (power f t k) kinds.Power (w, u) =
      claims (kernel_at t >>= λ K. option_map (λ W. equal (factored_part r f k) (factored_part r f k) ∷ equal (power_part r f k (rows_of K)) (times K W) ∷ []) (numbered parts w))
      (after_power f t k)
  claim (least f t k) kinds.Least (n, (c, (by, u))) =
      claims (kernel_at t >>= λ K. option_map (λ cs. equal (factored_part r f k) (factored_part r f k) ∷ cs) (excluded 0 K (power_part r f k (rows_of K)) n c by)) end
  claim (colon f t found) kinds.Colon (i, (k, (n, (x, (w, u))))) =
      where_so (nat_eq i (suc (length found))) (of_part (numbered parts k) (λ P. claims (on_colon f t found P n x w) (colon f t (found ++ P ∷ []))))
  claim (colon f t found) kinds.Settles (i, (w, u)) =
      where_so (nat_lt 0 (length found)) (numbered_so (length found) i (colon_at t found (length found - 1) >>= λ C. colon_at t found (length found) >>= λ last.
      option_map (λ W. equal last (times C W) ∷ []) (numbered parts w)) (proper_colon t found))
  claim (proper_colon t found) kinds.Proper (n, (c, (by, u))) =
      claims (colon_at t found (length found - 1) >>= λ C. excluded 0 C (unit_part r (rows_of C)) n c by) end
  claim (annihilator ideal t) kinds.Annihilator (k, (n, (x, (w, u)))) =
      claims (kernel_at t >>= λ K. numbered parts k >>= λ P.
      option_map (λ cs. equal K K ∷ cs) (generated (λ log X W. preimage log (unit_column_part r (rows_of K)) (blocks_part r K) P X W) n x w (lists ideal P ∷ []))) end
  claim (lambda t identity) kinds.Lambda (i, (k, u)) =
      where_so (nat_eq i (length identity)) (of_part (numbered parts k) (λ P. claims (on_lambda identity P) (after_lambda g t (identity ++ P ∷ []))))
  claim (phi t identity) kinds.Phi (k, u) =
      of_part (numbered parts k) (λ Phi. claims (source_cocycles >>= λ Z. numbered identity (suc g.degree) >>= λ last.
      option_map (λ Z'. equal (times (flip last) Z) (times Z' Phi) ∷ []) (numbered b.cocycles 1)) (after_phi g.aim t Phi))
  claim (null t Phi) kinds.Null (w, u) = claims (kernel_at t >>= λ K. option_map (λ W. equal Phi (times K W) ∷ []) (numbered parts w)) (fibre t Phi)
  claim (nonnull t Phi) kinds.NonNull (n, (c, (by, u))) = claims (kernel_at t >>= λ K. excluded 0 K Phi n c by) (fibre t Phi)
  claim (fibre t Phi) kinds.Fibre (k, (n, (x, (w, u)))) =
      of_part (numbered parts k) (λ C. claims (kernel_at t >>= λ K. generated (λ log X W. preimage log Phi K C X W) n x w []) (after_fibre g.aim t Phi C))
  claim (one t Phi C) kinds.One (w, u) =
      claims (source_kernel >>= λ K. option_map (λ W. equal C (times K W) ∷ []) (numbered parts w)) (after_link g.aim t Phi [])
  claim (notone t Phi C) kinds.NotOne (n, (c, (by, u))) = claims (source_kernel >>= λ K. excluded 0 K C n c by) (after_link g.aim t Phi [])
  claim (link t Phi found) kinds.Link (i, (k, (n, (x, (w, u))))) =
      where_so (nat_eq i (suc (length found))) (of_part (numbered parts k) (λ P. claims (on_link Phi found P n x w) (after_link g.aim t Phi (found ++ P ∷ []))))
  claim (open_link t Phi found) kinds.Link (i, (k, (n, (x, (w, u))))) =
      where_so (nat_eq i (suc (length found))) (of_part (numbered parts k) (λ P. claims (on_link Phi found P n x w) (open_link t Phi (found ++ P ∷ []))))
  claim (open_link t Phi found) kinds.Closes (i, (w, u)) =
      where_so (nat_lt 0 (length found)) (numbered_so (length found - 1) i (link_at Phi found (length found - 1) >>= λ L. link_at Phi found (length found) >>= λ last.
      option_map (λ W. equal last (times L W) ∷ []) (numbered parts w)) (never_onto t Phi found))
  claim (short t Phi found) kinds.Short (i, (n, (c, (by, u)))) = numbered_so (length found - 1) i (is_short Phi found (length found - 1) n c by) (onto t Phi found)
  claim (onto t Phi found) kinds.Onto (i, (w, u)) =
      numbered_so (length found) i (link_at Phi found (length found) >>= λ L. option_map (λ W. equal (times L W) (unit_part r (rows_of L)) ∷ []) (numbered parts w)) end
  claim (never_onto t Phi found) kinds.Short (i, (n, (c, (by, u)))) = numbered_so (length found - 1) i (is_short Phi found (length found - 1) n c by) end
  claim ideal_row kinds.D (n, (k, u)) =
      where_so (nat_eq n 1) (of_part (numbered parts k) (λ d. claims (Some (equal d (row_part g.generators) ∷ [])) (after_row g.aim d)))
  claim (cofactors d) kinds.Cofactors (x, u) = claims (option_map (λ W. equal (times d W) (column_part (member_of g.aim)) ∷ []) (numbered parts x)) end
  claim (foreign d) kinds.Foreign (n, (by, u)) = claims (excluded 0 d (column_part (member_of g.aim)) n 1 by) end
  claim place kind values = None
