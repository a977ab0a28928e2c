-- What the table says of a row in its place.
use Rattle.std.proofs.Common.{◌≡◌, ℕ, suc, List, [], ◌∷◌, Option, Some, None, option_map, Vec, refl}
use Rattle.std.specs.Global.{Global}
use Rattle.fm_words.specs.Options.{◌>>=◌}
use Rattle.fm_poly.specs.declared.ring.Ring.{Ring}
use Rattle.fm_report.specs.Parts.{Part, flip, times, twist}
use Rattle.fm_report.specs.Sheets.{Block, numbered}
use Rattle.fm_parts.specs.Conditions.{Log, Condition, equal, kernel, preimage}
use Rattle.fm_parts.specs.Shapes.{columns_of, rows_of}
use Rattle.fm_judge.specs.Goals.{Goal, told_generators, told_relations, told_moves}
use Rattle.fm_judge.specs.Claims.{Claim, claim, agreeing, class_of, codifferential, column_part, excluded, generated, kernel_at, lives_before, member_of, on_differential, on_lift, row_part, stage_of, unit_part}
use Rattle.fm_judge.specs.Places.{Place, after_coordinates, after_differential, after_exact, after_lift, after_morphism, after_row, after_stable}
use Rattle.fm_judge.specs.Places as places
use Rattle.fm_lines.specs.Rows.{row_line}
use Rattle.fm_lines.specs.declared.row.Row.{Row}
use Rattle.fm_lines.specs.declared.row.Row.TheVariants as rows
use Rattle.fm_lines.specs.declared.shown.Generated.{Generated}
use Rattle.fm_lines.specs.declared.shown.Excluded.{Excluded}
use Rattle.fm_claims.specs.Views.{claim_on}
use Rattle.fm_claims.proofs.Numbering.{where_same, where_other}

module _ (r : Ring) (g : Goal) (b : Block) (parts : List Part) (logs : List Log) where
  abbrev pub At : Place → Row → Option Claim
  At p row = claim_on r g b parts logs p (row_line row)

  abbrev pub says : Option (List Condition) → Place → Option Claim
  says cs next = Some (record { conditions = cs; next = next })

  -- ---- a resolution and the lift
  abbrev pub d_says : ℕ → Option (List Condition)
  d_says j = on_differential r g b parts logs j

  abbrev pub theta_says : ℕ → Option (List Condition)
  theta_says j = on_lift r g b parts logs j

  pub on_d : (j n k : ℕ) → n ≡ suc j → At (places.differential j) (rows.D n k) ≡ says (on_differential r g b parts logs j) (after_differential g (suc j))
  unfolding claim
  on_d j n k e = where_same n (suc j) (says (on_differential r g b parts logs j) (after_differential g (suc j))) e

  pub off_d : (j n k : ℕ) → (n ≡ suc j → ⊥) → At (places.differential j) (rows.D n k) ≡ None
  unfolding claim
  off_d j n k e = where_other n (suc j) (says (on_differential r g b parts logs j) (after_differential g (suc j))) e

  abbrev pub exact_says : ℕ → Generated → Option (List Condition)
  exact_says j s = numbered b.differentials (suc j) >>= λ d. numbered b.differentials (suc (suc j)) >>= λ next.
      generated r g b parts logs (λ log X W. kernel log d next X W) s.log s.x s.w []

  pub on_exact : (j n : ℕ) (s : Generated) → n ≡ suc j → At (places.exactness j) (rows.Exact n s) ≡ says (exact_says j s) (after_exact g (suc j))
  unfolding claim
  on_exact j n s e = where_same n (suc j) (says (exact_says j s) (after_exact g (suc j))) e

  pub off_exact : (j n : ℕ) (s : Generated) → (n ≡ suc j → ⊥) → At (places.exactness j) (rows.Exact n s) ≡ None
  unfolding claim
  off_exact j n s e = where_other n (suc j) (says (exact_says j s) (after_exact g (suc j))) e

  pub on_theta : (j n k : ℕ) → n ≡ j → At (places.lift j) (rows.Theta n k) ≡ says (on_lift r g b parts logs j) (after_lift g (suc j))
  unfolding claim
  on_theta j n k e = where_same n j (says (on_lift r g b parts logs j) (after_lift g (suc j))) e

  pub off_theta : (j n k : ℕ) → (n ≡ j → ⊥) → At (places.lift j) (rows.Theta n k) ≡ None
  unfolding claim
  off_theta j n k e = where_other n j (says (on_lift r g b parts logs j) (after_lift g (suc j))) e

  -- ---- Ext
  abbrev pub cocycles_say : Generated → Option (List Condition)
  cocycles_say s = numbered b.differentials (suc g.degree) >>= λ d. numbered b.cocycles 1 >>= λ Z.
      generated r g b parts logs (λ log X W. kernel log (flip d) Z X W) s.log s.x s.w (agreeing (told_generators g.aim) (columns_of Z))

  pub on_cocycles : (k : ℕ) (s : Generated) → At places.cocycles (rows.Cocycles k s) ≡ says (cocycles_say s) places.relations
  unfolding claim
  on_cocycles k s = refl

  abbrev pub relations_say : Generated → Option (List Condition)
  relations_say s = numbered b.cocycles 1 >>= λ Z. codifferential r b.differentials g.degree >>= λ d. kernel_at r g b parts logs 0 >>= λ N.
      generated r g b parts logs (λ log X W. preimage log Z d N X W) s.log s.x s.w (agreeing (told_relations g.aim) (columns_of N))

  pub on_relations : (k : ℕ) (s : Generated) → At places.relations (rows.Relations k s) ≡ says (relations_say s) places.morphism
  unfolding claim
  on_relations k s = refl

  abbrev pub morphism_says : Option (List Condition)
  morphism_says = numbered b.cocycles 1 >>= λ Z. numbered b.lift (suc g.degree) >>= λ theta.
      option_map (λ U. equal (times (flip theta) Z) (times (twist Z 1) U) ∷ []) (numbered b.morphism 1)

  pub on_morphism : (k : ℕ) → At places.morphism (rows.Morphism k) ≡ says morphism_says (after_morphism g.aim)
  unfolding claim
  on_morphism k = refl

  -- ---- the chain of a root
  abbrev pub chain_says : ℕ → Generated → Option (List Condition)
  chain_says i s = numbered b.morphism 1 >>= λ U. kernel_at r g b parts logs i >>= λ K. kernel_at r g b parts logs (suc i) >>= λ next.
      generated r g b parts logs (λ log X W. preimage log U (twist K 1) next X W) s.log s.x s.w []

  pub on_chain : (i n k : ℕ) (s : Generated) → n ≡ suc i → At (places.chain i) (rows.Chain n k s) ≡ says (chain_says i s) (places.turn i)
  unfolding claim
  on_chain i n k s e = where_same n (suc i) (says (chain_says i s) (places.turn i)) e

  pub off_chain : (i n k : ℕ) (s : Generated) → (n ≡ suc i → ⊥) → At (places.chain i) (rows.Chain n k s) ≡ None
  unfolding claim
  off_chain i n k s e = where_other n (suc i) (says (chain_says i s) (places.turn i)) e

  abbrev pub grows_says : ℕ → Excluded → Option (List Condition)
  grows_says i s = kernel_at r g b parts logs i >>= λ K. kernel_at r g b parts logs (suc i) >>= λ next. excluded r g b parts logs 0 K next s.log s.column s.by.items

  pub on_grows : (i n : ℕ) (s : Excluded) → n ≡ i → At (places.turn i) (rows.Grows n s) ≡ says (grows_says i s) (places.chain (suc i))
  unfolding claim
  on_grows i n s e = where_same n i (says (grows_says i s) (places.chain (suc i))) e

  pub off_grows : (i n : ℕ) (s : Excluded) → (n ≡ i → ⊥) → At (places.turn i) (rows.Grows n s) ≡ None
  unfolding claim
  off_grows i n s e = where_other n i (says (grows_says i s) (places.chain (suc i))) e

  abbrev pub stable_says : (i w : ℕ) → Option (List Condition)
  stable_says i w = kernel_at r g b parts logs i >>= λ K. kernel_at r g b parts logs (suc i) >>= λ next.
      option_map (λ W. equal next (times K W) ∷ agreeing (told_moves g.aim) i) (numbered parts w)

  pub on_stable : (i n w : ℕ) → n ≡ i → At (places.turn i) (rows.Stable n w) ≡ says (stable_says i w) (after_stable g.aim i)
  unfolding claim
  on_stable i n w e = where_same n i (says (stable_says i w) (after_stable g.aim i)) e

  pub off_stable : (i n w : ℕ) → (n ≡ i → ⊥) → At (places.turn i) (rows.Stable n w) ≡ None
  unfolding claim
  off_stable i n w e = where_other n i (says (stable_says i w) (after_stable g.aim i)) e

  -- ---- the limit and classes
  abbrev pub whole_says : (t w : ℕ) → Option (List Condition)
  whole_says t w = kernel_at r g b parts logs t >>= λ K. option_map (λ W. equal (times K W) (unit_part r (rows_of K)) ∷ []) (numbered parts w)

  pub on_whole : (t w : ℕ) → At (places.whole t) (rows.Whole w) ≡ says (whole_says t w) places.end
  unfolding claim
  on_whole t w = refl

  abbrev pub proper_says : ℕ → Excluded → Option (List Condition)
  proper_says t s = kernel_at r g b parts logs t >>= λ K. excluded r g b parts logs 0 K (unit_part r (rows_of K)) s.log s.column s.by.items

  pub on_proper : (t : ℕ) (s : Excluded) → At (places.proper t) (rows.Proper s) ≡ says (proper_says t s) places.end
  unfolding claim
  on_proper t s = refl

  abbrev pub coordinates_say : Part → Option (List Condition)
  coordinates_say w = option_map (λ Z. equal (times (twist Z (stage_of g.aim)) w) (column_part (class_of g.aim)) ∷ []) (numbered b.cocycles 1)

  pub on_coordinates : (t k : ℕ) (w : Part) → numbered parts k ≡ Some w → At (places.coordinates t) (rows.Coordinates k) ≡ says (coordinates_say w) (after_coordinates g.aim w t)
  unfolding claim
  on_coordinates t k w e = rw e refl

  pub no_coordinates : (t k : ℕ) → numbered parts k ≡ None → At (places.coordinates t) (rows.Coordinates k) ≡ says None places.end
  unfolding claim
  no_coordinates t k e = rw e refl

  pub on_lives : (w : Part) (t k n log : ℕ) (by : Vec ℕ Global) → n ≡ k
      → At (places.lives w t k) (rows.Lives n log by) ≡ says (lives_before r g b parts logs w t k log by.items) (places.dies w t (suc k))
  unfolding claim
  on_lives w t k n log by e = where_same n k (says (lives_before r g b parts logs w t k log by.items) (places.dies w t (suc k))) e

  pub off_lives : (w : Part) (t k n log : ℕ) (by : Vec ℕ Global) → (n ≡ k → ⊥) → At (places.lives w t k) (rows.Lives n log by) ≡ None
  unfolding claim
  off_lives w t k n log by e = where_other n k (says (lives_before r g b parts logs w t k log by.items) (places.dies w t (suc k))) e

  abbrev pub dies_says : Part → (m x : ℕ) → Option (List Condition)
  dies_says w m x = kernel_at r g b parts logs m >>= λ K. option_map (λ W. equal w (times (twist K (stage_of g.aim)) W) ∷ []) (numbered parts x)

  pub on_dies : (w : Part) (t m n x : ℕ) → n ≡ m → At (places.dies w t m) (rows.Dies n x) ≡ says (dies_says w m x) places.end
  unfolding claim
  on_dies w t m n x e = where_same n m (says (dies_says w m x) places.end) e

  pub off_dies : (w : Part) (t m n x : ℕ) → (n ≡ m → ⊥) → At (places.dies w t m) (rows.Dies n x) ≡ None
  unfolding claim
  off_dies w t m n x e = where_other n m (says (dies_says w m x) places.end) e

  abbrev pub lives_on_says : Part → (t log : ℕ) → List ℕ → Option (List Condition)
  lives_on_says w t log by = kernel_at r g b parts logs t >>= λ K. excluded r g b parts logs (stage_of g.aim) K w log 1 by

  pub on_lives_on : (w : Part) (t n log : ℕ) (by : Vec ℕ Global) → n ≡ t → At (places.lives_on w t) (rows.Lives n log by) ≡ says (lives_on_says w t log by.items) places.end
  unfolding claim
  on_lives_on w t n log by e = where_same n t (says (lives_on_says w t log by.items) places.end) e

  pub off_lives_on : (w : Part) (t n log : ℕ) (by : Vec ℕ Global) → (n ≡ t → ⊥) → At (places.lives_on w t) (rows.Lives n log by) ≡ None
  unfolding claim
  off_lives_on w t n log by e = where_other n t (says (lives_on_says w t log by.items) places.end) e

  -- ---- membership
  pub on_row : (n k : ℕ) (d : Part) → n ≡ 1 → numbered parts k ≡ Some d
      → At places.ideal_row (rows.D n k) ≡ says (Some (equal d (row_part g.generators) ∷ [])) (after_row g.aim d)
  unfolding claim
  on_row n k d e h = rw h (where_same n 1 (says (Some (equal d (row_part g.generators) ∷ [])) (after_row g.aim d)) e)

  pub no_row : (n k : ℕ) → n ≡ 1 → numbered parts k ≡ None → At places.ideal_row (rows.D n k) ≡ says None places.end
  unfolding claim
  no_row n k e h = rw h (where_same n 1 (says None places.end) e)

  pub off_row : (n k : ℕ) → (n ≡ 1 → ⊥) → At places.ideal_row (rows.D n k) ≡ None
  unfolding claim
  off_row n k e = where_other n 1 _ e

  abbrev pub cofactors_say : Part → ℕ → Option (List Condition)
  cofactors_say d x = option_map (λ W. equal (times d W) (column_part (member_of g.aim)) ∷ []) (numbered parts x)

  pub on_cofactors : (d : Part) (x : ℕ) → At (places.cofactors d) (rows.Cofactors x) ≡ says (cofactors_say d x) places.end
  unfolding claim
  on_cofactors d x = refl

  pub on_foreign : (d : Part) (log : ℕ) (by : Vec ℕ Global)
      → At (places.foreign d) (rows.Foreign log by) ≡ says (excluded r g b parts logs 0 d (column_part (member_of g.aim)) log 1 by.items) places.end
  unfolding claim
  on_foreign d log by = refl
