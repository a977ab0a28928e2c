-- The report of an answer on the support.
use Rattle.std.proofs.Common.{ℕ, suc, ◌+◌, ◌*◌, ◌≡◌, ◌≤◌, ◌<◌, ◌^◌, if◌then◌else◌, Bool, true, List, [], ◌∷◌, ◌++◌, map, length, refl, sym, ap, ◌∙◌, subst, arith, append_assoc, eq-eqb}
use Rattle.fm_algebra.specs.Matrix.{component}
use Rattle.fm_algebra.specs.Polynomials.{Polynomial, polynomials}
use Rattle.fm_algebra.specs.PolynomialMatrices.{HasShape, InImage}
use Rattle.fm_groebner.specs.Bases.{generators}
use Rattle.fm_groebner.proofs.Setting.{In, here, there}
use Rattle.fm_limit.specs.Facts.{unit_column, diagonal_blocks, first_entries}
use Rattle.fm_limit.specs.Verdicts.{support}
use Rattle.fm_limit.proofs.MatrixWords.{shape_columns}
use Rattle.fm_poly.specs.declared.ring.Ring.{Ring}
use Rattle.fm_term.specs.declared.vterm.VTerm.{VTerm}
use Rattle.fm_vec.specs.Vectors.{IsVector}
use Rattle.fm_vec.specs.Components.{component_terms}
use Rattle.fm_run.specs.Runs.{ready, ◌>>=◌}
use Rattle.fm_run.proofs.Ends.{Ends, same_value, bound}
use Rattle.fm_graphs.specs.Listing.{VectorOf, terms_of}
use Rattle.fm_graphs.specs.Trims.{Preimage, is_zero, preimage_run}
use Rattle.fm_graphs.proofs.Listing.{terms_vector}
use Rattle.fm_graphs.proofs.Columns.{column_length}
use Rattle.fm_graphs.proofs.Preimages.{zero_spanned, preimage_run_is}
use Rattle.fm_run.specs.declared.task.Side.TheVariants.{Alone}
use Rattle.fm_run.specs.declared.task.Name.TheVariants as names
use Rattle.fm_problem.specs.declared.problem.Problem.{Problem}
use Rattle.fm_problem.specs.declared.query.Query as queries
use Rattle.fm_problem.specs.Sound.{IsQueryOf, IsProblem, IsSmallQuery, HasSmallExponents}
use Rattle.fm_cert.specs.Kinds as kinds
use Rattle.fm_cert.specs.Writable.{AreNotZero}
use Rattle.fm_plan.specs.Tasks.{task}
use Rattle.fm_plan.specs.Results.{Ideal}
use Rattle.fm_plan.specs.Results as plan_results
use Rattle.fm_plan.specs.Queries.{BaseOf, Found, found_support, ask_support, plan, base_plan, verdict}
use Rattle.fm_plan.specs.Sizes.{IsBaseAtMost}
use Rattle.fm_plan.specs.Within.{IsFoundWithin}
use Rattle.fm_plan.proofs.Tasks.{task_ends}
use Rattle.fm_plan.proofs.Answers.{unit_shape, blocks_shape}
use Rattle.fm_answers.specs.Printed.{printed, printed_vector}
use Rattle.fm_answers.specs.Answers.{ideal_at, found_report}
use Rattle.fm_answers.proofs.PrintedMatrices.{vector_means, vector_writable}
use Rattle.fm_answers.proofs.Blocks.{Good}
use Rattle.fm_answers.proofs.OneIdeal.{IsRight, held, same_about, base_block_good, lift_long, of_base}

module _ (r : Ring) where
  -- what isn't zero is printed with terms
  printed_some : (f : Polynomial r.prime r.vars) → ¬ (is_zero (terms_of r (f ∷ [])) ≡ true) → 0 < length (printed r f).terms
  printed_some f n = go (terms_of r (f ∷ [])) (terms_vector r 1 (f ∷ []) refl) n
    where
      go : (ts : List VTerm) → IsVector r 1 ts → ¬ (is_zero ts ≡ true) → 0 < length (component_terms 1 ts)
      go [] v n = absurd (n refl)
      go (t ∷ ts) v n =
          let w = v.within.0 in
          let one : t.component ≡ 1 = omega (arith, w) in
          subst (λ (b : Bool). 0 < length (if b then record { mono = t.mono; coeff = t.coeff } ∷ component_terms 1 ts else component_terms 1 ts)) (sym (eq-eqb t.component 1 one)) (omega arith)

  -- the columns of which none lies in the span of the others have entries that are printed with terms
  entries_some : (xs vs : List (VectorOf r)) → ((v : VectorOf r) → In vs v → length v ≡ 1)
      → ((us ws : List (VectorOf r)) (v : VectorOf r) → xs ++ vs ≡ us ++ v ∷ ws → ¬ (InImage r.prime r.vars (generators r.prime r.vars 1 (us ++ ws)) v))
      → AreNotZero r (printed_vector r (map (λ c. component (polynomials r.prime r.vars) c 0) vs))
  unfolding component
  entries_some xs [] long free = tt
  entries_some xs ([] ∷ vs) long free = absurd (let e = long [] here in omega (arith, e))
  entries_some xs ((f ∷ g ∷ v) ∷ vs) long free = absurd (let e = long (f ∷ g ∷ v) here in omega (arith, e))
  entries_some xs ((f ∷ []) ∷ vs) long free = (
    printed_some f (λ e. free xs vs (f ∷ []) refl (zero_spanned r 1 (xs ++ vs) (f ∷ []) refl e)),
    entries_some (xs ++ (f ∷ []) ∷ []) vs (λ v i. long v (there i)) (λ us ws v e. free us ws v (sym (append_assoc xs ((f ∷ []) ∷ []) vs) ∙ e)),
  )

  pub annihilators_some : (i : ℕ) (fs : Ideal r) (units left : ℕ) (b : BaseOf r) (a : Preimage r) → Ends (plan r (ask_support i fs) units) (found_support i fs b a) left
      → AreNotZero r (printed_vector r (first_entries r.prime r.vars a.found))
  unfolding plan first_entries
  annihilators_some i fs units left b a ends =
      let work = λ (b : BaseOf r). preimage_run r (unit_column r.prime r.vars b.chain.stable.matrix.rows) (diagonal_blocks r.prime r.vars b.chain.stable.matrix) in
      let x = bound (base_plan r Alone i fs) (λ b. task Alone names.Annihilator 0 (work b) >>= λ y. ready (found_support i fs b y)) units left (found_support i fs b a) ends in
      let K = x.value.chain.stable.matrix in
      let g = K.rows in
      let d = bound (task Alone names.Annihilator 0 (work x.value)) (λ y. ready (found_support i fs x.value y)) x.between left (found_support i fs b a) x.second in
      let J = preimage_run_is r (g * g) 1 (g * length K.columns) (unit_column r.prime r.vars g) (diagonal_blocks r.prime r.vars K) (unit_shape r g) (blocks_shape r K) x.between d.between d.value
      (task_ends Alone names.Annihilator 0 (work x.value) x.between d.between d.value d.first) in
      let one : length (unit_column r.prime r.vars g).columns ≡ 1 = shape_columns r.prime r.vars (g * g) 1 (unit_column r.prime r.vars g) (unit_shape r g) in
      let shape = subst (λ k. HasShape r.prime r.vars k (length d.value.found.columns) d.value.found) one J.generating.found_shape in
      let same : d.value ≡ a = own x.value b d.value a (same_value (found_support i fs x.value d.value) (found_support i fs b a) d.between left d.second) in
      subst (λ (a : Preimage r). AreNotZero r (printed_vector r (map (λ c. component (polynomials r.prime r.vars) c 0) a.found.columns))) same
      (entries_some [] d.value.found.columns (column_length r.prime r.vars 1 (length d.value.found.columns) d.value.found shape)
      (λ us ws v e. subst (λ k. ¬ (InImage r.prime r.vars (generators r.prime r.vars k (us ++ ws)) v)) one (J.generating.free us ws v e)))
    where
      own : (b c : BaseOf r) (x y : Preimage r) → ◌≡◌ {A = Found r} (found_support i fs b x) (found_support i fs c y) → x ≡ y
      own b c x y e = cc

module _ (q : Problem) (sound : IsProblem q) (small : HasSmallExponents q) (k : ℕ) (few : suc k < 2 ^ 64) (most : ℕ) (enough : most < 2 ^ 33) (i m : ℕ) (degree : i + 2 ≤ most) (there : m < length q.ideals) where
  pub support_report : (of : IsQueryOf q (queries.TheVariants.Support i m)) (low : IsSmallQuery (queries.TheVariants.Support i m)) (b : BaseOf q.ring) (a : Preimage q.ring)
      → IsRight q.ring (found_support i (ideal_at q m) b a) → IsFoundWithin q.ring (found_support i (ideal_at q m) b a) → IsBaseAtMost q.ring most b
      → AreNotZero q.ring (printed_vector q.ring (first_entries q.ring.prime q.ring.vars a.found))
      → Good q sound small k few (queries.TheVariants.Support i m) of low (found_report q (queries.TheVariants.Support i m) (found_support i (ideal_at q m) b a))
  unfolding verdict
  support_report of low b a right w s some =
      let z = queries.TheVariants.Support i m in
      let entries = first_entries q.ring.prime q.ring.vars a.found in
      base_block_good q sound small k few z of low most enough i m degree there (same_about m i) kinds.Support (printed_vector q.ring entries, tt) refl refl
      ((vector_writable q.ring entries w.2, some), tt)
      (verdict q.ring (found_support i (ideal_at q m) b a)) (held q.ring (found_support i (ideal_at q m) b a) right) b w.0 s
      (lift_long q sound small k few z of low most enough i m degree there (same_about m i) (plan_results.resolved q.ring (ideal_at q m) b.ext) right.0)
      (of_base q sound small k few z of low most enough i m degree there (same_about m i) b (λ I. support i I (Rattle.fm_report.specs.Parts.meant q.ring (printed_vector q.ring entries)))
      ∙ ap (λ es. Rattle.std.specs.Prelude.Some (support i (plan_results.resolved q.ring (ideal_at q m) b.ext) es)) (vector_means q.ring entries))
