-- The reports of answers on one ideal: resolutions, Ext, zero, roots, inverting and classes.
use Rattle.std.proofs.Common.{ℕ, suc, ◌+◌, ◌≡◌, ◌≤◌, ◌<◌, ◌^◌, true, nat_eq, ◌&&◌, List, [], ◌∷◌, map, length, Some, option_map, refl, sym, ap, ap₂, ◌∙◌, subst, arith}
use Rattle.std.proofs.lemmas.Bool.{and_from, eq-eqb}
use Rattle.std.specs.List.{range_with_len}
use Rattle.fm_algebra.specs.Matrix.{listed}
use Rattle.fm_algebra.proofs.Tables.{length-listed}
use Rattle.fm_limit.specs.ResolvedIdeal.{ResolvedIdeal, IsResolved, matrix_at, rank}
use Rattle.fm_limit.specs.Verdicts.{Verdict, RestsOn, Holds, zero_limit, zero_class, inverting, root, resolution, ext}
use Rattle.fm_poly.specs.declared.ring.Ring.{Ring}
use Rattle.fm_poly.specs.Polys.{PolyValue, meaning}
use Rattle.fm_graphs.specs.Graphs.{MatrixOf, Inside}
use Rattle.fm_graphs.specs.Listing.{VectorOf}
use Rattle.fm_problem.specs.declared.problem.Problem.{Problem}
use Rattle.fm_problem.specs.declared.query.Query.{Query}
use Rattle.fm_problem.specs.declared.query.Query as queries
use Rattle.fm_problem.specs.Sound.{IsQueryOf, IsProblem, IsSmallQuery, HasSmallExponents}
use Rattle.fm_cert.specs.Fields.{Values}
use Rattle.fm_cert.specs.Kinds.{EndKind, end_row}
use Rattle.fm_cert.specs.Kinds as kinds
use Rattle.fm_cert.specs.Writable.{AnswersQuery, AreWritableValues, IsWritableNumber, AreSmall}
use Rattle.fm_report.specs.Parts.{meant, part_values}
use Rattle.fm_report.specs.Sheets.{Answer, is_about, is_answer}
use Rattle.fm_report.specs.Verdicts.{verdict_of, generators_in, part_at}
use Rattle.fm_report.specs.Verdicts as statements
use Rattle.fm_report.specs.Holding.{IsHeld}
use Rattle.fm_run.proofs.Ends.{Ends, same_value, bound}
use Rattle.fm_run.specs.Runs.{ready}
use Rattle.fm_run.specs.declared.task.Side.TheVariants.{Alone}
use Rattle.fm_plan.specs.Results.{Ideal, Resolution, Ext, Killed, killed_at, never_killed, differentials_of}
use Rattle.fm_plan.specs.Results as plan_results
use Rattle.fm_plan.specs.Queries.{BaseOf, Inverted, by_power, never_inverted, Found, found_zero, found_class, found_root, found_invert, found_resolution, found_ext, ask_root, plan, base_plan, stable_graph, stable_of, is_yes, stage_of, power_of, verdict}
use Rattle.fm_plan.specs.Sizes.{IsResolutionAtMost, IsExtAtMost, IsBaseAtMost, HasSizes}
use Rattle.fm_plan.specs.Within.{IsResolutionWithin, IsExtWithin, IsBaseWithin}
use Rattle.fm_plan.proofs.Bases.{base_is}
use Rattle.fm_answers.specs.Printed.{resolution_namings, ext_namings, base_namings}
use Rattle.fm_answers.specs.Answers.{generators_at, ideal_at, found_report, block_of}
use Rattle.fm_answers.proofs.PrintedMatrices.{matrix_means, matrices_mean}
use Rattle.fm_answers.proofs.Namings.{resolution_block, ext_block, base_block, resolution_count, ext_count, base_count, resolution_good, ext_good, base_good, resolution_put, ext_put, base_put}
use Rattle.fm_answers.proofs.Blocks.{Good, names_are, block_good, block_resolved, of_there}

-- the verdict of what is found holds, on what it rests on
abbrev pub IsRight : (r : Ring) → Found r → Type 0
IsRight r x = RestsOn r.prime r.vars (verdict r x) × Holds r.prime r.vars (verdict r x)

pub held : (r : Ring) (x : Found r) → IsRight r x → IsHeld (statements.verdict r.prime r.vars (verdict r x))
unfolding IsHeld
held r x right = right

-- a block of a query is about its ideal
pub same_about : (m i : ℕ) → (nat_eq m m && nat_eq i i) ≡ true
same_about m i = and_from _ _ (eq-eqb m m refl) (eq-eqb i i refl)

-- the stable kernel of a root
pub root_stable : (r : Ring) (i : ℕ) (fs : Ideal r) (units left : ℕ) (b : BaseOf r) → Ends (plan r (ask_root i fs) units) (found_root i fs b) left
    → (stable_graph r b).matrix ≡ matrix_at r.prime r.vars (plan_results.kernels r b.ext b.chain) (stable_of r b)
unfolding plan
root_stable r i fs units left b ends =
    let a = bound (base_plan r Alone i fs) (λ b. ready (found_root i fs b)) units left (found_root i fs b) ends in
    let same : a.value ≡ b = own a.value b (same_value (found_root i fs a.value) (found_root i fs b) a.between left a.second) in
    subst (λ (b : BaseOf r). (stable_graph r b).matrix ≡ matrix_at r.prime r.vars (plan_results.kernels r b.ext b.chain) (stable_of r b)) same (base_is r i fs Alone units a.between a.value a.first).stable_matrix
  where
    own : (b c : BaseOf r) → ◌≡◌ {A = Found r} (found_root i fs b) (found_root i fs c) → b ≡ c
    own b c e = cc

module _ (q : Problem) (sound : IsProblem q) (small : HasSmallExponents q) (k : ℕ) (few : suc k < 2 ^ 64) (z : Query) (of : IsQueryOf q z) (low : IsSmallQuery z)
    (most : ℕ) (enough : most < 2 ^ 33) (i m : ℕ) (degree : i + 2 ≤ most) (there : m < length q.ideals) (about : is_about z [] m i ≡ true) where
  abbrev GoodReport : Found q.ring → Type 0
  GoodReport x = Good q sound small k few z of low (found_report q z x)

  abbrev fs : Ideal q.ring
  fs = ideal_at q m

  -- ---- what a block says of its ideal
  pub ext_resolved : (y : Ext q.ring) → statements.resolved q.ring (generators_at q m) (ext_block q.ring m i y) ≡ plan_results.resolved q.ring fs y
  ext_resolved y = block_resolved q.ring (generators_at q m) (ext_block q.ring m i y) y (matrices_mean q.ring (differentials_of q.ring y.resolution)) (matrices_mean q.ring y.lift)

  pub base_resolved : (b : BaseOf q.ring) → statements.resolved q.ring (generators_at q m) (base_block q.ring m i b) ≡ plan_results.resolved q.ring fs b.ext
  base_resolved b = block_resolved q.ring (generators_at q m) (base_block q.ring m i b) b.ext (matrices_mean q.ring (differentials_of q.ring b.ext.resolution)) (matrices_mean q.ring b.ext.lift)

  pub of_base : (b : BaseOf q.ring) (says : ResolvedIdeal q.ring.prime q.ring.vars → Verdict q.ring.prime q.ring.vars)
      → option_map (λ fs. says (statements.resolved q.ring fs (base_block q.ring m i b))) (generators_in q.ring q.ideals m) ≡ Some (says (plan_results.resolved q.ring fs b.ext))
  of_base b says =
      of_there q sound small m there (λ fs. says (statements.resolved q.ring fs (base_block q.ring m i b))) ∙ ap (λ I. Some (says I)) (base_resolved b)

  pub lift_long : (I : ResolvedIdeal q.ring.prime q.ring.vars) → IsResolved q.ring.prime q.ring.vars i I → length I.lift ≤ most
  lift_long I is = let n = is.frobenius.count in omega (arith, n, degree)

  module _ (e : EndKind) (values : Values (end_row e)) (yes_answer : is_answer e ≡ true) (answers : AnswersQuery (Some z) (kinds.Ended e)) (writable : AreWritableValues q.ring (end_row e) values)
      (v : Verdict q.ring.prime q.ring.vars) (holds : IsHeld (statements.verdict q.ring.prime q.ring.vars v)) where
    abbrev answer : Answer
    answer = record { kind = e; values = values }

    pub resolution_block_good : (x : Resolution q.ring) → IsResolutionWithin q.ring x → IsResolutionAtMost q.ring most x
        → verdict_of q.ring q.ideals z e values (resolution_block q.ring m i x ∷ []) [] ≡ Some v
        → Good q sound small k few z of low (record { question = z; kind = e; values = values; lines = block_of q m i (resolution_namings q.ring x) })
    resolution_block_good x w s is =
        let n = resolution_count q.ring x in
        let c = s.count in
        block_good q sound small k few z of low e values yes_answer answers writable m i there (omega (arith, degree, enough)) about (resolution_namings q.ring x) (resolution_block q.ring m i x)
        (resolution_good q (names_are q sound small k few z of low) sound.bounded.named most enough x w s) (omega (arith, n, c, enough))
        (resolution_put q (names_are q sound small k few z of low) sound.bounded.named most enough (suc k) z answer [] [] m i x s) v is holds

    pub ext_block_good : (y : Ext q.ring) → IsExtWithin q.ring y → IsExtAtMost q.ring most y → length y.lift ≤ most
        → verdict_of q.ring q.ideals z e values (ext_block q.ring m i y ∷ []) [] ≡ Some v
        → Good q sound small k few z of low (record { question = z; kind = e; values = values; lines = block_of q m i (ext_namings q.ring y) })
    ext_block_good y w s long is =
        let n = ext_count q.ring y in
        let c = s.resolution.count in
        block_good q sound small k few z of low e values yes_answer answers writable m i there (omega (arith, degree, enough)) about (ext_namings q.ring y) (ext_block q.ring m i y)
        (ext_good q (names_are q sound small k few z of low) sound.bounded.named most enough y w s) (omega (arith, n, c, long, enough))
        (ext_put q (names_are q sound small k few z of low) sound.bounded.named most enough (suc k) z answer [] [] m i y s long) v is holds

    pub base_block_good : (b : BaseOf q.ring) → IsBaseWithin q.ring b → IsBaseAtMost q.ring most b → length b.ext.lift ≤ most
        → verdict_of q.ring q.ideals z e values (base_block q.ring m i b ∷ []) [] ≡ Some v
        → Good q sound small k few z of low (record { question = z; kind = e; values = values; lines = block_of q m i (base_namings q.ring b) })
    base_block_good b w s long is =
        let n = base_count q.ring b in
        let c = s.ext.resolution.count in
        let l = s.chain.count in
        block_good q sound small k few z of low e values yes_answer answers writable m i there (omega (arith, degree, enough)) about (base_namings q.ring b) (base_block q.ring m i b)
        (base_good q (names_are q sound small k few z of low) sound.bounded.named most enough b w s) (omega (arith, n, c, l, long, enough))
        (base_put q (names_are q sound small k few z of low) sound.bounded.named most enough (suc k) z answer [] [] m i b s long) v is holds

module _ (q : Problem) (sound : IsProblem q) (small : HasSmallExponents q) (k : ℕ) (few : suc k < 2 ^ 64) (most : ℕ) (enough : most < 2 ^ 33) (i m : ℕ) (degree : i + 2 ≤ most) (there : m < length q.ideals) where
  abbrev r : Ring
  r = q.ring

  -- ---- resolutions
  ranks_small : (n : ℕ) (f : ℕ → ℕ) → ((j : ℕ) → f j ≤ most) → AreSmall (listed n f)
  unfolding listed
  ranks_small n f h = each (range_with_len 0 n)
    where
      each : (js : List ℕ) → AreSmall (map f js)
      each [] = tt
      each (j ∷ js) = ((let l = h j in omega (arith, l, enough)), each js)

  pub resolution_report : (of : IsQueryOf q (queries.TheVariants.Resolution i m)) (low : IsSmallQuery (queries.TheVariants.Resolution i m)) (x : Resolution q.ring)
      → IsRight q.ring (found_resolution i (ideal_at q m) x) → IsResolutionWithin q.ring x → IsResolutionAtMost q.ring most x
      → Good q sound small k few (queries.TheVariants.Resolution i m) of low (found_report q (queries.TheVariants.Resolution i m) (found_resolution i (ideal_at q m) x))
  unfolding verdict
  resolution_report of low x right w s =
      let ranks = listed (i + 2) (rank q.ring.prime q.ring.vars (differentials_of q.ring x)) in
      resolution_block_good q sound small k few (queries.TheVariants.Resolution i m) of low most enough i m degree there (same_about m i) kinds.Ranks (ranks, tt) refl refl
      (((let n = length-listed (i + 2) (rank q.ring.prime q.ring.vars (differentials_of q.ring x)) in omega (arith, n)), ranks_small (i + 2) (rank q.ring.prime q.ring.vars (differentials_of q.ring x)) s.ranks), tt)
      (verdict q.ring (found_resolution i (ideal_at q m) x)) (held q.ring (found_resolution i (ideal_at q m) x) right) x w s
      (of_there q sound small m there (λ fs. resolution (meant q.ring fs) i (part_values q.ring (resolution_block q.ring m i x).differentials) ranks)
      ∙ ap (λ ds. Some (resolution (ideal_at q m) i ds ranks)) (matrices_mean q.ring (differentials_of q.ring x)))

  -- ---- Ext
  pub ext_report : (of : IsQueryOf q (queries.TheVariants.ExtOf i m)) (low : IsSmallQuery (queries.TheVariants.ExtOf i m)) (y : Ext q.ring)
      → IsRight q.ring (found_ext i (ideal_at q m) y) → IsExtWithin q.ring y → IsExtAtMost q.ring most y
      → Good q sound small k few (queries.TheVariants.ExtOf i m) of low (found_report q (queries.TheVariants.ExtOf i m) (found_ext i (ideal_at q m) y))
  unfolding verdict matrix_at
  ext_report of low y right w s =
      let z = queries.TheVariants.ExtOf i m in
      let g = length y.cocycles.found.columns in
      let n = length y.relations.found.columns in
      let b = ext_block q.ring m i y in
      let g_few = s.cocycles.found.columns in
      let n_few = s.relations.found.columns in
      ext_block_good q sound small k few z of low most enough i m degree there (same_about m i) kinds.ExtOf (g, (n, tt)) refl refl
      (omega (arith, g_few, enough), (omega (arith, n_few, enough), tt))
      (verdict q.ring (found_ext i (ideal_at q m) y)) (held q.ring (found_ext i (ideal_at q m) y) right) y w s
      (lift_long q sound small k few z of low most enough i m degree there (same_about m i) (plan_results.resolved q.ring (ideal_at q m) y) right.0)
      (of_there q sound small m there (λ fs. statements.ext_of q.ring i fs b g n)
      ∙ ap₂ (λ I (Ms : MatrixOf q.ring × MatrixOf q.ring × MatrixOf q.ring). Some (ext i I Ms.0 Ms.1 Ms.2 g n))
      (ext_resolved q sound small k few z of low most enough i m degree there (same_about m i) y)
      (λ j. (matrix_means q.ring y.cocycles.found j, matrix_means q.ring y.relations.found j, matrix_means q.ring y.u j)))

  -- ---- on a chain
  module _ (b : BaseOf q.ring) (w : IsBaseWithin q.ring b) (s : IsBaseAtMost q.ring most b) where
    abbrev t : ℕ
    t = stable_of q.ring b

    t_small : t < 2 ^ 64
    t_small = let l = s.chain.index in omega (arith, l, enough)

    pub zero_report : (of : IsQueryOf q (queries.TheVariants.Zero i m)) (low : IsSmallQuery (queries.TheVariants.Zero i m)) (y : Inside q.ring) → IsRight q.ring (found_zero i (ideal_at q m) b y)
        → Good q sound small k few (queries.TheVariants.Zero i m) of low (found_report q (queries.TheVariants.Zero i m) (found_zero i (ideal_at q m) b y))
    unfolding verdict
    zero_report of low y right =
        let z = queries.TheVariants.Zero i m in
        base_block_good q sound small k few z of low most enough i m degree there (same_about m i) kinds.Zero (is_yes q.ring y, (t, tt)) refl refl (tt, (t_small, tt))
        (verdict q.ring (found_zero i (ideal_at q m) b y)) (held q.ring (found_zero i (ideal_at q m) b y) right) b w s
        (lift_long q sound small k few z of low most enough i m degree there (same_about m i) (plan_results.resolved q.ring (ideal_at q m) b.ext) right.0)
        (of_base q sound small k few z of low most enough i m degree there (same_about m i) b (λ I. zero_limit i I (is_yes q.ring y) t))

    pub root_report : (of : IsQueryOf q (queries.TheVariants.Root i m)) (low : IsSmallQuery (queries.TheVariants.Root i m)) → IsRight q.ring (found_root i (ideal_at q m) b)
        → (stable_graph q.ring b).matrix ≡ matrix_at q.ring.prime q.ring.vars (plan_results.kernels q.ring b.ext b.chain) (stable_of q.ring b)
        → Good q sound small k few (queries.TheVariants.Root i m) of low (found_report q (queries.TheVariants.Root i m) (found_root i (ideal_at q m) b))
    unfolding verdict matrix_at
    root_report of low right stable =
        let z = queries.TheVariants.Root i m in
        let g = length b.ext.cocycles.found.columns in
        let c = base_block q.ring m i b in
        let g_few = s.ext.cocycles.found.columns in
        base_block_good q sound small k few z of low most enough i m degree there (same_about m i) kinds.Root (g, (t, tt)) refl refl (omega (arith, g_few, enough), (t_small, tt))
        (verdict q.ring (found_root i (ideal_at q m) b)) (held q.ring (found_root i (ideal_at q m) b) right) b w s
        (lift_long q sound small k few z of low most enough i m degree there (same_about m i) (plan_results.resolved q.ring (ideal_at q m) b.ext) right.0)
        (of_there q sound small m there (λ fs. statements.root_of q.ring i fs c g t)
        ∙ ap₂ (λ I (Ms : MatrixOf q.ring × MatrixOf q.ring × MatrixOf q.ring). Some (root i I Ms.0 Ms.1 Ms.2 g t))
        (base_resolved q sound small k few z of low most enough i m degree there (same_about m i) b)
        (λ j. (first_is j, kernel_is j, u_is j)))
      where
        first_is : part_at q.ring (base_block q.ring m i b).cocycles 0 ≡ b.ext.cocycles.found
        first_is = matrix_means q.ring b.ext.cocycles.found

        u_is : part_at q.ring (base_block q.ring m i b).morphism 0 ≡ b.ext.u
        u_is = matrix_means q.ring b.ext.u

        kernel_is : part_at q.ring (base_block q.ring m i b).kernels t ≡ (stable_graph q.ring b).matrix
        kernel_is = ap (λ Ks. matrix_at q.ring.prime q.ring.vars Ks t) (matrices_mean q.ring (plan_results.kernels q.ring b.ext b.chain)) ∙ sym stable

    power_small : (s : Inverted q.ring) → Rattle.fm_plan.specs.Sizes.IsInvertedAtMost q.ring most s → IsWritableNumber q.ring (power_of q.ring s)
    power_small (by_power n w before) l = let h = l.0 in omega (arith, h, enough)
    power_small (never_inverted colons w proper) l = tt

    pub invert_report : (f : PolyValue) (of : IsQueryOf q (queries.TheVariants.Invert i m f)) (low : IsSmallQuery (queries.TheVariants.Invert i m f)) (s : Inverted q.ring)
        → IsRight q.ring (found_invert i (ideal_at q m) b (meaning q.ring f.terms) s) → Rattle.fm_plan.specs.Sizes.IsInvertedAtMost q.ring most s
        → Good q sound small k few (queries.TheVariants.Invert i m f) of low (found_report q (queries.TheVariants.Invert i m f) (found_invert i (ideal_at q m) b (meaning q.ring f.terms) s))
    unfolding verdict
    invert_report f of low o right l =
        let z = queries.TheVariants.Invert i m f in
        let g = meaning q.ring f.terms in
        base_block_good q sound small k few z of low most enough i m degree there (same_about m i) kinds.Invert (power_of q.ring o, tt) refl refl (power_small o l, tt)
        (verdict q.ring (found_invert i (ideal_at q m) b g o)) (held q.ring (found_invert i (ideal_at q m) b g o) right) b w s
        (lift_long q sound small k few z of low most enough i m degree there (same_about m i) (plan_results.resolved q.ring (ideal_at q m) b.ext) right.0)
        (of_base q sound small k few z of low most enough i m degree there (same_about m i) b (λ I. inverting i I g (power_of q.ring o)))

    stage_small : (e : ℕ) → e ≤ 16 → (s : Killed q.ring) → Rattle.fm_plan.specs.Sizes.IsKilledAtMost q.ring most s → IsWritableNumber q.ring (stage_of q.ring e s)
    stage_small e low (killed_at n w before) l = let h = l.0 in omega (arith, h, low, enough)
    stage_small e low (never_killed before) l = tt

    pub class_report : (e : ℕ) (c : List PolyValue) (of : IsQueryOf q (queries.TheVariants.Class i m e c)) (low : IsSmallQuery (queries.TheVariants.Class i m e c)) (v : VectorOf q.ring) (s : Killed q.ring)
        → IsRight q.ring (found_class i (ideal_at q m) b e (meant q.ring c) v s) → Rattle.fm_plan.specs.Sizes.IsKilledAtMost q.ring most s
        → Good q sound small k few (queries.TheVariants.Class i m e c) of low (found_report q (queries.TheVariants.Class i m e c) (found_class i (ideal_at q m) b e (meant q.ring c) v s))
    unfolding verdict
    class_report e c of low v o right l =
        let z = queries.TheVariants.Class i m e c in
        base_block_good q sound small k few z of low most enough i m degree there (same_about m i) kinds.Class (stage_of q.ring e o, tt) refl refl (stage_small e of.2 o l, tt)
        (verdict q.ring (found_class i (ideal_at q m) b e (meant q.ring c) v o)) (held q.ring (found_class i (ideal_at q m) b e (meant q.ring c) v o) right) b w s
        (lift_long q sound small k few z of low most enough i m degree there (same_about m i) (plan_results.resolved q.ring (ideal_at q m) b.ext) right.0)
        (of_base q sound small k few z of low most enough i m degree there (same_about m i) b (λ I. zero_class i I e (meant q.ring c) (stage_of q.ring e o)))
