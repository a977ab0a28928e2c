-- The certificates of answers on one ideal: resolutions, Ext, zero, roots, inverting and classes.
use Rattle.std.proofs.Common.{ℕ, suc, ◌+◌, ◌≡◌, ◌≤◌, ◌<◌, ◌^◌, true, nat_eq, ◌&&◌, List, [], ◌∷◌, ◌++◌, map, length, Some, option_map, refl, sym, ap, ap₂, ◌∙◌, subst, arith}
use Rattle.std.proofs.lemmas.Bool.{and_from, eq-eqb}
use Rattle.std.specs.List.{range_with_len}
use Rattle.fm_algebra.specs.Matrix.{listed}
use Rattle.fm_algebra.proofs.Tables.{length-listed}
use Rattle.fm_limit.specs.ResolvedIdeal.{ResolvedIdeal, matrix_at, rank}
use Rattle.fm_limit.specs.Verdicts.{Verdict, zero_limit, zero_class, inverting, root, resolution, ext}
use Rattle.fm_poly.specs.declared.ring.Ring.{Ring}
use Rattle.fm_poly.specs.Polys.{PolyValue, meaning}
use Rattle.fm_graphs.specs.Graphs.{MatrixOf, Inside}
use Rattle.fm_graphs.specs.Listing.{VectorOf}
use Rattle.fm_graphs.specs.Within.{is_within}
use Rattle.fm_problem.specs.declared.problem.Problem.{Problem}
use Rattle.fm_problem.specs.declared.query.Query.{Query}
use Rattle.fm_problem.specs.declared.query.Query as queries
use Rattle.fm_problem.specs.Sound.{IsQueryOf, IsProblem, IsSmallQuery, HasSmallExponents}
use Rattle.fm_cert.specs.Fields.{Values}
use Rattle.fm_cert.specs.Kinds.{EndKind, end_row}
use Rattle.fm_cert.specs.Kinds as kinds
use Rattle.fm_cert.specs.Lines.{Row}
use Rattle.fm_cert.specs.Writable.{AnswersQuery, AreWritableValues, IsWritableNumber, AreSmall}
use Rattle.fm_report.specs.Parts.{meant, part_values}
use Rattle.fm_report.specs.Sheets.{Block, Answer, new_block, is_about, is_answer, with_last}
use Rattle.fm_report.specs.Verdicts.{verdict_of, generators_in, part_at, block_root, stated}
use Rattle.fm_report.specs.Verdicts as statements
use Rattle.fm_report.specs.Holding.{IsHeld}
use Rattle.fm_plan.specs.Results.{Ideal, Resolution, Ext, Killed, killed_at, never_killed, differentials_of}
use Rattle.fm_plan.specs.Results as plan_results
use Rattle.fm_plan.specs.Queries.{BaseOf, Inverted, by_power, never_inverted, Found, found_zero, found_class, found_root, found_invert, found_resolution, found_ext, stable_graph, stable_of, is_yes, stage_of, power_of, verdict}
use Rattle.fm_plan.specs.Sizes.{IsResolutionAtMost, IsExtAtMost, IsBaseAtMost, IsInvertedAtMost, IsKilledAtMost}
use Rattle.fm_plan.specs.Within.{IsFoundWithin}
use Rattle.fm_plan.proofs.Bases.{Based}
use Rattle.fm_plan.proofs.Answers.{Right}
use Rattle.fm_answers.specs.Answers.{generators_at, ideal_at}
use Rattle.fm_answers.proofs.Blocks.{block_resolved, of_there}
use Rattle.fm_standard.specs.Small.{AreSmallLines}
use Rattle.fm_standard.specs.Writing.{Claim, at, part_claim}
use Rattle.fm_standard.specs.Said.{Laid, nothing, AllPut}
use Rattle.fm_standard.proofs.ClaimsSaid.{puts_append}
use Rattle.fm_standard.proofs.CertificatesSaid.{Good, datum_puts, certificate_good}
use Rattle.fm_certificates.specs.Certificates.{vector_part, resolution_claims, ext_claims, base_claims, inside_claims, killed_claims, inverted_claims, block_claims, found_claims, found_lines}
use Rattle.fm_certificates.specs.Certificates as certificates
use Rattle.fm_certificates.specs.Reports.{certified_answer}
use Rattle.fm_certificates.proofs.Matrices.{part_means, parts_mean}
use Rattle.fm_certificates.proofs.Writable.{IsAskedWithin, found_writable}
use Rattle.fm_certificates.proofs.Roots.{base_root}
use Rattle.fm_certificates.proofs.Idle.{AreIdle, idle_claim, idle_put, inside_idle, killed_idle, inverted_idle}
use Rattle.fm_certificates.proofs.Blocks.{resolution_block, ext_block, base_block, resolution_put, ext_put, base_put}

held : (r : Ring) (x : Found r) → Right r x → IsHeld (statements.verdict r.prime r.vars (verdict r x))
unfolding IsHeld
held r x right = right

-- a block of a query is about its ideal
pub same_about : (m i : ℕ) → (nat_eq m m && nat_eq i i) ≡ true
same_about m i = and_from _ _ (eq-eqb m m refl) (eq-eqb i i refl)

module _ (q : Problem) (sound : IsProblem q) (small : HasSmallExponents q) (k : ℕ) (few : suc k < 2 ^ 64) (z : Query) (of : IsQueryOf q z) (low : IsSmallQuery z) where
  abbrev r : Ring
  r = q.ring

  -- an answer whose claims lay down what its verdict rests on
  pub found_good : (x : Found r) → Right r x → IsFoundWithin r x → IsAskedWithin r x → AreSmallLines (found_lines q z x)
      → (e : EndKind) (values : Values (end_row e)) → is_answer e ≡ true → AnswersQuery (Some z) (kinds.Ended e) → AreWritableValues r (end_row e) values → (d : Laid)
      → AllPut q (suc k) z (record { kind = e; values = values }) (found_claims q z x) nothing d
      → verdict_of r q.ideals z e values (with_last d.finished d.block) d.identity ≡ Some (verdict r x)
      → Good q sound small k few z of low (record { question = z; kind = e; values = values; lines = found_lines q z x })
  unfolding found_lines
  found_good x right within asked lines e values yes_answer answers writable d put is =
      certificate_good q sound small k few z of low e values yes_answer answers writable (found_claims q z x) d
      (found_writable q z x within asked) lines put (verdict r x) is (held r x right)

  -- ---- one block
  module _ (i m : ℕ) (there : m < length q.ideals) where
    abbrev fs : Ideal r
    fs = ideal_at q m

    abbrev pub alone : Block → Laid
    alone b = record { finished = []; block = Some b; identity = [] }

    -- what a block says of its ideal
    pub ext_resolved : (y : Ext r) → statements.resolved r (generators_at q m) (ext_block r m i y) ≡ plan_results.resolved r fs y
    ext_resolved y = block_resolved r (generators_at q m) (ext_block r m i y) y (parts_mean r (differentials_of r y.resolution)) (parts_mean r y.lift)

    pub base_resolved : (b : BaseOf r) → statements.resolved r (generators_at q m) (base_block r m i b) ≡ plan_results.resolved r fs b.ext
    base_resolved b = block_resolved r (generators_at q m) (base_block r m i b) b.ext (parts_mean r (differentials_of r b.ext.resolution)) (parts_mean r b.ext.lift)

    pub of_base : (b : BaseOf r) (says : ResolvedIdeal r.prime r.vars → Verdict r.prime r.vars)
        → option_map (λ fs. says (statements.resolved r fs (base_block r m i b))) (generators_in r q.ideals m) ≡ Some (says (plan_results.resolved r fs b.ext))
    of_base b says = of_there q sound small m there (λ fs. says (statements.resolved r fs (base_block r m i b))) ∙ ap (λ I. Some (says I)) (base_resolved b)

    -- the root of a base holds
    root_is : (b : BaseOf r) → Based r i fs b → block_root r q.ideals (base_block r m i b) (stable_of r b) ≡ Some (verdict r (found_root i fs b))
    unfolding verdict matrix_at
    root_is b B =
        let c = base_block r m i b in
        let t = stable_of r b in
        of_there q sound small m there (λ fs. statements.root_of r i fs c (length (part_at r c.cocycles 0).columns) t)
        ∙ ap₂ (λ I (Ms : MatrixOf r × MatrixOf r × MatrixOf r). Some (root i I Ms.0 Ms.1 Ms.2 (length (Ms.0).columns) t)) (base_resolved b) (λ j. (first_is j, kernel_is j, u_is j))
      where
        first_is : part_at r (base_block r m i b).cocycles 0 ≡ b.ext.cocycles.found
        first_is = part_means r b.ext.cocycles.found

        u_is : part_at r (base_block r m i b).morphism 0 ≡ b.ext.u
        u_is = part_means r b.ext.u

        kernel_is : part_at r (base_block r m i b).kernels (stable_of r b) ≡ (stable_graph r b).matrix
        kernel_is = ap (λ Ks. matrix_at r.prime r.vars Ks (stable_of r b)) (parts_mean r (plan_results.kernels r b.ext b.chain)) ∙ sym B.stable_matrix

    pub root_held : (b : BaseOf r) → Based r i fs b → IsHeld (stated r (block_root r q.ideals (base_block r m i b) (stable_of r b)))
    root_held b B = subst (λ o. IsHeld (stated r o)) (sym (root_is b B)) (held r (found_root i fs b) (base_root r i fs b B))

    -- an answer under which this block stands alone
    module _ (about : is_about z [] m i ≡ true) (x : Found r) (right : Right r x) (within : IsFoundWithin r x) (asked : IsAskedWithin r x) (lines : AreSmallLines (found_lines q z x))
        (e : EndKind) (values : Values (end_row e)) (yes_answer : is_answer e ≡ true) (answers : AnswersQuery (Some z) (kinds.Ended e)) (writable : AreWritableValues q.ring (end_row e) values) where
      abbrev answer : Answer
      answer = record { kind = e; values = values }

      abbrev Puts : List Claim → Laid → Laid → Type 0
      Puts cs c d = AllPut q (suc k) z (record { kind = e; values = values }) cs c d

      pub block_good : (cs : List Claim) (b : Block) → block_claims q m i cs ≡ found_claims q z x → Puts cs (alone (new_block m i)) (alone b)
          → verdict_of q.ring q.ideals z e values (b ∷ []) [] ≡ Some (verdict q.ring x) → Good q sound small k few z of low (record { question = z; kind = e; values = values; lines = found_lines q z x })
      block_good cs b same put is =
          found_good x right within asked lines e values yes_answer answers writable (alone b)
          (subst (λ ds. Puts ds nothing (alone b)) same (alone (new_block m i), datum_puts q sound small k few z of low e values yes_answer answers writable nothing m i there about, put))
          is

      -- and claims that lay nothing down
      pub base_good : (b : BaseOf r) → Based r i fs b → (cs : List Claim) → certificates.base_block q m i b ++ cs ≡ found_claims q z x
          → AreIdle q (suc k) z (record { kind = e; values = values }) cs
          → verdict_of q.ring q.ideals z e values (base_block q.ring m i b ∷ []) [] ≡ Some (verdict q.ring x) → Good q sound small k few z of low (record { question = z; kind = e; values = values; lines = found_lines q z x })
      base_good b B cs same idle is =
          let c = alone (base_block r m i b) in
          block_good (base_claims r i b ++ cs) (base_block r m i b) same
          (puts_append q (suc k) z answer (base_claims r i b) cs (alone (new_block m i)) c c (base_put q (suc k) z answer [] [] m i b B.count (root_held b B)) (idle_put q (suc k) z answer cs idle c))
          is

module _ (q : Problem) (sound : IsProblem q) (small : HasSmallExponents q) (k : ℕ) (few : suc k < 2 ^ 64) (most : ℕ) (enough : most < 2 ^ 33) (i m : ℕ) (there : m < length q.ideals) where
  abbrev ring : Ring
  ring = q.ring

  -- ---- resolutions
  ranks_small : (n : ℕ) (f : ℕ → ℕ) → ((j : ℕ) → f j ≤ most) → AreSmall (listed n f)
  unfolding listed
  ranks_small n f h = each (range_with_len 0 n)
    where
      each : (js : List ℕ) → AreSmall (map f js)
      each [] = tt
      each (j ∷ js) = ((let l = h j in omega (arith, l, enough)), each js)

  pub resolution_certified : (of : IsQueryOf q (queries.TheVariants.Resolution i m)) (low : IsSmallQuery (queries.TheVariants.Resolution i m)) (x : Resolution ring)
      → Right ring (found_resolution i (ideal_at q m) x) → IsFoundWithin ring (found_resolution i (ideal_at q m) x) → IsResolutionAtMost ring most x
      → AreSmallLines (found_lines q (queries.TheVariants.Resolution i m) (found_resolution i (ideal_at q m) x))
      → Good q sound small k few (queries.TheVariants.Resolution i m) of low (certified_answer q (queries.TheVariants.Resolution i m) (found_resolution i (ideal_at q m) x))
  unfolding verdict
  resolution_certified of low x right w s lines =
      let z = queries.TheVariants.Resolution i m in
      let ranks = listed (i + 2) (rank ring.prime ring.vars (differentials_of ring x)) in
      let b = resolution_block ring m i x in
      block_good q sound small k few z of low i m there (same_about m i) (found_resolution i (ideal_at q m) x) right w tt lines kinds.Ranks (ranks, tt) refl refl
      (((let n = length-listed (i + 2) (rank ring.prime ring.vars (differentials_of ring x)) in omega (arith, n)), ranks_small (i + 2) (rank ring.prime ring.vars (differentials_of ring x)) s.ranks), tt)
      (resolution_claims ring x) b refl (resolution_put q (suc k) z (record { kind = kinds.Ranks; values = (ranks, tt) }) [] [] m i x)
      (of_there q sound small m there (λ fs. resolution (meant ring fs) i (part_values ring b.differentials) ranks)
      ∙ ap (λ ds. Some (resolution (ideal_at q m) i ds ranks)) (parts_mean ring (differentials_of ring x)))

  -- ---- Ext
  pub ext_certified : (of : IsQueryOf q (queries.TheVariants.ExtOf i m)) (low : IsSmallQuery (queries.TheVariants.ExtOf i m)) (y : Ext ring)
      → Right ring (found_ext i (ideal_at q m) y) → IsFoundWithin ring (found_ext i (ideal_at q m) y) → IsExtAtMost ring most y
      → AreSmallLines (found_lines q (queries.TheVariants.ExtOf i m) (found_ext i (ideal_at q m) y))
      → Good q sound small k few (queries.TheVariants.ExtOf i m) of low (certified_answer q (queries.TheVariants.ExtOf i m) (found_ext i (ideal_at q m) y))
  unfolding verdict matrix_at
  ext_certified of low y right w s lines =
      let z = queries.TheVariants.ExtOf i m in
      let g = length y.cocycles.found.columns in
      let n = length y.relations.found.columns in
      let b = ext_block ring m i y in
      let g_few = s.cocycles.found.columns in
      let n_few = s.relations.found.columns in
      block_good q sound small k few z of low i m there (same_about m i) (found_ext i (ideal_at q m) y) right w tt lines kinds.ExtOf (g, (n, tt)) refl refl
      (omega (arith, g_few, enough), (omega (arith, n_few, enough), tt))
      (ext_claims ring i y) b refl (ext_put q (suc k) z (record { kind = kinds.ExtOf; values = (g, (n, tt)) }) [] [] m i y)
      (of_there q sound small m there (λ fs. statements.ext_of ring i fs b g n)
      ∙ ap₂ (λ I (Ms : MatrixOf ring × MatrixOf ring × MatrixOf ring). Some (ext i I Ms.0 Ms.1 Ms.2 g n)) (ext_resolved q sound small k few z of low i m there y)
      (λ j. (part_means ring y.cocycles.found j, part_means ring y.relations.found j, part_means ring y.u j)))

  -- ---- on a chain
  module _ (b : BaseOf ring) (B : Based ring i (ideal_at q m) b) (s : IsBaseAtMost ring most b) where
    abbrev t : ℕ
    t = stable_of ring b

    t_small : t < 2 ^ 64
    t_small = let l = s.chain.index in omega (arith, l, enough)

    pub zero_certified : (of : IsQueryOf q (queries.TheVariants.Zero i m)) (low : IsSmallQuery (queries.TheVariants.Zero i m)) (y : Inside ring)
        → Right ring (found_zero i (ideal_at q m) b y) → IsFoundWithin ring (found_zero i (ideal_at q m) b y) → AreSmallLines (found_lines q (queries.TheVariants.Zero i m) (found_zero i (ideal_at q m) b y))
        → Good q sound small k few (queries.TheVariants.Zero i m) of low (certified_answer q (queries.TheVariants.Zero i m) (found_zero i (ideal_at q m) b y))
    unfolding verdict
    zero_certified of low y right w lines =
        let z = queries.TheVariants.Zero i m in
        let values : Values (end_row kinds.Zero) = (is_yes ring y, (t, tt)) in
        let answer : Answer = record { kind = kinds.Zero; values = values } in
        base_good q sound small k few z of low i m there (same_about m i) (found_zero i (ideal_at q m) b y) right w tt lines kinds.Zero values refl refl (tt, (t_small, tt))
        b B (inside_claims ring b.chain.stable y (λ p. Row kinds.Whole (p, tt)) (λ n c by. Row kinds.Proper (n, (c, (by, tt))))) refl
        (inside_idle q (suc k) z answer b.chain.stable y _ _
        (λ A. idle_claim q (suc k) z answer _ kinds.Whole (λ ns. (at ns 0, tt)) refl)
        (λ A entries c by. idle_claim q (suc k) z answer _ kinds.Proper (λ ns. (at ns 0, (c, (by, tt)))) refl))
        (of_base q sound small k few z of low i m there b (λ I. zero_limit i I (is_yes ring y) t))

    pub root_certified : (of : IsQueryOf q (queries.TheVariants.Root i m)) (low : IsSmallQuery (queries.TheVariants.Root i m))
        → Right ring (found_root i (ideal_at q m) b) → IsFoundWithin ring (found_root i (ideal_at q m) b) → AreSmallLines (found_lines q (queries.TheVariants.Root i m) (found_root i (ideal_at q m) b))
        → Good q sound small k few (queries.TheVariants.Root i m) of low (certified_answer q (queries.TheVariants.Root i m) (found_root i (ideal_at q m) b))
    unfolding verdict matrix_at
    root_certified of low right w lines =
        let z = queries.TheVariants.Root i m in
        let g = length b.ext.cocycles.found.columns in
        let c = base_block ring m i b in
        let g_few = s.ext.cocycles.found.columns in
        let values : Values (end_row kinds.Root) = (g, (t, tt)) in
        let answer : Answer = record { kind = kinds.Root; values = values } in
        block_good q sound small k few z of low i m there (same_about m i) (found_root i (ideal_at q m) b) right w tt lines kinds.Root values refl refl (omega (arith, g_few, enough), (t_small, tt))
        (base_claims ring i b) c refl (base_put q (suc k) z answer [] [] m i b B.count (root_held q sound small k few z of low i m there b B))
        (of_there q sound small m there (λ fs. statements.root_of ring i fs c g t)
        ∙ ap₂ (λ I (Ms : MatrixOf ring × MatrixOf ring × MatrixOf ring). Some (root i I Ms.0 Ms.1 Ms.2 g t)) (base_resolved q sound small k few z of low i m there b)
        (λ j. (part_means ring b.ext.cocycles.found j, kernel_is j, part_means ring b.ext.u j)))
      where
        kernel_is : part_at ring (base_block ring m i b).kernels t ≡ (stable_graph ring b).matrix
        kernel_is = ap (λ Ks. matrix_at ring.prime ring.vars Ks t) (parts_mean ring (plan_results.kernels ring b.ext b.chain)) ∙ sym B.stable_matrix

    power_small : (y : Inverted ring) → IsInvertedAtMost ring most y → IsWritableNumber ring (power_of ring y)
    power_small (by_power n w before) l = let h = l.0 in omega (arith, h, enough)
    power_small (never_inverted colons w proper) l = tt

    pub invert_certified : (f : PolyValue) (of : IsQueryOf q (queries.TheVariants.Invert i m f)) (low : IsSmallQuery (queries.TheVariants.Invert i m f)) (y : Inverted ring)
        → Right ring (found_invert i (ideal_at q m) b (meaning ring f.terms) y) → IsFoundWithin ring (found_invert i (ideal_at q m) b (meaning ring f.terms) y) → is_within ring.prime ring.vars (meaning ring f.terms) ≡ true
        → IsInvertedAtMost ring most y → AreSmallLines (found_lines q (queries.TheVariants.Invert i m f) (found_invert i (ideal_at q m) b (meaning ring f.terms) y))
        → Good q sound small k few (queries.TheVariants.Invert i m f) of low (certified_answer q (queries.TheVariants.Invert i m f) (found_invert i (ideal_at q m) b (meaning ring f.terms) y))
    unfolding verdict
    invert_certified f of low y right w f_within l lines =
        let z = queries.TheVariants.Invert i m f in
        let g = meaning ring f.terms in
        let values : Values (end_row kinds.Invert) = (power_of ring y, tt) in
        let answer : Answer = record { kind = kinds.Invert; values = values } in
        base_good q sound small k few z of low i m there (same_about m i) (found_invert i (ideal_at q m) b g y) right w f_within lines kinds.Invert values refl refl (power_small y l, tt)
        b B (inverted_claims ring b g y) refl (inverted_idle q (suc k) z answer b g y)
        (of_base q sound small k few z of low i m there b (λ I. inverting i I g (power_of ring y)))

    stage_small : (e : ℕ) → e ≤ 16 → (y : Killed ring) → IsKilledAtMost ring most y → IsWritableNumber ring (stage_of ring e y)
    stage_small e low (killed_at n w before) l = let h = l.0 in omega (arith, h, low, enough)
    stage_small e low (never_killed before) l = tt

    pub class_certified : (e : ℕ) (c : List PolyValue) (of : IsQueryOf q (queries.TheVariants.Class i m e c)) (low : IsSmallQuery (queries.TheVariants.Class i m e c)) (v : VectorOf ring) (y : Killed ring)
        → Right ring (found_class i (ideal_at q m) b e (meant ring c) v y) → IsFoundWithin ring (found_class i (ideal_at q m) b e (meant ring c) v y) → IsKilledAtMost ring most y
        → AreSmallLines (found_lines q (queries.TheVariants.Class i m e c) (found_class i (ideal_at q m) b e (meant ring c) v y))
        → Good q sound small k few (queries.TheVariants.Class i m e c) of low (certified_answer q (queries.TheVariants.Class i m e c) (found_class i (ideal_at q m) b e (meant ring c) v y))
    unfolding verdict
    class_certified e c of low v y right w l lines =
        let z = queries.TheVariants.Class i m e c in
        let values : Values (end_row kinds.Class) = (stage_of ring e y, tt) in
        let answer : Answer = record { kind = kinds.Class; values = values } in
        base_good q sound small k few z of low i m there (same_about m i) (found_class i (ideal_at q m) b e (meant ring c) v y) right w tt lines kinds.Class values refl refl (stage_small e of.2 y l, tt)
        b B (part_claim (vector_part ring v) (λ p. Row kinds.Coordinates (p, tt)) ∷ killed_claims ring b y) refl
        (idle_claim q (suc k) z answer _ kinds.Coordinates (λ ns. (at ns 0, tt)) refl, killed_idle q (suc k) z answer b y)
        (of_base q sound small k few z of low i m there b (λ I. zero_class i I e (meant ring c) (stage_of ring e y)))
