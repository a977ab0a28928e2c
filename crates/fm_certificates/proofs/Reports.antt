-- The certified report of every query states what holds.
use Rattle.std.proofs.Common.{ℕ, suc, ◌+◌, ◌≡◌, ◌≤◌, ◌<◌, ◌^◌, List, length, Result, Ok, Err, refl, sym, subst, arith}
use Rattle.std.proofs.lemmas.List.{length-map}
use Rattle.fm_poly.specs.Polys.{PolyValue, meaning}
use Rattle.fm_run.specs.Runs.{Halt, Budget, Exponent}
use Rattle.fm_run.specs.declared.task.Task.{Task}
use Rattle.fm_run.proofs.Ends.{Ends}
use Rattle.fm_graphs.specs.Graphs.{MatrixOf, Graph, Inside}
use Rattle.fm_graphs.specs.Trims.{Preimage}
use Rattle.fm_graphs.specs.Listing.{VectorOf}
use Rattle.fm_problem.specs.declared.problem.Problem.{Problem}
use Rattle.fm_problem.specs.declared.query.Query.{Query}
use Rattle.fm_problem.specs.declared.query.Query as queries
use Rattle.fm_problem.specs.Sound.{IsQueryOf, IsProblem, IsSmallQuery, HasSmallExponents}
use Rattle.fm_cert.specs.Kinds as kinds
use Rattle.fm_cert.specs.Ends.{task_words}
use Rattle.fm_report.specs.Parts.{meant}
use Rattle.fm_plan.specs.Tasks.{Unanswered, stopped, refused, Refusal, wrong_length, not_a_cocycle, not_contained}
use Rattle.fm_plan.specs.Results.{Ideal, Resolution, Ext, Killed}
use Rattle.fm_plan.specs.Queries.{BaseOf, Inverted, Onto, Found, found_zero, found_class, found_root, found_invert, found_support, found_map, found_member, found_resolution, found_ext, ask_zero, ask_class, ask_root, ask_invert, ask_support, ask_map, ask_member, ask_resolution, ask_ext, plan}
use Rattle.fm_plan.specs.Sizes.{IsRefusalOf, size_of}
use Rattle.fm_plan.proofs.Plans.{plan_right}
use Rattle.fm_plan.proofs.WithinMaps.{plan_within_bound}
use Rattle.fm_plan.proofs.SizesOfMaps.{plan_sizes}
use Rattle.fm_plan.proofs.Refusals.{plan_refuses}
use Rattle.fm_answers.specs.Answers.{ideal_at, asked_of, IsShort, halted_report, refused_report}
use Rattle.fm_answers.proofs.Shapes.{answers}
use Rattle.fm_answers.proofs.SpelledTasks.{task_some, task_spelled}
use Rattle.fm_answers.proofs.Blocks.{polynomial_within, polynomials_within, ideal_within, ideal_few}
use Rattle.fm_answers.proofs.Support.{annihilators_some}
use Rattle.fm_standard.specs.Small.{AreSmallLines}
use Rattle.fm_standard.proofs.CertificatesSaid.{Good, unanswered_good}
use Rattle.fm_certificates.specs.Certificates.{found_lines}
use Rattle.fm_certificates.specs.Reports.{certified_answer, certified_end, certified_report}
use Rattle.fm_certificates.proofs.Roots.{plan_bases}
use Rattle.fm_certificates.proofs.OneIdeal.{resolution_certified, ext_certified, zero_certified, root_certified, invert_certified, class_certified}
use Rattle.fm_certificates.proofs.Support.{support_certified}
use Rattle.fm_certificates.proofs.Membership.{member_certified}
use Rattle.fm_certificates.proofs.Maps.{map_certified}

module _ (q : Problem) (sound : IsProblem q) (small : HasSmallExponents q) (k : ℕ) (few : suc k < 2 ^ 64) (units : ℕ) (enough : units < 2 ^ 32) where
  -- ---- answers on one ideal
  module _ (i m : ℕ) (low_degree : i ≤ q.ring.vars) (there : m < length q.ideals) (left : ℕ) where
    abbrev fs : Ideal q.ring
    fs = ideal_at q m

    abbrev most : ℕ
    most = units + (i + 2 + length (ideal_at q m))

    most_few : units + (i + 2 + length (ideal_at q m)) < 2 ^ 33
    most_few = let v = sound.bounded.few in let n = ideal_few q sound small m there in omega (arith, v, n, low_degree, enough)

    resolution_found : (of : IsQueryOf q (queries.TheVariants.Resolution i m)) (low : IsSmallQuery (queries.TheVariants.Resolution i m)) (x : Resolution q.ring)
        → Ends (plan q.ring (ask_resolution i fs) units) (found_resolution i fs x) left → AreSmallLines (found_lines q (queries.TheVariants.Resolution i m) (found_resolution i fs x))
        → Good q sound small k few (queries.TheVariants.Resolution i m) of low (certified_answer q (queries.TheVariants.Resolution i m) (found_resolution i fs x))
    resolution_found of low x ends lines =
        let a = ask_resolution i fs in
        let found = found_resolution i fs x in
        resolution_certified q sound small k few most most_few i m there of low x (plan_right q.ring a units left found ends)
        (plan_within_bound q.ring a units left found (ideal_within q sound small m there) ends) (plan_sizes q.ring a units left found ends) lines

    ext_found : (of : IsQueryOf q (queries.TheVariants.ExtOf i m)) (low : IsSmallQuery (queries.TheVariants.ExtOf i m)) (y : Ext q.ring)
        → Ends (plan q.ring (ask_ext i fs) units) (found_ext i fs y) left → AreSmallLines (found_lines q (queries.TheVariants.ExtOf i m) (found_ext i fs y))
        → Good q sound small k few (queries.TheVariants.ExtOf i m) of low (certified_answer q (queries.TheVariants.ExtOf i m) (found_ext i fs y))
    ext_found of low y ends lines =
        let a = ask_ext i fs in
        let found = found_ext i fs y in
        ext_certified q sound small k few most most_few i m there of low y (plan_right q.ring a units left found ends)
        (plan_within_bound q.ring a units left found (ideal_within q sound small m there) ends) (plan_sizes q.ring a units left found ends) lines

    zero_found : (of : IsQueryOf q (queries.TheVariants.Zero i m)) (low : IsSmallQuery (queries.TheVariants.Zero i m)) (b : BaseOf q.ring) (y : Inside q.ring)
        → Ends (plan q.ring (ask_zero i fs) units) (found_zero i fs b y) left → AreSmallLines (found_lines q (queries.TheVariants.Zero i m) (found_zero i fs b y))
        → Good q sound small k few (queries.TheVariants.Zero i m) of low (certified_answer q (queries.TheVariants.Zero i m) (found_zero i fs b y))
    zero_found of low b y ends lines =
        let a = ask_zero i fs in
        let found = found_zero i fs b y in
        zero_certified q sound small k few most most_few i m there b (plan_bases q.ring a units left found ends) (plan_sizes q.ring a units left found ends).0 of low y
        (plan_right q.ring a units left found ends) (plan_within_bound q.ring a units left found (ideal_within q sound small m there) ends) lines

    root_found : (of : IsQueryOf q (queries.TheVariants.Root i m)) (low : IsSmallQuery (queries.TheVariants.Root i m)) (b : BaseOf q.ring)
        → Ends (plan q.ring (ask_root i fs) units) (found_root i fs b) left → AreSmallLines (found_lines q (queries.TheVariants.Root i m) (found_root i fs b))
        → Good q sound small k few (queries.TheVariants.Root i m) of low (certified_answer q (queries.TheVariants.Root i m) (found_root i fs b))
    root_found of low b ends lines =
        let a = ask_root i fs in
        let found = found_root i fs b in
        root_certified q sound small k few most most_few i m there b (plan_bases q.ring a units left found ends) (plan_sizes q.ring a units left found ends) of low
        (plan_right q.ring a units left found ends) (plan_within_bound q.ring a units left found (ideal_within q sound small m there) ends) lines

    invert_found : (f : PolyValue) (of : IsQueryOf q (queries.TheVariants.Invert i m f)) (low : IsSmallQuery (queries.TheVariants.Invert i m f)) (b : BaseOf q.ring) (s : Inverted q.ring)
        → Ends (plan q.ring (ask_invert i fs (meaning q.ring f.terms)) units) (found_invert i fs b (meaning q.ring f.terms) s) left
        → AreSmallLines (found_lines q (queries.TheVariants.Invert i m f) (found_invert i fs b (meaning q.ring f.terms) s))
        → Good q sound small k few (queries.TheVariants.Invert i m f) of low (certified_answer q (queries.TheVariants.Invert i m f) (found_invert i fs b (meaning q.ring f.terms) s))
    invert_found f of low b s ends lines =
        let a = ask_invert i fs (meaning q.ring f.terms) in
        let found = found_invert i fs b (meaning q.ring f.terms) s in
        let sizes = plan_sizes q.ring a units left found ends in
        let f_within = polynomial_within q sound small f of.2 low in
        invert_certified q sound small k few most most_few i m there b (plan_bases q.ring a units left found ends) sizes.0 f of low s
        (plan_right q.ring a units left found ends) (plan_within_bound q.ring a units left found (ideal_within q sound small m there, f_within) ends) f_within sizes.1 lines

    class_found : (e : ℕ) (c : List PolyValue) (of : IsQueryOf q (queries.TheVariants.Class i m e c)) (low : IsSmallQuery (queries.TheVariants.Class i m e c)) (b : BaseOf q.ring) (w : VectorOf q.ring) (s : Killed q.ring)
        → Ends (plan q.ring (ask_class i fs e (meant q.ring c)) units) (found_class i fs b e (meant q.ring c) w s) left
        → AreSmallLines (found_lines q (queries.TheVariants.Class i m e c) (found_class i fs b e (meant q.ring c) w s))
        → Good q sound small k few (queries.TheVariants.Class i m e c) of low (certified_answer q (queries.TheVariants.Class i m e c) (found_class i fs b e (meant q.ring c) w s))
    class_found e c of low b w s ends lines =
        let a = ask_class i fs e (meant q.ring c) in
        let found = found_class i fs b e (meant q.ring c) w s in
        let sizes = plan_sizes q.ring a units left found ends in
        class_certified q sound small k few most most_few i m there b (plan_bases q.ring a units left found ends) sizes.0 e c of low w s (plan_right q.ring a units left found ends)
        (plan_within_bound q.ring a units left found (ideal_within q sound small m there, polynomials_within q sound small c of.3 low) ends) sizes.2 lines

    support_found : (of : IsQueryOf q (queries.TheVariants.Support i m)) (low : IsSmallQuery (queries.TheVariants.Support i m)) (b : BaseOf q.ring) (x : Preimage q.ring)
        → Ends (plan q.ring (ask_support i fs) units) (found_support i fs b x) left → AreSmallLines (found_lines q (queries.TheVariants.Support i m) (found_support i fs b x))
        → Good q sound small k few (queries.TheVariants.Support i m) of low (certified_answer q (queries.TheVariants.Support i m) (found_support i fs b x))
    support_found of low b x ends lines =
        let a = ask_support i fs in
        let found = found_support i fs b x in
        support_certified q sound small k few i m there of low b (plan_bases q.ring a units left found ends) x (plan_right q.ring a units left found ends)
        (plan_within_bound q.ring a units left found (ideal_within q sound small m there) ends) (annihilators_some q.ring i fs units left b x ends) lines

  -- ---- membership and maps
  member_found : (m : ℕ) (f : PolyValue) (of : IsQueryOf q (queries.TheVariants.Member m f)) (low : IsSmallQuery (queries.TheVariants.Member m f)) (left : ℕ) (g : Graph q.ring) (y : Inside q.ring)
      → Ends (plan q.ring (ask_member (ideal_at q m) (meaning q.ring f.terms)) units) (found_member (ideal_at q m) (meaning q.ring f.terms) g y) left
      → AreSmallLines (found_lines q (queries.TheVariants.Member m f) (found_member (ideal_at q m) (meaning q.ring f.terms) g y))
      → Good q sound small k few (queries.TheVariants.Member m f) of low (certified_answer q (queries.TheVariants.Member m f) (found_member (ideal_at q m) (meaning q.ring f.terms) g y))
  member_found m f of low left g y ends lines =
      let a = ask_member (ideal_at q m) (meaning q.ring f.terms) in
      let found = found_member (ideal_at q m) (meaning q.ring f.terms) g y in
      member_certified q sound small k few m f of low g y (plan_right q.ring a units left found ends)
      (plan_within_bound q.ring a units left found (ideal_within q sound small m of.0, polynomial_within q sound small f of.1 low) ends) lines

  map_found : (i m j : ℕ) (of : IsQueryOf q (queries.TheVariants.Map i m j)) (low : IsSmallQuery (queries.TheVariants.Map i m j)) (left : ℕ)
      (b c : BaseOf q.ring) (ls : List (MatrixOf q.ring)) (phi : MatrixOf q.ring) (null : Inside q.ring) (fibre : Preimage q.ring) (one : Inside q.ring) (s : Onto q.ring)
      → Ends (plan q.ring (ask_map i (ideal_at q m) (ideal_at q j)) units) (found_map i (ideal_at q m) (ideal_at q j) b c ls phi null fibre one s) left
      → AreSmallLines (found_lines q (queries.TheVariants.Map i m j) (found_map i (ideal_at q m) (ideal_at q j) b c ls phi null fibre one s))
      → Good q sound small k few (queries.TheVariants.Map i m j) of low (certified_answer q (queries.TheVariants.Map i m j) (found_map i (ideal_at q m) (ideal_at q j) b c ls phi null fibre one s))
  map_found i m j of low left b c ls phi null fibre one s ends lines =
      let a = ask_map i (ideal_at q m) (ideal_at q j) in
      let found = found_map i (ideal_at q m) (ideal_at q j) b c ls phi null fibre one s in
      let n = ideal_few q sound small m of.1 in
      let o = ideal_few q sound small j of.2 in
      let v = sound.bounded.few in
      let d = of.0 in
      let bases = plan_bases q.ring a units left found ends in
      map_certified q sound small k few (units + (i + 2 + (length (ideal_at q m) + length (ideal_at q j)))) (omega (arith, n, o, v, d, enough)) i m j of low b c ls phi null fibre one s bases.0 bases.1
      (plan_right q.ring a units left found ends) (plan_within_bound q.ring a units left found (ideal_within q sound small m of.1, ideal_within q sound small j of.2) ends)
      (plan_sizes q.ring a units left found ends).7 lines

  -- ---- every query
  -- a report with small numbers is good
  abbrev Reports : (z : Query) (of : IsQueryOf q z) (low : IsSmallQuery z) → Found q.ring → Type 0
  Reports z of low x = AreSmallLines (found_lines q z x) → Good q sound small k few z of low (certified_answer q z x)

  found_good : (z : Query) (of : IsQueryOf q z) (low : IsSmallQuery z) (left : ℕ) (x : Found q.ring) → Ends (plan q.ring (asked_of q z) units) x left → Reports z of low x
  found_good (queries.TheVariants.Zero i m) of low left x ends =
      let a = ask_zero i (ideal_at q m) in
      let y = answers q.ring a units left x ends in
      subst (Reports (queries.TheVariants.Zero i m) of low) y.2
      (zero_found i m of.0 of.1 left of low y.0 y.1 (subst (λ x. Ends (plan q.ring a units) x left) (sym y.2) ends))
  found_good (queries.TheVariants.Class i m e c) of low left x ends =
      let a = ask_class i (ideal_at q m) e (meant q.ring c) in
      let y = answers q.ring a units left x ends in
      subst (Reports (queries.TheVariants.Class i m e c) of low) y.3
      (class_found i m of.0 of.1 left e c of low y.0 y.1 y.2 (subst (λ x. Ends (plan q.ring a units) x left) (sym y.3) ends))
  found_good (queries.TheVariants.Root i m) of low left x ends =
      let a = ask_root i (ideal_at q m) in
      let y = answers q.ring a units left x ends in
      subst (Reports (queries.TheVariants.Root i m) of low) y.1
      (root_found i m of.0 of.1 left of low y.0 (subst (λ x. Ends (plan q.ring a units) x left) (sym y.1) ends))
  found_good (queries.TheVariants.Invert i m f) of low left x ends =
      let a = ask_invert i (ideal_at q m) (meaning q.ring f.terms) in
      let y = answers q.ring a units left x ends in
      subst (Reports (queries.TheVariants.Invert i m f) of low) y.2
      (invert_found i m of.0 of.1 left f of low y.0 y.1 (subst (λ x. Ends (plan q.ring a units) x left) (sym y.2) ends))
  found_good (queries.TheVariants.Support i m) of low left x ends =
      let a = ask_support i (ideal_at q m) in
      let y = answers q.ring a units left x ends in
      subst (Reports (queries.TheVariants.Support i m) of low) y.2
      (support_found i m of.0 of.1 left of low y.0 y.1 (subst (λ x. Ends (plan q.ring a units) x left) (sym y.2) ends))
  found_good (queries.TheVariants.Map i m j) of low left x ends =
      let a = ask_map i (ideal_at q m) (ideal_at q j) in
      let y = answers q.ring a units left x ends in
      subst (Reports (queries.TheVariants.Map i m j) of low) y.8
      (map_found i m j of low left y.0 y.1 y.2 y.3 y.4 y.5 y.6 y.7 (subst (λ x. Ends (plan q.ring a units) x left) (sym y.8) ends))
  found_good (queries.TheVariants.Member m f) of low left x ends =
      let a = ask_member (ideal_at q m) (meaning q.ring f.terms) in
      let y = answers q.ring a units left x ends in
      subst (Reports (queries.TheVariants.Member m f) of low) y.2
      (member_found m f of low left y.0 y.1 (subst (λ x. Ends (plan q.ring a units) x left) (sym y.2) ends))
  found_good (queries.TheVariants.Resolution i m) of low left x ends =
      let a = ask_resolution i (ideal_at q m) in
      let y = answers q.ring a units left x ends in
      subst (Reports (queries.TheVariants.Resolution i m) of low) y.1
      (resolution_found i m of.0 of.1 left of low y.0 (subst (λ x. Ends (plan q.ring a units) x left) (sym y.1) ends))
  found_good (queries.TheVariants.ExtOf i m) of low left x ends =
      let a = ask_ext i (ideal_at q m) in
      let y = answers q.ring a units left x ends in
      subst (Reports (queries.TheVariants.ExtOf i m) of low) y.1
      (ext_found i m of.0 of.1 left of low y.0 (subst (λ x. Ends (plan q.ring a units) x left) (sym y.1) ends))

  halted_good : (z : Query) (of : IsQueryOf q z) (low : IsSmallQuery z) (task : Task) (halt : Halt) → Good q sound small k few z of low (halted_report z task halt)
  halted_good z of low task Budget = unanswered_good q sound small k few z of low kinds.Budget (task_words task, tt) refl tt ((task_some task, task_spelled task), tt)
  halted_good z of low task Exponent = unanswered_good q sound small k few z of low kinds.Exponents (task_words task, tt) refl tt ((task_some task, task_spelled task), tt)

  refused_good : (z : Query) (of : IsQueryOf q z) (low : IsSmallQuery z) → IsShort z → (why : Refusal) → IsRefusalOf q.ring (units + size_of q.ring (asked_of q z)) (asked_of q z) why
      → Good q sound small k few z of low (refused_report z why)
  refused_good (queries.TheVariants.Zero i m) of low short why h = absurd h
  refused_good (queries.TheVariants.Class i m e c) of low short (wrong_length found needed) h =
      let n = length-map c (λ (f : PolyValue). meaning q.ring f.terms) in
      let v = sound.bounded.few in
      let d = of.0 in
      let o = ideal_few q sound small m of.1 in
      let found_is = h.0 in
      let needed_few = h.1 in
      unanswered_good q sound small k few (queries.TheVariants.Class i m e c) of low kinds.WrongLength (found, (needed, tt)) refl tt
      (omega (arith, n, short, found_is), (omega (arith, v, d, o, enough, needed_few), tt))
  refused_good (queries.TheVariants.Class i m e c) of low short (not_a_cocycle component) h =
      let v = sound.bounded.few in
      let d = of.0 in
      let o = ideal_few q sound small m of.1 in
      unanswered_good q sound small k few (queries.TheVariants.Class i m e c) of low kinds.NotCocycle (component, tt) refl tt (omega (arith, v, d, o, enough, h), tt)
  refused_good (queries.TheVariants.Class i m e c) of low short (not_contained generator) h = absurd h
  refused_good (queries.TheVariants.Root i m) of low short why h = absurd h
  refused_good (queries.TheVariants.Invert i m f) of low short why h = absurd h
  refused_good (queries.TheVariants.Support i m) of low short why h = absurd h
  refused_good (queries.TheVariants.Map i m j) of low short (wrong_length found needed) h = absurd h
  refused_good (queries.TheVariants.Map i m j) of low short (not_a_cocycle component) h = absurd h
  refused_good (queries.TheVariants.Map i m j) of low short (not_contained generator) h =
      let o = ideal_few q sound small j of.2 in
      unanswered_good q sound small k few (queries.TheVariants.Map i m j) of low kinds.NotContained (generator, tt) refl tt (omega (arith, o, h), tt)
  refused_good (queries.TheVariants.Member m f) of low short why h = absurd h
  refused_good (queries.TheVariants.Resolution i m) of low short why h = absurd h
  refused_good (queries.TheVariants.ExtOf i m) of low short why h = absurd h

  ended_good : (z : Query) (of : IsQueryOf q z) (low : IsSmallQuery z) → IsShort z → (left : ℕ) (end : Result (Found q.ring) Unanswered) → plan q.ring (asked_of q z) units ≡ record { end = end; left = left }
      → AreSmallLines (certified_end q z end).lines → Good q sound small k few z of low (certified_end q z end)
  ended_good z of low short left (Ok x) ends lines = found_good z of low left x ends lines
  ended_good z of low short left (Err (stopped task halt)) ends lines = halted_good z of low task halt
  ended_good z of low short left (Err (refused why)) ends lines = refused_good z of low short why (plan_refuses q.ring (asked_of q z) units left why ends)

  pub query_good : (z : Query) (of : IsQueryOf q z) (low : IsSmallQuery z) → IsShort z → AreSmallLines (certified_report units q z).lines → Good q sound small k few z of low (certified_report units q z)
  query_good z of low short lines = ended_good z of low short (plan q.ring (asked_of q z) units).left (plan q.ring (asked_of q z) units).end refl lines
