-- Which plans are refused, and with which numbers.
use Rattle.std.proofs.Common.{ℕ, zero, suc, ◌+◌, ◌==◌, ◌≤◌, ◌≡◌, if◌then◌else◌, Bool, true, false, Option, Some, None, List, [], ◌∷◌, map, length, take, get_or, Result, Ok, Err, refl, sym, ap, ◌∙◌, subst, arith}
use Rattle.std.proofs.lemmas.List.FromFn.{length-map-range_with_len}
use Rattle.fm_algebra.specs.Matrix.{column_matrix, product, table, listed}
use Rattle.fm_algebra.specs.Polynomials.{Polynomial}
use Rattle.fm_algebra.specs.PolynomialMatrices.{matrix_column, matrix_product, matrix_transpose, matrix_scalar, matrix_unit, matrix_beside}
use Rattle.fm_limit.specs.ResolvedIdeal.{matrix_at, differential, row}
use Rattle.fm_limit.specs.Facts.{unit_column, diagonal_blocks}
use Rattle.fm_poly.specs.declared.ring.Ring.{Ring}
use Rattle.fm_complete.specs.Completions.{completed}
use Rattle.fm_complete.specs.Reductions.{Reduced, divided}
use Rattle.fm_run.specs.Runs.{Halt, Budget, Ending, Work, ready, next_of, ◌>>=◌, halted}
use Rattle.fm_run.specs.Turns.{Turn, last, again, after_turn, turns}
use Rattle.fm_run.specs.Tasks.{named}
use Rattle.fm_run.proofs.Ends.{Ends, same_value, bound, bounded_value}
use Rattle.fm_term.specs.declared.vterm.VTerm.{VTerm}
use Rattle.fm_graphs.specs.Bounds.{multiplied, twisted_matrix}
use Rattle.fm_graphs.specs.Listing.{VectorOf, terms_of}
use Rattle.fm_graphs.specs.Graphs.{MatrixOf, Graph, Outside, Inside, all_inside, first_outside, width, graph_run, lifted, inside_run, whole_run}
use Rattle.fm_graphs.specs.Trims.{Preimage, is_zero, generating, kernel_run, preimage_run}
use Rattle.fm_graphs.proofs.Sizes.{transpose_rows, twisted_columns}
use Rattle.fm_run.specs.declared.task.Side.{Side}
use Rattle.fm_run.specs.declared.task.Side.TheVariants.{Alone, Source, Target}
use Rattle.fm_run.specs.declared.task.Name.{Name}
use Rattle.fm_run.specs.declared.task.Name.TheVariants.{Resolve, Lift, Cocycles, Relations, Morphism, Chain as ChainTask}
use Rattle.fm_run.specs.declared.task.Task.{Task}
use Rattle.fm_plan.specs.Tasks.{Refusal, wrong_length, not_a_cocycle, not_contained, Unanswered, stopped, refused, Plan, task}
use Rattle.fm_plan.specs.Results.{Resolution, Ext, Ideal, killed_at, never_killed, graphs_of, differentials_of}
use Rattle.fm_plan.specs.Base.{flip, lift_work, morphism_work, chain_work, resolving, resolution_plan, lifting, ext_plan, chain_turn, chain_plan}
use Rattle.fm_plan.specs.Queries.{BaseOf, base_of, base_plan, stable_graph, allowed, unless, first_nonzero, cocycle_work, lift_at, solution_of, killed_or, stages, chain_graphs, Coloned, whole_at, stable_at, colon_next, colon_turn, coloned, power_run, before_power, inverted_of, by_power, never_inverted, contained_from, contained_work, over_identity, fibre_work, phi_work, joined, join_next, join_turn, join_work, onto_plan, compared, mapped, Onto, onto_at, found_zero, found_class, found_root, found_invert, found_support, found_map, found_member, found_resolution, found_ext, Query, ask_zero, ask_class, ask_root, ask_invert, ask_support, ask_map, ask_member, ask_resolution, ask_ext, plan}
use Rattle.fm_plan.specs.Sizes.{IsRefusalOf, size_of}
use Rattle.fm_plan.proofs.Tasks.{task_ends}
use Rattle.fm_plan.proofs.SizesOfBases.{matrix_at_most, differentials_at_most, resolution_sizes}
use Rattle.fm_run.specs.declared.task.Name.TheVariants as names

-- the run ended with this refusal
abbrev Refuses : {A : Type 0} → Ending Unanswered A → Refusal → ℕ → Type 0
Refuses {A} d why left = d ≡ record { end = Err (refused why); left = left }

abbrev Never : {A : Type 0} → Plan A → Type 0
Never run = (units left : ℕ) (why : Refusal) → ¬ (Refuses (run units) why left)

same_refusal : {A : Type 0} (a b : Refusal) (k l : ℕ) → ◌≡◌ {A = Ending Unanswered A} (record { end = Err (refused a); left = k }) (record { end = Err (refused b); left = l }) → a ≡ b
same_refusal {A} a b k l e = errors (ap (λ (d : Ending Unanswered A). d.end) e)
  where
    errors : ◌≡◌ {A = Result A Unanswered} (Err (refused a)) (Err (refused b)) → a ≡ b
    errors e = cc

ready_never : {A : Type 0} (x : A) (units left : ℕ) (why : Refusal) → Refuses (ready {E = Unanswered} x units) why left → ⊥
ready_never {A} x units left why e = ok_err (ap (λ (d : Ending Unanswered A). d.end) e)
  where
    ok_err : ◌≡◌ {A = Result A Unanswered} (Ok x) (Err (refused why)) → ⊥
    ok_err e = cc

stopped_never : {A : Type 0} (t : Task) (h : Halt) (l left : ℕ) (why : Refusal) → ◌≡◌ {A = Ending Unanswered A} (record { end = Err (stopped t h); left = l }) (record { end = Err (refused why); left = left }) → ⊥
stopped_never {A} t h l left why e = errors (ap (λ (d : Ending Unanswered A). d.end) e)
  where
    errors : ◌≡◌ {A = Result A Unanswered} (Err (stopped t h)) (Err (refused why)) → ⊥
    errors e = cc

-- a task is never refused
task_never : {A : Type 0} (side : Side) (name : Name) (number : ℕ) (work : Work A) → Never (task side name number work)
task_never {A} side name number work units left why e = go (work units).end e
  where
    t : Task
    t = record { side = side; name = name; number = number }

    go : (end : Result A Halt) → ◌≡◌ {A = Ending Unanswered A} (record { end = named (stopped t) end; left = (work units).left }) (record { end = Err (refused why); left = left }) → ⊥
    go (Ok x) e = ready_never x (work units).left left why e
    go (Err h) e = stopped_never {A = A} t h (work units).left left why e

module _ {A B : Type 0} (run : Plan A) (f : A → Plan B) where
  -- a run that is refused, or what follows it
  then_refuses : (Goal : Type 0) (units left : ℕ) (why : Refusal) → ((l : ℕ) → Refuses (run units) why l → Goal)
      → ((x : A) (l : ℕ) → Ends (run units) x l → Refuses (f x l) why left → Goal) → Refuses ((run >>= f) units) why left → Goal
  then_refuses Goal units left why first later e = go (run units).end (run units).left refl e
    where
      same : (e : Unanswered) (l : ℕ) → ◌≡◌ {A = Ending Unanswered B} (record { end = Err e; left = l }) (record { end = Err (refused why); left = left }) → e ≡ refused why
      same e l h = errors (ap (λ (d : Ending Unanswered B). d.end) h)
        where
          errors : ◌≡◌ {A = Result B Unanswered} (Err e) (Err (refused why)) → e ≡ refused why
          errors h = cc

      go : (end : Result A Unanswered) (l : ℕ) → run units ≡ record { end = end; left = l } → Refuses (next_of f end l) why left → Goal
      go (Ok x) l is e = later x l is e
      go (Err h) l is e = first l (subst (λ h. run units ≡ record { end = Err h; left = l }) (same h l e) is)

  then_never : Never run → ((x : A) → Never (f x)) → Never (run >>= f)
  then_never first later units left why e = then_refuses ⊥ units left why (λ l h. first units l why h) (λ x l is h. later x l left why h) e

module _ {S A : Type 0} (t : Task) (h : Halt) (turn : S → Plan (Turn S A)) (never : (s : S) → Never (turn s)) where
  turns_never : (count : ℕ) (s : S) → Never (turns (stopped t h) turn count s)
  turns_never zero s = then_never (turn s) (after_turn (stopped t h) turn (λ s'. halted (stopped t h))) (never s) go
    where
      go : (x : Turn S A) → Never (after_turn (stopped t h) turn (λ s'. halted (stopped t h)) x)
      go (last x) = ready_never x
      go (again s') = λ units left why e. stopped_never {A = A} t h units left why e
  turns_never (suc count) s = then_never (turn s) (after_turn (stopped t h) turn (turns (stopped t h) turn count)) (never s) (λ x. go x (turns_never count))
    where
      go : (x : Turn S A) → ((s' : S) → Never (turns (stopped t h) turn count s')) → Never (after_turn (stopped t h) turn (turns (stopped t h) turn count) x)
      go (last x) more = ready_never x
      go (again s') more = more s'

module _ (r : Ring) where
  -- ---- BASE
  resolving_never : (side : Side) (count j : ℕ) (g : Graph r) → Never (resolving r side count j g)
  resolving_never side zero j g = ready_never []
  resolving_never side (suc count) j g =
      then_never (task side Resolve (suc j) (generating r (width r g) 0 g)) (λ x. resolving r side count (suc j) x.graph >>= λ later. ready (x ∷ later)) (task_never side Resolve (suc j) (generating r (width r g) 0 g))
      (λ x. then_never (resolving r side count (suc j) x.graph) (λ later. ready (x ∷ later)) (resolving_never side count (suc j) x.graph) (λ later. ready_never (x ∷ later)))

  resolution_never : (side : Side) (i : ℕ) (fs : Ideal r) → Never (resolution_plan r side i fs)
  unfolding resolution_plan
  resolution_never side i fs =
      then_never (task side Resolve 1 (graph_run r (row r.prime r.vars fs))) (λ g. resolving r side i 1 g >>= λ next. ready (record { first = g; next = next })) (task_never side Resolve 1 (graph_run r (row r.prime r.vars fs)))
      (λ g. then_never (resolving r side i 1 g) (λ next. ready (record { first = g; next = next })) (resolving_never side i 1 g) (λ next. ready_never (record { first = g; next = next })))

  lifting_never : (side : Side) (j : ℕ) (theta : MatrixOf r) (gs : List (Graph r)) → Never (lifting r side j theta gs)
  lifting_never side j theta [] = ready_never []
  lifting_never side j theta (g ∷ gs) =
      then_never (task side Lift j (lift_work r theta g)) (λ next. lifting r side (suc j) next gs >>= λ later. ready (next ∷ later)) (task_never side Lift j (lift_work r theta g))
      (λ next. then_never (lifting r side (suc j) next gs) (λ later. ready (next ∷ later)) (lifting_never side (suc j) next gs) (λ later. ready_never (next ∷ later)))

  made : Resolution r → List (MatrixOf r) → (z n : Preimage r) → MatrixOf r → Ext r
  made x thetas z n u = record { resolution = x; lift = thetas; cocycles = z; relations = n; u = u }

  ext_never : (side : Side) (i : ℕ) (x : Resolution r) → Never (ext_plan r side i x)
  unfolding ext_plan made
  ext_never side i x =
      let unit = matrix_unit r.prime r.vars 1 in
      let ds = differentials_of r x in
      let u_work = λ (thetas : List (MatrixOf r)) (z : Preimage r). morphism_work r (matrix_at r.prime r.vars (unit ∷ thetas) i) z.graph in
      let n_work = λ (z : Preimage r). preimage_run r z.found (flip r (differential r.prime r.vars ds i)) in
      let after_n = λ (thetas : List (MatrixOf r)) (z n : Preimage r). task side Morphism 0 (u_work thetas z) >>= λ u. ready (made x (unit ∷ thetas) z n u) in
      let after_z = λ (thetas : List (MatrixOf r)) (z : Preimage r). task side Relations 0 (n_work z) >>= after_n thetas z in
      let z_work = kernel_run r (flip r (matrix_at r.prime r.vars ds i)) in
      then_never (lifting r side 1 unit (take i (graphs_of r x))) (λ thetas. task side Cocycles 0 z_work >>= after_z thetas) (lifting_never side 1 unit (take i (graphs_of r x)))
      (λ thetas. then_never (task side Cocycles 0 z_work) (after_z thetas) (task_never side Cocycles 0 z_work)
      (λ z. then_never (task side Relations 0 (n_work z)) (after_n thetas z) (task_never side Relations 0 (n_work z))
      (λ n. then_never (task side Morphism 0 (u_work thetas z)) (λ u. ready (made x (unit ∷ thetas) z n u)) (task_never side Morphism 0 (u_work thetas z)) (λ u. ready_never (made x (unit ∷ thetas) z n u)))))

  chain_never : (side : Side) (y : Ext r) → Never (chain_plan r side y)
  unfolding chain_plan
  chain_never side y units =
      turns_never (record { side = side; name = ChainTask; number = 0 }) Budget (chain_turn r side y.u) (λ c. task_never side ChainTask (suc (length c.growth)) (chain_work r y.u c)) units
      (record { links = []; growth = []; graph = y.relations.graph }) units

  base_of_never : (side : Side) (i : ℕ) (x : Resolution r) → Never (base_of r side i x)
  base_of_never side i x =
      then_never (ext_plan r side i x) (λ y. chain_plan r side y >>= λ c. ready (record { ext = y; chain = c })) (ext_never side i x)
      (λ y. then_never (chain_plan r side y) (λ c. ready (record { ext = y; chain = c })) (chain_never side y) (λ c. ready_never (record { ext = y; chain = c })))

  base_never : (side : Side) (i : ℕ) (fs : Ideal r) → Never (base_plan r side i fs)
  unfolding base_plan
  base_never side i fs = then_never (resolution_plan r side i fs) (base_of r side i) (resolution_never side i fs) (base_of_never side i)

  -- ---- after BASE
  stages_never : (e : ℕ) (w : VectorOf r) (s : ℕ) (before : Option Outside) (gs : List (Graph r)) → Never (stages r e w s before gs)
  stages_never e w s before [] = ready_never (never_killed before)
  stages_never e w s before (g ∷ gs) =
      then_never (task Alone names.Stage s (lift_at r e g w)) (killed_or r s before (λ o. stages r e w (suc s) (Some o) gs)) (task_never Alone names.Stage s (lift_at r e g w))
      (λ y. go y (λ o. stages_never e w (suc s) (Some o) gs))
    where
      go : (y : Inside r) → ((o : Outside) → Never (stages r e w (suc s) (Some o) gs)) → Never (killed_or r s before (λ o. stages r e w (suc s) (Some o) gs) y)
      go (all_inside ws) more = ready_never (killed_at s (get_or ws 0 []) before)
      go (first_outside o) more = more o

  coloned_never : (f : Polynomial r.prime r.vars) (k : Graph r) (y : Inside r) → Never (coloned r f k y)
  coloned_never f k (all_inside ws) = ready_never (whole_at 0)
  coloned_never f k (first_outside o) = λ units.
      turns_never (record { side = Alone; name = names.Colon; number = 0 }) Budget (colon_turn r f)
      (λ c. task_never Alone names.Colon (suc (length c.colons)) (preimage_run r (matrix_scalar r.prime r.vars f c.graph.matrix.rows) c.graph.matrix >>= λ x. whole_run r x.graph >>= colon_next r c x)) units
      (record { colons = []; graph = k; proper = o }) units

  inverted_never : (f : Polynomial r.prime r.vars) (g : Graph r) (c : Coloned r) → Never (inverted_of r f g c)
  inverted_never f g (stable_at colons w o) = ready_never (never_inverted colons w o)
  inverted_never f g (whole_at k) = task_never Alone names.Power 0 (power_run r k f >>= λ h. lifted r g (matrix_scalar r.prime r.vars h g.matrix.rows).columns >>= λ w. before_power r k f g >>= λ o. ready (by_power k w o))

  identity_never : (j : ℕ) (lambda : MatrixOf r) (ds : List (MatrixOf r)) (gs : List (Graph r)) → Never (over_identity r j lambda ds gs)
  identity_never j lambda [] gs = ready_never []
  identity_never j lambda (d ∷ ds) [] = ready_never []
  identity_never j lambda (d ∷ ds) (g ∷ gs) =
      let work = multiplied r.prime r.vars lambda d >>= λ B. lifted r g B.columns in
      then_never (task Alone names.Lambda j work) (λ next. over_identity r (suc j) next ds gs >>= λ later. ready (next ∷ later)) (task_never Alone names.Lambda j work)
      (λ next. then_never (over_identity r (suc j) next ds gs) (λ later. ready (next ∷ later)) (identity_never (suc j) next ds gs) (λ later. ready_never (next ∷ later)))

  joined_never : (u : MatrixOf r) (x : Graph r × Inside r) → Never (joined r u x)
  joined_never u (g, all_inside ws) = ready_never (onto_at g [] (record { rows = width r g; columns = ws }) None)
  joined_never u (g, first_outside o) = λ units.
      turns_never (record { side = Alone; name = names.Onto; number = 0 }) Budget (join_turn r u g)
      (λ c. task_never Alone names.Onto (suc (length c.links)) (twisted_matrix r.prime r.vars 1 c.graph.matrix >>= λ L. preimage_run r u L >>= λ x. whole_run r x.graph >>= join_next r g c x)) units
      (record { links = []; graph = g; proper = o }) units

  onto_never : (N phi u : MatrixOf r) → Never (onto_plan r N phi u)
  unfolding onto_plan
  onto_never N phi u =
      let work = join_work r (matrix_beside r.prime r.vars N phi) in
      then_never (task Alone names.Onto 0 work) (joined r u) (task_never Alone names.Onto 0 work) (joined_never u)

  mapped_never : (i : ℕ) (fs gs : Ideal r) (b c : BaseOf r) → Never (mapped r i fs gs b c)
  unfolding mapped compared
  mapped_never i fs gs b c =
      let unit = matrix_unit r.prime r.vars 1 in
      let found = λ (lambdas : List (MatrixOf r)) (phi : MatrixOf r) (null : Inside r) (one : Preimage r × Inside r) (s : Onto r). found_map i fs gs b c (unit ∷ lambdas) phi null one.0 one.1 s in
      let onto = λ (phi : MatrixOf r). onto_plan r c.ext.relations.found phi c.ext.u in
      let after_one = λ (lambdas : List (MatrixOf r)) (phi : MatrixOf r) (null : Inside r) (one : Preimage r × Inside r). onto phi >>= λ s. ready (found lambdas phi null one s) in
      let one_work = λ (phi : MatrixOf r). fibre_work r phi (stable_graph r c).matrix (stable_graph r b) in
      let after_null = λ (lambdas : List (MatrixOf r)) (phi : MatrixOf r) (null : Inside r). task Alone names.One 0 (one_work phi) >>= after_one lambdas phi null in
      let null_work = λ (phi : MatrixOf r). inside_run r phi (stable_graph r c) in
      let after_phi = λ (lambdas : List (MatrixOf r)) (phi : MatrixOf r). task Alone names.Null 0 (null_work phi) >>= after_null lambdas phi in
      let work = λ (lambdas : List (MatrixOf r)). phi_work r (matrix_at r.prime r.vars (unit ∷ lambdas) i) b.ext.cocycles.found c.ext.cocycles.graph in
      let lifts = over_identity r 1 unit (take i (differentials_of r c.ext.resolution)) (take i (graphs_of r b.ext.resolution)) in
      then_never lifts (λ lambdas. task Alone names.Phi 0 (work lambdas) >>= after_phi lambdas) (identity_never 1 unit (take i (differentials_of r c.ext.resolution)) (take i (graphs_of r b.ext.resolution)))
      (λ lambdas. then_never (task Alone names.Phi 0 (work lambdas)) (after_phi lambdas) (task_never Alone names.Phi 0 (work lambdas))
      (λ phi. then_never (task Alone names.Null 0 (null_work phi)) (after_null lambdas phi) (task_never Alone names.Null 0 (null_work phi))
      (λ null. then_never (task Alone names.One 0 (one_work phi)) (after_one lambdas phi null) (task_never Alone names.One 0 (one_work phi))
      (λ one. then_never (onto phi) (λ s. ready (found lambdas phi null one s)) (onto_never c.ext.relations.found phi c.ext.u) (λ s. ready_never (found lambdas phi null one s))))))

  -- ---- the refusals
  allowed_refuses : (test : Bool) (refusal : Refusal) (units left : ℕ) (why : Refusal) → Refuses (allowed r test refusal units) why left → refusal ≡ why
  allowed_refuses true refusal units left why e = absurd (ready_never tt units left why e)
  allowed_refuses false refusal units left why e = same_refusal {A = Unit {0}} refusal why units left e

  unless_refuses : (refusal : ℕ → Refusal) (o : Option ℕ) (units left : ℕ) (why : Refusal) → Refuses (unless r refusal o units) why left → (k : ℕ) × (o ≡ Some k) × (refusal k ≡ why)
  unless_refuses refusal None units left why e = absurd (ready_never tt units left why e)
  unless_refuses refusal (Some k) units left why e = (k, refl, same_refusal {A = Unit {0}} (refusal k) why units left e)

  same_some : (a b : ℕ) → ◌≡◌ {A = Option ℕ} (Some a) (Some b) → a ≡ b
  same_some a b e = cc

  none_some : (b : ℕ) → ◌≡◌ {A = Option ℕ} None (Some b) → ⊥
  none_some b e = cc

  -- a component that isn't zero is one of the entries
  nonzero_at_most : (j k : ℕ) (v : VectorOf r) → first_nonzero r (suc j) v ≡ Some k → k ≤ j + length v
  nonzero_at_most j k [] e = absurd (none_some k e)
  nonzero_at_most j k (f ∷ fs) e = go (is_zero (terms_of r (f ∷ []))) e (nonzero_at_most (suc j) k fs)
    where
      go : (b : Bool) → (if b then first_nonzero r (suc (suc j)) fs else Some (suc j)) ≡ Some k → (first_nonzero r (suc (suc j)) fs ≡ Some k → k ≤ suc j + length fs) → k ≤ j + suc (length fs)
      go true e later = let h = later e in omega (arith, h)
      go false e later = let same = same_some (suc j) k e in omega (arith, same)

  product_column : (A : MatrixOf r) (z : VectorOf r) → length (get_or (matrix_product r.prime r.vars A (matrix_column r.prime r.vars z)).columns 0 []) ≡ A.rows
  unfolding matrix_product product matrix_column column_matrix table listed
  product_column A z = length-map-range_with_len _ 0 A.rows

  component_at_most : (e : ℕ) (d : MatrixOf r) (z : VectorOf r) (units left k : ℕ) → Ends (cocycle_work r e d z units) (Some k) left → k ≤ length d.columns
  unfolding cocycle_work multiplied
  component_at_most e d z units left k ends =
      let test = λ (B : MatrixOf r). first_nonzero r 1 (get_or B.columns 0 []) in
      let a = bound (twisted_matrix r.prime r.vars e d) (λ D. multiplied r.prime r.vars (matrix_transpose r.prime r.vars D) (matrix_column r.prime r.vars z) >>= λ B. ready (test B)) units left (Some k) ends in
      let M = matrix_transpose r.prime r.vars a.value in
      let b = bound (multiplied r.prime r.vars M (matrix_column r.prime r.vars z)) (λ B. ready (test B)) a.between left (Some k) a.second in
      let B_is = bounded_value _ (matrix_product r.prime r.vars M (matrix_column r.prime r.vars z)) b.value a.between b.between b.first in
      let long = sym (ap (λ (B : MatrixOf r). length (get_or B.columns 0 [])) B_is) ∙ product_column M z ∙ transpose_rows r a.value ∙ twisted_columns r e d units a.between a.value a.first in
      let h = nonzero_at_most 0 k (get_or b.value.columns 0 []) (same_value (test b.value) (Some k) b.between left b.second) in
      omega (arith, h, long)

  generator_at_most : (members : List (List VTerm)) (j k : ℕ) (gs : Ideal r) (units left : ℕ) → Ends (contained_from r members (suc j) gs units) (Some k) left → k ≤ j + length gs
  generator_at_most members j k [] units left ends = absurd (none_some k (same_value None (Some k) units left ends))
  generator_at_most members j k (g ∷ gs) units left ends =
      let a = bound (λ units. divided r members units (terms_of r (g ∷ []))) (λ (x : Reduced). if is_zero x.rest then contained_from r members (suc (suc j)) gs else ready (Some (suc j))) units left (Some k) ends in
      go (is_zero a.value.rest) a.between a.second (λ units left. generator_at_most members (suc j) k gs units left)
    where
      go : (b : Bool) (u : ℕ) → Ends {E = Halt} {A = Option ℕ} ((if b then contained_from r members (suc (suc j)) gs else ready (Some (suc j))) u) (Some k) left
          → ((units left : ℕ) → Ends {E = Halt} {A = Option ℕ} (contained_from r members (suc (suc j)) gs units) (Some k) left → k ≤ suc j + length gs) → k ≤ j + suc (length gs)
      go true u e later = let h = later u left e in omega (arith, h)
      go false u e later = let same = same_some (suc j) k (same_value (Some (suc j)) (Some k) u left e) in omega (arith, same)

  class_refuses : (i : ℕ) (fs : Ideal r) (e : ℕ) (z : VectorOf r) (units left : ℕ) (why : Refusal) → Refuses (plan r (ask_class i fs e z) units) why left → IsRefusalOf r (units + (i + 2 + length fs)) (ask_class i fs e z) why
  unfolding plan
  class_refuses i fs e z units left why refuses =
      let dat = λ (y : Resolution r). matrix_at r.prime r.vars (differentials_of r y) i in
      let after_stages = λ (b : BaseOf r) (w : VectorOf r). stages r e w 0 None (chain_graphs r b) >>= λ s. ready (found_class i fs b e z w s) in
      let lift = λ (b : BaseOf r). lift_at r e b.ext.cocycles.graph z in
      let after_base = λ (b : BaseOf r). task Alone names.Coordinates 0 (lift b) >>= λ y. after_stages b (solution_of r y) in
      let work = λ (y : Resolution r). cocycle_work r e (dat y) z in
      let test = λ (y : Resolution r). task Alone names.Test 0 (work y) in
      let base = λ (y : Resolution r) (u' : Unit {0}). base_of r Alone i y >>= after_base in
      let after_length = λ (y : Resolution r). test y >>= unless r not_a_cocycle >>= base y in
      let fits = λ (y : Resolution r). allowed r (length z == (dat y).rows) (wrong_length (length z) (dat y).rows) in
      let most = units + (i + 2 + length fs) in
      then_refuses (resolution_plan r Alone i fs) (λ y. fits y >>= λ u. after_length y) (IsRefusalOf r most (ask_class i fs e z) why) units left why (λ l h. absurd (resolution_never Alone i fs units l why h))
      (λ y k resolved h.
      let sizes = matrix_at_most r most (differentials_of r y) (differentials_at_most r most y (resolution_sizes r most Alone i fs (omega arith) (omega arith) units k y (omega arith) resolved).0) i in
      then_refuses (fits y) (λ u. after_length y) (IsRefusalOf r most (ask_class i fs e z) why) k left why
      (λ l h. subst (IsRefusalOf r most (ask_class i fs e z)) (allowed_refuses (length z == (dat y).rows) (wrong_length (length z) (dat y).rows) k l why h) (refl, sizes.rows))
      (λ u l fitting h. then_refuses (test y >>= unless r not_a_cocycle) (base y) (IsRefusalOf r most (ask_class i fs e z) why) l left why
      (λ m h. then_refuses (test y) (unless r not_a_cocycle) (IsRefusalOf r most (ask_class i fs e z) why) l m why (λ n h. absurd (task_never Alone names.Test 0 (work y) l n why h))
      (λ o n tested h.
      let x = unless_refuses not_a_cocycle o n m why h in
      let component = component_at_most e (dat y) z l n x.0 (subst (λ o. Ends (work y l) o n) x.1 (task_ends Alone names.Test 0 (work y) l n o tested)) in
      let columns = sizes.columns in
      subst (IsRefusalOf r most (ask_class i fs e z)) x.2 (omega (arith, component, columns))) h)
      (λ u' m tested h. absurd (then_never (base_of r Alone i y) after_base (base_of_never Alone i y)
      (λ b. then_never (task Alone names.Coordinates 0 (lift b)) (λ y. after_stages b (solution_of r y)) (task_never Alone names.Coordinates 0 (lift b))
      (λ w. then_never (stages r e (solution_of r w) 0 None (chain_graphs r b)) (λ s. ready (found_class i fs b e z (solution_of r w) s)) (stages_never e (solution_of r w) 0 None (chain_graphs r b))
      (λ s. ready_never (found_class i fs b e z (solution_of r w) s)))) m left why h)) h) h) refuses

  map_refuses : (most i : ℕ) (fs gs : Ideal r) (units left : ℕ) (why : Refusal) → Refuses (plan r (ask_map i fs gs) units) why left → IsRefusalOf r most (ask_map i fs gs) why
  unfolding plan contained_work
  map_refuses most i fs gs units left why refuses =
      let inputs = map (λ f. terms_of r (f ∷ [])) fs in
      let work = contained_work r fs gs in
      let targets = λ (b : BaseOf r). base_plan r Target i gs >>= mapped r i fs gs b in
      let asked = task Alone names.Contained 0 work in
      then_refuses (asked >>= unless r not_contained) (λ u. base_plan r Source i fs >>= targets) (IsRefusalOf r most (ask_map i fs gs) why) units left why
      (λ m h. then_refuses asked (unless r not_contained) (IsRefusalOf r most (ask_map i fs gs) why) units m why (λ n h. absurd (task_never Alone names.Contained 0 work units n why h))
      (λ o n found h.
      let x = unless_refuses not_contained o n m why h in
      let ends = subst (λ o. Ends (work units) o n) x.1 (task_ends Alone names.Contained 0 work units n o found) in
      let c = bound (completed r inputs) (λ c. contained_from r c.members 1 gs) units n (Some x.0) ends in
      let generator = generator_at_most (c.value).members 0 x.0 gs c.between n c.second in
      subst (IsRefusalOf r most (ask_map i fs gs)) x.2 (omega (arith, generator))) h)
      (λ u m found h. absurd (then_never (base_plan r Source i fs) targets (base_never Source i fs)
      (λ b. then_never (base_plan r Target i gs) (mapped r i fs gs b) (base_never Target i gs) (λ c. mapped_never i fs gs b c)) m left why h)) refuses

  -- ---- the other queries
  zero_never : (i : ℕ) (fs : Ideal r) → Never (plan r (ask_zero i fs))
  unfolding plan
  zero_never i fs =
      let work = λ (b : BaseOf r). whole_run r (stable_graph r b) in
      then_never (base_plan r Alone i fs) (λ b. task Alone names.Whole 0 (work b) >>= λ y. ready (found_zero i fs b y)) (base_never Alone i fs)
      (λ b. then_never (task Alone names.Whole 0 (work b)) (λ y. ready (found_zero i fs b y)) (task_never Alone names.Whole 0 (work b)) (λ y. ready_never (found_zero i fs b y)))

  root_never : (i : ℕ) (fs : Ideal r) → Never (plan r (ask_root i fs))
  unfolding plan
  root_never i fs = then_never (base_plan r Alone i fs) (λ b. ready (found_root i fs b)) (base_never Alone i fs) (λ b. ready_never (found_root i fs b))

  invert_never : (i : ℕ) (fs : Ideal r) (f : Polynomial r.prime r.vars) → Never (plan r (ask_invert i fs f))
  unfolding plan
  invert_never i fs f =
      let k = λ (b : BaseOf r). stable_graph r b in
      let ending = λ (b : BaseOf r) (c : Coloned r). inverted_of r f (k b) c >>= λ s. ready (found_invert i fs b f s) in
      let colons = λ (b : BaseOf r) (y : Inside r). coloned r f (k b) y >>= ending b in
      then_never (base_plan r Alone i fs) (λ b. task Alone names.Colon 0 (whole_run r (k b)) >>= colons b) (base_never Alone i fs)
      (λ b. then_never (task Alone names.Colon 0 (whole_run r (k b))) (colons b) (task_never Alone names.Colon 0 (whole_run r (k b)))
      (λ y. then_never (coloned r f (k b) y) (ending b) (coloned_never f (k b) y)
      (λ c. then_never (inverted_of r f (k b) c) (λ s. ready (found_invert i fs b f s)) (inverted_never f (k b) c) (λ s. ready_never (found_invert i fs b f s)))))

  support_never : (i : ℕ) (fs : Ideal r) → Never (plan r (ask_support i fs))
  unfolding plan
  support_never i fs =
      let work = λ (b : BaseOf r). preimage_run r (unit_column r.prime r.vars (stable_graph r b).matrix.rows) (diagonal_blocks r.prime r.vars (stable_graph r b).matrix) in
      then_never (base_plan r Alone i fs) (λ b. task Alone names.Annihilator 0 (work b) >>= λ a. ready (found_support i fs b a)) (base_never Alone i fs)
      (λ b. then_never (task Alone names.Annihilator 0 (work b)) (λ a. ready (found_support i fs b a)) (task_never Alone names.Annihilator 0 (work b)) (λ a. ready_never (found_support i fs b a)))

  member_never : (fs : Ideal r) (f : Polynomial r.prime r.vars) → Never (plan r (ask_member fs f))
  unfolding plan
  member_never fs f =
      let resolved = graph_run r (row r.prime r.vars fs) in
      let work = inside_run r (matrix_column r.prime r.vars (f ∷ [])) in
      then_never (task Alone names.Resolve 1 resolved) (λ g. task Alone names.Member 0 (work g) >>= λ y. ready (found_member fs f g y)) (task_never Alone names.Resolve 1 resolved)
      (λ g. then_never (task Alone names.Member 0 (work g)) (λ y. ready (found_member fs f g y)) (task_never Alone names.Member 0 (work g)) (λ y. ready_never (found_member fs f g y)))

  found_resolution_never : (i : ℕ) (fs : Ideal r) → Never (plan r (ask_resolution i fs))
  unfolding plan
  found_resolution_never i fs = then_never (resolution_plan r Alone i fs) (λ x. ready (found_resolution i fs x)) (resolution_never Alone i fs) (λ x. ready_never (found_resolution i fs x))

  found_ext_never : (i : ℕ) (fs : Ideal r) → Never (plan r (ask_ext i fs))
  unfolding plan
  found_ext_never i fs =
      then_never (resolution_plan r Alone i fs) (λ x. ext_plan r Alone i x >>= λ y. ready (found_ext i fs y)) (resolution_never Alone i fs)
      (λ x. then_never (ext_plan r Alone i x) (λ y. ready (found_ext i fs y)) (ext_never Alone i x) (λ y. ready_never (found_ext i fs y)))

  pub plan_refuses : (q : Query r) (units left : ℕ) (why : Refusal) → Refuses (plan r q units) why left → IsRefusalOf r (units + size_of r q) q why
  plan_refuses (ask_zero i fs) units left why e = absurd (zero_never i fs units left why e)
  plan_refuses (ask_class i fs f z) units left why e = class_refuses i fs f z units left why e
  plan_refuses (ask_root i fs) units left why e = absurd (root_never i fs units left why e)
  plan_refuses (ask_invert i fs f) units left why e = absurd (invert_never i fs f units left why e)
  plan_refuses (ask_support i fs) units left why e = absurd (support_never i fs units left why e)
  plan_refuses (ask_map i fs gs) units left why e = map_refuses (units + (i + 2 + (length fs + length gs))) i fs gs units left why e
  plan_refuses (ask_member fs f) units left why e = absurd (member_never fs f units left why e)
  plan_refuses (ask_resolution i fs) units left why e = absurd (found_resolution_never i fs units left why e)
  plan_refuses (ask_ext i fs) units left why e = absurd (found_ext_never i fs units left why e)
