-- The members of a chain so far.
use Rattle.std.proofs.Common.{ℕ, zero, suc, ◌≡◌, ◌≤◌, ◌<◌, List, [], ◌∷◌, ◌++◌, map, length, get_or, IfOk, OnOk, Result, Ok, Err, refl, sym, ap, ◌∙◌, subst, arith}
use Rattle.std.proofs.lemmas.List.{length-append, map-append}
use Rattle.fm_poly.specs.declared.ring.Ring.{Ring}
use Rattle.fm_run.specs.declared.task.Side.TheVariants.{Alone}
use Rattle.fm_run.specs.declared.task.Name.TheVariants.{Chain as ChainTask}
use Rattle.fm_run.specs.Runs.{Ending, Halt}
use Rattle.fm_run.specs.declared.stop.Stop.{Stop}
use Rattle.fm_run.specs.declared.task.Task.{Task}
use Rattle.fm_run.specs.declared.task.Stopped.{Stopped}
use Rattle.fm_run.specs.Tasks.{named, stopped_in}
use Rattle.fm_plan.specs.Tasks.{stopped}
use Rattle.fm_plan.proofs.Turning.{chain_spends}
use Rattle.fm_run.specs.Turns.{Turn, last, again}
use Rattle.fm_mat.specs.Matrices.{AreColumns, columns_meaning}
use Rattle.fm_graphs.specs.Graphs.{MatrixOf}
use Rattle.fm_graphs.specs.Graphs as runs
use Rattle.fm_plan.specs.Base.{Links, linked, chain_work}
use Rattle.fm_plan.specs.Results as plans
use Rattle.fm_syz.specs.GraphValues.{GraphValue, graph_meaning}
use Rattle.fm_syz.specs.GeneratorValues.{PreimageValue, preimage_meaning}
use Rattle.fm_syz.specs.declared.inside.Outside.{Outside}
use Rattle.fm_poly.specs.Polys.{PolyValue}
use Rattle.fm_chain.specs.Chains.{AreMembersOf, HasFactor, chain_meaning, links_meaning, member_graph, outside_value}

abbrev of_link : PreimageValue → GraphValue
of_link x = x.generators.graph

module _ (r : Ring) (m : ℕ) (relations : GraphValue) (ring : relations.matrix.ring ≡ r) (rows : relations.matrix.rows ≡ m) where
  fits_at : (links : List PreimageValue) → AreMembersOf r m links → (s : ℕ) → ((get_or (map of_link links) s relations).matrix.ring ≡ r) × ((get_or (map of_link links) s relations).matrix.rows ≡ m)
  fits_at [] h s = (ring, rows)
  fits_at (x ∷ links) h zero = (h.0, h.1)
  fits_at (x ∷ links) h (suc s) = fits_at links h.2 s

  pub member_fits : (links : List PreimageValue) → AreMembersOf r m links → (s : ℕ) → ((member_graph relations links s).matrix.ring ≡ r) × ((member_graph relations links s).matrix.rows ≡ m)
  member_fits links h zero = (ring, rows)
  member_fits links h (suc s) = fits_at links h s

pub members_more : (r : Ring) (m : ℕ) (links : List PreimageValue) (x : PreimageValue) → AreMembersOf r m links → x.generators.graph.matrix.ring ≡ r → x.generators.graph.matrix.rows ≡ m → AreMembersOf r m (links ++ x ∷ [])
members_more r m [] x h ring rows = (ring, rows, tt)
members_more r m (y ∷ links) x h ring rows = (h.0, h.1, members_more r m links x h.2 ring rows)

module _ (relations : GraphValue) (x : PreimageValue) where
  old_at : (links : List PreimageValue) (s : ℕ) → s < length links → get_or (map of_link (links ++ x ∷ [])) s relations ≡ get_or (map of_link links) s relations
  old_at [] s h = absurd (omega (arith, h))
  old_at (y ∷ links) zero h = refl
  old_at (y ∷ links) (suc s) h = old_at links s (omega (arith, h))

  new_at : (links : List PreimageValue) → get_or (map of_link (links ++ x ∷ [])) (length links) relations ≡ of_link x
  new_at [] = refl
  new_at (y ∷ links) = new_at links

  pub member_old : (links : List PreimageValue) (s : ℕ) → s ≤ length links → member_graph relations (links ++ x ∷ []) s ≡ member_graph relations links s
  member_old links zero h = refl
  member_old links (suc s) h = old_at links s (omega (arith, h))

  pub member_new : (links : List PreimageValue) (s : ℕ) → s ≡ length links → member_graph relations (links ++ x ∷ []) (suc s) ≡ of_link x
  member_new links s h = ap (λ k. get_or (map of_link (links ++ x ∷ [])) k relations) h ∙ new_at links

module _ (r : Ring) (relations : GraphValue) (links : List PreimageValue) (growth : List Outside) (count : length links ≡ length growth) (x : PreimageValue) where
  -- a member that has grown
  pub grown_value : (o : Outside) → ◌≡◌ {A = Turn (Links r) (plans.Chain r)} (linked r (links_meaning r relations links growth) (preimage_meaning r x) (runs.first_outside (outside_value o)))
      (again (links_meaning r relations (links ++ x ∷ []) (growth ++ o ∷ [])))
  grown_value o =
      let longer : length (growth ++ o ∷ []) ≡ suc (length growth) = length-append growth (o ∷ []) ∙ omega arith in
      let graph : member_graph relations (links ++ x ∷ []) (length (growth ++ o ∷ [])) ≡ of_link x = ap (member_graph relations (links ++ x ∷ [])) longer ∙ member_new relations x links (length growth) (sym count) in
      (λ i. again (record {
        links = sym (map-append (preimage_meaning r) links (x ∷ [])) i;
        growth = sym (map-append outside_value growth (o ∷ [])) i;
        graph = graph_meaning r (sym graph i);
      }))

  -- the last member
  pub last_value : (ws : List (List PolyValue)) → ◌≡◌ {A = Turn (Links r) (plans.Chain r)} (linked r (links_meaning r relations links growth) (preimage_meaning r x) (runs.all_inside (columns_meaning r ws)))
      (last (chain_meaning r relations (record { links = links ++ x ∷ []; growth = growth; w = ws })))
  last_value ws =
      let graph : member_graph relations (links ++ x ∷ []) (length growth) ≡ member_graph relations links (length growth) = member_old relations x links (length growth) (omega (arith, count)) in
      (λ i. last (record {
        links = sym (map-append (preimage_meaning r) links (x ∷ [])) i;
        growth = map outside_value growth;
        stable = graph_meaning r (sym graph i);
        w = record { rows = runs.width r (graph_meaning r (sym graph i)); columns = columns_meaning r ws };
      }))

-- solutions through the graph of the last member but one
pub factor_found : (relations : GraphValue) (links : List PreimageValue) (growth : List Outside) (x : PreimageValue) (g : GraphValue) (ws : List (List PolyValue))
    → length links ≡ length growth → g ≡ member_graph relations links (length growth) → g.matrix.ring ≡ relations.matrix.ring
    → AreColumns g.matrix.ring (length g.matrix.columns) ws
    → HasFactor relations.matrix.ring relations (record { links = links ++ x ∷ []; growth = growth; w = ws })
factor_found relations links growth x g ws count is ring over =
    let same : g ≡ member_graph relations (links ++ x ∷ []) (length growth) = is ∙ sym (member_old relations x links (length growth) (omega (arith, count))) in
    subst (λ (h : GraphValue). AreColumns relations.matrix.ring (length h.matrix.columns) ws) same (subst (λ (s : Ring). AreColumns s (length g.matrix.columns) ws) ring over)

-- a turn that isn't the last has spent a unit
pub spends_again : (r : Ring) (u : MatrixOf r) (c c' : Links r) (units left : ℕ) → chain_work r u c units ≡ record { end = Ok (again c'); left = left } → left < units
spends_again r u c c' units left is =
    chain_spends r Alone u c c' units left
    (ap (λ (d : Ending Halt (Turn (Links r) (plans.Chain r))). record { end = named (stopped (record { side = Alone; name = ChainTask; number = suc (length c.growth) })) d.end; left = d.left }) is)

-- what an answer tells holds when it is told of a task
pub still : {X : Type 0} (P : X → Type 0) (t : Task) (r : Result X Stop) (answer : Result X Stopped) → answer ≡ stopped_in t r → IfOk r P → IfOk answer P
still P t (Ok x) answer is h = subst (λ a. IfOk a P) (sym is) h
still P t (Err e) answer is h = subst (λ a. IfOk a P) (sym is) tt

pub still_holds : {X : Type 0} (P : Type 0) (t : Task) (r : Result X Stop) (answer : Result X Stopped) → answer ≡ stopped_in t r → OnOk r P → OnOk answer P
still_holds P t (Ok x) answer is h = subst (λ a. OnOk a P) (sym is) h
still_holds P t (Err e) answer is h = subst (λ a. OnOk a P) (sym is) tt
