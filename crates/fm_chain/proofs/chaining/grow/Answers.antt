use Rattle.std.proofs.Common.{Vec, ◌≡◌, ◌≤◌, ◌∷◌, ◌++◌, [], List, length, Ok, Err, refl, sym, ap, ◌∙◌, subst, arith}
use Rattle.std.specs.Global.{Global}
use Rattle.fm_mat.specs.declared.column.Column.{Column}
use Rattle.fm_poly.specs.declared.ring.Ring.{Ring}
use Rattle.fm_run.specs.Runs.{Ending, Halt, Follows, halt_of}
use Rattle.fm_run.specs.Turns.{Turn, last, again}
use Rattle.fm_run.proofs.Calls.{wanted}
use Rattle.fm_run.proofs.Parts.{failed}
use Rattle.fm_mat.specs.Matrices.{matrix_meaning}
use Rattle.fm_plan.specs.Base.{Links, linked, chain_work}
use Rattle.fm_plan.specs.Results as plans
use Rattle.fm_syz.specs.GraphValues.{GraphValue, graph_meaning}
use Rattle.fm_syz.specs.GeneratorValues.{PreimageValue, preimage_meaning}
use Rattle.fm_syz.specs.Insides.{HasColumns, inside_value}
use Rattle.fm_syz.specs.declared.inside.Inside.{Inside}
use Rattle.fm_syz.specs.declared.inside.Outside.{Outside}
use Rattle.fm_chain.specs.Chains.{AreMembersOf, HasFactor, chain_meaning, link_value, links_meaning, member_graph, turn_value}
use Rattle.fm_chain.specs.declared.links.Link.{Link}
use Rattle.fm_chain.proofs.LinkParts.{chain_work_spends}
use Rattle.fm_chain.proofs.Members.{member_fits, members_more, grown_value, last_value, factor_found, spends_again}
use Rattle.fm_chain.proofs.chaining.grow.Goals as goal

pub next_member-requires-clause-some : goal.next_member-requires-clause-some
next_member-requires-clause-some c =
    let rel = c.args.relations.now in
    let r = rel.matrix.ring in
    let links = c.args.links.now.items in
    let growth = c.args.growth.now.items in
    let g = c.member-g.result.now in
    let is : g ≡ member_graph rel links (length growth) = c.member-g.ensures ∙ ap (λ xs. member_graph rel xs c.len.result) c.deref.ensures.value ∙ ap (member_graph rel links) (c.len.ensures ∙ c.args.growth.now.ok.0) in
    let fits = member_fits r rel.matrix.rows rel refl refl links c.requires.members (length growth) in
    let ring : g.matrix.ring ≡ r = ap (λ (x : GraphValue). x.matrix.ring) is ∙ fits.0 in
    let rows : g.matrix.rows ≡ rel.matrix.rows = ap (λ (x : GraphValue). x.matrix.rows) is ∙ fits.1 in
    subst (λ (s : Ring). 1 ≤ s.vars) (sym ring) c.requires.some

pub next_member-requires-clause-few : goal.next_member-requires-clause-few
next_member-requires-clause-few c =
    let rel = c.args.relations.now in
    let r = rel.matrix.ring in
    let links = c.args.links.now.items in
    let growth = c.args.growth.now.items in
    let g = c.member-g.result.now in
    let is : g ≡ member_graph rel links (length growth) = c.member-g.ensures ∙ ap (λ xs. member_graph rel xs c.len.result) c.deref.ensures.value ∙ ap (member_graph rel links) (c.len.ensures ∙ c.args.growth.now.ok.0) in
    let fits = member_fits r rel.matrix.rows rel refl refl links c.requires.members (length growth) in
    let ring : g.matrix.ring ≡ r = ap (λ (x : GraphValue). x.matrix.ring) is ∙ fits.0 in
    let rows : g.matrix.rows ≡ rel.matrix.rows = ap (λ (x : GraphValue). x.matrix.rows) is ∙ fits.1 in
    subst (λ (s : Ring). s.vars ≤ 8) (sym ring) c.requires.few

pub next_member-requires-clause-ring : goal.next_member-requires-clause-ring
next_member-requires-clause-ring c =
    let rel = c.args.relations.now in
    let r = rel.matrix.ring in
    let links = c.args.links.now.items in
    let growth = c.args.growth.now.items in
    let g = c.member-g.result.now in
    let is : g ≡ member_graph rel links (length growth) = c.member-g.ensures ∙ ap (λ xs. member_graph rel xs c.len.result) c.deref.ensures.value ∙ ap (member_graph rel links) (c.len.ensures ∙ c.args.growth.now.ok.0) in
    let fits = member_fits r rel.matrix.rows rel refl refl links c.requires.members (length growth) in
    let ring : g.matrix.ring ≡ r = ap (λ (x : GraphValue). x.matrix.ring) is ∙ fits.0 in
    let rows : g.matrix.rows ≡ rel.matrix.rows = ap (λ (x : GraphValue). x.matrix.rows) is ∙ fits.1 in
    c.requires.ring ∙ sym ring

pub next_member-requires-clause-rows : goal.next_member-requires-clause-rows
next_member-requires-clause-rows c =
    let rel = c.args.relations.now in
    let r = rel.matrix.ring in
    let links = c.args.links.now.items in
    let growth = c.args.growth.now.items in
    let g = c.member-g.result.now in
    let is : g ≡ member_graph rel links (length growth) = c.member-g.ensures ∙ ap (λ xs. member_graph rel xs c.len.result) c.deref.ensures.value ∙ ap (member_graph rel links) (c.len.ensures ∙ c.args.growth.now.ok.0) in
    let fits = member_fits r rel.matrix.rows rel refl refl links c.requires.members (length growth) in
    let ring : g.matrix.ring ≡ r = ap (λ (x : GraphValue). x.matrix.ring) is ∙ fits.0 in
    let rows : g.matrix.rows ≡ rel.matrix.rows = ap (λ (x : GraphValue). x.matrix.rows) is ∙ fits.1 in
    c.requires.rows ∙ sym rows

pub next_member-requires-clause-square : goal.next_member-requires-clause-square
next_member-requires-clause-square c =
    let rel = c.args.relations.now in
    let r = rel.matrix.ring in
    let links = c.args.links.now.items in
    let growth = c.args.growth.now.items in
    let g = c.member-g.result.now in
    let is : g ≡ member_graph rel links (length growth) = c.member-g.ensures ∙ ap (λ xs. member_graph rel xs c.len.result) c.deref.ensures.value ∙ ap (member_graph rel links) (c.len.ensures ∙ c.args.growth.now.ok.0) in
    let fits = member_fits r rel.matrix.rows rel refl refl links c.requires.members (length growth) in
    let ring : g.matrix.ring ≡ r = ap (λ (x : GraphValue). x.matrix.ring) is ∙ fits.0 in
    let rows : g.matrix.rows ≡ rel.matrix.rows = ap (λ (x : GraphValue). x.matrix.rows) is ∙ fits.1 in
    c.requires.square ∙ sym rows

pub returns-in_err-link-clause-follows : goal.returns-in_err-link-clause-follows
returns-in_err-link-clause-follows c =
    let rel = c.args.relations.now in
    let r = rel.matrix.ring in
    let links = c.args.links.now.items in
    let growth = c.args.growth.now.items in
    let g = c.member-g.result.now in
    let is : g ≡ member_graph rel links (length growth) = c.member-g.ensures ∙ ap (λ xs. member_graph rel xs c.len.result) c.deref.ensures.value ∙ ap (member_graph rel links) (c.len.ensures ∙ c.args.growth.now.ok.0) in
    let fits = member_fits r rel.matrix.rows rel refl refl links c.requires.members (length growth) in
    let ring : g.matrix.ring ≡ r = ap (λ (x : GraphValue). x.matrix.ring) is ∙ fits.0 in
    let rows : g.matrix.rows ≡ rel.matrix.rows = ap (λ (x : GraphValue). x.matrix.rows) is ∙ fits.1 in
    let old = c.args.work.now in
    let new = c.next_member.new.work in
    let u = matrix_meaning r c.args.u.now in
    let L = links_meaning r rel links growth in
    let z = c.in_err-link.field-0.0 in
    let told : Follows {X = Link} (link_value r L) (Err z) old new (chain_work r u L old) = (subst (λ (s : Ring). (d : Links s) → d.graph ≡ graph_meaning s g → Follows {X = Link} (link_value s d) (Err z) old new (chain_work s (matrix_meaning s c.args.u.now) d old)) ring
    c.in_err-link.ensures.follows) L (ap (graph_meaning r) (sym is)) in
    failed (turn_value r rel links growth) halt_of c.from_residual.result z old new (chain_work r u L old) c.from_residual.ensures told

pub returns-in_err-push-clause-follows : goal.returns-in_err-push-clause-follows
returns-in_err-push-clause-follows c =
    let rel = c.args.relations.now in
    let r = rel.matrix.ring in
    let links = c.args.links.now.items in
    let growth = c.args.growth.now.items in
    let g = c.member-g.result.now in
    let is : g ≡ member_graph rel links (length growth) = c.member-g.ensures ∙ ap (λ xs. member_graph rel xs c.len.result) c.deref.ensures.value ∙ ap (member_graph rel links) (c.len.ensures ∙ c.args.growth.now.ok.0) in
    let fits = member_fits r rel.matrix.rows rel refl refl links c.requires.members (length growth) in
    let ring : g.matrix.ring ≡ r = ap (λ (x : GraphValue). x.matrix.ring) is ∙ fits.0 in
    let rows : g.matrix.rows ≡ rel.matrix.rows = ap (λ (x : GraphValue). x.matrix.rows) is ∙ fits.1 in
    let old = c.args.work.now in
    let new = c.next_member.new.work in
    let u = matrix_meaning r c.args.u.now in
    let L = links_meaning r rel links growth in
    let told : Follows {X = Link} (link_value r L) (Ok c.in_ok-link.link) old new (chain_work r u L old) = (subst (λ (s : Ring). (d : Links s) → d.graph ≡ graph_meaning s g → Follows {X = Link} (link_value s d) (Ok c.in_ok-link.link) old new (chain_work s (matrix_meaning s c.args.u.now) d old)) ring
    c.in_ok-link.ensures.follows) L (ap (graph_meaning r) (sym is)) in
    let left = ap (λ (d : Ending Halt (Turn (Links r) (plans.Chain r))). d.left) told in
    let spent = chain_work_spends r u L old in
    wanted (turn_value r rel c.push.new.self.items growth) c.from_residual-in_err-push.result old new (chain_work r u L old) c.from_residual-in_err-push.ensures (omega (arith, spent, left)) (omega (arith, left))

pub returns-in_err-push-in-First-clause-follows : goal.returns-in_err-push-in-First-clause-follows
returns-in_err-push-in-First-clause-follows c =
    let rel = c.args.relations.now in
    let r = rel.matrix.ring in
    let links = c.args.links.now.items in
    let growth = c.args.growth.now.items in
    let g = c.member-g.result.now in
    let is : g ≡ member_graph rel links (length growth) = c.member-g.ensures ∙ ap (λ xs. member_graph rel xs c.len.result) c.deref.ensures.value ∙ ap (member_graph rel links) (c.len.ensures ∙ c.args.growth.now.ok.0) in
    let fits = member_fits r rel.matrix.rows rel refl refl links c.requires.members (length growth) in
    let ring : g.matrix.ring ≡ r = ap (λ (x : GraphValue). x.matrix.ring) is ∙ fits.0 in
    let rows : g.matrix.rows ≡ rel.matrix.rows = ap (λ (x : GraphValue). x.matrix.rows) is ∙ fits.1 in
    let old = c.args.work.now in
    let new = c.next_member.new.work in
    let u = matrix_meaning r c.args.u.now in
    let L = links_meaning r rel links growth in
    let told : Follows {X = Link} (link_value r L) (Ok c.in_ok-link.link) old new (chain_work r u L old) = (subst (λ (s : Ring). (d : Links s) → d.graph ≡ graph_meaning s g → Follows {X = Link} (link_value s d) (Ok c.in_ok-link.link) old new (chain_work s (matrix_meaning s c.args.u.now) d old)) ring
    c.in_ok-link.ensures.follows) L (ap (graph_meaning r) (sym is)) in
    let left = ap (λ (d : Ending Halt (Turn (Links r) (plans.Chain r))). d.left) told in
    let spent = chain_work_spends r u L old in
    wanted (turn_value r rel c.push.new.self.items c.push-in-First.new.self.items) c.from_residual-in_err-push-in-First.result old new (chain_work r u L old) c.from_residual-in_err-push-in-First.ensures (omega (arith, spent, left)) (omega (arith, left))

pub returns-in-All-clause-follows : goal.returns-in-All-clause-follows
returns-in-All-clause-follows c =
    let rel = c.args.relations.now in
    let r = rel.matrix.ring in
    let links = c.args.links.now.items in
    let growth = c.args.growth.now.items in
    let g = c.member-g.result.now in
    let is : g ≡ member_graph rel links (length growth) = c.member-g.ensures ∙ ap (λ xs. member_graph rel xs c.len.result) c.deref.ensures.value ∙ ap (member_graph rel links) (c.len.ensures ∙ c.args.growth.now.ok.0) in
    let fits = member_fits r rel.matrix.rows rel refl refl links c.requires.members (length growth) in
    let ring : g.matrix.ring ≡ r = ap (λ (x : GraphValue). x.matrix.ring) is ∙ fits.0 in
    let rows : g.matrix.rows ≡ rel.matrix.rows = ap (λ (x : GraphValue). x.matrix.rows) is ∙ fits.1 in
    let old = c.args.work.now in
    let new = c.next_member.new.work in
    let u = matrix_meaning r c.args.u.now in
    let L = links_meaning r rel links growth in
    let told : Follows {X = Link} (link_value r L) (Ok c.in_ok-link.link) old new (chain_work r u L old) = (subst (λ (s : Ring). (d : Links s) → d.graph ≡ graph_meaning s g → Follows {X = Link} (link_value s d) (Ok c.in_ok-link.link) old new (chain_work s (matrix_meaning s c.args.u.now) d old)) ring
    c.in_ok-link.ensures.follows) L (ap (graph_meaning r) (sym is)) in
    let x = c.in_ok-link.link.member in
    subst (λ (ws : Vec Column Global). chain_work r u L old ≡ record { end = Ok (last (chain_meaning r rel (record { links = c.push.new.self.items; growth = growth; w = ws.items }))); left = new }) (sym c.in-All.columns-is)
    (subst (λ (xs : List PreimageValue). chain_work r u L old ≡ record { end = Ok (last (chain_meaning r rel (record { links = xs; growth = growth; w = c.in-All.columns.items }))); left = new }) (sym c.in_ok-push.ensures.items)
    (subst (λ (t : Turn (Links r) (plans.Chain r)). chain_work r u L old ≡ record { end = Ok t; left = new }) (last_value r rel links growth c.requires.count x c.in-All.columns.items)
    (subst (λ (y : Inside). chain_work r u L old ≡ record { end = Ok (linked r L (preimage_meaning r x) (inside_value r y)); left = new }) c.in-All.is told)))

pub returns-in-All-clause-members : goal.returns-in-All-clause-members
returns-in-All-clause-members c =
    let rel = c.args.relations.now in
    let r = rel.matrix.ring in
    let links = c.args.links.now.items in
    let growth = c.args.growth.now.items in
    let g = c.member-g.result.now in
    let is : g ≡ member_graph rel links (length growth) = c.member-g.ensures ∙ ap (λ xs. member_graph rel xs c.len.result) c.deref.ensures.value ∙ ap (member_graph rel links) (c.len.ensures ∙ c.args.growth.now.ok.0) in
    let fits = member_fits r rel.matrix.rows rel refl refl links c.requires.members (length growth) in
    let ring : g.matrix.ring ≡ r = ap (λ (x : GraphValue). x.matrix.ring) is ∙ fits.0 in
    let rows : g.matrix.rows ≡ rel.matrix.rows = ap (λ (x : GraphValue). x.matrix.rows) is ∙ fits.1 in
    subst (AreMembersOf r rel.matrix.rows) (sym c.in_ok-push.ensures.items) (members_more r rel.matrix.rows links c.in_ok-link.link.member c.requires.members (c.in_ok-link.ensures.ring ∙ ring) (c.in_ok-link.ensures.rows ∙ rows))

pub returns-in-All-clause-factor : goal.returns-in-All-clause-factor
returns-in-All-clause-factor c =
    let rel = c.args.relations.now in
    let r = rel.matrix.ring in
    let links = c.args.links.now.items in
    let growth = c.args.growth.now.items in
    let g = c.member-g.result.now in
    let is : g ≡ member_graph rel links (length growth) = c.member-g.ensures ∙ ap (λ xs. member_graph rel xs c.len.result) c.deref.ensures.value ∙ ap (member_graph rel links) (c.len.ensures ∙ c.args.growth.now.ok.0) in
    let fits = member_fits r rel.matrix.rows rel refl refl links c.requires.members (length growth) in
    let ring : g.matrix.ring ≡ r = ap (λ (x : GraphValue). x.matrix.ring) is ∙ fits.0 in
    let inside = subst (HasColumns g.matrix.ring (length g.matrix.columns)) c.in-All.is c.in_ok-link.ensures.columns in
    subst (λ (ws : Vec Column Global). HasFactor r rel (record { links = c.push.new.self.items; growth = growth; w = ws.items })) (sym c.in-All.columns-is)
    (subst (λ (xs : List PreimageValue). HasFactor r rel (record { links = xs; growth = growth; w = c.in-All.columns.items })) (sym c.in_ok-push.ensures.items)
    (factor_found rel links growth c.in_ok-link.link.member g c.in-All.columns.items c.requires.count is ring inside.0))

pub returns-in_ok-push-in-First-clause-follows : goal.returns-in_ok-push-in-First-clause-follows
returns-in_ok-push-in-First-clause-follows c =
    let rel = c.args.relations.now in
    let r = rel.matrix.ring in
    let links = c.args.links.now.items in
    let growth = c.args.growth.now.items in
    let g = c.member-g.result.now in
    let is : g ≡ member_graph rel links (length growth) = c.member-g.ensures ∙ ap (λ xs. member_graph rel xs c.len.result) c.deref.ensures.value ∙ ap (member_graph rel links) (c.len.ensures ∙ c.args.growth.now.ok.0) in
    let fits = member_fits r rel.matrix.rows rel refl refl links c.requires.members (length growth) in
    let ring : g.matrix.ring ≡ r = ap (λ (x : GraphValue). x.matrix.ring) is ∙ fits.0 in
    let rows : g.matrix.rows ≡ rel.matrix.rows = ap (λ (x : GraphValue). x.matrix.rows) is ∙ fits.1 in
    let old = c.args.work.now in
    let new = c.next_member.new.work in
    let u = matrix_meaning r c.args.u.now in
    let L = links_meaning r rel links growth in
    let told : Follows {X = Link} (link_value r L) (Ok c.in_ok-link.link) old new (chain_work r u L old) = (subst (λ (s : Ring). (d : Links s) → d.graph ≡ graph_meaning s g → Follows {X = Link} (link_value s d) (Ok c.in_ok-link.link) old new (chain_work s (matrix_meaning s c.args.u.now) d old)) ring
    c.in_ok-link.ensures.follows) L (ap (graph_meaning r) (sym is)) in
    let x = c.in_ok-link.link.member in
    let O = c.in-First.outside in
    subst (λ (os : List Outside). chain_work r u L old ≡ record { end = Ok (again (links_meaning r rel c.push.new.self.items os)); left = new }) (ap (λ (o : Outside). growth ++ o ∷ []) (sym c.in-First.outside-is) ∙ sym c.in_ok-push-in-First.ensures.items)
    (subst (λ (xs : List PreimageValue). chain_work r u L old ≡ record { end = Ok (again (links_meaning r rel xs (growth ++ O ∷ []))); left = new }) (sym c.in_ok-push.ensures.items)
    (subst (λ (t : Turn (Links r) (plans.Chain r)). chain_work r u L old ≡ record { end = Ok t; left = new }) (grown_value r rel links growth c.requires.count x c.in-First.outside)
    (subst (λ (y : Inside). chain_work r u L old ≡ record { end = Ok (linked r L (preimage_meaning r x) (inside_value r y)); left = new }) c.in-First.is told)))

pub returns-in_ok-push-in-First-clause-members : goal.returns-in_ok-push-in-First-clause-members
returns-in_ok-push-in-First-clause-members c =
    let rel = c.args.relations.now in
    let r = rel.matrix.ring in
    let links = c.args.links.now.items in
    let growth = c.args.growth.now.items in
    let g = c.member-g.result.now in
    let is : g ≡ member_graph rel links (length growth) = c.member-g.ensures ∙ ap (λ xs. member_graph rel xs c.len.result) c.deref.ensures.value ∙ ap (member_graph rel links) (c.len.ensures ∙ c.args.growth.now.ok.0) in
    let fits = member_fits r rel.matrix.rows rel refl refl links c.requires.members (length growth) in
    let ring : g.matrix.ring ≡ r = ap (λ (x : GraphValue). x.matrix.ring) is ∙ fits.0 in
    let rows : g.matrix.rows ≡ rel.matrix.rows = ap (λ (x : GraphValue). x.matrix.rows) is ∙ fits.1 in
    subst (AreMembersOf r rel.matrix.rows) (sym c.in_ok-push.ensures.items) (members_more r rel.matrix.rows links c.in_ok-link.link.member c.requires.members (c.in_ok-link.ensures.ring ∙ ring) (c.in_ok-link.ensures.rows ∙ rows))

pub returns-in_ok-push-in-First-clause-spent : goal.returns-in_ok-push-in-First-clause-spent
returns-in_ok-push-in-First-clause-spent c =
    let rel = c.args.relations.now in
    let r = rel.matrix.ring in
    let links = c.args.links.now.items in
    let growth = c.args.growth.now.items in
    let g = c.member-g.result.now in
    let is : g ≡ member_graph rel links (length growth) = c.member-g.ensures ∙ ap (λ xs. member_graph rel xs c.len.result) c.deref.ensures.value ∙ ap (member_graph rel links) (c.len.ensures ∙ c.args.growth.now.ok.0) in
    let fits = member_fits r rel.matrix.rows rel refl refl links c.requires.members (length growth) in
    let ring : g.matrix.ring ≡ r = ap (λ (x : GraphValue). x.matrix.ring) is ∙ fits.0 in
    let rows : g.matrix.rows ≡ rel.matrix.rows = ap (λ (x : GraphValue). x.matrix.rows) is ∙ fits.1 in
    let old = c.args.work.now in
    let new = c.next_member.new.work in
    let u = matrix_meaning r c.args.u.now in
    let L = links_meaning r rel links growth in
    let told : Follows {X = Link} (link_value r L) (Ok c.in_ok-link.link) old new (chain_work r u L old) = (subst (λ (s : Ring). (d : Links s) → d.graph ≡ graph_meaning s g → Follows {X = Link} (link_value s d) (Ok c.in_ok-link.link) old new (chain_work s (matrix_meaning s c.args.u.now) d old)) ring
    c.in_ok-link.ensures.follows) L (ap (graph_meaning r) (sym is)) in
    let x = c.in_ok-link.link.member in
    λ none. spends_again r u L (links_meaning r rel (links ++ x ∷ []) (growth ++ c.in-First.outside ∷ [])) old new
    (subst (λ (t : Turn (Links r) (plans.Chain r)). chain_work r u L old ≡ record { end = Ok t; left = new }) (grown_value r rel links growth c.requires.count x c.in-First.outside)
    (subst (λ (y : Inside). chain_work r u L old ≡ record { end = Ok (linked r L (preimage_meaning r x) (inside_value r y)); left = new }) c.in-First.is told))
