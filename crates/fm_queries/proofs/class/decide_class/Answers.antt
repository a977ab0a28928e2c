use Rattle.std.proofs.Common.{◌≡◌, None, Err, Ok, length, refl, sym, ap, ◌∙◌, subst}
use Rattle.fm_mat.specs.Matrices.{column_meaning}
use Rattle.fm_poly.specs.declared.ring.Ring.{Ring}
use Rattle.fm_vec.specs.Components.{AreOver}
use Rattle.fm_run.proofs.Parts.{failed}
use Rattle.fm_plan.specs.Queries.{chain_graphs, stages}
use Rattle.fm_plan.specs.Following.{FollowsPlan}
use Rattle.fm_syz.specs.GraphValues.{GraphValue}
use Rattle.fm_syz.specs.GeneratorValues.{GeneratorsValue, PreimageValue}
use Rattle.fm_resolve.specs.Resolutions.{resolution_value}
use Rattle.fm_ext.specs.Exts.{ExtValue}
use Rattle.fm_chain.specs.Stages.{IsKilledOver, killed_value}
use Rattle.fm_queries.specs.Bases.{BaseValue, base_meaning}
use Rattle.fm_queries.specs.Founds.{ended_by}
use Rattle.fm_queries.specs.declared.unanswered.Unanswered.TheVariants as ends
use Rattle.fm_queries.proofs.ClassRuns.{resolve_stops, test_stops, base_stops, coordinates_stop, kill_stops, kill_ends}
use Rattle.fm_queries.proofs.ClassTold.{test_told, base_told, coordinates_told, kill_told, length_told}
use Rattle.fm_queries.proofs.Coordinates.{class_long, class_inside}
use Rattle.fm_queries.proofs.class.decide_class.Goals as goal

pub returns-in_err-resolution-clause-follows : goal.returns-in_err-resolution-clause-follows
returns-in_err-resolution-clause-follows c =
    let r = c.args.ring in
    failed _ ended_by c.from_residual.result (ends.Stopped c.in_err-resolution.field-0.0) _ _ _ c.from_residual.ensures
    (resolve_stops r c.args.degree (column_meaning r c.args.generators.now) c.args.e (column_meaning r c.args.z.now) c.args.work.now c.resolve.new.work c.in_err-resolution.field-0.0 c.in_err-resolution.ensures.follows)

pub returns-in_err-test_in-clause-follows : goal.returns-in_err-test_in-clause-follows
returns-in_err-test_in-clause-follows c =
    let r = c.args.ring in
    let z = c.args.z.now in
    let x = c.in_ok-resolution.resolution in
    let one = c.resolve.new.work in
    let s = c.in_err-test_in.field-0.0 in
    failed _ ended_by c.from_residual-in_err-test_in.result s _ _ _ c.from_residual-in_err-test_in.ensures
    (test_stops r c.args.degree (column_meaning r c.args.generators.now) c.args.e (column_meaning r z) c.args.work.now one (resolution_value r x) c.in_ok-resolution.ensures.follows one s
    (test_told r x c.in_ok-resolution.ensures.ring c.args.degree c.args.e z (Err s) one c.in_err-test_in.ensures.follows))

pub returns-in_err-base-clause-follows : goal.returns-in_err-base-clause-follows
returns-in_err-base-clause-follows c =
    let r = c.args.ring in
    let z = c.args.z.now in
    let x = c.in_ok-resolution.resolution in
    let one = c.resolve.new.work in
    let s = c.in_err-base.field-0.0 in
    failed _ ended_by c.from_residual-in_err-base.result (ends.Stopped s) _ _ _ c.from_residual-in_err-base.ensures
    (base_stops r c.args.degree (column_meaning r c.args.generators.now) c.args.e (column_meaning r z) c.args.work.now one (resolution_value r x) c.in_ok-resolution.ensures.follows
    (test_told r x c.in_ok-resolution.ensures.ring c.args.degree c.args.e z (Ok tt) one c.in_ok-test_in.ensures.follows) c.compute_base_of.new.work s
    (base_told r x c.in_ok-resolution.ensures.ring c.args.degree (λ (b : BaseValue). b) (Err s) one c.compute_base_of.new.work c.in_err-base.ensures.follows))

pub coordinates-requires-clause-rows : goal.coordinates-requires-clause-rows
coordinates-requires-clause-rows c =
    let r = c.args.ring in
    let i = c.args.degree in
    let e = c.args.e in
    let z = c.args.z.now in
    let x = c.in_ok-resolution.resolution in
    let over = c.in_ok-resolution.ensures.ring in
    let one = c.resolve.new.work in
    let passes = test_told r x over i e z (Ok tt) one c.in_ok-test_in.ensures.follows in
    let two = c.compute_base_of.new.work in
    let b = c.in_ok-base.base in
    let based = base_told r x over i (λ (b : BaseValue). b) (Ok b) one two c.in_ok-base.ensures.follows in
    let g = b.ext.cocycles.generators.graph in
    let h = c.graph-cocycles.result.now in
    let same : h ≡ g = c.graph-cocycles.ensures ∙ ap (λ (x : GeneratorsValue). x.graph) (c.generators.ensures.same ∙ ap (λ (p : PreimageValue). p.generators) (c.cocycles.ensures.same ∙ ap (λ (y : ExtValue). y.cocycles) c.ext.ensures.same)) in
    class_long r x c.in_ok-test_in.ensures.resolution over i c.in_ok-resolution.ensures.count e z one passes two b based ∙ sym (ap (λ (g : GraphValue). g.matrix.rows) same)

pub returns-in_err-w-clause-follows : goal.returns-in_err-w-clause-follows
returns-in_err-w-clause-follows c =
    let r = c.args.ring in
    let i = c.args.degree in
    let e = c.args.e in
    let z = c.args.z.now in
    let x = c.in_ok-resolution.resolution in
    let over = c.in_ok-resolution.ensures.ring in
    let one = c.resolve.new.work in
    let passes = test_told r x over i e z (Ok tt) one c.in_ok-test_in.ensures.follows in
    let two = c.compute_base_of.new.work in
    let b = c.in_ok-base.base in
    let based = base_told r x over i (λ (b : BaseValue). b) (Ok b) one two c.in_ok-base.ensures.follows in
    let g = b.ext.cocycles.generators.graph in
    let h = c.graph-cocycles.result.now in
    let same : h ≡ g = c.graph-cocycles.ensures ∙ ap (λ (x : GeneratorsValue). x.graph) (c.generators.ensures.same ∙ ap (λ (p : PreimageValue). p.generators) (c.cocycles.ensures.same ∙ ap (λ (y : ExtValue). y.cocycles) c.ext.ensures.same)) in
    let ring : g.matrix.ring ≡ r = c.ext.ensures.base.ext.cocycles ∙ c.in_ok-base.ensures.ring ∙ over in
    let fs = column_meaning r c.args.generators.now in
    let Z = column_meaning r z in
    let X = resolution_value r x in
    let B = base_meaning r b in
    let old = c.args.work.now in
    let s = c.in_err-w.field-0.0 in
    let new = c.coordinates.new.work in
    failed _ ended_by c.from_residual-in_err-w.result (ends.Stopped s) _ _ _ c.from_residual-in_err-w.ensures
    (coordinates_stop r i fs e Z old one X c.in_ok-resolution.ensures.follows passes two B based new s (coordinates_told r e g h same ring z (Err s) two new c.in_err-w.ensures.follows))

pub killed_in-requires-clause-length : goal.killed_in-requires-clause-length
killed_in-requires-clause-length c =
    let r = c.args.ring in
    let i = c.args.degree in
    let e = c.args.e in
    let z = c.args.z.now in
    let x = c.in_ok-resolution.resolution in
    let over = c.in_ok-resolution.ensures.ring in
    let one = c.resolve.new.work in
    let passes = test_told r x over i e z (Ok tt) one c.in_ok-test_in.ensures.follows in
    let two = c.compute_base_of.new.work in
    let b = c.in_ok-base.base in
    let based = base_told r x over i (λ (b : BaseValue). b) (Ok b) one two c.in_ok-base.ensures.follows in
    let g = b.ext.cocycles.generators.graph in
    let h = c.graph-cocycles.result.now in
    let same : h ≡ g = c.graph-cocycles.ensures ∙ ap (λ (x : GeneratorsValue). x.graph) (c.generators.ensures.same ∙ ap (λ (p : PreimageValue). p.generators) (c.cocycles.ensures.same ∙ ap (λ (y : ExtValue). y.cocycles) c.ext.ensures.same)) in
    let ring : g.matrix.ring ≡ r = c.ext.ensures.base.ext.cocycles ∙ c.in_ok-base.ensures.ring ∙ over in
    let inside = class_inside r x c.in_ok-test_in.ensures.resolution over i c.in_ok-resolution.ensures.count e z one passes two b based in
    ap length c.deref.ensures.value ∙ length_told r e g h same ring z c.in_ok-w.w.items inside c.in_ok-w.ensures.length

pub returns-in_err-killed-clause-follows : goal.returns-in_err-killed-clause-follows
returns-in_err-killed-clause-follows c =
    let r = c.args.ring in
    let i = c.args.degree in
    let e = c.args.e in
    let z = c.args.z.now in
    let x = c.in_ok-resolution.resolution in
    let over = c.in_ok-resolution.ensures.ring in
    let one = c.resolve.new.work in
    let passes = test_told r x over i e z (Ok tt) one c.in_ok-test_in.ensures.follows in
    let two = c.compute_base_of.new.work in
    let b = c.in_ok-base.base in
    let based = base_told r x over i (λ (b : BaseValue). b) (Ok b) one two c.in_ok-base.ensures.follows in
    let g = b.ext.cocycles.generators.graph in
    let h = c.graph-cocycles.result.now in
    let same : h ≡ g = c.graph-cocycles.ensures ∙ ap (λ (x : GeneratorsValue). x.graph) (c.generators.ensures.same ∙ ap (λ (p : PreimageValue). p.generators) (c.cocycles.ensures.same ∙ ap (λ (y : ExtValue). y.cocycles) c.ext.ensures.same)) in
    let ring : g.matrix.ring ≡ r = c.ext.ensures.base.ext.cocycles ∙ c.in_ok-base.ensures.ring ∙ over in
    let fs = column_meaning r c.args.generators.now in
    let Z = column_meaning r z in
    let X = resolution_value r x in
    let B = base_meaning r b in
    let old = c.args.work.now in
    let three = c.coordinates.new.work in
    let w = c.in_ok-w.w in
    let coordinates = coordinates_told r e g h same ring z (Ok w) two three c.in_ok-w.ensures.follows in
    let v = c.deref.result.now in
    let same_w : v ≡ w.items = c.deref.ensures.value in
    let s = c.in_err-killed.field-0.0 in
    let new = c.killed_in.new.work in
    let told = kill_told r b (c.in_ok-base.ensures.ring ∙ over) e v (Err s) three new c.in_err-killed.ensures.follows in
    failed _ ended_by c.from_residual-in_err-killed.result (ends.Stopped s) _ _ _ c.from_residual-in_err-killed.ensures
    (kill_stops r i fs e Z old one X c.in_ok-resolution.ensures.follows passes two B based three (column_meaning r w.items) coordinates new s
    (subst (λ v. FollowsPlan (killed_value r) (Err s) three new (stages r e (column_meaning r v) 0 None (chain_graphs r B) three)) same_w told))

pub returns-clause-follows : goal.returns-clause-follows
returns-clause-follows c =
    let r = c.args.ring in
    let i = c.args.degree in
    let e = c.args.e in
    let z = c.args.z.now in
    let x = c.in_ok-resolution.resolution in
    let over = c.in_ok-resolution.ensures.ring in
    let one = c.resolve.new.work in
    let passes = test_told r x over i e z (Ok tt) one c.in_ok-test_in.ensures.follows in
    let two = c.compute_base_of.new.work in
    let b = c.in_ok-base.base in
    let based = base_told r x over i (λ (b : BaseValue). b) (Ok b) one two c.in_ok-base.ensures.follows in
    let g = b.ext.cocycles.generators.graph in
    let h = c.graph-cocycles.result.now in
    let same : h ≡ g = c.graph-cocycles.ensures ∙ ap (λ (x : GeneratorsValue). x.graph) (c.generators.ensures.same ∙ ap (λ (p : PreimageValue). p.generators) (c.cocycles.ensures.same ∙ ap (λ (y : ExtValue). y.cocycles) c.ext.ensures.same)) in
    let ring : g.matrix.ring ≡ r = c.ext.ensures.base.ext.cocycles ∙ c.in_ok-base.ensures.ring ∙ over in
    let fs = column_meaning r c.args.generators.now in
    let Z = column_meaning r z in
    let X = resolution_value r x in
    let B = base_meaning r b in
    let old = c.args.work.now in
    let three = c.coordinates.new.work in
    let w = c.in_ok-w.w in
    let coordinates = coordinates_told r e g h same ring z (Ok w) two three c.in_ok-w.ensures.follows in
    let v = c.deref.result.now in
    let same_w : v ≡ w.items = c.deref.ensures.value in
    let new = c.killed_in.new.work in
    let k = c.in_ok-killed.killed in
    let told = kill_told r b (c.in_ok-base.ensures.ring ∙ over) e v (Ok k) three new c.in_ok-killed.ensures.follows in
    kill_ends r i fs e Z old one X c.in_ok-resolution.ensures.follows passes two B based three (column_meaning r w.items) coordinates new (killed_value r k)
    (subst (λ v. FollowsPlan (killed_value r) (Ok k) three new (stages r e (column_meaning r v) 0 None (chain_graphs r B) three)) same_w told)
    (record { base = b; coordinates = w; killed = k }) refl

pub returns-clause-coordinates : goal.returns-clause-coordinates
returns-clause-coordinates c =
    let r = c.args.ring in
    let b = c.in_ok-base.base in
    let g = b.ext.cocycles.generators.graph in
    let h = c.graph-cocycles.result.now in
    let same : h ≡ g = c.graph-cocycles.ensures ∙ ap (λ (x : GeneratorsValue). x.graph) (c.generators.ensures.same ∙ ap (λ (p : PreimageValue). p.generators) (c.cocycles.ensures.same ∙ ap (λ (y : ExtValue). y.cocycles) c.ext.ensures.same)) in
    let ring : g.matrix.ring ≡ r = c.ext.ensures.base.ext.cocycles ∙ c.in_ok-base.ensures.ring ∙ c.in_ok-resolution.ensures.ring in
    subst (λ (s : Ring). AreOver s c.in_ok-w.w.items) (ap (λ (g : GraphValue). g.matrix.ring) same ∙ ring) c.in_ok-w.ensures.over

pub returns-clause-killed : goal.returns-clause-killed
returns-clause-killed c = subst (λ (s : Ring). IsKilledOver s c.in_ok-killed.killed) (c.in_ok-base.ensures.ring ∙ c.in_ok-resolution.ensures.ring) c.in_ok-killed.ensures.over
