use Rattle.std.proofs.Common.{Vec, Global, suc, ◌-◌, ◌+◌, ◌≡◌, ◌∷◌, Ok, Err, sym, ap, subst, arith}
use Rattle.fm_run.proofs.Parts.{failed}
use Rattle.fm_plan.specs.Base.{resolving}
use Rattle.fm_plan.specs.Following.{FollowsPlan, unanswered_by}
use Rattle.fm_syz.specs.declared.generators.Generators.{Generators}
use Rattle.fm_syz.specs.GraphValues.{graph_meaning}
use Rattle.fm_syz.specs.GeneratorValues.{generators_meaning}
use Rattle.fm_resolve.specs.Resolutions.{AreExactFrom, generators_from}
use Rattle.fm_resolve.proofs.ResolvingRuns.{step_stops, later_stops, later_goes, later_told, wants}
use Rattle.fm_resolve.proofs.resolution.+resolving.Goals as goal

pub returns-in_err-x-clause-follows : goal.returns-in_err-x-clause-follows
returns-in_err-x-clause-follows t c =
    let g = c.args.g.now in
    let r = g.matrix.ring in
    let count : c.args.count ≡ suc (c.args.count - 1) = omega (arith, c.if-count-eq0.false) in
    failed _ unanswered_by c.from_residual.result c.in_err-x.field-0.0 _ _ _ c.from_residual.ensures
    (subst (λ k. FollowsPlan (λ (xs : Vec Generators Global). generators_from r g xs.items) (Err c.in_err-x.field-0.0) c.args.work.now c.next_generators.new.work (resolving r c.args.side k c.args.j (graph_meaning r g) c.args.work.now)) (sym count)
    (step_stops r c.args.side (c.args.count - 1) c.args.j g c.args.work.now (λ (xs : Vec Generators Global). generators_from r g xs.items) c.next_generators.new.work c.in_err-x.field-0.0 c.in_err-x.ensures.follows))

pub returns-in_err-later-clause-follows : goal.returns-in_err-later-clause-follows
returns-in_err-later-clause-follows t c =
    let g = c.args.g.now in
    let r = g.matrix.ring in
    let x = c.in_ok-x.x in
    let count : c.args.count ≡ suc (c.args.count - 1) = omega (arith, c.if-count-eq0.false) in
    let index : c.args.j + 1 ≡ suc c.args.j = omega arith in
    failed _ unanswered_by c.from_residual-in_err-later.result c.in_err-later.field-0.0 _ _ _ c.from_residual-in_err-later.ensures
    (subst (λ k. FollowsPlan (λ (xs : Vec Generators Global). generators_from r g xs.items) (Err c.in_err-later.field-0.0) c.args.work.now c.resolving.new.work (resolving r c.args.side k c.args.j (graph_meaning r g) c.args.work.now)) (sym count)
    (later_stops r c.args.side (c.args.count - 1) c.args.j g c.args.work.now c.next_generators.new.work c.resolving.new.work x c.in_ok-x.ensures.follows (λ (xs : Vec Generators Global). generators_from r g xs.items) (λ (xs : Vec Generators Global). generators_from r x.graph xs.items) c.in_err-later.field-0.0
    (later_told (λ (xs : Vec Generators Global). xs.items) r c.args.side (c.args.count - 1) c.args.j (c.args.j + 1) x.graph c.graph.result.now (Err c.in_err-later.field-0.0) c.next_generators.new.work c.resolving.new.work c.graph.ensures c.in_ok-x.ensures.exact.generators.graph_ring index c.in_err-later.ensures.follows)))

pub returns-in_err-all-clause-follows : goal.returns-in_err-all-clause-follows
returns-in_err-all-clause-follows t c =
    let g = c.args.g.now in
    let r = g.matrix.ring in
    let x = c.in_ok-x.x in
    let later = generators_from r x.graph c.in_ok-later.later.items in
    let left = c.resolving.new.work in
    let count : c.args.count ≡ suc (c.args.count - 1) = omega (arith, c.if-count-eq0.false) in
    let index : c.args.j + 1 ≡ suc c.args.j = omega arith in
    failed _ unanswered_by c.from_residual-in_err-all.result c.in_err-all.field-0.0 _ _ _ c.from_residual-in_err-all.ensures
    (subst (λ k. FollowsPlan (λ (xs : Vec Generators Global). generators_from r g xs.items) (Err c.in_err-all.field-0.0) c.args.work.now left (resolving r c.args.side k c.args.j (graph_meaning r g) c.args.work.now)) (sym count)
    (later_goes r c.args.side (c.args.count - 1) c.args.j g c.args.work.now c.next_generators.new.work left x c.in_ok-x.ensures.follows (λ (xs : Vec Generators Global). generators_from r g xs.items) (Err c.in_err-all.field-0.0) later
    (later_told (λ (xs : Vec Generators Global). xs.items) r c.args.side (c.args.count - 1) c.args.j (c.args.j + 1) x.graph c.graph.result.now (Ok c.in_ok-later.later) c.next_generators.new.work left c.graph.ensures c.in_ok-x.ensures.exact.generators.graph_ring index c.in_ok-later.ensures.follows)
    (wants c.in_err-all.field-0.0 left (record { end = Ok (generators_meaning r g x ∷ later); left = left }) c.in_err-all.ensures.memory (omega arith))))

pub returns-clause-follows : goal.returns-clause-follows
returns-clause-follows t c =
    let g = c.args.g.now in
    let r = g.matrix.ring in
    let x = c.in_ok-x.x in
    let later = generators_from r x.graph c.in_ok-later.later.items in
    let left = c.resolving.new.work in
    let count : c.args.count ≡ suc (c.args.count - 1) = omega (arith, c.if-count-eq0.false) in
    let index : c.args.j + 1 ≡ suc c.args.j = omega arith in
    subst (λ k. FollowsPlan (λ (xs : Vec Generators Global). generators_from r g xs.items) (Ok c.in_ok-all.all) c.args.work.now left (resolving r c.args.side k c.args.j (graph_meaning r g) c.args.work.now)) (sym count)
    (later_goes r c.args.side (c.args.count - 1) c.args.j g c.args.work.now c.next_generators.new.work left x c.in_ok-x.ensures.follows (λ (xs : Vec Generators Global). generators_from r g xs.items) (Ok c.in_ok-all.all) later
    (later_told (λ (xs : Vec Generators Global). xs.items) r c.args.side (c.args.count - 1) c.args.j (c.args.j + 1) x.graph c.graph.result.now (Ok c.in_ok-later.later) c.next_generators.new.work left c.graph.ensures c.in_ok-x.ensures.exact.generators.graph_ring index c.in_ok-later.ensures.follows)
    (ap (λ ys. record { end = Ok (generators_from r g ys); left = left }) (sym c.in_ok-all.ensures.value)))

pub returns-clause-exact : goal.returns-clause-exact
returns-clause-exact t c =
    subst (AreExactFrom c.args.g.now) (sym c.in_ok-all.ensures.value) (c.in_ok-x.ensures.exact, subst (λ h. AreExactFrom h c.in_ok-later.later.items) c.graph.ensures c.in_ok-later.ensures.exact)
