use Rattle.std.proofs.Common.{◌≡◌, Ok, Err, Result, refl, ap, subst}
use Rattle.fm_graphs.specs.Graphs.{whole_run}
use Rattle.fm_mat.specs.Matrices.{columns_meaning}
use Rattle.fm_plan.specs.Following.{FollowsPlan, unanswered_by}
use Rattle.fm_plan.proofs.Following.{told_of}
use Rattle.fm_poly.specs.Polys.{meaning}
use Rattle.fm_run.specs.declared.task.Name.TheVariants as names
use Rattle.fm_run.specs.declared.task.Side.TheVariants.{Alone}
use Rattle.fm_run.specs.declared.task.Stopped.{Stopped}
use Rattle.fm_run.specs.Tasks.{stopped_in}
use Rattle.fm_run.proofs.Parts.{failed}
use Rattle.fm_syz.specs.GraphValues.{graph_meaning}
use Rattle.fm_syz.specs.Insides.{inside_value}
use Rattle.fm_syz.specs.declared.inside.Inside.{Inside}
use Rattle.fm_support.specs.Inverting.{IsColonedOver, coloned_value, inverted_value, invert_plan, outside_value}
use Rattle.fm_support.specs.declared.inverting.Inverted.TheVariants.{Never}
use Rattle.fm_support.specs.declared.colons.Coloned.{Coloned}
use Rattle.fm_support.specs.declared.colons.Coloned.TheVariants.{Stable, Whole}
use Rattle.fm_support.proofs.InvertRuns.{first_stops, at_once, colons_stop, colons_go, turning}
use Rattle.fm_support.proofs.inverting.power_or_colons.Goals as goal

pub returns-in_err-in_task-clause-follows : goal.returns-in_err-in_task-clause-follows
returns-in_err-in_task-clause-follows c =
    let k = c.args.k.now in
    let r = k.matrix.ring in
    let F = meaning r c.args.f.now.terms in
    let G = graph_meaning r k in
    let old = c.args.work.now in
    let mid = c.whole_of.new.work in
    let z = c.in_err-in_task.field-0.0 in
    failed (inverted_value r) unanswered_by c.from_residual.result z old mid (invert_plan r F G old) c.from_residual.ensures
    (first_stops r F G old mid z (told_of (inside_value r) Alone names.Colon 0 old mid (whole_run r G) c.whole_of.result (Err z)
    (subst (λ t. ◌≡◌ {A = Result Inside Stopped} (Err z) (stopped_in t c.whole_of.result)) c.colon_task.ensures c.in_err-in_task.ensures) c.whole_of.ensures.follows))

pub returns-in-All-clause-follows : goal.returns-in-All-clause-follows
returns-in-All-clause-follows c =
    let k = c.args.k.now in
    let r = k.matrix.ring in
    let F = meaning r c.args.f.now.terms in
    let G = graph_meaning r k in
    let old = c.args.work.now in
    let mid = c.whole_of.new.work in
    let y = c.in_ok-in_task.field-0 in
    at_once r F G old mid y (told_of (inside_value r) Alone names.Colon 0 old mid (whole_run r G) c.whole_of.result (Ok y)
    (subst (λ t. ◌≡◌ {A = Result Inside Stopped} (Ok y) (stopped_in t c.whole_of.result)) c.colon_task.ensures c.in_ok-in_task.ensures) c.whole_of.ensures.follows) c.by_power.new.work (columns_meaning r c.in-All.field-0.items) (ap (inside_value r) c.in-All.is) c.by_power.result c.by_power.ensures.follows

pub returns-in_err-power-clause-follows : goal.returns-in_err-power-clause-follows
returns-in_err-power-clause-follows c =
    let k = c.args.k.now in
    let r = k.matrix.ring in
    let F = meaning r c.args.f.now.terms in
    let G = graph_meaning r k in
    let old = c.args.work.now in
    let mid = c.whole_of.new.work in
    let y = c.in_ok-in_task.field-0 in
    let new = c.colons_of.new.work in
    let z = c.in_err-power.field-0.0 in
    failed (inverted_value r) unanswered_by c.from_residual-in_err-power.result z old new (invert_plan r F G old) c.from_residual-in_err-power.ensures
    (colons_stop r F G old mid y (told_of (inside_value r) Alone names.Colon 0 old mid (whole_run r G) c.whole_of.result (Ok y)
    (subst (λ t. ◌≡◌ {A = Result Inside Stopped} (Ok y) (stopped_in t c.whole_of.result)) c.colon_task.ensures c.in_ok-in_task.ensures) c.whole_of.ensures.follows) new (outside_value c.in-First.proper) (ap (inside_value r) c.in-First.is) z c.in_err-power.ensures.follows)

pub returns-in-Whole-clause-follows : goal.returns-in-Whole-clause-follows
returns-in-Whole-clause-follows c =
    let k = c.args.k.now in
    let r = k.matrix.ring in
    let F = meaning r c.args.f.now.terms in
    let G = graph_meaning r k in
    let old = c.args.work.now in
    let mid = c.whole_of.new.work in
    let y = c.in_ok-in_task.field-0 in
    let between = c.colons_of.new.work in
    colons_go r F G old mid y (told_of (inside_value r) Alone names.Colon 0 old mid (whole_run r G) c.whole_of.result (Ok y)
    (subst (λ t. ◌≡◌ {A = Result Inside Stopped} (Ok y) (stopped_in t c.whole_of.result)) c.colon_task.ensures c.in_ok-in_task.ensures) c.whole_of.ensures.follows) c.by_power-in-Whole.new.work (outside_value c.in-First.proper) (ap (inside_value r) c.in-First.is) (Whole c.in-Whole.power) between
    (subst (λ x. FollowsPlan (coloned_value r) (Ok x) mid between (turning r F G (outside_value c.in-First.proper) mid)) c.in-Whole.is c.in_ok-power.ensures.follows) c.by_power-in-Whole.result c.by_power-in-Whole.ensures.follows

pub returns-in-Stable-clause-follows : goal.returns-in-Stable-clause-follows
returns-in-Stable-clause-follows c =
    let k = c.args.k.now in
    let r = k.matrix.ring in
    let F = meaning r c.args.f.now.terms in
    let G = graph_meaning r k in
    let old = c.args.work.now in
    let mid = c.whole_of.new.work in
    let y = c.in_ok-in_task.field-0 in
    let between = c.colons_of.new.work in
    let x : Coloned = Stable c.in-Stable.colons c.in-Stable.w c.in-Stable.proper in
    colons_go r F G old mid y (told_of (inside_value r) Alone names.Colon 0 old mid (whole_run r G) c.whole_of.result (Ok y)
    (subst (λ t. ◌≡◌ {A = Result Inside Stopped} (Ok y) (stopped_in t c.whole_of.result)) c.colon_task.ensures c.in_ok-in_task.ensures) c.whole_of.ensures.follows) between (outside_value c.in-First.proper) (ap (inside_value r) c.in-First.is) x between
    (subst (λ x. FollowsPlan (coloned_value r) (Ok x) mid between (turning r F G (outside_value c.in-First.proper) mid)) c.in-Stable.is c.in_ok-power.ensures.follows)
    (Ok (Never c.in-Stable.colons c.in-Stable.w c.in-Stable.proper)) refl

pub returns-in-Stable-clause-over : goal.returns-in-Stable-clause-over
returns-in-Stable-clause-over c = subst (IsColonedOver c.args.k.now) c.in-Stable.is c.in_ok-power.ensures.over
