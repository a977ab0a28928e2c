use Rattle.std.proofs.Common.{Vec, Global, ◌≡◌, [], None, Ok, Err, IfOk, Result, sym, ap, ◌∙◌, subst}
use Rattle.fm_algebra.specs.PolynomialMatrices.{matrix_beside}
use Rattle.fm_mat.specs.Matrices.{MatrixValue, matrix_meaning}
use Rattle.fm_plan.specs.Following.{FollowsPlan, unanswered_by}
use Rattle.fm_mat.specs.declared.column.Column.{Column}
use Rattle.fm_plan.specs.Queries.{join_work, onto_at, onto_plan}
use Rattle.fm_plan.proofs.Following.{told_of}
use Rattle.fm_poly.specs.declared.ring.Ring.{Ring}
use Rattle.fm_run.specs.declared.task.Name.TheVariants as names
use Rattle.fm_run.specs.declared.task.Side.TheVariants.{Alone}
use Rattle.fm_run.specs.declared.task.Stopped.{Stopped}
use Rattle.fm_run.specs.Tasks.{stopped_in}
use Rattle.fm_run.proofs.Parts.{failed}
use Rattle.fm_lift.proofs.Calls.{told_ok}
use Rattle.fm_syz.specs.GraphValues.{graph_meaning}
use Rattle.fm_syz.specs.Insides.{inside_value}
use Rattle.fm_syz.specs.declared.inside.Outside.{Outside}
use Rattle.fm_syz.specs.declared.inside.Inside.TheVariants.{All, First}
use Rattle.fm_support.specs.Inverting.{AreColons, outside_value, preimages_meaning}
use Rattle.fm_induced.specs.Joins.{IsOntoOver, beginning_value, joined_value, onto_value}
use Rattle.fm_induced.specs.declared.joins.Beginning.{Beginning}
use Rattle.fm_induced.specs.declared.joins.Joined.{Joined}
use Rattle.fm_induced.specs.declared.onto_maps.Onto.TheVariants.{At}
use Rattle.fm_induced.proofs.JoinRuns.{solved}
use Rattle.fm_induced.proofs.OntoRuns.{first_stops, begun, joining, joining_told}
use Rattle.fm_induced.proofs.onto_maps.is_onto.Goals as goal

pub returns-in_err-beginning-clause-follows : goal.returns-in_err-beginning-clause-follows
returns-in_err-beginning-clause-follows c =
    let r = c.args.n.now.ring in
    let N = matrix_meaning r c.args.n.now in
    let P = matrix_meaning r c.args.phi.now in
    let U = matrix_meaning r c.args.u.now in
    let old = c.args.work.now in
    let mid = c.begin.new.work in
    let z = c.in_err-beginning.field-0.0 in
    failed (onto_value r) unanswered_by c.from_residual.result z old mid (onto_plan r N P U old) c.from_residual.ensures
    (first_stops r N P U old mid z (told_of (beginning_value r) Alone names.Onto 0 old mid (join_work r (matrix_beside r.prime r.vars N P)) c.begin.result (Err z)
    (subst (λ t. ◌≡◌ {A = Result Beginning Stopped} (Err z) (stopped_in t c.begin.result)) c.onto_task.ensures c.in_err-beginning.ensures) c.begin.ensures.follows))

pub returns-in_err-joined-in-First-clause-follows : goal.returns-in_err-joined-in-First-clause-follows
returns-in_err-joined-in-First-clause-follows c =
    let r = c.args.n.now.ring in
    let N = matrix_meaning r c.args.n.now in
    let P = matrix_meaning r c.args.phi.now in
    let U = matrix_meaning r c.args.u.now in
    let old = c.args.work.now in
    let mid = c.begin.new.work in
    let b = c.in_ok-beginning.beginning in
    let told = told_of (beginning_value r) Alone names.Onto 0 old mid (join_work r (matrix_beside r.prime r.vars N P)) c.begin.result (Ok b)
    (subst (λ t. ◌≡◌ {A = Result Beginning Stopped} (Ok b) (stopped_in t c.begin.result)) c.onto_task.ensures c.in_ok-beginning.ensures) c.begin.ensures.follows in
    let ring : b.first.matrix.ring ≡ r = subst (λ a. IfOk a (λ (x : Beginning). x.first.matrix.ring ≡ r)) (told_ok c.onto_task.result c.begin.result b c.in_ok-beginning.ensures) c.begin.ensures.ring in
    let new = c.joins_of.new.work in
    let z = c.in_err-joined-in-First.field-0.0 in
    failed (onto_value r) unanswered_by c.from_residual-in_err-joined-in-First.result z old new (onto_plan r N P U old) c.from_residual-in_err-joined-in-First.ensures
    (begun r N P U old mid b told new (Err z) (inside_value r (First c.in-First.proper)) (ap (inside_value r) c.in-First.is)
    (joining_told r b.first ring c.args.u.now (outside_value c.in-First.proper) (λ (x : Joined). x) (Err z) mid new
    (subst (λ (o : Outside). let s = b.first.matrix.ring in FollowsPlan (λ (x : Joined). joined_value s b.first x) (Err z) mid new (joining s (matrix_meaning s c.args.u.now) (graph_meaning s b.first) (outside_value o) mid)) c.in-First.proper-is c.in_err-joined-in-First.ensures.follows)))

pub returns-in-All-clause-follows : goal.returns-in-All-clause-follows
returns-in-All-clause-follows c =
    let r = c.args.n.now.ring in
    let N = matrix_meaning r c.args.n.now in
    let P = matrix_meaning r c.args.phi.now in
    let U = matrix_meaning r c.args.u.now in
    let old = c.args.work.now in
    let mid = c.begin.new.work in
    let b = c.in_ok-beginning.beginning in
    let told = told_of (beginning_value r) Alone names.Onto 0 old mid (join_work r (matrix_beside r.prime r.vars N P)) c.begin.result (Ok b)
    (subst (λ t. ◌≡◌ {A = Result Beginning Stopped} (Ok b) (stopped_in t c.begin.result)) c.onto_task.ensures c.in_ok-beginning.ensures) c.begin.ensures.follows in
    let empty : [] ≡ preimages_meaning r c.new.result.items = sym (ap (preimages_meaning r) c.new.ensures.items) in
    let w = solved r b.first c.new-w.result c.in-All.columns.items (ap (λ (m : MatrixValue). m.rows) c.new-w.ensures ∙ c.width.ensures)
    (ap (λ (m : MatrixValue). m.columns) c.new-w.ensures ∙ ap (λ (ws : Vec Column Global). ws.items) c.in-All.columns-is) in
    begun r N P U old mid b told mid (Ok (At b.first c.new.result c.new-w.result None)) (inside_value r (All c.in-All.columns)) (ap (inside_value r) c.in-All.is)
    (λ t. record { end = Ok (onto_at (graph_meaning r b.first) (empty t) (w t) None); left = mid })

pub returns-in_ok-joined-in-First-clause-follows : goal.returns-in_ok-joined-in-First-clause-follows
returns-in_ok-joined-in-First-clause-follows c =
    let r = c.args.n.now.ring in
    let N = matrix_meaning r c.args.n.now in
    let P = matrix_meaning r c.args.phi.now in
    let U = matrix_meaning r c.args.u.now in
    let old = c.args.work.now in
    let mid = c.begin.new.work in
    let b = c.in_ok-beginning.beginning in
    let told = told_of (beginning_value r) Alone names.Onto 0 old mid (join_work r (matrix_beside r.prime r.vars N P)) c.begin.result (Ok b)
    (subst (λ t. ◌≡◌ {A = Result Beginning Stopped} (Ok b) (stopped_in t c.begin.result)) c.onto_task.ensures c.in_ok-beginning.ensures) c.begin.ensures.follows in
    let ring : b.first.matrix.ring ≡ r = subst (λ a. IfOk a (λ (x : Beginning). x.first.matrix.ring ≡ r)) (told_ok c.onto_task.result c.begin.result b c.in_ok-beginning.ensures) c.begin.ensures.ring in
    let new = c.joins_of.new.work in
    let x = c.in_ok-joined-in-First.joined in
    begun r N P U old mid b told new (Ok c.with_first.result) (inside_value r (First c.in-First.proper)) (ap (inside_value r) c.in-First.is)
    (joining_told r b.first ring c.args.u.now (outside_value c.in-First.proper) (λ (x : Joined). x) (Ok x) mid new
    (subst (λ (o : Outside). let s = b.first.matrix.ring in FollowsPlan (λ (x : Joined). joined_value s b.first x) (Ok x) mid new (joining s (matrix_meaning s c.args.u.now) (graph_meaning s b.first) (outside_value o) mid)) c.in-First.proper-is c.in_ok-joined-in-First.ensures.follows) ∙ ap (λ s. record { end = Ok s; left = new }) (sym (c.with_first.ensures.value r)))

pub returns-in-All-clause-over : goal.returns-in-All-clause-over
returns-in-All-clause-over c =
    let r = c.args.n.now.ring in
    let b = c.in_ok-beginning.beginning in
    let ring : b.first.matrix.ring ≡ r = subst (λ a. IfOk a (λ (x : Beginning). x.first.matrix.ring ≡ r)) (told_ok c.onto_task.result c.begin.result b c.in_ok-beginning.ensures) c.begin.ensures.ring in
    (ring, (subst (AreColons b.first) (sym c.new.ensures.items) tt, ap (λ (m : MatrixValue). m.ring) c.new-w.ensures ∙ c.ring.ensures ∙ ring))

pub returns-in_ok-joined-in-First-clause-over : goal.returns-in_ok-joined-in-First-clause-over
returns-in_ok-joined-in-First-clause-over c =
    let r = c.args.n.now.ring in
    let b = c.in_ok-beginning.beginning in
    let ring : b.first.matrix.ring ≡ r = subst (λ a. IfOk a (λ (x : Beginning). x.first.matrix.ring ≡ r)) (told_ok c.onto_task.result c.begin.result b c.in_ok-beginning.ensures) c.begin.ensures.ring in
    subst (λ (s : Ring). IsOntoOver s c.with_first.result) ring c.with_first.ensures.over
