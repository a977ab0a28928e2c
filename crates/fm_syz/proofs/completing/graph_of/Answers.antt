use Rattle.std.proofs.Common.{◌+◌, List, length, subst, ap, arith}
use Rattle.fm_poly.specs.declared.ring.Ring.{Ring}
use Rattle.fm_poly.specs.Polys.{PolyValue}
use Rattle.fm_complete.specs.Divisions.{AreMembers}
use Rattle.fm_run.specs.Runs.{halt_of}
use Rattle.fm_complete.specs.Bases.{basis_value}
use Rattle.fm_mat.specs.Matrices.{matrix_meaning}
use Rattle.fm_run.proofs.Calls.{wanted}
use Rattle.fm_graphs.specs.Graphs.{graph_run}
use Rattle.fm_graphs.proofs.Spending.{graph_spends}
use Rattle.fm_syz.specs.GraphValues.{GraphValue, graph_meaning}
use Rattle.fm_syz.proofs.Inputs.{graph_halts, graph_ends, graph_is_complete}
use Rattle.fm_syz.proofs.completing.graph_of.Goals as goal

pub returns-in_err-columns-clause-follows : goal.returns-in_err-columns-clause-follows
returns-in_err-columns-clause-follows c =
    let r = c.args.a.ring in
    let run = graph_run r (matrix_meaning r c.args.a) in
    wanted (λ (g : GraphValue). graph_meaning r g) c.from_residual.result c.args.work.now c.args.work.now (run c.args.work.now) c.from_residual.ensures (omega arith)
    (graph_spends r (matrix_meaning r c.args.a) c.args.work.now)

pub returns-in-Err-clause-follows : goal.returns-in-Err-clause-follows
returns-in-Err-clause-follows c =
    graph_halts c.args.a.ring c.ring.result c.args.a c.deref.result.now c.in_ok-columns.columns.items c.args.work.now c.ring.ensures c.deref.ensures.value c.in_ok-columns.ensures.terms
    c.complete_all.new.work (halt_of c.in-Err.stop) c.in-Err.ensures.follows

pub returns-clause-follows : goal.returns-clause-follows
returns-clause-follows c =
    graph_ends c.args.a.ring c.ring.result c.args.a c.deref.result.now c.in_ok-columns.columns.items c.args.work.now c.ring.ensures c.deref.ensures.value c.in_ok-columns.ensures.terms
    (basis_value c.in-Ok.basis) c.complete_all.new.work c.new.result c.in-Ok.ensures.follows (ap (λ (g : GraphValue). graph_meaning c.args.a.ring g) c.new.ensures)

pub new-requires : goal.new-requires
new-requires c =
    let r = c.args.a.ring in
    let width = ap (λ (cs : List (List PolyValue)). length cs) c.columns.ensures.same in
    record {
      members = subst (λ (s : Ring). AreMembers s (c.args.a.rows + length c.args.a.columns) c.in-Ok.basis.members.items) c.ring.ensures
          (subst (λ n. AreMembers c.ring.result n c.in-Ok.basis.members.items) (omega (arith, c.rows.ensures, width, c.columns.ensures.few, c.requires.room)) c.in-Ok.ensures.members);
      few = c.in-Ok.ensures.few;
      high = c.requires.room;
      completed = graph_is_complete r c.ring.result c.args.a c.deref.result.now c.in_ok-columns.columns.items c.args.work.now c.complete_all.new.work (basis_value c.in-Ok.basis) c.ring.ensures c.deref.ensures.value
          c.in_ok-columns.ensures.terms c.columns.ensures.shape c.in-Ok.ensures.follows;
    }
