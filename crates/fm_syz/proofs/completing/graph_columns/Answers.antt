use Rattle.std.proofs.Common.{◌≡◌, refl, subst, arith}
use Rattle.std.specs.Prelude.{IfOk}
use Rattle.fm_complete.specs.Divisions as divisions
use Rattle.fm_syz.proofs.Inputs.{if_ok, graph_inputs, inputs_few}
use Rattle.fm_syz.proofs.completing.graph_columns.Goals as goal

pub returns-clause-terms : goal.returns-clause-terms
returns-clause-terms c =
    let r = c.args.a.now.ring in
    subst (λ ts. IfOk c.vectors.result (λ out. divisions.terms_of out.items ≡ ts))
    (graph_inputs r c.ring-2.result c.ring.result c.cols.result c.args.a.now c.in_ok-unit.unit c.in_ok-whole.whole c.columns.result.now c.ring-2.ensures c.ring.ensures c.cols.ensures
    c.in_ok-unit.ensures.value (c.in_ok-whole.ensures.value r refl) c.columns.ensures.same) c.vectors.ensures.terms

pub returns-clause-few : goal.returns-clause-few
returns-clause-few c =
    if_ok c.vectors.result (λ out terms. inputs_few c.ring-2.result c.args.a.now c.in_ok-whole.whole c.columns.result.now out.items terms c.columns.ensures.same c.in_ok-whole.ensures.count
    (omega (arith, c.requires.room))) c.vectors.ensures.terms
