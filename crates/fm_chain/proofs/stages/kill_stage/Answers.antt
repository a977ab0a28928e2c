use Rattle.std.proofs.Common.{◌≡◌, ◌∷◌, ◌+◌, suc, length, map, drop, None, Some, option_map, Ok, Err, sym, ap, ◌∙◌, subst, arith}
use Rattle.fm_poly.specs.declared.ring.Ring.{Ring}
use Rattle.fm_run.specs.declared.task.Side.TheVariants.{Alone}
use Rattle.fm_run.specs.declared.task.Name.TheVariants as names
use Rattle.fm_run.specs.Runs.{Ending}
use Rattle.fm_run.proofs.Parts.{failed}
use Rattle.std.proofs.lemmas.List.{length-map}
use Rattle.fm_algebra.specs.PolynomialMatrices.{matrix_twist}
use Rattle.fm_limit.specs.ResolvedIdeal.{matrix_at}
use Rattle.fm_mat.specs.Matrices.{column_meaning, matrix_meaning}
use Rattle.fm_vec.specs.Components.{AreOver}
use Rattle.fm_graphs.specs.Graphs.{Inside}
use Rattle.fm_plan.specs.Tasks.{Unanswered, task}
use Rattle.fm_plan.specs.Queries.{lift_at, stages}
use Rattle.fm_plan.specs.Following.{unanswered_by}
use Rattle.fm_syz.specs.GraphValues.{graph_meaning}
use Rattle.fm_syz.specs.Insides.{IsLiftOf, lifted_value}
use Rattle.fm_syz.specs.declared.lifted.Lifted.{Lifted}
use Rattle.fm_syz.specs.declared.lifted.Lifted.TheVariants.{InImage, NotInImage}
use Rattle.fm_chain.specs.Chains.{outside_value}
use Rattle.fm_chain.specs.Stages.{AreGraphsOf, killed_value}
use Rattle.fm_chain.proofs.LeastMoves.{kernel_at, none_more, stage_few, stage_says}
use Rattle.fm_chain.proofs.StageRuns.{dropped, lift_spends, stage_told, stage_stops, stage_goes}
use Rattle.fm_chain.proofs.stages.kill_stage.Goals as goal

pub lift_at-requires-clause-over : goal.lift_at-requires-clause-over
lift_at-requires-clause-over c =
    let r = c.args.ring in
    let e = c.args.e in
    let w = c.args.w.now in
    let g = c.g-item.result.now in
    let i = c.loop-g.g-index in
    let fit = subst (AreGraphsOf r (length w)) (dropped (λ g. g.now) c.args.graphs.now i c.g-item.result c.g-item.is c.loop-g-test.true) c.loop-g.invariant.fit in
    subst (λ (q : Ring). AreOver q w) (sym fit.0) c.requires.over

pub lift_at-requires-clause-rows : goal.lift_at-requires-clause-rows
lift_at-requires-clause-rows c =
    let r = c.args.ring in
    let e = c.args.e in
    let w = c.args.w.now in
    let g = c.g-item.result.now in
    let i = c.loop-g.g-index in
    let fit = subst (AreGraphsOf r (length w)) (dropped (λ g. g.now) c.args.graphs.now i c.g-item.result c.g-item.is c.loop-g-test.true) c.loop-g.invariant.fit in
    sym fit.1

pub returns-in_err-lifted-clause-follows : goal.returns-in_err-lifted-clause-follows
returns-in_err-lifted-clause-follows c =
    let r = c.args.ring in
    let e = c.args.e in
    let w = c.args.w.now in
    let g = c.g-item.result.now in
    let i = c.loop-g.g-index in
    let fit = subst (AreGraphsOf r (length w)) (dropped (λ g. g.now) c.args.graphs.now i c.g-item.result c.g-item.is c.loop-g-test.true) c.loop-g.invariant.fit in
    let W = column_meaning r w in
    let G = graph_meaning r g in
    let units = c.loop-g.work in
    let new = c.lift_at.new.work in
    let s = c.loop-g.moves in
    let before = option_map outside_value c.loop-g.before in
    let GS = map (λ g. graph_meaning r g.now) c.args.graphs.now in
    let all = stages r e W 0 None GS c.args.work.now in
    let here = dropped (λ g. graph_meaning r g.now) c.args.graphs.now i c.g-item.result c.g-item.is c.loop-g-test.true in
    let left : all ≡ stages r e W s before (G ∷ drop (suc i) GS) units = c.loop-g.invariant.run ∙ ap (λ gs. stages r e W s before gs units) here in
    let z = c.in_err-lifted.field-0.0 in
    let told = stage_told g.matrix.ring r fit.0 c.stage_task.result s c.stage_task.ensures e g w c.lift_at.result (Err z) units new c.in_err-lifted.ensures c.lift_at.ensures.follows in
    failed (killed_value r) unanswered_by c.from_residual.result z c.args.work.now new all c.from_residual.ensures
    (stage_stops r e W all s before G (drop (suc i) GS) units new left c.args.work.now z c.loop-g.invariant.spent told)

pub returns-in-InImage : goal.returns-in-InImage
returns-in-InImage c =
    let r = c.args.ring in
    let e = c.args.e in
    let w = c.args.w.now in
    let g = c.g-item.result.now in
    let i = c.loop-g.g-index in
    let fit = subst (AreGraphsOf r (length w)) (dropped (λ g. g.now) c.args.graphs.now i c.g-item.result c.g-item.is c.loop-g-test.true) c.loop-g.invariant.fit in
    let W = column_meaning r w in
    let G = graph_meaning r g in
    let units = c.loop-g.work in
    let new = c.lift_at.new.work in
    let s = c.loop-g.moves in
    let before = option_map outside_value c.loop-g.before in
    let GS = map (λ g. graph_meaning r g.now) c.args.graphs.now in
    let all = stages r e W 0 None GS c.args.work.now in
    let here = dropped (λ g. graph_meaning r g.now) c.args.graphs.now i c.g-item.result c.g-item.is c.loop-g-test.true in
    let left : all ≡ stages r e W s before (G ∷ drop (suc i) GS) units = c.loop-g.invariant.run ∙ ap (λ gs. stages r e W s before gs units) here in
    let told = stage_told g.matrix.ring r fit.0 c.stage_task.result s c.stage_task.ensures e g w c.lift_at.result (Ok c.in_ok-lifted.lifted) units new c.in_ok-lifted.ensures c.lift_at.ensures.follows in
    let run = subst (λ (y : Lifted). task Alone names.Stage s (lift_at r e G W) units ≡ record { end = Ok (lifted_value r y); left = new }) c.in-InImage.is told in
    let Ks = map (λ g. matrix_meaning r g.now.matrix) c.args.graphs.now in
    let here_is = kernel_at r (λ g. matrix_meaning r g.now.matrix) c.args.graphs.now i c.g-item.result c.g-item.is c.loop-g-test.true in
    let says = stage_says g.matrix.ring r fit.0 c.stage_task.result e g.matrix w c.lift_at.result c.in_ok-lifted.lifted (InImage c.in-InImage.v) c.in_ok-lifted.ensures c.in-InImage.is c.lift_at.ensures.solves in
    let solves = subst (λ A. IsLiftOf r (matrix_twist r.prime r.vars e A) W (InImage c.in-InImage.v)) (sym here_is ∙ ap (matrix_at r.prime r.vars Ks) (sym c.loop-g.invariant.count)) says in
    let few = length-map c.args.graphs.now (λ g. matrix_meaning r g.now.matrix) in
    let count = c.loop-g.invariant.count in
    let less = c.loop-g-test.true in
    record {
      follows = stage_goes r e W all s before G (drop (suc i) GS) units new left (lifted_value r (InImage c.in-InImage.v)) run;
      least = (omega (arith, few, count, less), solves.2, solves.1, c.loop-g.invariant.none);
      over = (says.0, stage_few c.stage_task.result c.lift_at.result c.in_ok-lifted.lifted (InImage c.in-InImage.v) c.in_ok-lifted.ensures c.in-InImage.is c.lift_at.ensures.few);
    }

pub loop-g-preserved : goal.loop-g-preserved
loop-g-preserved c =
    let r = c.args.ring in
    let e = c.args.e in
    let w = c.args.w.now in
    let g = c.g-item.result.now in
    let i = c.loop-g.g-index in
    let fit = subst (AreGraphsOf r (length w)) (dropped (λ g. g.now) c.args.graphs.now i c.g-item.result c.g-item.is c.loop-g-test.true) c.loop-g.invariant.fit in
    let W = column_meaning r w in
    let G = graph_meaning r g in
    let units = c.loop-g.work in
    let new = c.lift_at.new.work in
    let s = c.loop-g.moves in
    let before = option_map outside_value c.loop-g.before in
    let GS = map (λ g. graph_meaning r g.now) c.args.graphs.now in
    let all = stages r e W 0 None GS c.args.work.now in
    let here = dropped (λ g. graph_meaning r g.now) c.args.graphs.now i c.g-item.result c.g-item.is c.loop-g-test.true in
    let left : all ≡ stages r e W s before (G ∷ drop (suc i) GS) units = c.loop-g.invariant.run ∙ ap (λ gs. stages r e W s before gs units) here in
    let told = stage_told g.matrix.ring r fit.0 c.stage_task.result s c.stage_task.ensures e g w c.lift_at.result (Ok c.in_ok-lifted.lifted) units new c.in_ok-lifted.ensures c.lift_at.ensures.follows in
    let run = subst (λ (y : Lifted). task Alone names.Stage s (lift_at r e G W) units ≡ record { end = Ok (lifted_value r y); left = new }) c.in-NotInImage.is told in
    let index : suc i ≡ i + 1 = omega arith in
    let number : suc s ≡ s + 1 = omega arith in
    let same : (task Alone names.Stage s (lift_at r e G W) units).left ≡ new = ap (λ (d : Ending Unanswered (Inside r)). d.left) run in
    let spent = lift_spends r e W G units in
    let earlier = c.loop-g.invariant.spent in
    let count = c.loop-g.invariant.count in
    let Ks = map (λ g. matrix_meaning r g.now.matrix) c.args.graphs.now in
    let here_is = kernel_at r (λ g. matrix_meaning r g.now.matrix) c.args.graphs.now i c.g-item.result c.g-item.is c.loop-g-test.true in
    let says = stage_says g.matrix.ring r fit.0 c.stage_task.result e g.matrix w c.lift_at.result c.in_ok-lifted.lifted (NotInImage c.in-NotInImage.outside) c.in_ok-lifted.ensures c.in-NotInImage.is c.lift_at.ensures.solves in
    let lives = subst (λ A. IsLiftOf r (matrix_twist r.prime r.vars e A) W (NotInImage c.in-NotInImage.outside)) (sym here_is ∙ ap (matrix_at r.prime r.vars Ks) (sym count)) says in
    record {
      none = none_more r e W Ks s c.loop-g.invariant.none lives;
      run = subst (λ k. all ≡ stages r e W (s + 1) (option_map outside_value (Some c.in-NotInImage.outside)) (drop k GS) new) index
          (subst (λ k. all ≡ stages r e W k (option_map outside_value (Some c.in-NotInImage.outside)) (drop (suc i) GS) new) number
          (stage_goes r e W all s before G (drop (suc i) GS) units new left (lifted_value r (NotInImage c.in-NotInImage.outside)) run));
      spent = omega (arith, same, spent, earlier);
      count = omega (arith, count);
      fit = subst (λ k. AreGraphsOf r (length w) (drop k (map (λ g. g.now) c.args.graphs.now))) index fit.2;
    }
