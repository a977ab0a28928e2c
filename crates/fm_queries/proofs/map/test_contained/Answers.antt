use Rattle.std.proofs.Common.{Ok, Err, ap}
use Rattle.fm_mat.specs.Matrices.{column_meaning}
use Rattle.fm_run.proofs.Parts.{failed}
use Rattle.fm_plan.specs.Queries.{unless}
use Rattle.fm_plan.specs.Tasks.{not_contained}
use Rattle.fm_queries.specs.Founds.{ended_by}
use Rattle.fm_queries.specs.Maps.{contained_test}
use Rattle.fm_queries.specs.declared.unanswered.Unanswered.TheVariants as ends
use Rattle.fm_queries.specs.declared.unanswered.Refusal.TheVariants as refusals
use Rattle.fm_queries.proofs.MapPlans.{contained_stops, contained_goes}
use Rattle.fm_queries.proofs.map.test_contained.Goals as goal

pub returns-in_err-generator : goal.returns-in_err-generator
returns-in_err-generator c =
    let r = c.args.ring in
    let fs = column_meaning r c.args.source.now in
    let gs = column_meaning r c.args.target.now in
    let old = c.args.work.now in
    let new = c.first_not_contained.new.work in
    let s = c.in_err-generator.field-0.0 in
    record {
      follows = failed (λ u. tt) ended_by c.from_residual.result (ends.Stopped s) old new (contained_test r fs gs old) c.from_residual.ensures
          (contained_stops r fs gs old new s c.in_err-generator.ensures.follows);
    }

pub returns-in-Some : goal.returns-in-Some
returns-in-Some c =
    let r = c.args.ring in
    let fs = column_meaning r c.args.source.now in
    let gs = column_meaning r c.args.target.now in
    let old = c.args.work.now in
    let new = c.first_not_contained.new.work in
    let o = c.in_ok-generator.field-0 in
    record {
      follows = contained_goes r fs gs old new o c.in_ok-generator.ensures.follows {X = Unit {0}} (λ u. tt) (Err (ends.Refused (refusals.NotContained c.in-Some.generator)))
          (ap (λ o. unless r not_contained o new) c.in-Some.is);
    }

pub returns-in-None : goal.returns-in-None
returns-in-None c =
    let r = c.args.ring in
    let fs = column_meaning r c.args.source.now in
    let gs = column_meaning r c.args.target.now in
    let old = c.args.work.now in
    let new = c.first_not_contained.new.work in
    let o = c.in_ok-generator.field-0 in
    record {
      follows = contained_goes r fs gs old new o c.in_ok-generator.ensures.follows {X = Unit {0}} (λ u. tt) (Ok tt)
          (ap (λ o. unless r not_contained o new) c.in-None.is);
    }
