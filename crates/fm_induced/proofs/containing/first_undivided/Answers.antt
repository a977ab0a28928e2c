use Rattle.std.proofs.Common.{ℕ, suc, ◌+◌, ◌≤◌, ◌≡◌, ◌∷◌, Option, Some, Ok, not, false, true, length, refl, ap, ◌∙◌, subst, arith}
use Rattle.fm_complete.specs.Divisions as divisions
use Rattle.fm_complete.specs.Remainders.{remainder_value}
use Rattle.fm_graphs.specs.Trims.{is_zero}
use Rattle.fm_mat.specs.Matrices.{column_meaning}
use Rattle.fm_plan.specs.Queries.{contained_from}
use Rattle.fm_poly.specs.Polys.{meaning}
use Rattle.fm_run.specs.Runs.{Ended, halt_of}
use Rattle.fm_run.proofs.Calls.{wanted}
use Rattle.fm_run.proofs.Parts.{failed}
use Rattle.fm_vec.specs.Components.{AreOver}
use Rattle.fm_induced.proofs.ContainedRuns.{some_head, contained_spends, division_stops, division_left, found, passed}
use Rattle.fm_induced.proofs.containing.first_undivided.Goals as goal

pub returns-in_err-v : goal.returns-in_err-v
returns-in_err-v c =
    let r = c.args.ring in
    let M = divisions.terms_of c.args.members.now in
    let all = contained_from r M 1 (column_meaning r c.args.generators.now) c.args.work.now in
    let h = c.generators.invariant in
    record {
      follows = wanted (λ (k : Option ℕ). k) c.from_residual.result c.args.work.now c.generators.work all c.from_residual.ensures h.spent
          (subst (λ (d : Ended (Option ℕ)). d.left ≤ c.generators.work) h.run (contained_spends r M (column_meaning r c.generators.left.now) (suc c.generators.number) c.generators.work));
    }

pub returns-in_err-x : goal.returns-in_err-x
returns-in_err-x c =
    let r = c.args.ring in
    let M = divisions.terms_of c.args.members.now in
    let all = contained_from r M 1 (column_meaning r c.args.generators.now) c.args.work.now in
    let h = c.generators.invariant in
    let v = c.in_ok-v.v in
    let z = c.in_err-x.field-0.0 in
    let is = subst (λ fs. contained_from r M (suc c.generators.number) (column_meaning r fs) c.generators.work ≡ all) c.in-Some.ensures.cases.0 h.run in
    record {
      follows = failed (λ (k : Option ℕ). k) halt_of c.from_residual-in_err-x.result z c.args.work.now c.rest_of.new.work all c.from_residual-in_err-x.ensures
          (division_stops r M all (suc c.generators.number) c.generators.work (meaning r c.in-Some.f.now.terms) (column_meaning r c.in-Some.later.now) is c.args.members.now v refl c.in_ok-v.ensures.ring c.in_ok-v.ensures.terms
          z c.args.work.now c.rest_of.new.work h.spent c.in_err-x.ensures.follows);
    }

pub returns-then-is_some : goal.returns-then-is_some
returns-then-is_some c =
    let r = c.args.ring in
    let M = divisions.terms_of c.args.members.now in
    let all = contained_from r M 1 (column_meaning r c.args.generators.now) c.args.work.now in
    let h = c.generators.invariant in
    let v = c.in_ok-v.v in
    let is = subst (λ fs. contained_from r M (suc c.generators.number) (column_meaning r fs) c.generators.work ≡ all) c.in-Some.ensures.cases.0 h.run in
    let number : suc c.generators.number ≡ c.generators.number + 1 = omega arith in
    let test : is_zero c.in_ok-x.x.rest.terms ≡ false = some_head c.is_some.result c.head.result c.in_ok-x.x.rest.terms c.is_some.ensures c.head.ensures.head ∙ ap not c.if-is_some.true in
    record {
      follows = found r M all (suc c.generators.number) c.generators.work (meaning r c.in-Some.f.now.terms) (column_meaning r c.in-Some.later.now) is c.args.members.now v refl c.in_ok-v.ensures.ring c.in_ok-v.ensures.terms
          (remainder_value c.in_ok-x.x) c.rest_of.new.work c.in_ok-x.ensures.follows test ∙ ap (λ k. record { end = Ok (Some k); left = c.rest_of.new.work }) number;
    }

pub generators-preserved : goal.generators-preserved
generators-preserved c =
    let r = c.args.ring in
    let M = divisions.terms_of c.args.members.now in
    let all = contained_from r M 1 (column_meaning r c.args.generators.now) c.args.work.now in
    let h = c.generators.invariant in
    let v = c.in_ok-v.v in
    let here = c.in-Some.ensures.cases.0 in
    let F = meaning r c.in-Some.f.now.terms in
    let FS = column_meaning r c.in-Some.later.now in
    let units = c.generators.work in
    let left = c.rest_of.new.work in
    let is = subst (λ fs. contained_from r M (suc c.generators.number) (column_meaning r fs) units ≡ all) here h.run in
    let over : AreOver r (c.in-Some.f.now ∷ c.in-Some.later.now) = subst (AreOver r) here h.over in
    let number : suc c.generators.number ≡ c.generators.number + 1 = omega arith in
    let test : is_zero c.in_ok-x.x.rest.terms ≡ true = some_head c.is_some.result c.head.result c.in_ok-x.x.rest.terms c.is_some.ensures c.head.ensures.head ∙ ap not c.if-is_some.false in
    let count = h.count in
    let long = ap length here in
    let spent = h.spent in
    let less = division_left r M all (suc c.generators.number) units F FS is c.args.members.now v refl c.in_ok-v.ensures.ring c.in_ok-v.ensures.terms (remainder_value c.in_ok-x.x) left c.in_ok-x.ensures.follows in
    record {
      over = over.1;
      count = omega (arith, count, long);
      run = subst (λ k. contained_from r M (suc k) FS left ≡ all) number
          (passed r M all (suc c.generators.number) units F FS is c.args.members.now v refl c.in_ok-v.ensures.ring c.in_ok-v.ensures.terms (remainder_value c.in_ok-x.x) left c.in_ok-x.ensures.follows test);
      spent = omega (arith, spent, less);
    }
