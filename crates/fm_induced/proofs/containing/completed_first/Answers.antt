use Rattle.std.proofs.Common.{ℕ, Option, ap, ◌∙◌, subst, arith}
use Rattle.fm_complete.specs.Bases.{basis_value}
use Rattle.fm_complete.specs.Divisions as divisions
use Rattle.fm_mat.specs.Matrices.{column_meaning}
use Rattle.fm_plan.specs.Queries.{contained_from, contained_work}
use Rattle.fm_run.specs.Runs.{Follows, halt_of}
use Rattle.fm_run.proofs.Calls.{wanted}
use Rattle.fm_run.proofs.Parts.{failed}
use Rattle.fm_induced.proofs.ContainedRuns.{work_spends, completion_stops, completion_goes}
use Rattle.fm_induced.proofs.containing.completed_first.Goals as goal

pub returns-in_err-inputs : goal.returns-in_err-inputs
returns-in_err-inputs c =
    let r = c.args.ring in
    let fs = column_meaning r c.args.source.now in
    let gs = column_meaning r c.args.target.now in
    let old = c.args.work.now in
    record { follows = wanted (λ (k : Option ℕ). k) c.from_residual.result old old (contained_work r fs gs old) c.from_residual.ensures (omega arith) (work_spends r fs gs old) }

pub returns-in_err-basis : goal.returns-in_err-basis
returns-in_err-basis c =
    let r = c.args.ring in
    let fs = column_meaning r c.args.source.now in
    let gs = column_meaning r c.args.target.now in
    let old = c.args.work.now in
    let z = c.in_err-basis.field-0.0 in
    record {
      follows = failed (λ (k : Option ℕ). k) halt_of c.from_residual-in_err-basis.result z old c.complete_all.new.work (contained_work r fs gs old) c.from_residual-in_err-basis.ensures
          (completion_stops r fs gs (divisions.terms_of c.deref.result.now) (ap divisions.terms_of c.deref.ensures.value ∙ c.in_ok-inputs.ensures.terms) old c.complete_all.new.work z c.in_err-basis.ensures.follows);
    }

pub returns : goal.returns
returns c =
    let r = c.args.ring in
    let fs = column_meaning r c.args.source.now in
    let gs = column_meaning r c.args.target.now in
    let old = c.args.work.now in
    let mid = c.complete_all.new.work in
    let new = c.first_undivided.new.work in
    record {
      follows = completion_goes r fs gs (divisions.terms_of c.deref.result.now) (ap divisions.terms_of c.deref.ensures.value ∙ c.in_ok-inputs.ensures.terms) old mid (basis_value c.in_ok-basis.basis) c.in_ok-basis.ensures.follows
          new c.first_undivided.result
          (subst (λ xs. Follows (λ (k : Option ℕ). k) c.first_undivided.result mid new (contained_from r (divisions.terms_of xs) 1 gs mid)) c.deref-2.ensures.value c.first_undivided.ensures.follows);
    }
