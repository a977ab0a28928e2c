use Rattle.std.proofs.Common.{◌∙◌, ◌+◌, ◌≤◌, ◌∷◌, ℕ, ap, ap₂, sym, subst, refl, Err, arith}
use Rattle.fm_poly.specs.declared.ring.Ring.{Ring}
use Rattle.fm_term.specs.declared.vterm.VTerm.{VTerm}
use Rattle.fm_vec.proofs.Proper.{moved_vector}
use Rattle.fm_complete.specs.declared.step.Step.{Step}
use Rattle.fm_complete.specs.Divisions.{terms_of}
use Rattle.fm_complete.specs.Reduced.{reduction_value}
use Rattle.fm_complete.specs.Reductions.{Reduced, reduced}
use Rattle.fm_run.specs.Runs.{Ended, Follows}
use Rattle.fm_run.proofs.Calls.{stopped, wanted, spent_now}
use Rattle.fm_complete.specs.Spread.{AreParts, tail_columns}
use Rattle.fm_complete.specs.Trails.{IsTrail, ahead}
use Rattle.fm_complete.proofs.Running.{leaves}
use Rattle.fm_complete.proofs.Spread.{parts_ring}
use Rattle.fm_complete.proofs.LongRuns.{long_start, long_head, long_end, long_done, step_tail, tail_over, tail_long, long_exceeded, long_leaves, long_turn}
use Rattle.fm_complete.proofs.long.run.Goals as goal

pub turns-init : goal.turns-init
turns-init c =
    let r = c.ring-ring.result in
    let n = c.length-rows.result in
    let members = terms_of c.args.basis.now in
    let all = ahead c.args.steps.items (reduced c.ring-ring.result (terms_of c.args.basis.now) c.args.work.now c.args.first.now.terms) in (
      long_start r n members all c.args.buckets.now c.args.steps.items c.args.work.now 0 c.args.first.now.terms refl
          (moved_vector (sym c.ring-ring.ensures) (sym c.length-rows.ensures) refl c.terms-terms.ensures.proper)
          (subst (λ (q : Ring). AreParts q 1 c.args.buckets.now c.args.first.now.terms) (sym c.ring-ring.ensures) c.requires.parts)
          (c.requires.count ∙ sym c.length-rows.ensures) refl
          (subst (λ (q : Ring). IsTrail q (terms_of c.args.basis.now) c.args.steps.items c.args.first.now.terms) (sym c.ring-ring.ensures) c.requires.trail),
      omega arith,
    )

pub returns-then-at-buckets-clause-follows : goal.returns-then-at-buckets-clause-follows
returns-then-at-buckets-clause-follows c =
    let r = c.ring-ring.result in
    let n = c.length-rows.result in
    let members = terms_of c.args.basis.now in
    let all = ahead c.args.steps.items (reduced c.ring-ring.result (terms_of c.args.basis.now) c.args.work.now c.args.first.now.terms) in
    ap (λ (q : Ring). ahead c.args.steps.items (reduced q (terms_of c.args.basis.now) c.args.work.now c.args.first.now.terms)) (sym c.ring-ring.ensures)
    ∙ (long_end r n members all c.turns.buckets c.turns.steps.items c.turns.work c.turns.at c.from_falling-rest.result.terms c.if-at-buckets.true
    (ap (λ v. v.terms) c.from_falling-rest.ensures ∙ c.new.ensures.items) c.turns.invariant.0).0

pub returns-in_default-find_step-clause-follows : goal.returns-in_default-find_step-clause-follows
returns-in_default-find_step-clause-follows c =
    let r = c.ring-ring.result in
    let n = c.length-rows.result in
    let members = terms_of c.args.basis.now in
    let all = ahead c.args.steps.items (reduced c.ring-ring.result (terms_of c.args.basis.now) c.args.work.now c.args.first.now.terms) in
    let h : VTerm = record { component = c.turns.at + 1; mono = c.in-Some.t.mono; coeff = c.in-Some.t.coeff } in
    let x = long_head r n members all c.turns.buckets c.take_at.new.buckets c.turns.steps.items c.turns.work c.turns.at c.in-Some.t h refl c.take_at.ensures.count c.in-Some.ensures.some c.turns.invariant.0 in
    ap (λ (q : Ring). ahead c.args.steps.items (reduced q (terms_of c.args.basis.now) c.args.work.now c.args.first.now.terms)) (sym c.ring-ring.ensures)
    ∙ (long_done r n members all h c.take_at.new.buckets c.turns.steps.items c.turns.work c.in_ok-rest.rest.terms c.in_default-find_step.ensures.found c.in_ok-rest.ensures.terms x).0

pub overflow_sub-step : goal.overflow_sub-step
overflow_sub-step c =
    let r = c.ring-ring.result in
    let n = c.length-rows.result in
    let members = terms_of c.args.basis.now in
    let all = ahead c.args.steps.items (reduced c.ring-ring.result (terms_of c.args.basis.now) c.args.work.now c.args.first.now.terms) in
    let h : VTerm = record { component = c.turns.at + 1; mono = c.in-Some.t.mono; coeff = c.in-Some.t.coeff } in
    let x = long_head r n members all c.turns.buckets c.take_at.new.buckets c.turns.steps.items c.turns.work c.turns.at c.in-Some.t h refl c.take_at.ensures.count c.in-Some.ensures.some c.turns.invariant.0 in
    let g = c.in-Some-find_step._b.now.terms in
    let s : Step = c.in-Some-find_step.step in
    let tails_is = c.requires.tails ∙ ap₂ (λ (q : Ring) (k : ℕ). tail_columns q k (terms_of c.args.basis.now)) (sym c.ring-ring.ensures) (sym c.length-rows.ensures) in
    let at = step_tail r n members all h c.take_at.new.buckets c.turns.steps.items c.turns.work s g c.in-Some-find_step.ensures.found c.in-Some-find_step.ensures.proper c.vars-vars.ensures.within x c.args.tails.now tails_is in
    at.some

pub bounds-tails-step : goal.bounds-tails-step
bounds-tails-step c =
    let r = c.ring-ring.result in
    let n = c.length-rows.result in
    let members = terms_of c.args.basis.now in
    let all = ahead c.args.steps.items (reduced c.ring-ring.result (terms_of c.args.basis.now) c.args.work.now c.args.first.now.terms) in
    let h : VTerm = record { component = c.turns.at + 1; mono = c.in-Some.t.mono; coeff = c.in-Some.t.coeff } in
    let x = long_head r n members all c.turns.buckets c.take_at.new.buckets c.turns.steps.items c.turns.work c.turns.at c.in-Some.t h refl c.take_at.ensures.count c.in-Some.ensures.some c.turns.invariant.0 in
    let g = c.in-Some-find_step._b.now.terms in
    let s : Step = c.in-Some-find_step.step in
    let tails_is = c.requires.tails ∙ ap₂ (λ (q : Ring) (k : ℕ). tail_columns q k (terms_of c.args.basis.now)) (sym c.ring-ring.ensures) (sym c.length-rows.ensures) in
    let at = step_tail r n members all h c.take_at.new.buckets c.turns.steps.items c.turns.work s g c.in-Some-find_step.ensures.found c.in-Some-find_step.ensures.proper c.vars-vars.ensures.within x c.args.tails.now tails_is in
    at.within

pub subtract-requires-clause-buckets : goal.subtract-requires-clause-buckets
subtract-requires-clause-buckets c =
    let r = c.ring-ring.result in
    let n = c.length-rows.result in
    let members = terms_of c.args.basis.now in
    let all = ahead c.args.steps.items (reduced c.ring-ring.result (terms_of c.args.basis.now) c.args.work.now c.args.first.now.terms) in
    let h : VTerm = record { component = c.turns.at + 1; mono = c.in-Some.t.mono; coeff = c.in-Some.t.coeff } in
    let x = long_head r n members all c.turns.buckets c.take_at.new.buckets c.turns.steps.items c.turns.work c.turns.at c.in-Some.t h refl c.take_at.ensures.count c.in-Some.ensures.some c.turns.invariant.0 in
    parts_ring r 1 c.take_at.new.buckets x.tail x.parts

pub subtract-requires-clause-tail : goal.subtract-requires-clause-tail
subtract-requires-clause-tail c =
    let r = c.ring-ring.result in
    let n = c.length-rows.result in
    let members = terms_of c.args.basis.now in
    let all = ahead c.args.steps.items (reduced c.ring-ring.result (terms_of c.args.basis.now) c.args.work.now c.args.first.now.terms) in
    let h : VTerm = record { component = c.turns.at + 1; mono = c.in-Some.t.mono; coeff = c.in-Some.t.coeff } in
    let x = long_head r n members all c.turns.buckets c.take_at.new.buckets c.turns.steps.items c.turns.work c.turns.at c.in-Some.t h refl c.take_at.ensures.count c.in-Some.ensures.some c.turns.invariant.0 in
    let g = c.in-Some-find_step._b.now.terms in
    let s : Step = c.in-Some-find_step.step in
    let tails_is = c.requires.tails ∙ ap₂ (λ (q : Ring) (k : ℕ). tail_columns q k (terms_of c.args.basis.now)) (sym c.ring-ring.ensures) (sym c.length-rows.ensures) in
    let at = step_tail r n members all h c.take_at.new.buckets c.turns.steps.items c.turns.work s g c.in-Some-find_step.ensures.found c.in-Some-find_step.ensures.proper c.vars-vars.ensures.within x c.args.tails.now tails_is in
    tail_over r n members all h c.take_at.new.buckets c.turns.steps.items c.turns.work s g c.in-Some-find_step.ensures.found c.in-Some-find_step.ensures.proper c.vars-vars.ensures.within x c.index-tails-step.result (c.index-tails-step.is ∙ at.here c.index-tails-step.result)

pub subtract-requires-clause-long : goal.subtract-requires-clause-long
subtract-requires-clause-long c =
    let r = c.ring-ring.result in
    let n = c.length-rows.result in
    let members = terms_of c.args.basis.now in
    let all = ahead c.args.steps.items (reduced c.ring-ring.result (terms_of c.args.basis.now) c.args.work.now c.args.first.now.terms) in
    let h : VTerm = record { component = c.turns.at + 1; mono = c.in-Some.t.mono; coeff = c.in-Some.t.coeff } in
    let x = long_head r n members all c.turns.buckets c.take_at.new.buckets c.turns.steps.items c.turns.work c.turns.at c.in-Some.t h refl c.take_at.ensures.count c.in-Some.ensures.some c.turns.invariant.0 in
    let g = c.in-Some-find_step._b.now.terms in
    let s : Step = c.in-Some-find_step.step in
    let tails_is = c.requires.tails ∙ ap₂ (λ (q : Ring) (k : ℕ). tail_columns q k (terms_of c.args.basis.now)) (sym c.ring-ring.ensures) (sym c.length-rows.ensures) in
    let at = step_tail r n members all h c.take_at.new.buckets c.turns.steps.items c.turns.work s g c.in-Some-find_step.ensures.found c.in-Some-find_step.ensures.proper c.vars-vars.ensures.within x c.args.tails.now tails_is in
    tail_long r n members all h c.take_at.new.buckets c.turns.steps.items c.turns.work s g c.in-Some-find_step.ensures.found c.in-Some-find_step.ensures.proper c.vars-vars.ensures.within x c.index-tails-step.result (c.index-tails-step.is ∙ at.here c.index-tails-step.result)

pub returns-in-Err-clause-follows : goal.returns-in-Err-clause-follows
returns-in-Err-clause-follows c =
    let r = c.ring-ring.result in
    let n = c.length-rows.result in
    let members = terms_of c.args.basis.now in
    let all = ahead c.args.steps.items (reduced c.ring-ring.result (terms_of c.args.basis.now) c.args.work.now c.args.first.now.terms) in
    let h : VTerm = record { component = c.turns.at + 1; mono = c.in-Some.t.mono; coeff = c.in-Some.t.coeff } in
    let x = long_head r n members all c.turns.buckets c.take_at.new.buckets c.turns.steps.items c.turns.work c.turns.at c.in-Some.t h refl c.take_at.ensures.count c.in-Some.ensures.some c.turns.invariant.0 in
    let g = c.in-Some-find_step._b.now.terms in
    let s : Step = c.in-Some-find_step.step in
    let tails_is = c.requires.tails ∙ ap₂ (λ (q : Ring) (k : ℕ). tail_columns q k (terms_of c.args.basis.now)) (sym c.ring-ring.ensures) (sym c.length-rows.ensures) in
    let at = step_tail r n members all h c.take_at.new.buckets c.turns.steps.items c.turns.work s g c.in-Some-find_step.ensures.found c.in-Some-find_step.ensures.proper c.vars-vars.ensures.within x c.args.tails.now tails_is in
    subst (λ (d : Ended Reduced). Follows reduction_value (Err c.in-Err.stop) c.args.work.now c.spend.new.self d)
    (ap (λ (q : Ring). ahead c.args.steps.items (reduced q (terms_of c.args.basis.now) c.args.work.now c.args.first.now.terms)) c.ring-ring.ensures)
    (stopped reduction_value c.in-Err.stop c.args.work.now c.spend.new.self all (λ e. c.in-Err.ensures.paid (ap Err e))
    (λ e. long_exceeded r n members all h c.take_at.new.buckets c.turns.steps.items c.turns.work s g c.in-Some-find_step.ensures.found c.in-Some-find_step.ensures.proper c.vars-vars.ensures.within x c.spend.new.self c.index-tails-step.result c.if-not-spend.ensures
    (c.index-tails-step.is ∙ at.here c.index-tails-step.result) (c.in-Err.ensures.exponent (ap Err e)))
    (spent_now c.turns.work c.spend.new.self c.args.work.now c.if-not-spend.ensures c.turns.invariant.1)
    (long_leaves r n members all h c.take_at.new.buckets c.turns.steps.items c.turns.work c.spend.new.self s g c.in-Some-find_step.ensures.found c.if-not-spend.ensures x))

pub returns-in_err-push-clause-follows : goal.returns-in_err-push-clause-follows
returns-in_err-push-clause-follows c =
    let r = c.ring-ring.result in
    let n = c.length-rows.result in
    let members = terms_of c.args.basis.now in
    let all = ahead c.args.steps.items (reduced c.ring-ring.result (terms_of c.args.basis.now) c.args.work.now c.args.first.now.terms) in
    let h : VTerm = record { component = c.turns.at + 1; mono = c.in-Some.t.mono; coeff = c.in-Some.t.coeff } in
    let x = long_head r n members all c.turns.buckets c.take_at.new.buckets c.turns.steps.items c.turns.work c.turns.at c.in-Some.t h refl c.take_at.ensures.count c.in-Some.ensures.some c.turns.invariant.0 in
    let g = c.in-Some-find_step._b.now.terms in
    let s : Step = c.in-Some-find_step.step in
    wanted reduction_value c.from_residual-in_err-push.result c.args.work.now c.spend.new.self (ahead c.args.steps.items (reduced c.args.first.now.ring members c.args.work.now c.args.first.now.terms)) c.from_residual-in_err-push.ensures
    (spent_now c.turns.work c.spend.new.self c.args.work.now c.if-not-spend.ensures c.turns.invariant.1)
    (subst (λ (q : Ring). (ahead c.args.steps.items (reduced q members c.args.work.now c.args.first.now.terms)).left ≤ c.spend.new.self) c.ring-ring.ensures
    (long_leaves r n members all h c.take_at.new.buckets c.turns.steps.items c.turns.work c.spend.new.self s g c.in-Some-find_step.ensures.found c.if-not-spend.ensures x))

pub returns-in_err-rest-clause-follows : goal.returns-in_err-rest-clause-follows
returns-in_err-rest-clause-follows c =
    let r = c.ring-ring.result in
    let n = c.length-rows.result in
    let members = terms_of c.args.basis.now in
    let all = ahead c.args.steps.items (reduced c.ring-ring.result (terms_of c.args.basis.now) c.args.work.now c.args.first.now.terms) in
    let h : VTerm = record { component = c.turns.at + 1; mono = c.in-Some.t.mono; coeff = c.in-Some.t.coeff } in
    let x = long_head r n members all c.turns.buckets c.take_at.new.buckets c.turns.steps.items c.turns.work c.turns.at c.in-Some.t h refl c.take_at.ensures.count c.in-Some.ensures.some c.turns.invariant.0 in
    wanted reduction_value c.from_residual.result c.args.work.now c.turns.work (ahead c.args.steps.items (reduced c.args.first.now.ring members c.args.work.now c.args.first.now.terms)) c.from_residual.ensures
    c.turns.invariant.1
    (subst (λ (q : Ring). (ahead c.args.steps.items (reduced q members c.args.work.now c.args.first.now.terms)).left ≤ c.turns.work) c.ring-ring.ensures
    (leaves r members c.turns.steps.items c.turns.work (h ∷ x.tail) all x.run))

pub turns-preserved : goal.turns-preserved
turns-preserved c =
    let r = c.ring-ring.result in
    let n = c.length-rows.result in
    let members = terms_of c.args.basis.now in
    let all = ahead c.args.steps.items (reduced c.ring-ring.result (terms_of c.args.basis.now) c.args.work.now c.args.first.now.terms) in
    let h : VTerm = record { component = c.turns.at + 1; mono = c.in-Some.t.mono; coeff = c.in-Some.t.coeff } in
    let x = long_head r n members all c.turns.buckets c.take_at.new.buckets c.turns.steps.items c.turns.work c.turns.at c.in-Some.t h refl c.take_at.ensures.count c.in-Some.ensures.some c.turns.invariant.0 in
    let g = c.in-Some-find_step._b.now.terms in
    let s : Step = c.in-Some-find_step.step in
    let tails_is = c.requires.tails ∙ ap₂ (λ (q : Ring) (k : ℕ). tail_columns q k (terms_of c.args.basis.now)) (sym c.ring-ring.ensures) (sym c.length-rows.ensures) in
    let at = step_tail r n members all h c.take_at.new.buckets c.turns.steps.items c.turns.work s g c.in-Some-find_step.ensures.found c.in-Some-find_step.ensures.proper c.vars-vars.ensures.within x c.args.tails.now tails_is in (
      long_turn r n members all h c.take_at.new.buckets c.turns.steps.items c.turns.work s g c.in-Some-find_step.ensures.found c.in-Some-find_step.ensures.proper c.vars-vars.ensures.within x c.subtract.new.buckets c.push.new.self.items c.spend.new.self c.turns.at c.index-tails-step.result c.if-not-spend.ensures
          c.in_ok-push.ensures.items (omega arith) c.subtract.ensures.count (c.index-tails-step.is ∙ at.here c.index-tails-step.result) c.in-Ok.ensures.fits c.in-Ok.ensures.sum,
      spent_now c.turns.work c.spend.new.self c.args.work.now c.if-not-spend.ensures c.turns.invariant.1,
    )
