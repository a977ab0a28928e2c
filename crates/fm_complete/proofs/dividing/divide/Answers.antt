use Rattle.std.proofs.Common.{List, sym, subst, refl, arith}
use Rattle.fm_poly.specs.Polys.{PolyValue}
use Rattle.fm_run.proofs.Calls.{wanted}
use Rattle.fm_complete.specs.Divisions.{division_value, division_run, terms_of}
use Rattle.fm_complete.specs.Spread.{IsFront, tail_columns}
use Rattle.fm_complete.proofs.Spending.{paid_left, paid_leaves}
use Rattle.fm_complete.proofs.dividing.divide.Goals as goal

pub returns-in_err-by-clause-follows : goal.returns-in_err-by-clause-follows
returns-in_err-by-clause-follows c =
    let v = c.args.v.now in
    let h = paid_left v.ring (terms_of c.args.basis.now) v.terms c.args.work.now c.spend.new.self c.reduce.new.work _ c.if-not-spend.ensures c.in_ok-reduction.ensures.follows in
    wanted division_value c.from_residual-in_err-by.result c.args.work.now c.reduce.new.work (division_run c.args.basis.now v c.args.work.now) c.from_residual-in_err-by.ensures (let k = h.0 in omega (arith, k)) h.1

pub returns-in_err-quotients-clause-follows : goal.returns-in_err-quotients-clause-follows
returns-in_err-quotients-clause-follows c =
    let v = c.args.v.now in
    let h = paid_left v.ring (terms_of c.args.basis.now) v.terms c.args.work.now c.spend.new.self c.reduce.new.work _ c.if-not-spend.ensures c.in_ok-reduction.ensures.follows in
    wanted division_value c.from_residual-in_err-quotients.result c.args.work.now c.reduce.new.work (division_run c.args.basis.now v c.args.work.now) c.from_residual-in_err-quotients.ensures (let k = h.0 in omega (arith, k)) h.1

pub returns-in_err-by-clause-paid : goal.returns-in_err-by-clause-paid
returns-in_err-by-clause-paid c = λ e. (paid_left c.args.v.now.ring (terms_of c.args.basis.now) c.args.v.now.terms c.args.work.now c.spend.new.self c.reduce.new.work _ c.if-not-spend.ensures c.in_ok-reduction.ensures.follows).0

pub returns-in_err-quotients-clause-paid : goal.returns-in_err-quotients-clause-paid
returns-in_err-quotients-clause-paid c = λ e. (paid_left c.args.v.now.ring (terms_of c.args.basis.now) c.args.v.now.terms c.args.work.now c.spend.new.self c.reduce.new.work _ c.if-not-spend.ensures c.in_ok-reduction.ensures.follows).0

pub returns-in_err-heads-clause-follows : goal.returns-in_err-heads-clause-follows
returns-in_err-heads-clause-follows c =
    let v = c.args.v.now in
    let ms = terms_of c.args.basis.now in
    let paid = c.if-not-spend.ensures in
    wanted division_value c.from_residual.result c.args.work.now c.spend.new.self (division_run c.args.basis.now v c.args.work.now) c.from_residual.ensures (omega (arith, paid)) (paid_leaves v.ring ms v.terms c.args.work.now c.spend.new.self paid)

pub reduce-requires-clause-tails : goal.reduce-requires-clause-tails
reduce-requires-clause-tails c =
    let v = c.args.v.now in
    let all = tail_columns v.ring v.rows (terms_of c.args.basis.now) in
    subst (λ (xs : List (List PolyValue)). IsFront xs all) (sym c.new-tails.ensures.items) (all, refl)
