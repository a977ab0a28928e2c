use Rattle.std.proofs.Common.{List, sym, subst, refl, arith}
use Rattle.fm_poly.specs.Polys.{PolyValue}
use Rattle.fm_run.specs.Runs.{ended_with}
use Rattle.fm_run.proofs.Calls.{wanted}
use Rattle.fm_complete.specs.Divisions.{terms_of}
use Rattle.fm_complete.specs.Reductions.{reduced}
use Rattle.fm_complete.specs.Remainders.{remainder_value, remainder_of}
use Rattle.fm_complete.specs.Spread.{IsFront, tail_columns}
use Rattle.fm_complete.proofs.Spending.{reduced_spends}
use Rattle.fm_complete.proofs.remainder.reduced_rest.Goals as goal

pub returns-in_err-heads-clause-follows : goal.returns-in_err-heads-clause-follows
returns-in_err-heads-clause-follows c =
    let v = c.args.v.now in
    let ms = terms_of c.args.basis.now in
    wanted remainder_value c.from_residual.result c.args.work.now c.args.work.now (ended_with remainder_of (reduced v.ring ms c.args.work.now v.terms)) c.from_residual.ensures (omega arith) (reduced_spends v.ring ms v.terms c.args.work.now)

pub rest_by-requires-clause-tails : goal.rest_by-requires-clause-tails
rest_by-requires-clause-tails c =
    let v = c.args.v.now in
    let all = tail_columns v.ring v.rows (terms_of c.args.basis.now) in
    subst (λ (xs : List (List PolyValue)). IsFront xs all) (sym c.new-tails.ensures.items) (all, refl)
