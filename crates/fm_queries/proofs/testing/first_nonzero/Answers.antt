use Rattle.std.proofs.Common.{sym, arith}
use Rattle.fm_mat.specs.Matrices.{column_meaning}
use Rattle.fm_plan.specs.Queries.{first_nonzero}
use Rattle.fm_queries.proofs.Nonzero.{found, passed}
use Rattle.fm_queries.proofs.testing.first_nonzero.Goals as goal

pub returns-then-not-is_empty : goal.returns-then-not-is_empty
returns-then-not-is_empty c = λ r over.
    let f = c.index-entries-k.result in
    let below = c.loop-k-test.true in
    let rows = c.requires in
    sym (found r c.args.entries.now c.loop-k.k f over (omega (arith, below, rows)) c.index-entries-k.is c.terms.ensures.canonical (first_nonzero r 1 (column_meaning r c.args.entries.now)) (c.loop-k.invariant r over)
    (cc (c.terms.ensures.same, c.is_empty.ensures, c.if-not-is_empty.true)))

pub loop-k-preserved : goal.loop-k-preserved
loop-k-preserved c = λ r over.
    let f = c.index-entries-k.result in
    let below = c.loop-k-test.true in
    let rows = c.requires in
    passed r c.args.entries.now c.loop-k.k f over (omega (arith, below, rows)) c.index-entries-k.is c.terms.ensures.canonical (first_nonzero r 1 (column_meaning r c.args.entries.now)) (c.loop-k.invariant r over)
    (cc (c.terms.ensures.same, c.is_empty.ensures, c.if-not-is_empty.false))
