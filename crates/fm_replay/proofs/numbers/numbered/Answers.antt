use Rattle.std.proofs.Common.{arith}
use Rattle.fm_complete.proofs.Numbered.{numbered}
use Rattle.fm_replay.proofs.VectorNumbers.{no_zero, beyond, there, numbered_shape}
use Rattle.fm_replay.proofs.numbers.numbered.Goals as goal
use Rattle.fm_replay.proofs.numbers.numbered.Goals.{then-k-eq0-via-then-k-eq0, then-k-eq0-via-else-k-eq0+then-k-vectors}

pub returns-then-k-eq0-clause-there : goal.returns-then-k-eq0-clause-there
returns-then-k-eq0-clause-there c =
    elim c.then-k-eq0.branch [
      | then-k-eq0-via-then-k-eq0 w ↦ (let h = w.if-k-eq0.true in no_zero c.args.vectors.now c.args.k (omega (arith, h)))
      | then-k-eq0-via-else-k-eq0+then-k-vectors w ↦ (let h = w.if-k-vectors.true in beyond c.args.vectors.now c.args.k (omega (arith, h)))
    ]

pub returns-clause-there : goal.returns-clause-there
returns-clause-there c =
    let low = c.if-k-eq0.false in
    let high = c.if-k-vectors.false in
    there c.args.vectors.now c.args.k (omega (arith, low)) (omega (arith, high))

pub returns-clause-terms : goal.returns-clause-terms
returns-clause-terms c =
    let low = c.if-k-eq0.false in
    numbered c.args.k c.args.vectors.now c.split_at.result.1.now c.in-Some.v.now c.in-Some._later.now (omega (arith, low)) c.split_at.ensures.back c.in-Some.ensures.cases.0

pub returns-clause-shape : goal.returns-clause-shape
returns-clause-shape c =
    numbered_shape c.args.k c.args.vectors.now c.split_at.result.1.now c.in-Some.v.now c.in-Some._later.now c.split_at.ensures.back c.in-Some.ensures.cases.0 c.args.ring c.args.rows c.requires
