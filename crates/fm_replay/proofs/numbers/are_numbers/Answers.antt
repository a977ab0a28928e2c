use Rattle.std.proofs.Common.{sym, ap, ◌∙◌, arith}
use Rattle.fm_complete.specs.Divisions.{terms_of}
use Rattle.fm_parts.specs.Replays as definitions
use Rattle.fm_replay.proofs.VectorNumbers.{no_zero, beyond, there, first_missing, first_there}
use Rattle.fm_replay.proofs.numbers.are_numbers.Goals as goal
use Rattle.fm_replay.proofs.numbers.are_numbers.Goals.{then-k-eq0-via-then-k-eq0, then-k-eq0-via-else-k-eq0+then-k-count}

pub returns-then-k-eq0 : goal.returns-then-k-eq0
returns-then-k-eq0 c =
    let vs = c.args.vectors.now in
    let k = c.in-Some.k.now in
    let ks = c.in-Some.later.now in
    sym (sym c.numbers.invariant ∙ ap (definitions.are_numbers (terms_of vs)) c.in-Some.ensures.cases.0 ∙ first_missing vs k ks
    (elim c.then-k-eq0.branch [
      | then-k-eq0-via-then-k-eq0 w ↦ (let h = w.if-k-eq0.true in no_zero vs k (omega (arith, h)))
      | then-k-eq0-via-else-k-eq0+then-k-count w ↦ (let h = w.if-k-count.true in beyond vs k (omega (arith, h)))
    ]))

pub numbers-preserved : goal.numbers-preserved
numbers-preserved c =
    let vs = c.args.vectors.now in
    let k = c.in-Some.k.now in
    let ks = c.in-Some.later.now in
    let low = c.if-k-eq0.false in
    let high = c.if-k-count.false in
    sym (first_there vs k ks (there vs k (omega (arith, low)) (omega (arith, high)))) ∙ ap (definitions.are_numbers (terms_of vs)) (sym c.in-Some.ensures.cases.0) ∙ c.numbers.invariant
