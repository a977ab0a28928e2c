use Rattle.std.proofs.Common.{◌≡◌, length, inl, inr, ◌∙◌, arith}
use Rattle.fm_complete.specs.Divisions.{terms_of}
use Rattle.fm_complete.proofs.Standing.{length_terms}
use Rattle.fm_claims.proofs.Numbering.{number_first, number_missing}
use Rattle.fm_claims.proofs.numbers.are_members.Goals.{then-k-eq0-via-then-k-eq0, then-k-eq0-via-else-k-eq0+then-k-count}
use Rattle.fm_claims.proofs.numbers.are_members.Goals as goal

pub returns-then-k-eq0 : goal.returns-then-k-eq0
returns-then-k-eq0 c = λ ps.
    let members = c.args.log.now.members.items in
    let size : length (terms_of members) ≡ c.len-count.result = omega (arith, length_terms members, c.len-count.ensures, c.args.log.now.members.ok) in
    elim c.then-k-eq0.branch [
      | then-k-eq0-via-then-k-eq0 w ↦
          number_missing (terms_of members) c.in-Some.k.now c.numbers.left.now c.in-Some.later.now c.len-count.result c.in-Some.ensures.cases.0 size (inl w.if-k-eq0.true)
          ∙ c.numbers.invariant
      | then-k-eq0-via-else-k-eq0+then-k-count w ↦
          number_missing (terms_of members) c.in-Some.k.now c.numbers.left.now c.in-Some.later.now c.len-count.result c.in-Some.ensures.cases.0 size (inr w.if-k-count.true)
          ∙ c.numbers.invariant
    ]

pub numbers-preserved : goal.numbers-preserved
numbers-preserved c =
    let members = c.args.log.now.members.items in
    let size : length (terms_of members) ≡ c.len-count.result = omega (arith, length_terms members, c.len-count.ensures, c.args.log.now.members.ok) in
    number_first (terms_of members) c.in-Some.k.now c.numbers.left.now c.in-Some.later.now c.len-count.result c.in-Some.ensures.cases.0 size
    (omega (arith, c.if-k-eq0.false)) c.if-k-count.false ∙ c.numbers.invariant
