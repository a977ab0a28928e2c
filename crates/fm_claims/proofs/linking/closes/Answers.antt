use Rattle.std.proofs.Common.{◌≡◌, ℕ, ◌-◌, ◌<◌, List, length, refl, sym, ap, ◌∙◌, arith}
use Rattle.std.proofs.lemmas.Bool.{eqb-true, eqb-false}
use Rattle.fm_report.specs.Sheets.{numbered}
use Rattle.fm_judge.specs.Places as places
use Rattle.fm_pres.specs.Tables.{parts_in, part_at}
use Rattle.fm_pres.specs.Blocks.{block_of, parts_at}
use Rattle.fm_conditions.specs.Meanings.{logs_of}
use Rattle.fm_places.specs.declared.place.Place.TheVariants as program
use Rattle.fm_places.specs.Meanings.{goal_of}
use Rattle.fm_claims.specs.Named.{settled_by}
use Rattle.fm_claims.proofs.FurtherFollowed.{parts_count, same_claim_ok}
use Rattle.fm_claims.proofs.FurtherPlaced as placed
use Rattle.fm_claims.proofs.Followed.{numbers_in}
use Rattle.fm_claims.proofs.linking.closes.Goals as goal

pub returns-then-is_empty : goal.returns-then-is_empty
returns-then-is_empty c = λ q ls g.
    let ps = parts_in c.args.table.now in let b = c.args.block.now in let r = q.ring in let G = goal_of q ps g in let B = block_of ps b in let L = logs_of ps ls in
    let Phi = part_at ps c.args.phi in let F = parts_at ps c.args.found.items in
    let z : length F ≡ 0 = parts_count ps c.args.found.items ∙ sym c.args.found.ok.0 ∙ eqb-true _ _ (sym c.is_empty.ensures ∙ c.if-is_empty.true) in
    record { claim = placed.no_closes r G B ps L c.args.t Phi F c.args.r c.args.w z; sound = tt }

pub returns-then-r-len : goal.returns-then-r-len
returns-then-r-len c = λ q ls g.
    let ps = parts_in c.args.table.now in let b = c.args.block.now in let r = q.ring in let G = goal_of q ps g in let B = block_of ps b in let L = logs_of ps ls in
    let Phi = part_at ps c.args.phi in let F = parts_at ps c.args.found.items in
    let n : length F ≡ c.len.result = parts_count ps c.args.found.items ∙ sym c.args.found.ok.0 ∙ sym c.len.ensures in
    let some = eqb-false _ _ (sym c.is_empty.ensures ∙ c.if-is_empty.false) in
    let more : 0 < length F = omega (arith, n, c.len.ensures, some) in
    record { claim = placed.off_closes r G B ps L c.args.t Phi F c.args.r c.args.w more (λ z. c.if-r-len.true (z ∙ ap (λ k. k - 1) n)); sound = tt }

pub returns : goal.returns
returns c = λ q ls g.
    let ps = parts_in c.args.table.now in let b = c.args.block.now in let r = q.ring in let G = goal_of q ps g in let B = block_of ps b in let L = logs_of ps ls in
    let Phi = part_at ps c.args.phi in let F = parts_at ps c.args.found.items in
    let n : length F ≡ c.len.result = parts_count ps c.args.found.items ∙ sym c.args.found.ok.0 ∙ sym c.len.ensures in
    let some = eqb-false _ _ (sym c.is_empty.ensures ∙ c.if-is_empty.false) in
    let more : 0 < length F = omega (arith, n, c.len.ensures, some) in
    let d = c.deref.ensures.value in
    let cs = λ (xs : List ℕ). settled_by (placed.link_of r G B ps L Phi (parts_at ps xs) (length xs - 1)) (placed.link_of r G B ps L Phi (parts_at ps xs) (length xs)) (numbered ps c.args.w) in
    same_claim_ok r ps ls g.aim c.claim_if.result _ (placed.closes_says r G B ps L Phi F c.args.w) (cs c.deref.result.now) (places.never_onto c.args.t Phi F) (program.NeverOnto c.args.t c.args.phi c.args.found)
    (placed.on_closes r G B ps L c.args.t Phi F c.args.r c.args.w more (c.if-r-len.false ∙ ap (λ k. k - 1) (sym n)))
    (ap (λ k. settled_by (placed.link_of r G B ps L Phi F (k - 1)) (placed.link_of r G B ps L Phi F k) (numbered ps c.args.w)) (parts_count ps c.args.found.items) ∙ ap cs (sym d))
    refl
    (c.claim_if.ensures r ps ls g.aim (cs c.deref.result.now) (c.in_ok-condition.ensures r G ls c.requires.block c.requires.phi (numbers_in ps _ _ d c.requires.found)) (c.requires.phi, c.requires.found))
