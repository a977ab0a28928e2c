use Rattle.std.proofs.Common.{length, refl, sym, ap, ◌∙◌}
use Rattle.fm_report.specs.Sheets.{numbered}
use Rattle.fm_judge.specs.Places as places
use Rattle.fm_pres.specs.Tables.{parts_in, part_at}
use Rattle.fm_pres.specs.Blocks.{block_of, parts_at}
use Rattle.fm_conditions.specs.Meanings.{logs_of}
use Rattle.fm_lines.specs.declared.row.Row.{Row}
use Rattle.fm_places.specs.declared.place.Place.TheVariants as program
use Rattle.fm_places.specs.Meanings.{goal_of}
use Rattle.fm_claims.specs.Named.{filled_by}
use Rattle.fm_claims.proofs.FurtherFollowed.{parts_count, same_claim_ok}
use Rattle.fm_claims.proofs.FurtherPlaced as placed
use Rattle.fm_claims.proofs.FurtherRows as others
use Rattle.fm_claims.proofs.linking.onto.Goals as goal

pub returns-in_default : goal.returns-in_default
returns-in_default c = λ q ls g t.
    let ps = parts_in c.args.table.now in let b = c.args.block.now in let r = q.ring in let G = goal_of q ps g in let B = block_of ps b in let L = logs_of ps ls in
    let Phi = part_at ps c.args.phi in let F = parts_at ps c.args.found.now in
    record { claim = others.not_onto r G B ps L t Phi F c.args.row.now c.in_default.not-Onto; sound = tt }

pub returns-then-r-found : goal.returns-then-r-found
returns-then-r-found c = λ q ls g t.
    let ps = parts_in c.args.table.now in let b = c.args.block.now in let r = q.ring in let G = goal_of q ps g in let B = block_of ps b in let L = logs_of ps ls in
    let Phi = part_at ps c.args.phi in let F = parts_at ps c.args.found.now in
    record {
      claim = ap (λ (x : Row). placed.At r G B ps L (places.onto t Phi F) x) c.in-Onto.is ∙ placed.off_onto r G B ps L t Phi F c.in-Onto.r c.in-Onto.w
          (λ z. c.if-r-found.true (z ∙ parts_count ps c.args.found.now));
      sound = tt;
    }

pub returns : goal.returns
returns c = λ q ls g t.
    let ps = parts_in c.args.table.now in let b = c.args.block.now in let r = q.ring in let G = goal_of q ps g in let B = block_of ps b in let L = logs_of ps ls in
    let Phi = part_at ps c.args.phi in let F = parts_at ps c.args.found.now in
    let w = c.in-Onto.w in
    let said = filled_by r (placed.link_of r G B ps L Phi F (length c.args.found.now)) (numbered ps w) in
    same_claim_ok r ps ls g.aim c.claim_if.result _ (placed.onto_says r G B ps L Phi F w) said places.end program.End
    (ap (λ (x : Row). placed.At r G B ps L (places.onto t Phi F) x) c.in-Onto.is ∙ placed.on_onto r G B ps L t Phi F c.in-Onto.r w (c.if-r-found.false ∙ sym (parts_count ps c.args.found.now)))
    (ap (λ k. filled_by r (placed.link_of r G B ps L Phi F k) (numbered ps w)) (parts_count ps c.args.found.now))
    refl
    (c.claim_if.ensures r ps ls g.aim said (c.in_ok-condition.ensures r G ls) tt)
