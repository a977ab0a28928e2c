use Rattle.std.proofs.Common.{◌≡◌, ℕ, ◌-◌, List, length, refl, sym, ap, ◌∙◌}
use Rattle.fm_judge.specs.Places as places
use Rattle.fm_judge.specs.Claims.{is_short}
use Rattle.fm_pres.specs.Tables.{parts_in, part_at}
use Rattle.fm_pres.specs.Blocks.{block_of, parts_at}
use Rattle.fm_conditions.specs.Meanings.{logs_of}
use Rattle.fm_lines.specs.declared.row.Row.{Row}
use Rattle.fm_places.specs.declared.place.Place.TheVariants as program
use Rattle.fm_places.specs.Meanings.{goal_of}
use Rattle.fm_claims.proofs.FurtherFollowed.{parts_count, same_claim_ok}
use Rattle.fm_claims.proofs.FurtherPlaced as placed
use Rattle.fm_claims.proofs.FurtherRows as others
use Rattle.fm_claims.proofs.Followed.{numbers_in}
use Rattle.fm_claims.proofs.linking.short.Goals as goal

pub returns-in_default : goal.returns-in_default
returns-in_default c = λ q g.
    let ls = c.args.logs.now in let ps = parts_in c.args.table.now in let b = c.args.block.now in let r = q.ring in let G = goal_of q ps g in let B = block_of ps b in let L = logs_of ps ls in
    let Phi = part_at ps c.args.phi in let F = parts_at ps c.args.found.items in
    record { claim = others.not_short r G B ps L c.args.t Phi F c.args.row.now c.in_default.not-Short; sound = tt }

pub returns-then-r-saturating_sub : goal.returns-then-r-saturating_sub
returns-then-r-saturating_sub c = λ q g.
    let ls = c.args.logs.now in let ps = parts_in c.args.table.now in let b = c.args.block.now in let r = q.ring in let G = goal_of q ps g in let B = block_of ps b in let L = logs_of ps ls in
    let Phi = part_at ps c.args.phi in let F = parts_at ps c.args.found.items in
    let n : length F - 1 ≡ c.saturating_sub.result = ap (λ k. k - 1) (parts_count ps c.args.found.items ∙ sym c.args.found.ok.0 ∙ sym c.len.ensures) ∙ sym c.saturating_sub.ensures in
    record {
      claim = ap (λ (x : Row). placed.At r G B ps L (places.short c.args.t Phi F) x) c.in-Short.is ∙ placed.off_short r G B ps L c.args.t Phi F c.in-Short.r c.in-Short.shown (λ z. c.if-r-saturating_sub.true (z ∙ n));
      sound = tt;
    }

pub returns : goal.returns
returns c = λ q g.
    let ls = c.args.logs.now in let ps = parts_in c.args.table.now in let b = c.args.block.now in let r = q.ring in let G = goal_of q ps g in let B = block_of ps b in let L = logs_of ps ls in
    let Phi = part_at ps c.args.phi in let F = parts_at ps c.args.found.items in
    let n : length F - 1 ≡ c.saturating_sub.result = ap (λ k. k - 1) (parts_count ps c.args.found.items ∙ sym c.args.found.ok.0 ∙ sym c.len.ensures) ∙ sym c.saturating_sub.ensures in
    let s = c.in-Short.shown in
    let d = c.deref.ensures.value in
    let cs = λ (xs : List ℕ). is_short r G B ps L Phi (parts_at ps xs) (length xs - 1) s.log s.column s.by.items in
    same_claim_ok r ps ls g.aim c.claim_if.result _ (placed.short_says r G B ps L Phi F s) (cs c.deref.result.now) (places.onto c.args.t Phi F) (program.Onto c.args.t c.args.phi c.args.found)
    (ap (λ (x : Row). placed.At r G B ps L (places.short c.args.t Phi F) x) c.in-Short.is ∙ placed.on_short r G B ps L c.args.t Phi F c.in-Short.r s (c.if-r-saturating_sub.false ∙ sym n))
    (ap (λ k. is_short r G B ps L Phi F (k - 1) s.log s.column s.by.items) (parts_count ps c.args.found.items) ∙ ap cs (sym d))
    refl
    (c.claim_if.ensures r ps ls g.aim (cs c.deref.result.now) (c.in_ok-condition.ensures r G) (c.requires.phi, c.requires.found))

pub falls_short-requires : goal.falls_short-requires
falls_short-requires c = record {
  few_logs = c.requires.few_logs;
  block = c.requires.block;
  phi = c.requires.phi;
  found = numbers_in _ _ _ c.deref.ensures.value c.requires.found;
}
