use Rattle.std.proofs.Common.{◌≡◌, ℕ, suc, true, List, [], ◌∷◌, ◌++◌, length, refl, sym, ap, ◌∙◌, subst, arith}
use Rattle.std.specs.Prelude.{IfOk}
use Rattle.fm_report.specs.Parts.{Part}
use Rattle.fm_parts.specs.Replays.{are_numbers}
use Rattle.fm_judge.specs.Places as places
use Rattle.fm_pres.specs.Tables.{parts_in, part_at}
use Rattle.fm_pres.specs.Blocks.{block_of, parts_at}
use Rattle.fm_conditions.specs.Meanings.{logs_of}
use Rattle.fm_lines.specs.declared.row.Row.{Row}
use Rattle.fm_places.specs.declared.place.Place.TheVariants as program
use Rattle.fm_places.specs.Meanings.{goal_of}
use Rattle.fm_claims.specs.declared.claimed.Claimed.TheVariants.{Reference}
use Rattle.fm_claims.specs.Following.{Follows, FollowsIn}
use Rattle.fm_claims.proofs.FurtherFollowed.{parts_count, parts_more, numbers_more, same_claim_ok}
use Rattle.fm_claims.proofs.FurtherPlaced as placed
use Rattle.fm_claims.proofs.FurtherRows as others
use Rattle.fm_claims.proofs.Followed.{numbers_in}
use Rattle.fm_claims.proofs.linking.open_link.Goals as goal

pub returns-in_default : goal.returns-in_default
returns-in_default c = λ q g.
    let ls = c.args.logs.now in let ps = parts_in c.args.table.now in let b = c.args.block.now in let r = q.ring in let G = goal_of q ps g in let B = block_of ps b in let L = logs_of ps ls in
    let Phi = part_at ps c.args.phi in let F = parts_at ps c.args.found.items in
    record { claim = others.not_open_link r G B ps L c.args.t Phi F c.args.row.now c.in_default.not-Link c.in_default.not-Closes; sound = tt }

pub returns-then-r-len : goal.returns-then-r-len
returns-then-r-len c = λ q g.
    let ls = c.args.logs.now in let ps = parts_in c.args.table.now in let b = c.args.block.now in let r = q.ring in let G = goal_of q ps g in let B = block_of ps b in let L = logs_of ps ls in
    let Phi = part_at ps c.args.phi in let F = parts_at ps c.args.found.items in
    let count : length F ≡ c.len.result = parts_count ps c.args.found.items ∙ sym c.args.found.ok.0 ∙ sym c.len.ensures in
    record {
      claim = ap (λ (x : Row). placed.At r G B ps L (places.open_link c.args.t Phi F) x) c.in-Link.is ∙ placed.off_open_link r G B ps L c.args.t Phi F c.in-Link.r c.in-Link.k c.in-Link.shown
          (λ z. c.if-r-len.true (omega (arith, z, count)));
      sound = tt;
    }

pub returns-in_default-part : goal.returns-in_default-part
returns-in_default-part c = λ q g.
    let ls = c.args.logs.now in let ps = parts_in c.args.table.now in let b = c.args.block.now in let r = q.ring in let G = goal_of q ps g in let B = block_of ps b in let L = logs_of ps ls in
    let Phi = part_at ps c.args.phi in let F = parts_at ps c.args.found.items in
    let count : length F ≡ c.len.result = parts_count ps c.args.found.items ∙ sym c.args.found.ok.0 ∙ sym c.len.ensures in
    let is = c.if-r-len.false in let n : c.in-Link.r ≡ suc (length F) = omega (arith, is, count) in
    let e = ap (λ (x : Row). placed.At r G B ps L (places.open_link c.args.t Phi F) x) c.in-Link.is ∙ placed.no_open_link r G B ps L c.args.t Phi F c.in-Link.r c.in-Link.k c.in-Link.shown n c.in_default-part.ensures.part in
    subst (λ x. Follows r ps ls g.aim x Reference) (sym e) (record { claim = refl; sound = tt })

pub returns-in_ok-found-in-Link : goal.returns-in_ok-found-in-Link
returns-in_ok-found-in-Link c = λ q g.
    let ls = c.args.logs.now in let ps = parts_in c.args.table.now in let b = c.args.block.now in let r = q.ring in let G = goal_of q ps g in let B = block_of ps b in let L = logs_of ps ls in
    let Phi = part_at ps c.args.phi in let F = parts_at ps c.args.found.items in
    let count : length F ≡ c.len.result = parts_count ps c.args.found.items ∙ sym c.args.found.ok.0 ∙ sym c.len.ensures in
    let P = part_at ps c.in-Some.k in
    let is = c.if-r-len.false in let n : c.in-Link.r ≡ suc (length F) = omega (arith, is, count) in
    let more : are_numbers ps c.in_ok-found-in-Link.found.items ≡ true = numbers_in ps _ _ c.in_ok-found-in-Link.ensures (numbers_more ps c.args.found.items c.in-Some.k c.requires.found c.in-Some.ensures.there) in
    same_claim_ok r ps ls g.aim c.claim_if.result _ (placed.link_says r G B ps L Phi F P c.in-Link.shown) (placed.link_says r G B ps L Phi (parts_at ps c.deref.result.now) P c.in-Link.shown)
    (places.open_link c.args.t Phi (F ++ P ∷ [])) (program.OpenLink c.args.t c.args.phi c.in_ok-found-in-Link.found)
    (ap (λ (x : Row). placed.At r G B ps L (places.open_link c.args.t Phi F) x) c.in-Link.is ∙ placed.on_open_link r G B ps L c.args.t Phi F c.in-Link.r c.in-Link.k c.in-Link.shown P n c.in-Some.ensures.part)
    (ap (λ (xs : List ℕ). placed.link_says r G B ps L Phi (parts_at ps xs) P c.in-Link.shown) (sym c.deref.ensures.value))
    (ap (λ (xs : List Part). places.open_link c.args.t Phi xs) (ap (parts_at ps) c.in_ok-found-in-Link.ensures ∙ parts_more ps c.args.found.items c.in-Some.k))
    (c.claim_if.ensures r ps ls g.aim (placed.link_says r G B ps L Phi (parts_at ps c.deref.result.now) P c.in-Link.shown)
    (c.in_ok-condition-in-Link.ensures r G c.requires.block c.requires.phi (numbers_in ps _ _ c.deref.ensures.value c.requires.found) c.in-Some.ensures.there)
    (c.requires.phi, more))

pub returns-in-Closes : goal.returns-in-Closes
returns-in-Closes c = λ q g.
    let ps = parts_in c.args.table.now in
    subst (λ (x : Row). IfOk c.closes.result (FollowsIn q ps c.args.logs.now g c.args.block.now (program.OpenLink c.args.t c.args.phi c.args.found) x)) (sym c.in-Closes.is) (c.closes.ensures q c.args.logs.now g)
