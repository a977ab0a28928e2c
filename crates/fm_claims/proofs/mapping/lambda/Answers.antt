use Rattle.std.proofs.Common.{ℕ, List, [], ◌∷◌, ◌++◌, refl, sym, ap, ◌∙◌, subst}
use Rattle.fm_report.specs.Parts.{Part}
use Rattle.fm_judge.specs.Places as places
use Rattle.fm_pres.specs.Tables.{parts_in, part_at}
use Rattle.fm_pres.specs.Blocks.{block_of, parts_at}
use Rattle.fm_conditions.specs.Meanings.{logs_of}
use Rattle.fm_lines.specs.declared.row.Row.{Row}
use Rattle.fm_places.specs.Meanings.{goal_of}
use Rattle.fm_claims.proofs.FurtherFollowed.{parts_count, parts_more, numbers_more, same_claim_ok}
use Rattle.fm_claims.proofs.FurtherPlaced as placed
use Rattle.fm_claims.proofs.FurtherRows as others
use Rattle.fm_claims.specs.declared.claimed.Claimed.TheVariants.{Reference}
use Rattle.fm_claims.specs.Following.{Follows}
use Rattle.fm_claims.proofs.Followed.{numbers_in}
use Rattle.fm_claims.proofs.mapping.lambda.Goals as goal

pub returns-in_default : goal.returns-in_default
returns-in_default c = λ q ls a.
    let ps = parts_in c.args.table.now in let g = c.args.goal.now in let b = c.args.block.now in let r = q.ring in let G = goal_of q ps g in let B = block_of ps b in let L = logs_of ps ls in
    record { claim = others.not_lambda r G B ps L c.args.t (parts_at ps c.args.identity.items) c.args.row.now c.in_default.not-Lambda; sound = tt }

pub returns-then-j-len : goal.returns-then-j-len
returns-then-j-len c = λ q ls a.
    let ps = parts_in c.args.table.now in let g = c.args.goal.now in let b = c.args.block.now in let r = q.ring in let G = goal_of q ps g in let B = block_of ps b in let L = logs_of ps ls in
    record { claim = ap (λ (x : Row). placed.At r G B ps L (places.lambda c.args.t (parts_at ps c.args.identity.items)) x) c.in-Lambda.is ∙ placed.off_lambda r G B ps L c.args.t (parts_at ps c.args.identity.items) c.in-Lambda.j c.in-Lambda.k (λ z. c.if-j-len.true (z ∙ parts_count ps c.args.identity.items ∙ sym c.args.identity.ok.0 ∙ sym c.len.ensures)); sound = tt }

pub returns-in_default-part : goal.returns-in_default-part
returns-in_default-part c = λ q ls a.
    let ps = parts_in c.args.table.now in let g = c.args.goal.now in let b = c.args.block.now in let r = q.ring in let G = goal_of q ps g in let B = block_of ps b in let L = logs_of ps ls in
    subst (λ x. Follows r ps ls g.aim x Reference) (sym (ap (λ (x : Row). placed.At r G B ps L (places.lambda c.args.t (parts_at ps c.args.identity.items)) x) c.in-Lambda.is ∙ placed.no_lambda r G B ps L c.args.t (parts_at ps c.args.identity.items) c.in-Lambda.j c.in-Lambda.k (c.if-j-len.false ∙ c.len.ensures ∙ c.args.identity.ok.0 ∙ sym (parts_count ps c.args.identity.items)) c.in_default-part.ensures.part)) (record { claim = refl; sound = tt })

pub returns : goal.returns
returns c = λ q ls a.
    let ps = parts_in c.args.table.now in let g = c.args.goal.now in let b = c.args.block.now in let r = q.ring in let G = goal_of q ps g in let B = block_of ps b in let L = logs_of ps ls in
    let P = part_at ps c.in-Some.k in
    same_claim_ok r ps ls g.aim c.claim_if.result _ (placed.lambda_says r G B ps L (parts_at ps c.args.identity.items) P) (placed.lambda_says r G B ps L (parts_at ps c.deref.result.now) P) (places.after_lambda G c.args.t ((parts_at ps c.args.identity.items) ++ P ∷ [])) c.after_lambda.result
    (ap (λ (x : Row). placed.At r G B ps L (places.lambda c.args.t (parts_at ps c.args.identity.items)) x) c.in-Lambda.is ∙ placed.on_lambda_line r G B ps L c.args.t (parts_at ps c.args.identity.items) c.in-Lambda.j c.in-Lambda.k P (c.if-j-len.false ∙ c.len.ensures ∙ c.args.identity.ok.0 ∙ sym (parts_count ps c.args.identity.items)) c.in-Some.ensures.part)
    (ap (λ (xs : List ℕ). placed.lambda_says r G B ps L (parts_at ps xs) P) (sym c.deref.ensures.value)) (c.after_lambda.ensures.place q ps ∙ ap (λ (xs : List Part). places.after_lambda G c.args.t xs) (ap (parts_at ps) c.in_ok-identity.ensures ∙ parts_more ps c.args.identity.items c.in-Some.k))
    (c.claim_if.ensures r ps ls g.aim (placed.lambda_says r G B ps L (parts_at ps c.deref.result.now) P) (c.in_ok-condition.ensures q ps ls a c.requires.block (numbers_in ps _ _ c.deref.ensures.value c.requires.identity) c.in-Some.ensures.there) (c.after_lambda.ensures.there ps (numbers_in ps _ _ c.in_ok-identity.ensures (numbers_more ps c.args.identity.items c.in-Some.k c.requires.identity c.in-Some.ensures.there))))
