use Rattle.std.proofs.Common.{◌≡◌, ℕ, suc, true, List, [], ◌∷◌, ◌++◌, length, Option, option_map, refl, sym, ap, ◌∙◌, subst, arith}
use Rattle.std.specs.Prelude.{IfOk}
use Rattle.fm_report.specs.Parts.{Part}
use Rattle.fm_parts.specs.Replays.{are_numbers}
use Rattle.fm_judge.specs.Places as places
use Rattle.fm_pres.specs.Tables.{parts_in, part_at}
use Rattle.fm_pres.specs.Blocks.{block_of, parts_at}
use Rattle.fm_conditions.specs.Meanings.{logs_of}
use Rattle.fm_lines.specs.declared.row.Row.{Row}
use Rattle.fm_places.specs.declared.place.Place.TheVariants as program
use Rattle.fm_places.specs.Meanings.{goal_of, inverted}
use Rattle.fm_claims.specs.Named.{sent_by_polynomial}
use Rattle.fm_claims.specs.Following.{Follows, FollowsIn}
use Rattle.fm_claims.specs.declared.claimed.Claimed.TheVariants.{Reference}
use Rattle.fm_claims.proofs.FurtherAims.{inverted_over}
use Rattle.fm_claims.proofs.FurtherFollowed.{parts_count, parts_more, numbers_more, same_claim_ok}
use Rattle.fm_claims.proofs.FurtherPlaced as placed
use Rattle.fm_claims.proofs.FurtherRows as others
use Rattle.fm_claims.proofs.inverting.colon.Goals as goal

pub returns-in_default : goal.returns-in_default
returns-in_default c =
    let ls = c.args.logs.now in let q = c.args.problem.now in let ps = parts_in c.args.table.now in let g = c.args.goal.now in let b = c.args.block.now in let r = q.ring in let G = goal_of q ps g in let B = block_of ps b in let L = logs_of ps ls in let F = inverted r g.aim in
    record { claim = others.not_colon r G B ps L F c.args.t (parts_at ps c.args.found.items) c.args.row.now c.in_default.not-Colon c.in_default.not-Settles; sound = tt }

pub returns-then-j-len : goal.returns-then-j-len
returns-then-j-len c =
    let ls = c.args.logs.now in let q = c.args.problem.now in let ps = parts_in c.args.table.now in let g = c.args.goal.now in let b = c.args.block.now in let r = q.ring in let G = goal_of q ps g in let B = block_of ps b in let L = logs_of ps ls in let F = inverted r g.aim in
    record {
      claim = ap (λ (x : Row). placed.At r G B ps L (places.colon F c.args.t (parts_at ps c.args.found.items)) x) c.in-Colon.is
          ∙ placed.off_colon r G B ps L F c.args.t (parts_at ps c.args.found.items) c.in-Colon.j c.in-Colon.k c.in-Colon.shown (λ z. c.if-j-len.true (omega (arith, z, parts_count ps c.args.found.items, c.len.ensures, c.args.found.ok.0)));
      sound = tt;
    }

pub returns-in_default-part : goal.returns-in_default-part
returns-in_default-part c =
    let ls = c.args.logs.now in let q = c.args.problem.now in let ps = parts_in c.args.table.now in let g = c.args.goal.now in let b = c.args.block.now in let r = q.ring in let G = goal_of q ps g in let B = block_of ps b in let L = logs_of ps ls in let F = inverted r g.aim in
    let n : c.in-Colon.j ≡ suc (length (parts_at ps c.args.found.items)) = omega (arith, c.if-j-len.false, c.len.ensures, c.args.found.ok.0, parts_count ps c.args.found.items) in
    subst (λ x. Follows r ps ls g.aim x Reference) (sym (ap (λ (x : Row). placed.At r G B ps L (places.colon F c.args.t (parts_at ps c.args.found.items)) x) c.in-Colon.is
    ∙ placed.no_colon r G B ps L F c.args.t (parts_at ps c.args.found.items) c.in-Colon.j c.in-Colon.k c.in-Colon.shown n c.in_default-part.ensures.part)) (record { claim = refl; sound = tt })

pub returns-in_ok-found-in-Colon : goal.returns-in_ok-found-in-Colon
returns-in_ok-found-in-Colon c =
    let ls = c.args.logs.now in let q = c.args.problem.now in let ps = parts_in c.args.table.now in let g = c.args.goal.now in let b = c.args.block.now in let r = q.ring in let G = goal_of q ps g in let B = block_of ps b in let L = logs_of ps ls in let F = inverted r g.aim in
    let cs = parts_at ps c.args.found.items in
    let n : c.in-Colon.j ≡ suc (length cs) = omega (arith, c.if-j-len.false, c.len.ensures, c.args.found.ok.0, parts_count ps c.args.found.items) in
    let P = part_at ps c.in-Some.k in
    let x = c.in-Colon.shown in
    let size : c.len-in-Colon.result ≡ length cs = omega (arith, c.len-in-Colon.ensures, c.args.found.ok.0, parts_count ps c.args.found.items) in
    let e : placed.colon_of r G B ps L c.args.t cs (length cs) ≡ option_map (part_at ps) c.colon_at-last.result =
    ap (λ (xs : List ℕ). placed.colon_of r G B ps L c.args.t (parts_at ps xs) (length cs)) (sym c.deref.ensures.value)
    ∙ ap (λ m. placed.colon_of r G B ps L c.args.t (parts_at ps c.deref.result.now) m) (sym size) ∙ c.colon_at-last.ensures.part r G ps L in
    let said = sent_by_polynomial r G B ps L F (option_map (part_at ps) c.colon_at-last.result) P x.log x.x x.w in
    same_claim_ok r ps ls g.aim c.claim_if.result _ (placed.colon_says r G B ps L F c.args.t cs P x) said (places.colon F c.args.t (cs ++ P ∷ [])) (program.Colon c.args.t c.in_ok-found-in-Colon.found)
    (ap (λ (y : Row). placed.At r G B ps L (places.colon F c.args.t cs) y) c.in-Colon.is ∙ placed.on_colon r G B ps L F c.args.t cs c.in-Colon.j c.in-Colon.k x P n c.in-Some.ensures.part)
    (ap (λ (o : Option Part). sent_by_polynomial r G B ps L F o P x.log x.x x.w) e)
    (ap (λ xs. places.colon F c.args.t xs) (ap (parts_at ps) c.in_ok-found-in-Colon.ensures ∙ parts_more ps c.args.found.items c.in-Some.k))
    (c.claim_if.ensures r ps ls g.aim said (c.in_ok-condition-in-Colon.ensures G B (inverted_over q ps g.aim c.requires.aim) c.in-Some.ensures.there)
    (subst (λ xs. are_numbers ps xs ≡ true) (sym c.in_ok-found-in-Colon.ensures) (numbers_more ps c.args.found.items c.in-Some.k c.requires.found c.in-Some.ensures.there)))

pub returns-in-Settles : goal.returns-in-Settles
returns-in-Settles c =
    let q = c.args.problem.now in let ps = parts_in c.args.table.now in let ls = c.args.logs.now in let g = c.args.goal.now in let b = c.args.block.now in
    subst (λ (x : Row). IfOk c.settles.result (FollowsIn q ps ls g b (program.Colon c.args.t c.args.found) x)) (sym c.in-Settles.is) (c.settles.ensures q ls g)
