use Rattle.std.proofs.Common.{ℕ, ◌-◌, List, length, refl, sym, ap, ◌∙◌, arith}
use Rattle.std.proofs.lemmas.Bool.{eqb-true, eqb-false}
use Rattle.fm_report.specs.Sheets.{numbered}
use Rattle.fm_judge.specs.Places as places
use Rattle.fm_pres.specs.Tables.{parts_in}
use Rattle.fm_pres.specs.Blocks.{block_of, parts_at}
use Rattle.fm_conditions.specs.Meanings.{logs_of}
use Rattle.fm_places.specs.declared.place.Place.TheVariants as program
use Rattle.fm_places.specs.Meanings.{goal_of, inverted}
use Rattle.fm_claims.specs.Named.{settled_by}
use Rattle.fm_claims.proofs.Followed.{numbers_in}
use Rattle.fm_claims.proofs.FurtherFollowed.{parts_count, same_claim_ok}
use Rattle.fm_claims.proofs.FurtherPlaced as placed
use Rattle.fm_claims.proofs.inverting.settles.Goals as goal

pub returns-then-is_empty : goal.returns-then-is_empty
returns-then-is_empty c = λ q ls g.
    let ps = parts_in c.args.table.now in let b = c.args.block.now in let r = q.ring in let G = goal_of q ps g in let B = block_of ps b in let L = logs_of ps ls in let F = inverted r g.aim in let cs = parts_at ps c.args.found.items in
    record { claim = placed.no_settles r G B ps L F c.args.t cs c.args.j c.args.w (omega (arith, parts_count ps c.args.found.items, c.args.found.ok.0, eqb-true _ _ (sym c.is_empty.ensures ∙ c.if-is_empty.true))); sound = tt }

pub returns-then-j-len : goal.returns-then-j-len
returns-then-j-len c = λ q ls g.
    let ps = parts_in c.args.table.now in let b = c.args.block.now in let r = q.ring in let G = goal_of q ps g in let B = block_of ps b in let L = logs_of ps ls in let F = inverted r g.aim in let cs = parts_at ps c.args.found.items in
    let some = eqb-false _ _ (sym c.is_empty.ensures ∙ c.if-is_empty.false) in
    record {
      claim = placed.off_settles r G B ps L F c.args.t cs c.args.j c.args.w (omega (arith, parts_count ps c.args.found.items, c.args.found.ok.0, some))
          (λ z. c.if-j-len.true (z ∙ parts_count ps c.args.found.items ∙ sym c.args.found.ok.0 ∙ sym c.len.ensures));
      sound = tt;
    }

pub returns : goal.returns
returns c = λ q ls g.
    let ps = parts_in c.args.table.now in let b = c.args.block.now in let r = q.ring in let G = goal_of q ps g in let B = block_of ps b in let L = logs_of ps ls in let F = inverted r g.aim in let cs = parts_at ps c.args.found.items in
    let some = eqb-false _ _ (sym c.is_empty.ensures ∙ c.if-is_empty.false) in
    let says = λ (xs : List ℕ) (n : ℕ). settled_by (placed.colon_of r G B ps L c.args.t (parts_at ps xs) (n - 1)) (placed.colon_of r G B ps L c.args.t (parts_at ps xs) n) (numbered ps c.args.w) in
    let found = c.deref.result.now in
    same_claim_ok r ps ls g.aim c.claim_if.result _ (placed.settles_says r G B ps L c.args.t cs c.args.w) (says found (length found)) (places.proper_colon c.args.t cs) (program.ProperColon c.args.t c.args.found)
    (placed.on_settles r G B ps L F c.args.t cs c.args.j c.args.w (omega (arith, parts_count ps c.args.found.items, c.args.found.ok.0, some))
    (c.if-j-len.false ∙ c.len.ensures ∙ c.args.found.ok.0 ∙ sym (parts_count ps c.args.found.items)))
    (ap (says c.args.found.items) (parts_count ps c.args.found.items) ∙ ap (λ (xs : List ℕ). says xs (length xs)) (sym c.deref.ensures.value)) refl
    (c.claim_if.ensures r ps ls g.aim (says found (length found)) (c.in_ok-condition.ensures r G ls c.requires.block (numbers_in ps _ _ c.deref.ensures.value c.requires.found)) c.requires.found)
