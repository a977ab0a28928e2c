use Rattle.std.proofs.Common.{◌≡◌, ℕ, true, List, [], Option, option_map, refl, sym, ap, ◌∙◌, subst}
use Rattle.fm_report.specs.Parts.{Part}
use Rattle.fm_report.specs.Sheets.{numbered}
use Rattle.fm_parts.specs.Replays.{are_numbers}
use Rattle.fm_judge.specs.Places as places
use Rattle.fm_pres.specs.Tables.{parts_in, part_at}
use Rattle.fm_pres.specs.Blocks.{block_of, parts_at}
use Rattle.fm_conditions.specs.Meanings.{logs_of}
use Rattle.fm_lines.specs.declared.row.Row.{Row}
use Rattle.fm_places.specs.Meanings.{goal_of}
use Rattle.fm_claims.specs.Named.{covered_by}
use Rattle.fm_claims.proofs.FurtherFollowed.{same_claim_ok}
use Rattle.fm_claims.proofs.FurtherPlaced as placed
use Rattle.fm_claims.proofs.FurtherRows as others
use Rattle.fm_judge.specs.Claims.{source_kernel}
use Rattle.fm_claims.proofs.mapping.one.Goals as goal

pub returns-in_default : goal.returns-in_default
returns-in_default c = λ q ls b a.
    let ps = parts_in c.args.table.now in let g = c.args.goal.now in let r = q.ring in let G = goal_of q ps g in let B = block_of ps b in let L = logs_of ps ls in
    record { claim = others.not_one r G B ps L c.args.t (part_at ps c.args.phi) (part_at ps c.args.c) c.args.row.now c.in_default.not-One; sound = tt }

pub returns : goal.returns
returns c = λ q ls b a.
    let ps = parts_in c.args.table.now in let g = c.args.goal.now in let r = q.ring in let G = goal_of q ps g in let B = block_of ps b in let L = logs_of ps ls in
    let e = c.source_kernel.ensures.part q ps in
    let h = c.source_kernel.ensures.there q ps a in
    same_claim_ok r ps ls g.aim c.claim_if.result _ (covered_by (part_at ps c.args.c) (source_kernel r G B ps L) (numbered ps c.in-One.w)) (covered_by (part_at ps c.args.c) (option_map (part_at ps) c.source_kernel.result) (numbered ps c.in-One.w)) (places.after_link G.aim c.args.t (part_at ps c.args.phi) []) c.after_link.result
    (ap (λ (x : Row). placed.At r G B ps L (places.one c.args.t (part_at ps c.args.phi) (part_at ps c.args.c)) x) c.in-One.is ∙ placed.on_one r G B ps L c.args.t (part_at ps c.args.phi) (part_at ps c.args.c) c.in-One.w)
    (ap (λ (K : Option Part). covered_by (part_at ps c.args.c) K (numbered ps c.in-One.w)) e) (c.after_link.ensures.place q ps ∙ ap (λ (xs : List ℕ). places.after_link G.aim c.args.t (part_at ps c.args.phi) (parts_at ps xs)) c.new.ensures.items)
    (c.claim_if.ensures r ps ls g.aim (covered_by (part_at ps c.args.c) (option_map (part_at ps) c.source_kernel.result) (numbered ps c.in-One.w)) (c.in_ok-condition.ensures r ls c.requires.c h) (c.after_link.ensures.there ps c.requires.phi (subst (λ (xs : List ℕ). are_numbers ps xs ≡ true) (sym c.new.ensures.items) refl)))
