use Rattle.std.proofs.Common.{◌≡◌, ℕ, true, List, [], Option, option_map, refl, sym, ap, ◌∙◌, subst}
use Rattle.fm_report.specs.Parts.{Part}
use Rattle.fm_parts.specs.Replays.{are_numbers}
use Rattle.fm_judge.specs.Places as places
use Rattle.fm_pres.specs.Tables.{parts_in, part_at}
use Rattle.fm_pres.specs.Blocks.{block_of, parts_at}
use Rattle.fm_conditions.specs.Meanings.{logs_of}
use Rattle.fm_lines.specs.declared.row.Row.{Row}
use Rattle.fm_places.specs.Meanings.{goal_of}
use Rattle.fm_claims.specs.Named.{outside_of}
use Rattle.fm_claims.proofs.FurtherFollowed.{same_claim_ok}
use Rattle.fm_claims.proofs.FurtherPlaced as placed
use Rattle.fm_claims.proofs.FurtherRows as others
use Rattle.fm_judge.specs.Claims.{source_kernel}
use Rattle.fm_claims.proofs.mapping.not_one.Goals as goal

pub returns-in_default : goal.returns-in_default
returns-in_default c = λ q b a.
    let ls = c.args.logs.now in let ps = parts_in c.args.table.now in let g = c.args.goal.now in let r = q.ring in let G = goal_of q ps g in let B = block_of ps b in let L = logs_of ps ls in
    record { claim = others.not_notone r G B ps L c.args.t (part_at ps c.args.phi) (part_at ps c.args.c) c.args.row.now c.in_default.not-NotOne; sound = tt }

pub returns : goal.returns
returns c = λ q b a.
    let ls = c.args.logs.now in let ps = parts_in c.args.table.now in let g = c.args.goal.now in let r = q.ring in let G = goal_of q ps g in let B = block_of ps b in let L = logs_of ps ls in
    let e = c.source_kernel.ensures.part q ps in
    let h = c.source_kernel.ensures.there q ps a in
    same_claim_ok r ps ls g.aim c.claim_if.result _ (outside_of r G B ps L (source_kernel r G B ps L) (part_at ps c.args.c) c.in-NotOne.shown.log c.in-NotOne.shown.column c.in-NotOne.shown.by.items) (outside_of r G B ps L (option_map (part_at ps) c.source_kernel.result) (part_at ps c.args.c) c.in-NotOne.shown.log c.in-NotOne.shown.column c.in-NotOne.shown.by.items) (places.after_link G.aim c.args.t (part_at ps c.args.phi) []) c.after_link.result
    (ap (λ (x : Row). placed.At r G B ps L (places.notone c.args.t (part_at ps c.args.phi) (part_at ps c.args.c)) x) c.in-NotOne.is ∙ placed.on_notone r G B ps L c.args.t (part_at ps c.args.phi) (part_at ps c.args.c) c.in-NotOne.shown)
    (ap (λ (K : Option Part). outside_of r G B ps L K (part_at ps c.args.c) c.in-NotOne.shown.log c.in-NotOne.shown.column c.in-NotOne.shown.by.items) e) (c.after_link.ensures.place q ps ∙ ap (λ (xs : List ℕ). places.after_link G.aim c.args.t (part_at ps c.args.phi) (parts_at ps xs)) c.new.ensures.items)
    (c.claim_if.ensures r ps ls g.aim (outside_of r G B ps L (option_map (part_at ps) c.source_kernel.result) (part_at ps c.args.c) c.in-NotOne.shown.log c.in-NotOne.shown.column c.in-NotOne.shown.by.items) (c.in_ok-condition.ensures r G B h) (c.after_link.ensures.there ps c.requires.phi (subst (λ (xs : List ℕ). are_numbers ps xs ≡ true) (sym c.new.ensures.items) refl)))
