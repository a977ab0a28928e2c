use Rattle.std.proofs.Common.{◌≡◌, ℕ, ◌-◌, length, Option, Some, sym, ap, ap₂, ◌∙◌}
use Rattle.fm_report.specs.Parts.{Part}
use Rattle.fm_report.specs.Sheets.{numbered}
use Rattle.fm_judge.specs.Claims.{colon_at}
use Rattle.fm_pres.specs.Tables.{parts_in, part_at}
use Rattle.fm_pres.specs.Blocks.{block_of, parts_at}
use Rattle.fm_conditions.specs.Meanings.{logs_of}
use Rattle.fm_claims.specs.Named.{settled_by, covered_by}
use Rattle.fm_claims.proofs.FurtherFollowed.{finds_none, found_as}
use Rattle.fm_claims.proofs.colons.settled.Goals as goal

pub returns-in_default : goal.returns-in_default
returns-in_default c = λ r g ls b f.
    let ps = parts_in c.args.table.now in let B = block_of ps c.args.block.now in let L = logs_of ps ls in let cs = parts_at ps c.args.found.now in
    let at = λ (n : ℕ). colon_at r g B ps L c.args.t cs n in
    let n : length c.args.found.now - 1 ≡ c.saturating_sub.result = sym c.saturating_sub.ensures in
    let W = numbered ps c.args.w in
    finds_none r ps ls _ (ap (λ (K : Option Part). settled_by K (at (length c.args.found.now)) W) (ap at n ∙ c.in_default.ensures.part r g ps L))

pub returns-in_default-colon_at : goal.returns-in_default-colon_at
returns-in_default-colon_at c = λ r g ls b f.
    let ps = parts_in c.args.table.now in let B = block_of ps c.args.block.now in let L = logs_of ps ls in let cs = parts_at ps c.args.found.now in
    let at = λ (n : ℕ). colon_at r g B ps L c.args.t cs n in
    let n : length c.args.found.now - 1 ≡ c.saturating_sub.result = sym c.saturating_sub.ensures in
    let W = numbered ps c.args.w in
    finds_none r ps ls _ (ap₂ (λ (K last : Option Part). settled_by K last W) (ap at n ∙ c.in-Some.ensures.part r g ps L) (c.in_default-colon_at.ensures.part r g ps L))

pub returns : goal.returns
returns c = λ r g ls b f.
    let ps = parts_in c.args.table.now in let B = block_of ps c.args.block.now in let L = logs_of ps ls in let cs = parts_at ps c.args.found.now in
    let at = λ (n : ℕ). colon_at r g B ps L c.args.t cs n in
    let n : length c.args.found.now - 1 ≡ c.saturating_sub.result = sym c.saturating_sub.ensures in
    let W = numbered ps c.args.w in
    let last = c.in-Some-colon_at in
    found_as r ps ls c.covered.result _ (covered_by (part_at ps last.last) (Some (part_at ps c.in-Some.before)) W)
    (ap₂ (λ (K last : Option Part). settled_by K last W) (ap at n ∙ c.in-Some.ensures.part r g ps L) (last.ensures.part r g ps L))
    (c.covered.ensures r ls (last.ensures.there ps b f) (c.in-Some.ensures.there ps b f))
