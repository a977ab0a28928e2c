use Rattle.std.proofs.Common.{◌≡◌, suc, ◌-◌, true, length, Some, None, refl, sym, ◌∙◌, arith}
use Rattle.std.proofs.lemmas.Bool.{eqb-true, eqb-false}
use Rattle.fm_report.specs.Sheets.{numbered}
use Rattle.fm_parts.specs.Replays.{is_number}
use Rattle.fm_pres.specs.Tables.{part_at}
use Rattle.fm_pres.specs.Blocks.{block_of, parts_at}
use Rattle.fm_conditions.specs.Meanings.{logs_of}
use Rattle.fm_conditions.specs.declared.condition.Condition.TheVariants as kinds
use Rattle.fm_conditions.specs.declared.operand.Operand as operands
use Rattle.fm_places.specs.Meanings.{goal_of}
use Rattle.fm_claims.proofs.Followed.{equal_sides, numbered_in, numbers_in}
use Rattle.fm_claims.proofs.FurtherFollowed.{finds_none, finds_this, parts_count}
use Rattle.fm_claims.proofs.FurtherLifts.{first_lambda, later_lambda}
use Rattle.fm_claims.proofs.mapping.lambda_lifts.Goals as goal

pub returns-then-is_empty : goal.returns-then-is_empty
returns-then-is_empty c = λ q ps ls a block ids there.
    let g = c.args.goal.now in let b = c.args.block.now in let r = q.ring in let G = goal_of q ps g in let B = block_of ps b in let L = logs_of ps ls in
    let ids = c.args.identity.now in
    let z : length (parts_at ps ids) ≡ 0 = parts_count ps ids ∙ eqb-true _ _ (sym c.is_empty.ensures ∙ c.if-is_empty.true) in
    finds_this r ps ls _ (kinds.Equal (operands.Part c.args.k) (operands.Unit 1)) (first_lambda r G B ps L (parts_at ps ids) (part_at ps c.args.k) z) (there, tt) (tt, tt)

pub returns-in_default : goal.returns-in_default
returns-in_default c = λ q ps ls a block ids there.
    let g = c.args.goal.now in let b = c.args.block.now in let r = q.ring in let G = goal_of q ps g in let B = block_of ps b in let L = logs_of ps ls in
    let xs = c.args.identity.now in let i = length xs - 1 in
    let some = eqb-false _ _ (sym c.is_empty.ensures ∙ c.if-is_empty.false) in
    let last : length (parts_at ps xs) ≡ suc i = let count = parts_count ps xs in omega (arith, count, some) in
    let says = later_lambda r G B ps L (parts_at ps xs) (part_at ps c.args.k) i last in
    let e = c.in_default.ensures.part q ps in
    finds_none r ps ls _ (says ∙ rw e refl)

pub returns-in_default-nth : goal.returns-in_default-nth
returns-in_default-nth c = λ q ps ls a block ids there.
    let g = c.args.goal.now in let b = c.args.block.now in let r = q.ring in let G = goal_of q ps g in let B = block_of ps b in let L = logs_of ps ls in
    let xs = c.args.identity.now in let i = length xs - 1 in
    let some = eqb-false _ _ (sym c.is_empty.ensures ∙ c.if-is_empty.false) in
    let last : length (parts_at ps xs) ≡ suc i = let count = parts_count ps xs in omega (arith, count, some) in
    let says = later_lambda r G B ps L (parts_at ps xs) (part_at ps c.args.k) i last in
    let e_d = c.in-Some.ensures.part q ps in
    let e = c.in_default-nth.ensures.part ps in
    finds_none r ps ls _ (says ∙ rw (e_d, e) refl)

pub returns-in_default-nth-2 : goal.returns-in_default-nth-2
returns-in_default-nth-2 c = λ q ps ls a block ids there.
    let g = c.args.goal.now in let b = c.args.block.now in let r = q.ring in let G = goal_of q ps g in let B = block_of ps b in let L = logs_of ps ls in
    let xs = c.args.identity.now in let i = length xs - 1 in
    let some = eqb-false _ _ (sym c.is_empty.ensures ∙ c.if-is_empty.false) in
    let last : length (parts_at ps xs) ≡ suc i = let count = parts_count ps xs in omega (arith, count, some) in
    let says = later_lambda r G B ps L (parts_at ps xs) (part_at ps c.args.k) i last in
    let e_d = c.in-Some.ensures.part q ps in
    let e_before = c.in-Some-nth.ensures.part ps in
    let e : numbered B.differentials (suc i) ≡ None = numbered_in ps _ _ (suc i) None c.deref.ensures.value (c.in_default-nth-2.ensures.part ps) in
    finds_none r ps ls _ (says ∙ rw (e_d, e_before, e) refl)

pub returns : goal.returns
returns c = λ q ps ls a block ids there.
    let g = c.args.goal.now in let b = c.args.block.now in let r = q.ring in let G = goal_of q ps g in let B = block_of ps b in let L = logs_of ps ls in
    let xs = c.args.identity.now in let i = length xs - 1 in
    let some = eqb-false _ _ (sym c.is_empty.ensures ∙ c.if-is_empty.false) in
    let last : length (parts_at ps xs) ≡ suc i = let count = parts_count ps xs in omega (arith, count, some) in
    let says = later_lambda r G B ps L (parts_at ps xs) (part_at ps c.args.k) i last in
    let e_d = c.in-Some.ensures.part q ps in
    let n_d : is_number ps c.in-Some.d ≡ true = c.in-Some.ensures.there q ps a in
    let e_before = c.in-Some-nth.ensures.part ps in
    let n_before : is_number ps c.in-Some-nth.before ≡ true = c.in-Some-nth.ensures.there ps ids in
    let e_e : numbered B.differentials (suc i) ≡ Some (part_at ps c.in-Some-nth-2.e) = numbered_in ps _ _ (suc i) (Some (part_at ps c.in-Some-nth-2.e)) c.deref.ensures.value (c.in-Some-nth-2.ensures.part ps) in
    let n_e : is_number ps c.in-Some-nth-2.e ≡ true = c.in-Some-nth-2.ensures.there ps (numbers_in ps _ _ c.deref.ensures.value block.0) in
    finds_this r ps ls _ (kinds.Equal c.in_ok-left.left c.in_ok-right.right) (says ∙ rw (e_d, e_before, e_e) (equal_sides _ _ _ _ (sym (c.in_ok-left.ensures.part r ps)) (sym (c.in_ok-right.ensures.part r ps))))
    (c.in_ok-left.ensures.there r ps n_d there, c.in_ok-right.ensures.there r ps n_before n_e)
    (c.in_ok-left.ensures.formable r ps tt tt, c.in_ok-right.ensures.formable r ps tt tt)
