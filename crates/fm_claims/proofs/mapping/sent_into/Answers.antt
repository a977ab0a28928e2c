use Rattle.std.proofs.Common.{◌≡◌, [], Option, None, option_map, refl, sym, subst}
use Rattle.fm_parts.specs.Conditions.{preimage}
use Rattle.fm_pres.specs.Tables.{parts_in, part_at}
use Rattle.fm_conditions.specs.Meanings.{logs_of}
use Rattle.fm_conditions.specs.declared.condition.Condition.TheVariants as kinds
use Rattle.fm_conditions.specs.declared.condition.Condition as condition
use Rattle.fm_conditions.specs.declared.operand.Operand as operands
use Rattle.fm_claims.specs.Named.{Finds, sent_into_by}
use Rattle.fm_claims.proofs.FurtherFollowed.{finds_none, finds_this}
use Rattle.fm_claims.proofs.mapping.sent_into.Goals as goal

pub returns-in_err-k : goal.returns-in_err-k
returns-in_err-k c = λ r g b na nk nc.
    let ps = parts_in c.args.table.now in let ls = c.args.logs.now in let L = logs_of ps ls in let s = c.args.shown.now in
    let says = sent_into_by r g b ps L (part_at ps c.args.a) (option_map (part_at ps) c.args.k) (part_at ps c.args.c) s.log s.x s.w in
    let e : says ≡ None = rw c.in_err-k.was refl in
    subst (λ (o : Option condition.Condition). Finds r ps ls says o) (sym c.from_residual.ensures) (finds_none r ps ls says e)

pub returns-in_err-shown : goal.returns-in_err-shown
returns-in_err-shown c = λ r g b na nk nc.
    let ps = parts_in c.args.table.now in let ls = c.args.logs.now in let L = logs_of ps ls in let s = c.args.shown.now in
    let A = part_at ps c.args.a in let K = part_at ps c.in_ok-k.k in let C = part_at ps c.args.c in
    let says = sent_into_by r g b ps L A (option_map (part_at ps) c.args.k) C s.log s.x s.w in
    let h = c.in_err-shown.ensures.generated r g b (λ log X W. preimage log A K C X W) [] in
    let e : says ≡ None = rw c.in_ok-k.was h in
    subst (λ (o : Option condition.Condition). Finds r ps ls says o) (sym c.from_residual-in_err-shown.ensures) (finds_none r ps ls says e)

pub returns : goal.returns
returns c = λ r g b na nk nc.
    let ps = parts_in c.args.table.now in let ls = c.args.logs.now in
    let s = c.in_ok-shown.shown in
    let A = part_at ps c.args.a in let K = part_at ps c.in_ok-k.k in let C = part_at ps c.args.c in
    let e = c.in_ok-shown.ensures.generated r g b (λ log X W. preimage log A K C X W) [] in
    let t = c.in_ok-shown.ensures.there in
    finds_this r ps ls _ (kinds.Preimage s.log (operands.Part c.args.a) (operands.Part c.in_ok-k.k) c.args.c s.x s.w) (rw c.in_ok-k.was e)
    (t.0, na, rw c.in_ok-k.was at nk, nc, t.1, t.2) (tt, tt)
