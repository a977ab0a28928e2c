use Rattle.std.proofs.Common.{◌≡◌, ◌≤◌, true, [], ◌∷◌, Some, None}
use Rattle.fm_parts.specs.Conditions.{outside}
use Rattle.fm_parts.specs.Replays.{is_number}
use Rattle.fm_judge.specs.Claims.{excluded}
use Rattle.fm_conditions.specs.Meanings.{logs_of, log_at, operand_part}
use Rattle.fm_claims.proofs.Followed.{excluded_in}
use Rattle.fm_claims.proofs.FurtherFollowed.{names_none}
use Rattle.fm_claims.proofs.answering.outside.Goals as goal

pub returns-in_default-clause-names : goal.returns-in_default-clause-names
returns-in_default-clause-names c = λ r g b ps w na nv.
    let ls = c.args.logs.now in let L = logs_of ps ls in let A = operand_part r ps c.args.a in let V = operand_part r ps c.args.v in let s = c.args.shown.now in
    names_none r ps ls _ (excluded_in r g b ps L 0 A V s.log s.column _ _ None c.deref.ensures.value (rw c.in_default.is at (c.in_ok-shown.ensures.excluded ps r g b 0 A V w)))

pub returns-clause-names : goal.returns-clause-names
returns-clause-names c = λ r g b ps w na nv.
    let ls = c.args.logs.now in let L = logs_of ps ls in let A = operand_part r ps c.args.a in let V = operand_part r ps c.args.v in let s = c.args.shown.now in
    let x = c.in-Some.shown in
    let e : excluded r g b ps L 0 A V s.log s.column s.by.items ≡ Some (outside (log_at L x.log) 0 A V x.column x.by.items ∷ []) =
    excluded_in r g b ps L 0 A V s.log s.column _ _ (Some (outside (log_at L x.log) 0 A V x.column x.by.items ∷ [])) c.deref.ensures.value (rw c.in-Some.is at (c.in_ok-shown.ensures.excluded ps r g b 0 A V w)) in
    let t : (is_number ls x.log ≡ true) × (1 ≤ x.column) = rw c.in-Some.is at c.in_ok-shown.ensures.there in
    record { same = e; testable = (t.0, na, nv, t.1) }
