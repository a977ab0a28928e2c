-- The variables of a ring line.
use Rattle.std.proofs.Common.{◌≡◌, ◌+◌, ◌<◌, ◌≤◌, true, false, List, [], ◌∷◌, ◌++◌, ◌&&◌, length, is_some, nat_lt, nat_le, Ok, sym, ◌∙◌, ap, arith, length-append}
use Rattle.std.proofs.lemmas.Bool.{ltb-true}
use Rattle.fm_words.specs.Parts.{Bytes}
use Rattle.fm_problem.specs.declared.fault_kind.FaultKind.TheVariants.{Repeated, Limit}
use Rattle.fm_problem.specs.Limits.{most_variables, longest_name}
use Rattle.fm_problem.specs.Problems.{plus_name}
use Rattle.fm_words.specs.Steps.{steps, place}
use Rattle.fm_problem.proofs.AsciiNames.{both}
use Rattle.fm_words.proofs.FirstFaults.{same_ok, first_read, passed, not_failed}

-- a name that is added is new, there are fewer than 8 before it, and it is short
pub name_added : (vs us : List Bytes) (w : Bytes) → plus_name vs w ≡ Ok us
    → (is_some (place 0 w vs) ≡ false) × ((nat_lt (length vs) most_variables && nat_le (length w) longest_name) ≡ true) × (vs ++ w ∷ [] ≡ us)
name_added vs us w e =
    let fresh = not_failed (is_some (place 0 w vs)) Repeated _ us e in
    let short = passed (nat_lt (length vs) most_variables && nat_le (length w) longest_name) Limit (Ok (vs ++ w ∷ [])) us fresh.1 in
    (fresh.0, short.0, same_ok short.1)

counted : (vs us : List Bytes) (w : Bytes) → plus_name vs w ≡ Ok us → (length us ≡ length vs + 1) × (length us ≤ 8)
counted vs us w e =
    let added = name_added vs us w e in
    let few = ltb-true (length vs) most_variables (both (nat_lt (length vs) most_variables) (nat_le (length w) longest_name) added.1).0 in
    let long : length us ≡ length vs + 1 = sym (ap length added.2) ∙ length-append vs (w ∷ []) in
    (long, omega (arith, few, long))

-- there are as many variables as names, and at most 8
pub names_counted : (vs ws us : List Bytes) → length vs ≤ 8 → steps plus_name vs ws ≡ Ok us → (length us ≡ length vs + length ws) × (length us ≤ 8)
names_counted vs [] us few e = let same : length vs ≡ length us = ap length (same_ok e) in (omega (arith, same), omega (arith, same, few))
names_counted vs (w ∷ ws) us few e =
    let r = first_read (plus_name vs w) (λ u. steps plus_name u ws) us e in
    let one = counted vs r.0 w r.1 in
    let rest = names_counted r.0 ws us one.1 r.2 in
    (omega (arith, one.0, rest.0), rest.1)

-- a ring line has from 1 to 8 variables
pub ring_counted : (names us : List Bytes) → 0 < length names → steps plus_name [] names ≡ Ok us → (1 ≤ length us) × (length us ≤ 8)
ring_counted names us some e = let r = names_counted [] names us (omega arith) e in (omega (arith, r.0, some), r.1)
