-- Answers to queries.
use Rattle.std.proofs.Common.{◌≡◌, true, false, List, Option, Some, Result, option_map, refl, sym}
use Rattle.std.specs.Prelude.{IfOk}
use Rattle.fm_poly.specs.declared.ring.Ring.{Ring}
use Rattle.fm_words.specs.Parts.{Bytes}
use Rattle.fm_problem.specs.declared.query.Query.{Query}
use Rattle.fm_problem.specs.declared.query.Query.TheVariants as queries
use Rattle.fm_cert.specs.Kinds as kinds
use Rattle.fm_cert.specs.Kinds.{Ended, answer_kind}
use Rattle.fm_lines.specs.declared.ending.Ending.{Ending}
use Rattle.fm_lines.specs.KindLines.{plain_kind_line}
use Rattle.fm_lines.specs.Plain.{line_after}
use Rattle.fm_lines.specs.PlainKinds.{asks_support, plain_answer}
use Rattle.fm_lines.specs.Rows.{ending_line, IsEndingOver}
use Rattle.fm_lines.proofs.PlainRows.{may_be_plain, same_line, plain_after}
use Rattle.fm_lines.proofs.PlainOver.{impossible, ending_over}

-- an answer without polynomials says the same over each ring
pub same_answer : (r : Ring) (names : List Bytes) (q : Query) (ws : List Bytes) → asks_support q ≡ false
    → plain_kind_line (plain_answer q) ws ≡ line_after r names (Ended (answer_kind q)) ws
same_answer r names (queries.Support i k) ws h = impossible (sym h)
same_answer r names (queries.Zero i k) ws h = sym (same_line r names (Ended kinds.Zero) ws refl)
same_answer r names (queries.Class i k e z) ws h = sym (same_line r names (Ended kinds.Class) ws refl)
same_answer r names (queries.Root i k) ws h = sym (same_line r names (Ended kinds.Root) ws refl)
same_answer r names (queries.Invert i k f) ws h = sym (same_line r names (Ended kinds.Invert) ws refl)
same_answer r names (queries.Map i k j) ws h = sym (same_line r names (Ended kinds.Map) ws refl)
same_answer r names (queries.Member k f) ws h = sym (same_line r names (Ended kinds.Member) ws refl)
same_answer r names (queries.Resolution i k) ws h = sym (same_line r names (Ended kinds.Ranks) ws refl)
same_answer r names (queries.ExtOf i k) ws h = sym (same_line r names (Ended kinds.ExtOf) ws refl)

pub support_said : {E : Type 0} (r : Ring) (names : List Bytes) (q : Query) (ws : List Bytes) (res : Result (Option Ending) E) → asks_support q ≡ true
    → IfOk res (λ o. option_map ending_line o ≡ line_after r names (Ended kinds.Support) ws) → IfOk res (λ o. option_map ending_line o ≡ line_after r names (Ended (answer_kind q)) ws)
support_said r names (queries.Support i k) ws res h p = p
support_said r names (queries.Zero i k) ws res h p = impossible h
support_said r names (queries.Class i k e z) ws res h p = impossible h
support_said r names (queries.Root i k) ws res h p = impossible h
support_said r names (queries.Invert i k f) ws res h p = impossible h
support_said r names (queries.Map i k j) ws res h p = impossible h
support_said r names (queries.Member k f) ws res h p = impossible h
support_said r names (queries.Resolution i k) ws res h p = impossible h
support_said r names (queries.ExtOf i k) ws res h p = impossible h

answers_plain : (q : Query) → may_be_plain (plain_answer q) ≡ true
answers_plain (queries.Support i k) = refl
answers_plain (queries.Zero i k) = refl
answers_plain (queries.Class i k e z) = refl
answers_plain (queries.Root i k) = refl
answers_plain (queries.Invert i k f) = refl
answers_plain (queries.Map i k j) = refl
answers_plain (queries.Member k f) = refl
answers_plain (queries.Resolution i k) = refl
answers_plain (queries.ExtOf i k) = refl

-- its ending is of each ring
pub over_answer : (r : Ring) (q : Query) (ws : List Bytes) (e : Ending) → Some (ending_line e) ≡ plain_kind_line (plain_answer q) ws → IsEndingOver r e
over_answer r q ws e h = ending_over r e (plain_after (plain_answer q) ws (ending_line e) (answers_plain q) h)
