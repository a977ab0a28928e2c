-- What a run writes states only verdicts that hold.
use Rattle.std.proofs.Common.{◌≡◌, ◌<◌, ◌≤◌, length, arith, ◌^◌, ◌∙◌, ℕ, List, [], ◌∷◌, ◌++◌, Option, Some, None, Result, Ok, Err, IfOk, codes, decimal, refl, sym, ap, subst, append-nil}
use Rattle.std.specs.Io.KnownBytes.{Appends, Keeps}
use Rattle.fm_base.specs.Parts.{AppendsPrefix}
use Rattle.fm_problem.specs.declared.problem.Problem.{Problem}
use Rattle.fm_problem.specs.Faults.{Fault}
use Rattle.fm_problem.specs.Problems.{problem_of}
use Rattle.fm_report.specs.Holding.{VerdictsHold, VerdictsHoldSince}
use Rattle.fm_report.proofs.Holding.{kept_holds, added_holds}
use Rattle.fm_report.proofs.Silent.{message_holds}
use Rattle.fm_decide.proofs.FaultLines.{fault_line_holds}
use Rattle.fm_certificates.specs.Reports.{AreSmallReports, certified_reports}
use Rattle.fm_certificates.proofs.Texts.{text_holds}
use Rattle.std.specs.declared.alloc.AllocError.{AllocError}
use Rattle.fm_top.specs.declared.reply.Reply.{Reply}
use Rattle.fm_top.specs.Output.{HoldThroughout, faulted, problem_limit, reported, usage}

pub usage_holds : HoldThroughout usage.bytes
usage_holds front back e = message_holds (codes "usage: fmod decide [--budget N] | check | sample N") refl refl front back e

pub report_holds : (units : ℕ) (text bytes : List ℕ) (q : Problem) → length text ≤ problem_limit → units < 2 ^ 32 → problem_of text ≡ Ok q → bytes ≡ (reported units q).bytes
    → AreSmallReports (certified_reports units q q.queries) → HoldThroughout bytes
report_holds units text bytes q short few reads are small front back e = text_holds text units q (omega (arith, short)) few reads small front back (sym are ∙ e)

pub fault_holds : (bytes : List ℕ) (f : Fault) → bytes ≡ (faulted f).bytes → HoldThroughout bytes
fault_holds bytes f are front back e = fault_line_holds f.line f.kind front back (sym are ∙ e)

-- a beginning of such bytes was taken
pub taken_holds : (old new : Option (List ℕ)) (bytes : List ℕ) → HoldThroughout bytes → AppendsPrefix old new bytes → VerdictsHoldSince old new
unfolding VerdictsHoldSince
taken_holds None new bytes hold part = tt
taken_holds (Some before) None bytes hold part = tt
taken_holds (Some before) (Some after) bytes hold (front, back, whole, grown) =
    subst (λ x. VerdictsHoldSince (Some before) (Some x)) (sym grown) (added_holds before front [] (subst VerdictsHold (sym (append-nil front)) (hold front back whole)))

-- nothing was taken
pub quiet_holds : (old new : Option (List ℕ)) → Keeps old new → VerdictsHoldSince old new
unfolding VerdictsHoldSince
quiet_holds None new keeps = tt
quiet_holds (Some before) None keeps = tt
quiet_holds (Some before) (Some after) keeps = subst (λ x. VerdictsHoldSince (Some before) (Some x)) (sym keeps) (kept_holds (Some before))

-- the reply with the report of a text
pub reply_states : (r : Result Reply AllocError) (units : ℕ) (text : List ℕ) (q : Problem) → length text ≤ problem_limit → units < 2 ^ 32 → problem_of text ≡ Ok q → IfOk r (λ x. x.bytes.items ≡ (reported units q).bytes)
    → IfOk r (λ x. AreSmallReports (certified_reports units q q.queries)) → IfOk r (λ x. HoldThroughout x.bytes.items)
reply_states (Ok x) units text q short few reads are small = report_holds units text x.bytes.items q short few reads are small
reply_states (Err e) units text q short few reads are small = tt

-- the reply with the line of a fault
pub reply_faults : (r : Result Reply AllocError) (f : Fault) → IfOk r (λ x. x.bytes.items ≡ (faulted f).bytes) → IfOk r (λ x. HoldThroughout x.bytes.items)
reply_faults (Ok x) f are = fault_holds x.bytes.items f are
reply_faults (Err e) f are = tt
