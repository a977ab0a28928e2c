-- What the lines state that tell what is found of a certificate, and what an accepted text states.
use Rattle.std.proofs.Common.{◌≡◌, ◌∙◌, ℕ, true, List, [], ◌∷◌, ◌++◌, Result, Ok, Err, IfOk, codes, decimal, append_assoc, refl, sym, ap, subst}
use Rattle.std.specs.declared.alloc.AllocError.{AllocError}
use Rattle.fm_words.specs.Parts.{Bytes}
use Rattle.fm_report.specs.Holding.{VerdictsHold}
use Rattle.fm_report.proofs.Silent.{message_holds}
use Rattle.fm_decide.proofs.FaultLines.{is_one_line, one_line_append, decimal_one_line}
use Rattle.fm_parts.specs.Replays.{Reason, Truncated, Form, Exponents, Reference, Shape, Depth, Value, BadEntry, BadLog, Reduction}
use Rattle.fm_top.specs.declared.reply.Reply.{Reply}
use Rattle.fm_top.specs.Output.{HoldThroughout, accepted_line, reason_text, refused_line}

reason_one_line : (why : Reason) → is_one_line (reason_text why) ≡ true
reason_one_line Truncated = refl
reason_one_line Form = refl
reason_one_line Exponents = refl
reason_one_line Reference = refl
reason_one_line Shape = refl
reason_one_line Depth = refl
reason_one_line Value = refl
reason_one_line BadEntry = refl
reason_one_line BadLog = refl
reason_one_line Reduction = refl

accepted_holds : (verdicts passed : ℕ) → HoldThroughout (accepted_line verdicts passed)
accepted_holds verdicts passed front back e =
    message_holds (codes "accepted verdicts " ++ (decimal verdicts ++ (codes " passed " ++ decimal passed)))
    (one_line_append (codes "accepted verdicts ") (decimal verdicts ++ (codes " passed " ++ decimal passed)) refl
    (one_line_append (decimal verdicts) (codes " passed " ++ decimal passed) (decimal_one_line verdicts)
    (one_line_append (codes " passed ") (decimal passed) refl (decimal_one_line passed))))
    refl front back (ap (λ rest. codes "accepted verdicts " ++ rest) (append_assoc (decimal verdicts) (codes " passed " ++ decimal passed) (10 ∷ [])) ∙ e)

refused_holds : (n : ℕ) (why : Reason) → HoldThroughout (refused_line n why)
refused_holds n why front back e =
    message_holds (codes "refused line " ++ (decimal n ++ (codes " " ++ reason_text why)))
    (one_line_append (codes "refused line ") (decimal n ++ (codes " " ++ reason_text why)) refl
    (one_line_append (decimal n) (codes " " ++ reason_text why) (decimal_one_line n) (one_line_append (codes " ") (reason_text why) refl (reason_one_line why))))
    refl front back (ap (λ rest. codes "refused line " ++ rest) (append_assoc (decimal n) (codes " " ++ reason_text why) (10 ∷ [])) ∙ e)

-- the reply that tells it
pub reply_accepts : (r : Result Reply AllocError) (verdicts passed : ℕ) → IfOk r (λ x. x.bytes.items ≡ accepted_line verdicts passed) → IfOk r (λ x. HoldThroughout x.bytes.items)
reply_accepts (Ok x) verdicts passed are = subst HoldThroughout (sym are) (accepted_holds verdicts passed)
reply_accepts (Err e) verdicts passed are = tt

pub reply_refuses : (r : Result Reply AllocError) (n : ℕ) (why : Reason) → IfOk r (λ x. x.bytes.items ≡ refused_line n why) → IfOk r (λ x. HoldThroughout x.bytes.items)
reply_refuses (Ok x) n why are = subst HoldThroughout (sym are) (refused_holds n why)
reply_refuses (Err e) n why are = tt
