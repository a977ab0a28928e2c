use Rattle.std.proofs.Common.{◌≡◌, [], Err, ap, sym, refl, subst}
use Rattle.std.specs.Io.KnownBytes.{Appends}
use Rattle.std.proofs.KnownBytes.{Appends-nil}
use Rattle.fm_base.specs.declared.status.Status.TheVariants.{TooLong}
use Rattle.fm_base.specs.Parts.{AppendsPrefix}
use Rattle.fm_top.specs.Output.{HoldThroughout}
use Rattle.fm_top.proofs.Outputs.{beyond_determined, none_begun, reply_written, reply_begun}
use Rattle.fm_top.proofs.Verdicts.{taken_holds}
use Rattle.fm_report.proofs.Holding.{kept_holds}
use Rattle.fm_top.proofs.answering.answer_source.Goals as goal

pub returns-in-Ok-reply_to-clause-output : goal.returns-in-Ok-reply_to-clause-output
returns-in-Ok-reply_to-clause-output g c =
    λ plain. reply_written c.args.call c.requires _ _ _ _ _ _ _ c.in-Ok.ensures.all c.in-Ok.ensures.within c.limit.ensures.is c.deref.ensures.value c.in-Ok-reply_to.ensures.status c.in-Ok-reply_to.ensures.bytes
    c.deref-in-Ok-reply_to.ensures.value _ _ _ (c.write_reply.ensures.plain plain)

pub returns-in-Ok-reply_to-clause-prefix : goal.returns-in-Ok-reply_to-clause-prefix
returns-in-Ok-reply_to-clause-prefix g c =
    reply_begun c.args.call c.requires _ _ _ _ _ _ _ c.in-Ok.ensures.all c.in-Ok.ensures.within c.limit.ensures.is c.deref.ensures.value c.in-Ok-reply_to.ensures.status c.in-Ok-reply_to.ensures.bytes
    c.deref-in-Ok-reply_to.ensures.value _ _ c.write_reply.ensures.prefix

pub returns-in-Ok-reply_to-clause-verdicts : goal.returns-in-Ok-reply_to-clause-verdicts
returns-in-Ok-reply_to-clause-verdicts g c =
    taken_holds _ _ _ (subst HoldThroughout (sym c.deref-in-Ok-reply_to.ensures.value) c.in-Ok-reply_to.ensures.verdicts) c.write_reply.ensures.prefix

pub returns-in-Ok-clause-verdicts : goal.returns-in-Ok-clause-verdicts
returns-in-Ok-clause-verdicts g c = kept_holds _

pub returns-in-Err-ReadFault-clause-verdicts : goal.returns-in-Err-ReadFault-clause-verdicts
returns-in-Err-ReadFault-clause-verdicts g c = kept_holds _

pub returns-in-Err-ReadFault-clause-prefix : goal.returns-in-Err-ReadFault-clause-prefix
returns-in-Err-ReadFault-clause-prefix g c = none_begun _ _

pub returns-in-Err-TooLong-clause-output : goal.returns-in-Err-TooLong-clause-output
returns-in-Err-TooLong-clause-output g c =
    λ plain. beyond_determined (λ o. (TooLong ≡ o.status) × Appends _ _ o.bytes) c.args.call c.requires _ _ _ c.limit.ensures.is
    (c.in-Err-TooLong.ensures.long (ap Err c.in-Err-TooLong.field-0-is)) (refl, Appends-nil _)

pub returns-in-Err-TooLong-clause-prefix : goal.returns-in-Err-TooLong-clause-prefix
returns-in-Err-TooLong-clause-prefix g c =
    beyond_determined (λ o. AppendsPrefix _ _ o.bytes) c.args.call c.requires _ _ _ c.limit.ensures.is
    (c.in-Err-TooLong.ensures.long (ap Err c.in-Err-TooLong.field-0-is)) ([], [], refl, Appends-nil _)

pub returns-in-Err-TooLong-clause-verdicts : goal.returns-in-Err-TooLong-clause-verdicts
returns-in-Err-TooLong-clause-verdicts g c = kept_holds _

pub returns-clause-verdicts : goal.returns-clause-verdicts
returns-clause-verdicts g c = kept_holds _
