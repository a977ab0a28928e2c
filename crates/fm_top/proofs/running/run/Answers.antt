use Rattle.std.proofs.Common.{◌≡◌, ℕ, IfSome, List, None, Option, Some, map, rules, string_bytes}
use Rattle.std.specs.Io.KnownBytes.{Appends}
use Rattle.fm_base.specs.Parts.{AppendsPrefix}
use Rattle.fm_report.proofs.Choices.{hold_for_every_choice, since_for_every_choice}
use Rattle.fm_report.specs.Choices.{VerdictsHoldForEveryChoice}
use Rattle.fm_report.specs.Holding.{VerdictsHold}
use Rattle.fm_report.proofs.Holding.{kept_holds}
use Rattle.fm_top.specs.declared.call.Call.{Call}
use Rattle.fm_top.specs.declared.call.Call.TheVariants.{Decide, Check, Sample}
use Rattle.fm_top.specs.Words.{call_of}
use Rattle.fm_top.proofs.Outputs.{accepted_text, call_determined}
use Rattle.fm_top.proofs.running.run.Goals as goal

-- what a text states that is told
for_every_choice : (told : Option (List ℕ)) → IfSome told VerdictsHold → IfSome told VerdictsHoldForEveryChoice
for_every_choice None h = tt
for_every_choice (Some text) h = hold_for_every_choice text h

pub returns-in-Ok-Some-Decide-clause-output : goal.returns-in-Ok-Some-Decide-clause-output
returns-in-Ok-Some-Decide-clause-output g c =
    let call : Some (Decide c.in-Ok-Some-Decide.units) ≡ call_of (map string_bytes c.args.words.now) = search rules in
    λ plain. call_determined (λ o. (c.answer_source.result ≡ o.status) × Appends _ _ o.bytes) _ _ _ call (c.answer_source.ensures.output plain)

pub returns-in-Ok-Some-Decide-clause-prefix : goal.returns-in-Ok-Some-Decide-clause-prefix
returns-in-Ok-Some-Decide-clause-prefix g c =
    let call : Some (Decide c.in-Ok-Some-Decide.units) ≡ call_of (map string_bytes c.args.words.now) = search rules in
    call_determined (λ o. AppendsPrefix _ _ o.bytes) _ _ _ call c.answer_source.ensures.prefix

pub returns-in-Ok-Some-Check-clause-output : goal.returns-in-Ok-Some-Check-clause-output
returns-in-Ok-Some-Check-clause-output g c =
    let call : Some Check ≡ call_of (map string_bytes c.args.words.now) = search rules in
    λ plain. call_determined (λ o. (c.answer_source-in-Ok-Some-Check.result ≡ o.status) × Appends _ _ o.bytes) _ _ _ call (c.answer_source-in-Ok-Some-Check.ensures.output plain)

pub returns-in-Ok-Some-Check-clause-prefix : goal.returns-in-Ok-Some-Check-clause-prefix
returns-in-Ok-Some-Check-clause-prefix g c =
    let call : Some Check ≡ call_of (map string_bytes c.args.words.now) = search rules in
    call_determined (λ o. AppendsPrefix _ _ o.bytes) _ _ _ call c.answer_source-in-Ok-Some-Check.ensures.prefix

pub returns-in-Ok-Some-Sample-clause-output : goal.returns-in-Ok-Some-Sample-clause-output
returns-in-Ok-Some-Sample-clause-output g c =
    let call : Some (Sample c.in-Ok-Some-Sample.number) ≡ call_of (map string_bytes c.args.words.now) = search rules in
    λ plain. call_determined (λ o. (c.write_summary.result ≡ o.status) × Appends _ _ o.bytes) _ _ _ call (c.write_summary.ensures.plain plain)

pub returns-in-Ok-Some-Sample-clause-prefix : goal.returns-in-Ok-Some-Sample-clause-prefix
returns-in-Ok-Some-Sample-clause-prefix g c =
    let call : Some (Sample c.in-Ok-Some-Sample.number) ≡ call_of (map string_bytes c.args.words.now) = search rules in
    call_determined (λ o. AppendsPrefix _ _ o.bytes) _ _ _ call c.write_summary.ensures.prefix

pub returns-in-Ok-None-clause-output : goal.returns-in-Ok-None-clause-output
returns-in-Ok-None-clause-output g c =
    let call : ◌≡◌ {A = Option Call} None (call_of (map string_bytes c.args.words.now)) = search rules in
    λ plain. call_determined (λ o. (c.write_usage.result ≡ o.status) × Appends _ _ o.bytes) _ _ _ call (c.write_usage.ensures.plain plain)

pub returns-in-Ok-None-clause-prefix : goal.returns-in-Ok-None-clause-prefix
returns-in-Ok-None-clause-prefix g c =
    let call : ◌≡◌ {A = Option Call} None (call_of (map string_bytes c.args.words.now)) = search rules in
    call_determined (λ o. AppendsPrefix _ _ o.bytes) _ _ _ call c.write_usage.ensures.prefix

pub returns-in-Err-clause-verdicts : goal.returns-in-Err-clause-verdicts
returns-in-Err-clause-verdicts g c = kept_holds _

pub returns-in-Ok-Some-Decide-clause-independent : goal.returns-in-Ok-Some-Decide-clause-independent
returns-in-Ok-Some-Decide-clause-independent g c = since_for_every_choice _ _ c.answer_source.ensures.verdicts

pub returns-in-Ok-Some-Check-clause-independent : goal.returns-in-Ok-Some-Check-clause-independent
returns-in-Ok-Some-Check-clause-independent g c = since_for_every_choice _ _ c.answer_source-in-Ok-Some-Check.ensures.verdicts

pub returns-in-Ok-Some-Sample-clause-independent : goal.returns-in-Ok-Some-Sample-clause-independent
returns-in-Ok-Some-Sample-clause-independent g c = since_for_every_choice _ _ c.write_summary.ensures.verdicts

pub returns-in-Ok-None-clause-independent : goal.returns-in-Ok-None-clause-independent
returns-in-Ok-None-clause-independent g c = since_for_every_choice _ _ c.write_usage.ensures.verdicts

pub returns-in-Err-clause-independent : goal.returns-in-Err-clause-independent
returns-in-Err-clause-independent g c = since_for_every_choice _ _ (kept_holds _)

pub returns-in-Ok-Some-Check-clause-accepted : goal.returns-in-Ok-Some-Check-clause-accepted
returns-in-Ok-Some-Check-clause-accepted g c =
    λ asked done. accepted_text (λ o. Appends _ _ o.bytes) _ _ done c.answer_source-in-Ok-Some-Check.ensures.output

pub returns-in-Ok-Some-Check-clause-accepted_independent : goal.returns-in-Ok-Some-Check-clause-accepted_independent
returns-in-Ok-Some-Check-clause-accepted_independent g c =
    λ asked done. for_every_choice _ (accepted_text (λ o. Appends _ _ o.bytes) _ _ done c.answer_source-in-Ok-Some-Check.ensures.output)
