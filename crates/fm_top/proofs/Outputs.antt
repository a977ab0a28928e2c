-- What holds of the output that words and text determine
use Rattle.std.proofs.Common.{ℕ, ◌+◌, ◌<◌, ◌≤◌, ◌≡◌, ◌∙◌, List, [], ◌++◌, length, Option, Some, None, IfSome, Result, Ok, Err, Bool, true, false, nat_lt, refl, sym, ap, subst, arith, length-append}
use Rattle.std.proofs.lemmas.Bool.{le-ltb, lt-ltb}
use Rattle.std.specs.Bool.{if◌then◌else◌}
use Rattle.std.specs.Option.{option_map}
use Rattle.std.specs.Io.KnownBytes.{Appends}
use Rattle.std.proofs.KnownBytes.{Appends-nil}
use Rattle.fm_base.specs.declared.status.Status.{Status}
use Rattle.fm_base.specs.declared.status.Status.TheVariants.{Done, TooLong}
use Rattle.fm_base.specs.Parts.{AppendsPrefix, ConsumesCount}
use Rattle.fm_report.specs.Holding.{VerdictsHold}
use Rattle.fm_judge.specs.Judging.{Counts, BadLine, judgement}
use Rattle.fm_judge.proofs.Texts.{text_holds}
use Rattle.fm_top.specs.declared.call.Call.{Call}
use Rattle.fm_top.specs.declared.call.Call.TheVariants.{Decide, Check, Sample}
use Rattle.fm_top.specs.Statuses.{IsPlain}
use Rattle.fm_top.specs.Words.{call_of, reads}
use Rattle.fm_top.specs.Output.{Output, answered, answered_within, checked, determined_within, determined_output, found, limit_of, too_long}

pub determined_of : (words : List (List ℕ)) (told : Option (List ℕ)) (o : Option Call) → call_of words ≡ o → determined_output words told ≡ determined_within o told
unfolding determined_output
determined_of words told o h = ap (λ x. determined_within x told) h

-- a call on a text gives what it gives on the text that is told
determined_on : (call : Call) (told : Option (List ℕ)) → reads (Some call) ≡ true → determined_within (Some call) told ≡ option_map (answered_within call) told
determined_on (Decide units) told r = refl
determined_on Check told r = refl
determined_on (Sample number) told r = cc

answered_so : (call : Call) (text : List ℕ) (b : Bool) → nat_lt (limit_of (Some call)) (length text) ≡ b
    → answered_within call text ≡ (if b then too_long else answered call text)
answered_so call text b k = ap (λ x. if x then too_long else answered call text) k

module _ (P : Output → Type 0) where
  -- a call and what it gives
  pub call_determined : (words : List (List ℕ)) (told : Option (List ℕ)) (o : Option Call) → o ≡ call_of words → IfSome (determined_within o told) P
      → IfSome (determined_output words told) P
  call_determined words told o h p = subst (λ x. IfSome x P) (sym (determined_of words told o (sym h))) p

  module _ (call : Call) (r : reads (Some call) ≡ true) where
    on_text : (told : Option (List ℕ)) → IfSome (option_map (answered_within call) told) P → IfSome (determined_within (Some call) told) P
    on_text told p = subst (λ o. IfSome o P) (sym (determined_on call told r)) p

    pub read_determined : (told : Option (List ℕ)) (items : List ℕ) → IfSome told (λ text. items ≡ text)
        → length items ≤ limit_of (Some call) → P (answered call items) → IfSome (determined_within (Some call) told) P
    read_determined told items e l p = on_text told (go told e)
      where
        go : (o : Option (List ℕ)) → IfSome o (λ text. items ≡ text) → IfSome (option_map (answered_within call) o) P
        go None e = tt
        go (Some text) e =
            let test : nat_lt (limit_of (Some call)) (length items) ≡ false = le-ltb (limit_of (Some call)) (length items) l in
            subst P (sym (sym (ap (answered_within call) e) ∙ answered_so call items false test)) p

    pub beyond_determined : (told new : Option (List ℕ)) (limit : ℕ) → limit ≡ limit_of (Some call) → ConsumesCount told new (limit + 1)
        → P too_long → IfSome (determined_within (Some call) told) P
    beyond_determined told new limit is e p = on_text told (go told new (subst (λ k. ConsumesCount told new (k + 1)) is e))
      where
        go : (o new : Option (List ℕ)) → ConsumesCount o new (limit_of (Some call) + 1) → IfSome (option_map (answered_within call) o) P
        go None new e = tt
        go (Some text) None e = absurd e.2
        go (Some text) (Some rest) e =
            let more : limit_of (Some call) < length text = omega (arith, ap length e.2, length-append e.0 rest) in
            subst P (sym (answered_so call text true (lt-ltb (limit_of (Some call)) (length text) more))) p

-- nothing was written
pub none_begun : (o : Option Output) (old : Option (List ℕ)) → IfSome o (λ x. AppendsPrefix old old x.bytes)
none_begun None old = tt
none_begun (Some x) old = ([], x.bytes, refl, Appends-nil old)

-- the reply to a text was written, whole or in part
module _ (call : Call) (r : reads (Some call) ≡ true) (told : Option (List ℕ)) (items text bytes shown : List ℕ) (status : Status) (limit : ℕ)
    (all : IfSome told (λ text. items ≡ text)) (within : length items ≤ limit) (limit_is : limit ≡ limit_of (Some call)) (seen : text ≡ items)
    (status_is : status ≡ (answered call text).status) (bytes_are : bytes ≡ (answered call text).bytes) (shown_are : shown ≡ bytes) where
  shown_answered : shown ≡ (answered call items).bytes
  shown_answered = shown_are ∙ bytes_are ∙ ap (λ x. (answered call x).bytes) seen

  small : length items ≤ limit_of (Some call)
  small = subst (λ k. length items ≤ k) limit_is within

  pub reply_written : (old new : Option (List ℕ)) (result : Status) → (result ≡ status) × Appends old new shown
      → IfSome (determined_within (Some call) told) (λ o. (result ≡ o.status) × Appends old new o.bytes)
  reply_written old new result w =
      read_determined (λ o. (result ≡ o.status) × Appends old new o.bytes) call r told items all small
      (w.0 ∙ status_is ∙ ap (λ x. (answered call x).status) seen, subst (Appends old new) shown_answered w.1)

  pub reply_begun : (old new : Option (List ℕ)) → AppendsPrefix old new shown
      → IfSome (determined_within (Some call) told) (λ o. AppendsPrefix old new o.bytes)
  reply_begun old new w =
      read_determined (λ o. AppendsPrefix old new o.bytes) call r told items all small (subst (AppendsPrefix old new) shown_answered w)

checked_status : (text : List ℕ) → Done ≡ (checked text).status → Done ≡ (found (judgement text)).status
unfolding checked
checked_status text s = s

-- a text that is told, and after which a check of a certificate is done, is accepted
pub accepted_text : (R : Output → Type 0) (told : Option (List ℕ)) (result : Status) → result ≡ Done
    → (IsPlain result → IfSome (determined_within (Some Check) told) (λ o. (result ≡ o.status) × R o)) → IfSome told VerdictsHold
accepted_text R told result done says = go told (says (subst IsPlain (sym done) tt))
  where
    by_judgement : (text : List ℕ) (j : Result Counts BadLine) → judgement text ≡ j → Done ≡ (found j).status → VerdictsHold text
    by_judgement text (Ok c) e s = text_holds text c e
    by_judgement text (Err b) e s = cc

    by_length : (text : List ℕ) (b : Bool) → answered_within Check text ≡ (if b then too_long else answered Check text)
        → Done ≡ (answered_within Check text).status → VerdictsHold text
    by_length text true e s = let t : Done ≡ TooLong = s ∙ ap (λ (o : Output). o.status) e in cc
    by_length text false e s = by_judgement text (judgement text) refl (checked_status text (s ∙ ap (λ (o : Output). o.status) e))

    go : (o : Option (List ℕ)) → IfSome (option_map (answered_within Check) o) (λ o. (result ≡ o.status) × R o) → IfSome o VerdictsHold
    go None h = tt
    go (Some text) h =
        by_length text (nat_lt (limit_of (Some Check)) (length text)) (answered_so Check text (nat_lt (limit_of (Some Check)) (length text)) refl) (sym done ∙ h.0)
