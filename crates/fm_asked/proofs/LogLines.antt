-- What the lines of logs do.
use Rattle.std.proofs.Common.{◌≡◌, ℕ, suc, ◌+◌, ◌-◌, true, false, nat_eq, nat_lt, List, [], length, Option, Some, None, Result, Ok, Err, refl, sym, ap, ◌∙◌, subst, arith}
use Rattle.std.proofs.lemmas.Bool.{eq-eqb}
use Rattle.fm_poly.specs.declared.ring.Ring.{Ring}
use Rattle.fm_report.specs.Parts.{Part, given}
use Rattle.fm_report.specs.Sheets.{numbered, ring_in}
use Rattle.fm_parts.specs.Replays.{Reason, Reference, Shape, Exponents, nothing_replayed, is_number}
use Rattle.fm_parts.specs.Shapes.{SIZE, rows_of, columns_of}
use Rattle.fm_parts.specs.Values.{is_within_bound}
use Rattle.fm_judge.specs.Goals.{Goal}
use Rattle.fm_judge.specs.Places.{Place}
use Rattle.fm_judge.specs.Judging.{State, log_line}
use Rattle.fm_pres.specs.Tables.{part_at}
use Rattle.fm_replay.specs.Kept.{ReplayValue, Keeps, nothing_kept}
use Rattle.fm_conditions.specs.declared.why.Refused.{Refused}
use Rattle.fm_conditions.specs.declared.why.Refused.TheVariants.{Memory, Bad}
use Rattle.fm_conditions.specs.Reasons.{Judges, reason_of}
use Rattle.fm_asked.specs.declared.logs.OpenLog.{OpenLog}
use Rattle.fm_asked.specs.OpenLogs.{AreInputsIf, with_log}
use Rattle.fm_pres.proofs.Tables.{is_number_bounds}
use Rattle.fm_asked.specs.Narrowing.{IsNumbered}
use Rattle.fm_asked.proofs.PartNumbers.{numbered_at, numbered_none}

-- ---- the part of a log

pub known_part : (ps qs : List Part) (k : ℕ) (o : Option ℕ) (n : ℕ) → qs ≡ ps → IsNumbered ps k o → o ≡ Some n → (numbered qs k ≡ Some (part_at ps n)) × (is_number ps n ≡ true)
known_part ps qs k o n e h is =
    let i = subst (IsNumbered ps k) is h in
    let b = is_number_bounds ps k i.1 in
    (ap (λ x. numbered x k) e ∙ numbered_at ps k (given 0 []) b.0 b.1 ∙ sym (ap (λ j. Some (part_at ps j)) i.0), subst (λ j. is_number ps j ≡ true) (sym i.0) i.1)

pub unknown_part : (ps : List Part) (k : ℕ) (o : Option ℕ) → IsNumbered ps k o → o ≡ None → is_number ps k ≡ false
unknown_part ps k o h is = subst (IsNumbered ps k) is h

pub next_log : (k n m : ℕ) → n ≡ m → (k ≡ 0 → ⊥) → k - 1 ≡ m → nat_eq k (suc n) ≡ true
next_log k n m l some e = eq-eqb k (suc n) (omega (arith, l, some, e))

-- ---- `log K A`

module _ (s : State) (g : Goal) (p : Place) (k a : ℕ) where
  pub no_part : (ps : List Part) → s.sheet.parts ≡ ps → nat_eq k (suc (length s.logs)) ≡ true → is_number ps a ≡ false → log_line s g p k a ≡ Err Reference
  no_part ps e h w = rw (h, ap (λ qs. numbered qs a) e ∙ numbered_none ps a w) refl

  module _ (r : Ring) (x : Part) (is : numbered s.sheet.parts a ≡ Some x) (next : nat_eq k (suc (length s.logs)) ≡ true) where
    pub too_large : nat_lt (rows_of x + columns_of x) SIZE ≡ false → log_line s g p k a ≡ Err Shape
    too_large h = rw (next, is, h) refl

    pub too_high : ring_in s.sheet.head ≡ r → nat_lt (rows_of x + columns_of x) SIZE ≡ true → is_within_bound r x ≡ false → log_line s g p k a ≡ Err Exponents
    too_high e h w = rw (next, is, h, ap (λ q. is_within_bound q x) e ∙ w) refl

    pub log_opens : ring_in s.sheet.head ≡ r → nat_lt (rows_of x + columns_of x) SIZE ≡ true → is_within_bound r x ≡ true
        → log_line s g p k a ≡ Ok (with_log s g p x nothing_replayed)
    log_opens e h w = rw (next, is, h, ap (λ q. is_within_bound q x) e ∙ w) refl

pub keeps_nothing : (r : Ring) (rows : ℕ) (v : ReplayValue) → v ≡ nothing_kept r rows → Keeps v nothing_replayed
unfolding nothing_replayed
keeps_nothing r rows v e = subst (λ (x : ReplayValue). Keeps x nothing_replayed) (sym e) (record { members = refl; taken = λ k. refl; treated = λ a b. refl })

-- a refusal to form the value
pub refusal_told : (r : Ring) (x : Part) (view : OpenLog → State) (refused : Refused) (said : Result State Reason) → AreInputsIf r x (Err refused)
    → (is_within_bound r x ≡ false → said ≡ Err Exponents) → Judges view (Err refused) said
refusal_told r x view (Bad why) said h f = f h.1 ∙ ap (λ w. Err (reason_of w)) (sym h.0)
refusal_told r x view Memory said h f = tt
