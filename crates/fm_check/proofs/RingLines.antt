-- The second and the third line of a report.
use Rattle.std.proofs.Common.{◌≡◌, ℕ, ◌<◌, Bool, true, false, ◌&&◌, ◌||◌, nat_eq, nat_le, nat_lt, List, [], length, Option, Some, None, Result, Ok, Err, refl, sym, ap, ◌∙◌, arith}
use Rattle.std.proofs.lemmas.Bool.{lt-ltb}
use Rattle.fm_gfp.specs.Primes.{prime_of, prime_value}
use Rattle.fm_gfp.specs.declared.prime.Prime.{Prime}
use Rattle.fm_mono.specs.declared.order.Order.{Order}
use Rattle.fm_words.specs.Parts.{Bytes}
use Rattle.fm_words.specs.Steps.{◌>>=◌, steps, or_fault}
use Rattle.fm_words.proofs.FirstFaults.{no_fault, same_ok, first_read}
use Rattle.fm_problem.specs.declared.fault_kind.FaultKind.{FaultKind}
use Rattle.fm_problem.specs.declared.fault_kind.FaultKind.TheVariants.{Syntax, NotPrime}
use Rattle.fm_problem.specs.declared.problem.Problem.{Problem}
use Rattle.fm_problem.specs.Problems.{plus_name, bare, ring_of, order_in, with_order}
use Rattle.fm_problem.specs.Statements.{Statement, RingLine, OrderLine, statement_of}
use Rattle.fm_problem.proofs.NamedStatements.{Named, statement_named}
use Rattle.fm_cert.specs.Lines.{Head}
use Rattle.fm_report.specs.Sheets.{Sheet, from_result, say, with_head}
use Rattle.fm_words.specs.Options.{where_so}
use Rattle.fm_parts.specs.Replays.{Reason, Form, needs}
use Rattle.fm_judge.specs.Judging.{State, at_ring, at_order, is_small_prime, judged_at, judged_line, moved_to, said_then, step}
use Rattle.fm_check.specs.Heads.{after_order, after_ring, after_version, headed}
use Rattle.fm_check.proofs.FirstSteps.{at_order_line, at_ring_line, head_judged, head_step}

-- ---- the ring line

-- whether the prime may stand in a report of this version
abbrev pub may_stand : ℕ → Problem → Bool
may_stand v q = nat_eq v 2 || nat_le (prime_value q.ring.prime) 13

abbrev pub ring_judged : ℕ → Problem → Result State Reason
ring_judged v q = needs (may_stand v q) Form >>= λ _. Ok (after_ring v q)

prime_found : (n : ℕ) (o : Option Prime) (p : Prime) → o ≡ prime_of n → or_fault {F = FaultKind} NotPrime o ≡ Ok p → prime_of n ≡ Some p
prime_found n None p is e = absurd (no_fault NotPrime p e)
prime_found n (Some x) p is e = sym is ∙ ap Some (same_ok e)

read_ring : (v n : ℕ) (names : List Bytes) (q : Problem) → 0 < length names → prime_of n ≡ Some q.ring.prime → ring_of (Some (RingLine n names)) ≡ Ok q
    → judged_at (after_version v) at_ring (Head (RingLine n names)) ≡ ring_judged v q
unfolding say Rattle.fm_report.specs.Sheets.blank
read_ring v n names q some prime read =
    ap (λ o. needs (nat_eq v 2 || is_small_prime o) Form >>= λ _. said_then (after_version v) Form (Head (RingLine n names)) at_order) prime
    ∙ ap (λ r. needs (may_stand v q) Form >>= λ _. or_fault Form (where_so (nat_lt 0 (length names)) (with_head (after_version v).sheet (from_result r)))
    >>= λ sheet. Ok (moved_to (after_version v) sheet at_order)) read
    ∙ ap (λ (t : Bool). needs (may_stand v q) Form >>= λ _. or_fault Form (where_so t (Some (headed q))) >>= λ sheet. Ok (moved_to (after_version v) sheet at_order))
    (lt-ltb 0 (length names) some)

ring_line_judged : (v : ℕ) (o : Option Statement) (q : Problem) → Named o → ring_of o ≡ Ok q → head_judged (after_version v) o ≡ ring_judged v q
unfolding judged_line
ring_line_judged v (Some (RingLine n names)) q named read =
    let p = first_read (or_fault NotPrime (prime_of n)) (λ p. steps plus_name [] names >>= λ vs. Ok (bare p vs)) q read in
    let vs = first_read (steps plus_name [] names) (λ vs. Ok (bare p.0 vs)) q p.2 in
    let prime = prime_found n (prime_of n) p.0 refl p.1 in
    read_ring v n names q named.1 (prime ∙ ap (λ (x : Problem). Some x.ring.prime) (same_ok vs.2)) read
ring_line_judged v o q named read = absurd (no_fault Syntax q read)

ring_step : (v : ℕ) (text : Bytes) (q : Problem) → ring_of (statement_of text) ≡ Ok q → step (after_version v) text ≡ ring_judged v q
ring_step v text q read =
    head_step (after_version v) (at_ring_line (after_version v) refl) text ∙ ring_line_judged v (statement_of text) q (statement_named text) read

so_none : (t : Bool) → where_so {A = Sheet} t None ≡ None
so_none true = refl
so_none false = refl

unsaid : (t : Bool) (f : Sheet → Result State Reason) (o : Option Sheet) → o ≡ None → (needs t Form >>= λ _. or_fault Form o >>= f) ≡ Err Form
unsaid false f o none = refl
unsaid true f o none = ap (λ o. or_fault Form o >>= f) none

no_ring : (v : ℕ) (o : Option Statement) (k : FaultKind) → ring_of o ≡ Err k → head_judged (after_version v) o ≡ Err Form
unfolding judged_line say
no_ring v (Some (RingLine n names)) k read =
    unsaid (nat_eq v 2 || is_small_prime (prime_of n)) (λ sheet. Ok (moved_to (after_version v) sheet at_order)) (say (after_version v).sheet (Head (RingLine n names)))
    (ap (λ r. where_so (Rattle.std.specs.Prelude.is_none (after_version v).sheet.head && nat_lt 0 (length names)) (with_head (after_version v).sheet (from_result r))) read
    ∙ so_none (Rattle.std.specs.Prelude.is_none (after_version v).sheet.head && nat_lt 0 (length names)))
no_ring v None k read = refl
no_ring v (Some statement) k read = refl

pub no_ring_step : (v : ℕ) (text : Bytes) (k : FaultKind) → ring_of (statement_of text) ≡ Err k → step (after_version v) text ≡ Err Form
no_ring_step v text k read = head_step (after_version v) (at_ring_line (after_version v) refl) text ∙ no_ring v (statement_of text) k read

pub standing : (v : ℕ) (text : Bytes) (q : Problem) → ring_of (statement_of text) ≡ Ok q → may_stand v q ≡ true → step (after_version v) text ≡ Ok (after_ring v q)
standing v text q read may = ring_step v text q read ∙ ap (λ b. needs b Form >>= λ _. Ok (after_ring v q)) may

pub not_standing : (v : ℕ) (text : Bytes) (q : Problem) → ring_of (statement_of text) ≡ Ok q → may_stand v q ≡ false → step (after_version v) text ≡ Err Form
not_standing v text q read may = ring_step v text q read ∙ ap (λ b. needs b Form >>= λ _. Ok (after_ring v q)) may

-- ---- the order line
abbrev pub order_judged : ℕ → Problem → Option Order → Result State Reason
order_judged v q None = Err Form
order_judged v q (Some o) = Ok (after_order v (with_order o q))

order_line_judged : (v : ℕ) (q : Problem) (o : Option Statement) → head_judged (after_ring v q) o ≡ order_judged v q (order_in o)
unfolding judged_line say
order_line_judged v q (Some (OrderLine o)) = refl
order_line_judged v q None = refl
order_line_judged v q (Some statement) = refl

order_step : (v : ℕ) (q : Problem) (text : Bytes) → step (after_ring v q) text ≡ order_judged v q (order_in (statement_of text))
order_step v q text = head_step (after_ring v q) (at_order_line (after_ring v q) refl) text ∙ order_line_judged v q (statement_of text)

pub order_read : (v : ℕ) (q : Problem) (text : Bytes) (o : Option Order) → o ≡ order_in (statement_of text) → step (after_ring v q) text ≡ order_judged v q o
order_read v q text o is = order_step v q text ∙ ap (order_judged v q) (sym is)
