use Rattle.std.proofs.Common.{◌≡◌, ◌||◌, Bool, true, false, nat_eq, nat_le, ap, ap₂, ◌∙◌, sym}
use Rattle.std.proofs.lemmas.Bool.{eq-eqb, lt-leb, le-leb, ne_eqb}
use Rattle.fm_gfp.specs.Primes.{prime_value}
use Rattle.fm_problem.specs.Statements.{statement_of}
use Rattle.fm_problem.proofs.NamedStatements.{statement_named}
use Rattle.fm_check.proofs.RingLines.{no_ring_step, not_standing, standing}
use Rattle.fm_check.proofs.SoundHeads.{ring_sound}
use Rattle.fm_check.proofs.heads.ring_line.Goals as goal
use Rattle.fm_check.proofs.heads.ring_line.Goals.{else-version-ne2-via-then-version-ne2+else-value-gt13, else-version-ne2-via-else-version-ne2}

pub returns-then-value-gt13-clause-judged : goal.returns-then-value-gt13-clause-judged
returns-then-value-gt13-clause-judged c =
    not_standing c.args.version c.args.line.now c.in-Ok.problem c.in-Ok.ensures.gives
    (ap₂ (λ (s t : Bool). s || t) (ne_eqb c.args.version 2 c.if-version-ne2.true) (ap (λ n. nat_le n 13) (sym c.value.ensures) ∙ lt-leb c.value.result 13 c.if-value-gt13.true))

pub returns-else-version-ne2-clause-judged : goal.returns-else-version-ne2-clause-judged
returns-else-version-ne2-clause-judged c = standing c.args.version c.args.line.now c.in-Ok.problem c.in-Ok.ensures.gives (elim c.else-version-ne2.branch [
  | else-version-ne2-via-then-version-ne2+else-value-gt13 w ↦
      ap₂ (λ (s t : Bool). s || t) (ne_eqb c.args.version 2 w.if-version-ne2.true) (ap (λ n. nat_le n 13) (sym w.value.ensures) ∙ le-leb w.value.result 13 w.if-value-gt13.false)
  | else-version-ne2-via-else-version-ne2 w ↦ ap (λ (t : Bool). t || nat_le (prime_value c.in-Ok.problem.ring.prime) 13) (eq-eqb c.args.version 2 w.if-version-ne2.false)
])

pub returns-else-version-ne2-clause-begun : goal.returns-else-version-ne2-clause-begun
returns-else-version-ne2-clause-begun c = ring_sound (statement_of c.args.line.now) c.in-Ok.problem (statement_named c.args.line.now) c.in-Ok.ensures.gives

pub returns-in-Err-Fault-clause-judged : goal.returns-in-Err-Fault-clause-judged
returns-in-Err-Fault-clause-judged c = no_ring_step c.args.version c.args.line.now c.in-Err-Fault.field-0-0 (rw c.in-Err-Fault.field-0-is at c.in-Err-Fault.ensures.gives)
