-- A written report states what its blocks say.
use Rattle.std.proofs.Common.{◌≡◌, ℕ, suc, ◌^◌, ◌<◌, ◌≤◌, Bool, true, List, [], ◌∷◌, ◌++◌, map, length, Some, None, All, refl, sym, ap, ap₂, ◌∙◌, subst, arith, append_assoc, append-nil}
use Rattle.std.specs.List.{list_all}
use Rattle.std.proofs.lemmas.Bool.{lt-ltb}
use Rattle.std.proofs.lemmas.List.Elements.{All-head, All-tail}
use Rattle.fm_gfp.specs.Primes.{prime_value}
use Rattle.fm_gfp.proofs.Residues.{prime_in_64_bits}
use Rattle.fm_words.specs.Words.{AreNames, is_name}
use Rattle.fm_words.specs.Options.{where_so}
use Rattle.fm_words.specs.Parts.{Bytes}
use Rattle.fm_problem.specs.Limits.{most_variables}
use Rattle.fm_problem.specs.declared.ideal.Ideal.{Ideal}
use Rattle.fm_problem.specs.declared.problem.Problem.{Problem}
use Rattle.fm_problem.specs.Statements.{RingLine, OrderLine}
use Rattle.fm_problem.specs.Problems.{bare, ring_of, with_order}
use Rattle.fm_problem.specs.Sound.{IsShortName, IsIdealOf, IsProblem, AreSmallIdeals, HasSmallExponents}
use Rattle.fm_cert.specs.Kinds as kinds
use Rattle.fm_cert.specs.Lines.{Line, Head, Row, line_text}
use Rattle.fm_report.specs.Sheets.{Sheet, blank, with_head, from_result, say}
use Rattle.fm_report.specs.Reading.{sheet_after, statements}
use Rattle.fm_report.specs.Holding.{AllHold, VerdictsHold}
use Rattle.fm_cert.specs.Questions.{ideal_line, head_lines}
use Rattle.fm_report.specs.Reports.{query_lines, block_lines, report_lines, report_text, says, after, IsWritableAfter, AreWritable, QueryReport, begun, between, AreWritableBlocks, block_says, report_says, IsWritable}
use Rattle.fm_report.proofs.HeadsRead.{ring_read, ideal_read, generators_spelled}
use Rattle.fm_report.proofs.Holding.{front_holds}
use Rattle.fm_report.proofs.Written.{text_states, says_append, writable_append}

-- a sheet on which nothing stands but a head
abbrev headed : Problem → Sheet
headed q = record { head = Some q; count = 0; asked = None; answer = None; parts = []; finished = []; block = None; identity = [] }

names_named : (vs : List Bytes) → All IsShortName vs → list_all is_name vs ≡ true
names_named [] s = refl
names_named (m ∷ ms) s = Rattle.std.proofs.lemmas.Bool.and_from _ _ (All-head IsShortName m ms s).name (names_named ms (All-tail IsShortName m ms s))

module _ (version : ℕ) (low : version < 2 ^ 64) (q : Problem) (sound : IsProblem q) (small : HasSmallExponents q) where
  vs : List Bytes
  vs = q.vars

  few : length q.vars ≤ most_variables
  few = let named = sound.bounded.named in let few = sound.bounded.few in omega (arith, named, few)

  some : 0 < length q.vars
  some = let named = sound.bounded.named in let some = sound.bounded.some in omega (arith, named, some)

  first : Line
  first = Row kinds.Report (0, tt)

  first_writable : IsWritableAfter q.vars blank (Row kinds.Report (version, tt))
  unfolding blank say line_text AreNames
  first_writable = record { named = refl; listed = refl; printed = refl; writable = (tt, (low, tt)); next = blank; said = refl }

  abbrev bare_problem : Problem
  bare_problem = bare q.ring.prime q.vars

  ring_said : say blank (Head (RingLine (prime_value q.ring.prime) q.vars)) ≡ Some (headed bare_problem)
  unfolding blank say
  ring_said =
      ap (λ (t : Bool). where_so t (with_head blank (from_result (ring_of (Some (RingLine (prime_value q.ring.prime) q.vars)))))) (lt-ltb 0 (length q.vars) some)
      ∙ ap (λ r. with_head blank (from_result r)) (ring_read q.ring.prime q.vars sound.variables_apart sound.variables few)

  ring_writable : IsWritableAfter q.vars blank (Head (RingLine (prime_value q.ring.prime) q.vars))
  unfolding blank line_text AreNames
  ring_writable = record {
    named = refl;
    listed = refl;
    printed = refl;
    writable = (tt, (prime_in_64_bits q.ring.prime, some, names_named q.vars sound.variables));
    next = headed bare_problem;
    said = ring_said;
  }

  -- the ring with its order
  ordered : with_order q.ring.order bare_problem ≡ begun q []
  ordered = ap (λ n. record { ring = record { prime = q.ring.prime; vars = n; order = q.ring.order }; vars = q.vars; ideals = []; queries = [] }) sound.bounded.named

  order_said : say (headed bare_problem) (Head (OrderLine q.ring.order)) ≡ Some (headed (begun q []))
  unfolding say
  order_said = ap (λ x. Some (headed x)) ordered

  names_are : AreNames q.vars
  names_are = Rattle.fm_report.proofs.HeadsRead.named q sound small

  order_writable : IsWritableAfter q.vars (headed bare_problem) (Head (OrderLine q.ring.order))
  unfolding line_text
  order_writable = record { named = names_are; listed = refl; printed = refl; writable = (tt, tt); next = headed (begun q []); said = order_said }

  ideal_said : (front back : List Ideal) (a : Ideal) → q.ideals ≡ front ++ a ∷ back → IsIdealOf q.ring a → Rattle.fm_problem.specs.Sound.AreSmall a.generators
      → say (headed (begun q front)) (ideal_line q.vars a) ≡ Some (headed (begun q (front ++ a ∷ [])))
  unfolding say
  ideal_said front back a is good low = ap (λ r. with_head (headed (begun q front)) (from_result r)) (ideal_read q sound small front back a is good low)

  ideal_writable : (front back : List Ideal) (a : Ideal) → q.ideals ≡ front ++ a ∷ back → IsIdealOf q.ring a → Rattle.fm_problem.specs.Sound.AreSmall a.generators
      → IsWritableAfter q.vars (headed (begun q front)) (ideal_line q.vars a)
  unfolding line_text
  ideal_writable front back a is good low =
      let g = generators_spelled q.ring q.vars names_are sound.bounded.named a.generators good.of_ring low in
      record { named = names_are; listed = sound.bounded.named; printed = refl; writable = (tt, (good.named.name, g.0, g.1)); next = headed (begun q (front ++ a ∷ [])); said = ideal_said front back a is good low }

  moved : (front : List Ideal) (a : Ideal) (back : List Ideal) → q.ideals ≡ front ++ a ∷ back → q.ideals ≡ (front ++ a ∷ []) ++ back
  moved front a back is = is ∙ sym (append_assoc front (a ∷ []) back)

  ideals_writable : (front back : List Ideal) → q.ideals ≡ front ++ back → All (IsIdealOf q.ring) back → AreSmallIdeals back → AreWritable q.vars (headed (begun q front)) (map (ideal_line q.vars) back)
  ideals_writable front [] is good low = tt
  ideals_writable front (a ∷ back) is good low =
      let good_a = All-head (IsIdealOf q.ring) a back good in (
        ideal_writable front back a is good_a low.0,
        subst (λ o. AreWritable q.vars (sheet_after (headed (begun q front)) o) (map (ideal_line q.vars) back)) (sym (ideal_said front back a is good_a low.0))
            (ideals_writable (front ++ a ∷ []) back (moved front a back is) (All-tail (IsIdealOf q.ring) a back good) low.1),
      )

  ideals_after : (front back : List Ideal) → q.ideals ≡ front ++ back → All (IsIdealOf q.ring) back → AreSmallIdeals back
      → after (headed (begun q front)) (map (ideal_line q.vars) back) ≡ headed (begun q q.ideals)
  ideals_after front [] is good low = ap (λ x. headed (begun q x)) (sym (append-nil front) ∙ sym is)
  ideals_after front (a ∷ back) is good low =
      ap (λ o. after (sheet_after (headed (begun q front)) o) (map (ideal_line q.vars) back)) (ideal_said front back a is (All-head (IsIdealOf q.ring) a back good) low.0)
      ∙ ideals_after (front ++ a ∷ []) back (moved front a back is) (All-tail (IsIdealOf q.ring) a back good) low.1

  ideals_say : (s : Sheet) (is : List Ideal) → says s (map (ideal_line q.vars) is) ≡ []
  ideals_say s [] = refl
  ideals_say s (a ∷ is) = ideals_say (sheet_after s (say s (ideal_line q.vars a))) is

  first_said : say blank (Row kinds.Report (version, tt)) ≡ Some blank
  unfolding blank say
  first_said = refl

  -- ---- the head
  head_writable : AreWritable q.vars blank (head_lines version q)
  head_writable = (
    first_writable,
    subst (λ o. AreWritable q.vars (sheet_after blank o) (Head (RingLine (prime_value q.ring.prime) q.vars) ∷ Head (OrderLine q.ring.order) ∷ map (ideal_line q.vars) q.ideals)) (sym first_said) (
      ring_writable,
      subst (λ o. AreWritable q.vars (sheet_after blank o) (Head (OrderLine q.ring.order) ∷ map (ideal_line q.vars) q.ideals)) (sym ring_said) (
        order_writable,
        subst (λ o. AreWritable q.vars (sheet_after (headed bare_problem) o) (map (ideal_line q.vars) q.ideals)) (sym order_said) (ideals_writable [] q.ideals refl sound.ideals small.ideals),
      ),
    ),
  )

  is_between : headed (begun q q.ideals) ≡ between q 0
  unfolding between
  is_between = refl

  head_after : after blank (head_lines version q) ≡ between q 0
  head_after =
      ap (λ o. after (sheet_after blank o) (Head (RingLine (prime_value q.ring.prime) q.vars) ∷ Head (OrderLine q.ring.order) ∷ map (ideal_line q.vars) q.ideals)) first_said
      ∙ ap (λ o. after (sheet_after blank o) (Head (OrderLine q.ring.order) ∷ map (ideal_line q.vars) q.ideals)) ring_said
      ∙ ap (λ o. after (sheet_after (headed bare_problem) o) (map (ideal_line q.vars) q.ideals)) order_said
      ∙ ideals_after [] q.ideals refl sound.ideals small.ideals ∙ is_between

  head_says : says blank (head_lines version q) ≡ []
  head_says = ideals_say (sheet_after (sheet_after (sheet_after blank (say blank (Row kinds.Report (version, tt)))) (say (sheet_after blank (say blank (Row kinds.Report (version, tt)))) (Head (RingLine (prime_value q.ring.prime) q.vars))))
      (say (sheet_after (sheet_after blank (say blank (Row kinds.Report (version, tt)))) (say (sheet_after blank (say blank (Row kinds.Report (version, tt)))) (Head (RingLine (prime_value q.ring.prime) q.vars)))) (Head (OrderLine q.ring.order)))) q.ideals

  -- ---- the blocks
  end_writable : (k : ℕ) → AreWritable q.vars (between q k) (Row kinds.EndReport tt ∷ [])
  unfolding between line_text say
  end_writable k = (record { named = names_are; listed = sound.bounded.named; printed = refl; writable = (tt, tt); next = between q k; said = refl }, tt)

  blocks_writable : (k : ℕ) (bs : List QueryReport) → AreWritableBlocks q k bs → AreWritable q.vars (between q k) (query_lines q (suc k) bs ++ Row kinds.EndReport tt ∷ [])
  blocks_writable k [] w = end_writable k
  blocks_writable k (b ∷ bs) w =
      subst (AreWritable q.vars (between q k)) (sym (append_assoc (block_lines q (suc k) b) (query_lines q (suc (suc k)) bs) (Row kinds.EndReport tt ∷ [])))
      (writable_append q.vars (between q k) (block_lines q (suc k) b) (query_lines q (suc (suc k)) bs ++ Row kinds.EndReport tt ∷ []) w.0.lines
      (subst (λ s. AreWritable q.vars s (query_lines q (suc (suc k)) bs ++ Row kinds.EndReport tt ∷ [])) (sym w.0.ends) (blocks_writable (suc k) bs w.1)))

  blocks_say : (k : ℕ) (bs : List QueryReport) → AreWritableBlocks q k bs → says (between q k) (query_lines q (suc k) bs ++ Row kinds.EndReport tt ∷ []) ≡ report_says q k bs
  blocks_say k [] w = refl
  blocks_say k (b ∷ bs) w =
      ap (says (between q k)) (append_assoc (block_lines q (suc k) b) (query_lines q (suc (suc k)) bs) (Row kinds.EndReport tt ∷ []))
      ∙ says_append (between q k) (block_lines q (suc k) b) (query_lines q (suc (suc k)) bs ++ Row kinds.EndReport tt ∷ [])
      ∙ ap (λ s. block_says q k b ++ says s (query_lines q (suc (suc k)) bs ++ Row kinds.EndReport tt ∷ [])) w.0.ends
      ∙ ap (λ rest. block_says q k b ++ rest) (blocks_say (suc k) bs w.1)

  report_writable : (bs : List QueryReport) → AreWritableBlocks q 0 bs → AreWritable q.vars blank (report_lines version q bs)
  report_writable bs w =
      writable_append q.vars blank (head_lines version q) (query_lines q 1 bs ++ Row kinds.EndReport tt ∷ []) head_writable
      (subst (λ s. AreWritable q.vars s (query_lines q 1 bs ++ Row kinds.EndReport tt ∷ [])) (sym head_after) (blocks_writable 0 bs w))

  lines_say : (bs : List QueryReport) → AreWritableBlocks q 0 bs → says blank (report_lines version q bs) ≡ report_says q 0 bs
  lines_say bs w =
      says_append blank (head_lines version q) (query_lines q 1 bs ++ Row kinds.EndReport tt ∷ [])
      ∙ ap₂ (λ x s. x ++ says s (query_lines q 1 bs ++ Row kinds.EndReport tt ∷ [])) head_says head_after ∙ blocks_say 0 bs w

  written : (bs : List QueryReport) → AreWritableBlocks q 0 bs → statements (report_text version q bs) ≡ report_says q 0 bs
  unfolding report_text
  written bs w = text_states q.vars (report_lines version q bs) (report_writable bs w) ∙ lines_say bs w

pub report_read : (version : ℕ) (q : Problem) (bs : List QueryReport) → version < 2 ^ 64 → IsWritable q bs → statements (report_text version q bs) ≡ report_says q 0 bs
report_read version q bs few w = written version few q w.problem w.exponents bs w.blocks

pub report_holds : (version : ℕ) (q : Problem) (bs : List QueryReport) → version < 2 ^ 64 → IsWritable q bs → AllHold (report_says q 0 bs) → (front back : Bytes) → report_text version q bs ≡ front ++ back → VerdictsHold front
unfolding VerdictsHold
report_holds version q bs few w h front back e = front_holds front back (subst VerdictsHold e (subst AllHold (sym (report_read version q bs few w)) h))
