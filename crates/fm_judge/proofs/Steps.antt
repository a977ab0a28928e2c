-- A line that is judged well is said, states only what holds, and keeps what has been shown.
use Rattle.std.proofs.Common.{◌≡◌, ℕ, suc, ◌+◌, Bool, true, false, ◌||◌, nat_eq, nat_lt, if◌then◌else◌, List, [], ◌∷◌, ◌++◌, map, length, Option, Some, None, option_map, is_some, Ok, refl, sym, ap, ap₂, ◌∙◌, subst}
use Rattle.std.proofs.lemmas.Bool.{eqb-true}
use Rattle.fm_gfp.specs.Primes.{prime_of}
use Rattle.fm_words.specs.Options.{◌>>=◌ as ◌followed_by◌, all_of}
use Rattle.fm_words.specs.Steps.{◌>>=◌, or_fault}
use Rattle.fm_words.proofs.FirstFaults.{no_fault, same_ok, first_read}
use Rattle.fm_poly.specs.declared.ring.Ring.{Ring}
use Rattle.fm_problem.specs.Problems.{query_in}
use Rattle.fm_problem.specs.Statements.{Statement, RingLine, OrderLine, IdealLine}
use Rattle.fm_problem.specs.declared.problem.Problem.{Problem}
use Rattle.fm_problem.specs.declared.query.Query.{Query}
use Rattle.fm_groebner.specs.Logs.{Entry}
use Rattle.fm_cert.specs.Fields.{Values}
use Rattle.fm_cert.specs.Kinds.{EndKind, Kind, end_row, row}
use Rattle.fm_cert.specs.Kinds as kinds
use Rattle.fm_cert.specs.Lines.{Line, Head, Question, Row}
use Rattle.fm_report.specs.Parts.{Part, part_value}
use Rattle.fm_report.specs.Parts as parts
use Rattle.fm_report.specs.Sheets.{Sheet, Answer, ring_in, numbered, is_answer, one_part, two_parts, from_zero, begin_query, from_result, say, say_part, say_answer}
use Rattle.fm_report.specs.Reading.{stated_by, stated_at_done}
use Rattle.fm_report.specs.Holding.{AllHold}
use Rattle.fm_parts.specs.Shapes.{SIZE, rows_of, columns_of, fits, is_shallow}
use Rattle.fm_parts.specs.Values.{is_within_bound}
use Rattle.fm_parts.specs.Replays.{Form, Exponents, Reference, Shape, Depth, BadLog, needs, nothing_replayed, replay_entry, is_whole}
use Rattle.fm_parts.specs.Conditions.{Log, judged}
use Rattle.fm_parts.specs.Sound.{IsSoundLog}
use Rattle.fm_parts.proofs.Results.{needed, there_is}
use Rattle.fm_parts.proofs.Wholes.{open_begins, open_goes_on, open_ends}
use Rattle.fm_parts.proofs.Judged.{judged_say}
use Rattle.fm_judge.specs.Goals.{Aim, Goal, goal_of}
use Rattle.fm_judge.specs.Goals as aims
use Rattle.fm_judge.specs.Places.{Place, first_place}
use Rattle.fm_judge.specs.Claims.{Claim, claim}
use Rattle.fm_judge.specs.Judging.{OpenLog, Stage, at_start, at_ring, at_order, between_queries, at_answer, in_certificate, in_log, at_done, State, moved_to, said_then, goal_in, may_end_in, stage_at, answer_line, passed_line, end_line, columns_exist, part_line, log_line, inputs_in, entry_line, end_log_line, log_entry, block_at, claim_in, place_line, certificate_line, judged_at, is_small_prime}
use Rattle.fm_judge.proofs.Options.{same_some, followed, mapped, where_true, last_number}
use Rattle.fm_judge.proofs.Goods.{AreGood, good_append, good_at}
use Rattle.fm_judge.proofs.Stated.{blocks_before, first_side, first_is}
use Rattle.fm_judge.proofs.Facts.{HasBlock, FactsAt}
use Rattle.fm_judge.proofs.Claimed.{AreSound}
use Rattle.fm_judge.proofs.Placed.{place_taken}
use Rattle.fm_judge.proofs.Kept.{own_shape, Certified, IsOpenLog, IsAsked, entered, said_so, outcome_at, KeptAt, Outcome}
use Rattle.fm_judge.proofs.Datums.{datum_outcome}

-- ---- answers
ring_is : (s : Sheet) (q : Problem) → s.head ≡ Some q → ring_in s.head ≡ q.ring
ring_is s q e = ap ring_in e

first_facts : (q : Problem) (g : Goal) (ls : List Part) → blocks_before g.aim ≡ [] → (aim : Aim) → g.aim ≡ aim → FactsAt q g ls (first_place aim) None
first_facts q g ls none (aims.membership f inside) a = (f, inside, a)
first_facts q g ls none (aims.resolution ranks) a = (subst HasBlock (sym a) tt, none)
first_facts q g ls none (aims.ext m n) a = (subst HasBlock (sym a) tt, none)
first_facts q g ls none (aims.root m t) a = (subst HasBlock (sym a) tt, none)
first_facts q g ls none (aims.vanishing is_zero t) a = (subst HasBlock (sym a) tt, none)
first_facts q g ls none (aims.dying e z m) a = (subst HasBlock (sym a) tt, none)
first_facts q g ls none (aims.living e z) a = (subst HasBlock (sym a) tt, none)
first_facts q g ls none (aims.inverting f power) a = (subst HasBlock (sym a) tt, none)
first_facts q g ls none (aims.support ideal) a = (subst HasBlock (sym a) tt, none)
first_facts q g ls none (aims.outgoing target x y o) a = (subst HasBlock (sym a) tt, none)
first_facts q g ls none (aims.incoming source x y o) a = (subst HasBlock (sym a) tt, none)

answered : (s t : State) (kind : EndKind) (v : Values (end_row kind)) → IsAsked s.sheet s.logs → is_answer kind ≡ true → answer_line s kind v ≡ Ok t → Outcome s (Row (kinds.Ended kind) v) t
unfolding say
answered s t kind v A is e =
    let after = λ (g : Goal) (sheet : Sheet). record s { sheet = sheet; stage = stage_at g (first_place g.aim); verdicts = suc s.verdicts } in
    let x = there_is Form (goal_in s.sheet.head s.sheet.asked kind v) (λ g. or_fault Form (say s.sheet (Row (kinds.Ended kind) v)) >>= λ sheet. Ok (after g sheet)) t e in
    let y = there_is Form (say s.sheet (Row (kinds.Ended kind) v)) (λ sheet. Ok (after x.0 sheet)) t x.2 in
    let g = x.0 in
    let a : Answer = record { kind = kind; values = v } in
    let goal_is : goal_of A.q A.z kind v ≡ Some g = ap₂ (λ o o'. goal_in o o' kind v) (sym A.head_is) (sym A.asked_is) ∙ x.1 in
    let answer_said : say_answer s.sheet a ≡ Some y.0 = ap (λ b. if b then say_answer s.sheet a else Some s.sheet) (sym is) ∙ y.1 in
    let w = where_true (Rattle.std.specs.Prelude.is_none s.sheet.answer) (◌followed_by◌ s.sheet.asked (λ z. Some (record s.sheet { answer = Some a }))) y.0 answer_said in
    let m = followed s.sheet.asked (λ z. Some (record s.sheet { answer = Some a })) y.0 w.1 in
    let sheet_is : record s.sheet { answer = Some a } ≡ y.0 = same_some m.2 in
    let first = first_is A.q A.z kind v g goal_is in
    let sound = subst (AreSound (A.q).ring) (sym A.no_logs) tt in
    let certified : Certified (record s.sheet { answer = Some a }) s.logs g (first_place g.aim) = record {
      q = A.q;
      z = A.z;
      a = a;
      goal_is = first_side g goal_is;
      fine = first.0;
      sound = sound;
      under = record { head_is = A.head_is; asked_is = A.asked_is; answer_is = refl; finished_is = A.no_finished ∙ sym first.1; good = subst AreGood (sym A.no_parts) tt };
      facts = subst (FactsAt A.q g s.sheet.identity (first_place g.aim)) (sym A.no_block) (first_facts A.q g s.sheet.identity first.1 g.aim refl);
    } in
    subst (Outcome s (Row (kinds.Ended kind) v)) (same_ok y.2) (y.1, entered y.0 s.logs g (first_place g.aim) (subst (λ sheet. Certified sheet s.logs g (first_place g.aim)) sheet_is certified), tt)

passed : (s t : State) (kind : EndKind) (v : Values (end_row kind)) → IsAsked s.sheet s.logs → is_answer kind ≡ false → passed_line s kind v ≡ Ok t → Outcome s (Row (kinds.Ended kind) v) t
unfolding say
passed s t kind v A is e =
    let after = λ (sheet : Sheet). record s { sheet = sheet; stage = at_done; passed = suc s.passed } in
    let x = needed (may_end_in s.sheet.asked kind v) Form (λ _. or_fault Form (say s.sheet (Row (kinds.Ended kind) v)) >>= λ sheet. Ok (after sheet)) t e in
    let y = there_is Form (say s.sheet (Row (kinds.Ended kind) v)) (λ sheet. Ok (after sheet)) t x.1 in
    let same : s.sheet ≡ y.0 = same_some (ap (λ b. if b then say_answer s.sheet (record { kind = kind; values = v }) else Some s.sheet) (sym is) ∙ y.1) in
    let nothing : AllHold (stated_at_done s.sheet s.sheet.head s.sheet.asked s.sheet.answer) = subst (λ o. AllHold (stated_at_done s.sheet s.sheet.head s.sheet.asked o)) (sym A.no_answer) (states_nothing s.sheet s.sheet.head s.sheet.asked) in
    subst (Outcome s (Row (kinds.Ended kind) v)) (same_ok y.2) (y.1, subst (λ (sheet : Sheet). AllHold (stated_at_done sheet sheet.head sheet.asked sheet.answer)) same nothing, tt)
  where
    states_nothing : (s : Sheet) (o : Option Problem) (o' : Option Query) → AllHold (stated_at_done s o o' None)
    states_nothing s None None = tt
    states_nothing s None (Some z) = tt
    states_nothing s (Some q) None = tt
    states_nothing s (Some q) (Some z) = tt

ends : (s t : State) (kind : EndKind) (v : Values (end_row kind)) → IsAsked s.sheet s.logs → end_line s kind v ≡ Ok t → Outcome s (Row (kinds.Ended kind) v) t
ends s t kind v A e = go (is_answer kind) refl e
  where
    go : (b : Bool) → is_answer kind ≡ b → (if b then answer_line s kind v else passed_line s kind v) ≡ Ok t → Outcome s (Row (kinds.Ended kind) v) t
    go true is h = answered s t kind v A is h
    go false is h = passed s t kind v A is h

-- ---- parts
part_taken : (s s' : Sheet) (logs : List Log) (g : Goal) (p : Place) (k : ℕ) (o : Option Part) (a : Part) → Certified s logs g p → say_part s k o ≡ Some s' → numbered s'.parts k ≡ Some a → fits a ≡ true → Certified s' logs g p
part_taken s s' logs g p k o a C e n f =
    let w = where_true (nat_eq k (suc (length s.parts))) (option_map (λ x. record s { parts = s.parts ++ x ∷ [] }) o) s' e in
    let m = mapped (λ x. record s { parts = s.parts ++ x ∷ [] }) o s' w.1 in
    let b = m.0 in
    let same : b ≡ a = last_number s.parts b a k (eqb-true k (suc (length s.parts)) w.0) (ap (λ (x : Sheet). numbered x.parts k) m.2 ∙ n) in
    let U = C.under in
    subst (λ s'. Certified s' logs g p) m.2 (record {
      q = C.q;
      z = C.z;
      a = C.a;
      goal_is = C.goal_is;
      fine = C.fine;
      sound = C.sound;
      under = record { head_is = U.head_is; asked_is = U.asked_is; answer_is = U.answer_is; finished_is = U.finished_is; good = good_append s.parts b U.good (subst (λ x. fits x ≡ true) (sym same) f) };
      facts = C.facts;
    })

part_outcome : (s t : State) (g : Goal) (p : Place) (k : ℕ) (l : Line) (o : Option Part) → Certified s.sheet s.logs g p → say s.sheet l ≡ say_part s.sheet k o → AllHold (stated_by s.sheet l) → part_line s (in_certificate g p) k l ≡ Ok t → Outcome s l t
part_outcome s t g p k l o C is none e =
    let stage = in_certificate g p in
    let last = λ (sheet : Sheet) (x : Unit {0}). Ok (moved_to s sheet stage) in
    let fourth = λ (sheet : Sheet) (a : Part). needs (columns_exist a) Reference >>= λ _. needs (fits a) Shape >>= λ _. needs (is_shallow a) Depth >>= last sheet in
    let x = needed (nat_eq k (suc (length s.sheet.parts))) Form (λ _. or_fault Reference (say s.sheet l) >>= λ sheet. or_fault Reference (numbered sheet.parts k) >>= fourth sheet) t e in
    let y = there_is Reference (say s.sheet l) (λ sheet. or_fault Reference (numbered sheet.parts k) >>= fourth sheet) t x.1 in
    let n = there_is Reference (numbered (y.0).parts k) (fourth y.0) t y.2 in
    let c = needed (columns_exist n.0) Reference (λ _. needs (fits n.0) Shape >>= λ _. needs (is_shallow n.0) Depth >>= last y.0) t n.2 in
    let f = needed (fits n.0) Shape (λ _. needs (is_shallow n.0) Depth >>= last y.0) t c.1 in
    let d = needed (is_shallow n.0) Depth (last y.0) t f.1 in
    outcome_at s t l y.0 stage y.1 (same_ok d.1) (part_taken s.sheet y.0 s.logs g p k o n.0 C (sym is ∙ y.1) n.1 f.0) none

-- ---- logs
log_outcome : (s t : State) (g : Goal) (p : Place) (k a : ℕ) → Certified s.sheet s.logs g p → log_line s g p k a ≡ Ok t → Outcome s (Row kinds.Log (k, (a, tt))) t
unfolding say
log_outcome s t g p k a C e =
    let r = ring_in s.sheet.head in
    let after = λ (x : Part). record s { stage = in_log g p (record { part = x; replay = nothing_replayed }) } in
    let x = needed (nat_eq k (suc (length s.logs))) Form
    (λ _. or_fault Reference (numbered s.sheet.parts a) >>= λ x. needs (nat_lt (rows_of x + columns_of x) SIZE) Shape >>= λ _. needs (is_within_bound r x) Exponents >>= λ _. Ok (after x)) t e in
    let y = there_is Reference (numbered s.sheet.parts a) (λ x. needs (nat_lt (rows_of x + columns_of x) SIZE) Shape >>= λ _. needs (is_within_bound r x) Exponents >>= λ _. Ok (after x)) t x.1 in
    let w = needed (nat_lt (rows_of y.0 + columns_of y.0) SIZE) Shape (λ _. needs (is_within_bound r y.0) Exponents >>= λ _. Ok (after y.0)) t y.2 in
    let b = needed (is_within_bound r y.0) Exponents (λ _. Ok (after y.0)) t w.1 in
    let f = good_at s.sheet.parts a y.0 C.under.good y.1 in
    subst (Outcome s (Row kinds.Log (k, (a, tt)))) (same_ok b.1) (refl, (C, record { fit = f; within = b.0; open_log = open_begins r (part_value r y.0) (own_shape r y.0 f) }), tt)

entry_outcome : (s t : State) (g : Goal) (p : Place) (log : OpenLog) (l : Line) (x : Entry) → Certified s.sheet s.logs g p → IsOpenLog (ring_in s.sheet.head) log → say s.sheet l ≡ Some s.sheet → AllHold (stated_by s.sheet l)
    → entry_line s g p log x ≡ Ok t → Outcome s l t
entry_outcome s t g p log l x C O is none e =
    let r = ring_in s.sheet.head in
    let y = first_read (replay_entry r (inputs_in s log) log.replay x) (λ y. Ok (record s { stage = in_log g p (record { part = log.part; replay = y }) })) t e in
    subst (Outcome s l) (same_ok y.2) (is, (C, record { fit = O.fit; within = O.within; open_log = open_goes_on r (part_value r log.part) (own_shape r log.part O.fit) log.replay y.0 x O.open_log y.1 }), none)

sound_append : (r : Ring) (logs : List Log) (log : Log) → AreSound r logs → IsSoundLog r log → AreSound r (logs ++ log ∷ [])
sound_append r [] log a s = (s, tt)
sound_append r (x ∷ xs) log a s = (a.0, sound_append r xs log a.1 s)

ended_outcome : (s t : State) (g : Goal) (p : Place) (log : OpenLog) → Certified s.sheet s.logs g p → IsOpenLog (ring_in s.sheet.head) log → end_log_line s g p log ≡ Ok t → Outcome s (Row kinds.EndLog tt) t
unfolding say
ended_outcome s t g p log C O e =
    let r = ring_in s.sheet.head in
    let closed : Log = record { part = log.part; members = log.replay.members } in
    let x = needed (is_whole (inputs_in s log) log.replay) BadLog (λ _. Ok (record s { stage = in_certificate g p; logs = s.logs ++ closed ∷ [] })) t e in
    let is : IsSoundLog r closed = record { fits = O.fit; within = O.within; basis = open_ends r (part_value r log.part) (own_shape r log.part O.fit) log.replay O.open_log x.0 } in
    let U = C.under in
    let certified : Certified s.sheet (s.logs ++ closed ∷ []) g p = record {
      q = C.q;
      z = C.z;
      a = C.a;
      goal_is = C.goal_is;
      fine = C.fine;
      sound = sound_append (C.q).ring s.logs closed C.sound (subst (λ r. IsSoundLog r closed) (ring_is s.sheet C.q U.head_is) is);
      under = record { head_is = U.head_is; asked_is = U.asked_is; answer_is = U.answer_is; finished_is = U.finished_is; good = U.good };
      facts = C.facts;
    } in
    subst (Outcome s (Row kinds.EndLog tt)) (same_ok x.1) (refl, certified, tt)

log_lines : (s t : State) (g : Goal) (p : Place) (log : OpenLog) (kind : Kind) (v : Values (row kind)) → Certified s.sheet s.logs g p × IsOpenLog (ring_in s.sheet.head) log → log_entry s g p log kind v ≡ Ok t → Outcome s (Row kind v) t
unfolding say
log_lines s t g p log kinds.Input (k, (by, (keep, u))) K e = entry_outcome s t g p log (Row kinds.Input (k, (by, (keep, u)))) _ K.0 K.1 refl tt e
log_lines s t g p log kinds.Pair (a, (b, (by, (keep, u)))) K e = entry_outcome s t g p log (Row kinds.Pair (a, (b, (by, (keep, u))))) _ K.0 K.1 refl tt e
log_lines s t g p log kinds.Skip (a, (b, (k, u))) K e =
    let x = needed (nat_eq s.version 2) Form (λ _. entry_line s g p log _) t e in entry_outcome s t g p log (Row kinds.Skip (a, (b, (k, u)))) _ K.0 K.1 refl tt x.1
log_lines s t g p log kinds.EndLog u K e = ended_outcome s t g p log K.0 K.1 e
log_lines s t g p log kind v K e = absurd (no_fault Form t e)

-- ---- the lines of places
place_outcome : (s t : State) (g : Goal) (p : Place) (kind : Kind) (v : Values (row kind)) → Certified s.sheet s.logs g p → place_line s g p kind v ≡ Ok t → Outcome s (Row kind v) t
place_outcome s t g p kind v C e =
    let l = Row kind v in
    let h = ring_in s.sheet.head in
    let last = λ (sheet : Sheet) (c : Claim) (x : Unit {0}). Ok (moved_to s sheet (stage_at g c.next)) in
    let third = λ (sheet : Sheet) (c : Claim). or_fault Reference c.conditions >>= λ cs. judged h cs >>= last sheet c in
    let x = needed (is_some (claim_in s g s.sheet p kind v)) Form (λ _. or_fault Reference (say s.sheet l) >>= λ sheet. or_fault Form (claim_in s g sheet p kind v) >>= third sheet) t e in
    let y = there_is Reference (say s.sheet l) (λ sheet. or_fault Form (claim_in s g sheet p kind v) >>= third sheet) t x.1 in
    let c = there_is Form (claim_in s g y.0 p kind v) (third y.0) t y.2 in
    let cs = there_is Reference (c.0).conditions (λ cs. judged h cs >>= last y.0 c.0) t c.2 in
    let j = first_read (judged h cs.0) (last y.0 c.0) t cs.2 in
    let U = C.under in
    let ring = ring_is s.sheet C.q U.head_is in
    let taken = place_taken C.q C.z C.a g C.fine s.logs C.sound p kind v s.sheet y.0 U C.facts y.1 c.0
    (subst (λ r. claim r g (block_at (y.0).block) (y.0).parts s.logs p kind v ≡ Some c.0) ring c.1) cs.0 cs.1 in
    let facts = taken.2 (judged_say (C.q).ring cs.0 taken.1 j.0 (subst (λ r. judged r cs.0 ≡ Ok j.0) ring j.1)) in
    let certified : Certified y.0 s.logs g (c.0).next = record {
      q = C.q;
      z = C.z;
      a = C.a;
      goal_is = C.goal_is;
      fine = C.fine;
      sound = C.sound;
      under = taken.0;
      facts = facts.0;
    } in
    outcome_at s t l y.0 (stage_at g (c.0).next) y.1 (same_ok j.2) (entered y.0 s.logs g (c.0).next certified) facts.1

certificate_lines : (s t : State) (g : Goal) (p : Place) (kind : Kind) (v : Values (row kind)) → Certified s.sheet s.logs g p → certificate_line s g p kind v ≡ Ok t → Outcome s (Row kind v) t
unfolding say
certificate_lines s t g p kinds.Given (k, (rows, (columns, u))) C e = part_outcome s t g p k (Row kinds.Given (k, (rows, (columns, u)))) (Some (parts.given rows columns)) C refl tt e
certificate_lines s t g p kinds.Twist (k, (a, (b, u))) C e = part_outcome s t g p k (Row kinds.Twist (k, (a, (b, u)))) (one_part s.sheet (λ x. parts.twist x b) a) C refl tt e
certificate_lines s t g p kinds.Flip (k, (a, u)) C e = part_outcome s t g p k (Row kinds.Flip (k, (a, u))) (one_part s.sheet parts.flip a) C refl tt e
certificate_lines s t g p kinds.Beside (k, (a, (b, u))) C e = part_outcome s t g p k (Row kinds.Beside (k, (a, (b, u)))) (two_parts s.sheet parts.beside a b) C refl tt e
certificate_lines s t g p kinds.Stack (k, (a, (b, u))) C e = part_outcome s t g p k (Row kinds.Stack (k, (a, (b, u)))) (two_parts s.sheet parts.stack a b) C refl tt e
certificate_lines s t g p kinds.Times (k, (a, (b, u))) C e = part_outcome s t g p k (Row kinds.Times (k, (a, (b, u)))) (two_parts s.sheet parts.times a b) C refl tt e
certificate_lines s t g p kinds.Pick (k, (a, (js, u))) C e = part_outcome s t g p k (Row kinds.Pick (k, (a, (js, u)))) (◌followed_by◌ (all_of (map from_zero js)) (λ js. one_part s.sheet (λ x. parts.pick x js) a)) C refl tt e
certificate_lines s t g p kinds.Log (k, (a, u)) C e = log_outcome s t g p k a C e
certificate_lines s t g p kinds.Datum (name, (i, u)) C e = datum_outcome s t g p name i C e
certificate_lines s t g p kind v C e = place_outcome s t g p kind v C e

-- ---- all lines
question_outcome : (s t : State) (k : ℕ) (x : Statement) → (or_fault Form (say s.sheet (Question k x)) >>= λ sheet. Ok (record s { sheet = sheet; stage = at_answer; logs = [] })) ≡ Ok t → Outcome s (Question k x) t
unfolding say
question_outcome s t k x e =
    let a = there_is Form (say s.sheet (Question k x)) (λ sheet. Ok (record s { sheet = sheet; stage = at_answer; logs = [] })) t e in
    let w = where_true (nat_eq k (suc s.sheet.count)) (◌followed_by◌ s.sheet.head (λ q. option_map (begin_query s.sheet k) (from_result (query_in q x)))) a.0 a.1 in
    let q = followed s.sheet.head (λ q. option_map (begin_query s.sheet k) (from_result (query_in q x))) a.0 w.1 in
    let z = mapped (begin_query s.sheet k) (from_result (query_in q.0 x)) a.0 q.2 in
    let fresh : IsAsked (begin_query s.sheet k z.0) [] = record {
      q = q.0;
      z = z.0;
      head_is = q.1;
      asked_is = refl;
      no_answer = refl;
      no_parts = refl;
      no_finished = refl;
      no_block = refl;
      no_logs = refl;
    } in
    subst (Outcome s (Question k x)) (same_ok a.2) (a.1, subst (λ sheet. IsAsked sheet []) z.2 fresh, tt)

pub line_outcome : (s t : State) (stage : Stage) (l : Line) → KeptAt s.sheet s.logs stage → judged_at s stage l ≡ Ok t → Outcome s l t
unfolding say
line_outcome s t at_start (Row kinds.Report (v, u)) K e =
    let x = needed (nat_eq v 1 || nat_eq v 2) Form (λ _. Ok (record s { stage = at_ring; version = v })) t e in subst (Outcome s (Row kinds.Report (v, u))) (same_ok x.1) (refl, tt, tt)
line_outcome s t at_ring (Head (RingLine n names)) K e =
    let l = Head (RingLine n names) in
    let x = needed (nat_eq s.version 2 || is_small_prime (prime_of n)) Form (λ _. said_then s Form l at_order) t e in
    let d = said_so s t Form l at_order x.1 in outcome_at s t l d.0 at_order d.1 d.2 tt tt
line_outcome s t at_order (Head (OrderLine o)) K e = let d = said_so s t Form (Head (OrderLine o)) between_queries e in outcome_at s t (Head (OrderLine o)) d.0 between_queries d.1 d.2 tt tt
line_outcome s t between_queries (Head (IdealLine name texts)) K e =
    let l = Head (IdealLine name texts) in
    let x = needed (nat_eq s.sheet.count 0) Form (λ _. said_then s Form l between_queries) t e in
    let d = said_so s t Form l between_queries x.1 in outcome_at s t l d.0 between_queries d.1 d.2 tt tt
line_outcome s t between_queries (Question k x) K e = question_outcome s t k x e
line_outcome s t between_queries (Row kinds.EndReport u) K e = subst (Outcome s (Row kinds.EndReport u)) (same_ok e) (refl, tt, tt)
line_outcome s t at_answer (Row (kinds.Ended kind) v) K e = ends s t kind v K e
line_outcome s t (in_certificate g p) (Row kind v) K e = certificate_lines s t g p kind v K e
line_outcome s t (in_log g p log) (Row kind v) K e = log_lines s t g p log kind v K e
line_outcome s t at_done (Row kinds.Done (k, u)) K e =
    let d = said_so s t Form (Row kinds.Done (k, u)) between_queries e in outcome_at s t (Row kinds.Done (k, u)) d.0 between_queries d.1 d.2 tt K
line_outcome s t stage l K e = absurd (no_fault Form t e)
