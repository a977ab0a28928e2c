-- A valid text states as many verdicts at the ends of its queries as are counted.
use Rattle.std.proofs.Common.{◌≡◌, ℕ, suc, ◌+◌, ◌≤◌, Bool, true, false, ◌&&◌, ◌||◌, if◌then◌else◌, nat_eq, nat_lt, List, [], ◌∷◌, ◌++◌, length, Option, Some, None, option_map, is_some, is_none, Result, Ok, Err, refl, sym, ap, ◌∙◌, subst, subst₂, arith, true≢false, length-append}
use Rattle.std.specs.Prelude.{IfSome, IfOk}
use Rattle.fm_gfp.specs.Primes.{prime_of}
use Rattle.fm_words.specs.Options.{◌>>=◌, where_so}
use Rattle.fm_words.specs.Steps.{◌>>=◌ as ◌then◌, or_fault, place}
use Rattle.fm_words.specs.Parts.{Bytes}
use Rattle.fm_words.specs.Words.{same_bytes}
use Rattle.fm_words.proofs.FirstFaults.{no_fault, same_ok, first_read}
use Rattle.fm_problem.specs.Problems.{ideal_names}
use Rattle.fm_problem.specs.Statements.{Statement, RingLine, OrderLine, IdealLine}
use Rattle.fm_problem.specs.declared.problem.Problem.{Problem}
use Rattle.fm_problem.specs.declared.query.Query.{Query}
use Rattle.fm_problem.specs.declared.query.Query as queries
use Rattle.fm_groebner.specs.Logs.{Entry}
use Rattle.fm_cert.specs.Fields.{Values}
use Rattle.fm_cert.specs.Kinds.{EndKind, Kind, end_row, row}
use Rattle.fm_cert.specs.Kinds as kinds
use Rattle.fm_cert.specs.Lines.{Line, Head, Question, Row}
use Rattle.fm_report.specs.Parts.{Part, given}
use Rattle.fm_report.specs.Sheets.{Block, Answer, Sheet, blank, new_block, blocks_of, is_about, ring_in, numbered, is_answer, say_head, say_question, say_answer, say_end, say_part, say_named, say_differential, add_differential, say_datum, say_done, say_row, say}
use Rattle.fm_report.specs.Reading.{line_in, lines_from, said_of, sheet_after, stated_at_done}
use Rattle.fm_parts.specs.Shapes.{SIZE, rows_of, columns_of, fits, is_shallow}
use Rattle.fm_parts.specs.Values.{is_within_bound}
use Rattle.fm_parts.specs.Replays.{Reason, Form, Exponents, Reference, Shape, Depth, Value, BadLog, needs, nothing_replayed, replay_entry, is_whole}
use Rattle.fm_parts.specs.Conditions.{judged}
use Rattle.fm_judge.specs.Goals.{Goal}
use Rattle.fm_judge.specs.Places.{Place, first_place}
use Rattle.fm_judge.specs.Places as places
use Rattle.fm_judge.specs.Judging.{OpenLog, Stage, at_start, at_ring, at_order, between_queries, at_answer, in_certificate, in_log, at_done, at_end, State, start, moved_to, said_then, is_small_prime, goal_in, may_end_in, stage_at, answer_line, passed_line, end_line, columns_exist, part_line, log_line, inputs_in, entry_line, log_entry, names_ideal, datum_line, datum_place, claim_in, place_line, certificate_line, judged_at, judged_line, unread, without_exponents, judged_read, step, Counts, ended, at_line, judged_lines, unended_from, all_lines, judgement}
use Rattle.fm_judge.proofs.Kept.{KeptAt, Kept, said_so}
use Rattle.fm_judge.proofs.Steps.{line_outcome}
use Rattle.fm_check.specs.Counted.{stated_at_end, verdicts_after, verdicts_stated}

-- 1 where there is an answer: its verdict has not been stated
abbrev pending : Option Answer → ℕ
pending None = 0
pending (Some a) = 1

-- ---- the answer after a line that is said

-- where it can be said, the sheet has this answer
Leaves : Option Answer → Option Sheet → Type 0
Leaves a o = IfSome o (λ t. t.answer ≡ a)

leaves : (t : Sheet) → Leaves t.answer (Some t)
unfolding Leaves
leaves t = refl

leaves_none : (a : Option Answer) → Leaves a None
unfolding Leaves
leaves_none a = tt

leaves_where : (a : Option Answer) (b : Bool) (o : Option Sheet) → Leaves a o → Leaves a (where_so b o)
leaves_where a true o h = h
leaves_where a false o h = leaves_none a

leaves_bind : {X : Type 0} (a : Option Answer) (o : Option X) (f : X → Option Sheet) → ((x : X) → Leaves a (f x)) → Leaves a (o >>= f)
leaves_bind a None f h = leaves_none a
leaves_bind a (Some x) f h = h x

leaves_map : {X : Type 0} (a : Option Answer) (f : X → Sheet) (o : Option X) → ((x : X) → (f x).answer ≡ a) → Leaves a (option_map f o)
unfolding Leaves
leaves_map a f None h = leaves_none a
leaves_map a f (Some x) h = h x

part_leaves : (s : Sheet) (k : ℕ) (o : Option Part) → Leaves s.answer (say_part s k o)
part_leaves s k o = leaves_where _ _ _ (leaves_map _ _ o (λ x. refl))

named_leaves : (s : Sheet) (wanted : Block → ℕ) (n : ℕ) (add : Block → Part → Block) (k : ℕ) → Leaves s.answer (say_named s wanted n add k)
named_leaves s wanted n add k = leaves_bind _ s.block _ (λ b. leaves_where _ _ _ (leaves_map _ _ (numbered s.parts k) (λ x. refl)))

differential_leaves : (s : Sheet) (b : Option Block) (z : Option Query) (j k : ℕ) → Leaves s.answer (say_differential s b z j k)
differential_leaves s None (Some (queries.TheVariants.Member m f)) j k = leaves_map _ (λ x. s) (numbered s.parts k) (λ x. refl)
differential_leaves s None z j k = leaves_none s.answer
differential_leaves s (Some b) z j k = named_leaves s (λ b. suc (length b.differentials)) j add_differential k

datum_leaves : (s : Sheet) (name : Bytes) (j : ℕ) → Leaves s.answer (say_datum s name j)
datum_leaves s name j =
    leaves_bind _ s.head _ (λ q. leaves_bind _ s.asked _ (λ z. leaves_bind _ (place 0 name (ideal_names q)) _ (λ m.
    leaves_where _ (is_about z (blocks_of s) m j) _ (leaves (record s { finished = blocks_of s; block = Some (new_block m j) })))))

head_leaves : (s : Sheet) (x : Statement) → Leaves s.answer (say_head s x)
head_leaves s (RingLine p names) = leaves_where _ _ _ (leaves_map _ _ _ (λ x. refl))
head_leaves s (OrderLine o) = leaves_map _ _ _ (λ x. refl)
head_leaves s (IdealLine m texts) = leaves_map _ _ _ (λ x. refl)
head_leaves s x = leaves_none s.answer

question_leaves : (s : Sheet) (k : ℕ) (x : Statement) → Leaves None (say_question s k x)
question_leaves s k x = leaves_where _ _ _ (leaves_bind _ s.head _ (λ q. leaves_map _ _ _ (λ z. refl)))

answer_leaves : (s : Sheet) (a : Answer) → Leaves (Some a) (say_answer s a)
answer_leaves s a = leaves_where _ _ _ (leaves_bind _ s.asked _ (λ z. leaves (record s { answer = Some a })))

done_leaves : (s : Sheet) (k : ℕ) → Leaves None (say_done s k)
done_leaves s k =
    leaves_where _ _ _ (leaves_bind _ s.asked _ (λ z.
    leaves (record { head = s.head; count = s.count; asked = None; answer = None; parts = []; finished = []; block = None; identity = [] })))

-- no second answer is said
end_leaves : (s : Sheet) (a : Answer) (e : EndKind) (v : Values (end_row e)) → s.answer ≡ Some a → Leaves s.answer (say_end s e v)
end_leaves s a e v h = by (is_answer e)
  where
    second : Answer
    second = record { kind = e; values = v }

    by : (b : Bool) → Leaves s.answer (if b then say_answer s second else Some s)
    by true = subst (λ o. Leaves s.answer (where_so (is_none o) (s.asked >>= λ z. Some (record s { answer = Some second })))) (sym h) (leaves_none s.answer)
    by false = leaves s

-- the answer after a row, where there was this one
abbrev left_by : Kind → Option Answer → Option Answer
left_by kinds.Done a = None
left_by kind a = a

row_leaves : (s : Sheet) (a : Answer) (kind : Kind) (v : Values (row kind)) → s.answer ≡ Some a → Leaves (left_by kind s.answer) (say_row s kind v)
row_leaves s a (kinds.Ended e) v h = end_leaves s a e v h
row_leaves s a kinds.Given v h = part_leaves s v.0 (Some (given v.1.0 v.1.1.0))
row_leaves s a kinds.Twist v h = part_leaves s v.0 _
row_leaves s a kinds.Flip v h = part_leaves s v.0 _
row_leaves s a kinds.Beside v h = part_leaves s v.0 _
row_leaves s a kinds.Stack v h = part_leaves s v.0 _
row_leaves s a kinds.Times v h = part_leaves s v.0 _
row_leaves s a kinds.Pick v h = part_leaves s v.0 _
row_leaves s a kinds.Datum v h = datum_leaves s v.0 v.1.0
row_leaves s a kinds.D v h = differential_leaves s s.block s.asked v.0 v.1.0
row_leaves s a kinds.Theta v h = named_leaves s _ v.0 _ v.1.0
row_leaves s a kinds.Cocycles v h = named_leaves s _ 0 _ v.0
row_leaves s a kinds.Z v h = named_leaves s _ 0 _ v.0
row_leaves s a kinds.Relations v h = named_leaves s _ 0 _ v.0
row_leaves s a kinds.N v h = named_leaves s _ 0 _ v.0
row_leaves s a kinds.Morphism v h = named_leaves s _ 0 _ v.0
row_leaves s a kinds.U v h = named_leaves s _ 0 _ v.0
row_leaves s a kinds.Chain v h = leaves_where _ _ _ (named_leaves s _ v.0 _ v.1.0)
row_leaves s a kinds.K v h = leaves_where _ _ _ (named_leaves s _ v.0 _ v.1.0)
row_leaves s a kinds.Stable v h = leaves_bind _ s.block _ (λ b. leaves_where _ _ _ (leaves s))
row_leaves s a kinds.Lambda v h = leaves_where _ _ _ (leaves_map _ _ (numbered s.parts v.1.0) (λ x. refl))
row_leaves s a kinds.Done v h = done_leaves s v.0
row_leaves s a kind v h = leaves s

done_states : (s : Sheet) (q : Option Problem) (z : Option Query) (o : Option Answer) → length (stated_at_done s q z o) ≡ pending o
done_states s q z None = refl
done_states s (Some q) (Some z) (Some a) = refl
done_states s q z (Some a) = refl

row_states : (s : Sheet) (kind : Kind) (v : Values (row kind)) → length (stated_at_end s (Some (Row kind v))) + pending (left_by kind s.answer) ≡ pending s.answer
row_states s kinds.Done v = let n = done_states s s.head s.asked s.answer in omega (arith, n)
row_states s kind v = omega arith

-- ---- the count after a line that is judged well

-- no query is at hand
abbrev is_between : Stage → Bool
is_between at_answer = false
is_between (in_certificate g p) = false
is_between (in_log g p log) = false
is_between at_done = false
is_between stage = true

-- how many queries have an answer, and whether no query is at hand
abbrev standing : State → ℕ × Bool
standing t = (t.verdicts, is_between t.stage)

-- where it is judged well, the state stands so
Comes : ℕ × Bool → Result State Reason → Type 0
Comes c r = IfOk r (λ t. standing t ≡ c)

comes : (t : State) → Comes (standing t) (Ok t)
unfolding Comes
comes t = refl

comes_after : {X : Type 0} (c : ℕ × Bool) (r : Result X Reason) (f : X → Result State Reason) → ((x : X) → Comes c (f x)) → Comes c (◌then◌ r f)
unfolding Comes
comes_after c (Ok x) f h = h x
comes_after c (Err why) f h = tt

said_comes : (s : State) (why : Reason) (l : Line) (stage : Stage) → Comes (s.verdicts, is_between stage) (said_then s why l stage)
said_comes s why l stage = comes_after _ (or_fault why (say s.sheet l)) _ (λ sheet. comes (moved_to s sheet stage))

part_comes : (s : State) (g : Goal) (p : Place) (k : ℕ) (l : Line) → Comes (s.verdicts, false) (part_line s (in_certificate g p) k l)
part_comes s g p k l =
    comes_after _ (needs (nat_eq k (suc (length s.sheet.parts))) Form) _ (λ _. comes_after _ (or_fault Reference (say s.sheet l)) _ (λ sheet. comes_after _ (or_fault Reference (numbered sheet.parts k)) _ (λ a.
    comes_after _ (needs (columns_exist a) Reference) _ (λ _. comes_after _ (needs (fits a) Shape) _ (λ _. comes_after _ (needs (is_shallow a) Depth) _ (λ _. comes (moved_to s sheet (in_certificate g p))))))))

log_comes : (s : State) (g : Goal) (p : Place) (k a : ℕ) → Comes (s.verdicts, false) (log_line s g p k a)
log_comes s g p k a =
    comes_after _ (needs (nat_eq k (suc (length s.logs))) Form) _ (λ _. comes_after _ (or_fault Reference (numbered s.sheet.parts a)) _ (λ x. comes_after _ (needs (nat_lt (rows_of x + columns_of x) SIZE) Shape) _ (λ _.
    comes_after _ (needs (is_within_bound (ring_in s.sheet.head) x) Exponents) _ (λ _. comes (record s { stage = in_log g p (record { part = x; replay = nothing_replayed }) })))))

entry_comes : (s : State) (g : Goal) (p : Place) (log : OpenLog) (x : Entry) → Comes (s.verdicts, false) (entry_line s g p log x)
entry_comes s g p log x =
    comes_after _ (replay_entry (ring_in s.sheet.head) (inputs_in s log) log.replay x) _ (λ y. comes (record s { stage = in_log g p (record { part = log.part; replay = y }) }))

log_entry_comes : (s : State) (g : Goal) (p : Place) (log : OpenLog) (kind : Kind) (v : Values (row kind)) → Comes (s.verdicts, false) (log_entry s g p log kind v)
unfolding Comes
log_entry_comes s g p log kinds.Input v = entry_comes s g p log _
log_entry_comes s g p log kinds.Pair v = entry_comes s g p log _
log_entry_comes s g p log kinds.Skip v = comes_after _ (needs (nat_eq s.version 2) Form) _ (λ _. entry_comes s g p log _)
log_entry_comes s g p log kinds.EndLog v =
    comes_after _ (needs (is_whole (inputs_in s log) log.replay) BadLog) _ (λ _.
    comes (record s { stage = in_certificate g p; logs = s.logs ++ record { part = log.part; members = log.replay.members } ∷ [] }))
log_entry_comes s g p log kind v = tt

datum_line_comes : (s : State) (g : Goal) (name : Bytes) (i : ℕ) → Comes (s.verdicts, false) (datum_line s g name i)
datum_line_comes s g name i =
    comes_after _ (needs (names_ideal s.sheet.head name) Reference) _ (λ _. comes_after _ (needs (same_bytes name g.name && nat_eq i g.degree) Value) _ (λ _. said_comes s Value _ (in_certificate g (places.differential 0))))

datum_comes : (s : State) (g : Goal) (p : Place) (name : Bytes) (i : ℕ) → Comes (s.verdicts, false) (datum_place s g p name i)
unfolding Comes
datum_comes s g places.datum name i = datum_line_comes s g name i
datum_comes s g (places.datum_beyond t) name i = datum_line_comes s _ name i
datum_comes s g p name i = tt

under_way : (g : Goal) (p : Place) → is_between (stage_at g p) ≡ false
under_way g places.end = refl
under_way g p = refl

goes_on : (t : State) (g : Goal) (p : Place) → t.stage ≡ stage_at g p → Comes (t.verdicts, false) (Ok t)
unfolding Comes
goes_on t g p h = ap (λ b. (t.verdicts, b)) (ap is_between h ∙ under_way g p)

place_comes : (s : State) (g : Goal) (p : Place) (kind : Kind) (v : Values (row kind)) → Comes (s.verdicts, false) (place_line s g p kind v)
place_comes s g p kind v =
    comes_after _ (needs (is_some (claim_in s g s.sheet p kind v)) Form) _ (λ _. comes_after _ (or_fault Reference (say s.sheet (Row kind v))) _ (λ sheet.
    comes_after _ (or_fault Form (claim_in s g sheet p kind v)) _ (λ c. comes_after _ (or_fault Reference c.conditions) _ (λ cs. comes_after _ (judged (ring_in s.sheet.head) cs) _ (λ _.
    goes_on (moved_to s sheet (stage_at g c.next)) g c.next refl)))))

certificate_comes : (s : State) (g : Goal) (p : Place) (kind : Kind) (v : Values (row kind)) → Comes (s.verdicts, false) (certificate_line s g p kind v)
certificate_comes s g p kinds.Given v = part_comes s g p v.0 _
certificate_comes s g p kinds.Twist v = part_comes s g p v.0 _
certificate_comes s g p kinds.Flip v = part_comes s g p v.0 _
certificate_comes s g p kinds.Beside v = part_comes s g p v.0 _
certificate_comes s g p kinds.Stack v = part_comes s g p v.0 _
certificate_comes s g p kinds.Times v = part_comes s g p v.0 _
certificate_comes s g p kinds.Pick v = part_comes s g p v.0 _
certificate_comes s g p kinds.Log v = log_comes s g p v.0 v.1.0
certificate_comes s g p kinds.Datum v = datum_comes s g p v.0 v.1.0
certificate_comes s g p kind v = place_comes s g p kind v

-- ---- a line that is judged well

-- no answer is pending where no query is at hand
IsSettled : Stage → Sheet → Type 0
IsSettled stage s = is_between stage ≡ true → pending s.answer ≡ 0

-- what is stated or pending goes along with the count
IsCounted : State → Line → State → Type 0
IsCounted s l t = (s.verdicts + length (stated_at_end s.sheet (Some l)) + pending t.sheet.answer ≡ t.verdicts + pending s.sheet.answer) × IsSettled t.stage t.sheet

counted : (c : ℕ × Bool) (a : Option Answer) (s t : State) (l : Line) (r : Result State Reason) → Comes c r → r ≡ Ok t → Leaves a (say s.sheet l) → say s.sheet l ≡ Some t.sheet
    → s.verdicts + length (stated_at_end s.sheet (Some l)) + pending a ≡ c.0 + pending s.sheet.answer → (c.1 ≡ true → pending a ≡ 0) → IsCounted s l t
unfolding Comes Leaves IsCounted IsSettled
counted c a s t l r h e left said same none =
    let d : standing t ≡ c = subst (λ r. Comes c r) e h in
    let n : t.verdicts ≡ c.0 = ap (λ x. x.0) d in
    let m : pending t.sheet.answer ≡ pending a = ap pending (subst (λ o. Leaves a o) said left) in
    (omega (arith, n, m, same), λ i. m ∙ none (sym (ap (λ x. x.1) d) ∙ i))

-- one that leaves the answer as it is, between queries
passed_by : (s t : State) (l : Line) (r : Result State Reason) → Comes (s.verdicts, true) r → r ≡ Ok t → Leaves s.sheet.answer (say s.sheet l) → say s.sheet l ≡ Some t.sheet
    → length (stated_at_end s.sheet (Some l)) ≡ 0 → pending s.sheet.answer ≡ 0 → IsCounted s l t
passed_by s t l r h e left said nothing none = counted (s.verdicts, true) s.sheet.answer s t l r h e left said (omega (arith, nothing)) (λ _. none)

-- a row in a certificate or in a log
under_query : (s t : State) (kind : Kind) (v : Values (row kind)) (a : Answer) (r : Result State Reason) → s.sheet.answer ≡ Some a → Comes (s.verdicts, false) r → r ≡ Ok t → say s.sheet (Row kind v) ≡ Some t.sheet
    → IsCounted s (Row kind v) t
unfolding say
under_query s t kind v a r is h e said =
    let n = row_states s.sheet kind v in
    counted (s.verdicts, false) (left_by kind s.sheet.answer) s t (Row kind v) r h e (row_leaves s.sheet a kind v is) said (omega (arith, n)) (λ x. absurd (true≢false (sym x)))

end_counted : (s t : State) (kind : EndKind) (v : Values (end_row kind)) → pending s.sheet.answer ≡ 0 → end_line s kind v ≡ Ok t → say s.sheet (Row (kinds.Ended kind) v) ≡ Some t.sheet → IsCounted s (Row (kinds.Ended kind) v) t
unfolding say
end_counted s t kind v none e said = by (is_answer kind) refl e
  where
    a : Answer
    a = record { kind = kind; values = v }

    answers : Comes (suc s.verdicts, false) (answer_line s kind v)
    answers =
        comes_after _ (or_fault Form (goal_in s.sheet.head s.sheet.asked kind v)) _ (λ g. comes_after _ (or_fault Form (say s.sheet (Row (kinds.Ended kind) v))) _ (λ sheet.
        goes_on (record s { sheet = sheet; stage = stage_at g (first_place g.aim); verdicts = suc s.verdicts }) g (first_place g.aim) refl))

    passes : Comes (s.verdicts, false) (passed_line s kind v)
    passes =
        comes_after _ (needs (may_end_in s.sheet.asked kind v) Form) _ (λ _. comes_after _ (or_fault Form (say s.sheet (Row (kinds.Ended kind) v))) _ (λ sheet.
        comes (record s { sheet = sheet; stage = at_done; passed = suc s.passed })))

    by : (b : Bool) → is_answer kind ≡ b → (if b then answer_line s kind v else passed_line s kind v) ≡ Ok t → IsCounted s (Row (kinds.Ended kind) v) t
    by true is h =
        counted (suc s.verdicts, false) (Some a) s t (Row (kinds.Ended kind) v) (answer_line s kind v) answers h
        (subst (λ b. Leaves (Some a) (if b then say_answer s.sheet a else Some s.sheet)) (sym is) (answer_leaves s.sheet a)) said (omega (arith, none)) (λ x. absurd (true≢false (sym x)))
    by false is h =
        counted (s.verdicts, false) s.sheet.answer s t (Row (kinds.Ended kind) v) (passed_line s kind v) passes h
        (subst (λ b. Leaves s.sheet.answer (if b then say_answer s.sheet a else Some s.sheet)) (sym is) (leaves s.sheet)) said (omega arith) (λ x. absurd (true≢false (sym x)))

line_counted : (s t : State) (stage : Stage) (l : Line) → KeptAt s.sheet s.logs stage → IsSettled stage s.sheet → judged_at s stage l ≡ Ok t → say s.sheet l ≡ Some t.sheet → IsCounted s l t
unfolding say IsSettled
line_counted s t at_start (Row kinds.Report v) K B e said =
    passed_by s t (Row kinds.Report v) _ (comes_after _ (needs (nat_eq v.0 1 || nat_eq v.0 2) Form) _ (λ _. comes (record s { stage = at_ring; version = v.0 }))) e (leaves s.sheet) said refl (B refl)
line_counted s t at_ring (Head (RingLine n names)) K B e said =
    let l = Head (RingLine n names) in
    passed_by s t l _ (comes_after _ (needs (nat_eq s.version 2 || is_small_prime (prime_of n)) Form) _ (λ _. said_comes s Form l at_order)) e (head_leaves s.sheet (RingLine n names)) said refl (B refl)
line_counted s t at_order (Head (OrderLine o)) K B e said =
    let l = Head (OrderLine o) in passed_by s t l _ (said_comes s Form l between_queries) e (head_leaves s.sheet (OrderLine o)) said refl (B refl)
line_counted s t between_queries (Head (IdealLine name texts)) K B e said =
    let l = Head (IdealLine name texts) in
    passed_by s t l _ (comes_after _ (needs (nat_eq s.sheet.count 0) Form) _ (λ _. said_comes s Form l between_queries)) e (head_leaves s.sheet (IdealLine name texts)) said refl (B refl)
line_counted s t between_queries (Question k x) K B e said =
    let none = B refl in
    counted (s.verdicts, false) None s t (Question k x) _ (comes_after _ (or_fault Form (say s.sheet (Question k x))) _ (λ sheet. comes (record s { sheet = sheet; stage = at_answer; logs = [] })))
    e (question_leaves s.sheet k x) said (omega (arith, none)) (λ _. refl)
line_counted s t between_queries (Row kinds.EndReport v) K B e said = passed_by s t (Row kinds.EndReport v) _ (comes (record s { stage = at_end })) e (leaves s.sheet) said refl (B refl)
line_counted s t at_answer (Row (kinds.Ended kind) v) K B e said = end_counted s t kind v (ap pending K.no_answer) e said
line_counted s t (in_certificate g p) (Row kind v) K B e said = under_query s t kind v K.a _ K.under.answer_is (certificate_comes s g p kind v) e said
line_counted s t (in_log g p log) (Row kind v) K B e said = under_query s t kind v (K.0).a _ (K.0).under.answer_is (log_entry_comes s g p log kind v) e said
line_counted s t at_done (Row kinds.Done v) K B e said =
    let n = row_states s.sheet kinds.Done v in
    counted (s.verdicts, true) None s t (Row kinds.Done v) _ (said_comes s Form (Row kinds.Done v) between_queries) e (done_leaves s.sheet v.0) said (omega (arith, n)) (λ _. refl)
line_counted s t stage l K B e said = absurd (no_fault Form t e)

-- ---- all lines

-- a line that is judged well was read
line_read : (n : ℕ) (s t : State) (text : Bytes) → at_line n (step s text) ≡ Ok t → (l : Line) × (line_in s.sheet text ≡ Some l) × (judged_line s l ≡ Ok t)
unfolding step
line_read n s t text e = by (line_in s.sheet text) refl e
  where
    judged : (x : Result State Reason) → at_line n x ≡ Ok t → x ≡ Ok t
    judged (Ok u) e = ap (λ (y : State). Ok y) (same_ok e)
    judged (Err why) e = absurd (no_fault (record { line = n; why = why }) t e)

    by : (o : Option Line) → line_in s.sheet text ≡ o → at_line n (judged_read s text o) ≡ Ok t → (l : Line) × (line_in s.sheet text ≡ Some l) × (judged_line s l ≡ Ok t)
    by None i h = absurd (no_fault (unread s (line_in s.sheet (without_exponents text))) t (judged _ h))
    by (Some l) i h = (l, i, judged _ h)

ended_at : (n : ℕ) (s t : State) (stage : Stage) → ended n s stage ≡ Ok t → (stage ≡ at_end) × (s ≡ t)
ended_at n s t at_end e = (refl, same_ok e)
ended_at n s t stage e = absurd (no_fault _ t e)

-- no `done` is the last line of a report
done_goes_on : (s t : State) (stage : Stage) (v : Values (row kinds.Done)) → judged_at s stage (Row kinds.Done v) ≡ Ok t → t.stage ≡ at_end → ⊥
unfolding Comes
done_goes_on s t at_done v e h = let d = said_so s t Form (Row kinds.Done v) between_queries e in let o : between_queries ≡ at_end = ap (λ (x : State). x.stage) d.2 ∙ h in cc
done_goes_on s t (in_certificate g p) v e h = let c = subst (λ r. Comes (s.verdicts, false) r) e (place_comes s g p kinds.Done v) in true≢false (sym (ap is_between h) ∙ ap (λ x. x.1) c)
done_goes_on s t stage v e h = no_fault Form t e

end_states : (s t : State) (stage : Stage) (l : Line) → judged_at s stage l ≡ Ok t → t.stage ≡ at_end → length (stated_at_end s.sheet (Some l)) ≡ 0
end_states s t stage (Row kinds.Done v) e h = absurd (done_goes_on s t stage v e h)
end_states s t stage l e h = refl

unended_once : (line text : Bytes) → length (unended_from line text) ≤ 1
unended_once [] [] = omega arith
unended_once (b ∷ line) [] = omega arith
unended_once line (b ∷ bs) = by (nat_eq b 10) (unended_once [] bs) (unended_once (line ++ b ∷ []) bs)
  where
    by : (t : Bool) → length (unended_from [] bs) ≤ 1 → length (unended_from (line ++ b ∷ []) bs) ≤ 1 → length (if t then unended_from [] bs else unended_from (line ++ b ∷ []) bs) ≤ 1
    by true h k = h
    by false h k = k

-- the lines xs state what is counted, where at most one line without LF follows
lines_counted : (n : ℕ) (s t : State) (xs ys : List Bytes) → length ys ≤ 1 → Kept s → IsSettled s.stage s.sheet → judged_lines n s (xs ++ ys) ≡ Ok t
    → s.verdicts + length (verdicts_after s.sheet xs) ≡ t.verdicts + pending s.sheet.answer
unfolding judged_line IsCounted IsSettled
lines_counted n s t [] [] few K B e =
    let d = ended_at n s t s.stage e in
    let v = ap (λ (x : State). x.verdicts) d.1 in
    let b = B (ap is_between d.0) in
    omega (arith, v, b)
lines_counted n s t [] (y ∷ []) few K B e =
    let a = first_read (at_line n (step s y)) (λ u. judged_lines (suc n) u []) t e in
    let u = a.0 in
    let r = line_read n s u y a.1 in
    let c = line_counted s u s.stage r.0 K B r.2 (line_outcome s u s.stage r.0 K r.2).0 in
    let d = ended_at (suc n) u t u.stage a.2 in
    let v = ap (λ (x : State). x.verdicts) d.1 in
    let b = c.1 (ap is_between d.0) in
    let none = end_states s u s.stage r.0 r.2 d.0 in
    let c0 = c.0 in
    omega (arith, v, b, none, c0)
lines_counted n s t [] (y ∷ z ∷ ys) few K B e = absurd (omega (arith, few))
lines_counted n s t (x ∷ xs) ys few K B e =
    let a = first_read (at_line n (step s x)) (λ u. judged_lines (suc n) u (xs ++ ys)) t e in
    let u = a.0 in
    let r = line_read n s u x a.1 in
    let o = line_outcome s u s.stage r.0 K r.2 in
    let c = line_counted s u s.stage r.0 K B r.2 o.0 in
    let c0 = c.0 in
    let rest = lines_counted (suc n) u t xs ys few o.1 c.1 a.2 in
    let count = length-append (stated_at_end s.sheet (Some r.0)) (verdicts_after u.sheet xs) in
    let said : said_of s.sheet (line_in s.sheet x) ≡ Some u.sheet = ap (said_of s.sheet) r.1 ∙ o.0 in
    subst₂ (λ (l : Option Line) (sheet : Option Sheet). s.verdicts + length (stated_at_end s.sheet l ++ verdicts_after (sheet_after s.sheet sheet) xs) ≡ t.verdicts + pending s.sheet.answer) (sym r.1) (sym said) (omega (arith, c0, rest, count))

pub text_counted : (text : Bytes) (c : Counts) → judgement text ≡ Ok c → length (verdicts_stated text) ≡ c.verdicts
unfolding judgement verdicts_stated start blank IsSettled
text_counted text c e =
    let a = first_read (judged_lines 1 start (all_lines text)) (λ s. Ok (record { verdicts = s.verdicts; passed = s.passed })) c e in
    let n = lines_counted 1 start a.0 (lines_from [] text) (unended_from [] text) (unended_once [] text) tt (λ _. refl) a.1 in
    let v = ap (λ (x : Counts). x.verdicts) (same_ok a.2) in
    omega (arith, n, v)
