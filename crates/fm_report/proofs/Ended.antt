-- Each answer that is ended is stated.
use Rattle.std.proofs.Common.{◌≡◌, ℕ, suc, ◌+◌, ◌≤◌, Bool, true, false, if◌then◌else◌, List, [], ◌∷◌, ◌++◌, length, Option, Some, None, option_map, is_some, is_none, refl, sym, ap, ap₂, ◌∙◌, subst, arith, length-append}
use Rattle.std.specs.Prelude.{codes, cond}
use Rattle.std.specs.List.{list_all, onto_first}
use Rattle.std.proofs.lemmas.Bool.{and_parts, eqb-true}
use Rattle.fm_algebra.specs.Poly.{Some-same}
use Rattle.fm_words.specs.Options.{◌>>=◌, where_so}
use Rattle.fm_words.specs.declared.mark.Mark.TheVariants.{Blank}
use Rattle.fm_words.specs.Parts.{Bytes, is_mark, parts, before_mark, after_mark}
use Rattle.fm_words.specs.Words.{nonempty, words, same_bytes}
use Rattle.fm_problem.specs.Statements.{Statement, statement_of}
use Rattle.fm_problem.specs.declared.problem.Problem.{Problem}
use Rattle.fm_problem.specs.declared.query.Query.{Query}
use Rattle.fm_problem.specs.declared.query.Query as queries
use Rattle.fm_cert.specs.Fields.{Values, exact_number, read_row}
use Rattle.fm_cert.specs.Kinds.{EndKind, Kind, row, first_item, kind_among, part_kind, answer_kind, unanswered_kind, refused_kind, closing_kind, by_first, kind_of}
use Rattle.fm_cert.specs.Kinds as kinds
use Rattle.fm_cert.specs.Lines.{Line, Head, Question, Row, is_full, exact_words, begins_head, question_of, row_of, line_of}
use Rattle.fm_words.specs.Steps.{place}
use Rattle.fm_problem.specs.Problems.{ideal_names}
use Rattle.fm_report.specs.Parts.{Part, given}
use Rattle.fm_report.specs.Sheets.{Block, Answer, Sheet, blank, new_block, blocks_of, is_about, ring_in, names_in, numbered, say_head, say_answer, is_answer, say_end, say_part, say_named, say_differential, add_differential, say_datum, say_row, say}
use Rattle.fm_report.specs.Verdicts.{Stated, unreadable}
use Rattle.fm_report.specs.Reading.{stated_at_done, stated_by, rests_on, broken, line_in, said_of, states, sheet_after, reading, lines_from, statements}
use Rattle.fm_report.specs.Answered.{begins_with, ended_answers, answers_of}

same_name : (x y : Bytes) → same_bytes x y ≡ true → x ≡ y
same_name [] [] h = refl
same_name [] (b ∷ y) h = absurd (let e : false ≡ true = h in cc)
same_name (a ∷ x) [] h = absurd (let e : false ≡ true = h in cc)
same_name (a ∷ x) (b ∷ y) h = ap₂ (λ u v. u ∷ v) (eqb-true a b (and_parts _ _ h).0) (same_name x y (and_parts _ _ h).1)

-- ---- what is taken apart
none_some : {A : Type 0} (x : A) → ◌≡◌ {A = Option A} None (Some x) → ⊥
none_some x e = cc

-- ---- lines that leave the answer as it is
Kept : Sheet → Option Sheet → Type 0
Kept s o = (t : Sheet) → o ≡ Some t → t.answer ≡ s.answer

kept_none : (s : Sheet) → Kept s None
unfolding Kept
kept_none s = λ t e. absurd (none_some t e)

kept_some : (s u : Sheet) → u.answer ≡ s.answer → Kept s (Some u)
unfolding Kept
kept_some s u h = λ t e. ap (λ (x : Sheet). x.answer) (sym (Some-same e)) ∙ h

kept_where : (s : Sheet) (b : Bool) (o : Option Sheet) → Kept s o → Kept s (where_so b o)
kept_where s true o h = h
kept_where s false o h = kept_none s

kept_map : {X : Type 0} (s : Sheet) (f : X → Sheet) (o : Option X) → ((x : X) → (f x).answer ≡ s.answer) → Kept s (option_map f o)
kept_map s f None h = kept_none s
kept_map s f (Some x) h = kept_some s (f x) (h x)

kept_bind : {X : Type 0} (s : Sheet) (o : Option X) (f : X → Option Sheet) → ((x : X) → Kept s (f x)) → Kept s (o >>= f)
kept_bind s None f h = kept_none s
kept_bind s (Some x) f h = h x

kept_part : (s : Sheet) (k : ℕ) (o : Option Part) → Kept s (say_part s k o)
kept_part s k o = kept_where s _ (option_map (λ a. record s { parts = s.parts ++ a ∷ [] }) o) (kept_map s (λ a. record s { parts = s.parts ++ a ∷ [] }) o (λ x. refl))

kept_named : (s : Sheet) (wanted : Block → ℕ) (n : ℕ) (add : Block → Part → Block) (k : ℕ) → Kept s (say_named s wanted n add k)
kept_named s wanted n add k = kept_bind s s.block _ (λ b. kept_where s _ (option_map (λ x. record s { block = Some (add b x) }) (numbered s.parts k)) (kept_map s (λ x. record s { block = Some (add b x) }) (numbered s.parts k) (λ x. refl)))

kept_differential : (s : Sheet) (b : Option Block) (z : Option Query) (j k : ℕ) → Kept s (say_differential s b z j k)
kept_differential s None (Some (queries.TheVariants.Member m f)) j k = kept_map s (λ x. s) (numbered s.parts k) (λ x. refl)
kept_differential s None None j k = kept_none s
kept_differential s None (Some (queries.TheVariants.Zero i m)) j k = kept_none s
kept_differential s None (Some (queries.TheVariants.Class i m e z)) j k = kept_none s
kept_differential s None (Some (queries.TheVariants.Root i m)) j k = kept_none s
kept_differential s None (Some (queries.TheVariants.Invert i m f)) j k = kept_none s
kept_differential s None (Some (queries.TheVariants.Support i m)) j k = kept_none s
kept_differential s None (Some (queries.TheVariants.Map i m t)) j k = kept_none s
kept_differential s None (Some (queries.TheVariants.Resolution i m)) j k = kept_none s
kept_differential s None (Some (queries.TheVariants.ExtOf i m)) j k = kept_none s
kept_differential s (Some b) z j k = kept_named s (λ b. suc (length b.differentials)) j add_differential k

kept_end : (s : Sheet) (a : Answer) (e : EndKind) (v : Values (kinds.end_row e)) → s.answer ≡ Some a → Kept s (say_end s e v)
kept_end s a e v h = by (is_answer e)
  where
    twice : Kept s (say_answer s (record { kind = e; values = v }))
    twice = subst (λ o. Kept s (where_so (is_none o) (s.asked >>= λ z. Some (record s { answer = Some (record { kind = e; values = v }) })))) (sym h) (kept_none s)

    by : (b : Bool) → Kept s (if b then say_answer s (record { kind = e; values = v }) else Some s)
    by true = twice
    by false = kept_some s s refl

datum_kept : (s : Sheet) (name : Bytes) (j : ℕ) → Kept s (say_datum s name j)
datum_kept s name j =
    kept_bind s s.head _ (λ q. kept_bind s s.asked _ (λ z. kept_bind s (place 0 name (ideal_names q)) _ (λ m.
    kept_where s (is_about z (blocks_of s) m j) _ (kept_some s (record s { finished = blocks_of s; block = Some (new_block m j) }) refl))))

abbrev is_done : Kind → Bool
is_done kinds.Done = true
is_done kind = false

row_kept : (s : Sheet) (a : Answer) (k : Kind) (v : Values (row k)) → s.answer ≡ Some a → is_done k ≡ false → Kept s (say_row s k v)
row_kept s a (kinds.Ended e) v h d = kept_end s a e v h
row_kept s a kinds.Given v h d = kept_part s v.0 (Some (given v.1.0 v.1.1.0))
row_kept s a kinds.Twist v h d = kept_part s v.0 _
row_kept s a kinds.Flip v h d = kept_part s v.0 _
row_kept s a kinds.Beside v h d = kept_part s v.0 _
row_kept s a kinds.Stack v h d = kept_part s v.0 _
row_kept s a kinds.Times v h d = kept_part s v.0 _
row_kept s a kinds.Pick v h d = kept_part s v.0 _
row_kept s a kinds.Datum v h d = datum_kept s v.0 v.1.0
row_kept s a kinds.D v h d = kept_differential s s.block s.asked v.0 v.1.0
row_kept s a kinds.Theta v h d = kept_named s _ v.0 _ v.1.0
row_kept s a kinds.Cocycles v h d = kept_named s _ 0 _ v.0
row_kept s a kinds.Z v h d = kept_named s _ 0 _ v.0
row_kept s a kinds.Relations v h d = kept_named s _ 0 _ v.0
row_kept s a kinds.N v h d = kept_named s _ 0 _ v.0
row_kept s a kinds.Morphism v h d = kept_named s _ 0 _ v.0
row_kept s a kinds.U v h d = kept_named s _ 0 _ v.0
row_kept s a kinds.Chain v h d = kept_where s _ _ (kept_named s _ v.0 _ v.1.0)
row_kept s a kinds.K v h d = kept_where s _ _ (kept_named s _ v.0 _ v.1.0)
row_kept s a kinds.Stable v h d = kept_bind s s.block _ (λ b. kept_where s _ _ (kept_some s s refl))
row_kept s a kinds.Lambda v h d = kept_where s _ _ (kept_map s _ (numbered s.parts v.1.0) (λ x. refl))
row_kept s a kinds.Done v h d = absurd (let e : true ≡ false = d in cc)
row_kept s a kind v h d = kept_some s s refl

head_kept : (s : Sheet) (st : Statement) → Kept s (say_head s st)
head_kept s (Rattle.fm_problem.specs.Statements.RingLine p names) = kept_where s _ _ (kept_map s _ _ (λ x. refl))
head_kept s (Rattle.fm_problem.specs.Statements.OrderLine o) = kept_map s _ _ (λ x. refl)
head_kept s (Rattle.fm_problem.specs.Statements.IdealLine m texts) = kept_map s _ _ (λ x. refl)
head_kept s st = kept_none s

-- ---- first words
words_of_full : (ps : List Bytes) → list_all is_full ps ≡ true → nonempty ps ≡ ps
words_of_full [] h = refl
words_of_full ([] ∷ ps) h = absurd (let e : false ≡ true = h in cc)
words_of_full ((b ∷ bs) ∷ ps) h = ap (λ x. (b ∷ bs) ∷ x) (words_of_full ps h)

done_kind : Option Kind → Bool
done_kind None = false
done_kind (Some k) = is_done k

by_if : (b : Bool) (x y : Option Kind) → done_kind x ≡ false → done_kind y ≡ false → done_kind (if b then x else y) ≡ false
by_if true x y h k = h
by_if false x y h k = k

word_of_done : (k : Kind) → is_done k ≡ true → first_item (row k) ≡ codes "done"
word_of_done kinds.Done h = refl
word_of_done kind h = absurd (let e : false ≡ true = h in cc)

among : (w : Bytes) (ks : List Kind) → same_bytes w (codes "done") ≡ false → done_kind (kind_among w ks) ≡ false
unfolding done_kind
among w [] h = refl
among w (k ∷ ks) h = by (is_done k) refl (same_bytes w (first_item (row k))) refl (among w ks h)
  where
    by : (d : Bool) → is_done k ≡ d → (t : Bool) → same_bytes w (first_item (row k)) ≡ t → done_kind (kind_among w ks) ≡ false → done_kind (if t then Some k else kind_among w ks) ≡ false
    by d e false f rest = rest
    by false e true f rest = e
    by true e true f rest = absurd (let g : true ≡ false = sym f ∙ ap (same_bytes w) (word_of_done k e) ∙ h in cc)

part_not_done : (ws : List Bytes) → done_kind (part_kind ws) ≡ false
unfolding done_kind
part_not_done [] = refl
part_not_done (k ∷ []) = refl
part_not_done (k ∷ w ∷ ws) =
    by_if (same_bytes w (codes "given")) (Some kinds.Given) _ refl (by_if (same_bytes w (codes "twist")) (Some kinds.Twist) _ refl (by_if (same_bytes w (codes "flip")) (Some kinds.Flip) _ refl
    (by_if (same_bytes w (codes "beside")) (Some kinds.Beside) _ refl (by_if (same_bytes w (codes "stack")) (Some kinds.Stack) _ refl
    (by_if (same_bytes w (codes "times")) (Some kinds.Times) _ refl (by_if (same_bytes w (codes "pick")) (Some kinds.Pick) None refl refl))))))

unanswered_not_done : (ws : List Bytes) → done_kind (unanswered_kind ws) ≡ false
unfolding done_kind
unanswered_not_done [] = refl
unanswered_not_done (w ∷ ws) = by_if (same_bytes w (codes "budget")) (Some (kinds.Ended kinds.Budget)) _ refl (by_if (same_bytes w (codes "exponents")) (Some (kinds.Ended kinds.Exponents)) None refl refl)

refused_not_done : (ws : List Bytes) → done_kind (refused_kind ws) ≡ false
unfolding done_kind
refused_not_done [] = refl
refused_not_done (w ∷ []) = refl
refused_not_done (w ∷ v ∷ ws) =
    by_if (same_bytes w (codes "wrong")) (Some (kinds.Ended kinds.WrongLength)) _ refl
    (by_if (same_bytes v (codes "a")) (Some (kinds.Ended kinds.NotCocycle)) _ refl (by_if (same_bytes v (codes "contained")) (Some (kinds.Ended kinds.NotContained)) None refl refl))

closing_not_done : (ws : List Bytes) → done_kind (closing_kind ws) ≡ false
unfolding done_kind
closing_not_done [] = refl
closing_not_done (w ∷ ws) = refl

answer_not_done : (asked : Option Query) → done_kind (option_map (λ q. kinds.Ended (answer_kind q)) asked) ≡ false
unfolding done_kind
answer_not_done None = refl
answer_not_done (Some q) = refl

other_not_done : (asked : Option Query) (w : Bytes) (ws : List Bytes) → same_bytes w (codes "done") ≡ false → done_kind (kind_of asked (w ∷ ws)) ≡ false
other_not_done asked w ws h =
    by_if (same_bytes w (codes "part")) (part_kind ws) _ (part_not_done ws) (by_if (same_bytes w (codes "answer")) (option_map (λ q. kinds.Ended (answer_kind q)) asked) _ (answer_not_done asked)
    (by_if (same_bytes w (codes "unanswered")) (unanswered_kind ws) _ (unanswered_not_done ws) (by_if (same_bytes w (codes "refused")) (refused_kind ws) _ (refused_not_done ws)
    (by_if (same_bytes w (codes "end")) (closing_kind ws) _ (closing_not_done ws) (among w by_first h)))))

is_an_answer : (q : Query) → is_answer (answer_kind q) ≡ true
is_an_answer (queries.TheVariants.Zero i k) = refl
is_an_answer (queries.TheVariants.Class i k e z) = refl
is_an_answer (queries.TheVariants.Root i k) = refl
is_an_answer (queries.TheVariants.Invert i k f) = refl
is_an_answer (queries.TheVariants.Support i k) = refl
is_an_answer (queries.TheVariants.Map i k j) = refl
is_an_answer (queries.TheVariants.Member k f) = refl
is_an_answer (queries.TheVariants.Resolution i k) = refl
is_an_answer (queries.TheVariants.ExtOf i k) = refl

-- ---- the lines that a text can be
mapped : {A B : Type 0} (f : A → B) (o : Option A) (y : B) → option_map f o ≡ Some y → (x : A) × (o ≡ Some x) × (f x ≡ y)
mapped f None y e = absurd (none_some y e)
mapped f (Some x) y e = (x, refl, Some-same e)

found : {A B : Type 0} (o : Option A) (f : A → Option B) (y : B) → (o >>= f) ≡ Some y → (x : A) × (o ≡ Some x) × (f x ≡ Some y)
found None f y e = absurd (none_some y e)
found (Some x) f y e = (x, refl, e)

tested : {A : Type 0} (b : Bool) (o : Option A) (y : A) → where_so b o ≡ Some y → (b ≡ true) × (o ≡ Some y)
tested true o y e = (refl, e)
tested false o y e = absurd (none_some y e)

-- by the first of its words a text is a line of the head, a question, or a row
line_by : (P : Line → Type 0) (s : Sheet) (text : Bytes) (x : Line) → line_in s text ≡ Some x
    → (begins_head (words text) ≡ true → (st : Statement) → P (Head st))
    → (same_bytes (before_mark Blank text) (codes "query") ≡ true → (k : ℕ) (st : Statement) → P (Question k st))
    → ((kind : Kind) (v : Values (row kind)) → words text ≡ parts Blank text → kind_of s.asked (parts Blank text) ≡ Some kind → P (Row kind v)) → P x
unfolding line_in line_of
line_by P s text x e head ask rows = by (begins_head (words text)) refl (same_bytes (before_mark Blank text) (codes "query")) refl e
  where
    by : (b : Bool) → begins_head (words text) ≡ b → (c : Bool) → same_bytes (before_mark Blank text) (codes "query") ≡ c
        → (if b then option_map Head (statement_of text) else (if c then question_of (after_mark Blank text) else (exact_words text >>= row_of (ring_in s.head) (names_in s.head) s.asked))) ≡ Some x → P x
    by true h c i e = let m = mapped Head (statement_of text) x e in subst P m.2 (head h m.0)
    by false h true i e =
        let f = found (exact_number (before_mark Blank (after_mark Blank text))) (λ k. option_map (Question k) (statement_of (after_mark Blank (after_mark Blank text)))) x e in
        let m = mapped (Question f.0) (statement_of (after_mark Blank (after_mark Blank text))) x f.2 in
        subst P m.2 (ask i f.0 m.0)
    by false h false i e =
        let ws = found (exact_words text) (row_of (ring_in s.head) (names_in s.head) s.asked) x e in
        let full = tested (list_all is_full (parts Blank text)) (Some (parts Blank text)) ws.0 ws.1 in
        let same : ws.0 ≡ parts Blank text = sym (Some-same full.1) in
        let k = found (kind_of s.asked ws.0) (λ kind. option_map (Row kind) (read_row (ring_in s.head) (names_in s.head) (row kind) ws.0)) x ws.2 in
        let m = mapped (Row k.0) (read_row (ring_in s.head) (names_in s.head) (row k.0) ws.0) x k.2 in
        subst P m.2 (rows k.0 m.0 (words_of_full (parts Blank text) full.0) (ap (kind_of s.asked) (sym same) ∙ k.1))

-- ---- the first word
first_part : (text : Bytes) → (qs : List Bytes) × (parts Blank text ≡ before_mark Blank text ∷ qs)
first_part [] = ([], refl)
first_part (x ∷ xs) = by (is_mark Blank x) (first_part xs)
  where
    by : (t : Bool) → (qs : List Bytes) × (parts Blank xs ≡ before_mark Blank xs ∷ qs)
        → (qs : List Bytes) × (cond t ([] ∷ parts Blank xs) (onto_first x (parts Blank xs)) ≡ (if t then [] else (x ∷ before_mark Blank xs)) ∷ qs)
    by true h = (parts Blank xs, refl)
    by false h = (h.0, ap (onto_first x) h.1)

first_is : (w : Bytes) (ws : List Bytes) → begins_with w ws ≡ true → (more : List Bytes) × (ws ≡ w ∷ more)
first_is w [] h = absurd (let e : false ≡ true = h in cc)
first_is w (v ∷ vs) h = (vs, ap (λ u. u ∷ vs) (same_name v w h))

query_first : (text : Bytes) → same_bytes (before_mark Blank text) (codes "query") ≡ true → (more : List Bytes) × (words text ≡ codes "query" ∷ more)
query_first text h =
    let f = first_part text in
    (nonempty f.0, ap nonempty f.1 ∙ ap (λ w. nonempty (w ∷ f.0)) (same_name (before_mark Blank text) (codes "query") h))

false_true : false ≡ true → ⊥
false_true e = cc

true_false : true ≡ false → ⊥
true_false e = cc

-- ---- an answer
answer_kept : (s : Sheet) (e : EndKind) (v : Values (kinds.end_row e)) (t : Sheet) → is_answer e ≡ true → say_end s e v ≡ Some t → is_some t.answer ≡ true
answer_kept s e v t h said =
    let there : say_answer s (record { kind = e; values = v }) ≡ Some t = sym (ap (λ (b : Bool). if b then say_answer s (record { kind = e; values = v }) else Some s) h) ∙ said in
    let alone = tested (is_none s.answer) (s.asked >>= λ z. Some (record s { answer = Some (record { kind = e; values = v }) })) t there in
    let of = found s.asked (λ z. Some (record s { answer = Some (record { kind = e; values = v }) })) t alone.1 in
    ap (λ (x : Sheet). is_some x.answer) (sym (Some-same of.2))

answered : (s : Sheet) (text : Bytes) (x : Line) → line_in s text ≡ Some x → begins_with (codes "answer") (words text) ≡ true → (t : Sheet) → say s x ≡ Some t → is_some t.answer ≡ true
unfolding say
answered s text x e h =
    let first = first_is (codes "answer") (words text) h in
    line_by (λ x. (t : Sheet) → say s x ≡ Some t → is_some t.answer ≡ true) s text x e
    (λ b st t said. absurd (false_true (sym (ap begins_head first.1) ∙ b)))
    (λ b k st t said. let other = query_first text b in absurd (false_true (sym (ap (begins_with (codes "answer")) other.1) ∙ h)))
    (λ kind v full is t said.
    let m = mapped (λ q. kinds.Ended (answer_kind q)) s.asked kind (sym (ap (kind_of s.asked) (sym full ∙ first.1)) ∙ is) in
    (subst (λ k. (w : Values (row k)) → say_row s k w ≡ Some t → is_some t.answer ≡ true) m.2 (λ w f. answer_kept s (answer_kind m.0) w t (is_an_answer m.0) f)) v said)

-- ---- a last line
done_states : (s : Sheet) (a : Answer) → s.answer ≡ Some a → length (stated_at_done s s.head s.asked s.answer) ≡ 1
done_states s a h = ap (λ o. length (stated_at_done s s.head s.asked o)) h ∙ by s.head s.asked
  where
    by : (q : Option Problem) (z : Option Query) → length (stated_at_done s q z (Some a)) ≡ 1
    by (Some q) (Some z) = refl
    by (Some q) None = refl
    by None z = refl

ended : (s : Sheet) (text : Bytes) (x : Line) → line_in s text ≡ Some x → begins_with (codes "done") (words text) ≡ true → (a : Answer) → s.answer ≡ Some a → length (stated_by s x) ≡ 1
ended s text x e h =
    let first = first_is (codes "done") (words text) h in
    line_by (λ x. (a : Answer) → s.answer ≡ Some a → length (stated_by s x) ≡ 1) s text x e
    (λ b st a f. absurd (false_true (sym (ap begins_head first.1) ∙ b)))
    (λ b k st a f. let other = query_first text b in absurd (false_true (sym (ap (begins_with (codes "done")) other.1) ∙ h)))
    (λ kind v full is a f.
    let same : kinds.Done ≡ kind = Some-same (sym (ap (kind_of s.asked) (sym full ∙ first.1)) ∙ is) in
    (subst (λ k. (w : Values (row k)) → length (stated_by s (Row k w)) ≡ 1) same (λ w. done_states s a f)) v)

-- ---- any other line
no_kind : (s : Sheet) (ws : List Bytes) (kind : Kind) → begins_with (codes "done") ws ≡ false → kind_of s.asked ws ≡ Some kind → is_done kind ≡ false
unfolding done_kind
no_kind s [] kind h is = absurd (none_some kind is)
no_kind s (w ∷ ws) kind h is = sym (ap done_kind is) ∙ other_not_done s.asked w ws h

stays : (s t : Sheet) (a : Answer) → s.answer ≡ Some a → t.answer ≡ s.answer → is_some t.answer ≡ true
stays s t a h k = ap is_some (k ∙ h)

left_alone : (s : Sheet) (text : Bytes) (x : Line) → line_in s text ≡ Some x → begins_with (codes "query") (words text) ≡ false → begins_with (codes "done") (words text) ≡ false
    → (a : Answer) → s.answer ≡ Some a → (t : Sheet) → say s x ≡ Some t → is_some t.answer ≡ true
unfolding say Kept
left_alone s text x e no_query no_done a h =
    line_by (λ x. (t : Sheet) → say s x ≡ Some t → is_some t.answer ≡ true) s text x e
    (λ b st t said. stays s t a h (head_kept s st t said))
    (λ b k st t said. let other = query_first text b in absurd (true_false (sym (ap (begins_with (codes "query")) other.1) ∙ no_query)))
    (λ kind v full is t said. stays s t a h (row_kept s a kind v h (no_kind s (parts Blank text) kind (ap (begins_with (codes "done")) (sym full) ∙ no_done) is) t said))

-- ---- counting
-- an answer stands that the sheet doesn't have
abbrev debt : Bool → Option Answer → ℕ
debt true None = 1
debt true (Some a) = 0
debt false o = 0

some_debt : (o : Option Answer) → is_some o ≡ true → debt true o ≡ 0
some_debt None h = absurd (false_true h)
some_debt (Some a) h = refl

debt_small : (b : Bool) (o : Option Answer) → debt b o ≤ 1
debt_small true None = omega arith
debt_small true (Some a) = omega arith
debt_small false o = omega arith

-- a broken line on which verdicts rest is stated
broken_stated : (w : Bytes) (text : Bytes) → begins_with w (words text) ≡ true → ((more : List Bytes) → rests_on (w ∷ more) ≡ true) → length (broken text) ≡ 1
broken_stated w text h rests =
    let first = first_is w (words text) h in
    ap (λ (b : Bool). length (if b then unreadable ∷ [] else [])) (ap rests_on first.1 ∙ rests first.0)

answer_step : (s : Sheet) (text : Bytes) → begins_with (codes "answer") (words text) ≡ true → (o : Option Line) → line_in s text ≡ o → (n : Option Sheet) → said_of s o ≡ n
    → debt true (sheet_after s n).answer ≤ length (states s text o n)
answer_step s text h None e n f = let b = broken_stated (codes "answer") text h (λ more. refl) in let d = debt_small true (sheet_after s n).answer in omega (arith, b, d)
answer_step s text h (Some x) e None f = let b = broken_stated (codes "answer") text h (λ more. refl) in let d = debt_small true s.answer in omega (arith, b, d)
answer_step s text h (Some x) e (Some t) f = let d = some_debt t.answer (answered s text x e h t f) in omega (arith, d)

done_step : (s : Sheet) (text : Bytes) → begins_with (codes "done") (words text) ≡ true → (o : Option Line) → line_in s text ≡ o → (n : Option Sheet) → said_of s o ≡ n
    → 1 ≤ length (states s text o n) + debt true s.answer
done_step s text h None e n f = let b = broken_stated (codes "done") text h (λ more. refl) in omega (arith, b)
done_step s text h (Some x) e None f = let b = broken_stated (codes "done") text h (λ more. refl) in omega (arith, b)
done_step s text h (Some x) e (Some t) f = by s.answer refl
  where
    by : (a : Option Answer) → s.answer ≡ a → 1 ≤ length (stated_by s x) + debt true a
    by None g = omega arith
    by (Some a) g = let n = ended s text x e h a g in omega (arith, n)

other_step : (b : Bool) (s : Sheet) (text : Bytes) → begins_with (codes "query") (words text) ≡ false → begins_with (codes "done") (words text) ≡ false → (o : Option Line) → line_in s text ≡ o
    → (n : Option Sheet) → said_of s o ≡ n → debt b (sheet_after s n).answer ≤ debt b s.answer
other_step false s text h k o e n f = omega arith
other_step true s text h k None e n f = same n f
  where
    same : (n : Option Sheet) → ◌≡◌ {A = Option Sheet} None n → debt true (sheet_after s n).answer ≤ debt true s.answer
    same None f = omega arith
    same (Some t) f = absurd (none_some t f)
other_step true s text h k (Some x) e None f = omega arith
other_step true s text h k (Some x) e (Some t) f = by s.answer refl
  where
    by : (a : Option Answer) → s.answer ≡ a → debt true t.answer ≤ debt true a
    by None g = debt_small true t.answer
    by (Some a) g = let d = some_debt t.answer (left_alone s text x e h k a g t f) in omega (arith, d)

pub answers_stated : (b : Bool) (s : Sheet) (ls : List Bytes) → ended_answers b ls ≤ length (reading s ls) + debt b s.answer
answers_stated b s [] = omega arith
answers_stated b s (l ∷ ls) =
    let o = line_in s l in
    let n = said_of s o in
    let here = states s l o n in
    let count = length-append here (reading (sheet_after s n) ls) in
    by o refl n refl here refl count (λ c. answers_stated c (sheet_after s n) ls) (begins_with (codes "answer") (words l)) refl (begins_with (codes "query") (words l)) refl (begins_with (codes "done") (words l)) refl
  where
    by : (o : Option Line) → line_in s l ≡ o → (n : Option Sheet) → said_of s o ≡ n → (here : List Stated) → states s l o n ≡ here
        → length (here ++ reading (sheet_after s n) ls) ≡ length here + length (reading (sheet_after s n) ls)
        → ((c : Bool) → ended_answers c ls ≤ length (reading (sheet_after s n) ls) + debt c (sheet_after s n).answer)
        → (x : Bool) → begins_with (codes "answer") (words l) ≡ x → (y : Bool) → begins_with (codes "query") (words l) ≡ y → (z : Bool) → begins_with (codes "done") (words l) ≡ z
        → (if x then ended_answers true ls else (if y then ended_answers false ls else (if z then (if b then suc (ended_answers false ls) else ended_answers false ls) else ended_answers b ls)))
        ≤ length (here ++ reading (sheet_after s n) ls) + debt b s.answer
    by o e n f here g count rest true p y q z r =
        let step = answer_step s l p o e n f in let more = rest true in let same = ap (λ xs. length xs) g in omega (arith, step, more, count, same)
    by o e n f here g count rest false p true q z r = let more = rest false in omega (arith, more, count)
    by o e n f here g count rest false p false q true r = last b
      where
        last : (b : Bool) → (if b then suc (ended_answers false ls) else ended_answers false ls) ≤ length (here ++ reading (sheet_after s n) ls) + debt b s.answer
        last true = let step = done_step s l r o e n f in let more = rest false in let same = ap (λ xs. length xs) g in omega (arith, step, more, count, same)
        last false = let more = rest false in omega (arith, more, count)
    by o e n f here g count rest false p false q false r =
        let step = other_step b s l q r o e n f in let more = rest b in omega (arith, step, more, count)

pub answers_are_stated : (bytes : Bytes) → answers_of bytes ≤ length (statements bytes)
unfolding statements
answers_are_stated bytes = let n = answers_stated false blank (lines_from [] bytes) in omega (arith, n)
