-- The classes of a problem that is read have no more entries than its text has bytes.
use Rattle.std.proofs.Common.{ℕ, suc, ◌+◌, ◌≡◌, ◌≤◌, ◌<◌, ◌^◌, nat_lt, nat_le, nat_eq, Bool, true, false, if◌then◌else◌, List, [], ◌∷◌, ◌++◌, length, is_some, Option, Some, None, option_map, Result, Ok, Err, refl, ap, ◌∙◌, subst, arith, length-append}
use Rattle.std.specs.Prelude.{cond}
use Rattle.std.specs.List.{slice_split, onto_first}
use Rattle.fm_mono.specs.declared.order.Order.{Order}
use Rattle.fm_poly.specs.Polys.{PolyValue}
use Rattle.fm_gfp.specs.Primes.{prime_of}
use Rattle.fm_words.specs.declared.mark.Mark.{Mark}
use Rattle.fm_words.specs.declared.mark.Mark.TheVariants.{Feed, Blank, Comma, Equals, Open, Close}
use Rattle.fm_words.specs.Parts.{Bytes, is_mark, parts, pair, triple, after_mark}
use Rattle.fm_words.specs.Words.{words, after_word, is_blank}
use Rattle.fm_words.specs.Lines.{NumberedLine, without_return, is_passed, numbered, lines_of, end_of}
use Rattle.fm_words.specs.Steps.{◌>>=◌, steps, or_fault, place}
use Rattle.fm_words.proofs.FirstFaults.{no_fault, same_ok, first_read, passed, not_failed}
use Rattle.fm_text.specs.Factors.{one_word}
use Rattle.fm_text.specs.Polynomials.{Rules}
use Rattle.fm_problem.specs.Limits.{longest_name, most_ideals, most_queries}
use Rattle.fm_problem.specs.declared.fault_kind.FaultKind.{FaultKind}
use Rattle.fm_problem.specs.declared.fault_kind.FaultKind.TheVariants.{Syntax, Repeated, NotPrime, Limit}
use Rattle.fm_problem.specs.declared.keyword.Question.{Question}
use Rattle.fm_problem.specs.declared.keyword.Question.TheVariants.{Zero, Root, Support, Resolution, Ext}
use Rattle.fm_problem.specs.declared.keyword.Keyword.{Keyword}
use Rattle.fm_problem.specs.declared.keyword.Keyword.TheVariants as keywords
use Rattle.fm_problem.specs.declared.problem.Problem.{Problem}
use Rattle.fm_problem.specs.declared.query.Query.{Query}
use Rattle.fm_problem.specs.declared.query.Query as queries
use Rattle.fm_problem.specs.Statements.{Statement, RingLine, OrderLine, IdealLine, ModuleLine, ClassLine, InvertLine, MapLine, MemberLine, keyword_of, ring_line, order_of, order_line, named_ideal, ideal_line, module_line, entries_of, class_parts, class_line, invert_line, map_line, member_line, after_keyword, by_words, statement_of}
use Rattle.fm_problem.specs.Problems.{polynomial_in, plus_name, bare, ring_of, order_in, with_order, rules_of, generators_in, ideal_names, plus_ideal, with_ideal, degree_in, ideal_in, stage_in, plus_entry, vector_in, module_query, query_in, plus_query, with_query, with_line, at_line, plus_line, after_second, after_ring, from_lines, problem_of}
use Rattle.fm_answers.specs.Answers.{IsShort}

-- ---- cutting
abbrev weight : List Bytes → ℕ
weight [] = 0
weight (x ∷ xs) = suc (length x) + weight xs

cut_weight : (p : ℕ → Bool) (xs : Bytes) → weight (slice_split p xs) ≡ suc (length xs)
cut_weight p [] = refl
cut_weight p (x ∷ xs) = by (p x) (slice_split p xs) (cut_weight p xs)
  where
    by : (t : Bool) (ys : List Bytes) → weight ys ≡ suc (length xs) → weight (cond t ([] ∷ ys) (onto_first x ys)) ≡ suc (suc (length xs))
    by true ys e = omega (arith, e)
    by false [] e = absurd (omega (arith, e))
    by false (y ∷ ys) e = omega (arith, e)

count_weight : (ys : List Bytes) → length ys ≤ weight ys
count_weight [] = omega arith
count_weight (y ∷ ys) = let h = count_weight ys in omega (arith, h)

pair_weight : (ys : List Bytes) (f : Bytes × Bytes) → pair ys ≡ Some f → weight ys ≡ suc (length f.0) + suc (length f.1)
pair_weight [] f e = cc
pair_weight (x ∷ []) f e = cc
pair_weight (x ∷ y ∷ []) f e =
    subst (λ (f : Bytes × Bytes). weight (x ∷ y ∷ []) ≡ suc (length f.0) + suc (length f.1)) (Rattle.fm_algebra.specs.Poly.Some-same e) (omega arith)
pair_weight (x ∷ y ∷ z ∷ ys) f e = cc

cut_pair : (m : Mark) (text : Bytes) (f : Bytes × Bytes) → pair (parts m text) ≡ Some f → length f.0 + suc (length f.1) ≡ length text
cut_pair m text f e = let w = cut_weight (is_mark m) text in let v = pair_weight (parts m text) f e in omega (arith, w, v)

mark_shorter : (m : Mark) (text : Bytes) → length (after_mark m text) ≤ length text
mark_shorter m [] = omega arith
mark_shorter m (b ∷ bs) = by (is_mark m b) (mark_shorter m bs)
  where
    by : (t : Bool) → length (after_mark m bs) ≤ length bs → length (if t then bs else after_mark m bs) ≤ suc (length bs)
    by true h = omega arith
    by false h = omega (arith, h)

word_shorter : (text : Bytes) → length (after_word text) ≤ length text
word_shorter [] = omega arith
word_shorter (b ∷ bs) = by (is_mark Blank b) (word_shorter bs) (mark_shorter Blank (b ∷ bs))
  where
    by : (t : Bool) → length (after_word bs) ≤ length bs → length (after_mark Blank (b ∷ bs)) ≤ suc (length bs) → length (if t then after_word bs else after_mark Blank (b ∷ bs)) ≤ suc (length bs)
    by true h l = omega (arith, h)
    by false h l = l

-- ---- statements
module _ (n : ℕ) where
  abbrev Short : Statement → Type 0
  Short (RingLine p names) = Unit {0}
  Short (OrderLine o) = Unit {0}
  Short (IdealLine m texts) = Unit {0}
  Short (ModuleLine a i m) = Unit {0}
  Short (ClassLine i m e texts) = length texts ≤ n
  Short (InvertLine i m text) = Unit {0}
  Short (MapLine i m k) = Unit {0}
  Short (MemberLine m text) = Unit {0}

  abbrev IfShort : Option Statement → Type 0
  IfShort None = Unit {0}
  IfShort (Some s) = Short s

  tested : (t : Bool) (o : Option Statement) → IfShort o → IfShort (if t then o else None)
  tested true o h = h
  tested false o h = tt

  ring_short : (ws : List Bytes) → IfShort (ring_line ws)
  ring_short [] = tt
  ring_short (p ∷ []) = tt
  ring_short (p ∷ m ∷ ms) = tested _ (Some (RingLine _ (m ∷ ms))) tt

  ordered : (o : Option Order) → IfShort (option_map OrderLine o)
  ordered None = tt
  ordered (Some o) = tt

  order_short : (o : Option Bytes) → IfShort (order_line o)
  order_short None = tt
  order_short (Some w) = ordered (order_of w)

  named_short : (o : Option Bytes) (text : Bytes) → IfShort (named_ideal o text)
  named_short None text = tt
  named_short (Some m) text = tested _ (Some (IdealLine m (parts Comma text))) tt

  ideal_short : (o : Option (Bytes × Bytes)) → IfShort (ideal_line o)
  ideal_short None = tt
  ideal_short (Some f) = named_short (one_word f.0) f.1

  module_short : (a : Question) (o : Option (Bytes × Bytes)) → IfShort (module_line a o)
  module_short a None = tt
  module_short a (Some f) = tested _ (Some (ModuleLine a _ f.1)) tt

  invert_short : (ws : List Bytes) (text : Bytes) → IfShort (invert_line ws text)
  invert_short [] text = tt
  invert_short (i ∷ []) text = tt
  invert_short (i ∷ m ∷ ws) text = tested _ (Some (InvertLine _ m text)) tt

  map_short : (o : Option (Bytes × Bytes × Bytes)) → IfShort (map_line o)
  map_short None = tt
  map_short (Some f) = tested _ (Some (MapLine _ f.1 f.2)) tt

  member_short : (ws : List Bytes) (text : Bytes) → IfShort (member_line ws text)
  member_short [] text = tt
  member_short (m ∷ ws) text = tested _ (Some (MemberLine m text)) tt

  entries_short : (text : Bytes) → suc (length text) ≤ n → length (entries_of text) ≤ n
  entries_short text h = by (is_blank text)
    where
      by : (t : Bool) → length (if t then [] else parts Comma text) ≤ n
      by true = omega arith
      by false = let w = cut_weight (is_mark Comma) text in let c = count_weight (parts Comma text) in omega (arith, h, w, c)

  class_parts_short : (o : Option (Bytes × Bytes × Bytes)) (p : Option (Bytes × Bytes)) → ((g : Bytes × Bytes) → p ≡ Some g → suc (length g.0) ≤ n) → IfShort (class_parts o p)
  class_parts_short None p h = tt
  class_parts_short (Some f) None h = tt
  class_parts_short (Some f) (Some g) h = tested _ (Some (ClassLine _ f.1 _ (entries_of g.0))) (entries_short g.0 (h g refl))

  class_short : (o : Option (Bytes × Bytes)) → ((f : Bytes × Bytes) → o ≡ Some f → length f.1 ≤ n) → IfShort (class_line o)
  class_short None h = tt
  class_short (Some f) h = class_parts_short (triple (words f.0)) (pair (parts Close f.1)) (λ g e. let c = cut_pair Close f.1 g e in let l = h f refl in omega (arith, c, l))

  keyword_short : (o : Option Keyword) (rest : Bytes) → length rest ≤ n → IfShort (after_keyword o rest)
  keyword_short None rest h = tt
  keyword_short (Some keywords.Ring) rest h = ring_short (words rest)
  keyword_short (Some keywords.Order) rest h = order_short (one_word rest)
  keyword_short (Some keywords.Ideal) rest h = ideal_short (pair (parts Equals rest))
  keyword_short (Some (keywords.Module a)) rest h = module_short a (pair (words rest))
  keyword_short (Some keywords.Class) rest h = class_short (pair (parts Open rest)) (λ f e. let c = cut_pair Open rest f e in omega (arith, c, h))
  keyword_short (Some keywords.Invert) rest h = invert_short (words rest) (after_word (after_word rest))
  keyword_short (Some keywords.Map) rest h = map_short (triple (words rest))
  keyword_short (Some keywords.Member) rest h = member_short (words rest) (after_word rest)

  words_short : (ws : List Bytes) (rest : Bytes) → length rest ≤ n → IfShort (by_words ws rest)
  words_short [] rest h = tt
  words_short (w ∷ ws) rest h = keyword_short (keyword_of w) rest h

  statement_short : (line : Bytes) → length line ≤ n → IfShort (statement_of line)
  statement_short line h = words_short (words line) (after_word line) (let l = word_shorter line in omega (arith, h, l))

  -- ---- lines
  abbrev AreLines : List NumberedLine → Type 0
  AreLines [] = Unit {0}
  AreLines (l ∷ ls) = (length l.text ≤ n) × AreLines ls

  return_shorter : (l : Bytes) → length (without_return l) ≤ length l
  return_shorter [] = omega arith
  return_shorter (b ∷ []) = by (nat_eq b 13)
    where
      by : (t : Bool) → length (if t then [] else (b ∷ [])) ≤ 1
      by true = omega arith
      by false = omega arith
  return_shorter (b ∷ c ∷ bs) = let h = return_shorter (c ∷ bs) in omega (arith, h)

  numbered_short : (k : ℕ) (ls : List Bytes) → weight ls ≤ suc n → AreLines (numbered k ls)
  numbered_short k [] h = tt
  numbered_short k (l ∷ ls) h = by (is_passed (without_return l)) (numbered_short (k + 1) ls (omega (arith, h))) (let s = return_shorter l in omega (arith, h, s))
    where
      by : (t : Bool) → AreLines (numbered (k + 1) ls) → length (without_return l) ≤ n
          → AreLines (if t then numbered (k + 1) ls else (record { number = k; text = without_return l } ∷ numbered (k + 1) ls))
      by true later h = later
      by false later h = (h, later)

  -- ---- queries
  abbrev IsAtMost : Query → Type 0
  IsAtMost (queries.TheVariants.Zero i k) = Unit {0}
  IsAtMost (queries.TheVariants.Class i k e z) = length z ≤ n
  IsAtMost (queries.TheVariants.Root i k) = Unit {0}
  IsAtMost (queries.TheVariants.Invert i k f) = Unit {0}
  IsAtMost (queries.TheVariants.Support i k) = Unit {0}
  IsAtMost (queries.TheVariants.Map i k j) = Unit {0}
  IsAtMost (queries.TheVariants.Member k f) = Unit {0}
  IsAtMost (queries.TheVariants.Resolution i k) = Unit {0}
  IsAtMost (queries.TheVariants.ExtOf i k) = Unit {0}

  abbrev AreAtMost : List Query → Type 0
  AreAtMost [] = Unit {0}
  AreAtMost (z ∷ zs) = IsAtMost z × AreAtMost zs

  queries_more : (zs : List Query) (z : Query) → AreAtMost zs → IsAtMost z → AreAtMost (zs ++ z ∷ [])
  queries_more [] z w h = (h, tt)
  queries_more (y ∷ zs) z w h = (w.0, queries_more zs z w.1 h)

  entries_count : (r : Rules) (fs gs : List PolyValue) (texts : List Bytes) → steps (plus_entry r) fs texts ≡ Ok gs → length gs ≡ length fs + length texts
  entries_count r fs gs [] h = ap length (same_ok {x = gs} {y = fs} (Rattle.std.proofs.Common.sym h)) ∙ (omega arith)
  entries_count r fs gs (t ∷ ts) h =
      let one = first_read (plus_entry r fs t) (λ hs. steps (plus_entry r) hs ts) gs h in
      let read = first_read (polynomial_in r t) (λ f. Ok (fs ++ f ∷ [])) one.0 one.1 in
      let grown = ap length (same_ok read.2) in
      let later = entries_count r one.0 gs ts one.2 in
      omega (arith, grown, later, length-append fs (read.0 ∷ []))

  module_at_most : (a : Question) (i k : ℕ) → IsAtMost (module_query a i k)
  module_at_most Zero i k = tt
  module_at_most Root i k = tt
  module_at_most Support i k = tt
  module_at_most Resolution i k = tt
  module_at_most Ext i k = tt

  query_at_most : (q : Problem) (s : Statement) (z : Query) → Short s → query_in q s ≡ Ok z → IsAtMost z
  query_at_most q (RingLine p names) z w h = absurd (no_fault Syntax z h)
  query_at_most q (OrderLine o) z w h = absurd (no_fault Syntax z h)
  query_at_most q (IdealLine m texts) z w h = absurd (no_fault Syntax z h)
  query_at_most q (ModuleLine a i m) z w h =
      let d = first_read (degree_in q i) (λ i. ideal_in q m >>= λ k. Ok (module_query a i k)) z h in
      let k = first_read (ideal_in q m) (λ k. Ok (module_query a d.0 k)) z d.2 in
      subst IsAtMost (same_ok k.2) (module_at_most a d.0 k.0)
  query_at_most q (ClassLine i m e texts) z w h =
      let d = first_read (degree_in q i) (λ i. ideal_in q m >>= λ k. (stage_in e >>= λ e. (vector_in (rules_of q) texts >>= λ v. Ok (queries.TheVariants.Class i k e v)))) z h in
      let k = first_read (ideal_in q m) (λ k. stage_in e >>= λ e. (vector_in (rules_of q) texts >>= λ v. Ok (queries.TheVariants.Class d.0 k e v))) z d.2 in
      let t = first_read (stage_in e) (λ e. vector_in (rules_of q) texts >>= λ v. Ok (queries.TheVariants.Class d.0 k.0 e v)) z k.2 in
      let v = first_read (vector_in (rules_of q) texts) (λ v. Ok (queries.TheVariants.Class d.0 k.0 t.0 v)) z t.2 in
      let count = entries_count (rules_of q) [] v.0 texts v.1 in
      subst IsAtMost (same_ok v.2) (omega (arith, count, w))
  query_at_most q (InvertLine i m text) z w h =
      let d = first_read (degree_in q i) (λ i. ideal_in q m >>= λ k. (polynomial_in (rules_of q) text >>= λ f. Ok (queries.TheVariants.Invert i k f))) z h in
      let k = first_read (ideal_in q m) (λ k. polynomial_in (rules_of q) text >>= λ f. Ok (queries.TheVariants.Invert d.0 k f)) z d.2 in
      let f = first_read (polynomial_in (rules_of q) text) (λ f. Ok (queries.TheVariants.Invert d.0 k.0 f)) z k.2 in
      subst IsAtMost (same_ok f.2) tt
  query_at_most q (MapLine i m o) z w h =
      let d = first_read (degree_in q i) (λ i. ideal_in q m >>= λ k. (ideal_in q o >>= λ j. Ok (queries.TheVariants.Map i k j))) z h in
      let k = first_read (ideal_in q m) (λ k. ideal_in q o >>= λ j. Ok (queries.TheVariants.Map d.0 k j)) z d.2 in
      let j = first_read (ideal_in q o) (λ j. Ok (queries.TheVariants.Map d.0 k.0 j)) z k.2 in
      subst IsAtMost (same_ok j.2) tt
  query_at_most q (MemberLine m text) z w h =
      let k = first_read (ideal_in q m) (λ k. polynomial_in (rules_of q) text >>= λ f. Ok (queries.TheVariants.Member k f)) z h in
      let f = first_read (polynomial_in (rules_of q) text) (λ f. Ok (queries.TheVariants.Member k.0 f)) z k.2 in
      subst IsAtMost (same_ok f.2) tt

  abbrev Kept : Problem → Type 0
  Kept q = AreAtMost q.queries

  with_query_kept : (q t : Problem) (s : Statement) → Short s → Kept q → with_query q s ≡ Ok t → Kept t
  with_query_kept q t s short w h =
      let count = passed (nat_lt (length q.queries) most_queries) Limit (query_in q s >>= λ z. Ok (plus_query q z)) t h in
      let read = first_read (query_in q s) (λ z. Ok (plus_query q z)) t count.1 in
      subst Kept (same_ok read.2) (queries_more q.queries read.0 w (query_at_most q s read.0 short read.1))

  ideal_kept : (q s : Problem) (m : Bytes) (texts : List Bytes) → Kept q → with_ideal q m texts ≡ Ok s → Kept s
  ideal_kept q s m texts w h =
      let count = passed (nat_lt (length q.ideals) most_ideals) Limit (if is_some (place 0 m (ideal_names q)) then Err Repeated
      else (if nat_le (length m) longest_name then (generators_in (rules_of q) texts >>= λ fs. Ok (plus_ideal q m fs)) else Err Limit)) s h in
      let fresh = not_failed (is_some (place 0 m (ideal_names q))) Repeated (if nat_le (length m) longest_name then (generators_in (rules_of q) texts >>= λ fs. Ok (plus_ideal q m fs)) else Err Limit) s count.1 in
      let short = passed (nat_le (length m) longest_name) Limit (generators_in (rules_of q) texts >>= λ fs. Ok (plus_ideal q m fs)) s fresh.1 in
      let read = first_read (generators_in (rules_of q) texts) (λ fs. Ok (plus_ideal q m fs)) s short.1 in
      subst Kept (same_ok read.2) w

  line_kept : (q t : Problem) (s : Option Statement) → IfShort s → Kept q → with_line q s ≡ Ok t → Kept t
  line_kept q t None short w h = absurd (no_fault Syntax t h)
  line_kept q t (Some (RingLine p names)) short w h = absurd (no_fault Syntax t h)
  line_kept q t (Some (OrderLine o)) short w h = absurd (no_fault Syntax t h)
  line_kept q t (Some (IdealLine m texts)) short w h = ideal_kept q t m texts w h
  line_kept q t (Some (ModuleLine a i m)) short w h = with_query_kept q t (ModuleLine a i m) short w h
  line_kept q t (Some (ClassLine i m e texts)) short w h = with_query_kept q t (ClassLine i m e texts) short w h
  line_kept q t (Some (InvertLine i m text)) short w h = with_query_kept q t (InvertLine i m text) short w h
  line_kept q t (Some (MapLine i m o)) short w h = with_query_kept q t (MapLine i m o) short w h
  line_kept q t (Some (MemberLine m text)) short w h = with_query_kept q t (MemberLine m text) short w h

  at_line_ok : {A : Type 0} (l : ℕ) (r : Result A FaultKind) (x : A) → at_line l r ≡ Ok x → r ≡ Ok x
  at_line_ok l (Ok y) x h = ap Ok (same_ok h)
  at_line_ok l (Err k) x h = absurd (no_fault (record { line = l; kind = k }) x h)

  lines_kept : (q t : Problem) (ls : List NumberedLine) → AreLines ls → Kept q → steps plus_line q ls ≡ Ok t → Kept t
  lines_kept q t [] short w h = subst Kept (same_ok h) w
  lines_kept q t (l ∷ ls) short w h =
      let one = first_read (plus_line q l) (λ s. steps plus_line s ls) t h in
      lines_kept one.0 t ls short.1 (line_kept q one.0 (statement_of l.text) (statement_short l.text short.0) w (at_line_ok l.number (with_line q (statement_of l.text)) one.0 one.1)) one.2

  ring_kept : (s : Option Statement) (q : Problem) → ring_of s ≡ Ok q → Kept q
  ring_kept None q h = absurd (no_fault Syntax q h)
  ring_kept (Some (OrderLine o)) q h = absurd (no_fault Syntax q h)
  ring_kept (Some (IdealLine m texts)) q h = absurd (no_fault Syntax q h)
  ring_kept (Some (ModuleLine a i m)) q h = absurd (no_fault Syntax q h)
  ring_kept (Some (ClassLine i m e texts)) q h = absurd (no_fault Syntax q h)
  ring_kept (Some (InvertLine i m text)) q h = absurd (no_fault Syntax q h)
  ring_kept (Some (MapLine i m o)) q h = absurd (no_fault Syntax q h)
  ring_kept (Some (MemberLine m text)) q h = absurd (no_fault Syntax q h)
  ring_kept (Some (RingLine k ws)) q h =
      let p = first_read (or_fault NotPrime (prime_of k)) (λ p. steps plus_name [] ws >>= λ vs. Ok (bare p vs)) q h in
      let vs = first_read (steps plus_name [] ws) (λ vs. Ok (bare p.0 vs)) q p.2 in
      subst Kept (same_ok vs.2) tt

  second_kept : (o : Option Order) (q t : Problem) (l : NumberedLine) (ls : List NumberedLine) → AreLines (l ∷ ls) → Kept q → after_second o q l ls ≡ Ok t → Kept t
  second_kept None q t l ls short w h = lines_kept q t (l ∷ ls) short w h
  second_kept (Some o) q t l ls short w h = lines_kept (with_order o q) t ls short.1 w h

  after_ring_kept : (q t : Problem) (ls : List NumberedLine) → AreLines ls → Kept q → after_ring q ls ≡ Ok t → Kept t
  after_ring_kept q t [] short w h = subst Kept (same_ok h) w
  after_ring_kept q t (l ∷ ls) short w h = second_kept (order_in (statement_of l.text)) q t l ls short w h

  from_lines_kept : (end : ℕ) (ls : List NumberedLine) (t : Problem) → AreLines ls → from_lines end ls ≡ Ok t → Kept t
  from_lines_kept end [] t short h = absurd (no_fault (record { line = end; kind = Syntax }) t h)
  from_lines_kept end (l ∷ ls) t short h =
      let read = first_read (at_line l.number (ring_of (statement_of l.text))) (λ q. after_ring q ls) t h in
      after_ring_kept read.0 t ls short.1 (ring_kept (statement_of l.text) read.0 (at_line_ok l.number (ring_of (statement_of l.text)) read.0 read.1)) read.2

-- ---- the text
abbrev pub AreShort : List Query → Type 0
AreShort [] = Unit {0}
AreShort (z ∷ zs) = IsShort z × AreShort zs

query_short : (n : ℕ) → n < 2 ^ 64 → (z : Query) → IsAtMost n z → IsShort z
query_short n h (queries.TheVariants.Zero i k) w = tt
query_short n h (queries.TheVariants.Class i k e z) w = omega (arith, h, w)
query_short n h (queries.TheVariants.Root i k) w = tt
query_short n h (queries.TheVariants.Invert i k f) w = tt
query_short n h (queries.TheVariants.Support i k) w = tt
query_short n h (queries.TheVariants.Map i k j) w = tt
query_short n h (queries.TheVariants.Member k f) w = tt
query_short n h (queries.TheVariants.Resolution i k) w = tt
query_short n h (queries.TheVariants.ExtOf i k) w = tt

queries_short : (n : ℕ) → n < 2 ^ 64 → (zs : List Query) → AreAtMost n zs → AreShort zs
queries_short n h [] w = tt
queries_short n h (z ∷ zs) w = (query_short n h z w.0, queries_short n h zs w.1)

pub problem_short : (text : Bytes) (q : Problem) → length text < 2 ^ 64 → problem_of text ≡ Ok q → AreShort q.queries
unfolding problem_of
problem_short text q few h =
    queries_short (length text) few q.queries
    (from_lines_kept (length text) (end_of text) (lines_of text) q (numbered_short (length text) 1 (parts Feed text) (let w = cut_weight (is_mark Feed) text in omega (arith, w))) h)
