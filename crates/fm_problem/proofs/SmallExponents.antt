-- The exponents of a problem that is read are those that can be written.
use Rattle.std.proofs.Common.{◌≡◌, ◌≤◌, ◌+◌, ◌%◌, ◌==◌, ℕ, Bool, true, false, if◌then◌else◌, List, [], ◌∷◌, ◌++◌, length, is_some, nat_lt, nat_le, Option, Some, None, Result, Ok, Err, ap, subst, arith}
use Rattle.std.specs.declared.cmp.Ordering.{Ordering}
use Rattle.std.specs.declared.cmp.Ordering.TheVariants.{Less, Equal, Greater}
use Rattle.fm_gfp.specs.Primes.{prime_value}
use Rattle.fm_mono.specs.Orders.{monomial_cmp}
use Rattle.fm_mono.specs.declared.order.Order.{Order}
use Rattle.fm_poly.specs.declared.ring.Ring.{Ring}
use Rattle.fm_poly.specs.declared.term.Term.{Term}
use Rattle.fm_poly.specs.Polys.{PolyValue}
use Rattle.fm_words.specs.Parts.{Bytes}
use Rattle.fm_words.specs.Lines.{NumberedLine, lines_of, end_of}
use Rattle.fm_problem.specs.declared.fault_kind.FaultKind.{FaultKind}
use Rattle.fm_problem.specs.declared.fault_kind.FaultKind.TheVariants.{Syntax, Repeated, NotPrime, Limit}
use Rattle.fm_problem.specs.Limits.{longest_name, most_ideals, most_generators, most_queries, greatest_exponent}
use Rattle.fm_problem.specs.declared.keyword.Question.{Question}
use Rattle.fm_problem.specs.declared.keyword.Question.TheVariants.{Zero, Root, Support, Resolution, Ext}
use Rattle.fm_problem.specs.declared.problem.Problem.{Problem}
use Rattle.fm_problem.specs.declared.ideal.Ideal.{Ideal}
use Rattle.fm_problem.specs.declared.query.Query.{Query}
use Rattle.fm_problem.specs.declared.query.Query as queries
use Rattle.fm_problem.specs.Sound.{are_small, AreSmallTerms, AreSmall, AreSmallIdeals, IsSmallQuery, AreSmallQueries, HasSmallExponents}
use Rattle.fm_text.specs.Factors.{SignedText, terms_of}
use Rattle.fm_words.specs.Steps.{◌>>=◌, steps, or_fault, place}
use Rattle.fm_text.specs.SumOfTerms.{placed, inserted, sum_of_terms, polynomial_of_terms}
use Rattle.fm_text.specs.Polynomials.{Rules, unsigned_term, signed_coefficient, signed_term, plus_term, written_terms}
use Rattle.fm_problem.specs.Problems.{polynomial_in, plus_name, bare, ring_of, order_in, with_order, rules_of, Generators, unless_empty, unless_zero, plus_generator, generators_in, ideal_names, plus_ideal, with_ideal, degree_in, ideal_in, stage_in, plus_entry, vector_in, module_query, query_in, plus_query, with_query, with_line, at_line, plus_line, after_second, after_ring, from_lines, problem_of}
use Rattle.fm_problem.specs.Statements.{Statement, RingLine, OrderLine, IdealLine, ModuleLine, ClassLine, InvertLine, MapLine, MemberLine, statement_of}
use Rattle.fm_gfp.specs.Primes.{prime_of}
use Rattle.fm_words.proofs.FirstFaults.{no_fault, same_ok, first_read, steps_keep, passed, not_failed}
use Rattle.fm_text.proofs.WrittenExponents.{unsigned_within}
use Rattle.fm_problem.proofs.LineFaults.{spelled_on_line}

-- ---- one more
terms_more : (ts : List Term) (u : Term) → AreSmallTerms (ts) → are_small u.mono ≡ true → AreSmallTerms ((ts ++ u ∷ []))
terms_more [] u w h = (h, tt)
terms_more (t ∷ ts) u w h = (w.0, terms_more ts u w.1 h)

all_more : (fs : List PolyValue) (f : PolyValue) → AreSmall fs → AreSmallTerms (f.terms) → AreSmall (fs ++ f ∷ [])
all_more [] f w h = (h, tt)
all_more (g ∷ fs) f w h = (w.0, all_more fs f w.1 h)

ideals_more : (is : List Ideal) (i : Ideal) → AreSmallIdeals is → AreSmall i.generators → AreSmallIdeals (is ++ i ∷ [])
ideals_more [] i w h = (h, tt)
ideals_more (j ∷ is) i w h = (w.0, ideals_more is i w.1 h)

queries_more : (zs : List Query) (z : Query) → AreSmallQueries zs → IsSmallQuery z → AreSmallQueries (zs ++ z ∷ [])
queries_more [] z w h = (h, tt)
queries_more (y ∷ zs) z w h = (w.0, queries_more zs z w.1 h)

-- ---- sums of terms
inserted_within : (r : Ring) (t : Term) (us : List Term) → are_small t.mono ≡ true → AreSmallTerms (us) → AreSmallTerms ((inserted r t us))
inserted_within r t [] h w = (h, tt)
inserted_within r t (u ∷ us) h w = go (monomial_cmp r.order t.mono u.mono) (inserted_within r t us h w.1)
  where
    summed : (b : Bool) → AreSmallTerms (((if b then [] else record { mono = t.mono; coeff = (t.coeff + u.coeff) % prime_value r.prime } ∷ []) ++ us))
    summed true = w.1
    summed false = (h, w.1)

    go : (c : Ordering) → AreSmallTerms ((inserted r t us)) → AreSmallTerms ((placed r c t u us (inserted r t us)))
    go Greater later = (h, w)
    go Equal later = summed ((t.coeff + u.coeff) % prime_value r.prime == 0)
    go Less later = (w.0, later)

sum_within : (r : Ring) (ts : List Term) → AreSmallTerms (ts) → AreSmallTerms ((sum_of_terms r ts))
unfolding sum_of_terms
sum_within r [] w = tt
sum_within r (t ∷ ts) w = by_test (t.coeff == 0) (sum_within r ts w.1)
  where
    by_test : (b : Bool) → AreSmallTerms ((sum_of_terms r ts)) → AreSmallTerms ((if b then sum_of_terms r ts else inserted r t (sum_of_terms r ts)))
    by_test true v = v
    by_test false v = inserted_within r t (sum_of_terms r ts) w.0 v

-- ---- written terms
module _ (r : Rules) (low : r.bound ≤ greatest_exponent) where
  signed_within : (t : SignedText) (u : Term) → signed_term r t ≡ Ok u → are_small u.mono ≡ true
  signed_within t u h =
      let read = first_read (unsigned_term r t.text) (λ v. Ok (record { mono = v.mono; coeff = signed_coefficient r.ring.prime t.sign v.coeff })) u h in
      subst (λ (v : Term). are_small v.mono ≡ true) (same_ok read.2) (unsigned_within greatest_exponent r low t.text read.0 read.1)

  terms_within : (text : Bytes) (ts : List Term) → written_terms r text ≡ Ok ts → AreSmallTerms (ts)
  terms_within text ts h = steps_keep (plus_term r) (λ us. AreSmallTerms (us)) one_more [] (terms_of text) ts tt h
    where
      one_more : (us : List Term) (t : SignedText) (vs : List Term) → AreSmallTerms (us) → plus_term r us t ≡ Ok vs → AreSmallTerms (vs)
      one_more us t vs w e =
          let read = first_read (signed_term r t) (λ u. Ok (us ++ u ∷ [])) vs e in
          subst (λ ws. AreSmallTerms (ws)) (same_ok read.2) (terms_more us read.0 w (signed_within t read.0 read.1))

  polynomial_within : (text : Bytes) (f : PolyValue) → polynomial_in r text ≡ Ok f → AreSmallTerms (f.terms)
  polynomial_within text f h =
      let read = first_read (written_terms r text) (λ ts. Ok (polynomial_of_terms r.ring ts)) f (spelled_on_line r text f h) in
      subst (λ (g : PolyValue). AreSmallTerms (g.terms)) (same_ok read.2) (sum_within r.ring read.0 (terms_within text read.0 read.1))

  -- ---- generators
  kept_within : (fs : List PolyValue) (f : PolyValue) (ts : List Term) → AreSmallTerms (f.terms) → AreSmall fs → AreSmall (unless_empty fs f ts)
  kept_within fs f [] h w = w
  kept_within fs f (t ∷ ts) h w = all_more fs f w h

  generator_within : (g h : Generators) (text : Bytes) → AreSmall g.kept → plus_generator r g text ≡ Ok h → AreSmall h.kept
  generator_within g h text w e =
      let test = passed (nat_lt g.written most_generators) Limit (polynomial_in r text >>= λ f. Ok (record { written = g.written + 1; kept = unless_zero g.kept f })) h e in
      let read = first_read (polynomial_in r text) (λ f. Ok (record { written = g.written + 1; kept = unless_zero g.kept f })) h test.1 in
      subst (λ (k : Generators). AreSmall k.kept) (same_ok read.2) (kept_within g.kept read.0 (read.0).terms (polynomial_within text read.0 read.1) w)

  generators_within : (texts : List Bytes) (fs : List PolyValue) → generators_in r texts ≡ Ok fs → AreSmall fs
  generators_within texts fs h =
      let read = first_read (steps (plus_generator r) (record { written = 0; kept = [] }) texts) (λ g. Ok g.kept) fs h in
      subst AreSmall (same_ok read.2)
      (steps_keep (plus_generator r) (λ (g : Generators). AreSmall g.kept) (λ s x t w e. generator_within s t x w e) (record { written = 0; kept = [] }) texts read.0 tt read.1)

  vector_within : (texts : List Bytes) (z : List PolyValue) → vector_in r texts ≡ Ok z → AreSmall z
  vector_within texts z h = steps_keep (plus_entry r) AreSmall one_more [] texts z tt h
    where
      one_more : (fs : List PolyValue) (text : Bytes) (gs : List PolyValue) → AreSmall fs → plus_entry r fs text ≡ Ok gs → AreSmall gs
      one_more fs text gs w e =
          let read = first_read (polynomial_in r text) (λ f. Ok (fs ++ f ∷ [])) gs e in
          subst AreSmall (same_ok read.2) (all_more fs read.0 w (polynomial_within text read.0 read.1))

-- ---- lines
written_low : greatest_exponent ≤ greatest_exponent
written_low = omega arith

ideal_within : (q s : Problem) (n : Bytes) (texts : List Bytes) → HasSmallExponents q → with_ideal q n texts ≡ Ok s → HasSmallExponents s
ideal_within q s n texts w h =
    let count = passed (nat_lt (length q.ideals) most_ideals) Limit (if is_some (place 0 n (ideal_names q)) then Err Repeated
    else (if nat_le (length n) longest_name then (generators_in (rules_of q) texts >>= λ fs. Ok (plus_ideal q n fs)) else Err Limit)) s h in
    let fresh = not_failed (is_some (place 0 n (ideal_names q))) Repeated (if nat_le (length n) longest_name then (generators_in (rules_of q) texts >>= λ fs. Ok (plus_ideal q n fs)) else Err Limit) s count.1 in
    let short = passed (nat_le (length n) longest_name) Limit (generators_in (rules_of q) texts >>= λ fs. Ok (plus_ideal q n fs)) s fresh.1 in
    let read = first_read (generators_in (rules_of q) texts) (λ fs. Ok (plus_ideal q n fs)) s short.1 in
    subst HasSmallExponents (same_ok read.2) (record {
      ideals = ideals_more q.ideals (record { name = n; generators = read.0 }) w.ideals (generators_within (rules_of q) written_low texts read.0 read.1);
      queries = w.queries;
    })

module_within : (a : Question) (i k : ℕ) → IsSmallQuery (module_query a i k)
module_within Zero i k = tt
module_within Root i k = tt
module_within Support i k = tt
module_within Resolution i k = tt
module_within Ext i k = tt

query_within : (q : Problem) (s : Statement) (z : Query) → query_in q s ≡ Ok z → IsSmallQuery z
query_within q (RingLine p names) z h = absurd (no_fault Syntax z h)
query_within q (OrderLine o) z h = absurd (no_fault Syntax z h)
query_within q (IdealLine n texts) z h = absurd (no_fault Syntax z h)
query_within q (ModuleLine a i n) z h =
    let d = first_read (degree_in q i) (λ i. ideal_in q n >>= λ k. Ok (module_query a i k)) z h in
    let k = first_read (ideal_in q n) (λ k. Ok (module_query a d.0 k)) z d.2 in
    subst IsSmallQuery (same_ok k.2) (module_within a d.0 k.0)
query_within q (ClassLine i n e texts) z h =
    let d = first_read (degree_in q i) (λ i. ideal_in q n >>= λ k. (stage_in e >>= λ e. (vector_in (rules_of q) texts >>= λ v. Ok (queries.TheVariants.Class i k e v)))) z h in
    let k = first_read (ideal_in q n) (λ k. stage_in e >>= λ e. (vector_in (rules_of q) texts >>= λ v. Ok (queries.TheVariants.Class d.0 k e v))) z d.2 in
    let t = first_read (stage_in e) (λ e. vector_in (rules_of q) texts >>= λ v. Ok (queries.TheVariants.Class d.0 k.0 e v)) z k.2 in
    let v = first_read (vector_in (rules_of q) texts) (λ v. Ok (queries.TheVariants.Class d.0 k.0 t.0 v)) z t.2 in
    subst IsSmallQuery (same_ok v.2) (vector_within (rules_of q) written_low texts v.0 v.1)
query_within q (InvertLine i n text) z h =
    let d = first_read (degree_in q i) (λ i. ideal_in q n >>= λ k. (polynomial_in (rules_of q) text >>= λ f. Ok (queries.TheVariants.Invert i k f))) z h in
    let k = first_read (ideal_in q n) (λ k. polynomial_in (rules_of q) text >>= λ f. Ok (queries.TheVariants.Invert d.0 k f)) z d.2 in
    let f = first_read (polynomial_in (rules_of q) text) (λ f. Ok (queries.TheVariants.Invert d.0 k.0 f)) z k.2 in
    subst IsSmallQuery (same_ok f.2) (polynomial_within (rules_of q) written_low text f.0 f.1)
query_within q (MapLine i n m) z h =
    let d = first_read (degree_in q i) (λ i. ideal_in q n >>= λ k. (ideal_in q m >>= λ j. Ok (queries.TheVariants.Map i k j))) z h in
    let k = first_read (ideal_in q n) (λ k. ideal_in q m >>= λ j. Ok (queries.TheVariants.Map d.0 k j)) z d.2 in
    let j = first_read (ideal_in q m) (λ j. Ok (queries.TheVariants.Map d.0 k.0 j)) z k.2 in
    subst IsSmallQuery (same_ok j.2) tt
query_within q (MemberLine n text) z h =
    let k = first_read (ideal_in q n) (λ k. polynomial_in (rules_of q) text >>= λ f. Ok (queries.TheVariants.Member k f)) z h in
    let f = first_read (polynomial_in (rules_of q) text) (λ f. Ok (queries.TheVariants.Member k.0 f)) z k.2 in
    subst IsSmallQuery (same_ok f.2) (polynomial_within (rules_of q) written_low text f.0 f.1)

with_query_within : (q t : Problem) (s : Statement) → HasSmallExponents q → with_query q s ≡ Ok t → HasSmallExponents t
with_query_within q t s w h =
    let count = passed (nat_lt (length q.queries) most_queries) Limit (query_in q s >>= λ z. Ok (plus_query q z)) t h in
    let read = first_read (query_in q s) (λ z. Ok (plus_query q z)) t count.1 in
    subst HasSmallExponents (same_ok read.2) (record { ideals = w.ideals; queries = queries_more q.queries read.0 w.queries (query_within q s read.0 read.1) })

line_within : (q t : Problem) (s : Option Statement) → HasSmallExponents q → with_line q s ≡ Ok t → HasSmallExponents t
line_within q t None w h = absurd (no_fault Syntax t h)
line_within q t (Some (RingLine p names)) w h = absurd (no_fault Syntax t h)
line_within q t (Some (OrderLine o)) w h = absurd (no_fault Syntax t h)
line_within q t (Some (IdealLine n texts)) w h = ideal_within q t n texts w h
line_within q t (Some (ModuleLine a i n)) w h = with_query_within q t (ModuleLine a i n) w h
line_within q t (Some (ClassLine i n e texts)) w h = with_query_within q t (ClassLine i n e texts) w h
line_within q t (Some (InvertLine i n text)) w h = with_query_within q t (InvertLine i n text) w h
line_within q t (Some (MapLine i n m)) w h = with_query_within q t (MapLine i n m) w h
line_within q t (Some (MemberLine n text)) w h = with_query_within q t (MemberLine n text) w h

at_line_ok : {A : Type 0} (l : ℕ) (r : Result A FaultKind) (x : A) → at_line l r ≡ Ok x → r ≡ Ok x
at_line_ok l (Ok y) x h = ap Ok (same_ok h)
at_line_ok l (Err k) x h = absurd (no_fault (record { line = l; kind = k }) x h)

lines_within : (q t : Problem) (ls : List NumberedLine) → HasSmallExponents q → steps plus_line q ls ≡ Ok t → HasSmallExponents t
lines_within q t ls w h =
    steps_keep plus_line HasSmallExponents (λ s l u v e. line_within s u (statement_of l.text) v (at_line_ok l.number (with_line s (statement_of l.text)) u e)) q ls t w h

ring_within : (s : Option Statement) (q : Problem) → ring_of s ≡ Ok q → HasSmallExponents q
ring_within None q h = absurd (no_fault Syntax q h)
ring_within (Some (OrderLine o)) q h = absurd (no_fault Syntax q h)
ring_within (Some (IdealLine n texts)) q h = absurd (no_fault Syntax q h)
ring_within (Some (ModuleLine a i n)) q h = absurd (no_fault Syntax q h)
ring_within (Some (ClassLine i n e texts)) q h = absurd (no_fault Syntax q h)
ring_within (Some (InvertLine i n text)) q h = absurd (no_fault Syntax q h)
ring_within (Some (MapLine i n m)) q h = absurd (no_fault Syntax q h)
ring_within (Some (MemberLine n text)) q h = absurd (no_fault Syntax q h)
ring_within (Some (RingLine n ws)) q h =
    let p = first_read (or_fault NotPrime (prime_of n)) (λ p. steps plus_name [] ws >>= λ vs. Ok (bare p vs)) q h in
    let vs = first_read (steps plus_name [] ws) (λ vs. Ok (bare p.0 vs)) q p.2 in
    subst HasSmallExponents (same_ok vs.2) (record { ideals = tt; queries = tt })

second_within : (o : Option Order) (q t : Problem) (l : NumberedLine) (ls : List NumberedLine) → HasSmallExponents q → after_second o q l ls ≡ Ok t → HasSmallExponents t
second_within None q t l ls w h = lines_within q t (l ∷ ls) w h
second_within (Some o) q t l ls w h = lines_within (with_order o q) t ls (record { ideals = w.ideals; queries = w.queries }) h

after_ring_within : (q t : Problem) (ls : List NumberedLine) → HasSmallExponents q → after_ring q ls ≡ Ok t → HasSmallExponents t
after_ring_within q t [] w h = subst HasSmallExponents (same_ok h) w
after_ring_within q t (l ∷ ls) w h = second_within (order_in (statement_of l.text)) q t l ls w h

from_lines_within : (end : ℕ) (ls : List NumberedLine) (t : Problem) → from_lines end ls ≡ Ok t → HasSmallExponents t
from_lines_within end [] t h = absurd (no_fault (record { line = end; kind = Syntax }) t h)
from_lines_within end (l ∷ ls) t h =
    let read = first_read (at_line l.number (ring_of (statement_of l.text))) (λ q. after_ring q ls) t h in
    after_ring_within read.0 t ls (ring_within (statement_of l.text) read.0 (at_line_ok l.number (ring_of (statement_of l.text)) read.0 read.1)) read.2

pub problem_within : (text : Bytes) (q : Problem) → problem_of text ≡ Ok q → HasSmallExponents q
unfolding problem_of
problem_within text q h = from_lines_within (end_of text) (lines_of text) q h
