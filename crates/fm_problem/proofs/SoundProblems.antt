-- Problems that are read are sound.
use Rattle.std.proofs.Common.{◌≡◌, ◌≢◌, ◌<◌, ◌≤◌, ◌+◌, ℕ, zero, suc, true, false, ◌&&◌, if◌then◌else◌, List, [], ◌∷◌, ◌++◌, All, length, is_some, nat_eq, nat_lt, nat_le, slice_get, Option, Some, None, Result, Ok, Err, refl, sym, ◌∙◌, ap, subst, arith, length-append}
use Rattle.std.proofs.lemmas.Bool.{leb-true, ltb-true}
use Rattle.std.proofs.lemmas.List.{length-map, map-append}
use Rattle.std.proofs.lemmas.List.Elements.{All-nil}
use Rattle.fm_gfp.specs.declared.prime.Prime.{Prime}
use Rattle.fm_mono.specs.declared.order.Order.{Order}
use Rattle.fm_mono.specs.declared.order.Order.TheVariants.{Grevlex}
use Rattle.fm_poly.specs.declared.ring.Ring.{Ring}
use Rattle.fm_poly.specs.declared.term.Term.{Term}
use Rattle.fm_poly.specs.Polys.{PolyValue}
use Rattle.fm_words.specs.Parts.{Bytes}
use Rattle.fm_words.specs.Words.{is_name}
use Rattle.fm_words.specs.Lines.{NumberedLine, lines_of, end_of}
use Rattle.fm_problem.specs.declared.fault_kind.FaultKind.{FaultKind}
use Rattle.fm_problem.specs.declared.fault_kind.FaultKind.TheVariants.{Syntax, UnknownName, Repeated, Range, NotPrime, Limit}
use Rattle.fm_problem.specs.Limits.{longest_name, most_ideals, most_generators, most_queries, greatest_stage}
use Rattle.fm_problem.specs.declared.keyword.Question.{Question}
use Rattle.fm_problem.specs.declared.keyword.Question.TheVariants.{Zero, Root, Support, Resolution, Ext}
use Rattle.fm_problem.specs.declared.problem.Problem.{Problem}
use Rattle.fm_problem.specs.declared.ideal.Ideal.{Ideal}
use Rattle.fm_problem.specs.declared.query.Query.{Query}
use Rattle.fm_problem.specs.declared.query.Query as queries
use Rattle.fm_text.specs.Polynomials.{Rules}
use Rattle.fm_problem.specs.Problems.{polynomial_in, plus_name, bare, ring_of, order_in, with_order, rules_of, Generators, unless_empty, unless_zero, plus_generator, generators_in, ideal_names, plus_ideal, with_ideal, degree_in, ideal_in, stage_in, plus_entry, vector_in, module_query, query_in, plus_query, with_query, with_line, at_line, plus_line, after_second, after_ring, from_lines, problem_of, query_of_statement, query_of}
use Rattle.fm_problem.specs.Statements.{Statement, RingLine, OrderLine, IdealLine, ModuleLine, ClassLine, InvertLine, MapLine, MemberLine, statement_of}
use Rattle.fm_gfp.specs.Primes.{prime_of}
use Rattle.fm_text.specs.SumOfTerms.{IsPolynomialOf}
use Rattle.fm_problem.specs.Sound.{IsShortName, AreApart, IsIdealOf, IsQueryOf, IsProblem}
use Rattle.fm_words.specs.Steps.{◌>>=◌, steps, or_fault, place}
use Rattle.fm_problem.proofs.AsciiNames.{both}
use Rattle.fm_words.proofs.FirstFaults.{no_fault, same_ok, first_read, steps_keep, passed, not_failed}
use Rattle.fm_problem.proofs.NamedStatements.{Named, statement_named}
use Rattle.fm_problem.proofs.NamesRead.{ring_counted}
use Rattle.fm_problem.proofs.SoundNames.{All_more, All_map, not_found, found_below, apart_more, Names, names_sound}
use Rattle.fm_problem.proofs.LineFaults.{line_polynomial_sound}

-- ---- generators
record Kept (r : Ring) (g : Generators) : Type 0 where
  of_ring : All (IsPolynomialOf r) g.kept
  nonzero : All (λ f. f.terms ≢ []) g.kept
  fewer : length g.kept ≤ g.written
  few : g.written ≤ most_generators

kept_one : (r : Ring) (g : Generators) (f : PolyValue) (ts : List Term) → f.terms ≡ ts → IsPolynomialOf r f → nat_lt g.written most_generators ≡ true → Kept r g
    → Kept r (record { written = g.written + 1; kept = unless_empty g.kept f ts })
kept_one r g f [] e sound below kept =
    let more = ltb-true g.written most_generators below in let fewer = kept.fewer in
    record { of_ring = kept.of_ring; nonzero = kept.nonzero; fewer = omega (arith, fewer); few = omega (arith, more) }
kept_one r g f (t ∷ ts) e sound below kept =
    let more = ltb-true g.written most_generators below in let fewer = kept.fewer in let long = length-append g.kept (f ∷ []) in
    record {
      of_ring = All_more (IsPolynomialOf r) g.kept f kept.of_ring sound;
      nonzero = All_more (λ f. f.terms ≢ []) g.kept f kept.nonzero (λ none. no_nil t ts (sym e ∙ none));
      fewer = omega (arith, fewer, long);
      few = omega (arith, more);
    }
  where
    no_nil : (t : Term) (ts : List Term) → t ∷ ts ≡ [] → ⊥
    no_nil t ts h = cc

generator_kept : (r : Rules) (g h : Generators) (text : Bytes) → length r.names ≡ r.ring.vars → Kept r.ring g → plus_generator r g text ≡ Ok h → Kept r.ring h
generator_kept r g h text named kept e =
    let test = passed (nat_lt g.written most_generators) Limit (polynomial_in r text >>= λ f. Ok (record { written = g.written + 1; kept = unless_zero g.kept f })) h e in
    let read = first_read (polynomial_in r text) (λ f. Ok (record { written = g.written + 1; kept = unless_zero g.kept f })) h test.1 in
    subst (Kept r.ring) (same_ok read.2) (kept_one r.ring g read.0 (read.0).terms refl (line_polynomial_sound r text read.0 named read.1) test.0 kept)

generators_kept : (r : Rules) (texts : List Bytes) (g : Generators) → length r.names ≡ r.ring.vars
    → steps (plus_generator r) (record { written = 0; kept = [] }) texts ≡ Ok g → Kept r.ring g
generators_kept r texts g named e =
    steps_keep (plus_generator r) (Kept r.ring) (λ s x t kept h. generator_kept r s t x named kept h) (record { written = 0; kept = [] }) texts g
    (record { of_ring = All-nil (IsPolynomialOf r.ring); nonzero = All-nil (λ f. f.terms ≢ []); fewer = omega arith; few = omega arith }) e

-- ---- ideals
query_more : (q : Problem) (i : Ideal) (z : Query) → IsQueryOf q z → IsQueryOf (record { ring = q.ring; vars = q.vars; ideals = q.ideals ++ i ∷ []; queries = q.queries }) z
query_more q i z w = more z w
  where
    still : (k : ℕ) → k < length q.ideals → k < length (q.ideals ++ i ∷ [])
    still k below = let long = length-append q.ideals (i ∷ []) in omega (arith, below, long)

    more : (z : Query) → IsQueryOf q z → IsQueryOf (record { ring = q.ring; vars = q.vars; ideals = q.ideals ++ i ∷ []; queries = q.queries }) z
    more (queries.TheVariants.Zero j k) w = (w.0, still k w.1)
    more (queries.TheVariants.Class j k e z) w = (w.0, still k w.1, w.2, w.3)
    more (queries.TheVariants.Root j k) w = (w.0, still k w.1)
    more (queries.TheVariants.Invert j k f) w = (w.0, still k w.1, w.2)
    more (queries.TheVariants.Support j k) w = (w.0, still k w.1)
    more (queries.TheVariants.Map j k l) w = (w.0, still k w.1, still l w.2)
    more (queries.TheVariants.Member k f) w = (still k w.0, w.1)
    more (queries.TheVariants.Resolution j k) w = (w.0, still k w.1)
    more (queries.TheVariants.ExtOf j k) w = (w.0, still k w.1)

ideal_added : (q : Problem) (n : Bytes) (fs : List PolyValue) → IsProblem q → length q.ideals < most_ideals → is_some (place 0 n (ideal_names q)) ≡ false
    → IsIdealOf q.ring (record { name = n; generators = fs }) → IsProblem (plus_ideal q n fs)
ideal_added q n fs sound room fresh w =
    let i : Ideal = record { name = n; generators = fs } in
    let long = length-append q.ideals (i ∷ []) in
    record {
      bounded = record { named = sound.bounded.named; some = sound.bounded.some; few = sound.bounded.few; few_ideals = omega (arith, room, long) };
      variables = sound.variables;
      variables_apart = sound.variables_apart;
      ideals = All_more (IsIdealOf q.ring) q.ideals i sound.ideals w;
      ideals_apart = subst AreApart (sym (map-append (λ j. j.name) q.ideals (i ∷ []))) (apart_more (ideal_names q) n sound.ideals_apart (not_found 0 n (ideal_names q) fresh));
      few_queries = sound.few_queries;
      asked = All_map (IsQueryOf q) (IsQueryOf (plus_ideal q n fs)) (λ z. query_more q i z) q.queries sound.asked;
    }

ideal_sound : (q s : Problem) (n : Bytes) (texts : List Bytes) → is_name n ≡ true → IsProblem q → with_ideal q n texts ≡ Ok s → IsProblem s
ideal_sound q s n texts name sound h =
    let count = passed (nat_lt (length q.ideals) most_ideals) Limit (if is_some (place 0 n (ideal_names q)) then Err Repeated
    else (if nat_le (length n) longest_name then (generators_in (rules_of q) texts >>= λ fs. Ok (plus_ideal q n fs)) else Err Limit)) s h in
    let fresh = not_failed (is_some (place 0 n (ideal_names q))) Repeated (if nat_le (length n) longest_name then (generators_in (rules_of q) texts >>= λ fs. Ok (plus_ideal q n fs)) else Err Limit) s count.1 in
    let short = passed (nat_le (length n) longest_name) Limit (generators_in (rules_of q) texts >>= λ fs. Ok (plus_ideal q n fs)) s fresh.1 in
    let read = first_read (generators_in (rules_of q) texts) (λ fs. Ok (plus_ideal q n fs)) s short.1 in
    let all = first_read (steps (plus_generator (rules_of q)) (record { written = 0; kept = [] }) texts) (λ g. Ok g.kept) read.0 read.1 in
    let kept = generators_kept (rules_of q) texts all.0 sound.bounded.named all.1 in
    subst IsProblem (same_ok read.2) (ideal_added q n read.0 sound (ltb-true (length q.ideals) most_ideals count.0) fresh.0
    (subst (λ fs. IsIdealOf q.ring (record { name = n; generators = fs })) (same_ok all.2) (ideal kept (leb-true (length n) longest_name short.0))))
  where
    ideal : {g : Generators} → Kept q.ring g → length n ≤ longest_name → IsIdealOf q.ring (record { name = n; generators = g.kept })
    ideal kept short = let fewer = kept.fewer in let few = kept.few in
        record { named = record { name = name; short = short }; of_ring = kept.of_ring; nonzero = kept.nonzero; few = omega (arith, fewer, few) }

-- ---- queries
degree_sound : (q : Problem) (i j : ℕ) → degree_in q i ≡ Ok j → j ≤ q.ring.vars
degree_sound q i j h =
    let test = passed (nat_le i q.ring.vars) Range (Ok i) j h in subst (λ k. k ≤ q.ring.vars) (same_ok test.1) (leb-true i q.ring.vars test.0)

stage_sound : (e s : ℕ) → stage_in e ≡ Ok s → s ≤ greatest_stage
stage_sound e s h = let test = passed (nat_le e greatest_stage) Limit (Ok e) s h in subst (λ k. k ≤ greatest_stage) (same_ok test.1) (leb-true e greatest_stage test.0)

place_sound : (ms : List Bytes) (n : Bytes) (k : ℕ) (found : Option ℕ) → place 0 n ms ≡ found → or_fault UnknownName found ≡ Ok k → k < length ms
place_sound ms n k None e h = absurd (no_fault UnknownName k h)
place_sound ms n k (Some j) e h = let below = found_below 0 k n ms (e ∙ ap Some (same_ok h)) in omega (arith, below)

ideal_found : (q : Problem) (n : Bytes) (k : ℕ) → ideal_in q n ≡ Ok k → k < length q.ideals
ideal_found q n k h =
    let below = place_sound (ideal_names q) n k (place 0 n (ideal_names q)) refl h in let long = length-map q.ideals (λ i. i.name) in omega (arith, below, long)

vector_sound : (q : Problem) (texts : List Bytes) (z : List PolyValue) → IsProblem q → vector_in (rules_of q) texts ≡ Ok z → All (IsPolynomialOf q.ring) z
vector_sound q texts z sound h =
    steps_keep (plus_entry (rules_of q)) (All (IsPolynomialOf q.ring)) one_more [] texts z (All-nil (IsPolynomialOf q.ring)) h
  where
    one_more : (fs : List PolyValue) (text : Bytes) (gs : List PolyValue) → All (IsPolynomialOf q.ring) fs → plus_entry (rules_of q) fs text ≡ Ok gs → All (IsPolynomialOf q.ring) gs
    one_more fs text gs all e =
        let read = first_read (polynomial_in (rules_of q) text) (λ f. Ok (fs ++ f ∷ [])) gs e in
        subst (All (IsPolynomialOf q.ring)) (same_ok read.2) (All_more (IsPolynomialOf q.ring) fs read.0 all (line_polynomial_sound (rules_of q) text read.0 sound.bounded.named read.1))

module_sound : (q : Problem) (a : Question) (i k : ℕ) → i ≤ q.ring.vars → k < length q.ideals → IsQueryOf q (module_query a i k)
module_sound q Zero i k d b = (d, b)
module_sound q Root i k d b = (d, b)
module_sound q Support i k d b = (d, b)
module_sound q Resolution i k d b = (d, b)
module_sound q Ext i k d b = (d, b)

query_sound : (q : Problem) (s : Statement) (z : Query) → IsProblem q → query_in q s ≡ Ok z → IsQueryOf q z
query_sound q (RingLine p names) z sound h = absurd (no_fault Syntax z h)
query_sound q (OrderLine o) z sound h = absurd (no_fault Syntax z h)
query_sound q (IdealLine n texts) z sound h = absurd (no_fault Syntax z h)
query_sound q (ModuleLine a i n) z sound h =
    let d = first_read (degree_in q i) (λ i. ideal_in q n >>= λ k. Ok (module_query a i k)) z h in
    let k = first_read (ideal_in q n) (λ k. Ok (module_query a d.0 k)) z d.2 in
    subst (IsQueryOf q) (same_ok k.2) (module_sound q a d.0 k.0 (degree_sound q i d.0 d.1) (ideal_found q n k.0 k.1))
query_sound q (ClassLine i n e texts) z sound h =
    let d = first_read (degree_in q i) (λ i. ideal_in q n >>= λ k. (stage_in e >>= λ e. (vector_in (rules_of q) texts >>= λ v. Ok (queries.TheVariants.Class i k e v)))) z h in
    let k = first_read (ideal_in q n) (λ k. stage_in e >>= λ e. (vector_in (rules_of q) texts >>= λ v. Ok (queries.TheVariants.Class d.0 k e v))) z d.2 in
    let t = first_read (stage_in e) (λ e. vector_in (rules_of q) texts >>= λ v. Ok (queries.TheVariants.Class d.0 k.0 e v)) z k.2 in
    let v = first_read (vector_in (rules_of q) texts) (λ v. Ok (queries.TheVariants.Class d.0 k.0 t.0 v)) z t.2 in
    subst (IsQueryOf q) (same_ok v.2) (degree_sound q i d.0 d.1, ideal_found q n k.0 k.1, stage_sound e t.0 t.1, vector_sound q texts v.0 sound v.1)
query_sound q (InvertLine i n text) z sound h =
    let d = first_read (degree_in q i) (λ i. ideal_in q n >>= λ k. (polynomial_in (rules_of q) text >>= λ f. Ok (queries.TheVariants.Invert i k f))) z h in
    let k = first_read (ideal_in q n) (λ k. polynomial_in (rules_of q) text >>= λ f. Ok (queries.TheVariants.Invert d.0 k f)) z d.2 in
    let f = first_read (polynomial_in (rules_of q) text) (λ f. Ok (queries.TheVariants.Invert d.0 k.0 f)) z k.2 in
    subst (IsQueryOf q) (same_ok f.2) (degree_sound q i d.0 d.1, ideal_found q n k.0 k.1, line_polynomial_sound (rules_of q) text f.0 sound.bounded.named f.1)
query_sound q (MapLine i n m) z sound h =
    let d = first_read (degree_in q i) (λ i. ideal_in q n >>= λ k. (ideal_in q m >>= λ j. Ok (queries.TheVariants.Map i k j))) z h in
    let k = first_read (ideal_in q n) (λ k. ideal_in q m >>= λ j. Ok (queries.TheVariants.Map d.0 k j)) z d.2 in
    let j = first_read (ideal_in q m) (λ j. Ok (queries.TheVariants.Map d.0 k.0 j)) z k.2 in
    subst (IsQueryOf q) (same_ok j.2) (degree_sound q i d.0 d.1, ideal_found q n k.0 k.1, ideal_found q m j.0 j.1)
query_sound q (MemberLine n text) z sound h =
    let k = first_read (ideal_in q n) (λ k. polynomial_in (rules_of q) text >>= λ f. Ok (queries.TheVariants.Member k f)) z h in
    let f = first_read (polynomial_in (rules_of q) text) (λ f. Ok (queries.TheVariants.Member k.0 f)) z k.2 in
    subst (IsQueryOf q) (same_ok f.2) (ideal_found q n k.0 k.1, line_polynomial_sound (rules_of q) text f.0 sound.bounded.named f.1)

same_asked : (q : Problem) (z y : Query) → IsQueryOf q y → IsQueryOf (plus_query q z) y
same_asked q z (queries.TheVariants.Zero j k) v = v
same_asked q z (queries.TheVariants.Class j k e x) v = v
same_asked q z (queries.TheVariants.Root j k) v = v
same_asked q z (queries.TheVariants.Invert j k f) v = v
same_asked q z (queries.TheVariants.Support j k) v = v
same_asked q z (queries.TheVariants.Map j k l) v = v
same_asked q z (queries.TheVariants.Member k f) v = v
same_asked q z (queries.TheVariants.Resolution j k) v = v
same_asked q z (queries.TheVariants.ExtOf j k) v = v

query_added : (q : Problem) (z : Query) → IsProblem q → length q.queries < most_queries → IsQueryOf q z → IsProblem (plus_query q z)
query_added q z sound room w = let long = length-append q.queries (z ∷ []) in record {
  bounded = record { named = sound.bounded.named; some = sound.bounded.some; few = sound.bounded.few; few_ideals = sound.bounded.few_ideals };
  variables = sound.variables;
  variables_apart = sound.variables_apart;
  ideals = sound.ideals;
  ideals_apart = sound.ideals_apart;
  few_queries = omega (arith, room, long);
  asked = All_map (IsQueryOf q) (IsQueryOf (plus_query q z)) (λ y. same_asked q z y) (q.queries ++ z ∷ []) (All_more (IsQueryOf q) q.queries z sound.asked w);
}

with_query_sound : (q t : Problem) (s : Statement) → IsProblem q → with_query q s ≡ Ok t → IsProblem t
with_query_sound q t s sound h =
    let count = passed (nat_lt (length q.queries) most_queries) Limit (query_in q s >>= λ z. Ok (plus_query q z)) t h in
    let read = first_read (query_in q s) (λ z. Ok (plus_query q z)) t count.1 in
    subst IsProblem (same_ok read.2) (query_added q read.0 sound (ltb-true (length q.queries) most_queries count.0) (query_sound q s read.0 sound read.1))

-- ---- the text
line_sound : (q t : Problem) (s : Option Statement) → Named s → IsProblem q → with_line q s ≡ Ok t → IsProblem t
line_sound q t None named sound h = absurd (no_fault Syntax t h)
line_sound q t (Some (RingLine p names)) named sound h = absurd (no_fault Syntax t h)
line_sound q t (Some (OrderLine o)) named sound h = absurd (no_fault Syntax t h)
line_sound q t (Some (IdealLine n texts)) named sound h = ideal_sound q t n texts named sound h
line_sound q t (Some (ModuleLine a i n)) named sound h = with_query_sound q t (ModuleLine a i n) sound h
line_sound q t (Some (ClassLine i n e texts)) named sound h = with_query_sound q t (ClassLine i n e texts) sound h
line_sound q t (Some (InvertLine i n text)) named sound h = with_query_sound q t (InvertLine i n text) sound h
line_sound q t (Some (MapLine i n m)) named sound h = with_query_sound q t (MapLine i n m) sound h
line_sound q t (Some (MemberLine n text)) named sound h = with_query_sound q t (MemberLine n text) sound h

at_line_ok : {A : Type 0} (l : ℕ) (r : Result A FaultKind) (x : A) → at_line l r ≡ Ok x → r ≡ Ok x
at_line_ok l (Ok y) x h = ap Ok (same_ok h)
at_line_ok l (Err k) x h = absurd (no_fault (record { line = l; kind = k }) x h)

lines_sound : (q t : Problem) (ls : List NumberedLine) → IsProblem q → steps plus_line q ls ≡ Ok t → IsProblem t
lines_sound q t ls sound h =
    steps_keep plus_line IsProblem (λ s l u w e. line_sound s u (statement_of l.text) (statement_named l.text) w (at_line_ok l.number (with_line s (statement_of l.text)) u e)) q ls t sound h

begun_sound : (p : Prime) (o : Order) (vs : List Bytes) → Names vs → 1 ≤ length vs → length vs ≤ 8
    → IsProblem (record { ring = record { prime = p; vars = length vs; order = o }; vars = vs; ideals = []; queries = [] })
begun_sound p o vs names some few = record {
  bounded = record { named = refl; some = some; few = few; few_ideals = omega arith };
  variables = names.named;
  variables_apart = names.apart;
  ideals = All-nil (IsIdealOf (record { prime = p; vars = length vs; order = o }));
  ideals_apart = tt;
  few_queries = omega arith;
  asked = λ k d below. absurd (omega (arith, below));
}

-- what a ring line begins
pub record Begun (q : Problem) : Type 0 where
  pub any_order : (o : Order) → IsProblem (with_order o q)
  pub first_order : IsProblem q

ring_sound : (s : Option Statement) (q : Problem) → Named s → ring_of s ≡ Ok q → Begun q
ring_sound None q named h = absurd (no_fault Syntax q h)
ring_sound (Some (OrderLine o)) q named h = absurd (no_fault Syntax q h)
ring_sound (Some (IdealLine n texts)) q named h = absurd (no_fault Syntax q h)
ring_sound (Some (ModuleLine a i n)) q named h = absurd (no_fault Syntax q h)
ring_sound (Some (ClassLine i n e texts)) q named h = absurd (no_fault Syntax q h)
ring_sound (Some (InvertLine i n text)) q named h = absurd (no_fault Syntax q h)
ring_sound (Some (MapLine i n m)) q named h = absurd (no_fault Syntax q h)
ring_sound (Some (MemberLine n text)) q named h = absurd (no_fault Syntax q h)
ring_sound (Some (RingLine n ws)) q named h =
    let p = first_read (or_fault NotPrime (prime_of n)) (λ p. steps plus_name [] ws >>= λ vs. Ok (bare p vs)) q h in
    let vs = first_read (steps plus_name [] ws) (λ vs. Ok (bare p.0 vs)) q p.2 in
    let names = names_sound [] ws vs.0 named.0 (record { named = All-nil IsShortName; apart = tt }) vs.1 in
    let count = ring_counted ws vs.0 named.1 vs.1 in
    subst Begun (same_ok vs.2) (record { any_order = λ o. begun_sound p.0 o vs.0 names count.0 count.1; first_order = begun_sound p.0 Grevlex vs.0 names count.0 count.1 })

second_sound : (o : Option Order) (q t : Problem) (l : NumberedLine) (ls : List NumberedLine) → Begun q → after_second o q l ls ≡ Ok t → IsProblem t
second_sound None q t l ls begun h = lines_sound q t (l ∷ ls) begun.first_order h
second_sound (Some o) q t l ls begun h = lines_sound (with_order o q) t ls (begun.any_order o) h

after_ring_sound : (q t : Problem) (ls : List NumberedLine) → Begun q → after_ring q ls ≡ Ok t → IsProblem t
after_ring_sound q t [] begun h = subst IsProblem (same_ok h) begun.first_order
after_ring_sound q t (l ∷ ls) begun h = second_sound (order_in (statement_of l.text)) q t l ls begun h

from_lines_sound : (end : ℕ) (ls : List NumberedLine) (t : Problem) → from_lines end ls ≡ Ok t → IsProblem t
from_lines_sound end [] t h = absurd (no_fault (record { line = end; kind = Syntax }) t h)
from_lines_sound end (l ∷ ls) t h =
    let read = first_read (at_line l.number (ring_of (statement_of l.text))) (λ q. after_ring q ls) t h in
    after_ring_sound read.0 t ls (ring_sound (statement_of l.text) read.0 (statement_named l.text) (at_line_ok l.number (ring_of (statement_of l.text)) read.0 read.1)) read.2

pub problem_sound : (text : Bytes) (q : Problem) → problem_of text ≡ Ok q → IsProblem q
unfolding problem_of
problem_sound text q h = from_lines_sound (end_of text) (lines_of text) q h

query_line_sound : (q : Problem) (s : Option Statement) (z : Query) → IsProblem q → query_of_statement q s ≡ Ok z → IsQueryOf q z
query_line_sound q None z sound h = absurd (no_fault Syntax z h)
query_line_sound q (Some s) z sound h = query_sound q s z sound h

pub query_of_sound : (q : Problem) (line : Bytes) (z : Query) → IsProblem q → query_of q line ≡ Ok z → IsQueryOf q z
unfolding query_of
query_of_sound q line z sound h = query_line_sound q (statement_of line) z sound (at_line_ok 1 (query_of_statement q (statement_of line)) z h)
