-- Heads that are read are sound.
use Rattle.std.proofs.Common.{◌≡◌, ◌≢◌, ◌<◌, ◌≤◌, ◌+◌, ℕ, true, false, if◌then◌else◌, List, [], ◌∷◌, ◌++◌, All, length, is_some, nat_lt, nat_le, Option, Some, None, Result, Ok, Err, refl, sym, ◌∙◌, ap, subst, arith, length-append}
use Rattle.std.proofs.lemmas.Bool.{leb-true, ltb-true}
use Rattle.std.proofs.lemmas.List.{map-append}
use Rattle.std.proofs.lemmas.List.Elements.{All-nil}
use Rattle.fm_gfp.specs.declared.prime.Prime.{Prime}
use Rattle.fm_gfp.specs.Primes.{prime_of}
use Rattle.fm_mono.specs.declared.order.Order.{Order}
use Rattle.fm_poly.specs.declared.ring.Ring.{Ring}
use Rattle.fm_poly.specs.declared.term.Term.{Term}
use Rattle.fm_poly.specs.Polys.{PolyValue}
use Rattle.fm_text.specs.Polynomials.{Rules}
use Rattle.fm_text.specs.SumOfTerms.{IsPolynomialOf}
use Rattle.fm_words.specs.Parts.{Bytes}
use Rattle.fm_words.specs.Words.{is_name}
use Rattle.fm_words.specs.Steps.{◌>>=◌, steps, or_fault, place}
use Rattle.fm_words.proofs.FirstFaults.{no_fault, same_ok, first_read, steps_keep, passed, not_failed}
use Rattle.fm_problem.specs.declared.fault_kind.FaultKind.{FaultKind}
use Rattle.fm_problem.specs.declared.fault_kind.FaultKind.TheVariants.{Syntax, Repeated, NotPrime, Limit}
use Rattle.fm_problem.specs.declared.ideal.Ideal.{Ideal}
use Rattle.fm_problem.specs.declared.problem.Problem.{Problem}
use Rattle.fm_problem.specs.declared.query.Query.{Query}
use Rattle.fm_problem.specs.declared.query.Query.TheVariants as queries
use Rattle.fm_problem.specs.Limits.{longest_name, most_ideals, most_generators}
use Rattle.fm_problem.specs.Problems.{polynomial_in, plus_name, bare, ring_of, with_order, rules_of, Generators, unless_empty, unless_zero, plus_generator, generators_in, ideal_names, plus_ideal, with_ideal, with_line}
use Rattle.fm_problem.specs.Statements.{Statement, RingLine, OrderLine, IdealLine, ModuleLine, ClassLine, InvertLine, MapLine, MemberLine}
use Rattle.fm_problem.specs.Sound.{IsShortName, AreApart, IsIdealOf, IsQueryOf, IsProblem}
use Rattle.fm_problem.proofs.LineFaults.{line_polynomial_sound}
use Rattle.fm_problem.proofs.NamedStatements.{Named}
use Rattle.fm_problem.proofs.NamesRead.{ring_counted}
use Rattle.fm_problem.proofs.SoundNames.{All_more, All_map, not_found, apart_more, names_sound}
use Rattle.fm_check.specs.Heads.{IsBegun}
use Rattle.fm_check.specs.Lines.{IsOfHead}

-- ---- rings
begun_sound : (p : Prime) (vs : List Bytes) → All IsShortName vs → AreApart vs → 1 ≤ length vs → length vs ≤ 8 → IsBegun (bare p vs)
begun_sound p vs named apart some few o = record {
  bounded = record { named = refl; some = some; few = few; few_ideals = omega arith };
  variables = named;
  variables_apart = apart;
  ideals = All-nil (IsIdealOf (record { prime = p; vars = length vs; order = o }));
  ideals_apart = tt;
  few_queries = omega arith;
  asked = λ k d below. absurd (omega (arith, below));
}

pub ring_sound : (o : Option Statement) (q : Problem) → Named o → ring_of o ≡ Ok q → IsBegun q
ring_sound (Some (RingLine n ws)) q named h =
    let p = first_read (or_fault NotPrime (prime_of n)) (λ p. steps plus_name [] ws >>= λ vs. Ok (bare p vs)) q h in
    let vs = first_read (steps plus_name [] ws) (λ vs. Ok (bare p.0 vs)) q p.2 in
    let names = names_sound [] ws vs.0 named.0 (record { named = All-nil IsShortName; apart = tt }) vs.1 in
    let count = ring_counted ws vs.0 named.1 vs.1 in
    subst IsBegun (same_ok vs.2) (begun_sound p.0 vs.0 names.named names.apart count.0 count.1)
ring_sound o q named h = absurd (no_fault Syntax q h)

-- ---- ideals
record AreKept (r : Ring) (g : Generators) : Type 0 where
  of_ring : All (IsPolynomialOf r) g.kept
  nonzero : All (λ f. f.terms ≢ []) g.kept
  fewer : length g.kept ≤ g.written
  few : g.written ≤ most_generators

one_kept : (r : Ring) (g : Generators) (f : PolyValue) (ts : List Term) → f.terms ≡ ts → IsPolynomialOf r f → g.written < most_generators → AreKept r g
    → AreKept r (record { written = g.written + 1; kept = unless_empty g.kept f ts })
one_kept r g f [] e sound below kept =
    let fewer = kept.fewer in record { of_ring = kept.of_ring; nonzero = kept.nonzero; fewer = omega (arith, fewer); few = omega (arith, below) }
one_kept r g f (t ∷ ts) e sound below kept =
    let fewer = kept.fewer in let long = length-append g.kept (f ∷ []) in
    record {
      of_ring = All_more (IsPolynomialOf r) g.kept f kept.of_ring sound;
      nonzero = All_more (λ f. f.terms ≢ []) g.kept f kept.nonzero (λ none. not_empty t ts (sym e ∙ none));
      fewer = omega (arith, fewer, long);
      few = omega (arith, below);
    }
  where
    not_empty : (t : Term) (ts : List Term) → t ∷ ts ≡ [] → ⊥
    not_empty t ts h = cc

all_kept : (r : Rules) (texts : List Bytes) (g : Generators) → length r.names ≡ r.ring.vars
    → steps (plus_generator r) (record { written = 0; kept = [] }) texts ≡ Ok g → AreKept r.ring g
all_kept r texts g named e =
    steps_keep (plus_generator r) (AreKept r.ring) one_more (record { written = 0; kept = [] }) texts g
    (record { of_ring = All-nil (IsPolynomialOf r.ring); nonzero = All-nil (λ f. f.terms ≢ []); fewer = omega arith; few = omega arith }) e
  where
    one_more : (g : Generators) (text : Bytes) (h : Generators) → AreKept r.ring g → plus_generator r g text ≡ Ok h → AreKept r.ring h
    one_more g text h kept e =
        let test = passed (nat_lt g.written most_generators) Limit (polynomial_in r text >>= λ f. Ok (record { written = g.written + 1; kept = unless_zero g.kept f })) h e in
        let read = first_read (polynomial_in r text) (λ f. Ok (record { written = g.written + 1; kept = unless_zero g.kept f })) h test.1 in
        subst (AreKept r.ring) (same_ok read.2)
        (one_kept r.ring g read.0 (read.0).terms refl (line_polynomial_sound r text read.0 named read.1) (ltb-true g.written most_generators test.0) kept)

-- a query speaks of the same ideals, where one more stands behind them
still_asked : (q : Problem) (n : Bytes) (fs : List PolyValue) (z : Query) → IsQueryOf q z → IsQueryOf (plus_ideal q n fs) z
still_asked q n fs z w = by z w
  where
    there : (k : ℕ) → k < length q.ideals → k < length (q.ideals ++ record { name = n; generators = fs } ∷ [])
    there k below = let long = length-append q.ideals (record { name = n; generators = fs } ∷ []) in omega (arith, below, long)

    by : (z : Query) → IsQueryOf q z → IsQueryOf (plus_ideal q n fs) z
    by (queries.Zero i k) w = (w.0, there k w.1)
    by (queries.Class i k e z) w = (w.0, there k w.1, w.2, w.3)
    by (queries.Root i k) w = (w.0, there k w.1)
    by (queries.Invert i k f) w = (w.0, there k w.1, w.2)
    by (queries.Support i k) w = (w.0, there k w.1)
    by (queries.Map i k j) w = (w.0, there k w.1, there j w.2)
    by (queries.Member k f) w = (there k w.0, w.1)
    by (queries.Resolution i k) w = (w.0, there k w.1)
    by (queries.ExtOf i k) w = (w.0, there k w.1)

plus_sound : (q : Problem) (n : Bytes) (fs : List PolyValue) → IsProblem q → length q.ideals < most_ideals → is_some (place 0 n (ideal_names q)) ≡ false
    → IsIdealOf q.ring (record { name = n; generators = fs }) → IsProblem (plus_ideal q n fs)
plus_sound q n fs sound room fresh w =
    let i : Ideal = record { name = n; generators = fs } in
    let long = length-append q.ideals (i ∷ []) in
    record {
      bounded = record { named = sound.bounded.named; some = sound.bounded.some; few = sound.bounded.few; few_ideals = omega (arith, room, long) };
      variables = sound.variables;
      variables_apart = sound.variables_apart;
      ideals = All_more (IsIdealOf q.ring) q.ideals i sound.ideals w;
      ideals_apart = subst AreApart (sym (map-append (λ j. j.name) q.ideals (i ∷ []))) (apart_more (ideal_names q) n sound.ideals_apart (not_found 0 n (ideal_names q) fresh));
      few_queries = sound.few_queries;
      asked = All_map (IsQueryOf q) (IsQueryOf (plus_ideal q n fs)) (still_asked q n fs) q.queries sound.asked;
    }

ideal_sound : (q t : Problem) (n : Bytes) (texts : List Bytes) → is_name n ≡ true → IsProblem q → with_ideal q n texts ≡ Ok t → IsProblem t
ideal_sound q t n texts name sound h =
    let made = λ (fs : List PolyValue). let r : Result Problem FaultKind = Ok (plus_ideal q n fs) in r in
    let few = passed (nat_lt (length q.ideals) most_ideals) Limit _ t h in
    let fresh = not_failed (is_some (place 0 n (ideal_names q))) Repeated _ t few.1 in
    let short = passed (nat_le (length n) longest_name) Limit (generators_in (rules_of q) texts >>= made) t fresh.1 in
    let read = first_read (generators_in (rules_of q) texts) made t short.1 in
    let all = first_read (steps (plus_generator (rules_of q)) (record { written = 0; kept = [] }) texts) (λ g. Ok g.kept) read.0 read.1 in
    let kept = all_kept (rules_of q) texts all.0 sound.bounded.named all.1 in
    let fewer = kept.fewer in
    let most = kept.few in
    subst IsProblem (same_ok read.2) (plus_sound q n read.0 sound (ltb-true (length q.ideals) most_ideals few.0) fresh.0
    (subst (λ fs. IsIdealOf q.ring (record { name = n; generators = fs })) (same_ok all.2) (record {
      named = record { name = name; short = leb-true (length n) longest_name short.0 };
      of_ring = kept.of_ring;
      nonzero = kept.nonzero;
      few = omega (arith, fewer, most);
    })))

-- an ideal line keeps a problem one
pub head_sound : (q t : Problem) (o : Option Statement) → Named o → IsOfHead o → IsProblem q → with_line q o ≡ Ok t → IsProblem t
head_sound q t (Some (IdealLine n texts)) named of sound h = ideal_sound q t n texts named sound h
head_sound q t (Some (ModuleLine a i n)) named of sound h = absurd of
head_sound q t (Some (ClassLine i n e texts)) named of sound h = absurd of
head_sound q t (Some (InvertLine i n text)) named of sound h = absurd of
head_sound q t (Some (MapLine i n m)) named of sound h = absurd of
head_sound q t (Some (MemberLine n text)) named of sound h = absurd of
head_sound q t o named of sound h = absurd (no_fault Syntax t h)
