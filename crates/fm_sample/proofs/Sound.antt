-- Drawn problems are sound.
use Rattle.std.proofs.Common.{◌≡◌, ◌∙◌, ◌<◌, ◌≤◌, ℕ, zero, suc, true, List, [], ◌∷◌, ◌++◌, All, length, refl, sym, subst, arith, length-append}
use Rattle.std.specs.List.{list_all}
use Rattle.std.proofs.lemmas.List.Elements.{All-append, All-cons, All-nil}
use Rattle.std.proofs.lemmas.List.Folds.{list_all-append}
use Rattle.fm_text.specs.SumOfTerms.{IsPolynomialOf}
use Rattle.fm_problem.specs.Sound.{AreApart, AreSmallIdeals, AreSmallQueries, HasSmallExponents, IsIdealOf, IsProblem, IsQueryOf}
use Rattle.fm_problem.specs.declared.ideal.Ideal.{Ideal}
use Rattle.fm_problem.specs.declared.problem.Problem.{Problem}
use Rattle.fm_problem.specs.declared.query.Query.{Query}
use Rattle.fm_problem.specs.declared.query.Query as queries
use Rattle.fm_words.specs.Parts.{Bytes}
use Rattle.fm_problem.proofs.AsciiNames.{both}
use Rattle.fm_problem.proofs.SoundNames.{All_more}
use Rattle.fm_sample.specs.Samples.{sample_ring, variables, ideal_name, generators, past_ideals, ideals, x, queries_on, sample_problem}
use Rattle.fm_sample.proofs.Names.{is_short, short_name, short_variables, variables_apart, names, names_of_ideals, names_are_short, names_apart}
use Rattle.fm_sample.proofs.Drawn.{few_generators, generators_sound, generators_nonzero, generators_small, monomial_sound}

-- ---- ideals
ideals_sound : (n s : ℕ) → list_all is_short (names n) ≡ true → All (IsIdealOf sample_ring) (ideals n s)
ideals_sound zero s h = All-nil (IsIdealOf sample_ring)
ideals_sound (suc n) s h =
    let parts = both (list_all is_short (names n)) _ (sym (list_all-append is_short (names n) (ideal_name (suc n) ∷ [])) ∙ h) in
    All_more (IsIdealOf sample_ring) (ideals n s) (record { name = ideal_name (suc n); generators = generators (past_ideals n s) }) (ideals_sound n s parts.0) (record {
      named = short_name (ideal_name (suc n)) (both (is_short (ideal_name (suc n))) true parts.1).0;
      of_ring = generators_sound (past_ideals n s);
      nonzero = generators_nonzero (past_ideals n s);
      few = few_generators (past_ideals n s);
    })

ideals_counted : (n s : ℕ) → length (ideals n s) ≡ n
ideals_counted zero s = refl
ideals_counted (suc n) s = let before = ideals_counted n s in let long = length-append (ideals n s) (record { name = ideal_name (suc n); generators = generators (past_ideals n s) } ∷ []) in omega (arith, before, long)

small_ideal_more : (is : List Ideal) (i : Ideal) → AreSmallIdeals is → AreSmallIdeals (i ∷ []) → AreSmallIdeals (is ++ i ∷ [])
small_ideal_more [] i all one = one
small_ideal_more (j ∷ is) i all one = (all.0, small_ideal_more is i all.1 one)

ideals_small : (n s : ℕ) → AreSmallIdeals (ideals n s)
ideals_small zero s = tt
ideals_small (suc n) s = small_ideal_more (ideals n s) _ (ideals_small n s) (generators_small (past_ideals n s), tt)

-- ---- queries
module _ (q : Problem) (ring_is : q.ring ≡ sample_ring) where
  on_ideal : (n : ℕ) → n < length q.ideals → All (IsQueryOf q) (queries.TheVariants.Zero 2 n ∷ queries.TheVariants.Zero 3 n ∷ queries.TheVariants.Invert 2 n x ∷ [])
  on_ideal n below =
      let two : 2 ≤ q.ring.vars = subst (λ r. 2 ≤ r.vars) (sym ring_is) (omega arith) in
      let three : 3 ≤ q.ring.vars = subst (λ r. 3 ≤ r.vars) (sym ring_is) (omega arith) in
      let of_ring : IsPolynomialOf q.ring x = subst (λ r. IsPolynomialOf r x) (sym ring_is) (monomial_sound (1 ∷ 0 ∷ 0 ∷ 0 ∷ []) refl) in
      let one = All-cons (IsQueryOf q) (queries.TheVariants.Invert 2 n x) [] (two, below, of_ring) (All-nil (IsQueryOf q)) in
      let both = All-cons (IsQueryOf q) (queries.TheVariants.Zero 3 n) (queries.TheVariants.Invert 2 n x ∷ []) (three, below) one in
      All-cons (IsQueryOf q) (queries.TheVariants.Zero 2 n) (queries.TheVariants.Zero 3 n ∷ queries.TheVariants.Invert 2 n x ∷ []) (two, below) both

  queries_sound : (n : ℕ) → n ≤ length q.ideals → All (IsQueryOf q) (queries_on n)
  queries_sound zero few = All-nil (IsQueryOf q)
  queries_sound (suc n) few = All-append (IsQueryOf q) (queries_on n) _ (queries_sound n (omega (arith, few))) (on_ideal n (omega (arith, few)))

small_queries_more : (zs ws : List Query) → AreSmallQueries zs → AreSmallQueries ws → AreSmallQueries (zs ++ ws)
small_queries_more [] ws all more = more
small_queries_more (z ∷ zs) ws all more = (all.0, small_queries_more zs ws all.1 more)

queries_small : (n : ℕ) → AreSmallQueries (queries_on n)
queries_small zero = tt
queries_small (suc n) = small_queries_more (queries_on n) _ (queries_small n) (tt, (tt, ((refl, tt), tt)))

-- ---- the problem
sample_sound : (n : ℕ) → IsProblem (sample_problem n)
unfolding sample_problem
sample_sound n =
    let twenty = ideals_counted 20 n in
    record {
      bounded = record { named = refl; some = omega arith; few = omega arith; few_ideals = omega (arith, twenty) };
      variables = short_variables;
      variables_apart = variables_apart;
      ideals = ideals_sound 20 n names_are_short;
      ideals_apart = subst AreApart (sym (names_of_ideals 20 n)) names_apart;
      few_queries = omega arith;
      asked = queries_sound (record { ring = sample_ring; vars = variables; ideals = ideals 20 n; queries = queries_on 20 }) refl 20 (omega (arith, twenty));
    }

sample_small : (n : ℕ) → HasSmallExponents (sample_problem n)
unfolding sample_problem
sample_small n = record { ideals = ideals_small 20 n; queries = queries_small 20 }

-- its parts make it
module _ (n : ℕ) (vars : List Bytes) (is : List Ideal) (zs : List Query) (vars_are : vars ≡ variables) (ideals_are : is ≡ ideals 20 n) (queries_are : zs ≡ queries_on 20) where
  pub drawn : record { ring = sample_ring; vars = vars; ideals = is; queries = zs } ≡ sample_problem n
  unfolding sample_problem
  drawn = rw (vars_are, ideals_are, queries_are) refl

  pub drawn_sound : IsProblem (record { ring = sample_ring; vars = vars; ideals = is; queries = zs })
  drawn_sound = subst IsProblem (sym drawn) (sample_sound n)

  pub drawn_small : HasSmallExponents (record { ring = sample_ring; vars = vars; ideals = is; queries = zs })
  drawn_small = subst HasSmallExponents (sym drawn) (sample_small n)
