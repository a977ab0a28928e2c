-- The query `map`, call by call.
use Rattle.std.proofs.Common.{ℕ, ◌≡◌, length, Result, Ok, Err, sym, subst}
use Rattle.std.specs.Prelude.{IsErr, IsErrAnd}
use Rattle.fm_plan.specs.Following.{FollowsPlan}
use Rattle.fm_plan.specs.Queries.{ask_map, base_plan, plan}
use Rattle.fm_plan.specs.Results.{Ideal}
use Rattle.fm_plan.proofs.Bases.{Based, base_is}
use Rattle.fm_poly.specs.declared.ring.Ring.{Ring}
use Rattle.fm_run.specs.Runs.{Halts}
use Rattle.fm_run.specs.declared.task.Side.TheVariants.{Source, Target}
use Rattle.fm_run.specs.declared.task.Stopped.{Stopped}
use Rattle.fm_run.proofs.Parts.{failed}
use Rattle.fm_ext.specs.Exts.{ring_of}
use Rattle.fm_queries.specs.Bases.{BaseValue, base_meaning}
use Rattle.fm_queries.specs.Founds.{FollowsQuery, ended_by}
use Rattle.fm_queries.specs.Maps.{AreNested, contained_test, map_value}
use Rattle.fm_queries.specs.declared.map.Map.{Map}
use Rattle.fm_queries.specs.declared.unanswered.Unanswered.{Unanswered}
use Rattle.fm_queries.specs.declared.unanswered.Unanswered.TheVariants as ends
use Rattle.fm_queries.proofs.MapPlans.{between_ends, between_stops, contained_passes, source_stops, target_stops, test_stops}
use Rattle.fm_queries.proofs.MapShapes.{base_long}
use Rattle.fm_queries.proofs.MapTold.{Follows, between_told}

module _ (r : Ring) (i : ℕ) (fs gs : Ideal r) (old one : ℕ) where
  abbrev Asked : Result Map Unanswered → ℕ → Type 0
  Asked answer new = FollowsQuery (map_value r i fs gs) answer old new (plan r (ask_map i fs gs) old)

  fails : (e : Unanswered) (new : ℕ) → Halts old new (plan r (ask_map i fs gs) old) (ended_by e) → (answer : Result Map Unanswered) → IsErr answer × IsErrAnd answer (λ x. x ≡ e) → Asked answer new
  fails e new h answer is = failed (map_value r i fs gs) ended_by answer e old new (plan r (ask_map i fs gs) old) is h

  abbrev Tested : Result (Unit {0}) Unanswered → Type 0
  Tested result = FollowsQuery {X = Unit {0}} (λ u. tt) result old one (contained_test r fs gs old)

  pub test_fails : (e : Unanswered) → Tested (Err e) → (answer : Result Map Unanswered) → IsErr answer × IsErrAnd answer (λ x. x ≡ e) → Asked answer one
  test_fails e h answer is = fails e one (test_stops r i fs gs (map_value r i fs gs) old one e h) answer is

  module _ (passes : Tested (Ok tt)) (two : ℕ) where
    abbrev FromSource : Result BaseValue Stopped → Type 0
    FromSource result = FollowsPlan (base_meaning r) result one two (base_plan r Source i fs one)

    pub source_fails : (e : Stopped) → FromSource (Err e) → (answer : Result Map Unanswered) → IsErr answer × IsErrAnd answer (λ x. x ≡ ends.Stopped e) → Asked answer two
    source_fails e h answer is = fails (ends.Stopped e) two (source_stops r i fs gs (map_value r i fs gs) old one passes two e h) answer is

    module _ (b : BaseValue) (source : FromSource (Ok b)) (three : ℕ) where
      abbrev FromTarget : Result BaseValue Stopped → Type 0
      FromTarget result = FollowsPlan (base_meaning r) result two three (base_plan r Target i gs two)

      pub target_fails : (e : Stopped) → FromTarget (Err e) → (answer : Result Map Unanswered) → IsErr answer × IsErrAnd answer (λ x. x ≡ ends.Stopped e) → Asked answer three
      target_fails e h answer is = fails (ends.Stopped e) three (target_stops r i fs gs (map_value r i fs gs) old one passes two (base_meaning r b) source three e h) answer is

      module _ (d : BaseValue) (target : FromTarget (Ok d)) where
        outer : Based r i fs (base_meaning r b)
        outer = base_is r i fs Source one two (base_meaning r b) source

        inner : Based r i gs (base_meaning r d)
        inner = base_is r i gs Target two three (base_meaning r d) target

        pub source_long : length b.ext.resolution.next ≡ i
        source_long = base_long r i fs b outer

        pub target_long : length d.ext.resolution.next ≡ i
        target_long = base_long r i gs d inner

        module _ (ring : ring_of b.ext ≡ r) where
          pub nested : AreNested (ring_of b.ext) i b.ext.resolution d.ext.resolution
          nested = subst (λ (q : Ring). AreNested q i b.ext.resolution d.ext.resolution) (sym ring) (record {
            outer = fs;
            inner = gs;
            resolves_outer = outer.resolution.resolution;
            resolves_inner = inner.resolution.resolution;
            contained = contained_passes r fs gs old one tt passes;
          })

          module _ (new : ℕ) where
            pub between_fails : (e : Stopped) → Follows (ring_of b.ext) i b d (Err e) three new → (answer : Result Map Unanswered) → IsErr answer × IsErrAnd answer (λ x. x ≡ ends.Stopped e) → Asked answer new
            between_fails e h answer is = fails (ends.Stopped e) new (between_stops r i fs gs (map_value r i fs gs) old one passes two (base_meaning r b) source three (base_meaning r d) target new e
                (between_told (ring_of b.ext) r ring i b d (Err e) three new h fs gs)) answer is

            pub between_goes : (m : Map) → Follows (ring_of b.ext) i b d (Ok m) three new → Asked (Ok m) new
            between_goes m h = between_ends r i fs gs (map_value r i fs gs) old one passes two (base_meaning r b) source three (base_meaning r d) target new m
                (between_told (ring_of b.ext) r ring i b d (Ok m) three new h fs gs)
