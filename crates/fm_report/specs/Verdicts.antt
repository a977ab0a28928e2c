-- The verdicts that answers state.
use Rattle.std.specs.Prelude.{ℕ, List, [], ◌∷◌, length, slice_get, Option, Some, None, option_map}
use Rattle.fm_gfp.specs.declared.prime.Prime.{Prime}
use Rattle.fm_algebra.specs.PolynomialMatrices.{PolynomialMatrix}
use Rattle.fm_limit.specs.ResolvedIdeal.{ResolvedIdeal, matrix_at}
use Rattle.fm_limit.specs.Verdicts.{Verdict, zero_limit, zero_class, inverting, support, root, induced_map, member, resolution, ext}
use Rattle.fm_poly.specs.Polys.{PolyValue, meaning}
use Rattle.fm_words.specs.Options.{◌>>=◌}
use Rattle.fm_poly.specs.declared.ring.Ring.{Ring}
use Rattle.fm_problem.specs.declared.ideal.Ideal.{Ideal}
use Rattle.fm_problem.specs.declared.query.Query.{Query}
use Rattle.fm_problem.specs.declared.query.Query as queries
use Rattle.fm_cert.specs.Fields.{Values}
use Rattle.fm_cert.specs.Kinds.{EndKind, end_row}
use Rattle.fm_cert.specs.Kinds as kinds
use Rattle.fm_report.specs.Parts.{Part, meant, part_values}
use Rattle.fm_report.specs.Sheets.{Block}

-- what is stated: a verdict over GF(p) in n variables; or, where a line can't be read, something that never holds
pub data Stated : Type 0 where
  verdict : (p : Prime) (n : ℕ) → Verdict p n → Stated
  unreadable : Stated

-- f of the only entry, or of the only two
abbrev pub on_one : {A B : Type 0} → (A → Option B) → List A → Option B
on_one f [] = None
on_one f (x ∷ []) = f x
on_one f (x ∷ y ∷ more) = None

abbrev pub on_two : {A B : Type 0} → (A → A → Option B) → List A → Option B
on_two f [] = None
on_two f (x ∷ []) = None
on_two f (x ∷ y ∷ []) = f x y
on_two f (x ∷ y ∷ z ∷ more) = None

module _ (r : Ring) where
  -- matrix k of a list, counted from 0
  abbrev pub part_at : List Part → ℕ → PolynomialMatrix r.prime r.vars
  part_at xs k = matrix_at r.prime r.vars (part_values r xs) k

  -- the ideal of these generators, with the resolution and the lift of a block
  abbrev pub resolved : List PolyValue → Block → ResolvedIdeal r.prime r.vars
  resolved fs b = record { generators = meant r fs; differentials = part_values r b.differentials; lift = part_values r b.lift }

  -- Z, K_t and U of a block, as a root
  abbrev pub root_of : ℕ → List PolyValue → Block → (g t : ℕ) → Verdict r.prime r.vars
  root_of i fs b g t = root i (resolved fs b) (part_at b.cocycles 0) (part_at b.kernels t) (part_at b.morphism 0) g t

  abbrev pub ext_of : ℕ → List PolyValue → Block → (g n : ℕ) → Verdict r.prime r.vars
  ext_of i fs b g n = ext i (resolved fs b) (part_at b.cocycles 0) (part_at b.kernels 0) (part_at b.morphism 0) g n

  abbrev pub generators_in : List Ideal → ℕ → Option (List PolyValue)
  generators_in ideals k = option_map (λ (a : Ideal). a.generators) (slice_get ideals k)

  -- what is said of the ideal with this number and of the only block
  abbrev pub of_ideal : List Ideal → ℕ → List Block → (List PolyValue → Block → Verdict r.prime r.vars) → Option (Verdict r.prime r.vars)
  of_ideal ideals k bs say = on_one (λ b. option_map (λ fs. say fs b) (generators_in ideals k)) bs

  -- What an answer to a query says of the blocks under it, a row for each kind of query; None where it says nothing.
  abbrev pub verdict_of : List Ideal → Query → (kind : EndKind) → Values (end_row kind) → List Block → List Part → Option (Verdict r.prime r.vars)
  verdict_of ideals (queries.TheVariants.Zero i k) kinds.Zero (is_zero, (t, u)) bs ls =
      of_ideal ideals k bs (λ fs b. zero_limit i (resolved fs b) is_zero t)
  verdict_of ideals (queries.TheVariants.Class i k e z) kinds.Class (stage, u) bs ls =
      of_ideal ideals k bs (λ fs b. zero_class i (resolved fs b) e (meant r z) stage)
  verdict_of ideals (queries.TheVariants.Root i k) kinds.Root (g, (t, u)) bs ls = of_ideal ideals k bs (λ fs b. root_of i fs b g t)
  verdict_of ideals (queries.TheVariants.Invert i k f) kinds.Invert (power, u) bs ls =
      of_ideal ideals k bs (λ fs b. inverting i (resolved fs b) (meaning r f.terms) power)
  verdict_of ideals (queries.TheVariants.Support i k) kinds.Support (gs, u) bs ls =
      of_ideal ideals k bs (λ fs b. support i (resolved fs b) (meant r gs))
  verdict_of ideals (queries.TheVariants.Map i k j) kinds.Map (is_zero, (is_one, (onto, u))) bs ls =
      on_two (λ b c. generators_in ideals k >>= λ fs. option_map (λ gs. induced_map i (resolved fs b) (resolved gs c) (part_values r ls) is_zero is_one onto) (generators_in ideals j)) bs
  verdict_of ideals (queries.TheVariants.Member k f) kinds.Member (is_inside, u) bs ls =
      option_map (λ fs. member (meant r fs) (meaning r f.terms) is_inside) (generators_in ideals k)
  verdict_of ideals (queries.TheVariants.Resolution i k) kinds.Ranks (ranks, u) bs ls =
      of_ideal ideals k bs (λ fs b. resolution (meant r fs) i (part_values r b.differentials) ranks)
  verdict_of ideals (queries.TheVariants.ExtOf i k) kinds.ExtOf (g, (n, u)) bs ls = of_ideal ideals k bs (λ fs b. ext_of i fs b g n)
  verdict_of ideals z kind values bs ls = None

  -- the root of a block whose chain repeats from t on
  abbrev pub block_root : List Ideal → Block → ℕ → Option (Verdict r.prime r.vars)
  block_root ideals b t = option_map (λ fs. root_of b.degree fs b (length (part_at b.cocycles 0).columns) t) (generators_in ideals b.ideal)

  -- a verdict, or something that never holds where there is none
  abbrev pub stated : Option (Verdict r.prime r.vars) → Stated
  stated None = unreadable
  stated (Some v) = verdict r.prime r.vars v
