-- What the certificate under an answer is to show.
use Rattle.std.specs.Prelude.{ℕ, ◌+◌, ◌-◌, Bool, nat_eq, nat_le, List, length, slice_get, Option, Some, None, option_map}
use Rattle.fm_words.specs.Options.{◌>>=◌, where_so}
use Rattle.fm_words.specs.Parts.{Bytes}
use Rattle.fm_poly.specs.Polys.{PolyValue}
use Rattle.fm_problem.specs.declared.ideal.Ideal.{Ideal}
use Rattle.fm_problem.specs.declared.problem.Problem.{Problem}
use Rattle.fm_problem.specs.declared.query.Query.{Query}
use Rattle.fm_problem.specs.declared.query.Query as queries
use Rattle.fm_cert.specs.Fields.{Values}
use Rattle.fm_cert.specs.Kinds.{EndKind, end_row}
use Rattle.fm_cert.specs.Kinds as kinds
use Rattle.fm_report.specs.Sheets.{Block}

-- the source of a map: the generators of its ideal, the matrices that are named for it, and the place of its first repeat
pub record MapSource : Type 0 where
  pub generators : List PolyValue
  pub block : Block
  pub repeat : ℕ

-- what is said of an ideal in a degree
pub data Aim : Type 0 where
  -- f lies in the ideal, or not
  membership : (f : PolyValue) (inside : Bool) → Aim
  -- a resolution with these ranks
  resolution : (ranks : List ℕ) → Aim
  -- Ext by so many generators and relations
  ext : (generators relations : ℕ) → Aim
  -- a root of this rank, and how many moves it takes
  root : (rank moves : ℕ) → Aim
  -- the limit is zero, or not, and how many moves it takes
  vanishing : (is_zero : Bool) (moves : ℕ) → Aim
  -- the class (e, z) is a coboundary first after this number of moves; or it never is
  dying : (e : ℕ) (z : List PolyValue) (moves : ℕ) → Aim
  living : (e : ℕ) (z : List PolyValue) → Aim
  -- the limit vanishes after inverting f, and this power of f is the first that annihilates; or it doesn't vanish
  inverting : (f : PolyValue) (power : Option ℕ) → Aim
  -- these polynomials generate the ideal of the support
  support : (ideal : List PolyValue) → Aim
  -- the map to the module of the target, or from that of the source: it is zero, one to one, onto from a stage on
  outgoing : (target : Ideal) (is_zero is_one : Bool) (onto : Option ℕ) → Aim
  incoming : (source : MapSource) (is_zero is_one : Bool) (onto : Option ℕ) → Aim

-- the name and the generators of the ideal, the degree, and what is said of them
pub record Goal : Type 0 where
  pub name : Bytes
  pub generators : List PolyValue
  pub degree : ℕ
  pub aim : Aim

abbrev pub about : Problem → (ideal degree : ℕ) → Aim → Option Goal
about q k i aim = option_map (λ (a : Ideal). record { name = a.name; generators = a.generators; degree = i; aim = aim }) (slice_get q.ideals k)

-- the answer on a class: its stage is at least that of the class
abbrev pub class_goal : Problem → (ideal degree e : ℕ) → List PolyValue → Option ℕ → Option Goal
class_goal q k i e z None = about q k i (living e z)
class_goal q k i e z (Some stage) = where_so (nat_le e stage) (about q k i (dying e z (stage - e)))

-- What an answer to a query is to be shown by; None where it is no answer to it. Of a map the side of its source comes first.
unfoldable pub goal_of : Problem → Query → (kind : EndKind) → Values (end_row kind) → Option Goal
goal_of q (queries.TheVariants.Member k f) kinds.Member (inside, u) = about q k 0 (membership f inside)
goal_of q (queries.TheVariants.Resolution i k) kinds.Ranks (ranks, u) = where_so (nat_eq (length ranks) (i + 2)) (about q k i (resolution ranks))
goal_of q (queries.TheVariants.ExtOf i k) kinds.ExtOf (g, (n, u)) = about q k i (ext g n)
goal_of q (queries.TheVariants.Root i k) kinds.Root (g, (t, u)) = about q k i (root g t)
goal_of q (queries.TheVariants.Zero i k) kinds.Zero (is_zero, (t, u)) = about q k i (vanishing is_zero t)
goal_of q (queries.TheVariants.Class i k e z) kinds.Class (stage, u) = class_goal q k i e z stage
goal_of q (queries.TheVariants.Map i k j) kinds.Map (is_zero, (is_one, (onto, u))) =
    slice_get q.ideals j >>= λ target. about q k i (outgoing target is_zero is_one onto)
goal_of q (queries.TheVariants.Support i k) kinds.Support (fs, u) = about q k i (support fs)
goal_of q (queries.TheVariants.Invert i k f) kinds.Invert (power, u) = about q k i (inverting f power)
goal_of q z kind values = None

-- ---- the other side of a map

-- the goal on the side of the target, by what was named on that of the source, whose first repeat is at t
abbrev pub beyond : Goal → Aim → Block → (t : ℕ) → Goal
beyond g (outgoing target is_zero is_one onto) b t = record {
  name = target.name;
  generators = target.generators;
  degree = g.degree;
  aim = incoming (record { generators = g.generators; block = b; repeat = t }) is_zero is_one onto;
}
beyond g aim b t = g

abbrev pub target_goal : Goal → Block → (t : ℕ) → Goal
target_goal g b t = beyond g g.aim b t

-- ---- the numbers of the answer

-- the rank of P_j, where the answer tells it
abbrev pub told_rank : Aim → ℕ → Option ℕ
told_rank (resolution ranks) j = slice_get ranks j
told_rank aim j = None

-- the number of generators of the cocycles
abbrev pub told_generators : Aim → Option ℕ
told_generators (ext g n) = Some g
told_generators (root g t) = Some g
told_generators aim = None

-- the number of relations
abbrev pub told_relations : Aim → Option ℕ
told_relations (ext g n) = Some n
told_relations aim = None

-- the place of the first repeat
abbrev pub told_moves : Aim → Option ℕ
told_moves (root g t) = Some t
told_moves (vanishing is_zero t) = Some t
told_moves aim = None
