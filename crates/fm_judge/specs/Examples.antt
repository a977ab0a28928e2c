-- A small report with a certificate, and states in places of others.
use Rattle.std.specs.Prelude.{ℕ, true, false, List, [], ◌∷◌, codes, Option, None, Some}
use Rattle.fm_gfp.specs.declared.prime.Prime.TheVariants.{Two}
use Rattle.fm_mono.specs.declared.order.Order.TheVariants.{Grevlex}
use Rattle.fm_words.specs.Parts.{Bytes}
use Rattle.fm_poly.specs.Polys.{PolyValue}
use Rattle.fm_poly.specs.declared.ring.Ring.{Ring}
use Rattle.fm_problem.specs.declared.problem.Problem.{Problem}
use Rattle.fm_problem.specs.declared.query.Query.{Query}
use Rattle.fm_problem.specs.declared.query.Query as queries
use Rattle.fm_report.specs.Parts.{Part, given}
use Rattle.fm_report.specs.Sheets.{Block}
use Rattle.fm_judge.specs.Goals.{Aim, inverting, support, outgoing, incoming}
use Rattle.fm_judge.specs.Places.{Place}
use Rattle.fm_judge.specs.Judging.{State, in_certificate}

-- the row of generators of I = (x) over GF(2)[x]
abbrev pub small_text : Bytes
small_text = codes "report 2\nring 2 x\norder grevlex\nideal I = x\nquery 1 resolution 0 I\nanswer ranks 1 1\ndatum I 0\npart 1 given 1 1 (x)\nd 1 1\ndone 1\nend report\n"

-- its ring, the generator x, and its problem before any query
abbrev pub small_ring : Ring
small_ring = record { prime = Two; vars = 1; order = Grevlex }

abbrev pub small_generator : PolyValue
small_generator = record { ring = small_ring; terms = record { mono = 1 ∷ []; coeff = 1 } ∷ [] }

abbrev pub small_problem : Problem
small_problem = record { ring = small_ring; vars = codes "x" ∷ []; ideals = record { name = codes "I"; generators = small_generator ∷ [] } ∷ []; queries = [] }

-- the matrix (x), the column of x and x, and the matrix without rows and columns
abbrev pub small_row : Part
small_row = given 1 ((small_generator ∷ []) ∷ [])

abbrev pub two_rows : Part
two_rows = given 2 ((small_generator ∷ small_generator ∷ []) ∷ [])

abbrev pub no_rows : Part
no_rows = given 0 []

-- d_1, Z and U are (x), and K_0 is this
abbrev pub block_with : Part → Block
block_with K = record {
  ideal = 0;
  degree = 1;
  differentials = small_row ∷ [];
  lift = [];
  cocycles = small_row ∷ [];
  kernels = K ∷ [];
  morphism = small_row ∷ [];
}

-- In degree 1 of I under this query, in this place of a certificate, where these blocks are named. Parts 1, 2 and 3 are the matrices above, and
-- log 1, which has no members, is of the first.
abbrev state_in : Query → Aim → (finished : List Block) (block : Block) → Place → State
state_in z aim finished block place = record {
  sheet = record {
    head = Some small_problem;
    count = 1;
    asked = Some z;
    answer = None;
    parts = small_row ∷ two_rows ∷ no_rows ∷ [];
    finished = finished;
    block = Some block;
    identity = [];
  };
  stage = in_certificate (record { name = codes "I"; generators = small_generator ∷ []; degree = 1; aim = aim }) place;
  version = 2;
  logs = record { part = small_row; members = [] } ∷ [];
  verdicts = 1;
  passed = 0;
}

-- under an answer on inverting x, where K_0 is this; and under one that the support is that of x
abbrev pub on_inverting : Option ℕ → Part → Place → State
on_inverting power K place = state_in (queries.TheVariants.Invert 1 0 small_generator) (inverting small_generator power) [] (block_with K) place

abbrev pub on_support : Place → State
on_support place = state_in (queries.TheVariants.Support 1 0) (support (small_generator ∷ [])) [] (block_with small_row) place

-- under an answer on the map from I to I, that it is zero, not one to one, and this on its being onto: on the side of the source, and on that of the
-- target, whose K_0 is this
abbrev pub on_source : Option ℕ → Place → State
on_source onto place =
    state_in (queries.TheVariants.Map 1 0 0) (outgoing (record { name = codes "I"; generators = small_generator ∷ [] }) true false onto) [] (block_with small_row) place

abbrev pub on_target : Option ℕ → Part → Block → Place → State
on_target onto K block place =
    state_in (queries.TheVariants.Map 1 0 0) (incoming (record { generators = small_generator ∷ []; block = block_with K; repeat = 0 }) true false onto) (block_with K ∷ []) block place
