-- Claims that can be said under an answer, and certificates along which its verdict is true.
use Rattle.std.specs.Prelude.{ℕ, suc, ◌≡◌, ◌≤◌, ◌<◌, ◌^◌, true, List, [], ◌∷◌, length, Option, Some, None}
use Rattle.fm_limit.specs.Verdicts.{Verdict}
use Rattle.fm_poly.specs.declared.ring.Ring.{Ring}
use Rattle.fm_problem.specs.Sound.{IsQueryOf, IsSmallQuery, IsProblem, HasSmallExponents}
use Rattle.fm_problem.specs.declared.problem.Problem.{Problem}
use Rattle.fm_problem.specs.declared.query.Query.{Query}
use Rattle.fm_cert.specs.Kinds.{end_row}
use Rattle.fm_cert.specs.Kinds as kinds
use Rattle.fm_cert.specs.Writable.{AreWritableVectors, AnswersQuery, AreWritableValues, IsWritableLine}
use Rattle.fm_report.specs.Parts.{Part, given, twist, flip, beside, stack, times, pick}
use Rattle.fm_report.specs.Sheets.{Block, Answer, Sheet, numbered, is_answer, with_last, say}
use Rattle.fm_report.specs.Verdicts.{verdict, verdict_of}
use Rattle.fm_report.specs.Reading.{stated_by}
use Rattle.fm_report.specs.Holding.{IsHeld, AllHold}
use Rattle.fm_report.specs.Reports.{QueryReport, begun}
use Rattle.fm_standard.specs.Small.{IsSmallLine, AreSmallLines}
use Rattle.fm_standard.specs.Writing.{Reference, part, log, Claim, certificate_lines}

-- ---- what is named
-- a part has this number; the numbers of logs are not told here
abbrev pub IsNamed : List Part → Reference → ℕ → Type 0
IsNamed ps (part a) n = numbered ps n ≡ Some a
IsNamed ps (log a entries) n = Unit {0}

abbrev pub AreNamed : List Part → List Reference → List ℕ → Type 0
AreNamed ps [] ns = Unit {0}
AreNamed ps (x ∷ xs) [] = ⊥
AreNamed ps (x ∷ xs) (n ∷ ns) = IsNamed ps x n × AreNamed ps xs ns

module _ (r : Ring) where
  -- a part whose polynomials are of the ring, whose twists are few, and of which no columns are picked in vain; of its numbers nothing is said
  abbrev pub IsWritablePart : Part → Type 0
  IsWritablePart (given rows columns) = AreWritableVectors r columns
  IsWritablePart (twist a e) = IsWritablePart a × (e ≤ 16)
  IsWritablePart (flip a) = IsWritablePart a
  IsWritablePart (beside a b) = IsWritablePart a × IsWritablePart b
  IsWritablePart (stack a b) = IsWritablePart a × IsWritablePart b
  IsWritablePart (times a b) = IsWritablePart a × IsWritablePart b
  IsWritablePart (pick a columns) = IsWritablePart a × (0 < length columns)

  abbrev pub IsWritableReference : Reference → Type 0
  IsWritableReference (part a) = IsWritablePart a
  IsWritableReference (log a entries) = IsWritablePart a

  abbrev pub AreWritableReferences : List Reference → Type 0
  AreWritableReferences [] = Unit {0}
  AreWritableReferences (x ∷ xs) = IsWritableReference x × AreWritableReferences xs

  abbrev pub AreWritableClaims : List Claim → Type 0
  AreWritableClaims [] = Unit {0}
  AreWritableClaims (x ∷ xs) = AreWritableReferences x.names × AreWritableClaims xs

-- ---- what is laid down
-- what the lines under an answer have laid down: the finished blocks, the block at hand, and the lift of the identity
pub record Laid : Type 0 where
  pub finished : List Block
  pub block : Option Block
  pub identity : List Part

abbrev pub nothing : Laid
nothing = record { finished = []; block = None; identity = [] }

module _ (q : Problem) (k : ℕ) (z : Query) (a : Answer) where
  -- the sheet under the answer to query k, where these parts have numbers
  unfoldable pub under : List Part → Laid → Sheet
  under ps d = record {
    head = Some (begun q q.ideals);
    count = k;
    asked = Some z;
    answer = Some a;
    parts = ps;
    finished = d.finished;
    block = d.block;
    identity = d.identity;
  }

  -- A claim whose line can be said wherever the parts that it names have the numbers in it: there it lays down d after c, it can be written if
  -- its numbers are small, and what it states holds.
  pub record Puts (x : Claim) (c d : Laid) : Type 0 where
    pub said : (ps : List Part) (ns : List ℕ) → AreNamed ps x.names ns → say (under ps c) (x.line ns) ≡ Some (under ps d)
    pub writable : (ps : List Part) (ns : List ℕ) → AreNamed ps x.names ns → IsSmallLine (x.line ns) → IsWritableLine q.ring (Some z) (x.line ns)
    pub holds : (ps : List Part) (ns : List ℕ) → AreNamed ps x.names ns → AllHold (stated_by (under ps c) (x.line ns))

  -- claims, one after another
  abbrev pub AllPut : List Claim → Laid → Laid → Type 0
  AllPut [] c d = c ≡ d
  AllPut (x ∷ xs) c d = (e : Laid) × Puts x c e × AllPut xs e d

-- ---- certificates
-- An answer to query z of a problem, asked after k others, with the claims of its certificate: they lay down d, and along it the verdict v is
-- stated and holds.
pub record IsCertified (q : Problem) (k : ℕ) (z : Query) (a : Answer) (cs : List Claim) (d : Laid) (v : Verdict q.ring.prime q.ring.vars) : Type 0 where
  pub sound : IsProblem q
  pub exponents : HasSmallExponents q
  pub few : suc k < 2 ^ 64
  pub query : IsQueryOf q z
  pub low : IsSmallQuery z
  pub answered : is_answer a.kind ≡ true
  pub answers : AnswersQuery (Some z) (kinds.Ended a.kind)
  pub values : AreWritableValues q.ring (end_row a.kind) a.values
  pub parts : AreWritableClaims q.ring cs
  pub numbers : AreSmallLines (certificate_lines q.vars cs)
  pub put : AllPut q (suc k) z a cs nothing d
  pub says : verdict_of q.ring q.ideals z a.kind a.values (with_last d.finished d.block) d.identity ≡ Some v
  pub holds : IsHeld (verdict q.ring.prime q.ring.vars v)

-- the query with its answer and its certificate
abbrev pub certified : Problem → Query → Answer → List Claim → QueryReport
certified q z a cs = record { question = z; kind = a.kind; values = a.values; lines = certificate_lines q.vars cs }
