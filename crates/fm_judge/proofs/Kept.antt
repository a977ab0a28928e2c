-- What is kept from line to line, and when a line that is said keeps it.
use Rattle.std.proofs.Common.{◌≡◌, true, List, [], ◌∷◌, length, Some, None, Ok, sym, ap, ◌∙◌, subst}
use Rattle.fm_algebra.specs.PolynomialMatrices.{HasShape}
use Rattle.fm_words.proofs.FirstFaults.{same_ok}
use Rattle.fm_poly.specs.declared.ring.Ring.{Ring}
use Rattle.fm_problem.specs.declared.problem.Problem.{Problem}
use Rattle.fm_problem.specs.declared.query.Query.{Query}
use Rattle.fm_cert.specs.Lines.{Line}
use Rattle.fm_report.specs.Parts.{Part, part_value}
use Rattle.fm_report.specs.Sheets.{Sheet, Answer, ring_in, blocks_of, with_last, say}
use Rattle.fm_report.specs.Verdicts.{stated, verdict_of}
use Rattle.fm_report.specs.Reading.{stated_by, stated_at_done}
use Rattle.fm_report.specs.Holding.{IsHeld, AllHold}
use Rattle.fm_parts.specs.Shapes.{fits}
use Rattle.fm_parts.specs.Values.{is_within_bound}
use Rattle.fm_parts.specs.Replays.{Reason}
use Rattle.fm_parts.specs.Conditions.{Log}
use Rattle.fm_parts.proofs.Results.{there_is}
use Rattle.fm_parts.proofs.Shapes.{part_shape}
use Rattle.fm_parts.proofs.Wholes.{IsOpen}
use Rattle.fm_judge.specs.Goals.{Goal}
use Rattle.fm_judge.specs.Places.{Place}
use Rattle.fm_judge.specs.Places as places
use Rattle.fm_judge.specs.Judging.{OpenLog, Stage, at_answer, in_certificate, in_log, at_done, State, moved_to, said_then, stage_at}
use Rattle.fm_judge.proofs.Goods.{renamed, rows_are, columns_are}
use Rattle.fm_judge.proofs.Stated.{IsFineAim, blocks_before, IsGoal, goal_verdict}
use Rattle.fm_judge.proofs.Facts.{FactsAt}
use Rattle.fm_judge.proofs.Claimed.{AreSound}
use Rattle.fm_judge.proofs.Taken.{IsUnder}

-- the shape of what a part means, in its own numbers
pub own_shape : (r : Ring) (a : Part) → fits a ≡ true → HasShape r.prime r.vars (part_value r a).rows (length (part_value r a).columns) (part_value r a)
own_shape r a f = renamed r (part_value r a) (rows_are r a f) (columns_are r a f) (part_shape r a f)

-- ---- what is kept from line to line

-- in a certificate: what has been said, and what has been shown
pub record Certified (s : Sheet) (logs : List Log) (g : Goal) (p : Place) : Type 0 where
  pub q : Problem
  pub z : Query
  pub a : Answer
  pub goal_is : IsGoal q z a g
  pub fine : IsFineAim g.degree g.aim
  pub sound : AreSound q.ring logs
  pub under : IsUnder q z a g fine logs sound s
  pub facts : FactsAt q g s.identity p s.block

-- a log that is being replayed
pub record IsOpenLog (r : Ring) (log : OpenLog) : Type 0 where
  pub fit : fits log.part ≡ true
  pub within : is_within_bound r log.part ≡ true
  pub open_log : IsOpen r (part_value r log.part) (own_shape r log.part fit) log.replay

-- a query that has no answer yet
pub record IsAsked (s : Sheet) (logs : List Log) : Type 0 where
  pub q : Problem
  pub z : Query
  pub head_is : s.head ≡ Some q
  pub asked_is : s.asked ≡ Some z
  pub no_answer : s.answer ≡ None
  pub no_parts : s.parts ≡ []
  pub no_finished : s.finished ≡ []
  pub no_block : s.block ≡ None
  pub no_logs : logs ≡ []

abbrev pub KeptAt : Sheet → List Log → Stage → Type 0
KeptAt s logs (in_certificate g p) = Certified s logs g p
KeptAt s logs (in_log g p log) = Certified s logs g p × IsOpenLog (ring_in s.head) log
KeptAt s logs at_answer = IsAsked s logs
KeptAt s logs at_done = AllHold (stated_at_done s s.head s.asked s.answer)
KeptAt s logs stage = Unit {0}

abbrev pub Kept : State → Type 0
Kept s = KeptAt s.sheet s.logs s.stage

-- the line is said, what it states holds, and what is kept is kept
abbrev pub Outcome : State → Line → State → Type 0
Outcome s l t = (say s.sheet l ≡ Some t.sheet) × Kept t × AllHold (stated_by s.sheet l)

-- ---- the end of a certificate
pub done_holds : (s : Sheet) (logs : List Log) (g : Goal) → Certified s logs g places.end → AllHold (stated_at_done s s.head s.asked s.answer)
unfolding IsHeld
done_holds s logs g C =
    let U = C.under in
    let q = C.q in
    let a = C.a in
    let blocks : blocks_of s ≡ with_last (blocks_before g.aim) s.block = ap (λ bs. with_last bs s.block) U.finished_is in
    let verdict : verdict_of q.ring q.ideals C.z a.kind a.values (blocks_of s) s.identity ≡ Some (C.facts).0 =
    ap (λ bs. verdict_of q.ring q.ideals C.z a.kind a.values bs s.identity) blocks ∙ goal_verdict q C.z a g C.goal_is s.identity s.block ∙ (C.facts).1 in
    let core : AllHold (stated_at_done s (Some q) (Some C.z) (Some a)) = subst (λ o. AllHold (stated q.ring o ∷ [])) (sym verdict) ((C.facts).2, tt) in
    subst (λ o. AllHold (stated_at_done s o s.asked s.answer)) (sym U.head_is) (subst (λ o. AllHold (stated_at_done s (Some q) o s.answer)) (sym U.asked_is) (subst (λ o. AllHold (stated_at_done s (Some q) (Some C.z) o)) (sym U.answer_is) core))

pub entered : (s : Sheet) (logs : List Log) (g : Goal) (p : Place) → Certified s logs g p → KeptAt s logs (stage_at g p)
entered s logs g places.end C = done_holds s logs g C
entered s logs g places.datum C = C
entered s logs g (places.differential j) C = C
entered s logs g (places.exactness j) C = C
entered s logs g (places.lift j) C = C
entered s logs g places.cocycles C = C
entered s logs g places.relations C = C
entered s logs g places.morphism C = C
entered s logs g (places.chain t) C = C
entered s logs g (places.turn t) C = C
entered s logs g (places.whole t) C = C
entered s logs g (places.proper t) C = C
entered s logs g (places.coordinates t) C = C
entered s logs g (places.lives w t k) C = C
entered s logs g (places.dies w t m) C = C
entered s logs g (places.lives_on w t) C = C
entered s logs g (places.power f t k) C = C
entered s logs g (places.least f t k) C = C
entered s logs g (places.colon f t found) C = C
entered s logs g (places.proper_colon t found) C = C
entered s logs g (places.annihilator ideal t) C = C
entered s logs g (places.datum_beyond t) C = C
entered s logs g (places.lambda t identity) C = C
entered s logs g (places.phi t identity) C = C
entered s logs g (places.null t Phi) C = C
entered s logs g (places.nonnull t Phi) C = C
entered s logs g (places.fibre t Phi) C = C
entered s logs g (places.one t Phi K) C = C
entered s logs g (places.notone t Phi K) C = C
entered s logs g (places.link t Phi found) C = C
entered s logs g (places.open_link t Phi found) C = C
entered s logs g (places.short t Phi found) C = C
entered s logs g (places.onto t Phi found) C = C
entered s logs g (places.never_onto t Phi found) C = C
entered s logs g places.ideal_row C = C
entered s logs g (places.cofactors d) C = C
entered s logs g (places.foreign d) C = C

-- ---- lines that are said
pub said_so : (s t : State) (why : Reason) (l : Line) (stage : Stage) → said_then s why l stage ≡ Ok t → (sheet : Sheet) × (say s.sheet l ≡ Some sheet) × (moved_to s sheet stage ≡ t)
said_so s t why l stage e = let a = there_is why (say s.sheet l) (λ sheet. Ok (moved_to s sheet stage)) t e in (a.0, a.1, same_ok a.2)

pub outcome_at : (s t : State) (l : Line) (sheet : Sheet) (stage : Stage) → say s.sheet l ≡ Some sheet → moved_to s sheet stage ≡ t → KeptAt sheet s.logs stage → AllHold (stated_by s.sheet l) → Outcome s l t
outcome_at s t l sheet stage e m k h = subst (Outcome s l) m (e, k, h)
