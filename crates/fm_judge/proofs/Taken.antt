-- When a line of a certificate is taken: it keeps what has been shown, and leads to the facts of the next place.
use Rattle.std.proofs.Common.{◌≡◌, ℕ, nat_eq, List, Option, Some, None, option_map, refl, sym, ap, ◌∙◌, subst}
use Rattle.fm_words.specs.Options.{where_so}
use Rattle.fm_poly.specs.declared.ring.Ring.{Ring}
use Rattle.fm_problem.specs.declared.problem.Problem.{Problem}
use Rattle.fm_problem.specs.declared.query.Query.{Query}
use Rattle.fm_cert.specs.Fields.{Values}
use Rattle.fm_cert.specs.Kinds.{Kind, row}
use Rattle.fm_cert.specs.Lines.{Row}
use Rattle.fm_report.specs.Parts.{Part}
use Rattle.fm_report.specs.Sheets.{Block, Answer, Sheet, numbered, say_named}
use Rattle.fm_report.specs.Reading.{stated_by}
use Rattle.fm_report.specs.Holding.{AllHold}
use Rattle.fm_parts.specs.Conditions.{Log, Condition}
use Rattle.fm_parts.specs.Meanings.{AllSay, HaveSoundLogs}
use Rattle.fm_judge.specs.Goals.{Goal}
use Rattle.fm_judge.specs.Places.{Place}
use Rattle.fm_judge.specs.Claims.{Claim, claim, claims, numbered_so, of_part}
use Rattle.fm_judge.specs.Judging.{block_at}
use Rattle.fm_judge.proofs.Options.{none_some, same_some, followed, mapped, where_true}
use Rattle.fm_judge.proofs.Goods.{AreGood}
use Rattle.fm_judge.proofs.Stated.{IsFineAim, blocks_before}
use Rattle.fm_judge.proofs.Facts.{With, FactsAt}
use Rattle.fm_judge.proofs.Claimed.{AreSound, Shown}

-- a matrix is named in the block at hand
pub named_is : (s s' : Sheet) (b : Block) (wanted : Block → ℕ) (n : ℕ) (add : Block → Part → Block) (k : ℕ) → s.block ≡ Some b → say_named s wanted n add k ≡ Some s'
    → (P : Part) × (numbered s.parts k ≡ Some P) × (record s { block = Some (add b P) } ≡ s')
named_is s s' b wanted n add k is e =
    let a = followed s.block (λ b. where_so (nat_eq n (wanted b)) (option_map (λ x. record s { block = Some (add b x) }) (numbered s.parts k))) s' e in
    let w = where_true (nat_eq n (wanted a.0)) (option_map (λ x. record s { block = Some (add a.0 x) }) (numbered s.parts k)) s' a.2 in
    let m = mapped (λ x. record s { block = Some (add a.0 x) }) (numbered s.parts k) s' w.1 in
    let same : a.0 ≡ b = same_some (sym a.1 ∙ is) in
    (m.0, m.1, ap (λ b. record s { block = Some (add b m.0) }) (sym same) ∙ m.2)

module _ (q : Problem) (z : Query) (a : Answer) (g : Goal) (fine : IsFineAim g.degree g.aim) (logs : List Log) (sound : AreSound q.ring logs) where
  abbrev r : Ring
  r = q.ring

  -- what has been said of the query at hand
  pub record IsUnder (s : Sheet) : Type 0 where
    pub head_is : s.head ≡ Some q
    pub asked_is : s.asked ≡ Some z
    pub answer_is : s.answer ≡ Some a
    pub finished_is : s.finished ≡ blocks_before g.aim
    pub good : AreGood s.parts

  -- another block changes nothing else
  pub with_block : (s : Sheet) (ob : Option Block) → IsUnder s → IsUnder (record s { block = ob })
  with_block s ob U =
      record { head_is = U.head_is; asked_is = U.asked_is; answer_is = U.answer_is; finished_is = U.finished_is; good = U.good }

  pub block_of : (P : Block → Type 0) (ob : Option Block) → With q g P ob → (b : Block) × (ob ≡ Some b)
  block_of P None w = absurd w
  block_of P (Some b) w = (b, refl)

  -- what a line that is taken gives
  abbrev pub Taken : Sheet → (kind : Kind) → Values (row kind) → Claim → List Condition → Sheet → Type 0
  Taken s kind v c cs s' = IsUnder s' × HaveSoundLogs r cs × (AllSay r cs → FactsAt q g s'.identity c.next s'.block × AllHold (stated_by s (Row kind v)))

  pub so : (b : Block) (parts : List Part) (wanted n : ℕ) (conditions : Option (List Condition)) (next : Place) (c : Claim) → numbered_so r g b parts logs wanted n conditions next ≡ Some c → (conditions ≡ c.conditions) × (next ≡ c.next)
  so b parts wanted n conditions next c e =
      let w = where_true (nat_eq n wanted) (claims r g b parts logs conditions next) c e in (ap (λ (x : Claim). x.conditions) (same_some w.1), ap (λ (x : Claim). x.next) (same_some w.1))

  pub plain : (b : Block) (parts : List Part) (conditions : Option (List Condition)) (next : Place) (c : Claim) → claims r g b parts logs conditions next ≡ Some c → (conditions ≡ c.conditions) × (next ≡ c.next)
  plain b parts conditions next c e = (ap (λ (x : Claim). x.conditions) (same_some e), ap (λ (x : Claim). x.next) (same_some e))

  -- where a part has been named
  pub named_taken : (s s' : Sheet) (kind : Kind) (v : Values (row kind)) (b : Block) (add : Block → Part → Block) (P : Part) (c : Claim) (cs : List Condition) (next : Place) → IsUnder s → record s { block = Some (add b P) } ≡ s'
      → AllHold (stated_by s (Row kind v)) → next ≡ c.next → Shown q g s.identity fine next (Some (add b P)) cs → Taken s kind v c cs s'
  named_taken s s' kind v b add P c cs next U e none n S =
      subst (Taken s kind v c cs) e (with_block s (Some (add b P)) U, S.0, λ all. (subst (λ p. FactsAt q g s.identity p (Some (add b P))) n (S.1 all), none))

  -- where nothing has been named
  pub plain_taken : (s s' : Sheet) (kind : Kind) (v : Values (row kind)) (b : Block) (c : Claim) (cs : List Condition) (next : Place) → IsUnder s → s ≡ s' → s.block ≡ Some b
      → AllHold (stated_by s (Row kind v)) → next ≡ c.next → Shown q g s.identity fine next (Some b) cs → Taken s kind v c cs s'
  plain_taken s s' kind v b c cs next U e is none n S =
      subst (Taken s kind v c cs) e (U, S.0, λ all. (subst (FactsAt q g s.identity c.next) (sym is) (subst (λ p. FactsAt q g s.identity p (Some b)) n (S.1 all)), none))

  pub without_taken : (s s' : Sheet) (kind : Kind) (v : Values (row kind)) (c : Claim) (cs : List Condition) (next : Place) → IsUnder s → s ≡ s' → s.block ≡ None
      → AllHold (stated_by s (Row kind v)) → next ≡ c.next → Shown q g s.identity fine next None cs → Taken s kind v c cs s'
  without_taken s s' kind v c cs next U e is none n S =
      subst (Taken s kind v c cs) e (U, S.0, λ all. (subst (FactsAt q g s.identity c.next) (sym is) (subst (λ p. FactsAt q g s.identity p None) n (S.1 all)), none))

  -- the claim of a line in a place, on the sheet after it
  abbrev pub IsClaim : Place → (kind : Kind) → Values (row kind) → Sheet → Claim → Type 0
  IsClaim p kind v s' c = claim r g (block_at s'.block) s'.parts logs p kind v ≡ Some c

  -- ---- parts that a place keeps
  pub part_there : (b : Block) (parts : List Part) (o : Option Part) (says : Part → Option Claim) (c : Claim) (cs : List Condition) → of_part r g b parts logs o says ≡ Some c → c.conditions ≡ Some cs → (w : Part) × (o ≡ Some w) × (says w ≡ Some c)
  part_there b parts None says c cs e h = absurd (none_some (ap (λ (x : Claim). x.conditions) (same_some e) ∙ h))
  part_there b parts (Some w) says c cs e h = (w, refl, e)
