-- What names parts that are there means the same when a part is added.
use Rattle.std.proofs.Common.{◌≡◌, ℕ, ◌+◌, ◌<◌, ◌^◌, true, List, [], ◌∷◌, ◌++◌, map, Option, Some, None, option_map, Result, Ok, Err, refl, sym, ap, ap₂, ◌∙◌, subst}
use Rattle.std.specs.Prelude.{OnErr, OnOk}
use Rattle.std.proofs.lemmas.Bool.{and_from, and_parts}
use Rattle.fm_poly.specs.declared.ring.Ring.{Ring}
use Rattle.fm_complete.specs.Divisions.{AreMembers, terms_of}
use Rattle.fm_report.specs.Parts.{Part}
use Rattle.fm_parts.specs.Conditions as conditions
use Rattle.fm_parts.specs.Replays.{is_number, are_numbers}
use Rattle.fm_parts.specs.Shapes.{rows_of, columns_of}
use Rattle.fm_judge.specs.Judging.{State, Stage}
use Rattle.fm_pres.specs.Tables.{TableValue, parts_in}
use Rattle.fm_pres.specs.Blocks.{AreBlockParts, block_of, parts_at}
use Rattle.fm_pres.specs.declared.block.Block.{Block}
use Rattle.fm_pres.proofs.Tables.{Extends, extends_self, extends_push, number_kept, part_kept}
use Rattle.fm_conditions.specs.Meanings.{AreKeptLogs, IsKeptLog, logs_of}
use Rattle.fm_conditions.specs.declared.kept_log.KeptLog.{KeptLog}
use Rattle.fm_conditions.specs.declared.why.Refused.{Refused}
use Rattle.fm_asked.specs.declared.asked.Asked.{Asked}
use Rattle.fm_asked.specs.Beginnings.{AreBlocks, IsBlockIf}
use Rattle.fm_asked.specs.Partings.{IsGrown, with_parts}
use Rattle.fm_asked.specs.States.{IsAsked, SaysAsked}

pub grown_extends : {X : Type 0} (ps qs : List Part) (result : Result X Refused) → OnOk result (IsGrown ps qs) → OnErr result (qs ≡ ps) → Extends ps qs
grown_extends ps qs (Ok x) g e = extends_push ps qs g.0 (subst (λ xs. Extends (ps ++ g.0 ∷ []) xs) (sym g.1) (extends_self (ps ++ g.0 ∷ [])))
grown_extends ps qs (Err why) g e = subst (λ xs. Extends ps xs) (sym e) (extends_self ps)

module _ (ps qs : List Part) (e : Extends ps qs) where
  pub numbers_kept : (ks : List ℕ) → are_numbers ps ks ≡ true → are_numbers qs ks ≡ true
  numbers_kept [] h = refl
  numbers_kept (k ∷ ks) h =
      let t = and_parts (is_number ps k) (are_numbers ps ks) h in
      and_from (is_number qs k) (are_numbers qs ks) (number_kept ps qs e k t.0) (numbers_kept ks t.1)

  pub parts_kept : (ks : List ℕ) → are_numbers ps ks ≡ true → parts_at ps ks ≡ parts_at qs ks
  parts_kept [] h = refl
  parts_kept (k ∷ ks) h =
      let t = and_parts (is_number ps k) (are_numbers ps ks) h in
      ap₂ (λ x xs. x ∷ xs) (sym (part_kept ps qs e k t.0)) (parts_kept ks t.1)

  pub block_parts : (b : Block) → AreBlockParts ps b → AreBlockParts qs b
  block_parts b h = (
    numbers_kept b.differentials.items h.0,
    numbers_kept b.lift.items h.1,
    numbers_kept b.cocycles.items h.2,
    numbers_kept b.kernels.items h.3,
    numbers_kept b.morphism.items h.4,
  )

  pub block_same : (b : Block) → AreBlockParts ps b → block_of ps b ≡ block_of qs b
  block_same b h = λ i. record {
    ideal = b.ideal;
    degree = b.degree;
    differentials = parts_kept b.differentials.items h.0 i;
    lift = parts_kept b.lift.items h.1 i;
    cocycles = parts_kept b.cocycles.items h.2 i;
    kernels = parts_kept b.kernels.items h.3 i;
    morphism = parts_kept b.morphism.items h.4 i;
  }

  blocks_parts : (bs : List Block) → AreBlocks ps bs → AreBlocks qs bs
  blocks_parts [] h = tt
  blocks_parts (b ∷ bs) h = (block_parts b h.0, blocks_parts bs h.1)

  blocks_same : (bs : List Block) → AreBlocks ps bs → map (block_of ps) bs ≡ map (block_of qs) bs
  blocks_same [] h = refl
  blocks_same (b ∷ bs) h = ap₂ (λ x xs. x ∷ xs) (block_same b h.0) (blocks_same bs h.1)

  at_hand_parts : (o : Option Block) → IsBlockIf ps o → IsBlockIf qs o
  at_hand_parts None h = tt
  at_hand_parts (Some b) h = block_parts b h

  at_hand_same : (o : Option Block) → IsBlockIf ps o → option_map (block_of ps) o ≡ option_map (block_of qs) o
  at_hand_same None h = refl
  at_hand_same (Some b) h = ap (λ x. Some x) (block_same b h)

  module _ (r : Ring) where
    log_parts : (l : KeptLog) → IsKeptLog r ps l → IsKeptLog r qs l
    log_parts l h =
        let same = sym (part_kept ps qs e l.part h.part) in
        record {
          part = number_kept ps qs e l.part h.part;
          room = subst (λ (x : Part). rows_of x + columns_of x < 2 ^ 32) same h.room;
          members = subst (λ (x : Part). AreMembers r (rows_of x + columns_of x) l.members.items) same h.members;
        }

    logs_parts : (ls : List KeptLog) → AreKeptLogs r ps ls → AreKeptLogs r qs ls
    logs_parts [] h = tt
    logs_parts (l ∷ ls) h = (log_parts l h.0, logs_parts ls h.1)

    logs_same : (ls : List KeptLog) → AreKeptLogs r ps ls → logs_of ps ls ≡ logs_of qs ls
    logs_same [] h = refl
    logs_same (l ∷ ls) h =
        ap₂ (λ (x : conditions.Log) xs. x ∷ xs) (ap (λ a. record { part = a; members = terms_of l.members.items }) (sym (part_kept ps qs e l.part h.0.part))) (logs_same ls h.1)

-- what is asked of the query at hand, with another table
pub asked_kept : (r : Ring) (a : Asked) (t : TableValue) → t.ring ≡ r → Extends (parts_in a.table) (parts_in t) → IsAsked r a → IsAsked r (record a { table = t })
asked_kept r a t ring e h =
    let ps = parts_in a.table in
    let qs = parts_in t in
    record {
      ring = ring;
      logs = logs_parts ps qs e r a.logs.items h.logs;
      finished = blocks_parts ps qs e a.finished.items h.finished;
      named = (at_hand_parts ps qs e a.block h.named.0, numbers_kept ps qs e a.identity.items h.named.1);
    }

pub says_kept : (r : Ring) (a : Asked) (t : TableValue) (s : State) (stage : Stage) → Extends (parts_in a.table) (parts_in t) → IsAsked r a → SaysAsked a s
    → SaysAsked (record a { table = t }) (with_parts s (parts_in t) stage)
says_kept r a t s stage e h w =
    let ps = parts_in a.table in
    let qs = parts_in t in
    record {
      asked = w.asked;
      parts = refl;
      finished = w.finished ∙ blocks_same ps qs e a.finished.items h.finished;
      block = w.block ∙ at_hand_same ps qs e a.block h.named.0;
      identity = w.identity ∙ parts_kept ps qs e a.identity.items h.named.1;
      logs = w.logs ∙ logs_same ps qs e r a.logs.items h.logs;
    }
