-- Logs under the query at hand.
use Rattle.std.proofs.Common.{◌≡◌, List, [], ◌∷◌, ◌++◌, length, sym, ap, ◌∙◌, subst}
use Rattle.std.specs.Prelude.{Vec}
use Rattle.std.specs.Global.{Global}
use Rattle.std.proofs.lemmas.List.{length-map}
use Rattle.fm_poly.specs.declared.ring.Ring.{Ring}
use Rattle.fm_report.specs.Parts.{Part}
use Rattle.fm_parts.specs.Conditions.{Log}
use Rattle.fm_pres.specs.Tables.{parts_in}
use Rattle.fm_conditions.specs.Meanings.{AreKeptLogs, IsKeptLog, log_of, logs_of}
use Rattle.fm_conditions.specs.declared.kept_log.KeptLog.{KeptLog}
use Rattle.fm_asked.specs.declared.asked.Asked.{Asked}
use Rattle.fm_asked.specs.States.{IsAsked}

-- how many logs there are
pub logs_count : (ps : List Part) (ls : List KeptLog) (logs : List Log) → logs ≡ logs_of ps ls → length logs ≡ length ls
logs_count ps ls logs e = ap length e ∙ length-map ls (log_of ps)

kept_push : (r : Ring) (ps : List Part) (ls : List KeptLog) (l : KeptLog) → AreKeptLogs r ps ls → IsKeptLog r ps l → AreKeptLogs r ps (ls ++ l ∷ [])
kept_push r ps [] l h k = (k, tt)
kept_push r ps (x ∷ ls) l h k = (h.0, kept_push r ps ls l h.1 k)

pub asked_more : (r : Ring) (a : Asked) (kept : KeptLog) (v : Vec KeptLog Global) → IsAsked r a → v.items ≡ a.logs.items ++ kept ∷ [] → IsKeptLog r (parts_in a.table) kept
    → IsAsked r (record a { logs = v })
asked_more r a kept v h e k = record {
  ring = h.ring;
  logs = subst (AreKeptLogs r (parts_in a.table)) (sym e) (kept_push r (parts_in a.table) a.logs.items kept h.logs k);
  finished = h.finished;
  named = h.named;
}
