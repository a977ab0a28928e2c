-- Logs by their numbers.
use Rattle.std.proofs.Common.{◌≡◌, ℕ, zero, suc, ◌<◌, List, [], ◌∷◌, length, get_or, sym, subst, arith}
use Rattle.fm_poly.specs.declared.ring.Ring.{Ring}
use Rattle.fm_report.specs.Parts.{Part}
use Rattle.fm_conditions.specs.declared.kept_log.KeptLog.{KeptLog}
use Rattle.fm_conditions.specs.Meanings.{IsKeptLog, AreKeptLogs}

pub log_kept : (r : Ring) (ps : List Part) (ls : List KeptLog) (i : ℕ) (l : KeptLog) → AreKeptLogs r ps ls → i < length ls → l ≡ get_or ls i l → IsKeptLog r ps l
log_kept r ps [] i l a h e = absurd (omega (arith, h))
log_kept r ps (m ∷ ls) zero l a h e = subst (IsKeptLog r ps) (sym e) a.0
log_kept r ps (m ∷ ls) (suc i) l a h e = log_kept r ps ls i l a.1 (omega (arith, h)) e
