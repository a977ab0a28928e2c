-- The lines of logs are said, and change nothing.
use Rattle.std.proofs.Common.{◌≡◌, ℕ, zero, suc, nat_eq, List, [], ◌∷◌, ◌++◌, map, length, Option, Some, None, refl}
use Rattle.fm_words.specs.Words.{AreNames}
use Rattle.fm_groebner.specs.Logs.{Start, Input, Pair, Skip, Entry}
use Rattle.fm_problem.specs.declared.problem.Problem.{Problem}
use Rattle.fm_problem.specs.declared.query.Query.{Query}
use Rattle.fm_cert.specs.Kinds as kinds
use Rattle.fm_cert.specs.Lines.{Row}
use Rattle.fm_report.specs.Parts.{Part}
use Rattle.fm_report.specs.Sheets.{Answer}
use Rattle.fm_standard.specs.Small.{IsSmallLine, AreSmallLines}
use Rattle.fm_standard.specs.Writing.{Shelf, Written, place_from, start_line, entry_line, log_at, log_written}
use Rattle.fm_standard.proofs.SmallLines.{small_line}
use Rattle.fm_standard.specs.Said.{Laid}
use Rattle.fm_standard.proofs.Steps.{Leads, leads_nowhere, leads_append}
use Rattle.fm_standard.proofs.IdleLines.{idle_leads}

module _ (q : Problem) (h : AreNames q.vars) (l : length q.vars ≡ q.ring.vars) (z : Query) (k : ℕ) (answer : Answer) where
  entry_leads : (ps : List Part) (c : Laid) (start : Start) (by : List ℕ) (keep : Rattle.std.specs.Prelude.Bool) → IsSmallLine (start_line start by keep) → Leads q h l k z answer ps c (start_line start by keep ∷ []) ps c
  entry_leads ps c (Input n) by keep s = idle_leads q h l z k answer ps c kinds.Input (n, (by, (keep, tt))) refl s
  entry_leads ps c (Pair a b) by keep s = idle_leads q h l z k answer ps c kinds.Pair (a, (b, (by, (keep, tt)))) refl s
  entry_leads ps c (Skip a b n) by keep s = idle_leads q h l z k answer ps c kinds.Skip (a, (b, (n, tt))) refl s

  entries_lead : (ps : List Part) (c : Laid) (entries : List Entry) → AreSmallLines (map entry_line entries ++ Row kinds.EndLog tt ∷ [])
      → Leads q h l k z answer ps c (map entry_line entries ++ Row kinds.EndLog tt ∷ []) ps c
  entries_lead ps c [] s = idle_leads q h l z k answer ps c kinds.EndLog tt refl tt
  entries_lead ps c (e ∷ entries) s =
      let each = small_line (entry_line e) (map entry_line entries ++ Row kinds.EndLog tt ∷ []) s in
      leads_append q h l k z answer ps ps ps c c c (entry_line e ∷ []) (map entry_line entries ++ Row kinds.EndLog tt ∷ [])
      (entry_leads ps c e.start e.by e.keep each.0) (entries_lead ps c entries each.1)

  -- after these lines the same parts have numbers
  pub record Logged (w : Written) (s : Shelf) : Type 0 where
    pub forms : w.shelf.forms ≡ s.forms
    pub leads : (ps : List Part) (c : Laid) → Leads q h l k z answer ps c w.lines ps c

  pub log_said : (entries : List Entry) (j : ℕ) (s : Shelf) → AreSmallLines (log_written entries j s).lines → Logged (log_written entries j s) s
  unfolding log_written
  log_said entries j s small = by (place_from zero (λ i. nat_eq i j) s.logs) small
    where
      by : (o : Option ℕ) → AreSmallLines (log_at entries j s o).lines → Logged (log_at entries j s o) s
      by (Some n) small = record { forms = refl; leads = λ ps c. leads_nowhere q h l k z answer ps c }
      by None small =
          let n = suc (length s.logs) in
          let rest = map entry_line entries ++ Row kinds.EndLog tt ∷ [] in
          let each = small_line (Row kinds.Log (n, (j, tt))) rest small in
          record {
            forms = refl;
            leads = λ ps c.
                leads_append q h l k z answer ps ps ps c c c (Row kinds.Log (n, (j, tt)) ∷ []) rest (idle_leads q h l z k answer ps c kinds.Log (n, (j, tt)) refl each.0) (entries_lead ps c entries each.1);
          }
