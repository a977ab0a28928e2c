-- Lines lead from one sheet to another, and what they state holds.
use Rattle.std.proofs.Common.{◌≡◌, ℕ, List, [], ◌∷◌, ◌++◌, length, Some, refl, sym, ap, ◌∙◌, subst}
use Rattle.fm_words.specs.Words.{AreNames}
use Rattle.fm_problem.specs.declared.problem.Problem.{Problem}
use Rattle.fm_problem.specs.declared.query.Query.{Query}
use Rattle.fm_cert.specs.Lines.{Line}
use Rattle.fm_cert.specs.Writable.{IsWritableLine}
use Rattle.fm_report.specs.Parts.{Part}
use Rattle.fm_report.specs.Sheets.{Answer, Sheet, say}
use Rattle.fm_report.specs.Reading.{stated_by, sheet_after}
use Rattle.fm_report.specs.Reports.{says, after, IsWritableAfter, AreWritable}
use Rattle.fm_report.specs.Holding.{AllHold}
use Rattle.fm_report.proofs.Holding.{all_hold_append}
use Rattle.fm_report.proofs.Written.{says_append, after_append, writable_append}
use Rattle.fm_standard.specs.Said.{Laid, under}

module _ (q : Problem) (h : AreNames q.vars) (l : length q.vars ≡ q.ring.vars) (k : ℕ) (z : Query) (a : Answer) where
  abbrev sheet : List Part → Laid → Sheet
  sheet ps d = under q k z a ps d

  -- a line that can be written leads from one sheet to another, and what it states holds
  pub record Step (s t : Sheet) (x : Line) : Type 0 where
    pub after : IsWritableAfter q.vars s x
    pub said : say s x ≡ Some t
    pub holds : AllHold (stated_by s x)

  pub step : (ps : List Part) (d : Laid) (t : Sheet) (x : Line) → IsWritableLine q.ring (Some z) x → say (sheet ps d) x ≡ Some t → AllHold (stated_by (sheet ps d) x) → Step (sheet ps d) t x
  unfolding under
  step ps d t x w e n = record { after = record { named = h; listed = l; printed = refl; writable = w; next = t; said = e }; said = e; holds = n }

  -- the lines lead from the parts ps and what is laid down to the parts qs and more, and what they state holds
  pub record Leads (ps : List Part) (c : Laid) (ls : List Line) (qs : List Part) (d : Laid) : Type 0 where
    pub writable : AreWritable q.vars (sheet ps c) ls
    pub ends : after (sheet ps c) ls ≡ sheet qs d
    pub holds : AllHold (says (sheet ps c) ls)

  pub onward : (ps es qs : List Part) (c e d : Laid) (x : Line) (ls : List Line) → Step (sheet ps c) (sheet es e) x → Leads es e ls qs d → Leads ps c (x ∷ ls) qs d
  onward ps es qs c e d x ls s r = record {
    writable = (s.after, subst (λ o. AreWritable q.vars (sheet_after (sheet ps c) o) ls) (sym s.said) r.writable);
    ends = ap (λ o. after (sheet_after (sheet ps c) o) ls) s.said ∙ r.ends;
    holds = all_hold_append (stated_by (sheet ps c) x) (says (sheet_after (sheet ps c) (say (sheet ps c) x)) ls) s.holds
        (subst (λ o. AllHold (says (sheet_after (sheet ps c) o) ls)) (sym s.said) r.holds);
  }

  pub leads_nowhere : (ps : List Part) (c : Laid) → Leads ps c [] ps c
  leads_nowhere ps c = record { writable = tt; ends = refl; holds = tt }

  pub leads_append : (ps es qs : List Part) (c e d : Laid) (ls ms : List Line) → Leads ps c ls es e → Leads es e ms qs d → Leads ps c (ls ++ ms) qs d
  leads_append ps es qs c e d ls ms f r = record {
    writable = writable_append q.vars (sheet ps c) ls ms f.writable (subst (λ s. AreWritable q.vars s ms) (sym f.ends) r.writable);
    ends = after_append (sheet ps c) ls ms ∙ ap (λ s. after s ms) f.ends ∙ r.ends;
    holds = subst AllHold (sym (says_append (sheet ps c) ls ms))
        (all_hold_append (says (sheet ps c) ls) (says (after (sheet ps c) ls) ms) f.holds (subst (λ s. AllHold (says s ms)) (sym f.ends) r.holds));
  }

  -- one line
  pub plain_leads : (ps qs : List Part) (c d : Laid) (x : Line) → IsWritableLine q.ring (Some z) x → say (sheet ps c) x ≡ Some (sheet qs d) → AllHold (stated_by (sheet ps c) x)
      → Leads ps c (x ∷ []) qs d
  plain_leads ps qs c d x w e n = onward ps qs qs c d d x [] (step ps c (sheet qs d) x w e n) (leads_nowhere qs d)
