-- What becomes of the parts of a table.
use Rattle.std.proofs.Common.{◌≡◌, ℕ, List, [], ◌∷◌, ◌++◌, Option, Some, None, Ok, Err, refl, sym, ap}
use Rattle.fm_report.specs.Parts.{Part}
use Rattle.fm_pres.specs.Tables.{answer_to, fault_of, grown_by, number_or, parts_with, tree_of}
use Rattle.fm_pres.specs.declared.form.Form.{Form}
use Rattle.fm_pres.specs.declared.part_fault.PartFault.{PartFault}
use Rattle.fm_conditions.specs.declared.why.Why.{Why}
use Rattle.fm_asked.specs.Partings.{why_of}

pub taken_so : (ps qs : List Part) (f : Form) (k : ℕ) → Ok k ≡ answer_to ps f → qs ≡ parts_with ps f → (fault_of ps f ≡ None) × (qs ≡ ps ++ tree_of ps f ∷ [])
unfolding answer_to parts_with
taken_so ps qs f k e h = by_fault (fault_of ps f) e h where
  by_fault : (o : Option PartFault) → Ok k ≡ number_or ps o → qs ≡ grown_by ps (tree_of ps f) o → (o ≡ None) × (qs ≡ ps ++ tree_of ps f ∷ [])
  by_fault None e h = (refl, h)
  by_fault (Some w) e h = absurd (cc e)

pub refused_so : (ps qs : List Part) (f : Form) (fault : PartFault) (why : Why) → Err fault ≡ answer_to ps f → qs ≡ parts_with ps f → why ≡ why_of fault
    → (w : PartFault) × (fault_of ps f ≡ Some w) × (why ≡ why_of w) × (qs ≡ ps)
unfolding answer_to parts_with
refused_so ps qs f fault why e h told = by_fault (fault_of ps f) e h where
  by_fault : (o : Option PartFault) → Err fault ≡ number_or ps o → qs ≡ grown_by ps (tree_of ps f) o → (w : PartFault) × (o ≡ Some w) × (why ≡ why_of w) × (qs ≡ ps)
  by_fault None e h = absurd (cc e)
  by_fault (Some w) e h = let same : fault ≡ w = cc e in (fault, ap (λ x. Some x) (sym same), told, h)
