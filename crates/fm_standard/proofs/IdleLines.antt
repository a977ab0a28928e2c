-- Lines that change nothing.
use Rattle.std.proofs.Common.{◌≡◌, ℕ, Bool, true, false, List, [], ◌∷◌, length, Option, Some, refl}
use Rattle.fm_words.specs.Words.{AreNames}
use Rattle.fm_problem.specs.declared.problem.Problem.{Problem}
use Rattle.fm_problem.specs.declared.query.Query.{Query}
use Rattle.fm_poly.specs.declared.ring.Ring.{Ring}
use Rattle.fm_cert.specs.Fields.{Values}
use Rattle.fm_cert.specs.Kinds.{Kind, row}
use Rattle.fm_cert.specs.Kinds as kinds
use Rattle.fm_cert.specs.Lines.{Row}
use Rattle.fm_cert.specs.Writable.{AnswersQuery, IsWritableLine}
use Rattle.fm_report.specs.Parts.{Part}
use Rattle.fm_report.specs.Sheets.{Answer, Sheet, say}
use Rattle.fm_report.specs.Reading.{stated_by}
use Rattle.fm_report.specs.Holding.{AllHold}
use Rattle.fm_standard.specs.Small.{IsSmallLine}
use Rattle.fm_standard.proofs.SmallLines.{are_counted, small_values}
use Rattle.fm_standard.specs.Said.{Laid, under}
use Rattle.fm_standard.proofs.Steps.{Leads, plain_leads}

-- the kinds of lines that change nothing, and of whose fields only the numbers are bounded
abbrev pub is_idle : Kind → Bool
is_idle (kinds.Ended e) = false
is_idle kinds.Given = false
is_idle kinds.Twist = false
is_idle kinds.Flip = false
is_idle kinds.Beside = false
is_idle kinds.Stack = false
is_idle kinds.Times = false
is_idle kinds.Pick = false
is_idle kinds.Datum = false
is_idle kinds.D = false
is_idle kinds.Theta = false
is_idle kinds.Cocycles = false
is_idle kinds.Relations = false
is_idle kinds.Morphism = false
is_idle kinds.Chain = false
is_idle kinds.Stable = false
is_idle kinds.Z = false
is_idle kinds.N = false
is_idle kinds.U = false
is_idle kinds.K = false
is_idle kinds.Lambda = false
is_idle kinds.Done = false
is_idle kind = true

pub record IsIdle (kind : Kind) : Type 0 where
  pub said : (s : Sheet) (v : Values (row kind)) → say s (Row kind v) ≡ Some s
  pub holds : (s : Sheet) (v : Values (row kind)) → AllHold (stated_by s (Row kind v))
  pub counted : are_counted (row kind) ≡ true
  pub answers : (asked : Option Query) → AnswersQuery asked kind

not_true : {A : Type 0} → false ≡ true → A
not_true e = absurd (cc)

pub idle : (kind : Kind) → is_idle kind ≡ true → IsIdle kind
unfolding say
idle (kinds.Ended e) t = not_true t
idle kinds.Given t = not_true t
idle kinds.Twist t = not_true t
idle kinds.Flip t = not_true t
idle kinds.Beside t = not_true t
idle kinds.Stack t = not_true t
idle kinds.Times t = not_true t
idle kinds.Pick t = not_true t
idle kinds.Datum t = not_true t
idle kinds.D t = not_true t
idle kinds.Theta t = not_true t
idle kinds.Cocycles t = not_true t
idle kinds.Relations t = not_true t
idle kinds.Morphism t = not_true t
idle kinds.Chain t = not_true t
idle kinds.Stable t = not_true t
idle kinds.Z t = not_true t
idle kinds.N t = not_true t
idle kinds.U t = not_true t
idle kinds.K t = not_true t
idle kinds.Lambda t = not_true t
idle kinds.Done t = not_true t
idle kind t = record { said = λ s v. refl; holds = λ s v. tt; counted = refl; answers = λ asked. tt }

pub idle_writable : (r : Ring) (asked : Option Query) (kind : Kind) (v : Values (row kind)) → is_idle kind ≡ true → IsSmallLine (Row kind v) → IsWritableLine r asked (Row kind v)
idle_writable r asked kind v t s = ((idle kind t).answers asked, small_values r (row kind) v (idle kind t).counted s)

module _ (q : Problem) (h : AreNames q.vars) (l : length q.vars ≡ q.ring.vars) (z : Query) (k : ℕ) (answer : Answer) where
  pub idle_leads : (ps : List Part) (c : Laid) (kind : Kind) (v : Values (row kind)) → is_idle kind ≡ true → IsSmallLine (Row kind v) → Leads q h l k z answer ps c (Row kind v ∷ []) ps c
  idle_leads ps c kind v t s =
      plain_leads q h l k z answer ps ps c c (Row kind v) (idle_writable q.ring (Some z) kind v t s) ((idle kind t).said (under q k z answer ps c) v) ((idle kind t).holds (under q k z answer ps c) v)
