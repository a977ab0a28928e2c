-- The pieces of a sum: how a term t divides a falling list.
use Rattle.std.specs.Prelude.{ℕ, suc, ◌≤◌, ◌==◌, if◌then◌else◌, List, [], ◌∷◌}
use Rattle.std.specs.declared.cmp.Ordering.{Ordering}
use Rattle.std.specs.declared.cmp.Ordering.TheVariants.{Less, Equal, Greater}
use Rattle.fm_mono.specs.declared.order.Order.{Order}
use Rattle.fm_poly.specs.declared.ring.Ring.{Ring}
use Rattle.fm_term.specs.declared.vterm.VTerm.{VTerm}
use Rattle.fm_poly.specs.declared.term.Term.{Term}
use Rattle.fm_term.specs.Places.{term_cmp}
use Rattle.fm_vec.specs.Multiples.{sum_term}

abbrev pub count_at : ℕ → Ordering → ℕ
count_at later Less = 0
count_at later Equal = 0
count_at later Greater = suc later

-- how many terms at the front are greater than t
abbrev pub count_above : Order → VTerm → List VTerm → ℕ
count_above o t [] = 0
count_above o t (u ∷ us) = count_at (count_above o t us) (term_cmp o u t)

abbrev pub top_at : Ring → VTerm → VTerm → Ordering → List VTerm
top_at r t u Less = t ∷ []
top_at r t u Equal = sum_term r u t
top_at r t u Greater = t ∷ []

-- t, or where the list begins in its place the sum of both
abbrev pub top_part : Ring → VTerm → List VTerm → List VTerm
top_part r t [] = t ∷ []
top_part r t (u ∷ us) = top_at r t u (term_cmp r.order u t)

abbrev pub under_at : VTerm → List VTerm → Ordering → List VTerm
under_at u us Less = u ∷ us
under_at u us Equal = us
under_at u us Greater = u ∷ us

-- the list without a first term in the place of t
abbrev pub under_part : Order → VTerm → List VTerm → List VTerm
under_part o t [] = []
under_part o t (u ∷ us) = under_at u us (term_cmp o u t)

-- how many terms at the front are in component k
abbrev pub front_count : ℕ → List VTerm → ℕ
front_count k [] = 0
front_count k (t ∷ ts) = if t.component == k then suc (front_count k ts) else 0

-- the terms without their component
abbrev pub unplaced : List VTerm → List Term
unplaced [] = []
unplaced (t ∷ ts) = record { mono = t.mono; coeff = t.coeff } ∷ unplaced ts

-- each component is at least k
abbrev pub AreFrom : ℕ → List VTerm → Type 0
AreFrom k [] = Unit {0}
AreFrom k (t ∷ ts) = (k ≤ t.component) × AreFrom k ts
