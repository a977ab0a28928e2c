-- A worked completion, with a pair that the chain criterion skips.
use Rattle.std.proofs.Common.{ℕ, ◌≡◌, true, false, List, [], ◌∷◌, Result, Ok, Err, refl}
use Rattle.fm_gfp.specs.declared.prime.Prime.TheVariants.{Two}
use Rattle.fm_mono.specs.declared.order.Order.TheVariants.{Grevlex}
use Rattle.fm_groebner.specs.Logs.{Entry, Input, Pair, Skip}
use Rattle.fm_poly.specs.declared.ring.Ring.{Ring}
use Rattle.fm_term.specs.declared.vterm.VTerm.{VTerm}
use Rattle.fm_run.specs.Runs.{Halt}
use Rattle.fm_complete.specs.Completions.{Completion, completed}

plane : Ring
plane = record { prime = Two; vars = 2; order = Grevlex }

abbrev term : ℕ → ℕ → ℕ → VTerm
term i a b = record { component = i; mono = a ∷ b ∷ []; coeff = 1 }

abbrev log_of : Result Completion Halt → List Entry
log_of (Ok c) = c.log
log_of (Err e) = []

abbrev inputs : List (List VTerm)
inputs = (term 1 1 1 ∷ term 2 0 0 ∷ []) ∷ (term 1 0 2 ∷ term 3 0 0 ∷ []) ∷ (term 1 2 0 ∷ term 4 0 0 ∷ []) ∷ []

worked : log_of (completed plane inputs 20).end
    ≡ record { start = Input 1; by = []; keep = true } ∷ record { start = Input 2; by = []; keep = true } ∷ record { start = Input 3; by = []; keep = true }
    ∷ record { start = Pair 1 2; by = []; keep = true } ∷ record { start = Pair 1 3; by = []; keep = true } ∷ record { start = Pair 4 5; by = []; keep = true } ∷ record { start = Skip 2 3 1; by = []; keep = false } ∷ []
unfolding completed plane
worked = refl

left : (completed plane inputs 20).left ≡ 14
unfolding completed plane
left = refl
