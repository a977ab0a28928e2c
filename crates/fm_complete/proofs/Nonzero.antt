-- A vector that is not zero has a head.
use Rattle.std.proofs.Common.{◌≡◌, ◌≢◌, List, [], ◌∷◌, None, refl}
use Rattle.fm_term.specs.declared.vterm.VTerm.{VTerm}
use Rattle.fm_term.specs.Falling.{head_of}

pub headless_not : (ts : List VTerm) → (ts ≢ []) → None ≡ head_of ts → ⊥
headless_not [] some e = some refl
headless_not (t ∷ ts) some e = cc
