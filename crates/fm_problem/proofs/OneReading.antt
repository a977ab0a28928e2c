-- One reading or one fault.
use Rattle.std.proofs.Common.{◌≡◌, ◌⊎◌, inl, inr, Result, Ok, Err, refl, sym, ◌∙◌}
use Rattle.fm_words.proofs.FirstFaults.{no_fault, same_ok}

pub read_or_fault : {A F : Type 0} (r : Result A F) → ((x : A) × (r ≡ Ok x)) ⊎ ((f : F) × (r ≡ Err f))
read_or_fault (Ok x) = inl (x, refl)
read_or_fault (Err f) = inr (f, refl)

pub not_both : {A F : Type 0} (r : Result A F) (x : A) (f : F) → r ≡ Ok x → r ≡ Err f → ⊥
not_both r x f e h = no_fault f x (sym h ∙ e)

pub same_reading : {A F : Type 0} (r : Result A F) (x y : A) → r ≡ Ok x → r ≡ Ok y → x ≡ y
same_reading r x y e h = same_ok (sym e ∙ h)

same_err : {A F : Type 0} {f g : F} → ◌≡◌ {A = Result A F} (Err f) (Err g) → f ≡ g
same_err e = cc

pub same_fault : {A F : Type 0} (r : Result A F) (f g : F) → r ≡ Err f → r ≡ Err g → f ≡ g
same_fault r f g e h = same_err (sym e ∙ h)
