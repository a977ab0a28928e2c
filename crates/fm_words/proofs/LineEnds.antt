-- The end of a line.
use Rattle.std.proofs.Common.{◌≡◌, ℕ, List, [], ◌∷◌, ◌++◌, refl, sym, ◌∙◌, ap, nat_eq, false}
use Rattle.std.proofs.lemmas.Bool.{ne_eqb}
use Rattle.fm_words.specs.Lines.{without_return}

return_dropped : (front : List ℕ) → without_return (front ++ 13 ∷ []) ≡ front
return_dropped [] = refl
return_dropped (x ∷ []) = refl
return_dropped (x ∷ y ∷ ys) = ap (λ v. x ∷ v) (return_dropped (y ∷ ys))

other_kept : (front : List ℕ) (b : ℕ) → nat_eq b 13 ≡ false → without_return (front ++ b ∷ []) ≡ front ++ b ∷ []
other_kept [] b h = rw h refl
other_kept (x ∷ []) b h = rw h refl
other_kept (x ∷ y ∷ ys) b h = ap (λ v. x ∷ v) (other_kept (y ∷ ys) b h)

pub dropped : (line front : List ℕ) (b : ℕ) → line ≡ front ++ b ∷ [] → b ≡ 13 → front ≡ without_return line
dropped line front b e is = sym (ap without_return (e ∙ ap (λ v. front ++ v ∷ []) is) ∙ return_dropped front)

pub kept : (line front : List ℕ) (b : ℕ) → line ≡ front ++ b ∷ [] → (b ≡ 13 → ⊥) → line ≡ without_return line
kept line front b e isnt = e ∙ sym (ap without_return e ∙ other_kept front b (ne_eqb b 13 isnt))
