-- Colons and links by their numbers, and conditions on them.
use Rattle.std.proofs.Common.{◌≡◌, ℕ, zero, suc, ◌-◌, false, nat_eq, List, ◌∷◌, Option, Some, None, refl, sym, ap, ◌∙◌, subst, arith}
use Rattle.std.proofs.lemmas.Bool.{ne_eqb}
use Rattle.fm_poly.specs.declared.ring.Ring.{Ring}
use Rattle.fm_report.specs.Parts.{Part, beside}
use Rattle.fm_report.specs.Sheets.{Block, numbered}
use Rattle.fm_parts.specs.Conditions.{Log, Condition}
use Rattle.fm_judge.specs.Claims.{colon_at, excluded, kernel_at, link_at}
use Rattle.fm_judge.specs.Goals.{Goal}

-- ---- lists with one more in front
pub numbered_first : {A : Type 0} (x : A) (xs : List A) (j : ℕ) → j ≡ 0 → numbered (x ∷ xs) (suc j) ≡ Some x
numbered_first x xs zero e = refl
numbered_first x xs (suc j) e = absurd (omega (arith, e))

pub numbered_later : {A : Type 0} (x : A) (xs : List A) (j : ℕ) → (j ≡ 0 → ⊥) → numbered (x ∷ xs) (suc j) ≡ numbered xs (suc (j - 1))
numbered_later x xs j n =
    let other : nat_eq (suc j) 1 ≡ false = ne_eqb (suc j) 1 (λ (e : suc j ≡ 1). let z : j ≡ 0 = omega (arith, e) in n z) in
    let back : suc j - 1 ≡ j = omega arith in
    let up : suc (j - 1) ≡ j = above j n in
    rw other (ap (numbered xs) (back ∙ sym up))
  where
    above : (j : ℕ) → (j ≡ 0 → ⊥) → suc (j - 1) ≡ j
    above zero n = absurd (n refl)
    above (suc j) n = let e : suc j - 1 ≡ j = omega arith in ap suc e

module _ (r : Ring) (g : Goal) (b : Block) (parts : List Part) (logs : List Log) where
  -- a column of the same matrix
  pub excluded_of : (e : ℕ) (A V W : Part) (n c : ℕ) (by : List ℕ) (o : Option (List Condition)) → V ≡ W → excluded r g b parts logs e A V n c by ≡ o
      → excluded r g b parts logs e A W n c by ≡ o
  excluded_of e A V W n c by o s h = subst (λ X. excluded r g b parts logs e A X n c by ≡ o) s h

  -- ---- colons
  module _ (t : ℕ) (found : List Part) (j : ℕ) where
    pub no_colon_kernel : kernel_at r g b parts logs t ≡ None → colon_at r g b parts logs t found j ≡ None
    no_colon_kernel e = rw e refl

    pub first_colon : (K : Part) → kernel_at r g b parts logs t ≡ Some K → j ≡ 0 → colon_at r g b parts logs t found j ≡ Some K
    first_colon K e z = rw e (numbered_first K found j z)

    pub later_colon : (K : Part) → kernel_at r g b parts logs t ≡ Some K → (j ≡ 0 → ⊥) → colon_at r g b parts logs t found j ≡ numbered found (suc (j - 1))
    later_colon K e n = rw e (numbered_later K found j n)

  -- ---- links
  module _ (Phi : Part) (found : List Part) (j : ℕ) where
    pub no_link_kernel : kernel_at r g b parts logs 0 ≡ None → link_at r g b parts logs Phi found j ≡ None
    no_link_kernel e = rw e refl

    pub first_link : (N : Part) → kernel_at r g b parts logs 0 ≡ Some N → j ≡ 0 → link_at r g b parts logs Phi found j ≡ Some (beside N Phi)
    first_link N e z = rw e (numbered_first (beside N Phi) found j z)

    pub later_link : (N : Part) → kernel_at r g b parts logs 0 ≡ Some N → (j ≡ 0 → ⊥) → link_at r g b parts logs Phi found j ≡ numbered found (suc (j - 1))
    later_link N e n = rw e (numbered_later (beside N Phi) found j n)
