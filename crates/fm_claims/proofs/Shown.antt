-- By what columns outside are shown.
use Rattle.std.proofs.Common.{◌≡◌, ℕ, ◌<◌, ◌≤◌, Bool, true, false, ◌&&◌, nat_lt, nat_le, List, [], ◌∷◌, Option, Some, None, ◌⊎◌, inl, inr, refl, arith}
use Rattle.std.proofs.lemmas.Bool.{lt-ltb, le-leb, lt-leb, le-ltb}
use Rattle.fm_words.specs.Options.{where_so}
use Rattle.fm_poly.specs.declared.ring.Ring.{Ring}
use Rattle.fm_report.specs.Parts.{Part}
use Rattle.fm_report.specs.Sheets.{Block, numbered}
use Rattle.fm_parts.specs.Conditions.{Log, Condition, outside}
use Rattle.fm_parts.specs.Shapes.{columns_of}
use Rattle.fm_parts.specs.Replays.{are_numbers}
use Rattle.fm_judge.specs.Claims.{excluded}
use Rattle.fm_judge.specs.Goals.{Goal}

module _ (r : Ring) (g : Goal) (b : Block) (parts : List Part) (logs : List Log) where
  module _ (e : ℕ) (A V : Part) (n c : ℕ) (by : List ℕ) where
    pub excluded_by : (log : Log) → numbered logs n ≡ Some log → are_numbers log.members by ≡ true → 0 < c → c ≤ columns_of V
        → excluded r g b parts logs e A V n c by ≡ Some (outside log e A V c by ∷ [])
    excluded_by log h m low high = rw (h, m, lt-ltb 0 c low, le-leb c (columns_of V) high) refl

    no_test : (m l t : Bool) (x : Option (List Condition)) → (m ≡ false) ⊎ ((l ≡ false) ⊎ (t ≡ false)) → where_so (m && (l && t)) x ≡ None
    no_test false l t x h = refl
    no_test true false t x h = refl
    no_test true true false x h = refl
    no_test true true true x h = elim h [ inl z ↦ absurd (cc z) | inr y ↦ elim y [ inl z ↦ absurd (cc z) | inr z ↦ absurd (cc z) ] ]

    pub not_members : (log : Log) → numbered logs n ≡ Some log → are_numbers log.members by ≡ false → excluded r g b parts logs e A V n c by ≡ None
    not_members log h m = rw (h, m) refl

    pub no_column : (log : Log) → numbered logs n ≡ Some log → (c ≡ 0) ⊎ (columns_of V < c) → excluded r g b parts logs e A V n c by ≡ None
    no_column log h l =
        rw h (no_test (are_numbers log.members by) (nat_lt 0 c) (nat_le c (columns_of V)) (Some (outside log e A V c by ∷ []))
        (inr (elim l [ inl z ↦ inl (le-ltb 0 c (omega (arith, z))) | inr z ↦ inr (lt-leb c (columns_of V) z) ])))
