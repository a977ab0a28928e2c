-- Columns of matrices that lines give.
use Rattle.std.proofs.Common.{◌≡◌, ℕ, ◌≤◌, Bool, true, false, ◌&&◌, nat_eq, nat_lt, List, [], ◌∷◌, length, refl, sym, ap, ◌∙◌, arith}
use Rattle.std.specs.Prelude.{Vec}
use Rattle.std.specs.Global.{Global}
use Rattle.std.specs.List.{list_all}
use Rattle.std.proofs.lemmas.Bool.{and_left, and_parts, and_right, eqb-true, le-ltb}
use Rattle.std.proofs.lemmas.List.{length-map}
use Rattle.fm_mat.specs.Matrices.{AreColumns}
use Rattle.fm_poly.specs.Polys.{PolyValue}
use Rattle.fm_poly.specs.declared.ring.Ring.{Ring}
use Rattle.fm_report.specs.Parts.{given}
use Rattle.fm_parts.specs.Shapes.{SIZE, fits}
use Rattle.fm_lines.specs.Rows.{AreColumnsOver, columns_of}

long_columns : (rows : ℕ) (cs : List (Vec PolyValue Global)) → list_all (λ c. nat_eq (length c.items) rows) cs ≡ list_all (λ v. nat_eq (length v) rows) (columns_of cs)
long_columns rows [] = refl
long_columns rows (c ∷ cs) = ap (λ b. nat_eq (length c.items) rows && b) (long_columns rows cs)

pub columns_are : (r : Ring) (rows : ℕ) (cs : List (Vec PolyValue Global)) → AreColumnsOver r cs → list_all (λ c. nat_eq (length c.items) rows) cs ≡ true → AreColumns r rows (columns_of cs)
columns_are r rows [] over h = tt
columns_are r rows (c ∷ cs) over h =
    let t = and_parts (nat_eq (length c.items) rows) (list_all (λ c. nat_eq (length c.items) rows) cs) h in
    (over.0, eqb-true (length c.items) rows t.0, columns_are r rows cs over.1 t.1)

module _ (rows : ℕ) (cs : List (Vec PolyValue Global)) where
  pub many_rows : SIZE ≤ rows → fits (given rows (columns_of cs)) ≡ false
  many_rows h =
      and_right (list_all (λ v. nat_eq (length v) rows) (columns_of cs)) (nat_lt rows SIZE && nat_lt (length (columns_of cs)) SIZE)
      (and_left (nat_lt rows SIZE) (nat_lt (length (columns_of cs)) SIZE) (le-ltb rows SIZE h))

  pub many_columns : SIZE ≤ length cs → fits (given rows (columns_of cs)) ≡ false
  many_columns h =
      let same = length-map cs (λ (c : Vec PolyValue Global). c.items) in
      and_right (list_all (λ v. nat_eq (length v) rows) (columns_of cs)) (nat_lt rows SIZE && nat_lt (length (columns_of cs)) SIZE)
      (and_right (nat_lt rows SIZE) (nat_lt (length (columns_of cs)) SIZE) (le-ltb (length (columns_of cs)) SIZE (omega (arith, h, same))))

  pub not_long : (b : Bool) → b ≡ list_all (λ c. nat_eq (length c.items) rows) cs → b ≡ false → fits (given rows (columns_of cs)) ≡ false
  not_long b e h =
      and_left (list_all (λ v. nat_eq (length v) rows) (columns_of cs)) (nat_lt rows SIZE && nat_lt (length (columns_of cs)) SIZE)
      (sym (long_columns rows cs) ∙ sym e ∙ h)
