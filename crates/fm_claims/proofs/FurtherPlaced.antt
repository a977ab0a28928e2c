-- What the table says of a row on inverting, on the support or on maps in its place.
use Rattle.std.proofs.Common.{◌≡◌, ℕ, suc, ◌-◌, ◌<◌, List, [], ◌∷◌, ◌++◌, length, Option, Some, None, refl, arith}
use Rattle.std.proofs.lemmas.Bool.{lt-ltb}
use Rattle.fm_poly.specs.Polys.{PolyValue}
use Rattle.fm_poly.specs.declared.ring.Ring.{Ring}
use Rattle.fm_report.specs.Parts.{Part}
use Rattle.fm_report.specs.Sheets.{Block, numbered}
use Rattle.fm_parts.specs.Conditions.{Log, Condition}
use Rattle.fm_judge.specs.Goals.{Goal}
use Rattle.fm_judge.specs.Claims.{Claim, claim, colon_at, is_short, kernel_at, link_at, on_lambda, on_link, source_cocycles, source_kernel}
use Rattle.fm_judge.specs.Places.{Place, after_fibre, after_lambda, after_link, after_phi, after_power}
use Rattle.fm_judge.specs.Places as places
use Rattle.fm_lines.specs.Rows.{row_line}
use Rattle.fm_lines.specs.declared.row.Row.{Row}
use Rattle.fm_lines.specs.declared.row.Row.TheVariants as rows
use Rattle.fm_lines.specs.declared.shown.Generated.{Generated}
use Rattle.fm_lines.specs.declared.shown.Excluded.{Excluded}
use Rattle.fm_claims.specs.Named.{annihilated_by, covered_by, filled_by, induced_by, not_everything, outside_of, power_covered_by, power_outside_of, sent_by_polynomial, sent_into_by, settled_by}
use Rattle.fm_claims.specs.Views.{claim_on}
use Rattle.fm_claims.proofs.Numbering.{where_same, where_other}

module _ (r : Ring) (g : Goal) (b : Block) (parts : List Part) (logs : List Log) where
  abbrev pub At : Place → Row → Option Claim
  At p row = claim_on r g b parts logs p (row_line row)

  abbrev pub says : Option (List Condition) → Place → Option Claim
  says cs next = Some (record { conditions = cs; next = next })

  abbrev pub kernel_of : ℕ → Option Part
  kernel_of t = kernel_at r g b parts logs t

  -- ---- a power of a polynomial
  pub on_power : (f : PolyValue) (t k w : ℕ)
      → At (places.power f t k) (rows.Power w) ≡ says (power_covered_by r f k (kernel_of t) (numbered parts w)) (after_power f t k)
  unfolding claim
  on_power f t k w = refl

  pub on_least : (f : PolyValue) (t k : ℕ) (s : Excluded)
      → At (places.least f t k) (rows.Least s) ≡ says (power_outside_of r g b parts logs f k (kernel_of t) s.log s.column s.by.items) places.end
  unfolding claim
  on_least f t k s = refl

  -- ---- colons
  abbrev pub colon_of : (t : ℕ) (found : List Part) (j : ℕ) → Option Part
  colon_of t found j = colon_at r g b parts logs t found j

  abbrev pub colon_says : PolyValue → (t : ℕ) (found : List Part) → Part → Generated → Option (List Condition)
  colon_says f t found P s = sent_by_polynomial r g b parts logs f (colon_of t found (length found)) P s.log s.x s.w

  pub on_colon : (f : PolyValue) (t : ℕ) (found : List Part) (n k : ℕ) (s : Generated) (P : Part) → n ≡ suc (length found) → numbered parts k ≡ Some P
      → At (places.colon f t found) (rows.Colon n k s) ≡ says (colon_says f t found P s) (places.colon f t (found ++ P ∷ []))
  unfolding claim
  on_colon f t found n k s P e h = rw h (where_same n (suc (length found)) (says (colon_says f t found P s) (places.colon f t (found ++ P ∷ []))) e)

  pub no_colon : (f : PolyValue) (t : ℕ) (found : List Part) (n k : ℕ) (s : Generated) → n ≡ suc (length found) → numbered parts k ≡ None
      → At (places.colon f t found) (rows.Colon n k s) ≡ says None places.end
  unfolding claim
  no_colon f t found n k s e h = rw h (where_same n (suc (length found)) (says None places.end) e)

  pub off_colon : (f : PolyValue) (t : ℕ) (found : List Part) (n k : ℕ) (s : Generated) → (n ≡ suc (length found) → ⊥)
      → At (places.colon f t found) (rows.Colon n k s) ≡ None
  unfolding claim
  off_colon f t found n k s e = where_other n (suc (length found)) _ e

  abbrev pub settles_says : (t : ℕ) (found : List Part) (w : ℕ) → Option (List Condition)
  settles_says t found w = settled_by (colon_of t found (length found - 1)) (colon_of t found (length found)) (numbered parts w)

  pub on_settles : (f : PolyValue) (t : ℕ) (found : List Part) (n w : ℕ) → 0 < length found → n ≡ length found
      → At (places.colon f t found) (rows.Settles n w) ≡ says (settles_says t found w) (places.proper_colon t found)
  unfolding claim
  on_settles f t found n w l e = rw (lt-ltb 0 (length found) l) (where_same n (length found) (says (settles_says t found w) (places.proper_colon t found)) e)

  pub off_settles : (f : PolyValue) (t : ℕ) (found : List Part) (n w : ℕ) → 0 < length found → (n ≡ length found → ⊥)
      → At (places.colon f t found) (rows.Settles n w) ≡ None
  unfolding claim
  off_settles f t found n w l e = rw (lt-ltb 0 (length found) l) (where_other n (length found) _ e)

  pub no_settles : (f : PolyValue) (t : ℕ) (found : List Part) (n w : ℕ) → length found ≡ 0 → At (places.colon f t found) (rows.Settles n w) ≡ None
  unfolding claim
  no_settles f t [] n w l = refl
  no_settles f t (P ∷ found) n w l = absurd (omega (arith, l))

  pub on_proper_colon : (t : ℕ) (found : List Part) (s : Excluded)
      → At (places.proper_colon t found) (rows.Proper s) ≡ says (not_everything r g b parts logs (colon_of t found (length found - 1)) s.log s.column s.by.items) places.end
  unfolding claim
  on_proper_colon t found s = refl

  -- ---- the annihilator
  pub on_annihilator : (ideal : List PolyValue) (t k : ℕ) (s : Generated)
      → At (places.annihilator ideal t) (rows.Annihilator k s) ≡ says (annihilated_by r g b parts logs ideal (kernel_of t) (numbered parts k) s.log s.x s.w) places.end
  unfolding claim
  on_annihilator ideal t k s = refl

  -- ---- a map
  abbrev pub lambda_says : List Part → Part → Option (List Condition)
  lambda_says identity P = on_lambda r g b parts logs identity P

  pub on_lambda_line : (t : ℕ) (identity : List Part) (n k : ℕ) (P : Part) → n ≡ length identity → numbered parts k ≡ Some P
      → At (places.lambda t identity) (rows.Lambda n k) ≡ says (lambda_says identity P) (after_lambda g t (identity ++ P ∷ []))
  unfolding claim
  on_lambda_line t identity n k P e h = rw h (where_same n (length identity) (says (lambda_says identity P) (after_lambda g t (identity ++ P ∷ []))) e)

  pub no_lambda : (t : ℕ) (identity : List Part) (n k : ℕ) → n ≡ length identity → numbered parts k ≡ None
      → At (places.lambda t identity) (rows.Lambda n k) ≡ says None places.end
  unfolding claim
  no_lambda t identity n k e h = rw h (where_same n (length identity) (says None places.end) e)

  pub off_lambda : (t : ℕ) (identity : List Part) (n k : ℕ) → (n ≡ length identity → ⊥) → At (places.lambda t identity) (rows.Lambda n k) ≡ None
  unfolding claim
  off_lambda t identity n k e = where_other n (length identity) _ e

  abbrev pub phi_says : List Part → Part → Option (List Condition)
  phi_says identity Phi = induced_by (source_cocycles r g b parts logs) (numbered identity (suc g.degree)) (numbered b.cocycles 1) Phi

  pub on_phi : (t : ℕ) (identity : List Part) (k : ℕ) (Phi : Part) → numbered parts k ≡ Some Phi
      → At (places.phi t identity) (rows.Phi k) ≡ says (phi_says identity Phi) (after_phi g.aim t Phi)
  unfolding claim
  on_phi t identity k Phi e = rw e refl

  pub no_phi : (t : ℕ) (identity : List Part) (k : ℕ) → numbered parts k ≡ None → At (places.phi t identity) (rows.Phi k) ≡ says None places.end
  unfolding claim
  no_phi t identity k e = rw e refl

  pub on_null : (t : ℕ) (Phi : Part) (w : ℕ) → At (places.null t Phi) (rows.Null w) ≡ says (covered_by Phi (kernel_of t) (numbered parts w)) (places.fibre t Phi)
  unfolding claim
  on_null t Phi w = refl

  pub on_nonnull : (t : ℕ) (Phi : Part) (s : Excluded)
      → At (places.nonnull t Phi) (rows.NonNull s) ≡ says (outside_of r g b parts logs (kernel_of t) Phi s.log s.column s.by.items) (places.fibre t Phi)
  unfolding claim
  on_nonnull t Phi s = refl

  abbrev pub fibre_says : (t : ℕ) (Phi C : Part) → Generated → Option (List Condition)
  fibre_says t Phi C s = sent_into_by r g b parts logs Phi (kernel_of t) C s.log s.x s.w

  pub on_fibre : (t : ℕ) (Phi : Part) (k : ℕ) (s : Generated) (C : Part) → numbered parts k ≡ Some C
      → At (places.fibre t Phi) (rows.Fibre k s) ≡ says (fibre_says t Phi C s) (after_fibre g.aim t Phi C)
  unfolding claim
  on_fibre t Phi k s C e = rw e refl

  pub no_fibre : (t : ℕ) (Phi : Part) (k : ℕ) (s : Generated) → numbered parts k ≡ None → At (places.fibre t Phi) (rows.Fibre k s) ≡ says None places.end
  unfolding claim
  no_fibre t Phi k s e = rw e refl

  pub on_one : (t : ℕ) (Phi C : Part) (w : ℕ)
      → At (places.one t Phi C) (rows.One w) ≡ says (covered_by C (source_kernel r g b parts logs) (numbered parts w)) (after_link g.aim t Phi [])
  unfolding claim
  on_one t Phi C w = refl

  pub on_notone : (t : ℕ) (Phi C : Part) (s : Excluded)
      → At (places.notone t Phi C) (rows.NotOne s) ≡ says (outside_of r g b parts logs (source_kernel r g b parts logs) C s.log s.column s.by.items) (after_link g.aim t Phi [])
  unfolding claim
  on_notone t Phi C s = refl

  -- ---- links
  abbrev pub link_of : (Phi : Part) (found : List Part) (j : ℕ) → Option Part
  link_of Phi found j = link_at r g b parts logs Phi found j

  abbrev pub link_says : (Phi : Part) (found : List Part) → Part → Generated → Option (List Condition)
  link_says Phi found P s = on_link r g b parts logs Phi found P s.log s.x s.w

  pub on_link_line : (t : ℕ) (Phi : Part) (found : List Part) (n k : ℕ) (s : Generated) (P : Part) → n ≡ suc (length found) → numbered parts k ≡ Some P
      → At (places.link t Phi found) (rows.Link n k s) ≡ says (link_says Phi found P s) (after_link g.aim t Phi (found ++ P ∷ []))
  unfolding claim
  on_link_line t Phi found n k s P e h = rw h (where_same n (suc (length found)) (says (link_says Phi found P s) (after_link g.aim t Phi (found ++ P ∷ []))) e)

  pub no_link : (t : ℕ) (Phi : Part) (found : List Part) (n k : ℕ) (s : Generated) → n ≡ suc (length found) → numbered parts k ≡ None
      → At (places.link t Phi found) (rows.Link n k s) ≡ says None places.end
  unfolding claim
  no_link t Phi found n k s e h = rw h (where_same n (suc (length found)) (says None places.end) e)

  pub off_link : (t : ℕ) (Phi : Part) (found : List Part) (n k : ℕ) (s : Generated) → (n ≡ suc (length found) → ⊥)
      → At (places.link t Phi found) (rows.Link n k s) ≡ None
  unfolding claim
  off_link t Phi found n k s e = where_other n (suc (length found)) _ e

  pub on_open_link : (t : ℕ) (Phi : Part) (found : List Part) (n k : ℕ) (s : Generated) (P : Part) → n ≡ suc (length found) → numbered parts k ≡ Some P
      → At (places.open_link t Phi found) (rows.Link n k s) ≡ says (link_says Phi found P s) (places.open_link t Phi (found ++ P ∷ []))
  unfolding claim
  on_open_link t Phi found n k s P e h = rw h (where_same n (suc (length found)) (says (link_says Phi found P s) (places.open_link t Phi (found ++ P ∷ []))) e)

  pub no_open_link : (t : ℕ) (Phi : Part) (found : List Part) (n k : ℕ) (s : Generated) → n ≡ suc (length found) → numbered parts k ≡ None
      → At (places.open_link t Phi found) (rows.Link n k s) ≡ says None places.end
  unfolding claim
  no_open_link t Phi found n k s e h = rw h (where_same n (suc (length found)) (says None places.end) e)

  pub off_open_link : (t : ℕ) (Phi : Part) (found : List Part) (n k : ℕ) (s : Generated) → (n ≡ suc (length found) → ⊥)
      → At (places.open_link t Phi found) (rows.Link n k s) ≡ None
  unfolding claim
  off_open_link t Phi found n k s e = where_other n (suc (length found)) _ e

  abbrev pub closes_says : (Phi : Part) (found : List Part) (w : ℕ) → Option (List Condition)
  closes_says Phi found w = settled_by (link_of Phi found (length found - 1)) (link_of Phi found (length found)) (numbered parts w)

  pub on_closes : (t : ℕ) (Phi : Part) (found : List Part) (n w : ℕ) → 0 < length found → n ≡ length found - 1
      → At (places.open_link t Phi found) (rows.Closes n w) ≡ says (closes_says Phi found w) (places.never_onto t Phi found)
  unfolding claim
  on_closes t Phi found n w l e = rw (lt-ltb 0 (length found) l) (where_same n (length found - 1) (says (closes_says Phi found w) (places.never_onto t Phi found)) e)

  pub off_closes : (t : ℕ) (Phi : Part) (found : List Part) (n w : ℕ) → 0 < length found → (n ≡ length found - 1 → ⊥)
      → At (places.open_link t Phi found) (rows.Closes n w) ≡ None
  unfolding claim
  off_closes t Phi found n w l e = rw (lt-ltb 0 (length found) l) (where_other n (length found - 1) _ e)

  pub no_closes : (t : ℕ) (Phi : Part) (found : List Part) (n w : ℕ) → length found ≡ 0 → At (places.open_link t Phi found) (rows.Closes n w) ≡ None
  unfolding claim
  no_closes t Phi [] n w l = refl
  no_closes t Phi (P ∷ found) n w l = absurd (omega (arith, l))

  abbrev pub short_says : (Phi : Part) (found : List Part) → Excluded → Option (List Condition)
  short_says Phi found s = is_short r g b parts logs Phi found (length found - 1) s.log s.column s.by.items

  pub on_short : (t : ℕ) (Phi : Part) (found : List Part) (n : ℕ) (s : Excluded) → n ≡ length found - 1
      → At (places.short t Phi found) (rows.Short n s) ≡ says (short_says Phi found s) (places.onto t Phi found)
  unfolding claim
  on_short t Phi found n s e = where_same n (length found - 1) (says (short_says Phi found s) (places.onto t Phi found)) e

  pub off_short : (t : ℕ) (Phi : Part) (found : List Part) (n : ℕ) (s : Excluded) → (n ≡ length found - 1 → ⊥)
      → At (places.short t Phi found) (rows.Short n s) ≡ None
  unfolding claim
  off_short t Phi found n s e = where_other n (length found - 1) _ e

  abbrev pub onto_says : (Phi : Part) (found : List Part) (w : ℕ) → Option (List Condition)
  onto_says Phi found w = filled_by r (link_of Phi found (length found)) (numbered parts w)

  pub on_onto : (t : ℕ) (Phi : Part) (found : List Part) (n w : ℕ) → n ≡ length found
      → At (places.onto t Phi found) (rows.Onto n w) ≡ says (onto_says Phi found w) places.end
  unfolding claim
  on_onto t Phi found n w e = where_same n (length found) (says (onto_says Phi found w) places.end) e

  pub off_onto : (t : ℕ) (Phi : Part) (found : List Part) (n w : ℕ) → (n ≡ length found → ⊥) → At (places.onto t Phi found) (rows.Onto n w) ≡ None
  unfolding claim
  off_onto t Phi found n w e = where_other n (length found) _ e

  pub on_never_onto : (t : ℕ) (Phi : Part) (found : List Part) (n : ℕ) (s : Excluded) → n ≡ length found - 1
      → At (places.never_onto t Phi found) (rows.Short n s) ≡ says (short_says Phi found s) places.end
  unfolding claim
  on_never_onto t Phi found n s e = where_same n (length found - 1) (says (short_says Phi found s) places.end) e

  pub off_never_onto : (t : ℕ) (Phi : Part) (found : List Part) (n : ℕ) (s : Excluded) → (n ≡ length found - 1 → ⊥)
      → At (places.never_onto t Phi found) (rows.Short n s) ≡ None
  unfolding claim
  off_never_onto t Phi found n s e = where_other n (length found - 1) _ e
