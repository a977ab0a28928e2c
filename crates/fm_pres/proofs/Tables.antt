-- More parts leave the earlier ones and what refers to them as they are.
use Rattle.std.proofs.Common.{◌≡◌, ℕ, suc, ◌+◌, ◌-◌, ◌<◌, ◌≤◌, Bool, true, false, ◌&&◌, if◌then◌else◌, nat_lt, nat_le, List, [], ◌∷◌, ◌++◌, length, map, get_or, Some, None, Ok, Err, refl, ap, ap₂, ◌∙◌, arith}
use Rattle.std.specs.List.{list_all}
use Rattle.std.proofs.lemmas.Bool.{and_parts, ltb-true, leb-true, le-leb, lt-ltb}
use Rattle.std.proofs.lemmas.List.{get_or_append_left, length-append}
use Rattle.fm_report.specs.Parts.{Part, given, twist, flip, beside, stack, times, pick}
use Rattle.fm_parts.specs.Replays.{is_number}
use Rattle.fm_parts.specs.Shapes.{columns_of, fits, is_shallow}
use Rattle.fm_pres.specs.Tables.{part_at, tree_of, parts_from, is_column, refers, fault_of, answer_to, parts_with}
use Rattle.fm_pres.specs.declared.form.Form.{Form}
use Rattle.fm_pres.specs.declared.form.Form.TheVariants.{Given, Twist, Flip, Beside, Stack, Times, Pick}
use Rattle.fm_pres.specs.declared.part_fault.PartFault.{PartFault}
use Rattle.fm_pres.specs.declared.part_fault.PartFault.TheVariants.{Reference, Shape, Depth}

-- ---- numbers

pub is_number_bounds : {A : Type 0} (xs : List A) (k : ℕ) → is_number xs k ≡ true → (0 < k) × (k ≤ length xs)
is_number_bounds xs k e = let h = and_parts (nat_lt 0 k) (nat_le k (length xs)) e in (ltb-true 0 k h.0, leb-true k (length xs) h.1)

pub bounds_is_number : {A : Type 0} (xs : List A) (k : ℕ) → 0 < k → k ≤ length xs → is_number xs k ≡ true
bounds_is_number xs k low high = rw (lt-ltb 0 k low, le-leb k (length xs) high) refl

-- ---- more parts

-- the first parts of qs are ps
pub record Extends (ps qs : List Part) : Type 0 where
  pub more : length ps ≤ length qs
  pub same : (i : ℕ) (d : Part) → i < length ps → get_or qs i d ≡ get_or ps i d

pub extends_self : (ps : List Part) → Extends ps ps
extends_self ps = record { more = omega arith; same = λ i d h. refl }

pub extends_push : (ps qs : List Part) (a : Part) → Extends (ps ++ a ∷ []) qs → Extends ps qs
extends_push ps qs a e =
    let n : length (ps ++ a ∷ []) ≡ length ps + 1 = length-append ps (a ∷ []) in
    record {
      more = omega (arith, n, e.more);
      same = λ i d h. e.same i d (omega (arith, n, h)) ∙ get_or_append_left ps (a ∷ []) d i h;
    }

pub extends_from : (ps : List Part) (fs : List Form) → Extends ps (parts_from ps fs)
extends_from ps [] = extends_self ps
extends_from ps (f ∷ fs) = extends_push ps (parts_from ps (f ∷ fs)) (tree_of ps f) (extends_from (ps ++ tree_of ps f ∷ []) fs)

module _ (ps qs : List Part) (e : Extends ps qs) where
  pub number_kept : (k : ℕ) → is_number ps k ≡ true → is_number qs k ≡ true
  number_kept k h = let b = is_number_bounds ps k h in bounds_is_number qs k b.0 (omega (arith, b.1, e.more))

  pub part_kept : (k : ℕ) → is_number ps k ≡ true → part_at qs k ≡ part_at ps k
  part_kept k h = let b = is_number_bounds ps k h in e.same (k - 1) (given 0 []) (omega (arith, b.0, b.1))

  two_kept : (a b : ℕ) → (is_number ps a && is_number ps b) ≡ true → (part_at qs a ≡ part_at ps a) × (part_at qs b ≡ part_at ps b)
  two_kept a b h = let t = and_parts (is_number ps a) (is_number ps b) h in (part_kept a t.0, part_kept b t.1)

  pub tree_kept : (f : Form) → refers ps f ≡ true → tree_of qs f ≡ tree_of ps f
  tree_kept (Given m) h = refl
  tree_kept (Twist a x) h = ap (λ t. twist t x) (part_kept a h)
  tree_kept (Flip a) h = ap flip (part_kept a h)
  tree_kept (Beside a b) h = let t = two_kept a b h in ap₂ beside t.0 t.1
  tree_kept (Stack a b) h = let t = two_kept a b h in ap₂ stack t.0 t.1
  tree_kept (Times a b) h = let t = two_kept a b h in ap₂ times t.0 t.1
  tree_kept (Pick a js) h =
      ap (λ t. pick t (map (λ j. j - 1) js.items))
      (part_kept a (and_parts (is_number ps a) (list_all (is_column (columns_of (part_at ps a))) js.items) h).0)

  numbers_kept : (a b : ℕ) → (is_number ps a && is_number ps b) ≡ true → (is_number qs a && is_number qs b) ≡ true
  numbers_kept a b h = let t = and_parts (is_number ps a) (is_number ps b) h in rw (number_kept a t.0, number_kept b t.1) refl

  pub refers_kept : (f : Form) → refers ps f ≡ true → refers qs f ≡ true
  refers_kept (Given m) h = refl
  refers_kept (Twist a x) h = number_kept a h
  refers_kept (Flip a) h = number_kept a h
  refers_kept (Beside a b) h = numbers_kept a b h
  refers_kept (Stack a b) h = numbers_kept a b h
  refers_kept (Times a b) h = numbers_kept a b h
  refers_kept (Pick a js) h =
      let t = and_parts (is_number ps a) (list_all (is_column (columns_of (part_at ps a))) js.items) h in
      rw (number_kept a t.0, part_kept a t.0) t.1

-- ---- faults

-- without a fault all three tests hold
pub record Passes (ps : List Part) (f : Form) : Type 0 where
  pub refers_back : refers ps f ≡ true
  pub fitting : fits (tree_of ps f) ≡ true
  pub shallow : is_shallow (tree_of ps f) ≡ true

no_fault : (x y z : Bool) → (if x then (if y then (if z then None else Some Depth) else Some Shape) else Some Reference) ≡ None → (x ≡ true) × (y ≡ true) × (z ≡ true)
no_fault true true true e = (refl, refl, refl)
no_fault true true false e = absurd (cc e)
no_fault true false z e = absurd (cc e)
no_fault false y z e = absurd (cc e)

pub passes : (ps : List Part) (f : Form) → fault_of ps f ≡ None → Passes ps f
passes ps f e =
    let h = no_fault (refers ps f) (fits (tree_of ps f)) (is_shallow (tree_of ps f)) e in
    record { refers_back = h.0; fitting = h.1; shallow = h.2 }

pub reference_fault : (ps : List Part) (f : Form) → refers ps f ≡ false → fault_of ps f ≡ Some Reference
reference_fault ps f e = rw e refl

pub shape_fault : (ps : List Part) (f : Form) → refers ps f ≡ true → fits (tree_of ps f) ≡ false → fault_of ps f ≡ Some Shape
shape_fault ps f e h = rw (e, h) refl

pub depth_fault : (ps : List Part) (f : Form) → refers ps f ≡ true → fits (tree_of ps f) ≡ true → is_shallow (tree_of ps f) ≡ false → fault_of ps f ≡ Some Depth
depth_fault ps f e h d = rw (e, h, d) refl

pub faultless : (ps : List Part) (f : Form) → refers ps f ≡ true → fits (tree_of ps f) ≡ true → is_shallow (tree_of ps f) ≡ true → fault_of ps f ≡ None
faultless ps f e h d = rw (e, h, d) refl

pub refused : (ps : List Part) (f : Form) (why : PartFault) → fault_of ps f ≡ Some why → Err why ≡ answer_to ps f
unfolding answer_to
refused ps f why e = rw e refl

pub refused_parts : (ps : List Part) (f : Form) (why : PartFault) → fault_of ps f ≡ Some why → ps ≡ parts_with ps f
unfolding parts_with
refused_parts ps f why e = rw e refl

pub taken : (ps : List Part) (f : Form) (k : ℕ) → fault_of ps f ≡ None → k ≡ suc (length ps) → Ok k ≡ answer_to ps f
unfolding answer_to
taken ps f k e h = rw (e, h) refl

pub taken_parts : (ps : List Part) (f : Form) → fault_of ps f ≡ None → ps ++ tree_of ps f ∷ [] ≡ parts_with ps f
unfolding parts_with
taken_parts ps f e = rw e refl
