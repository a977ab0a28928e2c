-- Lines whose numbers are small can be written.
use Rattle.std.proofs.Common.{◌≡◌, Bool, true, false, ◌&&◌, List, [], ◌∷◌, ◌++◌}
use Rattle.std.proofs.lemmas.Bool.{and_parts}
use Rattle.fm_poly.specs.declared.ring.Ring.{Ring}
use Rattle.fm_cert.specs.Fields.{Field, number, times, name, yes_no, yes_with, keep_or_zero, by_numbers, numbers, free_words, generators, columns, Value, Item, word, field, Values}
use Rattle.fm_cert.specs.Lines.{Line}
use Rattle.fm_cert.specs.Writable.{IsWritableValue, AreWritableValues}
use Rattle.fm_standard.specs.Small.{IsSmallValue, AreSmallValues, IsSmallLine, AreSmallLines}

pub small_append : (ls ms : List Line) → AreSmallLines (ls ++ ms) → AreSmallLines ls × AreSmallLines ms
unfolding AreSmallLines
small_append [] ms s = (tt, s)
small_append (l ∷ ls) ms s = let rest = small_append ls ms s.1 in ((s.0, rest.0), rest.1)

pub small_line : (l : Line) (ls : List Line) → AreSmallLines (l ∷ ls) → IsSmallLine l × AreSmallLines ls
unfolding AreSmallLines
small_line l ls s = s

-- a field that holds numbers alone, or one of two words
abbrev pub is_counted : Field → Bool
is_counted number = true
is_counted times = true
is_counted yes_no = true
is_counted keep_or_zero = true
is_counted by_numbers = true
is_counted numbers = true
is_counted f = false

abbrev pub are_counted : List Item → Bool
are_counted [] = true
are_counted (word w ∷ items) = are_counted items
are_counted (field f ∷ items) = is_counted f && are_counted items

not_true : {A : Type 0} → false ≡ true → A
not_true e = absurd (cc)

module _ (r : Ring) where
  small_value : (f : Field) (v : Value f) → is_counted f ≡ true → IsSmallValue f v → IsWritableValue r f v
  small_value number v e s = s
  small_value times v e s = s
  small_value yes_no v e s = tt
  small_value keep_or_zero v e s = tt
  small_value by_numbers v e s = s
  small_value numbers v e s = s
  small_value name v e s = not_true e
  small_value (yes_with w) v e s = not_true e
  small_value free_words v e s = not_true e
  small_value generators v e s = not_true e
  small_value columns v e s = not_true e

  pub small_values : (items : List Item) (vs : Values items) → are_counted items ≡ true → AreSmallValues items vs → AreWritableValues r items vs
  small_values [] vs e s = tt
  small_values (word w ∷ items) vs e s = small_values items vs e s
  small_values (field f ∷ items) vs e s = (small_value f vs.0 (and_parts _ _ e).0 s.0, small_values items vs.1 (and_parts _ _ e).1 s.1)
