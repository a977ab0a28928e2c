-- A list of conditions that is judged well: each says what is true.
use Rattle.std.proofs.Common.{◌≡◌, ◌&&◌, true, List, [], ◌∷◌, nat_eq, Ok, sym, ◌∙◌}
use Rattle.std.specs.List.{list_all}
use Rattle.std.proofs.lemmas.Bool.{and_parts, eqb-true}
use Rattle.fm_words.specs.Steps.{◌>>=◌}
use Rattle.fm_words.proofs.FirstFaults.{no_fault, first_read}
use Rattle.fm_poly.specs.declared.ring.Ring.{Ring}
use Rattle.fm_report.specs.Parts.{beside, stack, times, meant}
use Rattle.fm_parts.specs.Shapes.{rows_of, columns_of, fits, have_one_shape}
use Rattle.fm_parts.specs.Values.{value_of, same_vector}
use Rattle.fm_parts.specs.Replays.{Exponents, Shape, Value, needs}
use Rattle.fm_parts.specs.Conditions.{Condition, equal, follows, kernel, preimage, outside, lists, agrees, never, nonzero_entries, shapes_fit, holds, all_hold, judged}
use Rattle.fm_parts.specs.Meanings.{Says, AllSay, HasSoundLog, HaveSoundLogs}
use Rattle.fm_parts.proofs.Results.{needed, need_holds, there_is}
use Rattle.fm_parts.proofs.Shapes.{one_shape}
use Rattle.fm_parts.proofs.SameValues.{value_is, vectors_equal}
use Rattle.fm_parts.proofs.Held.{equal_held, kernel_held, preimage_held, front_held}
use Rattle.fm_parts.proofs.Outside.{outside_held}

module _ (r : Ring) where
  pub says : (c : Condition) → HasSoundLog r c → shapes_fit c ≡ true → (u : Unit {0}) → holds r c ≡ Ok u → Says r c
  unfolding holds
  says (equal A B) s f u e =
      let a = and_parts (fits A) (fits B && have_one_shape A B) f in
      let b = and_parts (fits B) (have_one_shape A B) a.1 in
      let o = one_shape A B b.1 in
      (a.0, b.0, o.0, o.1, equal_held r A B u e)
  says (follows A B) s f u e = eqb-true (rows_of B) (columns_of A) f
  says (kernel log A C X W) s f u e = (front_held log A (columns_of A) C X W f, kernel_held r log s A C X W f u e)
  says (preimage log A B C X W) s f u e = (front_held log (beside A B) (columns_of A) C X W f, preimage_held r log s A B C X W f u e)
  says (outside log e A V column by) s f u h = λ some few. outside_held r log s e A V column by f some few u h
  says (lists fs P) s f u e =
      let a = there_is Exponents (value_of r P) (λ A. needs (same_vector r (meant r fs) (nonzero_entries r A)) Value) u e in
      vectors_equal r (meant r fs) (nonzero_entries r a.0) (need_holds (same_vector r (meant r fs) (nonzero_entries r a.0)) Value u a.2)
      ∙ Rattle.std.proofs.Common.ap (nonzero_entries r) (sym (value_is r P a.0 a.1).1)
  says (agrees k n) s f u e = eqb-true k n (need_holds (nat_eq k n) Value u e)
  says never s f u e = no_fault Value u e

  all_say : (cs : List Condition) → HaveSoundLogs r cs → list_all shapes_fit cs ≡ true → (u : Unit {0}) → all_hold r cs ≡ Ok u → AllSay r cs
  all_say [] s f u e = tt
  all_say (c ∷ cs) s f u e =
      let x = and_parts (shapes_fit c) (list_all shapes_fit cs) f in
      let y = first_read (holds r c) (λ _. all_hold r cs) u e in
      (says c s.0 x.0 y.0 y.1, all_say cs s.1 x.1 u y.2)

  pub judged_say : (cs : List Condition) → HaveSoundLogs r cs → (u : Unit {0}) → judged r cs ≡ Ok u → AllSay r cs
  unfolding judged
  judged_say cs s u e = let x = needed (list_all shapes_fit cs) Shape (λ _. all_hold r cs) u e in all_say cs s x.0 u x.1
