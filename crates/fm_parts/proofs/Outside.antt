-- A column that the condition finds outside is not in the image.
use Rattle.std.proofs.Common.{◌≡◌, ℕ, suc, ◌+◌, ◌-◌, ◌^◌, ◌<◌, ◌≤◌, Bool, true, false, ◌&&◌, ◌||◌, not, nat_eq, nat_le, List, [], ◌∷◌, ◌++◌, map, length, get_or, Contains, Ok, refl, sym, ap, ap₂, ◌∙◌, subst, arith}
use Rattle.std.specs.List.{list_all, list_any}
use Rattle.std.proofs.lemmas.Bool.{and_parts, and_from, eqb-true, eq-eqb, false≢true}
use Rattle.std.proofs.lemmas.Bool.Decides.{nat_tests}
use Rattle.std.proofs.lemmas.List.{length-append, length-replicate}
use Rattle.fm_gfp.specs.Primes.{prime_value}
use Rattle.fm_mono.specs.Bounded.{is_bounded}
use Rattle.fm_algebra.specs.Polynomials.{polynomial_zero}
use Rattle.fm_algebra.specs.PolynomialMatrices.{HasShape, InImage, matrix_twist}
use Rattle.fm_limit.proofs.MatrixWords.{shape_rows, shape_columns}
use Rattle.fm_words.specs.Steps.{◌>>=◌}
use Rattle.fm_words.proofs.FirstFaults.{first_read}
use Rattle.fm_poly.specs.declared.ring.Ring.{Ring}
use Rattle.fm_term.specs.declared.vterm.VTerm.{VTerm}
use Rattle.fm_term.specs.Places.{TermDivides}
use Rattle.fm_groebner.specs.Graphs.{graph_rows, zero_vector}
use Rattle.fm_groebner.specs.Syzygies.{IsOutside, IsBasisOfGraph}
use Rattle.fm_groebner.proofs.Setting.{In, here, there}
use Rattle.fm_groebner.proofs.Numbers.{in_of_contains}
use Rattle.fm_groebner.proofs.Shown.{outside_shown, falling_members}
use Rattle.fm_vec.specs.Multiples.{twist_fits}
use Rattle.fm_complete.specs.Divisors.{head_divides, tuple_divides}
use Rattle.fm_complete.proofs.Heads.{tuple_divides_if}
use Rattle.fm_graphs.specs.Graphs.{MatrixOf}
use Rattle.fm_graphs.specs.Listing.{VectorOf}
use Rattle.fm_graphs.proofs.Listing.{terms_vector, terms_mean}
use Rattle.fm_report.specs.Parts.{Part, part_value}
use Rattle.fm_parts.specs.Shapes.{rows_of, columns_of, fits, have_one_shape}
use Rattle.fm_parts.specs.Values.{value_of, same_matrix}
use Rattle.fm_parts.specs.Replays.{Exponents, Reduction, needs, reduce_by}
use Rattle.fm_parts.specs.Conditions.{Log, outside, is_outside, shapes_fit, evaluated, above_zeros, twisted_members, holds}
use Rattle.fm_parts.specs.Sound.{IsSoundLog}
use Rattle.fm_parts.proofs.Results.{needed, need_holds, there_is}
use Rattle.fm_parts.proofs.Shapes.{one_shape, part_shape}
use Rattle.fm_parts.proofs.SameValues.{value_is, matrices_equal}
use Rattle.fm_parts.proofs.Reducing.{falling_vectors, reduced_by}

none_divides : (members : List (List VTerm)) (s t : VTerm) (ts : List VTerm) → In members (t ∷ ts) → TermDivides t s → list_any (λ g. head_divides g s) members ≡ true
none_divides [] s t ts i d = elim i [ ]
none_divides (g ∷ gs) s t ts here d =
    ap (λ b. b || list_any (λ g. head_divides g s) gs) (and_from (nat_eq t.component s.component) (tuple_divides t.mono s.mono) (eq-eqb t.component s.component d.0) (tuple_divides_if t.mono s.mono d.1))
none_divides (g ∷ gs) s t ts (there i) d = go (head_divides g s) (none_divides gs s t ts i d)
  where
    go : (b : Bool) → list_any (λ g. head_divides g s) gs ≡ true → (b || list_any (λ g. head_divides g s) gs) ≡ true
    go true h = refl
    go false h = h

refused : (b : Bool) → not b ≡ true → b ≡ true → ⊥
refused true e h = false≢true e
refused false e h = false≢true h

at_most : (a b : ℕ) → nat_le a b ≡ true → a ≤ b
at_most a b e = grind (arith, nat_tests)

ends_outside : (m : ℕ) (members : List (List VTerm)) (rest : List VTerm) → is_outside m members rest ≡ true → IsOutside m members rest
ends_outside m members [] e = absurd (false≢true e)
ends_outside m members (s ∷ ss) e =
    let h = and_parts (nat_le s.component m) (not (list_any (λ g. head_divides g s) members)) e in
    (at_most s.component m h.0, λ t ts c d. refused (list_any (λ g. head_divides g s) members) h.1 (none_divides members s t ts (in_of_contains members (t ∷ ts) c) d))

module _ (r : Ring) where
  column_length : (m n : ℕ) (A : MatrixOf r) (j : ℕ) → HasShape r.prime r.vars m n A → j < n → length (get_or A.columns j []) ≡ m
  unfolding HasShape
  column_length m n A j s h = s.2 j h

  pub outside_held : (log : Log) → IsSoundLog r log → (e : ℕ) (A V : Part) (column : ℕ) (by : List ℕ) → shapes_fit (outside log e A V column by) ≡ true → 0 < column → column ≤ columns_of V
      → (u : Unit {0}) → holds r (outside log e A V column by) ≡ Ok u → ¬ (InImage r.prime r.vars (matrix_twist r.prime r.vars e (part_value r A)) (get_or (part_value r V).columns (column - 1) []))
  unfolding holds
  outside_held log sound e A V column by fit some few u held =
      let p = r.prime in
      let n = r.vars in
      let q = prime_value r.prime ^ e in
      let ms = twisted_members r e log.members in
      let reduced = λ (v : MatrixOf r). reduce_by r Reduction ms by (above_zeros r (get_or v.columns (column - 1) []) (columns_of A)) in
      let last = λ (rest : List VTerm). needs (is_outside (rows_of A) ms rest) Reduction in
      let third = λ (v : MatrixOf r). needs (list_all (twist_fits q) log.members) Exponents >>= λ _. reduced v >>= last in
      let a = there_is Exponents (value_of r log.part) (λ logged. evaluated r A >>= λ x. needs (same_matrix r logged x) Reduction >>= λ _. evaluated r V >>= third) u held in
      let b = there_is Exponents (value_of r A) (λ x. needs (same_matrix r a.0 x) Reduction >>= λ _. evaluated r V >>= third) u a.2 in
      let c = needed (same_matrix r a.0 b.0) Reduction (λ _. evaluated r V >>= third) u b.2 in
      let d = there_is Exponents (value_of r V) third u c.1 in
      let f = needed (list_all (twist_fits q) log.members) Exponents (λ _. reduced d.0 >>= last) u d.2 in
      let w = first_read (reduced d.0) last u f.1 in
      let fa = and_parts (fits A) (fits V && (have_one_shape log.part A && nat_eq (rows_of V) (rows_of A))) fit in
      let fv = and_parts (fits V) (have_one_shape log.part A && nat_eq (rows_of V) (rows_of A)) fa.1 in
      let fr = and_parts (have_one_shape log.part A) (nat_eq (rows_of V) (rows_of A)) fv.1 in
      let A' = part_value r A in
      let v = get_or (part_value r V).columns (column - 1) [] in
      let a_shape = part_shape r A fa.0 in
      let rows : A'.rows ≡ rows_of A = shape_rows p n (rows_of A) (columns_of A) A' a_shape in
      let columns : length A'.columns ≡ columns_of A = shape_columns p n (rows_of A) (columns_of A) A' a_shape in
      let long : length v ≡ A'.rows = column_length (rows_of V) (columns_of V) (part_value r V) (column - 1) (part_shape r V fv.0) (omega (arith, some, few)) ∙ eqb-true (rows_of V) (rows_of A) fr.1 ∙ sym rows in
      let t = above_zeros r v (length A'.columns) in
      let whole : length (v ++ zero_vector p n (length A'.columns)) ≡ graph_rows p n A' = length-append v (zero_vector p n (length A'.columns)) ∙ ap₂ ◌+◌ long (length-replicate (length A'.columns) (polynomial_zero p n)) in
      let falls = terms_vector r (graph_rows p n A') (v ++ zero_vector p n (length A'.columns)) whole in
      let basis : IsBasisOfGraph p n r.order A' log.members = subst (λ x. IsBasisOfGraph p n r.order x log.members) ((value_is r log.part a.0 a.1).1 ∙ matrices_equal r a.0 b.0 c.0 ∙ sym (value_is r A b.0 b.1).1) sound.basis in
      let vectors = falling_vectors r (graph_rows p n A') ms (falling_members p n (graph_rows p n A') r.order e log.members basis.falling) in
      let run : reduce_by r Reduction ms by t ≡ Ok w.0 = ap₂ (λ (y : MatrixOf r) k. reduce_by r Reduction ms by (above_zeros r (get_or y.columns (column - 1) []) k)) (value_is r V d.0 d.1).1 columns ∙ w.1 in
      outside_shown p n r.order is_bounded e A' log.members v by t w.0 (record {
        completed = basis;
        shape = long;
        falls = falls;
        is = terms_mean r (graph_rows p n A') (v ++ zero_vector p n (length A'.columns)) whole;
        reduces = (reduced_by r (graph_rows p n A') Reduction ms vectors by t w.0 falls run).0;
        outside = subst (λ k. IsOutside k ms w.0) (sym rows) (ends_outside (rows_of A) ms w.0 (need_holds (is_outside (rows_of A) ms w.0) Reduction u w.2));
      })
