-- Conditions on equal values and on lists, step by step.
use Rattle.std.proofs.Common.{◌≡◌, ℕ, List, Result, Ok, Err, false, ap, ◌∙◌, subst}
use Rattle.fm_words.specs.Steps.{◌>>=◌}
use Rattle.fm_poly.specs.Polys.{PolyValue}
use Rattle.fm_poly.specs.declared.ring.Ring.{Ring}
use Rattle.fm_mat.specs.Matrices.{MatrixValue, column_meaning, matrix_meaning}
use Rattle.fm_graphs.specs.Graphs.{MatrixOf}
use Rattle.fm_graphs.specs.Listing.{VectorOf}
use Rattle.fm_report.specs.Parts.{Part, meant}
use Rattle.fm_judge.specs.Claims.{factored_part}
use Rattle.fm_parts.specs.Values.{is_within_bound, same_matrix, same_vector}
use Rattle.fm_parts.specs.Replays.{Reason, Exponents, Value, needs}
use Rattle.fm_parts.specs.Conditions.{evaluated, nonzero_entries, equal, lists, holds}
use Rattle.fm_parts.proofs.SameValues.{matrix_itself}
use Rattle.fm_pres.specs.Kept.{IsValue}
use Rattle.fm_conditions.specs.declared.why.Refused.{Refused}
use Rattle.fm_conditions.specs.declared.why.Refused.TheVariants.{Bad}
use Rattle.fm_conditions.specs.declared.why.Why.TheVariants as whys
use Rattle.fm_conditions.specs.Reasons.{Judges}
use Rattle.fm_conditions.proofs.Judgements.{value_view, end_view, refused_first, judged_next, evaluated_is, evaluated_not, need_met}

module _ (r : Ring) where
  module _ (A B : Part) where
    abbrev second_step : MatrixOf r → Result (Unit {0}) Reason
    second_step a = evaluated r B >>= λ b. needs (same_matrix r a b) Value

    pub equal_first : (why : Refused) → Judges (value_view r) (Err why) (evaluated r A) → Judges end_view (Err why) (holds r (equal A B))
    unfolding holds
    equal_first why h = refused_first (value_view r) end_view why (evaluated r A) second_step h

    pub equal_second : (a : MatrixValue) (why : Refused) → IsValue r A a → Judges (value_view r) (Err why) (evaluated r B) → Judges end_view (Err why) (holds r (equal A B))
    unfolding holds
    equal_second a why v h =
        judged_next end_view (Err why) (evaluated r A) (matrix_meaning r a) second_step (evaluated_is r A a v)
        (refused_first (value_view r) end_view why (evaluated r B) (λ b. needs (same_matrix r (matrix_meaning r a) b) Value) h)

    pub equal_last : (a b : MatrixValue) (x : Result (Unit {0}) Refused) → IsValue r A a → IsValue r B b → Judges end_view x (needs (same_matrix r (matrix_meaning r a) (matrix_meaning r b)) Value)
        → Judges end_view x (holds r (equal A B))
    unfolding holds
    equal_last a b x v w h =
        judged_next end_view x (evaluated r A) (matrix_meaning r a) second_step (evaluated_is r A a v)
        (judged_next end_view x (evaluated r B) (matrix_meaning r b) (λ b. needs (same_matrix r (matrix_meaning r a) b) Value) (evaluated_is r B b w) h)

  module _ (fs : List PolyValue) (P : Part) where
    abbrev listed_step : MatrixOf r → Result (Unit {0}) Reason
    listed_step A = needs (same_vector r (meant r fs) (nonzero_entries r A)) Value

    pub listed_first : (why : Refused) → Judges (value_view r) (Err why) (evaluated r P) → Judges end_view (Err why) (holds r (lists fs P))
    unfolding holds
    listed_first why h = refused_first (value_view r) end_view why (evaluated r P) listed_step h

    pub listed_last : (m : MatrixValue) (row : List PolyValue) (x : Result (Unit {0}) Refused) → IsValue r P m → column_meaning r row ≡ nonzero_entries r (matrix_meaning r m)
        → Judges end_view x (needs (same_vector r (column_meaning r fs) (column_meaning r row)) Value) → Judges end_view x (holds r (lists fs P))
    unfolding holds
    listed_last m row x v e h =
        judged_next end_view x (evaluated r P) (matrix_meaning r m) listed_step (evaluated_is r P m v)
        (subst (λ (w : VectorOf r). Judges end_view x (needs (same_vector r (column_meaning r fs) w) Value)) e h)

    -- where the value and the row are read again
    pub listed_row : (m a b : MatrixValue) (q : Ring) (row held : List PolyValue) (x : Result (Unit {0}) Refused) → IsValue r P m → a ≡ m → b ≡ m → q ≡ b.ring → held ≡ row
        → column_meaning a.ring row ≡ nonzero_entries a.ring (matrix_meaning a.ring a) → Judges end_view x (needs (same_vector q (column_meaning q fs) (column_meaning q held)) Value)
        → Judges end_view x (holds r (lists fs P))
    listed_row m a b q row held x v ea eb eq eh e h =
        let at_a : a.ring ≡ r = ap (λ (y : MatrixValue). y.ring) ea ∙ v.ring in
        let at_q : q ≡ r = eq ∙ ap (λ (y : MatrixValue). y.ring) eb ∙ v.ring in
        listed_last m held x v
        (ap (column_meaning r) eh ∙ subst (λ (s : Ring). column_meaning s row ≡ nonzero_entries s (matrix_meaning s a)) at_a e ∙ ap (λ (y : MatrixValue). nonzero_entries r (matrix_meaning r y)) ea)
        (subst (λ (s : Ring). Judges end_view x (needs (same_vector s (column_meaning s fs) (column_meaning s held)) Value)) at_q h)

-- a power in factors, which only has to be formed
pub power_formed : (r s : Ring) (f : PolyValue) (k : ℕ) (m : MatrixValue) → s ≡ r → IsValue s (factored_part s f k) m
    → holds r (equal (factored_part r f k) (factored_part r f k)) ≡ Ok (tt {0})
power_formed r s f k m e v =
    let F = factored_part r f k in
    let w = subst (λ (t : Ring). IsValue t (factored_part t f k) m) e v in
    equal_last r F F m m (Ok (tt {0})) w w (need_met (same_matrix r (matrix_meaning r m) (matrix_meaning r m)) Value (matrix_itself r (matrix_meaning r m)))

pub power_passes : (r s : Ring) (f : PolyValue) (k : ℕ) → s ≡ r → is_within_bound s (factored_part s f k) ≡ false
    → holds r (equal (factored_part r f k) (factored_part r f k)) ≡ Err Exponents
power_passes r s f k e w =
    let F = factored_part r f k in
    equal_first r F F (Bad whys.Exponents) (evaluated_not r F (subst (λ (t : Ring). is_within_bound t (factored_part t f k) ≡ false) e w))
