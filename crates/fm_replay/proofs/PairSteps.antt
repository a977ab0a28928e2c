-- Pairs that are formed.
use Rattle.std.proofs.Common.{ℕ, zero, suc, ◌≡◌, nat_lt, ◌&&◌, not, Bool, true, false, List, [], ◌∷◌, Result, Ok, refl, sym, ap, ◌∙◌, subst}
use Rattle.std.proofs.lemmas.Bool.{and_parts, and_from, eqb-true, false≢true}
use Rattle.fm_words.specs.Steps.{◌>>=◌}
use Rattle.fm_poly.specs.declared.ring.Ring.{Ring}
use Rattle.fm_term.specs.declared.vterm.VTerm.{VTerm}
use Rattle.fm_term.specs.Falling.{IsMonic}
use Rattle.fm_vec.specs.Vectors.{VectorValue, HaveSVector}
use Rattle.fm_vec.specs.Multiples.{s_vector_of, s_vector_fits}
use Rattle.fm_complete.specs.Divisions.{terms_of}
use Rattle.fm_complete.specs.Standing.{AreMonicMembers}
use Rattle.fm_complete.specs.Trails.{member_at}
use Rattle.fm_parts.specs.Replays.{Reason, Reference, BadEntry, Exponents, Replay, needs, is_number, are_numbers, reduce_by, in_one_component, is_treated, is_open_pair, with_rest, with_pair, take_pair}

-- ---- their heads
monic_at : (gs : List (List VTerm)) (k : ℕ) (u : VTerm) (us : List VTerm) → AreMonicMembers gs → u ∷ us ≡ member_at gs k → u.coeff ≡ 1
monic_at gs zero u us h e = cc
monic_at [] (suc k) u us h e = cc
monic_at (g ∷ gs) (suc zero) u us h e = subst IsMonic (sym e) h.0
monic_at (g ∷ gs) (suc (suc k)) u us h e = monic_at gs (suc k) u us h.1 e

heads : (gs : List (List VTerm)) (a b : ℕ) (f g : List VTerm) → AreMonicMembers gs → f ≡ member_at gs a → g ≡ member_at gs b → in_one_component f g ≡ true → HaveSVector f g
heads gs a b [] g h f_is g_is e = absurd (false≢true e)
heads gs a b (t ∷ ts) [] h f_is g_is e = absurd (false≢true e)
heads gs a b (t ∷ ts) (u ∷ us) h f_is g_is e = (monic_at gs a t ts h f_is, monic_at gs b u us h g_is, eqb-true t.component u.component e)

pub open_heads : (gs : List (List VTerm)) (a b : ℕ) (f g : List VTerm) (x : Bool) → AreMonicMembers gs → f ≡ member_at gs a → g ≡ member_at gs b
    → true ≡ (nat_lt a b && (in_one_component f g && x)) → HaveSVector f g
open_heads gs a b f g x h f_is g_is e =
    heads gs a b f g h f_is g_is (and_parts (in_one_component f g) x (and_parts (nat_lt a b) (in_one_component f g && x) (sym e)).1).0

-- ---- the step
passes : (b : Bool) (why : Reason) (rest : Result Replay Reason) → b ≡ true → (needs b why >>= λ _. rest) ≡ rest
passes b why rest e = ap (λ x. needs x why >>= λ _. rest) e

module _ (r : Ring) (inputs : List (List VTerm)) (vs : List VectorValue) (treated : List (ℕ × ℕ)) (s : Replay) (same : terms_of vs ≡ s.members)
    (treats : (a b : ℕ) → is_treated treated a b ≡ is_treated s.treated a b) (a b : ℕ) (by : List ℕ) (keep : Bool) (f g w : List VTerm)
    (f_is : f ≡ member_at (terms_of vs) a) (g_is : g ≡ member_at (terms_of vs) b) where
  pub formed : is_number (terms_of vs) a ≡ true → is_number (terms_of vs) b ≡ true → true ≡ are_numbers (terms_of vs) by
      → true ≡ (nat_lt a b && (in_one_component f g && not (is_treated treated a b))) → s_vector_fits f g ≡ true
      → reduce_by r BadEntry (terms_of vs) by (s_vector_of r f g) ≡ Ok w
      → take_pair r inputs s a b by keep ≡ with_rest r keep w (with_pair s a b)
  formed a_there b_there by_there is_open fits reduces =
      let fs : f ≡ member_at s.members a = f_is ∙ ap (λ ms. member_at ms a) same in
      let gs : g ≡ member_at s.members b = g_is ∙ ap (λ ms. member_at ms b) same in
      let v = s_vector_of r (member_at s.members a) (member_at s.members b) in
      let last : Result Replay Reason = reduce_by r BadEntry s.members by v >>= λ x. with_rest r keep x (with_pair s a b) in
      let third : Result Replay Reason = needs (s_vector_fits (member_at s.members a) (member_at s.members b)) Exponents >>= λ _. last in
      let second : Result Replay Reason = needs (is_open_pair s a b) BadEntry >>= λ _. third in
      let numbers : are_numbers (terms_of vs) (a ∷ b ∷ by) ≡ true =
      and_from (is_number (terms_of vs) a) (are_numbers (terms_of vs) (b ∷ by)) a_there (and_from (is_number (terms_of vs) b) (are_numbers (terms_of vs) by) b_there (sym by_there)) in
      passes (are_numbers s.members (a ∷ b ∷ by)) Reference second (sym (ap (λ ms. are_numbers ms (a ∷ b ∷ by)) same) ∙ numbers)
      ∙ passes (is_open_pair s a b) BadEntry third (sym (λ i. nat_lt a b && (in_one_component (fs i) (gs i) && not (treats a b i))) ∙ sym is_open)
      ∙ passes (s_vector_fits (member_at s.members a) (member_at s.members b)) Exponents last (sym (λ i. s_vector_fits (fs i) (gs i)) ∙ fits)
      ∙ ap (λ (x : Result (List VTerm) Reason). x >>= λ y. with_rest r keep y (with_pair s a b)) (sym (λ i. reduce_by r BadEntry (same i) by (s_vector_of r (fs i) (gs i))) ∙ reduces)
