-- Heads of members that form a pair.
use Rattle.std.proofs.Common.{ℕ, ◌≡◌, ◌&&◌, nat_eq, Bool, List, [], ◌∷◌, length, Some, refl, sym, ap, ap₂, ◌∙◌, subst, eq-eqb, IsTrue, ◌↔◌}
use Rattle.std.specs.Cmp.{both_ways}
use Rattle.fm_tuple.specs.Tuple.{TupleDivides, tuple_maximum}
use Rattle.fm_poly.specs.declared.ring.Ring.{Ring}
use Rattle.fm_term.specs.declared.vterm.VTerm.{VTerm}
use Rattle.fm_term.specs.Falling.{head_of}
use Rattle.fm_vec.specs.Vectors.{IsVector}
use Rattle.fm_vec.proofs.Proper.{length_maximum}
use Rattle.fm_complete.specs.Divisors.{tuple_divides}
use Rattle.fm_complete.proofs.Heads.{has_tail, tuple_divides_means, tuple_divides_if}
use Rattle.fm_parts.specs.Replays.{divides_lcm}

pub head_vars : (r q : Ring) (rows : ℕ) (ts : List VTerm) (t : VTerm) → q ≡ r → IsVector q rows ts → Some t ≡ head_of ts → length t.mono ≡ r.vars
head_vars r q rows [] t same v e = cc
head_vars r q rows (x ∷ xs) t same v e = let is : t ≡ x = cc in ap (λ (y : VTerm). length y.mono) is ∙ v.proper.0.fits ∙ ap (λ (y : Ring). y.vars) same

pub maximum_vars : (t u : VTerm) (n : ℕ) → length t.mono ≡ n → length u.mono ≡ n → length (tuple_maximum t.mono u.mono) ≡ n
maximum_vars t u n a b = length_maximum t.mono u.mono (a ∙ sym b) ∙ a

lcm_test : (s t u : VTerm) (x : Bool) → s.component ≡ t.component → IsTrue x ↔ TupleDivides s.mono (tuple_maximum t.mono u.mono)
    → x ≡ (nat_eq s.component t.component && tuple_divides s.mono (tuple_maximum t.mono u.mono))
lcm_test s t u x e h =
    let m = tuple_maximum t.mono u.mono in
    both_ways x (tuple_divides s.mono m) (λ k. tuple_divides_if s.mono m (h.0 k)) (λ k. h.1 (tuple_divides_means s.mono m k))
    ∙ ap (λ c. c && tuple_divides s.mono m) (sym (eq-eqb s.component t.component e))

pub lcm_is : (h f g : List VTerm) (s t u : VTerm) → Some s ≡ head_of h → Some t ≡ head_of f → Some u ≡ head_of g → (x : Bool) (m : List ℕ) → m ≡ tuple_maximum t.mono u.mono
    → s.component ≡ t.component → IsTrue x ↔ TupleDivides s.mono m → x ≡ divides_lcm h f g
lcm_is h f g s t u h_is f_is g_is x m m_is e test =
    let a = has_tail h s h_is in
    let b = has_tail f t f_is in
    let d = has_tail g u g_is in
    lcm_test s t u x e (subst (λ y. IsTrue x ↔ TupleDivides s.mono y) m_is test)
    ∙ λ i. divides_lcm (sym a.1 i) (sym b.1 i) (sym d.1 i)
