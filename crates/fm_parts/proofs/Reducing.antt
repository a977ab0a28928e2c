-- A reduction that is replayed without a fault is one of the theory of Gröbner bases.
use Rattle.std.proofs.Common.{◌≡◌, ℕ, true, List, [], ◌∷◌, Ok, refl, sym, subst}
use Rattle.fm_poly.specs.declared.ring.Ring.{Ring}
use Rattle.fm_term.specs.declared.vterm.VTerm.{VTerm}
use Rattle.fm_term.specs.Falling.{AreFalling}
use Rattle.fm_groebner.specs.Logs.{no_more}
use Rattle.fm_groebner.proofs.Numbers.{contains_here, contains_there}
use Rattle.fm_vec.specs.Vectors.{IsVector}
use Rattle.fm_vec.specs.Multiples.{multiple_fits}
use Rattle.fm_complete.specs.Combinations.{AreVectors}
use Rattle.fm_complete.specs.Divisors.{term_divides, step_for}
use Rattle.fm_complete.specs.Reductions.{cancelled}
use Rattle.fm_complete.specs.Trails.{member_at}
use Rattle.fm_complete.proofs.Heads.{IsFound}
use Rattle.fm_complete.proofs.DivisionLaw.{left_over}
use Rattle.fm_complete.proofs.HeadReductions.{Red, one_step}
use Rattle.fm_words.specs.Steps.{◌>>=◌}
use Rattle.fm_words.proofs.FirstFaults.{no_fault, same_ok, first_read}
use Rattle.fm_parts.specs.Replays.{Reason, Exponents, needs, reduce_once, reduce_by}
use Rattle.fm_parts.proofs.Results.{needed}

module _ (r : Ring) (m : ℕ) where
  pub falling_vectors : (members : List (List VTerm)) → AreFalling r.prime r.vars m r.order members → AreVectors r m members
  falling_vectors [] all = tt
  falling_vectors (g ∷ gs) all = (all g (contains_here g gs), falling_vectors gs (λ ts c. all ts (contains_there g gs ts c)))

  module _ (why : Reason) (members : List (List VTerm)) (vectors : AreVectors r m members) where
    once : (k : ℕ) (by : List ℕ) (g v u w : List VTerm) → member_at members k ≡ g → IsVector r m v → reduce_once r why k g v ≡ Ok u
        → (IsVector r m u → Red r m members by u w × IsVector r m w) → Red r m members (k ∷ by) v w × IsVector r m w
    once k by [] v u w place vector e later = absurd (no_fault why u e)
    once k by (t ∷ ts) [] u w place vector e later = absurd (no_fault why u e)
    once k by (t ∷ ts) (s ∷ vs) u w place vector e later =
        let step = step_for r k t s in
        let a = needed (term_divides t s) why (λ _. needs (multiple_fits step.mono (t ∷ ts)) Exponents >>= λ _. Ok (cancelled r (step, t ∷ ts) (s ∷ vs))) u e in
        let b = needed (multiple_fits step.mono (t ∷ ts)) Exponents (λ _. Ok (cancelled r (step, t ∷ ts) (s ∷ vs))) u a.1 in
        let found : IsFound r members s step (t ∷ ts) = record { head = t; tail = ts; is = refl; divides = a.0; step = refl; place = place } in
        let rest = later (subst (IsVector r m) (same_ok b.1) (left_over r m members vectors s vs step (t ∷ ts) found vector).0) in
        (one_step r m members vectors s vs step (t ∷ ts) found vector b.0 by w (subst (λ x. Red r m members by x w) (sym (same_ok b.1)) rest.0), rest.1)

    -- what the numbers reduce v to
    pub reduced_by : (by : List ℕ) (v w : List VTerm) → IsVector r m v → reduce_by r why members by v ≡ Ok w → Red r m members by v w × IsVector r m w
    reduced_by [] v w vector e = (subst (λ x. Red r m members [] v x) (same_ok e) no_more, subst (IsVector r m) (same_ok e) vector)
    reduced_by (k ∷ by) v w vector e =
        let u = first_read (reduce_once r why k (member_at members k) v) (λ x. reduce_by r why members by x) w e in
        once k by (member_at members k) v u.0 w refl vector u.1 (λ x. reduced_by by u.0 w x u.2)
