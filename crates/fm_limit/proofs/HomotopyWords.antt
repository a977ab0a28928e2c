-- Homotopy in the words of contracts
use Rattle.std.proofs.Common.{ℕ, suc, ◌+◌, ◌∙◌, sym, ap, ap₂, subst, add-zero, List}
use Rattle.fm_gfp.specs.declared.prime.Prime.{Prime}
use Rattle.fm_algebra.specs.Families.{add, neg}
use Rattle.fm_algebra.specs.Polynomials.{Polynomial, polynomials}
use Rattle.fm_algebra.specs.PolynomialMatrices.{PolynomialMatrix}
use Rattle.fm_limit.specs.System as system
use Rattle.fm_limit.specs.DirectSystem.{IsCoboundary, move}
use Rattle.fm_limit.specs.Limit.{mapped}
use Rattle.fm_limit.specs.ResolvedIdeal.{ResolvedIdeal, IsResolutionOf, IsFrobeniusLiftOf, IsResolved, IsLiftOfIdentityOf}
use Rattle.fm_limit.specs.Classes.{matrices, complex_of, theta_of, lambda_of, degree_in, vector_in, moved_once, image_of, IsClass, IsCoboundaryAfter, AreCohomologous}
use Rattle.fm_limit.proofs.Moves.{coboundary_moves, killed_more}
use Rattle.fm_limit.proofs.Maps.{Maps, mapped_move, mapped_coboundary}
use Rattle.fm_limit.proofs.Homotopy.{lifts_differ, identities_differ, lift_maps}
use Rattle.fm_limit.proofs.FactsRead.{matrices_laws, resolution_read, frobenius_read, identity_read, moves_read}
use Rattle.fm_limit.proofs.StageWords.{moved_read}
use Rattle.fm_limit.proofs.IndependenceWords.{image_read}

module _ (p : Prime) (n : ℕ) where
  -- two Frobenius lifts
  pub lifts_words : (i : ℕ) (fs : List (Polynomial p n)) (ds ts us : List (PolynomialMatrix p n)) → IsResolutionOf p n fs i ds → IsFrobeniusLiftOf p n i ds ts → IsFrobeniusLiftOf p n i ds us
      → (e : ℕ) (z : List (Polynomial p n)) → IsClass p n i (record { generators = fs; differentials = ds; lift = ts }) e z
      → AreCohomologous p n i (record { generators = fs; differentials = ds; lift = ts }) (suc e) (moved_once p n i (record { generators = fs; differentials = ds; lift = ts }) e z) (moved_once p n i (record { generators = fs; differentials = ds; lift = us }) e z)
  unfolding AreCohomologous
  lifts_words i fs ds ts us r a b e z c =
      let I : ResolvedIdeal p n = record { generators = fs; differentials = ds; lift = ts } in
      let J : ResolvedIdeal p n = record { generators = fs; differentials = ds; lift = us } in
      let h = lifts_differ (matrices_laws p n) i (resolution_read p n r) (theta_of p n ds ts) (theta_of p n ds us) (frobenius_read p n r a) (frobenius_read p n r b) e (vector_in p n i I z) c.cocycle in
      let x = moved_read p n {i = i} {I = I} (record { resolution = r; frobenius = a }) e z in
      let y = moved_read p n {i = i} {I = J} (record { resolution = r; frobenius = b }) e z in
      subst (λ v. IsCoboundary (matrices p n) (degree_in p n i I) (suc e) v) (ap₂ (λ u v. add (polynomials p n) u (neg (polynomials p n) v)) (sym x) (sym y)) h

  module _ {i : ℕ} {I J : ResolvedIdeal p n} (r : IsResolved p n i I) (s : IsResolved p n i J) where
    -- two lifts of the identity
    pub identities_words : (ls ms : List (PolynomialMatrix p n)) → IsLiftOfIdentityOf p n i I.differentials J.differentials ls → IsLiftOfIdentityOf p n i I.differentials J.differentials ms
        → (e : ℕ) (z : List (Polynomial p n)) → IsClass p n i J e z → AreCohomologous p n i I e (image_of p n i ls e z) (image_of p n i ms e z)
    unfolding AreCohomologous
    identities_words ls ms k l e z c =
        let h = identities_differ (matrices_laws p n) i (complex_of p n I.differentials) (complex_of p n J.differentials) (resolution_read p n r.resolution) (resolution_read p n s.resolution) (lambda_of p n I.differentials J.differentials ls) (lambda_of p n I.differentials J.differentials ms) (identity_read p n r.resolution s.resolution k) (identity_read p n r.resolution s.resolution l) e (vector_in p n i J z) c.cocycle in
        subst (λ v. IsCoboundary (matrices p n) (degree_in p n i I) e v) (ap₂ (λ u v. add (polynomials p n) u (neg (polynomials p n) v)) (sym (image_read p n r s k e z)) (sym (image_read p n r s l e z))) h

    module _ {ls : List (PolynomialMatrix p n)} (k : IsLiftOfIdentityOf p n i I.differentials J.differentials ls) where
      pub maps : Maps (matrices p n) (degree_in p n i J) (degree_in p n i I) (lambda_of p n I.differentials J.differentials ls i)
      maps =
          lift_maps (matrices_laws p n) i (complex_of p n I.differentials) (complex_of p n J.differentials) (resolution_read p n r.resolution) (resolution_read p n s.resolution) (theta_of p n J.differentials J.lift) (theta_of p n I.differentials I.lift) (lambda_of p n I.differentials J.differentials ls) (frobenius_read p n s.resolution s.frobenius) (frobenius_read p n r.resolution r.frobenius) (identity_read p n r.resolution s.resolution k)

      -- moving and mapping
      pub move_map_words : (e : ℕ) (z : List (Polynomial p n)) → IsClass p n i J e z
          → AreCohomologous p n i I (suc e) (image_of p n i ls (suc e) (moved_once p n i J e z)) (moved_once p n i I e (image_of p n i ls e z))
      unfolding AreCohomologous
      move_map_words e z c =
          let h = mapped_move (matrices_laws p n) maps e (vector_in p n i J z) c.cocycle in
          let f = mapped (matrices p n) (degree_in p n i J) (degree_in p n i I) (lambda_of p n I.differentials J.differentials ls i) in
          let x = ap (f (suc e)) (sym (moved_read p n s e z)) ∙ sym (image_read p n r s k (suc e) (moved_once p n i J e z)) in
          let y = ap (move (matrices p n) (degree_in p n i I) e) (sym (image_read p n r s k e z)) ∙ sym (moved_read p n r e (image_of p n i ls e z)) in
          subst (λ v. IsCoboundary (matrices p n) (degree_in p n i I) (suc e) v) (ap₂ (λ u v. add (polynomials p n) u (neg (polynomials p n) v)) x y) h

      -- a coboundary is mapped to a coboundary
      pub mapped_coboundary_words : (e : ℕ) (z : List (Polynomial p n)) → IsCoboundaryAfter p n i J 0 e z → IsCoboundaryAfter p n i I 0 e (image_of p n i ls e z)
      unfolding IsCoboundaryAfter system.moved
      mapped_coboundary_words e z h =
          let h' : IsCoboundary (matrices p n) (degree_in p n i J) e (vector_in p n i J z) = subst (λ x. IsCoboundary (matrices p n) (degree_in p n i J) x (vector_in p n i J z)) (add-zero e) h in
          let m = mapped_coboundary (matrices_laws p n) maps e (vector_in p n i J z) h' in
          subst (λ x. IsCoboundary (matrices p n) (degree_in p n i I) x (vector_in p n i I (image_of p n i ls e z))) (sym (add-zero e)) (subst (λ v. IsCoboundary (matrices p n) (degree_in p n i I) e v) (sym (image_read p n r s k e z)) m)

  module _ {i : ℕ} {I : ResolvedIdeal p n} (r : IsResolved p n i I) where
    -- a coboundary is moved to a coboundary
    pub moved_coboundary_words : (e : ℕ) (z : List (Polynomial p n)) → IsCoboundaryAfter p n i I 0 e z → IsCoboundaryAfter p n i I 0 (suc e) (moved_once p n i I e z)
    unfolding IsCoboundaryAfter system.moved
    moved_coboundary_words e z h =
        let h' : IsCoboundary (matrices p n) (degree_in p n i I) e (vector_in p n i I z) = subst (λ x. IsCoboundary (matrices p n) (degree_in p n i I) x (vector_in p n i I z)) (add-zero e) h in
        let m = coboundary_moves (matrices_laws p n) (moves_read p n r) e (vector_in p n i I z) h' in
        subst (λ x. IsCoboundary (matrices p n) (degree_in p n i I) x (vector_in p n i I (moved_once p n i I e z))) (sym (add-zero (suc e))) (subst (λ v. IsCoboundary (matrices p n) (degree_in p n i I) (suc e) v) (sym (moved_read p n r e z)) m)

    -- what s moves kill, more moves kill
    pub killed_more_words : (s m e : ℕ) (z : List (Polynomial p n)) → IsCoboundaryAfter p n i I s e z → IsCoboundaryAfter p n i I (s + m) e z
    unfolding IsCoboundaryAfter
    killed_more_words s m e z h = killed_more (matrices_laws p n) (moves_read p n r) s m e (vector_in p n i I z) h
