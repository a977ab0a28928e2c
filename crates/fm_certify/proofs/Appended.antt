-- Lines of certificates that are appended one after another.
use Rattle.std.proofs.Common.{ℕ, ◌≡◌, List, [], ◌∷◌, ◌++◌, sym, ap, ◌∙◌, subst, append-nil, append_assoc}
use Rattle.std.proofs.lemmas.List.{map-append}
use Rattle.fm_certify.specs.Claims.{HasClaims}
use Rattle.fm_standard.specs.Writing as writing
use Rattle.fm_writer.specs.Claims.{AreClaimsOver, IsClaimOver, claim_value, claim_values}
use Rattle.fm_writer.specs.declared.claim.Claim.{Claim}

pub none_appended : (n : ℕ) (xs : List Claim) → HasClaims n xs [] xs
none_appended n xs = record { claims = sym (append-nil (claim_values xs)); over = λ h. h }

pub claims_then : (n : ℕ) (a b c : List Claim) (xs ys : List writing.Claim) → HasClaims n a xs b → HasClaims n b ys c → HasClaims n a (xs ++ ys) c
claims_then n a b c xs ys s t = record {
  claims = t.claims ∙ ap (λ (zs : List writing.Claim). zs ++ ys) s.claims ∙ append_assoc (claim_values a) xs ys;
  over = λ h. t.over (s.over h);
}

pub claims_are : (n : ℕ) (a b : List Claim) (xs ys : List writing.Claim) → xs ≡ ys → HasClaims n a xs b → HasClaims n a ys b
claims_are n a b xs ys e s = subst (λ (zs : List writing.Claim). HasClaims n a zs b) e s

over_more : (n : ℕ) (old : List Claim) (c : Claim) → IsClaimOver n c → AreClaimsOver n old → AreClaimsOver n (old ++ c ∷ [])
over_more n [] c one all = (one, tt)
over_more n (x ∷ old) c one all = (all.0, over_more n old c one all.1)

pub claim_appended : (n : ℕ) (old new : List Claim) (c : Claim) (x : writing.Claim) → new ≡ old ++ c ∷ [] → IsClaimOver n c → claim_value c ≡ x → HasClaims n old (x ∷ []) new
claim_appended n old new c x e one is = record {
  claims = ap claim_values e ∙ map-append claim_value old (c ∷ []) ∙ ap (λ (y : writing.Claim). claim_values old ++ y ∷ []) is;
  over = λ h. subst (AreClaimsOver n) (sym e) (over_more n old c one h);
}
