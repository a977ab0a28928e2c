-- Lines that are collected from none on, and the certificate that is written of them.
use Rattle.std.proofs.Common.{◌≡◌, ℕ, List, [], ap, length, map, sym, ◌∙◌, subst}
use Rattle.std.proofs.lemmas.List.{length-map}
use Rattle.fm_cert.specs.Lines.{Line}
use Rattle.fm_certificates.specs.Certificates.{inside_claims}
use Rattle.fm_certify.specs.Claims.{HasClaims}
use Rattle.fm_poly.specs.declared.ring.Ring.{Ring}
use Rattle.fm_standard.specs.Writing as writing
use Rattle.fm_syz.specs.GraphValues.{GraphValue, graph_meaning}
use Rattle.fm_syz.specs.Insides.{inside_value}
use Rattle.fm_syz.specs.declared.inside.Inside.{Inside}
use Rattle.fm_words.specs.Parts.{Bytes}
use Rattle.fm_writer.specs.Claims.{AreClaimsOver, claim_values}
use Rattle.fm_writer.specs.Writers.{IsCertificate}
use Rattle.fm_writer.specs.declared.claim.Claim.{Claim}

module _ (n : ℕ) (cs : List writing.Claim) (old claims held : List Claim) (none : old ≡ []) (same : held ≡ claims) (has : HasClaims n old cs claims) where
  begun : HasClaims n [] cs held
  begun = subst (λ (xs : List Claim). HasClaims n xs cs held) none (subst (λ (xs : List Claim). HasClaims n old cs xs) (sym same) has)

  pub claims_over : (m : ℕ) → n ≡ m → AreClaimsOver m held
  claims_over m count = subst (λ (k : ℕ). AreClaimsOver k held) count (begun.over tt)

  pub certificate_of : (names vars : List Bytes) (text : Bytes) → names ≡ vars → IsCertificate names (claim_values held) text → IsCertificate vars cs text
  certificate_of names vars text named h =
      subst (λ (ms : List Bytes). IsCertificate ms cs text) named (subst (λ (xs : List writing.Claim). IsCertificate names xs text) begun.claims h)

-- as many names as there are variables
pub names_counted : {X : Type 0} (name : X → Bytes) (names : List X) (vars : List Bytes) (n : ℕ) → map name names ≡ vars → length vars ≡ n → n ≡ length names
names_counted name names vars n is count = sym count ∙ sym (ap length is) ∙ length-map names name

-- the line on columns, over another name of the ring
pub inside_over : (r : Ring) (g h : GraphValue) (x : Inside) (all : ℕ → Line) (some : (n c : ℕ) → List ℕ → Line) (old new : List Claim) → h ≡ g → g.matrix.ring ≡ r
    → HasClaims h.matrix.ring.vars old (inside_claims h.matrix.ring (graph_meaning h.matrix.ring h) (inside_value h.matrix.ring x) all some) new
    → HasClaims r.vars old (inside_claims r (graph_meaning r g) (inside_value r x) all some) new
inside_over r g h x all some old new same ring k =
    subst (λ (s : Ring). HasClaims s.vars old (inside_claims s (graph_meaning s g) (inside_value s x) all some) new) ring
    (subst (λ (v : GraphValue). HasClaims v.matrix.ring.vars old (inside_claims v.matrix.ring (graph_meaning v.matrix.ring v) (inside_value v.matrix.ring x) all some) new) same k)
