-- The lines on powers of a polynomial.
use Rattle.std.proofs.Common.{ℕ, ◌≡◌, List, [], ◌∷◌, ◌++◌, length, Option, Some, None, Result, Ok, Err, OnOk, option_map, refl, sym, ap, ◌∙◌, subst}
use Rattle.fm_algebra.specs.Polynomials.{Polynomial}
use Rattle.fm_algebra.specs.PolynomialMatrices.{matrix_scalar}
use Rattle.fm_cert.specs.Kinds as kinds
use Rattle.fm_cert.specs.Lines.{Row}
use Rattle.fm_certificates.specs.Certificates.{colon_claims, graphs_found, last_but_one, least_claims, matrix_part, outside_claim}
use Rattle.fm_certify.specs.Claims.{HasClaims}
use Rattle.fm_certify.proofs.Appended.{claims_then}
use Rattle.fm_certify.proofs.JoinedLines.{named_over, outside_over}
use Rattle.fm_graphs.specs.Graphs as runs
use Rattle.fm_mat.specs.Matrices.{MatrixValue, matrix_meaning}
use Rattle.fm_mat.proofs.Steps.{map_length}
use Rattle.fm_poly.specs.declared.ring.Ring.{Ring}
use Rattle.fm_standard.specs.Writing as writing
use Rattle.fm_support.specs.Inverting.{preimages_meaning}
use Rattle.fm_syz.specs.GeneratorValues.{PreimageValue, preimage_meaning}
use Rattle.fm_syz.specs.GraphValues.{GraphValue, graph_meaning}
use Rattle.fm_writer.specs.Kinds.{excluding_line, named_line}
use Rattle.fm_writer.specs.declared.claim.Claim.{Claim}
use Rattle.fm_writer.specs.declared.kinds.Excluding.TheVariants as excluding
use Rattle.fm_writer.specs.declared.kinds.Named.TheVariants as named

-- what follows from what a call ensures where it succeeds
pub ok_then : {A E : Type 0} (x : Result A E) (P Q : Type 0) → (P → Q) → OnOk x P → OnOk x Q
ok_then (Ok y) P Q f h = f h
ok_then (Err e) P Q f h = tt

abbrev pub power_claims : (q : Ring) → GraphValue → MatrixValue → Option runs.Outside → List writing.Claim
power_claims q g w o = writing.part_claim (matrix_part q (matrix_meaning q w)) (λ p. Row kinds.Power (p, tt)) ∷ least_claims q (graph_meaning q g) o

abbrev pub never_claims : (q : Ring) → Polynomial q.prime q.vars → GraphValue → List PreimageValue → MatrixValue → runs.Outside → List writing.Claim
never_claims q f g xs w o =
    colon_claims q f 1 (matrix_meaning q g.matrix) (preimages_meaning q xs)
    ++ writing.part_claim (matrix_part q (matrix_meaning q w)) (λ p. Row kinds.Settles (length (preimages_meaning q xs), (p, tt)))
    ∷ outside_claim q (last_but_one q (graph_meaning q g) (graphs_found q (preimages_meaning q xs))) o (λ n c by. Row kinds.Proper (n, (c, (by, tt)))) ∷ []

pub power_lines : (q : Ring) (g : GraphValue) (w : MatrixValue) (o p : Option runs.Outside) (a b c : List Claim) → w.ring ≡ q → o ≡ p
    → HasClaims w.ring.vars a (writing.part_claim (matrix_part w.ring (matrix_meaning w.ring w)) (named_line (named.Power)) ∷ []) b
    → HasClaims q.vars b (least_claims q (graph_meaning q g) o) c
    → HasClaims q.vars a (power_claims q g w p) c
power_lines q g w o p a b c e out line least =
    claims_then q.vars a b c (writing.part_claim (matrix_part q (matrix_meaning q w)) (λ p. Row kinds.Power (p, tt)) ∷ []) (least_claims q (graph_meaning q g) p)
    (named_over q w (named_line (named.Power)) a b e line)
    (subst (λ (x : Option runs.Outside). HasClaims q.vars b (least_claims q (graph_meaning q g) x) c) out least)

pub never_lines : (q : Ring) (f : Polynomial q.prime q.vars) (g h : GraphValue) (xs : List PreimageValue) (w : MatrixValue) (o : runs.Outside) (count : ℕ) (a b c d : List Claim)
    → w.ring ≡ q → h.matrix.ring ≡ q → graph_meaning q h ≡ last_but_one q (graph_meaning q g) (graphs_found q (preimages_meaning q xs)) → count ≡ length xs
    → HasClaims q.vars a (colon_claims q f 1 (matrix_meaning q g.matrix) (preimages_meaning q xs)) b
    → HasClaims w.ring.vars b (writing.part_claim (matrix_part w.ring (matrix_meaning w.ring w)) (named_line (named.Settles count)) ∷ []) c
    → HasClaims h.matrix.ring.vars c (outside_claim h.matrix.ring (graph_meaning h.matrix.ring h) o (excluding_line (excluding.Proper)) ∷ []) d
    → HasClaims q.vars a (never_claims q f g xs w o) d
never_lines q f g h xs w o count a b c d w_is h_is last many colons line out =
    let settles = writing.part_claim (matrix_part q (matrix_meaning q w)) (λ p. Row kinds.Settles (length (preimages_meaning q xs), (p, tt))) in
    let proper = outside_claim q (last_but_one q (graph_meaning q g) (graphs_found q (preimages_meaning q xs))) o (λ n c by. Row kinds.Proper (n, (c, (by, tt)))) in
    claims_then q.vars a b d (colon_claims q f 1 (matrix_meaning q g.matrix) (preimages_meaning q xs)) (settles ∷ proper ∷ []) colons
    (claims_then q.vars b c d (settles ∷ []) (proper ∷ [])
    (subst (λ (k : ℕ). HasClaims q.vars b (writing.part_claim (matrix_part q (matrix_meaning q w)) (λ p. Row kinds.Settles (k, (p, tt))) ∷ []) c)
    (many ∙ sym (map_length (preimage_meaning q) xs)) (named_over q w (named_line (named.Settles count)) b c w_is line))
    (subst (λ (x : runs.Graph q). HasClaims q.vars c (outside_claim q x o (λ n c by. Row kinds.Proper (n, (c, (by, tt)))) ∷ []) d) last
    (outside_over q h o (excluding_line (excluding.Proper)) c d h_is out)))

-- the same for each polynomial whose multiple of the unit matrix is this one
abbrev pub NeverOver : {A E : Type 0} → Result A E → MatrixValue → (a d : List Claim) → MatrixValue → runs.Outside → GraphValue → Ring → List PreimageValue → Type 0
NeverOver x scalar a d w o g q xs = (f : Polynomial q.prime q.vars) → matrix_meaning q scalar ≡ matrix_scalar q.prime q.vars f g.matrix.rows
    → OnOk x (HasClaims q.vars a (never_claims q f g xs w o) d)

pub never_moved : {A E : Type 0} (x : Result A E) (scalar : MatrixValue) (a d : List Claim) (w : MatrixValue) (o : runs.Outside) (g k : GraphValue) (r : Ring)
    (xs ys : List PreimageValue) → g ≡ k → k.matrix.ring ≡ r → xs ≡ ys → NeverOver x scalar a d w o g g.matrix.ring xs → NeverOver x scalar a d w o k r ys
never_moved x scalar a d w o g k r xs ys same ring links h =
    subst (λ (q : Ring). NeverOver x scalar a d w o k q ys) ring
    (subst (λ (m : GraphValue). NeverOver x scalar a d w o m m.matrix.ring ys) same
    (subst (λ (zs : List PreimageValue). NeverOver x scalar a d w o g g.matrix.ring zs) links h))

pub power_moved : {A E : Type 0} (x : Result A E) (a d : List Claim) (w : MatrixValue) (o : Option runs.Outside) (g k : GraphValue) (r : Ring) → g ≡ k → k.matrix.ring ≡ r
    → OnOk x (HasClaims g.matrix.ring.vars a (power_claims g.matrix.ring g w o) d) → OnOk x (HasClaims r.vars a (power_claims r k w o) d)
power_moved x a d w o g k r same ring h =
    subst (λ (q : Ring). OnOk x (HasClaims q.vars a (power_claims q k w o) d)) ring
    (subst (λ (m : GraphValue). OnOk x (HasClaims m.matrix.ring.vars a (power_claims m.matrix.ring m w o) d)) same h)
