-- The lines of a chain of kernels, one link after another.
use Rattle.std.proofs.Common.{◌≡◌, ℕ, suc, ◌+◌, List, [], ◌∷◌, map, length, refl, sym, ap, ap₂, ◌∙◌, subst, arith}
use Rattle.std.proofs.lemmas.List.{length-map, nil_from_length}
use Rattle.fm_cert.specs.Lines.{Line}
use Rattle.fm_certificates.specs.Certificates.{chain_claims, chain_line, columns_part, matrix_part, outside_claim, preimage_claim}
use Rattle.fm_certify.specs.Claims.{HasClaims}
use Rattle.fm_certify.proofs.SingleLoops.{AreLinesLeft, line_done, lines_done}
use Rattle.fm_chain.specs.Chains.{ChainValue, chain_meaning, member_graph, outside_value}
use Rattle.fm_graphs.specs.Graphs as runs
use Rattle.fm_graphs.specs.Graphs.{MatrixOf}
use Rattle.fm_graphs.specs.Trims.{Preimage}
use Rattle.fm_mat.specs.Matrices.{MatrixValue, column_meaning, columns_meaning, matrix_meaning}
use Rattle.fm_poly.specs.Polys.{PolyValue}
use Rattle.fm_poly.specs.declared.ring.Ring.{Ring}
use Rattle.fm_report.specs.Parts as parts
use Rattle.fm_report.specs.Parts.{Part}
use Rattle.fm_standard.specs.Writing as writing
use Rattle.fm_standard.specs.Writing.{part_claim}
use Rattle.fm_syz.specs.GeneratorValues.{PreimageValue, preimage_meaning}
use Rattle.fm_syz.specs.GraphValues.{GraphValue, graph_meaning}
use Rattle.fm_syz.specs.declared.inside.Outside.{Outside}
use Rattle.fm_writer.specs.Kinds.{excluding_line, generating_line, named_line}
use Rattle.fm_writer.specs.declared.claim.Claim.{Claim}
use Rattle.fm_writer.specs.declared.kinds.Excluding.TheVariants as excluding
use Rattle.fm_writer.specs.declared.kinds.Generating.TheVariants as generating
use Rattle.fm_writer.specs.declared.kinds.Named.TheVariants as named

-- ---- single lines over another name of the ring
-- a matrix in the ring r, by another name of it
pub part_over : (r : Ring) (m held : MatrixValue) → held ≡ m → m.ring ≡ r → matrix_part held.ring (matrix_meaning held.ring held) ≡ matrix_part r (matrix_meaning r m)
part_over r m held same ring =
    ap (λ (k : MatrixValue). matrix_part k.ring (matrix_meaning k.ring k)) same ∙ ap (λ (q : Ring). matrix_part q (matrix_meaning q m)) ring

pub preimage_over : (r q : Ring) (old new : List Claim) (x : PreimageValue) (A B : Part) (line : (p n x w : ℕ) → Line) → q ≡ r → A ≡ B
    → HasClaims q.vars old (preimage_claim q A (preimage_meaning q x) line ∷ []) new → HasClaims r.vars old (preimage_claim r B (preimage_meaning r x) line ∷ []) new
preimage_over r q old new x A B line ring part h =
    subst (λ (s : Ring). HasClaims s.vars old (preimage_claim s B (preimage_meaning s x) line ∷ []) new) ring
    (subst (λ (C : Part). HasClaims q.vars old (preimage_claim q C (preimage_meaning q x) line ∷ []) new) part h)

pub outside_over : (r q : Ring) (old new : List Claim) (g : GraphValue) (o : Outside) (line : (n c : ℕ) → List ℕ → Line) → q ≡ r
    → HasClaims q.vars old (outside_claim q (graph_meaning q g) (outside_value o) line ∷ []) new
    → HasClaims r.vars old (outside_claim r (graph_meaning r g) (outside_value o) line ∷ []) new
outside_over r q old new g o line ring h = subst (λ (s : Ring). HasClaims s.vars old (outside_claim s (graph_meaning s g) (outside_value o) line ∷ []) new) ring h

-- ---- what is left of a chain, from this number and this graph on
module _ (u : MatrixValue) (relations : GraphValue) (chain : ChainValue) where
  r : Ring
  r = relations.matrix.ring

  abbrev pub part_of_u : Part
  part_of_u = matrix_part relations.matrix.ring (matrix_meaning relations.matrix.ring u)

  abbrev pub factor : MatrixOf relations.matrix.ring
  factor = (chain_meaning relations.matrix.ring relations chain).w

  abbrev pub links_claims : ℕ → GraphValue → List PreimageValue → List Outside → List writing.Claim
  links_claims number g links growth = let r = relations.matrix.ring in
      chain_claims r part_of_u number (graph_meaning r g) factor (map (preimage_meaning r) links) (map outside_value growth)

  abbrev pub AreLinksLeft : (old now : List Claim) → ℕ → GraphValue → List PreimageValue → List Outside → Type 0
  AreLinksLeft old now number g links growth = let r = relations.matrix.ring in
      AreLinesLeft r.vars old (links_claims 0 relations chain.links chain.growth) now (links_claims number g links growth)

  pub links_begun : (old : List Claim) → AreLinksLeft old old 0 relations chain.links chain.growth
  links_begun old final h = h

  -- `chain s`, on what u sends into the twist of the graph's matrix
  abbrev pub link_claim : ℕ → GraphValue → PreimageValue → writing.Claim
  link_claim number g x = let r = relations.matrix.ring in
      preimage_claim r (parts.beside part_of_u (parts.twist (matrix_part r (matrix_meaning r g.matrix)) 1)) (preimage_meaning r x) (chain_line number)

  abbrev pub grows_claim : ℕ → GraphValue → Outside → writing.Claim
  grows_claim number g o = let r = relations.matrix.ring in outside_claim r (graph_meaning r g) (outside_value o) (excluding_line (excluding.Grows number))

  pub link_grows : (old now mid next : List Claim) (number up : ℕ) (g h : GraphValue) (x : PreimageValue) (o : Outside)
      (links later : List PreimageValue) (growth more : List Outside) → links ≡ x ∷ later → growth ≡ o ∷ more → up ≡ number + 1 → h ≡ x.generators.graph
      → HasClaims relations.matrix.ring.vars now (link_claim up g x ∷ []) mid
      → HasClaims relations.matrix.ring.vars mid (grows_claim number g o ∷ []) next
      → AreLinksLeft old now number g links growth → AreLinksLeft old next up h later more
  link_grows old now mid next number up g h x o links later growth more e f k graph one two left =
      let r = relations.matrix.ring in
      let step : suc number ≡ up = omega (arith, k) in
      let begun : AreLinesLeft r.vars old (links_claims 0 relations chain.links chain.growth) mid (grows_claim number g o ∷ links_claims (suc number) x.generators.graph later more) =
      line_done r.vars old _ now mid (link_claim (suc number) g x) (links_claims number g links growth) _
      (ap₂ (λ (xs : List PreimageValue) (os : List Outside). links_claims number g xs os) e f)
      (subst (λ (j : ℕ). HasClaims r.vars now (link_claim j g x ∷ []) mid) (sym step) one) left in
      let done : AreLinksLeft old next (suc number) x.generators.graph later more =
      line_done r.vars old _ mid next (grows_claim number g o) _ (links_claims (suc number) x.generators.graph later more) refl two begun in
      subst (λ (v : GraphValue). AreLinksLeft old next up v later more) (sym graph)
      (subst (λ (j : ℕ). AreLinksLeft old next j x.generators.graph later more) step done)

  pub link_last : (old now mid next : List Claim) (number up rows : ℕ) (g : GraphValue) (x : PreimageValue)
      (links later : List PreimageValue) (growth : List Outside) (ws : List (List PolyValue)) → links ≡ x ∷ later → length growth ≡ 0 → up ≡ number + 1
      → rows ≡ length (member_graph relations chain.links (length chain.growth)).matrix.columns → ws ≡ chain.w
      → HasClaims relations.matrix.ring.vars now (link_claim up g x ∷ []) mid
      → HasClaims relations.matrix.ring.vars mid (part_claim (columns_part relations.matrix.ring rows (columns_meaning relations.matrix.ring ws)) (named_line (named.Stable number)) ∷ []) next
      → AreLinksLeft old now number g links growth → HasClaims relations.matrix.ring.vars old (links_claims 0 relations chain.links chain.growth) next
  link_last old now mid next number up rows g x links later growth ws e f k width same one two left =
      let r = relations.matrix.ring in
      let step : suc number ≡ up = omega (arith, k) in
      let stable = part_claim (matrix_part r factor) (named_line (named.Stable number)) in
      let columns = (member_graph relations chain.links (length chain.growth)).matrix.columns in
      let begun : AreLinesLeft r.vars old (links_claims 0 relations chain.links chain.growth) mid (stable ∷ []) =
      line_done r.vars old _ now mid (link_claim (suc number) g x) (links_claims number g links growth) (stable ∷ [])
      (ap₂ (λ (xs : List PreimageValue) (os : List Outside). links_claims number g xs os) e (nil_from_length growth f))
      (subst (λ (j : ℕ). HasClaims r.vars now (link_claim j g x ∷ []) mid) (sym step) one) left in
      let last : HasClaims r.vars mid (stable ∷ []) next =
      subst (λ (j : ℕ). HasClaims r.vars mid (part_claim (columns_part r j (columns_meaning r chain.w)) (named_line (named.Stable number)) ∷ []) next)
      (width ∙ sym (length-map columns (column_meaning r)))
      (subst (λ (vs : List (List PolyValue)). HasClaims r.vars mid (part_claim (columns_part r rows (columns_meaning r vs)) (named_line (named.Stable number)) ∷ []) next) same two) in
      lines_done r.vars old _ next [] refl (line_done r.vars old _ mid next stable (stable ∷ []) [] refl last begun)
