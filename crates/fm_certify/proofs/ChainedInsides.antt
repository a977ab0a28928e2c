-- The line on columns that lie in an image, or not.
use Rattle.std.proofs.Common.{◌≡◌, ℕ, List, [], ◌∷◌, Vec, length, sym, ap, ◌∙◌, subst}
use Rattle.std.specs.Global.{Global}
use Rattle.std.proofs.lemmas.List.{length-map}
use Rattle.fm_cert.specs.Lines.{Line}
use Rattle.fm_certificates.specs.Certificates.{columns_part, inside_claims, outside_claim}
use Rattle.fm_certify.specs.Claims.{HasClaims}
use Rattle.fm_chain.specs.Chains.{outside_value}
use Rattle.fm_mat.specs.Matrices.{column_meaning, columns_meaning}
use Rattle.fm_mat.specs.declared.column.Column.{Column}
use Rattle.fm_poly.specs.Polys.{PolyValue}
use Rattle.fm_poly.specs.declared.ring.Ring.{Ring}
use Rattle.fm_standard.specs.Writing.{part_claim}
use Rattle.fm_syz.specs.GraphValues.{GraphValue, graph_meaning}
use Rattle.fm_syz.specs.Insides.{inside_value}
use Rattle.fm_syz.specs.declared.inside.Inside.{Inside}
use Rattle.fm_syz.specs.declared.inside.Inside.TheVariants.{All, First}
use Rattle.fm_syz.specs.declared.inside.Outside.{Outside}
use Rattle.fm_writer.specs.declared.claim.Claim.{Claim}

module _ (r : Ring) (g : GraphValue) (x : Inside) (all : ℕ → Line) (some : (n c : ℕ) → List ℕ → Line) (old new : List Claim) where
  pub all_line : (ws : Vec Column Global) (cs : List (List PolyValue)) (rows : ℕ) → x ≡ All ws → cs ≡ ws.items → rows ≡ length g.matrix.columns
      → HasClaims r.vars old (part_claim (columns_part r rows (columns_meaning r cs)) all ∷ []) new
      → HasClaims r.vars old (inside_claims r (graph_meaning r g) (inside_value r x) all some) new
  all_line ws cs rows is same count h =
      subst (λ (y : Inside). HasClaims r.vars old (inside_claims r (graph_meaning r g) (inside_value r y) all some) new) (sym is)
      (subst (λ (k : ℕ). HasClaims r.vars old (part_claim (columns_part r k (columns_meaning r ws.items)) all ∷ []) new) (count ∙ sym (length-map g.matrix.columns (column_meaning r)))
      (subst (λ (vs : List (List PolyValue)). HasClaims r.vars old (part_claim (columns_part r rows (columns_meaning r vs)) all ∷ []) new) same h))

  pub outside_line : (o : Outside) → x ≡ First o → HasClaims r.vars old (outside_claim r (graph_meaning r g) (outside_value o) some ∷ []) new
      → HasClaims r.vars old (inside_claims r (graph_meaning r g) (inside_value r x) all some) new
  outside_line o is h = subst (λ (y : Inside). HasClaims r.vars old (inside_claims r (graph_meaning r g) (inside_value r y) all some) new) (sym is) h
