-- The lines on moves that kill a class.
use Rattle.std.proofs.Common.{◌≡◌, ℕ, ◌-◌, List, [], ◌∷◌, ◌++◌, Vec, Bor, Option, Some, None, map, length, option_map, refl, sym, ap, ◌∙◌, subst}
use Rattle.std.specs.Global.{Global}
use Rattle.std.proofs.lemmas.List.{length-map}
use Rattle.fm_certificates.specs.Certificates.{killed_claims, kernel_graph, lives_claims, vector_part}
use Rattle.fm_certify.specs.Claims.{HasClaims}
use Rattle.fm_certify.proofs.Appended.{claims_then}
use Rattle.fm_chain.specs.Chains.{member_graph, outside_value}
use Rattle.fm_chain.specs.Stages.{killed_value}
use Rattle.fm_chain.specs.declared.stages.Killed.{Killed}
use Rattle.fm_chain.specs.declared.stages.Killed.TheVariants as kills
use Rattle.fm_graphs.specs.Graphs as runs
use Rattle.fm_graphs.specs.Graphs.{Graph}
use Rattle.fm_mat.specs.Matrices.{column_meaning}
use Rattle.fm_poly.specs.Polys.{PolyValue}
use Rattle.fm_poly.specs.declared.poly.Poly.{Poly}
use Rattle.fm_poly.specs.declared.ring.Ring.{Ring}
use Rattle.fm_queries.specs.Bases.{BaseValue, base_meaning, relations_graph, stable_graph}
use Rattle.fm_standard.specs.Writing.{part_claim}
use Rattle.fm_syz.specs.GraphValues.{GraphValue, graph_meaning}
use Rattle.fm_syz.specs.declared.inside.Outside.{Outside}
use Rattle.fm_writer.specs.Kinds.{named_line}
use Rattle.fm_writer.specs.declared.claim.Claim.{Claim}
use Rattle.fm_writer.specs.declared.kinds.Named.TheVariants as named

-- an outside that is held
pub outside_held : (o : Option (Bor Outside)) (before : Option Outside) → option_map (λ (x : Bor Outside). x.now) o ≡ before
    → option_map (λ (x : Bor Outside). outside_value x.now) o ≡ option_map outside_value before
outside_held None before e = ap (option_map outside_value) e
outside_held (Some x) before e = ap (option_map outside_value) e

-- `lives k` over another name of the ring, for a graph that means this one
pub lives_over : (r q : Ring) (old new : List Claim) (k j : ℕ) (g : GraphValue) (G : Graph r) (o p : Option runs.Outside) → q ≡ r → k ≡ j → graph_meaning r g ≡ G → o ≡ p
    → HasClaims q.vars old (lives_claims q k (graph_meaning q g) o) new → HasClaims r.vars old (lives_claims r j G p) new
lives_over r q old new k j g G o p ring number graph outside h =
    subst (λ (H : Graph r). HasClaims r.vars old (lives_claims r j H p) new) graph
    (subst (λ (s : Ring). HasClaims s.vars old (lives_claims s j (graph_meaning s g) p) new) ring
    (subst (λ (i : ℕ). HasClaims q.vars old (lives_claims q i (graph_meaning q g) p) new) number
    (subst (λ (u : Option runs.Outside). HasClaims q.vars old (lives_claims q k (graph_meaning q g) u) new) outside h)))

module _ (r : Ring) (b : BaseValue) (x : Killed) (old : List Claim) where
  pub dies_lines : (moves : ℕ) (w : Vec Poly Global) (before : Option Outside) (vs : List PolyValue) (mid new : List Claim) → x ≡ kills.At moves w before → vs ≡ w.items
      → HasClaims r.vars old (lives_claims r (moves - 1) (kernel_graph r (base_meaning r b) (moves - 1)) (option_map outside_value before)) mid
      → HasClaims r.vars mid (part_claim (vector_part r (column_meaning r vs)) (named_line (named.Dies moves)) ∷ []) new
      → HasClaims r.vars old (killed_claims r (base_meaning r b) (killed_value r x)) new
  dies_lines moves w before vs mid new is same one two =
      subst (λ (y : Killed). HasClaims r.vars old (killed_claims r (base_meaning r b) (killed_value r y)) new) (sym is)
      (claims_then r.vars old mid new _ _ one (subst (λ (us : List PolyValue). HasClaims r.vars mid (part_claim (vector_part r (column_meaning r us)) (named_line (named.Dies moves)) ∷ []) new) same two))

  pub never_lines : (before : Option Outside) (new : List Claim) → x ≡ kills.Never before
      → HasClaims r.vars old (lives_claims r (length (map outside_value b.chain.growth)) (graph_meaning r (stable_graph b)) (option_map outside_value before)) new
      → HasClaims r.vars old (killed_claims r (base_meaning r b) (killed_value r x)) new
  never_lines before new is h = subst (λ (y : Killed). HasClaims r.vars old (killed_claims r (base_meaning r b) (killed_value r y)) new) (sym is) h
