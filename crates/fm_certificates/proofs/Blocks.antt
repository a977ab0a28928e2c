-- The claims of a resolution, of Ext and of a chain lay their matrices down in a block.
use Rattle.std.proofs.Common.{ℕ, suc, ◌+◌, ◌≡◌, List, [], ◌∷◌, ◌++◌, map, length, refl, sym, ap, ◌∙◌, subst, arith, append_assoc, length-append}
use Rattle.fm_poly.specs.declared.ring.Ring.{Ring}
use Rattle.fm_graphs.specs.Graphs.{MatrixOf, Graph, Outside}
use Rattle.fm_graphs.specs.Trims.{Preimage}
use Rattle.fm_problem.specs.declared.problem.Problem.{Problem}
use Rattle.fm_problem.specs.declared.query.Query.{Query}
use Rattle.fm_cert.specs.Kinds as kinds
use Rattle.fm_cert.specs.Lines.{Row}
use Rattle.fm_limit.specs.ResolvedIdeal.{matrix_at}
use Rattle.fm_report.specs.Parts.{Part, twist, flip, beside}
use Rattle.fm_report.specs.Sheets.{Block, Answer, new_block, add_cocycles, add_kernel}
use Rattle.fm_report.specs.Verdicts.{block_root, stated}
use Rattle.fm_report.specs.Holding.{IsHeld}
use Rattle.fm_plan.specs.Results.{Resolution, Ext, differentials_of}
use Rattle.fm_plan.specs.Queries.{BaseOf, stable_of}
use Rattle.fm_standard.specs.Writing.{at, part_claim}
use Rattle.fm_standard.specs.Said.{Laid, AllPut}
use Rattle.fm_standard.proofs.ClaimsSaid.{puts_append}
use Rattle.fm_standard.proofs.LinesPut as lines
use Rattle.fm_standard.proofs.LinesPut.{indexed_claims, at_block, cocycles_puts, relations_puts, morphism_puts, chain_puts, stable_puts}
use Rattle.fm_certificates.specs.Certificates.{matrix_part, codifferential_part, preimage_claim, d_line, theta_line, lambda_line, cocycles_line, relations_line, differential_claims, exact_claims, resolution_claims, lift_claims, ext_claims, chain_claims, base_claims, identity_claims}
use Rattle.fm_certificates.proofs.Idle.{idle_claim, idle_put, exact_idle}

module _ (r : Ring) where
  abbrev pub matrix_parts : List (MatrixOf r) → List Part
  matrix_parts As = map (matrix_part r) As

  abbrev pub found_matrices : List (Preimage r) → List (MatrixOf r)
  found_matrices xs = map (λ (x : Preimage r). x.found) xs

  -- ---- claims with an index
  differentials_indexed : (j : ℕ) (As : List (MatrixOf r)) → indexed_claims d_line j (matrix_parts As) ≡ differential_claims r j As
  differentials_indexed j [] = refl
  differentials_indexed j (A ∷ As) = ap (λ cs. part_claim (matrix_part r A) (d_line j) ∷ cs) (differentials_indexed (suc j) As)

  lifts_indexed : (j : ℕ) (As : List (MatrixOf r)) → indexed_claims theta_line j (matrix_parts As) ≡ lift_claims r j As
  lifts_indexed j [] = refl
  lifts_indexed j (A ∷ As) = ap (λ cs. part_claim (matrix_part r A) (theta_line j) ∷ cs) (lifts_indexed (suc j) As)

  identities_indexed : (j : ℕ) (As : List (MatrixOf r)) → indexed_claims lambda_line j (matrix_parts As) ≡ identity_claims r j As
  identities_indexed j [] = refl
  identities_indexed j (A ∷ As) = ap (λ cs. part_claim (matrix_part r A) (lambda_line j) ∷ cs) (identities_indexed (suc j) As)

  -- ---- what stands in a block
  abbrev pub resolution_block : (m i : ℕ) → Resolution r → Block
  resolution_block m i x = record {
    ideal = m;
    degree = i;
    differentials = matrix_parts (differentials_of r x);
    lift = [];
    cocycles = [];
    kernels = [];
    morphism = [];
  }

  abbrev pub ext_block : (m i : ℕ) → Ext r → Block
  ext_block m i y = record {
    ideal = m;
    degree = i;
    differentials = matrix_parts (differentials_of r y.resolution);
    lift = matrix_parts y.lift;
    cocycles = matrix_part r y.cocycles.found ∷ [];
    kernels = matrix_part r y.relations.found ∷ [];
    morphism = matrix_part r y.u ∷ [];
  }

  abbrev pub base_block : (m i : ℕ) → BaseOf r → Block
  base_block m i b = record {
    ideal = m;
    degree = i;
    differentials = matrix_parts (differentials_of r b.ext.resolution);
    lift = matrix_parts b.ext.lift;
    cocycles = matrix_part r b.ext.cocycles.found ∷ [];
    kernels = matrix_part r b.ext.relations.found ∷ matrix_parts (found_matrices b.chain.links);
    morphism = matrix_part r b.ext.u ∷ [];
  }

module _ (q : Problem) (k : ℕ) (z : Query) (answer : Answer) where
  abbrev r : Ring
  r = q.ring

  module _ (fs : List Block) (ids : List Part) where
    abbrev here : Block → Laid
    here b = at_block q k z answer fs ids b

    differentials_put : (j : ℕ) (ds : List (MatrixOf r)) (b : Block) → j ≡ suc (length b.differentials)
        → AllPut q k z answer (differential_claims r j ds) (here b) (here (record b { differentials = b.differentials ++ matrix_parts r ds }))
    differentials_put j ds b e =
        subst (λ cs. AllPut q k z answer cs (here b) (here (record b { differentials = b.differentials ++ matrix_parts r ds }))) (differentials_indexed r j ds)
        (lines.differentials_put q k z answer fs ids j (matrix_parts r ds) b e)

    lifts_put : (j : ℕ) (As : List (MatrixOf r)) (b : Block) → j ≡ length b.lift
        → AllPut q k z answer (lift_claims r j As) (here b) (here (record b { lift = b.lift ++ matrix_parts r As }))
    lifts_put j As b e =
        subst (λ cs. AllPut q k z answer cs (here b) (here (record b { lift = b.lift ++ matrix_parts r As }))) (lifts_indexed r j As)
        (lines.lifts_put q k z answer fs ids j (matrix_parts r As) b e)

    pub resolution_put : (m i : ℕ) (x : Resolution r) → AllPut q k z answer (resolution_claims r x) (here (new_block m i)) (here (resolution_block r m i x))
    unfolding new_block
    resolution_put m i x =
        let ds = differentials_of r x in
        puts_append q k z answer (differential_claims r 1 ds) (exact_claims r 1 x.first.matrix x.next) (here (new_block m i)) (here (resolution_block r m i x)) (here (resolution_block r m i x))
        (differentials_put 1 ds (new_block m i) refl)
        (idle_put q k z answer (exact_claims r 1 x.first.matrix x.next) (exact_idle q k z answer 1 x.first.matrix x.next) (here (resolution_block r m i x)))

    pub ext_put : (m i : ℕ) (y : Ext r) → AllPut q k z answer (ext_claims r i y) (here (new_block m i)) (here (ext_block r m i y))
    ext_put m i y =
        let Z = y.cocycles in
        let N = y.relations in
        let G = flip (matrix_part r (matrix_at r.prime r.vars (differentials_of r y.resolution) i)) in
        let H = beside (matrix_part r Z.found) (codifferential_part r y.resolution i) in
        let rest = preimage_claim r G Z cocycles_line ∷ preimage_claim r H N relations_line ∷ part_claim (matrix_part r y.u) (λ p. Row kinds.Morphism (p, tt)) ∷ [] in
        let first = resolution_block r m i y.resolution in
        let second : Block = record first { lift = matrix_parts r y.lift } in
        let third = add_cocycles second (matrix_part r Z.found) in
        let fourth = add_kernel third (matrix_part r N.found) in
        puts_append q k z answer (resolution_claims r y.resolution) (lift_claims r 0 y.lift ++ rest) (here (new_block m i)) (here first) (here (ext_block r m i y))
        (resolution_put m i y.resolution)
        (puts_append q k z answer (lift_claims r 0 y.lift) rest (here first) (here second) (here (ext_block r m i y)) (lifts_put 0 y.lift first refl) (
          here third,
          cocycles_puts q k z answer fs ids second (matrix_part r Z.found) G Z.whole.log (matrix_part r Z.x) (matrix_part r Z.w) refl,
          (
            here fourth,
            relations_puts q k z answer fs ids third (matrix_part r N.found) H N.whole.log (matrix_part r N.x) (matrix_part r N.w) refl,
            (here (ext_block r m i y), morphism_puts q k z answer fs ids fourth (matrix_part r y.u) refl, refl),
          ),
        ))

    -- K_(s+1), .. and the repeat at t, where the block has K_0 .. K_s, and Ks in the end
    chain_put : (U : Part) (s t : ℕ) (g : Graph r) (w : MatrixOf r) (links : List (Preimage r)) (growth : List Outside) (b : Block) (Ks : List Part) → suc s ≡ length b.kernels
        → length links ≡ suc (length growth) → t ≡ s + length growth → b.kernels ++ matrix_parts r (found_matrices r links) ≡ Ks
        → IsHeld (stated r (block_root r q.ideals (record b { kernels = Ks }) t))
        → AllPut q k z answer (chain_claims r U s g w links growth) (here b) (here (record b { kernels = Ks }))
    chain_put U s t g w [] growth b Ks e count spot ends held = absurd (omega (arith, count))
    chain_put U s t g w (a ∷ c ∷ later) [] b Ks e count spot ends held = absurd (omega (arith, count))
    chain_put U s t g w (a ∷ []) [] b Ks e count spot ends held =
        let P = matrix_part r a.found in
        let G = beside U (twist (matrix_part r g.matrix) 1) in
        let d = add_kernel b P in
        let more = length-append b.kernels (P ∷ []) in
        let root : IsHeld (stated r (block_root r q.ideals d s)) =
        subst (λ n. IsHeld (stated r (block_root r q.ideals d n))) {x = t} (omega (arith, spot)) (subst (λ ks. IsHeld (stated r (block_root r q.ideals (record b { kernels = ks }) t))) (sym ends) held) in
        subst (λ ks. AllPut q k z answer (chain_claims r U s g w (a ∷ []) []) (here b) (here (record b { kernels = ks }))) ends (
          here d,
          chain_puts q k z answer fs ids b (suc s) P G a.whole.log (matrix_part r a.x) (matrix_part r a.w) (omega arith) e,
          (here d, stable_puts q k z answer fs ids d s (matrix_part r w) (omega (arith, e, more)) root, refl),
        )
    chain_put U s t g w (a ∷ later) (o ∷ growth) b Ks e count spot ends held =
        let P = matrix_part r a.found in
        let G = beside U (twist (matrix_part r g.matrix) 1) in
        let d = add_kernel b P in
        let more = length-append b.kernels (P ∷ []) in (
          here d,
          chain_puts q k z answer fs ids b (suc s) P G a.whole.log (matrix_part r a.x) (matrix_part r a.w) (omega arith) e,
          (
            here d,
            idle_claim q k z answer _ kinds.Grows (λ ns. (s, (at ns 0, (o.column, (o.by, tt))))) refl (here d),
            chain_put U (suc s) t a.graph w later growth d Ks (omega (arith, e, more)) (omega (arith, count)) (omega (arith, spot))
                (append_assoc b.kernels (P ∷ []) (matrix_parts r (found_matrices r later)) ∙ ends) held,
          ),
        )

    -- where the chain is as long as it says, and its root holds
    pub base_put : (m i : ℕ) (b : BaseOf r) → length b.chain.links ≡ suc (stable_of r b) → IsHeld (stated r (block_root r q.ideals (base_block r m i b) (stable_of r b)))
        → AllPut q k z answer (base_claims r i b) (here (new_block m i)) (here (base_block r m i b))
    base_put m i b count held =
        puts_append q k z answer (ext_claims r i b.ext) (chain_claims r (matrix_part r b.ext.u) 0 b.ext.relations.graph b.chain.w b.chain.links b.chain.growth)
        (here (new_block m i)) (here (ext_block r m i b.ext)) (here (base_block r m i b)) (ext_put m i b.ext)
        (chain_put (matrix_part r b.ext.u) 0 (stable_of r b) b.ext.relations.graph b.chain.w b.chain.links b.chain.growth (ext_block r m i b.ext) (base_block r m i b).kernels refl count (omega arith) refl held)

  -- ---- the lift of the identity
  pub identities_put : (j : ℕ) (As : List (MatrixOf r)) (c : Laid) → j ≡ length c.identity
      → AllPut q k z answer (identity_claims r j As) c (record c { identity = c.identity ++ matrix_parts r As })
  identities_put j As c e =
      subst (λ cs. AllPut q k z answer cs c (record c { identity = c.identity ++ matrix_parts r As })) (identities_indexed r j As)
      (lines.identities_put q k z answer j (matrix_parts r As) c e)
