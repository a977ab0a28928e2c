-- The lines that name the matrices of a resolution, of Ext and of a chain lay them down in a block, and can be written.
use Rattle.std.proofs.Common.{Some, ℕ, suc, ◌+◌, ◌≡◌, ◌≤◌, ◌<◌, ◌^◌, List, [], ◌∷◌, ◌++◌, map, length, refl, ap, ap₂, ◌∙◌, arith, length-append}
use Rattle.std.proofs.lemmas.List.{length-map}
use Rattle.fm_poly.specs.declared.ring.Ring.{Ring}
use Rattle.fm_graphs.specs.Graphs.{MatrixOf, Graph}
use Rattle.fm_graphs.specs.Trims.{Preimage}
use Rattle.fm_graphs.specs.Within.{IsMatrixWithin}
use Rattle.fm_graphs.specs.Sizes.{IsMatrixAtMost}
use Rattle.fm_words.specs.Words.{AreNames}
use Rattle.fm_problem.specs.declared.problem.Problem.{Problem}
use Rattle.fm_problem.specs.declared.query.Query.{Query}
use Rattle.fm_cert.specs.Naming.{Grid, Naming, differentials, lifts, cocycles_naming, relations_naming, morphism_naming, kernels, identities, map_naming}
use Rattle.fm_report.specs.Parts.{Part}
use Rattle.fm_report.specs.Sheets.{Block, Answer, new_block}
use Rattle.fm_report.proofs.NamingsSaid.{IsGood, GridsGood, given_of, parts_of, Laid, AllPut, puts_append, differentials_put, lifts_put, kernels_put, presentation_put}
use Rattle.fm_plan.specs.Results.{Resolution, Ext, differentials_of}
use Rattle.fm_plan.specs.Queries.{BaseOf}
use Rattle.fm_plan.specs.Sizes.{AreMatricesAtMost, ArePreimagesAtMost, IsResolutionAtMost, IsExtAtMost, IsBaseAtMost}
use Rattle.fm_plan.specs.Within.{AreMatricesWithin, ArePreimagesWithin, IsResolutionWithin, IsExtWithin, IsBaseWithin}
use Rattle.fm_answers.specs.Printed.{grid_of, grids_of, resolution_namings, ext_namings, base_namings}
use Rattle.fm_answers.proofs.PrintedMatrices.{grid_good}

-- ---- how many lines
differentials_count : (j : ℕ) (gs : List Grid) → length (differentials j gs) ≡ length gs
differentials_count j [] = refl
differentials_count j (g ∷ gs) = ap suc (differentials_count (suc j) gs)

lifts_count : (j : ℕ) (gs : List Grid) → length (lifts j gs) ≡ length gs
lifts_count j [] = refl
lifts_count j (g ∷ gs) = ap suc (lifts_count (suc j) gs)

kernels_count : (j : ℕ) (gs : List Grid) → length (kernels j gs) ≡ length gs
kernels_count j [] = refl
kernels_count j (g ∷ gs) = ap suc (kernels_count (suc j) gs)

pub identities_count : (j : ℕ) (gs : List Grid) → length (identities j gs) ≡ length gs
identities_count j [] = refl
identities_count j (g ∷ gs) = ap suc (identities_count (suc j) gs)

module _ (r : Ring) where
  -- ---- the matrices
  abbrev pub links_of : BaseOf r → List (MatrixOf r)
  links_of b = map (λ (x : Preimage r). x.found) b.chain.links

  next_within : (xs : List (Preimage r)) → ArePreimagesWithin r xs → AreMatricesWithin r (map (λ (g : Graph r). g.matrix) (map (λ (x : Preimage r). x.graph) xs))
  next_within [] w = tt
  next_within (x ∷ xs) w = (w.0.graph.matrix, next_within xs w.1)

  next_sizes : (most : ℕ) (xs : List (Preimage r)) → ArePreimagesAtMost r most xs → AreMatricesAtMost r most (map (λ (g : Graph r). g.matrix) (map (λ (x : Preimage r). x.graph) xs))
  next_sizes most [] w = tt
  next_sizes most (x ∷ xs) w = (w.0.graph.matrix, next_sizes most xs w.1)

  found_within : (xs : List (Preimage r)) → ArePreimagesWithin r xs → AreMatricesWithin r (map (λ (x : Preimage r). x.found) xs)
  found_within [] w = tt
  found_within (x ∷ xs) w = (w.0.found, found_within xs w.1)

  found_sizes : (most : ℕ) (xs : List (Preimage r)) → ArePreimagesAtMost r most xs → AreMatricesAtMost r most (map (λ (x : Preimage r). x.found) xs)
  found_sizes most [] w = tt
  found_sizes most (x ∷ xs) w = (w.0.found, found_sizes most xs w.1)

  -- ---- how many are named
  grids_count : (As : List (MatrixOf r)) → length (grids_of r As) ≡ length As
  grids_count As = length-map As (grid_of r)

  pub resolution_count : (x : Resolution r) → length (resolution_namings r x) ≡ length (differentials_of r x)
  resolution_count x = differentials_count 1 (grids_of r (differentials_of r x)) ∙ grids_count (differentials_of r x)

  pub ext_count : (y : Ext r) → length (ext_namings r y) ≡ length (differentials_of r y.resolution) + (length y.lift + 3)
  ext_count y =
      let ds = differentials 1 (grids_of r (differentials_of r y.resolution)) in
      let ts = lifts 0 (grids_of r y.lift) in
      let rest = cocycles_naming (grid_of r y.cocycles.found) ∷ relations_naming (grid_of r y.relations.found) ∷ morphism_naming (grid_of r y.u) ∷ [] in
      length-append ds (ts ++ rest) ∙ ap₂ (λ a b. a + b) (resolution_count y.resolution)
      (length-append ts rest ∙ ap (λ a. a + 3) (lifts_count 0 (grids_of r y.lift) ∙ grids_count y.lift))

  pub base_count : (b : BaseOf r) → length (base_namings r b) ≡ length (differentials_of r b.ext.resolution) + (length b.ext.lift + 3) + length b.chain.links
  base_count b =
      length-append (ext_namings r b.ext) (kernels 1 (grids_of r (links_of b)))
      ∙ ap₂ (λ a c. a + c) (ext_count b.ext) (kernels_count 1 (grids_of r (links_of b)) ∙ grids_count (links_of b) ∙ length-map b.chain.links (λ (x : Preimage r). x.found))

  -- ---- what stands in a block
  abbrev pub resolution_block : (m i : ℕ) → Resolution r → Block
  resolution_block m i x = record {
    ideal = m;
    degree = i;
    differentials = parts_of (grids_of r (differentials_of r x));
    lift = [];
    cocycles = [];
    kernels = [];
    morphism = [];
  }

  abbrev pub ext_block : (m i : ℕ) → Ext r → Block
  ext_block m i y = record {
    ideal = m;
    degree = i;
    differentials = parts_of (grids_of r (differentials_of r y.resolution));
    lift = parts_of (grids_of r y.lift);
    cocycles = given_of (grid_of r y.cocycles.found) ∷ [];
    kernels = given_of (grid_of r y.relations.found) ∷ [];
    morphism = given_of (grid_of r y.u) ∷ [];
  }

  abbrev pub base_block : (m i : ℕ) → BaseOf r → Block
  base_block m i b = record {
    ideal = m;
    degree = i;
    differentials = parts_of (grids_of r (differentials_of r b.ext.resolution));
    lift = parts_of (grids_of r b.ext.lift);
    cocycles = given_of (grid_of r b.ext.cocycles.found) ∷ [];
    kernels = given_of (grid_of r b.ext.relations.found) ∷ parts_of (grids_of r (links_of b));
    morphism = given_of (grid_of r b.ext.u) ∷ [];
  }

module _ (q : Problem) (h : AreNames q.vars) (l : length q.vars ≡ q.ring.vars) (most : ℕ) (few : most < 2 ^ 33) where
  -- ---- the lines can be written
  pub good : (A : MatrixOf q.ring) → IsMatrixWithin q.ring A → IsMatrixAtMost q.ring most A → IsGood q h l (grid_of q.ring A)
  good A w s = grid_good q h l most (omega (arith, few)) A w s

  good_append : (xs ys : List Naming) → GridsGood q h l xs → GridsGood q h l ys → GridsGood q h l (xs ++ ys)
  good_append [] ys v w = w
  good_append (x ∷ xs) ys v w = (v.0, good_append xs ys v.1 w)

  differentials_good : (j : ℕ) (As : List (MatrixOf q.ring)) → AreMatricesWithin q.ring As → AreMatricesAtMost q.ring most As → GridsGood q h l (differentials j (grids_of q.ring As))
  differentials_good j [] w s = tt
  differentials_good j (A ∷ As) w s = (good A w.0 s.0, differentials_good (suc j) As w.1 s.1)

  lifts_good : (j : ℕ) (As : List (MatrixOf q.ring)) → AreMatricesWithin q.ring As → AreMatricesAtMost q.ring most As → GridsGood q h l (lifts j (grids_of q.ring As))
  lifts_good j [] w s = tt
  lifts_good j (A ∷ As) w s = (good A w.0 s.0, lifts_good (suc j) As w.1 s.1)

  kernels_good : (j : ℕ) (As : List (MatrixOf q.ring)) → AreMatricesWithin q.ring As → AreMatricesAtMost q.ring most As → GridsGood q h l (kernels j (grids_of q.ring As))
  kernels_good j [] w s = tt
  kernels_good j (A ∷ As) w s = (good A w.0 s.0, kernels_good (suc j) As w.1 s.1)

  identities_good : (j : ℕ) (As : List (MatrixOf q.ring)) → AreMatricesWithin q.ring As → AreMatricesAtMost q.ring most As → GridsGood q h l (identities j (grids_of q.ring As))
  identities_good j [] w s = tt
  identities_good j (A ∷ As) w s = (good A w.0 s.0, identities_good (suc j) As w.1 s.1)

  pub map_good : (As : List (MatrixOf q.ring)) (phi : MatrixOf q.ring) → AreMatricesWithin q.ring As → AreMatricesAtMost q.ring most As → IsMatrixWithin q.ring phi → IsMatrixAtMost q.ring most phi
      → GridsGood q h l (identities 0 (grids_of q.ring As) ++ map_naming (grid_of q.ring phi) ∷ [])
  map_good As phi w s v t = good_append (identities 0 (grids_of q.ring As)) (map_naming (grid_of q.ring phi) ∷ []) (identities_good 0 As w s) (good phi v t, tt)

  pub resolution_good : (x : Resolution q.ring) → IsResolutionWithin q.ring x → IsResolutionAtMost q.ring most x → GridsGood q h l (resolution_namings q.ring x)
  resolution_good x w s =
      differentials_good 1 (differentials_of q.ring x) (w.first.matrix, next_within q.ring x.next w.next) (s.first.matrix, next_sizes q.ring most x.next s.next)

  pub ext_good : (y : Ext q.ring) → IsExtWithin q.ring y → IsExtAtMost q.ring most y → GridsGood q h l (ext_namings q.ring y)
  ext_good y w s =
      let ts = lifts 0 (grids_of q.ring y.lift) in
      let rest = cocycles_naming (grid_of q.ring y.cocycles.found) ∷ relations_naming (grid_of q.ring y.relations.found) ∷ morphism_naming (grid_of q.ring y.u) ∷ [] in
      good_append (resolution_namings q.ring y.resolution) (ts ++ rest) (resolution_good y.resolution w.resolution s.resolution)
      (good_append ts rest (lifts_good 0 y.lift w.lift s.lift)
      (good y.cocycles.found w.cocycles.found s.cocycles.found, (good y.relations.found w.relations.found s.relations.found, (good y.u w.u s.u, tt))))

  pub base_good : (b : BaseOf q.ring) → IsBaseWithin q.ring b → IsBaseAtMost q.ring most b → GridsGood q h l (base_namings q.ring b)
  base_good b w s =
      good_append (ext_namings q.ring b.ext) (kernels 1 (grids_of q.ring (links_of q.ring b))) (ext_good b.ext w.ext s.ext)
      (kernels_good 1 (links_of q.ring b) (found_within q.ring b.chain.links w.chain.links) (found_sizes q.ring most b.chain.links s.chain.links))

  -- ---- and lay the matrices down
  module _ (k : ℕ) (z : Query) (a : Answer) (finished : List Block) (ids : List Part) (m i : ℕ) where
    abbrev at : Block → Laid
    at b = record { finished = finished; block = Some b; identity = ids }

    pub resolution_put : (x : Resolution q.ring) → IsResolutionAtMost q.ring most x
        → AllPut q h l k z a (resolution_namings q.ring x) (at (new_block m i)) (at (resolution_block q.ring m i x))
    unfolding new_block
    resolution_put x s =
        let count = s.count in
        let n = grids_count q.ring (differentials_of q.ring x) in
        differentials_put q h l k z a finished ids 1 (grids_of q.ring (differentials_of q.ring x)) (new_block m i) refl (omega (arith, few, count, n))

    pub ext_put : (y : Ext q.ring) → IsExtAtMost q.ring most y → length y.lift ≤ most
        → AllPut q h l k z a (ext_namings q.ring y) (at (new_block m i)) (at (ext_block q.ring m i y))
    ext_put y s long =
        let Z = grid_of q.ring y.cocycles.found in
        let N = grid_of q.ring y.relations.found in
        let U = grid_of q.ring y.u in
        let ts = grids_of q.ring y.lift in
        let first = resolution_block q.ring m i y.resolution in
        let second : Block = record first { lift = parts_of ts } in
        let n = grids_count q.ring y.lift in
        puts_append q h l k z a (resolution_namings q.ring y.resolution) (lifts 0 ts ++ cocycles_naming Z ∷ relations_naming N ∷ morphism_naming U ∷ [])
        (at (new_block m i)) (at first) (at (ext_block q.ring m i y)) (resolution_put y.resolution s.resolution)
        (puts_append q h l k z a (lifts 0 ts) (cocycles_naming Z ∷ relations_naming N ∷ morphism_naming U ∷ []) (at first) (at second) (at (ext_block q.ring m i y))
        (lifts_put q h l k z a finished ids 0 ts first refl (omega (arith, few, long, n)))
        (presentation_put q h l k z a finished ids Z N U second refl refl refl))

    pub base_put : (b : BaseOf q.ring) → IsBaseAtMost q.ring most b → length b.ext.lift ≤ most
        → AllPut q h l k z a (base_namings q.ring b) (at (new_block m i)) (at (base_block q.ring m i b))
    base_put b s long =
        let Ks = grids_of q.ring (links_of q.ring b) in
        let count = s.chain.count in
        let n = grids_count q.ring (links_of q.ring b) in
        let o = length-map b.chain.links (λ (x : Preimage q.ring). x.found) in
        puts_append q h l k z a (ext_namings q.ring b.ext) (kernels 1 Ks) (at (new_block m i)) (at (ext_block q.ring m i b.ext)) (at (base_block q.ring m i b))
        (ext_put b.ext s.ext long)
        (kernels_put q h l k z a finished ids 1 Ks (ext_block q.ring m i b.ext) (omega arith) refl (omega (arith, few, count, n, o)))
