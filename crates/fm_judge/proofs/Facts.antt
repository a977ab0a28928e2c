-- What has been shown of the matrices that are named, where the next line stands in each place.
use Rattle.std.proofs.Common.{◌≡◌, ℕ, zero, suc, ◌<◌, ◌≤◌, Bool, true, false, nat_lt, if◌then◌else◌, List, [], ◌∷◌, length, Option, Some, None, refl, sym, ap, ◌∙◌, subst, subst₂, arith}
use Rattle.std.proofs.lemmas.Bool.Decides.{nat_tests}
use Rattle.fm_limit.specs.ResolvedIdeal.{matrix_at}
use Rattle.fm_limit.specs.Facts.{IsEverything}
use Rattle.fm_limit.specs.Verdicts.{HoldsOfOnto, inverting, induced_map, resolution}
use Rattle.fm_poly.specs.Polys.{PolyValue, meaning}
use Rattle.fm_poly.specs.declared.ring.Ring.{Ring}
use Rattle.fm_problem.specs.declared.ideal.Ideal.{Ideal}
use Rattle.fm_problem.specs.declared.problem.Problem.{Problem}
use Rattle.fm_graphs.specs.Graphs.{MatrixOf}
use Rattle.fm_report.specs.Parts.{Part, meant, part_value, part_values}
use Rattle.fm_report.specs.Sheets.{Block}
use Rattle.fm_report.specs.Verdicts.{part_at, root_of, ext_of, generators_in}
use Rattle.fm_parts.specs.Shapes.{columns_of}
use Rattle.fm_parts.specs.Conditions.{equal}
use Rattle.fm_parts.specs.Meanings.{Says}
use Rattle.fm_judge.specs.Goals.{Aim, Goal, told_rank, told_generators, told_relations, told_moves}
use Rattle.fm_judge.specs.Goals as aims
use Rattle.fm_judge.specs.Places.{Place, after_resolution, after_exact, after_differential, after_lift, after_morphism, after_stable, after_coordinates, after_power, after_lambda, after_phi, after_fibre, after_links, after_link}
use Rattle.fm_judge.specs.Places as places
use Rattle.fm_judge.specs.Claims.{row_part, stage_of, class_of}
use Rattle.fm_judge.proofs.Resolving.{Told, Ds, Naming, Exact, resolution_is, ranks_are}
use Rattle.fm_judge.proofs.Lifting.{Lifting, BeforeCocycles, BeforeRelations, BeforeMorphism, Presented, ideal_of, lifting_begins, lifted_through}
use Rattle.fm_judge.proofs.Chains.{Chained, Repeating, chain_begins}
use Rattle.fm_judge.proofs.Verdicts.{IsRight, ext_right, root_right}
use Rattle.fm_judge.proofs.Goods.{columns_are}
use Rattle.fm_judge.proofs.Classes.{HasCoordinates, IsIn}
use Rattle.fm_judge.proofs.Mapping.{source_goal, Behind, Sides, Identity, Mapped, ZeroSaid, Fibre, Compared, identity_begins, map_right}
use Rattle.fm_judge.proofs.Linking.{Members, Links, Closed}
use Rattle.fm_judge.proofs.Inverting.{Lands, Colons, Settled, colons_begin, inverted_right}
use Rattle.fm_judge.proofs.Stated.{IsFineAim, blocks_before, stated_of, IsShown}

-- the certificate has a block; a lift; a chain
abbrev pub HasBlock : Aim → Type 0
HasBlock (aims.membership f inside) = ⊥
HasBlock aim = Unit {0}

abbrev pub HasLift : Aim → Type 0
HasLift (aims.membership f inside) = ⊥
HasLift (aims.resolution ranks) = ⊥
HasLift aim = Unit {0}

abbrev pub HasChain : Aim → Type 0
HasChain (aims.membership f inside) = ⊥
HasChain (aims.resolution ranks) = ⊥
HasChain (aims.ext m n) = ⊥
HasChain aim = Unit {0}

module _ (q : Problem) where
  abbrev r : Ring
  r = q.ring

  module _ (g : Goal) where
    -- what has been shown of the source of a map
    abbrev pub BehindAim : Aim → Type 0
    BehindAim (aims.incoming source is_zero is_one onto) = Behind r g source
    BehindAim aim = Unit {0}

    -- a block of the goal's ideal and degree
    pub record IsOf (b : Block) : Type 0 where
      pub degree : b.degree ≡ g.degree
      pub generators : generators_in r q.ideals b.ideal ≡ Some g.generators
      pub behind : BehindAim g.aim

    abbrev pub With : (Block → Type 0) → Option Block → Type 0
    With P None = ⊥
    With P (Some b) = IsOf b × P b

    abbrev pub Without : Type 0 → Option Block → Type 0
    Without P None = P
    Without P (Some b) = ⊥

    -- the chain of a class has come to its repeat, and w are its coordinates
    abbrev pub Located : Part → ℕ → ℕ → List PolyValue → Block → Type 0
    Located w t e z b = (R : Repeating r g t b) × HasCoordinates r g t b R e z w

    abbrev pub IsClassAim : Aim → Type 0
    IsClassAim (aims.dying e z m) = Unit {0}
    IsClassAim (aims.living e z) = Unit {0}
    IsClassAim aim = ⊥

    -- the lines `lambda` have named these
    module _ (ls : List Part) where
      -- what has been shown where the next line stands in this place
      abbrev pub FactsAt : Place → Option Block → Type 0
      FactsAt places.datum ob = Without (HasBlock g.aim × (blocks_before g.aim ≡ [])) ob
      FactsAt (places.differential j) ob = With (λ b. HasBlock g.aim × (j ≤ g.degree) × Naming r g j b) ob
      FactsAt (places.exactness j) ob = With (λ b. HasBlock g.aim × (j < g.degree) × Exact r g j b) ob
      FactsAt (places.lift j) ob = With (λ b. HasLift g.aim × (j ≤ g.degree) × Lifting r g j b) ob
      FactsAt places.cocycles ob = With (λ b. HasLift g.aim × BeforeCocycles r g b) ob
      FactsAt places.relations ob = With (λ b. HasLift g.aim × BeforeRelations r g b) ob
      FactsAt places.morphism ob = With (λ b. HasLift g.aim × BeforeMorphism r g b) ob
      FactsAt (places.chain s) ob = With (λ b. HasChain g.aim × Chained r g s s b) ob
      FactsAt (places.turn s) ob = With (λ b. HasChain g.aim × Chained r g (suc s) s b) ob
      FactsAt (places.whole t) ob = With (λ b. (g.aim ≡ aims.vanishing true t) × Repeating r g t b) ob
      FactsAt (places.proper t) ob = With (λ b. (g.aim ≡ aims.vanishing false t) × Repeating r g t b) ob
      FactsAt (places.coordinates t) ob = With (λ b. IsClassAim g.aim × Repeating r g t b) ob
      FactsAt (places.lives w t k) ob = With (λ b. (e : ℕ) × (z : List PolyValue) × (g.aim ≡ aims.dying e z (suc k)) × Located w t e z b) ob
      FactsAt (places.dies w t m) ob =
          With (λ b. (e : ℕ) × (z : List PolyValue) × (g.aim ≡ aims.dying e z m) × (L : Located w t e z b) × (m ≤ t) × ((k : ℕ) → suc k ≡ m → ¬ (IsIn r g t b L.0 e z k w))) ob
      FactsAt (places.lives_on w t) ob = With (λ b. (e : ℕ) × (z : List PolyValue) × (g.aim ≡ aims.living e z) × Located w t e z b) ob
      FactsAt (places.power f t k) ob = With (λ b. (g.aim ≡ aims.inverting f (Some k)) × Repeating r g t b) ob
      FactsAt (places.least f t k) ob = With (λ b. (g.aim ≡ aims.inverting f (Some (suc k))) × (R : Repeating r g t b) × Lands r g t b R f (suc k)) ob
      FactsAt (places.colon f t found) ob = With (λ b. (g.aim ≡ aims.inverting f None) × (R : Repeating r g t b) × Colons r g t b R f found) ob
      FactsAt (places.proper_colon t found) ob =
          With (λ b. (f : PolyValue) × (g.aim ≡ aims.inverting f None) × (R : Repeating r g t b) × Colons r g t b R f found × (0 < length found) × Settled r g t b R f found) ob
      FactsAt (places.annihilator ideal t) ob = With (λ b. (g.aim ≡ aims.support ideal) × Repeating r g t b) ob
      FactsAt (places.datum_beyond t) ob = With (λ b. (target : Ideal) × (is_zero : Bool) × (is_one : Bool) × (onto : Option ℕ) × (g.aim ≡ aims.outgoing target is_zero is_one onto) × Repeating r g t b) ob
      FactsAt (places.lambda t identity) ob = With (λ b. (A : Sides r g b t) × (length identity ≤ g.degree) × (0 < length identity → ls ≡ identity) × Identity r g b t A identity) ob
      FactsAt (places.phi t identity) ob = With (λ b. (A : Sides r g b t) × (length identity ≡ suc g.degree) × (ls ≡ identity) × Identity r g b t A identity) ob
      FactsAt (places.null t Phi) ob = With (λ b. (A : Sides r g b t) × (A.is_zero ≡ true) × Mapped r g b t A ls Phi) ob
      FactsAt (places.nonnull t Phi) ob = With (λ b. (A : Sides r g b t) × (A.is_zero ≡ false) × Mapped r g b t A ls Phi) ob
      FactsAt (places.fibre t Phi) ob = With (λ b. (A : Sides r g b t) × Mapped r g b t A ls Phi × ZeroSaid r g b t A Phi) ob
      FactsAt (places.one t Phi C) ob = With (λ b. (A : Sides r g b t) × (A.is_one ≡ true) × Mapped r g b t A ls Phi × ZeroSaid r g b t A Phi × Fibre r g b t A Phi C) ob
      FactsAt (places.notone t Phi C) ob = With (λ b. (A : Sides r g b t) × (A.is_one ≡ false) × Mapped r g b t A ls Phi × ZeroSaid r g b t A Phi × Fibre r g b t A Phi C) ob
      FactsAt (places.link t Phi found) ob =
          With (λ b. (A : Sides r g b t) × (D : Compared r g b t A ls Phi) × Links r g b t A ls Phi D.mapped found × (s : ℕ) × (A.onto ≡ Some s) × (length found < s)) ob
      FactsAt (places.open_link t Phi found) ob = With (λ b. (A : Sides r g b t) × (D : Compared r g b t A ls Phi) × Links r g b t A ls Phi D.mapped found × (A.onto ≡ None)) ob
      FactsAt (places.short t Phi found) ob =
          With (λ b. (A : Sides r g b t) × (D : Compared r g b t A ls Phi) × Links r g b t A ls Phi D.mapped found × (A.onto ≡ Some (length found)) × (0 < length found)) ob
      FactsAt (places.onto t Phi found) ob =
          With (λ b. (A : Sides r g b t) × (D : Compared r g b t A ls Phi) × Links r g b t A ls Phi D.mapped found × (A.onto ≡ Some (length found))
          × ((k : ℕ) → suc k ≡ length found → ¬ (IsEverything r.prime r.vars (matrix_at r.prime r.vars (Members r g b t A ls Phi D.mapped found) k)))) ob
      FactsAt (places.never_onto t Phi found) ob =
          With (λ b. (A : Sides r g b t) × (D : Compared r g b t A ls Phi) × Links r g b t A ls Phi D.mapped found × (A.onto ≡ None) × (0 < length found) × Closed r g b t A ls Phi D.mapped found) ob
      FactsAt places.ideal_row ob = Without ((f : PolyValue) × (inside : Bool) × (g.aim ≡ aims.membership f inside)) ob
      FactsAt (places.cofactors d) ob = Without ((f : PolyValue) × (g.aim ≡ aims.membership f true) × Says r (equal d (row_part g.generators))) ob
      FactsAt (places.foreign d) ob = Without ((f : PolyValue) × (g.aim ≡ aims.membership f false) × Says r (equal d (row_part g.generators))) ob
      FactsAt places.end ob = IsShown r (stated_of r g ls g.aim ob)

      -- ---- what comes next
      less : (a b : ℕ) → nat_lt a b ≡ true → a < b
      less a b e = grind (arith, nat_tests)

      not_less : (a b : ℕ) → nat_lt a b ≡ false → b ≤ a
      not_less a b e = grind (arith, nat_tests)

      -- by a test of the place
      chosen : (b : Bool) (p p' : Place) (ob : Option Block) → (b ≡ true → FactsAt p ob) → (b ≡ false → FactsAt p' ob) → FactsAt (if b then p else p') ob
      chosen true p p' ob f h = f refl
      chosen false p p' ob f h = h refl

      module _ (fine : IsFineAim g.degree g.aim) (b : Block) (of : IsOf b) where
        resolution_shown : (aim : Aim) → g.aim ≡ aim → HasBlock aim → Exact r g g.degree b → FactsAt (after_resolution aim) (Some b)
        resolution_shown (aims.resolution ranks) a h E =
            let long = subst (IsFineAim g.degree) a fine in
            let same = ranks_are r g b E ranks (λ k. ap (λ x. told_rank x k) a) long in
            (resolution (meant r g.generators) g.degree (Ds r g b) ranks, ap (λ x. stated_of r g ls x (Some b)) a, (resolution_is r g b E, (resolution_is r g b E, same)))
        resolution_shown (aims.membership f inside) a h E = absurd h
        resolution_shown (aims.ext m n) a h E = (of, (subst HasLift (sym a) tt, omega arith, lifting_begins r g b E))
        resolution_shown (aims.root m t) a h E = (of, (subst HasLift (sym a) tt, omega arith, lifting_begins r g b E))
        resolution_shown (aims.vanishing is_zero t) a h E = (of, (subst HasLift (sym a) tt, omega arith, lifting_begins r g b E))
        resolution_shown (aims.dying e z m) a h E = (of, (subst HasLift (sym a) tt, omega arith, lifting_begins r g b E))
        resolution_shown (aims.living e z) a h E = (of, (subst HasLift (sym a) tt, omega arith, lifting_begins r g b E))
        resolution_shown (aims.inverting f power) a h E = (of, (subst HasLift (sym a) tt, omega arith, lifting_begins r g b E))
        resolution_shown (aims.support ideal) a h E = (of, (subst HasLift (sym a) tt, omega arith, lifting_begins r g b E))
        resolution_shown (aims.outgoing target x y o) a h E = (of, (subst HasLift (sym a) tt, omega arith, lifting_begins r g b E))
        resolution_shown (aims.incoming source x y o) a h E = (of, (subst HasLift (sym a) tt, omega arith, lifting_begins r g b E))

        pub exact_shown : (j : ℕ) → HasBlock g.aim → j ≤ g.degree → Exact r g j b → FactsAt (after_exact g j) (Some b)
        exact_shown j has l E = chosen (nat_lt j g.degree) (places.exactness j) (after_resolution g.aim) (Some b) (λ t. (of, (has, less j g.degree t, E)))
            (λ t. let h = not_less j g.degree t in resolution_shown g.aim refl has (subst (λ x. Exact r g x b) (let e : j ≡ g.degree = omega (arith, l, h) in e) E))

        pub naming_shown : (j : ℕ) → HasBlock g.aim → j ≤ suc g.degree → Naming r g j b → FactsAt (after_differential g j) (Some b)
        naming_shown j has l N = chosen (nat_lt j (suc g.degree)) (places.differential j) (after_exact g 0) (Some b) (λ t. let h = less j (suc g.degree) t in (of, (has, omega (arith, h), N)))
            (λ t. let h = not_less j (suc g.degree) t in
            exact_shown 0 has (omega arith) (record { named = subst (λ x. Naming r g x b) (let e : j ≡ suc g.degree = omega (arith, l, h) in e) N; exact = λ k o. absurd (omega (arith, o)) }))

        pub lift_shown : (j : ℕ) → HasLift g.aim → j ≤ suc g.degree → Lifting r g j b → FactsAt (after_lift g j) (Some b)
        lift_shown j has l L = chosen (nat_lt j (suc g.degree)) (places.lift j) places.cocycles (Some b) (λ t. let h = less j (suc g.degree) t in (of, (has, omega (arith, h), L)))
            (λ t. let h = not_less j (suc g.degree) t in (of, (has, lifted_through r g b (subst (λ x. Lifting r g x b) (let e : j ≡ suc g.degree = omega (arith, l, h) in e) L))))

        morphism_by : (aim : Aim) → g.aim ≡ aim → HasLift aim → Presented r g b → FactsAt (after_morphism aim) (Some b)
        morphism_by (aims.ext m n) a h P = (ext_of r g.degree g.generators b m n, ap (λ x. stated_of r g ls x (Some b)) a, ext_right r g b P m n (ap told_generators a) (ap told_relations a))
        morphism_by (aims.resolution ranks) a h P = absurd h
        morphism_by (aims.membership f inside) a h P = absurd h
        morphism_by (aims.root m t) a h P = (of, (subst HasChain (sym a) tt, chain_begins r g b P))
        morphism_by (aims.vanishing is_zero t) a h P = (of, (subst HasChain (sym a) tt, chain_begins r g b P))
        morphism_by (aims.dying e z m) a h P = (of, (subst HasChain (sym a) tt, chain_begins r g b P))
        morphism_by (aims.living e z) a h P = (of, (subst HasChain (sym a) tt, chain_begins r g b P))
        morphism_by (aims.inverting f power) a h P = (of, (subst HasChain (sym a) tt, chain_begins r g b P))
        morphism_by (aims.support ideal) a h P = (of, (subst HasChain (sym a) tt, chain_begins r g b P))
        morphism_by (aims.outgoing target x y o) a h P = (of, (subst HasChain (sym a) tt, chain_begins r g b P))
        morphism_by (aims.incoming source x y o) a h P = (of, (subst HasChain (sym a) tt, chain_begins r g b P))

        pub morphism_shown : HasLift g.aim → Presented r g b → FactsAt (after_morphism g.aim) (Some b)
        morphism_shown has P = morphism_by g.aim refl has P

        -- a root, whose rank and number of moves are those of the answer
        root_shown : (m t s : ℕ) → g.aim ≡ aims.root m t → t ≡ s → Repeating r g s b → IsShown r (stated_of r g ls g.aim (Some b))
        unfolding matrix_at
        root_shown m t s a moves R =
            let C = R.chained in
            let z : part_at r b.cocycles 0 ≡ part_value r C.Z = ap (λ xs. part_at r xs 0) C.Z_is in
            let rank : length (part_at r b.cocycles 0).columns ≡ m = ap (λ (A : MatrixOf r). length A.columns) z ∙ sym (columns_are r C.Z C.Z_good) ∙ sym (subst (λ x. Told (told_generators x) (columns_of C.Z)) a C.told) in
            (root_of r g.degree g.generators b m t, ap (λ x. stated_of r g ls x (Some b)) a, subst₂ (λ x y. IsRight r (root_of r g.degree g.generators b x y)) rank (sym moves) (root_right r g s b R))

        stable_by : (aim : Aim) → g.aim ≡ aim → HasChain aim → (s : ℕ) → Told (told_moves aim) s → Repeating r g s b → FactsAt (after_stable aim s) (Some b)
        stable_by (aims.membership f inside) a h s told R = absurd h
        stable_by (aims.resolution ranks) a h s told R = absurd h
        stable_by (aims.ext m n) a h s told R = absurd h
        stable_by (aims.root m t) a h s told R = root_shown m t s a told R
        stable_by (aims.vanishing true t) a h s told R = (of, (a ∙ ap (aims.vanishing true) told, R))
        stable_by (aims.vanishing false t) a h s told R = (of, (a ∙ ap (aims.vanishing false) told, R))
        stable_by (aims.dying e z m) a h s told R = (of, (subst IsClassAim (sym a) tt, R))
        stable_by (aims.living e z) a h s told R = (of, (subst IsClassAim (sym a) tt, R))
        stable_by (aims.inverting f (Some k)) a h s told R = (of, (a, R))
        stable_by (aims.inverting f None) a h s told R = (of, (a, R, colons_begin r g s b R f))
        stable_by (aims.support ideal) a h s told R = (of, (a, R))
        stable_by (aims.outgoing target x y o) a h s told R = (of, (target, x, y, o, a, R))
        stable_by (aims.incoming source x y o) a h s told R =
            let A : Sides r g b s = record { source = source; is_zero = x; is_one = y; onto = o; aim_is = a; behind = subst BehindAim a of.behind; repeating = R } in
            (of, (A, omega arith, λ l. absurd (omega (arith, l)), identity_begins r g b s A))

        pub stable_shown : (s : ℕ) → HasChain g.aim → Told (told_moves g.aim) s → Repeating r g s b → FactsAt (after_stable g.aim s) (Some b)
        stable_shown s has told R = stable_by g.aim refl has s told R

        -- the coordinates of the class of the aim
        coordinates_by : (aim : Aim) → g.aim ≡ aim → IsClassAim aim → (w : Part) (t : ℕ) → Located w t (stage_of aim) (class_of aim) b → FactsAt (after_coordinates aim w t) (Some b)
        coordinates_by (aims.membership f inside) a h w t L = absurd h
        coordinates_by (aims.resolution ranks) a h w t L = absurd h
        coordinates_by (aims.ext m n) a h w t L = absurd h
        coordinates_by (aims.root m t') a h w t L = absurd h
        coordinates_by (aims.vanishing is_zero t') a h w t L = absurd h
        coordinates_by (aims.inverting f power) a h w t L = absurd h
        coordinates_by (aims.support ideal) a h w t L = absurd h
        coordinates_by (aims.outgoing target x y o) a h w t L = absurd h
        coordinates_by (aims.incoming source x y o) a h w t L = absurd h
        coordinates_by (aims.dying e z zero) a h w t L = (of, (e, z, a, L, omega arith, λ k q. absurd (omega (arith, q))))
        coordinates_by (aims.dying e z (suc k)) a h w t L = (of, (e, z, a, L))
        coordinates_by (aims.living e z) a h w t L = (of, (e, z, a, L))

        pub coordinates_shown : (w : Part) (t : ℕ) → IsClassAim g.aim → Located w t (stage_of g.aim) (class_of g.aim) b → FactsAt (after_coordinates g.aim w t) (Some b)
        coordinates_shown w t h L = coordinates_by g.aim refl h w t L

        -- a power that annihilates; no smaller one does where it is the first of all
        pub power_shown : (f : PolyValue) (t k : ℕ) → g.aim ≡ aims.inverting f (Some k) → (R : Repeating r g t b) → Lands r g t b R f k → FactsAt (after_power f t k) (Some b)
        power_shown f t zero a R l = (inverting g.degree (ideal_of r g b) (meaning r f.terms) (Some 0), ap (λ x. stated_of r g ls x (Some b)) a, inverted_right r g t b R f 0 l (λ j q. absurd (omega (arith, q))))
        power_shown f t (suc k) a R l = (of, (a, R, l))

        -- ---- a map
        pub lambda_shown : (t : ℕ) (A : Sides r g b t) (identity : List Part) → length identity ≤ suc g.degree → ls ≡ identity → Identity r g b t A identity → FactsAt (after_lambda g t identity) (Some b)
        lambda_shown t A identity l same I = chosen (nat_lt (length identity) (suc g.degree)) (places.lambda t identity) (places.phi t identity) (Some b)
            (λ e. let h = less (length identity) (suc g.degree) e in (of, (A, omega (arith, h), λ some. same, I)))
            (λ e. let h = not_less (length identity) (suc g.degree) e in (of, (A, omega (arith, h, l), same, I)))

        -- by the answer that a map is zero, that it is one to one
        by_zero : (t : ℕ) (A : Sides r g b t) (Phi : Part) → Mapped r g b t A ls Phi → (x : Bool) → A.is_zero ≡ x → FactsAt (after_phi (aims.incoming A.source x A.is_one A.onto) t Phi) (Some b)
        by_zero t A Phi M true e = (of, (A, e, M))
        by_zero t A Phi M false e = (of, (A, e, M))

        pub phi_shown : (t : ℕ) (A : Sides r g b t) (Phi : Part) → Mapped r g b t A ls Phi → FactsAt (after_phi g.aim t Phi) (Some b)
        phi_shown t A Phi M = subst (λ x. FactsAt (after_phi x t Phi) (Some b)) (sym A.aim_is) (by_zero t A Phi M A.is_zero refl)

        by_one : (t : ℕ) (A : Sides r g b t) (Phi C : Part) → Mapped r g b t A ls Phi → ZeroSaid r g b t A Phi → Fibre r g b t A Phi C → (y : Bool) → A.is_one ≡ y
            → FactsAt (after_fibre (aims.incoming A.source A.is_zero y A.onto) t Phi C) (Some b)
        by_one t A Phi C M Z F true e = (of, (A, e, M, Z, F))
        by_one t A Phi C M Z F false e = (of, (A, e, M, Z, F))

        pub fibre_shown : (t : ℕ) (A : Sides r g b t) (Phi C : Part) → Mapped r g b t A ls Phi → ZeroSaid r g b t A Phi → Fibre r g b t A Phi C → FactsAt (after_fibre g.aim t Phi C) (Some b)
        fibre_shown t A Phi C M Z F = subst (λ x. FactsAt (after_fibre x t Phi C) (Some b)) (sym A.aim_is) (by_one t A Phi C M Z F A.is_one refl)

        -- after all links, and after some
        all_linked : (t : ℕ) (A : Sides r g b t) (Phi : Part) (D : Compared r g b t A ls Phi) (found : List Part) → Links r g b t A ls Phi D.mapped found → A.onto ≡ Some (length found) → FactsAt (after_links t Phi found) (Some b)
        all_linked t A Phi D [] K e = (of, (A, D, K, e, λ k q. absurd (omega (arith, q))))
        all_linked t A Phi D (L ∷ found) K e = (of, (A, D, K, e, omega arith))

        by_onto : (t : ℕ) (A : Sides r g b t) (Phi : Part) (D : Compared r g b t A ls Phi) (found : List Part) → Links r g b t A ls Phi D.mapped found → ((s : ℕ) → A.onto ≡ Some s → length found ≤ s) → (o : Option ℕ) → A.onto ≡ o
            → FactsAt (after_link (aims.incoming A.source A.is_zero A.is_one o) t Phi found) (Some b)
        by_onto t A Phi D found K few None e = (of, (A, D, K, e))
        by_onto t A Phi D found K few (Some s) e = chosen (nat_lt (length found) s) (places.link t Phi found) (after_links t Phi found) (Some b) (λ q. (of, (A, D, K, s, e, less (length found) s q)))
            (λ q. let h = not_less (length found) s q in let l = few s e in
            all_linked t A Phi D found K (subst (λ k. A.onto ≡ Some k) (let same : s ≡ length found = omega (arith, h, l) in same) e))

        pub link_shown : (t : ℕ) (A : Sides r g b t) (Phi : Part) (D : Compared r g b t A ls Phi) (found : List Part) → Links r g b t A ls Phi D.mapped found → ((s : ℕ) → A.onto ≡ Some s → length found ≤ s)
            → FactsAt (after_link g.aim t Phi found) (Some b)
        link_shown t A Phi D found K few = subst (λ x. FactsAt (after_link x t Phi found) (Some b)) (sym A.aim_is) (by_onto t A Phi D found K few A.onto refl)

        -- the verdict on the map
        pub map_shown : (t : ℕ) (A : Sides r g b t) (Phi : Part) → Compared r g b t A ls Phi → (o : Option ℕ) → A.onto ≡ o
            → HoldsOfOnto r.prime r.vars g.degree (ideal_of r (source_goal g A.source A.behind.name A.behind.aim) A.source.block) (ideal_of r g b) (part_values r ls) o → FactsAt places.end (Some b)
        map_shown t A Phi D o e h = (
          induced_map g.degree (ideal_of r (source_goal g A.source A.behind.name A.behind.aim) A.source.block) (ideal_of r g b) (part_values r ls) A.is_zero A.is_one A.onto,
          ap (λ x. stated_of r g ls x (Some b)) A.aim_is,
          map_right r g b t A ls Phi D
              (subst (HoldsOfOnto r.prime r.vars g.degree (ideal_of r (source_goal g A.source A.behind.name A.behind.aim) A.source.block) (ideal_of r g b) (part_values r ls)) (sym e) h),
        )
