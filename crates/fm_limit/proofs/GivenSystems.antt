-- Systems that are given by matrices, and modules that are given by relations and a morphism: their facts at stage 0 are facts of a system
use Rattle.std.proofs.Common.{ℕ, ◌≡◌, ◌∙◌, sym, ap, subst, List, length}
use Rattle.fm_gfp.specs.declared.prime.Prime.{Prime}
use Rattle.fm_algebra.specs.Families.{mul, each, read, unit}
use Rattle.fm_algebra.specs.Image.{InImage}
use Rattle.fm_algebra.proofs.Generation.{Generates}
use Rattle.fm_algebra.proofs.Images.{kernel_nil}
use Rattle.fm_algebra.specs.Polynomials.{polynomials, frobenius_twist}
use Rattle.fm_algebra.specs.PolynomialMatrices.{PolynomialMatrix, HasShape, matrix_product, matrix_twist, matrix_unit}
use Rattle.fm_limit.specs.System.{IsPresentedBy, MovesCoboundaries}
use Rattle.fm_limit.specs.ResolvedIdeal.{matrix_at, columns_of}
use Rattle.fm_limit.specs.Classes.{matrices}
use Rattle.fm_limit.specs.Facts.{ColumnsInImage}
use Rattle.fm_limit.specs.SystemFacts.{SystemFacts}
use Rattle.fm_limit.specs.GivenSystems.{GivenSystem, system_of, kernel_system_of, IsGivenSystem, HasMorphism, GivenFacts, KernelFacts}
use Rattle.fm_limit.specs.GivenModules.{GivenModule, IsGivenModule, module_system, ModuleFacts}
use Rattle.fm_limit.proofs.SystemInstances.{presented, moves_coboundaries, complex_modulo_twisted, complex_twisted, module_twisted, module_presented}
use Rattle.fm_limit.proofs.FactsRead.{matrices_laws, matrices_flat}
use Rattle.fm_limit.proofs.MatrixWords.{shape_columns, product_read, product_fits, twist_read, twist_fits, unit_read, unit_fits, kernel_from, preimage_from, columns_from}

module _ (p : Prime) (n : ℕ) where
  -- T sends im C into im C^[p]
  pub goes_read : (a b : ℕ) (T C : PolynomialMatrix p n) → HasShape p n a a T → HasShape p n a b C → ColumnsInImage p n (matrix_twist p n 1 C) (matrix_product p n T C)
      → InImage (matrices p n) (each (polynomials p n) (frobenius_twist p n 1) (read (polynomials p n) a b C)) (mul (polynomials p n) (read (polynomials p n) a a T) (read (polynomials p n) a b C))
  goes_read a b T C t c h =
      subst (λ X. InImage (matrices p n) X (mul (polynomials p n) (read (polynomials p n) a a T) (read (polynomials p n) a b C))) (twist_read p n 1 a b C c)
      (subst (λ Y. InImage (matrices p n) (read (polynomials p n) a b (matrix_twist p n 1 C)) Y) (product_read p n a a b T C t c) ((columns_from p n a b b (matrix_twist p n 1 C) (matrix_product p n T C) (twist_fits p n 1 a b C c) (product_fits p n a a b T C t c)).0 h))

  -- U is the move in the coordinates Z
  morphism_read : (a g : ℕ) (T Z U : PolynomialMatrix p n) → HasShape p n a a T → HasShape p n a g Z → HasShape p n g g U
      → matrix_product p n T Z ≡ matrix_product p n (matrix_twist p n 1 Z) U
      → mul (polynomials p n) (read (polynomials p n) a a T) (read (polynomials p n) a g Z) ≡ mul (polynomials p n) (each (polynomials p n) (frobenius_twist p n 1) (read (polynomials p n) a g Z)) (read (polynomials p n) g g U)
  morphism_read a g T Z U t z u q =
      sym (product_read p n a a g T Z t z)
      ∙ ap (read (polynomials p n) a g) q
      ∙ product_read p n a g g (matrix_twist p n 1 Z) U (twist_fits p n 1 a g Z z) u
      ∙ ap (λ X. mul (polynomials p n) X (read (polynomials p n) g g U)) (twist_read p n 1 a g Z z)

  module _ {G : GivenSystem p n} (H : IsGivenSystem p n G) where
    abbrev h : ℕ
    h = (G.test).rows

    abbrev m : ℕ
    m = G.size

    abbrev k : ℕ
    k = length (G.modulo).columns

    abbrev l : ℕ
    l = length (G.bounds).columns

    abbrev A : (matrices p n).Mat h m
    A = read (polynomials p n) h m G.test

    abbrev B : (matrices p n).Mat h k
    B = read (polynomials p n) h k G.modulo

    abbrev C : (matrices p n).Mat m l
    C = read (polynomials p n) m l G.bounds

    abbrev T : (matrices p n).Mat m m
    T = read (polynomials p n) m m G.step

    goes : InImage (matrices p n) ((matrices p n).twist 1 C) ((matrices p n).◌⊛◌ T C)
    goes = goes_read m l G.step G.bounds H.step_fits H.bounds_fit H.moves

    module _ {Z N U : PolynomialMatrix p n} (X : HasMorphism p n G Z N U) where
      abbrev g : ℕ
      g = length Z.columns

      relations : Generates (matrices p n) (read (polynomials p n) g (length N.columns) N) (read (polynomials p n) m g Z) C
      relations =
          preimage_from p n m g l (length N.columns) N Z G.bounds X.cocycles_fit H.bounds_fit X.relations_fit X.relations

      morphism : mul (polynomials p n) T (read (polynomials p n) m g Z) ≡ mul (polynomials p n) (each (polynomials p n) (frobenius_twist p n 1) (read (polynomials p n) m g Z)) (read (polynomials p n) g g U)
      morphism = morphism_read m g G.step Z U H.step_fits X.cocycles_fit X.morphism_fits X.morphism

  pub given_facts : {G : GivenSystem p n} {Z U : PolynomialMatrix p n} {Ks : List (PolynomialMatrix p n)} {t : ℕ} → GivenFacts p n G Z U Ks t → SystemFacts p n (system_of p n G) Z U Ks t
  given_facts {G} {Z} {U} {Ks} {t} X =
      let H = X.given in
      let E = X.morphism in
      let W = complex_modulo_twisted (matrices_laws p n) (h H) (k H) (m H) (l H) (A H) (B H) (C H) (T H) in
      record {
        cocycles_fit = E.cocycles_fit;
        morphism_fits = E.morphism_fits;
        moves = moves_coboundaries (matrices_laws p n) W (goes H);
        presents = presented (matrices_laws p n) W (matrices_flat p n) (record { cocycles = preimage_from p n (h H) (m H) (k H) (length Z.columns) Z G.test G.modulo H.test_fits H.modulo_fits E.cocycles_fit X.cocycles; relations = relations H E; morphism = morphism H E });
        chain = X.chain;
        repeats = X.repeats;
      }

  pub kernel_facts : {G : GivenSystem p n} {Z U : PolynomialMatrix p n} {Ks : List (PolynomialMatrix p n)} {t : ℕ} → KernelFacts p n G Z U Ks t → SystemFacts p n (kernel_system_of p n G) Z U Ks t
  kernel_facts {G} {Z} {U} {Ks} {t} X =
      let H = X.given in
      let E = X.morphism in
      let W = complex_twisted (matrices_laws p n) (h H) (m H) (l H) (A H) (C H) (T H) in
      record {
        cocycles_fit = E.cocycles_fit;
        morphism_fits = E.morphism_fits;
        moves = moves_coboundaries (matrices_laws p n) W (goes H);
        presents = presented (matrices_laws p n) W (matrices_flat p n) (record { cocycles = kernel_nil (matrices_laws p n) (read (polynomials p n) (m H) (length Z.columns) Z) (A H) (kernel_from p n (h H) (m H) (length Z.columns) Z G.test H.test_fits E.cocycles_fit X.cocycles); relations = relations H E; morphism = morphism H E });
        chain = X.chain;
        repeats = X.repeats;
      }

  -- ---- modules
  pub module_moves : {G : GivenModule p n} → IsGivenModule p n G → MovesCoboundaries (matrices p n) (module_system p n G)
  module_moves {G} H =
      let g = G.rank in
      let k = length (G.relations).columns in
      moves_coboundaries (matrices_laws p n) (module_twisted (matrices_laws p n) g k (read (polynomials p n) g k G.relations) (read (polynomials p n) g g G.morphism)) (goes_read g k G.morphism G.relations H.morphism_fits H.relations_fit H.morphism)

  -- the unit matrix is the matrix of coordinates
  pub module_facts : {G : GivenModule p n} {Ks : List (PolynomialMatrix p n)} {t : ℕ} → ModuleFacts p n G Ks t
      → SystemFacts p n (module_system p n G) (matrix_unit p n G.rank) G.morphism Ks t
  module_facts {G} {Ks} {t} X =
      let H = X.given in
      let c : length (matrix_unit p n G.rank).columns ≡ G.rank = shape_columns p n G.rank G.rank (matrix_unit p n G.rank) (unit_fits p n G.rank) in
      record {
        cocycles_fit = subst (λ x. HasShape p n G.rank x (matrix_unit p n G.rank)) (sym c) (unit_fits p n G.rank);
        morphism_fits = subst (λ x. HasShape p n x x G.morphism) (sym c) H.morphism_fits;
        moves = module_moves H;
        presents = subst (λ x. IsPresentedBy (matrices p n) (module_system p n G) x (columns_of p n Ks 0) (read (polynomials p n) G.rank x (matrix_unit p n G.rank)) (read (polynomials p n) x (columns_of p n Ks 0) (matrix_at p n Ks 0)) (read (polynomials p n) x x G.morphism)) (sym c) plain;
        chain = X.chain;
        repeats = X.repeats;
      }
    where
      plain : IsPresentedBy (matrices p n) (module_system p n G) G.rank (columns_of p n Ks 0) (read (polynomials p n) G.rank G.rank (matrix_unit p n G.rank)) (read (polynomials p n) G.rank (columns_of p n Ks 0) (matrix_at p n Ks 0)) (read (polynomials p n) G.rank G.rank G.morphism)
      plain =
          let g = G.rank in
          let k = length (G.relations).columns in
          subst (λ Z. IsPresentedBy (matrices p n) (module_system p n G) g (columns_of p n Ks 0) Z (read (polynomials p n) g (columns_of p n Ks 0) (matrix_at p n Ks 0)) (read (polynomials p n) g g G.morphism)) (sym (unit_read p n g))
          (subst (λ N. IsPresentedBy (matrices p n) (module_system p n G) g (length N.columns) (unit (polynomials p n) g) (read (polynomials p n) g (length N.columns) N) (read (polynomials p n) g g G.morphism)) (sym X.begins) (module_presented (matrices_laws p n) g k (read (polynomials p n) g k G.relations) (read (polynomials p n) g g G.morphism)))
