-- Facts on lists of matrices over GF(p)[x1 .. xn], read as facts of the theory
use Rattle.std.proofs.Common.{ℕ, zero, suc, ◌<◌, ◌≤◌, ◌≡◌, ◌∙◌, min, refl, sym, ap, subst, arith, List, length}
use Rattle.fm_gfp.specs.Primes.{prime_value}
use Rattle.fm_gfp.proofs.Residues.{prime_positive}
use Rattle.fm_gfp.specs.declared.prime.Prime.{Prime}
use Rattle.fm_algebra.specs.Matrices.{IsMatrices}
use Rattle.fm_algebra.specs.Matrix.{IsShaped, InListImage}
use Rattle.fm_algebra.specs.Families.{mul, flip, each, read}
use Rattle.fm_algebra.specs.Image.{InImage}
use Rattle.fm_algebra.proofs.Generation.{Flat, IsPower, Generates, GeneratesKernel, SameImage}
use Rattle.fm_algebra.specs.Polynomials.{Polynomial, polynomials, polynomial_power, frobenius_twist}
use Rattle.fm_algebra.specs.PolynomialMatrices as words
use Rattle.fm_algebra.specs.PolynomialMatrices.{PolynomialMatrix, HasShape, matrix_product, matrix_zero, matrix_unit, matrix_transpose, matrix_column, matrix_twist, InKernel, InPreimage}
use Rattle.fm_algebra.proofs.Concrete.{polynomials_laws, polynomials_frobenius, polynomials_sliced}
use Rattle.fm_algebra.proofs.TwistWords.{power_is_twist}
use Rattle.fm_algebra.proofs.FamilyLaws.{families_laws}
use Rattle.fm_algebra.proofs.FamilyPowers.{is_power}
use Rattle.fm_algebra.proofs.Flatness.{is_flat}
use Rattle.fm_algebra.proofs.Tables.{read_zero, zero_shaped}
use Rattle.fm_algebra.proofs.Images.{columns_within}
use Rattle.fm_limit.specs.Resolution.{rank_before, d_below}
use Rattle.fm_limit.specs.ResolvedIdeal.{ResolvedIdeal, matrix_at, columns_of, rank, differential, row, InIdeal, IsResolutionOf, IsFrobeniusLiftOf, IsResolved, IsLiftOfIdentityOf}
use Rattle.fm_limit.specs.Classes.{matrices, read_at, complex_of, theta_of, lambda_of, degree_in, length_in}
use Rattle.fm_limit.specs.Facts.{ColumnsInImage, PresentsExt, IsChain}
use Rattle.fm_limit.proofs.Resolutions.{IsResolution, IsFrobeniusLift, IsLiftOfIdentity}
use Rattle.fm_limit.proofs.Chains.{Chain, rising_to, continued, last_repeats}
use Rattle.fm_limit.proofs.Moves.{Moves, Ext}
use Rattle.fm_limit.proofs.Homotopy.{lift_moves}
use Rattle.fm_limit.proofs.Reading.{one_entry, generates_kernel_read, same_read}
use Rattle.fm_limit.proofs.MatrixWords.{shape_columns, product_read, twist_read, twist_fits, transpose_read, transpose_fits, unit_read, row_fits, kernel_from, preimage_from, columns_from}

module _ (p : Prime) (n : ℕ) where
  -- ---- the theory over GF(p)[x1 .. xn]
  pub matrices_laws : IsMatrices (matrices p n)
  matrices_laws = families_laws (polynomials_laws p n) (polynomials_frobenius p n)

  pub matrices_flat : Flat (matrices p n)
  matrices_flat = is_flat (polynomials_laws p n) (polynomials_sliced p n)

  pub matrices_power : IsPower (matrices p n) (prime_value p)
  unfolding polynomial_power
  matrices_power = is_power (polynomials_laws p n) (frobenius_twist p n) (prime_value p) (λ e f. sym (power_is_twist p n e f))

  -- ---- resolutions and lifts
  pub fits_at : {gens : List (Polynomial p n)} {i : ℕ} {ds : List (PolynomialMatrix p n)} → IsResolutionOf p n gens i ds → (j : ℕ) → j ≤ i
      → IsShaped (polynomials p n) (rank p n ds j) (columns_of p n ds j) (matrix_at p n ds j)
  unfolding HasShape
  fits_at r j b = let c = r.count in r.fits j (omega arith)

  pub resolution_read : {gens : List (Polynomial p n)} {i : ℕ} {ds : List (PolynomialMatrix p n)} → IsResolutionOf p n gens i ds
      → IsResolution (matrices p n) (length gens) (read (polynomials p n) 1 (length gens) (row p n gens)) i (complex_of p n ds)
  unfolding HasShape InIdeal words.InImage InKernel
  resolution_read {gens} {i} {ds} r = record {
    generators =
        let s = fits_at r zero (omega arith) in
        same_read (polynomials p n) (frobenius_twist p n) 1 (columns_of p n ds zero) (length gens) (matrix_at p n ds zero) (row p n gens) s.0 refl (row_fits p n gens).0 (row_fits p n gens).1 (one_entry (InListImage (polynomials p n) (matrix_at p n ds zero)) (InListImage (polynomials p n) (row p n gens)) r.first);
    exact = λ j b.
        let s = fits_at r j (omega arith) in
        let t = fits_at r (suc j) (omega arith) in
        generates_kernel_read (polynomials p n) (frobenius_twist p n) (rank p n ds j) (columns_of p n ds j) (columns_of p n ds (suc j)) (matrix_at p n ds (suc j)) (matrix_at p n ds j) s.0 refl t.0 refl (r.exact j b);
  }

  pub frobenius_read : {gens : List (Polynomial p n)} {i : ℕ} {ds ts : List (PolynomialMatrix p n)} → IsResolutionOf p n gens i ds → IsFrobeniusLiftOf p n i ds ts
      → IsFrobeniusLift (matrices p n) i (complex_of p n ds) (theta_of p n ds ts)
  frobenius_read {gens} {i} {ds} {ts} r f = record {
    first = ap (read (polynomials p n) 1 1) f.first ∙ unit_read p n 1;
    square = λ j b.
        let c = f.count in
        let e = r.count in
        let d = r.fits j (omega arith) in
        sym (product_read p n (rank p n ds j) (columns_of p n ds j) (columns_of p n ds j) (matrix_at p n ds j) (matrix_at p n ts (suc j)) d (f.fits (suc j) (omega arith)))
        ∙ ap (read (polynomials p n) (rank p n ds j) (columns_of p n ds j)) (f.square j b)
        ∙ product_read p n (rank p n ds j) (rank p n ds j) (columns_of p n ds j) (matrix_at p n ts j) (matrix_twist p n 1 (matrix_at p n ds j)) (f.fits j (omega arith)) (twist_fits p n 1 (rank p n ds j) (columns_of p n ds j) (matrix_at p n ds j) d)
        ∙ ap (λ X. mul (polynomials p n) (read (polynomials p n) (rank p n ds j) (rank p n ds j) (matrix_at p n ts j)) X) (twist_read p n 1 (rank p n ds j) (columns_of p n ds j) (matrix_at p n ds j) d);
  }

  pub identity_read : {f g : List (Polynomial p n)} {i : ℕ} {ds us ls : List (PolynomialMatrix p n)} → IsResolutionOf p n f i ds → IsResolutionOf p n g i us → IsLiftOfIdentityOf p n i ds us ls
      → IsLiftOfIdentity (matrices p n) i (complex_of p n ds) (complex_of p n us) (lambda_of p n ds us ls)
  identity_read {f} {g} {i} {ds} {us} {ls} r s l = record {
    first = ap (read (polynomials p n) 1 1) l.first ∙ unit_read p n 1;
    square = λ j b.
        let c = l.count in
        let e = r.count in
        let k = s.count in
        sym (product_read p n (rank p n us j) (columns_of p n us j) (columns_of p n ds j) (matrix_at p n us j) (matrix_at p n ls (suc j)) (s.fits j (omega arith)) (l.fits (suc j) (omega arith)))
        ∙ ap (read (polynomials p n) (rank p n us j) (columns_of p n ds j)) (l.square j b)
        ∙ product_read p n (rank p n us j) (rank p n ds j) (columns_of p n ds j) (matrix_at p n ls j) (matrix_at p n ds j) (l.fits j (omega arith)) (r.fits j (omega arith));
  }

  -- what moves rest on
  pub moves_read : {i : ℕ} {I : ResolvedIdeal p n} → IsResolved p n i I → Moves (matrices p n) (degree_in p n i I)
  moves_read {i} {I} r =
      lift_moves matrices_laws (prime_value p) (prime_positive p) matrices_power i (resolution_read r.resolution) (frobenius_read r.resolution r.frobenius)

  -- ---- Ext and its generating morphism
  pub below_read : (ds : List (PolynomialMatrix p n)) (i : ℕ)
      → read (polynomials p n) (rank_before (columns_of p n ds) i) (rank p n ds i) (differential p n ds i) ≡ d_below (matrices p n) (complex_of p n ds) i
  unfolding d_below differential matrix_zero
  below_read ds zero = read_zero (polynomials p n) zero 1
  below_read ds (suc j) = refl

  pub below_fits : {gens : List (Polynomial p n)} {i : ℕ} {ds : List (PolynomialMatrix p n)} → IsResolutionOf p n gens i ds
      → HasShape p n (rank_before (columns_of p n ds) i) (rank p n ds i) (differential p n ds i)
  unfolding differential HasShape matrix_zero
  below_fits {gens} {i} {ds} r = go i (λ j b. r.fits j (let c = r.count in omega arith))
    where
      go : (k : ℕ) → ((j : ℕ) → j < k → HasShape p n (rank p n ds j) (columns_of p n ds j) (matrix_at p n ds j)) → HasShape p n (rank_before (columns_of p n ds) k) (rank p n ds k) (differential p n ds k)
      go zero f = zero_shaped (polynomials p n) zero 1
      go (suc j) f = f j (omega arith)

  pub ext_read : {i : ℕ} {I : ResolvedIdeal p n} {Z N U : PolynomialMatrix p n} → IsResolved p n i I → PresentsExt p n i I Z N U
      → Ext (matrices p n) (degree_in p n i I) (length Z.columns) (length N.columns) (read (polynomials p n) (length_in p n i I) (length Z.columns) Z) (read (polynomials p n) (length Z.columns) (length N.columns) N) (read (polynomials p n) (length Z.columns) (length Z.columns) U)
  ext_read {i} {I} {Z} {N} {U} r x =
      let ds = I.differentials in
      let a = length_in p n i I in
      let g = length Z.columns in
      let k = length N.columns in
      let high = columns_of p n ds i in
      let low = rank_before (columns_of p n ds) i in
      let d = matrix_at p n ds i in
      let t = matrix_at p n I.lift i in
      let df = (r.resolution).fits i (let c = (r.resolution).count in omega arith) in
      let tf = (r.frobenius).fits i (let c = (r.frobenius).count in omega arith) in
      let bf = below_fits r.resolution in
      record {
        cocycles = subst (λ X. GeneratesKernel (matrices p n) (read (polynomials p n) a g Z) X) (transpose_read p n a high d df) (kernel_from p n high a g Z (matrix_transpose p n d) (transpose_fits p n a high d df) x.cocycles_fit x.cocycles);
        relations = subst (λ X. Generates (matrices p n) (read (polynomials p n) g k N) (read (polynomials p n) a g Z) X) (transpose_read p n low a (differential p n ds i) bf ∙ ap (flip (polynomials p n) {m = low} {n = a}) (below_read ds i)) (preimage_from p n a g low k N Z (matrix_transpose p n (differential p n ds i)) x.cocycles_fit (transpose_fits p n low a (differential p n ds i) bf) x.relations_fit x.relations);
        morphism = ap (λ X. mul (polynomials p n) X (read (polynomials p n) a g Z)) (sym (transpose_read p n a a t tf)) ∙ sym (product_read p n a a g (matrix_transpose p n t) Z (transpose_fits p n a a t tf) x.cocycles_fit) ∙ ap (read (polynomials p n) a g) x.morphism ∙ product_read p n a g g (matrix_twist p n 1 Z) U (twist_fits p n 1 a g Z x.cocycles_fit) x.morphism_fits ∙ ap (λ X. mul (polynomials p n) X (read (polynomials p n) g g U)) (twist_read p n 1 a g Z x.cocycles_fit);
      }

  -- ---- chains
  -- member s of a list of matrices with g rows
  abbrev pub member : (g : ℕ) (Ks : List (PolynomialMatrix p n)) (s : ℕ) → (matrices p n).Mat g (columns_of p n Ks s)
  member g Ks s = read_at p n g (columns_of p n Ks s) Ks s

  -- the first members of a chain
  pub shorter : {U : PolynomialMatrix p n} {Ks : List (PolynomialMatrix p n)} {t : ℕ} → IsChain p n U Ks (suc t) → IsChain p n U Ks t
  shorter C = record { fits = λ s b. C.fits s (omega arith); step = λ s b. C.step s (omega arith) }

  module _ (g : ℕ) {U : PolynomialMatrix p n} {Ks : List (PolynomialMatrix p n)} {t : ℕ} (shape : HasShape p n g g U) (C : IsChain p n U Ks t) where
    pub member_fits : (s : ℕ) → s ≤ t → HasShape p n g (columns_of p n Ks s) (matrix_at p n Ks s)
    member_fits s b = subst (λ x. HasShape p n x (columns_of p n Ks s) (matrix_at p n Ks s)) (shape_columns p n g g U shape) (C.fits s b)

    pub step_read : (s : ℕ) → s < t
        → Generates (matrices p n) (member g Ks (suc s)) (read (polynomials p n) g g U) (each (polynomials p n) (frobenius_twist p n 1) (member g Ks s))
    step_read s b =
        let f = member_fits s (omega arith) in
        let h = member_fits (suc s) b in
        let k = columns_of p n Ks s in
        subst (λ X. Generates (matrices p n) (member g Ks (suc s)) (read (polynomials p n) g g U) X) (twist_read p n 1 g k (matrix_at p n Ks s) f)
        (preimage_from p n g g k (columns_of p n Ks (suc s)) (matrix_at p n Ks (suc s)) U (matrix_twist p n 1 (matrix_at p n Ks s)) shape (twist_fits p n 1 g k (matrix_at p n Ks s) f) h (C.step s b))

    -- the chain goes on with K_t
    pub chain_read : InImage (matrices p n) (each (polynomials p n) (frobenius_twist p n 1) (member g Ks zero)) (mul (polynomials p n) (read (polynomials p n) g g U) (member g Ks zero))
        → Generates (matrices p n) (member g Ks t) (read (polynomials p n) g g U) (each (polynomials p n) (frobenius_twist p n 1) (member g Ks t))
        → Chain (matrices p n) g (read (polynomials p n) g g U) (λ s. columns_of p n Ks (min s t)) (λ s. member g Ks (min s t))
    chain_read begins last = continued matrices_laws t begins step_read last

  -- from K_t on the continued chain is constant
  pub last_same : (g : ℕ) (Ks : List (PolynomialMatrix p n)) (t : ℕ) → SameImage (matrices p n) (member g Ks (min t t)) (member g Ks (min (suc t) t))
  last_same g Ks t =
      let a : t ≡ min t t = omega arith in
      let b : t ≡ min (suc t) t = omega arith in
      subst (λ x. SameImage (matrices p n) (member g Ks (min t t)) (member g Ks x)) b (subst (λ x. SameImage (matrices p n) (member g Ks x) (member g Ks t)) a (λ v. (λ h. h, λ h. h)))

  module _ (g : ℕ) {U : PolynomialMatrix p n} {Ks : List (PolynomialMatrix p n)} {t : ℕ} (shape : HasShape p n g g U) (C : IsChain p n U Ks (suc t)) (repeats : ColumnsInImage p n (matrix_at p n Ks t) (matrix_at p n Ks (suc t))) (begins : InImage (matrices p n) (each (polynomials p n) (frobenius_twist p n 1) (member g Ks zero)) (mul (polynomials p n) (read (polynomials p n) g g U) (member g Ks zero))) where
    pub same_members : SameImage (matrices p n) (member g Ks t) (member g Ks (suc t))
    same_members v =
        let f = member_fits g shape C t (omega arith) in
        let h = member_fits g shape C (suc t) (omega arith) in (
          rising_to matrices_laws t begins (step_read g shape C) t (omega arith) v,
          columns_within matrices_laws (member g Ks t) (member g Ks (suc t)) ((columns_from p n g (columns_of p n Ks t) (columns_of p n Ks (suc t)) (matrix_at p n Ks t) (matrix_at p n Ks (suc t)) f h).0 repeats) v,
        )

    -- a chain through its repeat
    pub repeat_read : Chain (matrices p n) g (read (polynomials p n) g g U) (λ s. columns_of p n Ks (min s t)) (λ s. member g Ks (min s t))
    repeat_read =
        chain_read g shape (shorter C) begins (last_repeats matrices_laws (member g Ks t) (member g Ks (suc t)) (step_read g shape C t (omega arith)) same_members)
