-- The rising chain and steps in the words of contracts
use Rattle.std.proofs.Common.{ℕ, zero, suc, ◌+◌, ◌≡◌, ◌∙◌, ◌↔◌, ◌≤◌, min, refl, sym, ap, subst, subst₂, arith, List, length}
use native.Mathlib.Decide.{dec_lt, dec_le}
use Rattle.fm_gfp.specs.declared.prime.Prime.{Prime}
use Rattle.fm_algebra.specs.Families.{mul, each, read, vector}
use Rattle.fm_algebra.specs.Image as image
use Rattle.fm_algebra.proofs.Generation as generation
use Rattle.fm_algebra.specs.Polynomials.{Polynomial, polynomials, frobenius_twist}
use Rattle.fm_algebra.specs.PolynomialMatrices.{PolynomialMatrix, HasShape, matrix_product, matrix_beside, matrix_twist, vector_product, InImage, GeneratesPreimage}
use Rattle.fm_algebra.proofs.Images.{columns_within, within_columns, within_twist}
use Rattle.fm_algebra.proofs.Tables.{vector_apply, length-apply}
use Rattle.fm_algebra.proofs.ListImages.{through, turned}
use Rattle.fm_limit.specs.ResolvedIdeal.{ResolvedIdeal, matrix_at, columns_of, IsResolved}
use Rattle.fm_limit.specs.Classes.{matrices}
use Rattle.fm_limit.specs.Facts.{ColumnsInImage, PresentsExt, IsChain, IsWholeChain, steps_of, MapFacts}
use Rattle.fm_limit.proofs.Chains.{Chain, steps, rising, to_repeat, steps_exact, some_steps_exact}
use Rattle.fm_limit.proofs.Moves.{relations_begin, ext_presents}
use Rattle.fm_limit.proofs.Joins.{join_begins}
use Rattle.fm_limit.proofs.FactsRead.{matrices_laws, matrices_flat, moves_read, ext_read, member, same_members}
use Rattle.fm_limit.proofs.InducedFacts.{along, commutes, squares}
use Rattle.fm_limit.proofs.MatrixWords.{image_words, image_length, product_read, product_fits, twist_read, twist_fits, beside_read, beside_fits, preimage_from, columns_from}
use Rattle.fm_limit.proofs.Waist.{system_in}

module _ (p : Prime) (n : ℕ) where
  module _ {U : PolynomialMatrix p n} {K : ℕ → PolynomialMatrix p n} (C : IsWholeChain p n U K) where
    abbrev g : ℕ
    g = length U.columns

    abbrev u : (matrices p n).Mat g g
    u = read (polynomials p n) g g U

    abbrev k : (s : ℕ) → (matrices p n).Mat g (length (K s).columns)
    k s = read (polynomials p n) g (length (K s).columns) (K s)

    whole_read : Chain (matrices p n) g u (λ s. length (K s).columns) k
    whole_read = record {
      begins = subst (λ X. image.InImage (matrices p n) X (mul (polynomials p n) u (k zero))) (twist_read p n 1 g (length (K zero).columns) (K zero) (C.fits zero)) (subst (λ X. image.InImage (matrices p n) (read (polynomials p n) g (length (K zero).columns) (matrix_twist p n 1 (K zero))) X) (product_read p n g g (length (K zero).columns) U (K zero) C.square (C.fits zero)) ((columns_from p n g (length (K zero).columns) (length (K zero).columns) (matrix_twist p n 1 (K zero)) (matrix_product p n U (K zero)) (twist_fits p n 1 g (length (K zero).columns) (K zero) (C.fits zero)) (product_fits p n g g (length (K zero).columns) U (K zero) C.square (C.fits zero))).0 C.begins));
      step = λ s. subst (λ X. generation.Generates (matrices p n) (k (suc s)) u X) (twist_read p n 1 g (length (K s).columns) (K s) (C.fits s)) (preimage_from p n g g (length (K s).columns) (length (K (suc s)).columns) (K (suc s)) U (matrix_twist p n 1 (K s)) C.square (twist_fits p n 1 g (length (K s).columns) (K s) (C.fits s)) (C.fits (suc s)) (C.step s));
    }

    -- the chain rises
    pub rises_words : (s : ℕ) (v : List (Polynomial p n)) → InImage p n (K s) v → InImage p n (K (suc s)) v
    rises_words s v h =
        let l = image_length p n g (length (K s).columns) (K s) v (C.fits s) h in
        (image_words p n g (length (K (suc s)).columns) (K (suc s)) v (C.fits (suc s)) l).1 (rising (matrices_laws p n) whole_read s (vector (polynomials p n) g v) ((image_words p n g (length (K s).columns) (K s) v (C.fits s) l).0 h))

    module _ (t : ℕ) (rep : ColumnsInImage p n (K t) (K (suc t))) where
      same : generation.SameImage (matrices p n) (k t) (k (suc t))
      same v = (
        rising (matrices_laws p n) whole_read t v,
        columns_within (matrices_laws p n) (k t) (k (suc t)) ((columns_from p n g (length (K t).columns) (length (K (suc t)).columns) (K t) (K (suc t)) (C.fits t) (C.fits (suc t))).0 rep) v,
      )

      -- from a repeat on the chain is constant
      pub constant_words : (s : ℕ) (v : List (Polynomial p n)) → InImage p n (K s) v → InImage p n (K t) v
      constant_words s v h =
          let l = image_length p n g (length (K s).columns) (K s) v (C.fits s) h in
          (image_words p n g (length (K t).columns) (K t) v (C.fits t) l).1 (to_repeat (matrices_laws p n) whole_read t same s (vector (polynomials p n) g v) ((image_words p n g (length (K s).columns) (K s) v (C.fits s) l).0 h))

    -- steps of lists
    step_length : (e : ℕ) (w : List (Polynomial p n)) → length (vector_product p n (matrix_twist p n e U) w) ≡ g
    unfolding vector_product HasShape
    step_length e w = length-apply (polynomials p n) (matrix_twist p n e U) w ∙ (twist_fits p n e g g U C.square).0

    step_vector : (e : ℕ) (w : List (Polynomial p n)) → vector (polynomials p n) g (vector_product p n (matrix_twist p n e U) w) ≡ mul (polynomials p n) (each (polynomials p n) (frobenius_twist p n e) u) (vector (polynomials p n) g w)
    unfolding vector_product HasShape
    step_vector e w =
        let s = twist_fits p n e g g U C.square in
        vector_apply (polynomials p n) g g (matrix_twist p n e U) w s.0 s.1 ∙ ap (λ X. mul (polynomials p n) X (vector (polynomials p n) g w)) (twist_read p n e g g U C.square)

    steps_length : (s e : ℕ) (w : List (Polynomial p n)) → length w ≡ g → length (steps_of p n U s e w) ≡ g
    unfolding steps_of
    steps_length zero e w l = l
    steps_length (suc s) e w l = steps_length s (suc e) (vector_product p n (matrix_twist p n e U) w) (step_length e w)

    steps_vector : (s e : ℕ) (w : List (Polynomial p n)) → vector (polynomials p n) g (steps_of p n U s e w) ≡ steps (matrices p n) g u s e (vector (polynomials p n) g w)
    unfolding steps_of steps
    steps_vector zero e w = refl
    steps_vector (suc s) e w =
        steps_vector s (suc e) (vector_product p n (matrix_twist p n e U) w) ∙ ap (steps (matrices p n) g u s (suc e)) (step_vector e w)

    twist_member : (e s : ℕ) (w : List (Polynomial p n)) → length w ≡ g
        → InImage p n (matrix_twist p n e (K s)) w ↔ image.InImage (matrices p n) (each (polynomials p n) (frobenius_twist p n e) (k s)) (vector (polynomials p n) g w)
    twist_member e s w l =
        subst (λ X. InImage p n (matrix_twist p n e (K s)) w ↔ image.InImage (matrices p n) X (vector (polynomials p n) g w)) (twist_read p n e g (length (K s).columns) (K s) (C.fits s)) (image_words p n g (length (K s).columns) (matrix_twist p n e (K s)) w (twist_fits p n e g (length (K s).columns) (K s) (C.fits s)) l)

    end_member : (s e : ℕ) (w : List (Polynomial p n)) → length w ≡ g
        → InImage p n (matrix_twist p n (e + s) (K zero)) (steps_of p n U s e w) ↔ image.InImage (matrices p n) (each (polynomials p n) (frobenius_twist p n (e + s)) (k zero)) (steps (matrices p n) g u s e (vector (polynomials p n) g w))
    end_member s e w l =
        subst (λ x. InImage p n (matrix_twist p n (e + s) (K zero)) (steps_of p n U s e w) ↔ image.InImage (matrices p n) (each (polynomials p n) (frobenius_twist p n (e + s)) (k zero)) x) (steps_vector s e w) (twist_member (e + s) zero (steps_of p n U s e w) (steps_length s e w l))

    -- s steps end in the image of the twist of K_0 exactly if w is in the image of the twist of K_s
    pub steps_words : (s e : ℕ) (w : List (Polynomial p n)) → length w ≡ length U.columns
        → InImage p n (matrix_twist p n (e + s) (K 0)) (steps_of p n U s e w) ↔ InImage p n (matrix_twist p n e (K s)) w
    steps_words s e w l =
        through (end_member s e w l) (through (steps_exact (matrices_laws p n) whole_read (matrices_flat p n) s e (vector (polynomials p n) g w)) (turned (twist_member e s w l)))

    pub some_steps_words : (t : ℕ) → ColumnsInImage p n (K t) (K (suc t)) → (e : ℕ) (w : List (Polynomial p n)) → length w ≡ length U.columns
        → ((s : ℕ) × InImage p n (matrix_twist p n (e + s) (K 0)) (steps_of p n U s e w)) ↔ InImage p n (matrix_twist p n e (K t)) w
    some_steps_words t rep e w l = (
      λ h. (twist_member e t w l).1 ((some_steps_exact (matrices_laws p n) whole_read (matrices_flat p n) t (same t rep) e (vector (polynomials p n) g w)).0 (h.0, (end_member h.0 e w l).0 h.1)),
      λ h. (t, (steps_words t e w l).1 h),
    )

  -- ---- a chain that was computed through its repeat goes on with the member there
  module _ {U : PolynomialMatrix p n} {Ks : List (PolynomialMatrix p n)} {t : ℕ} (square : HasShape p n (length U.columns) (length U.columns) U) (begins : ColumnsInImage p n (matrix_twist p n 1 (matrix_at p n Ks 0)) (matrix_product p n U (matrix_at p n Ks 0))) (C : IsChain p n U Ks (suc t)) (rep : ColumnsInImage p n (matrix_at p n Ks t) (matrix_at p n Ks (suc t))) where
    abbrev m : ℕ
    m = length U.columns

    begins_read : image.InImage (matrices p n) (each (polynomials p n) (frobenius_twist p n 1) (member p n m Ks zero)) (mul (polynomials p n) (read (polynomials p n) m m U) (member p n m Ks zero))
    begins_read =
        let k = columns_of p n Ks zero in
        let N = matrix_at p n Ks zero in
        let f = C.fits zero (omega arith) in
        subst (λ X. image.InImage (matrices p n) X (mul (polynomials p n) (read (polynomials p n) m m U) (read (polynomials p n) m k N))) (twist_read p n 1 m k N f)
        (subst (λ X. image.InImage (matrices p n) (read (polynomials p n) m k (matrix_twist p n 1 N)) X) (product_read p n m m k U N square f) ((columns_from p n m k k (matrix_twist p n 1 N) (matrix_product p n U N) (twist_fits p n 1 m k N f) (product_fits p n m m k U N square f)).0 begins))

    same_at : (v : List (Polynomial p n)) → InImage p n (matrix_at p n Ks t) v ↔ InImage p n (matrix_at p n Ks (suc t)) v
    same_at v =
        let f = C.fits t (omega arith) in
        let h = C.fits (suc t) (omega arith) in
        let same = same_members p n m square C rep begins_read in (
          λ x.
              let l = image_length p n m (columns_of p n Ks t) (matrix_at p n Ks t) v f x in
              (image_words p n m (columns_of p n Ks (suc t)) (matrix_at p n Ks (suc t)) v h l).1 ((same (vector (polynomials p n) m v)).0 ((image_words p n m (columns_of p n Ks t) (matrix_at p n Ks t) v f l).0 x)),
          λ x.
              let l = image_length p n m (columns_of p n Ks (suc t)) (matrix_at p n Ks (suc t)) v h x in
              (image_words p n m (columns_of p n Ks t) (matrix_at p n Ks t) v f l).1 ((same (vector (polynomials p n) m v)).1 ((image_words p n m (columns_of p n Ks (suc t)) (matrix_at p n Ks (suc t)) v h l).0 x)),
        )

    goes_on_step : (s : ℕ) → GeneratesPreimage p n (matrix_at p n Ks (min (suc s) t)) U (matrix_twist p n 1 (matrix_at p n Ks (min s t)))
    goes_on_step s = elim (dec_lt s t) [
      | yes b ↦
          let q : s ≡ min s t = omega (arith, b) in
          let r : suc s ≡ min (suc s) t = omega (arith, b) in
          subst₂ (λ x y. GeneratesPreimage p n (matrix_at p n Ks x) U (matrix_twist p n 1 (matrix_at p n Ks y))) r q (C.step s (omega (arith, b)))
      | no b ↦
          let q : t ≡ min s t = omega (arith, b) in
          let r : t ≡ min (suc s) t = omega (arith, b) in
          subst₂ (λ x y. GeneratesPreimage p n (matrix_at p n Ks x) U (matrix_twist p n 1 (matrix_at p n Ks y))) r q (λ w. through (C.step t (omega arith) w) (turned (same_at w)))
    ]

    pub goes_on_words : IsWholeChain p n U (λ s. matrix_at p n Ks (min s t))
    goes_on_words = record { square = square; fits = λ s. C.fits (min s t) (omega arith); begins = begins_at (min zero t) (omega arith); step = goes_on_step }
      where
        begins_at : (x : ℕ) → x ≡ 0 → ColumnsInImage p n (matrix_twist p n 1 (matrix_at p n Ks x)) (matrix_product p n U (matrix_at p n Ks x))
        begins_at x e = subst (λ x. ColumnsInImage p n (matrix_twist p n 1 (matrix_at p n Ks x)) (matrix_product p n U (matrix_at p n Ks x))) (sym e) begins

    -- the members rise, and no step leads out of the last
    pub finite_rises_words : (s : ℕ) → s ≤ t → (v : List (Polynomial p n)) → InImage p n (matrix_at p n Ks s) v → InImage p n (matrix_at p n Ks (suc s)) v
    finite_rises_words s b v h = elim (dec_lt s t) [
      | yes c ↦
          let q : min s t ≡ s = omega (arith, c) in
          let r : min (suc s) t ≡ suc s = omega (arith, c) in
          subst (λ x. InImage p n (matrix_at p n Ks x) v) r (rises_words goes_on_words s v (subst (λ x. InImage p n (matrix_at p n Ks x) v) (sym q) h))
      | no c ↦
          let q : t ≡ s = omega (arith, b, c) in
          subst (λ x. InImage p n (matrix_at p n Ks x) v → InImage p n (matrix_at p n Ks (suc x)) v) q (same_at v).0 h
    ]

    pub finite_steps_words : (s e : ℕ) (w : List (Polynomial p n)) → length w ≡ length U.columns → s ≤ suc t
        → InImage p n (matrix_twist p n (e + s) (matrix_at p n Ks 0)) (steps_of p n U s e w) ↔ InImage p n (matrix_twist p n e (matrix_at p n Ks s)) w
    finite_steps_words s e w l b = elim (dec_le s t) [
      | yes c ↦
          let q : min s t ≡ s = omega (arith, c) in
          subst (λ x. InImage p n (matrix_twist p n (e + s) (matrix_at p n Ks 0)) (steps_of p n U s e w) ↔ InImage p n (matrix_twist p n e (matrix_at p n Ks x)) w) q (from_first (min zero t) (omega arith) (steps_words goes_on_words s e w l))
      | no c ↦
          let q : min s t ≡ t = omega (arith, c) in
          let r : suc t ≡ s = omega (arith, b, c) in
          let h = subst (λ x. InImage p n (matrix_twist p n (e + s) (matrix_at p n Ks 0)) (steps_of p n U s e w) ↔ InImage p n (matrix_twist p n e (matrix_at p n Ks x)) w) q (from_first (min zero t) (omega arith) (steps_words goes_on_words s e w l)) in
          subst (λ x. InImage p n (matrix_twist p n (e + s) (matrix_at p n Ks 0)) (steps_of p n U s e w) ↔ InImage p n (matrix_twist p n e (matrix_at p n Ks x)) w) r (through h (twisted_same e w l))
    ]
      where
        from_first : (x : ℕ) → x ≡ 0 → {X : Type 0} → InImage p n (matrix_twist p n (e + s) (matrix_at p n Ks x)) (steps_of p n U s e w) ↔ X → InImage p n (matrix_twist p n (e + s) (matrix_at p n Ks 0)) (steps_of p n U s e w) ↔ X
        from_first x q {X} h = subst (λ x. InImage p n (matrix_twist p n (e + s) (matrix_at p n Ks x)) (steps_of p n U s e w) ↔ X) q h

        twisted_same : (e : ℕ) (w : List (Polynomial p n)) → length w ≡ length U.columns → InImage p n (matrix_twist p n e (matrix_at p n Ks t)) w ↔ InImage p n (matrix_twist p n e (matrix_at p n Ks (suc t))) w
        twisted_same e w l =
            let f = C.fits t (omega arith) in
            let h = C.fits (suc t) (omega arith) in
            let same = same_members p n m square C rep begins_read in
            through (member_words e t w f l) (through (within_twist (matrices_laws p n) e (member p n m Ks t) (member p n m Ks (suc t)) (λ v x. (same v).0 x) (vector (polynomials p n) m w), within_twist (matrices_laws p n) e (member p n m Ks (suc t)) (member p n m Ks t) (λ v x. (same v).1 x) (vector (polynomials p n) m w)) (turned (member_words e (suc t) w h l)))
          where
            member_words : (e s : ℕ) (w : List (Polynomial p n)) → HasShape p n m (columns_of p n Ks s) (matrix_at p n Ks s) → length w ≡ m → InImage p n (matrix_twist p n e (matrix_at p n Ks s)) w ↔ image.InImage (matrices p n) (each (polynomials p n) (frobenius_twist p n e) (member p n m Ks s)) (vector (polynomials p n) m w)
            member_words e s w f l =
                subst (λ X. InImage p n (matrix_twist p n e (matrix_at p n Ks s)) w ↔ image.InImage (matrices p n) X (vector (polynomials p n) m w)) (twist_read p n e m (columns_of p n Ks s) (matrix_at p n Ks s) f) (image_words p n m (columns_of p n Ks s) (matrix_twist p n e (matrix_at p n Ks s)) w (twist_fits p n e m (columns_of p n Ks s) (matrix_at p n Ks s) f) l)

    pub finite_some_steps_words : (e : ℕ) (w : List (Polynomial p n)) → length w ≡ length U.columns
        → ((s : ℕ) × InImage p n (matrix_twist p n (e + s) (matrix_at p n Ks 0)) (steps_of p n U s e w)) ↔ InImage p n (matrix_twist p n e (matrix_at p n Ks t)) w
    finite_some_steps_words e w l =
        let a : min zero t ≡ 0 = omega arith in
        let b : min t t ≡ t = omega arith in
        let c : t ≡ min (suc t) t = omega arith in
        let again : ColumnsInImage p n (matrix_at p n Ks (min t t)) (matrix_at p n Ks (min (suc t) t)) = subst (λ x. ColumnsInImage p n (matrix_at p n Ks (min t t)) (matrix_at p n Ks x)) c (subst (λ x. ColumnsInImage p n (matrix_at p n Ks x) (matrix_at p n Ks t)) (sym b) itself) in
        let h = some_steps_words goes_on_words t again e w l in
        subst (λ x. ((s : ℕ) × InImage p n (matrix_twist p n (e + s) (matrix_at p n Ks x)) (steps_of p n U s e w)) ↔ InImage p n (matrix_twist p n e (matrix_at p n Ks t)) w) a
        (subst (λ x. ((s : ℕ) × InImage p n (matrix_twist p n (e + s) (matrix_at p n Ks (min zero t))) (steps_of p n U s e w)) ↔ InImage p n (matrix_twist p n e (matrix_at p n Ks x)) w) b h)
      where
        itself : ColumnsInImage p n (matrix_at p n Ks t) (matrix_at p n Ks t)
        itself =
            let f = C.fits t (omega arith) in
            let k = columns_of p n Ks t in
            (columns_from p n m k k (matrix_at p n Ks t) (matrix_at p n Ks t) f f).1 (within_columns (matrices_laws p n) (member p n m Ks t) (member p n m Ks t) (λ v h. h))

  -- ---- where a chain may begin
  begins_words : (g k : ℕ) (U N : PolynomialMatrix p n) → HasShape p n g g U → HasShape p n g k N
      → image.InImage (matrices p n) (each (polynomials p n) (frobenius_twist p n 1) (read (polynomials p n) g k N)) (mul (polynomials p n) (read (polynomials p n) g g U) (read (polynomials p n) g k N))
      → ColumnsInImage p n (matrix_twist p n 1 N) (matrix_product p n U N)
  begins_words g k U N s t h =
      (columns_from p n g k k (matrix_twist p n 1 N) (matrix_product p n U N) (twist_fits p n 1 g k N t) (product_fits p n g g k U N s t)).1
      (subst (λ X. image.InImage (matrices p n) X (read (polynomials p n) g k (matrix_product p n U N))) (sym (twist_read p n 1 g k N t)) (subst (λ X. image.InImage (matrices p n) (each (polynomials p n) (frobenius_twist p n 1) (read (polynomials p n) g k N)) X) (sym (product_read p n g g k U N s t)) h))

  pub relations_words : {i : ℕ} {I : ResolvedIdeal p n} {Z N U : PolynomialMatrix p n} → IsResolved p n i I → PresentsExt p n i I Z N U
      → ColumnsInImage p n (matrix_twist p n 1 N) (matrix_product p n U N)
  relations_words {i} {I} {Z} {N} {U} r x =
      begins_words (length Z.columns) (length N.columns) U N x.morphism_fits x.relations_fit (relations_begin (matrices_laws p n) (matrices_flat p n) (ext_read p n r x) (moves_read p n r))

  -- from resolutions and Ext alone
  pub join_words : {i : ℕ} {source target : ResolvedIdeal p n} {ZS NS US ZT NT UT Phi : PolynomialMatrix p n} {ls : List (PolynomialMatrix p n)} → IsResolved p n i source → IsResolved p n i target
      → PresentsExt p n i source ZS NS US → PresentsExt p n i target ZT NT UT → MapFacts p n i source target ls ZS ZT Phi
      → ColumnsInImage p n (matrix_twist p n 1 (matrix_beside p n NT Phi)) (matrix_product p n UT (matrix_beside p n NT Phi))
  join_words {i} {source} {target} {ZS} {NS} {US} {ZT} {NT} {UT} {Phi} S T X Y F =
      let gS = length ZS.columns in
      let gT = length ZT.columns in
      let k = length NT.columns in
      let L = matrices_laws p n in
      let flat = matrices_flat p n in
      let phi = read (polynomials p n) gT gS Phi in
      let begins = relations_begin L flat (ext_read p n T Y) (moves_read p n T) in
      let h = join_begins L (system_in p n i source) (system_in p n i target) (along p n S T X Y F) phi (squares p n S T X Y F) (commutes p n S T X Y F) (ext_presents L flat (ext_read p n S X)) (ext_presents L flat (ext_read p n T Y)) begins in
      begins_words gT (k + gS) UT (matrix_beside p n NT Phi) Y.morphism_fits (beside_fits p n gT k gS NT Phi Y.relations_fit F.fits) (subst (λ B. image.InImage (matrices p n) (each (polynomials p n) (frobenius_twist p n 1) B) (mul (polynomials p n) (read (polynomials p n) gT gT UT) B)) (sym (beside_read p n gT k gS NT Phi Y.relations_fit F.fits)) h)
