-- The facts of a system on lists of matrices, read as facts of the theory
use Rattle.std.proofs.Common.{ℕ, zero, ◌≡◌, min, subst, arith, List, length}
use Rattle.fm_gfp.specs.declared.prime.Prime.{Prime}
use Rattle.fm_algebra.specs.Families.{mul, each, read}
use Rattle.fm_algebra.specs.Image.{InImage}
use Rattle.fm_algebra.specs.Polynomials.{polynomials, frobenius_twist}
use Rattle.fm_algebra.specs.PolynomialMatrices.{PolynomialMatrix}
use Rattle.fm_limit.specs.System.{System, IsPresentedBy}
use Rattle.fm_limit.specs.ResolvedIdeal.{columns_of}
use Rattle.fm_limit.specs.Classes.{matrices}
use Rattle.fm_limit.specs.SystemFacts.{SystemFacts}
use Rattle.fm_limit.proofs.SystemMoves.{Computed, relations_begin}
use Rattle.fm_limit.proofs.FactsRead.{matrices_laws, member, repeat_read, last_same}

module _ (p : Prime) (n : ℕ) where
  module _ {D : System (matrices p n)} {Z U : PolynomialMatrix p n} {Ks : List (PolynomialMatrix p n)} {t : ℕ} (X : SystemFacts p n D Z U Ks t) where
    pub system_begins : InImage (matrices p n) (each (polynomials p n) (frobenius_twist p n 1) (member p n (length Z.columns) Ks zero)) (mul (polynomials p n) (read (polynomials p n) (length Z.columns) (length Z.columns) U) (member p n (length Z.columns) Ks zero))
    system_begins = relations_begin (matrices_laws p n) X.presents X.moves

    pub system_presents : IsPresentedBy (matrices p n) D (length Z.columns) (columns_of p n Ks (min zero t)) (read (polynomials p n) D.size (length Z.columns) Z) (member p n (length Z.columns) Ks (min zero t)) (read (polynomials p n) (length Z.columns) (length Z.columns) U)
    system_presents =
        let q : zero ≡ min zero t = omega arith in
        subst (λ x. IsPresentedBy (matrices p n) D (length Z.columns) (columns_of p n Ks x) (read (polynomials p n) D.size (length Z.columns) Z) (member p n (length Z.columns) Ks x) (read (polynomials p n) (length Z.columns) (length Z.columns) U)) q X.presents

    abbrev pub system_read : Computed (matrices p n) D
    system_read = record {
      g = length Z.columns;
      sizes = λ s. columns_of p n Ks (min s t);
      Z = read (polynomials p n) D.size (length Z.columns) Z;
      U = read (polynomials p n) (length Z.columns) (length Z.columns) U;
      K = λ s. member p n (length Z.columns) Ks (min s t);
      chain = repeat_read p n (length Z.columns) X.morphism_fits X.chain X.repeats system_begins;
      presents = system_presents;
      t = t;
      same = last_same p n (length Z.columns) Ks t;
    }
