-- The lexicographic order of the tuples respects sums; it serves to prove that GF(p)[x1 .. xn] is a domain
use Rattle.std.proofs.Common.{◌≡◌, ◌<◌, ℕ, ◌+◌, List, [], ◌∷◌, length, ap₂, sym, arith, refl, nat_cmp, Less, Equal, Greater}
use Rattle.std.specs.Cmp.{nat_cmp_is, ranks}
use Rattle.std.specs.Cmp.Lexicographic.{nat_list_cmp_total}
use Rattle.std.specs.FinMap.{nat_cmp-IsAntisymmetric, slice_cmp-IsAntisymmetric}
use Rattle.std.specs.Ordering.{MatchOrdering, ordering_then}
use Rattle.std.specs.declared.cmp.Ordering.{Ordering}
use Rattle.fm_tuple.specs.Tuple.{tuple_sum}
use Rattle.fm_algebra.specs.Poly.{tuple_cmp}
use Rattle.fm_algebra.specs.Heads.{IsMonomialOrder}

shifted : (r : Ordering) (i j k : ℕ) → MatchOrdering r (i < j) (i ≡ j) (j < i) → MatchOrdering r (i + k < j + k) (i + k ≡ j + k) (j + k < i + k)
shifted Less i j k h = omega arith
shifted Equal i j k h = omega arith
shifted Greater i j k h = omega arith

pub nat_cmp_add : (i j k : ℕ) → nat_cmp (i + k) (j + k) ≡ nat_cmp i j
nat_cmp_add i j k = sym (nat_cmp_is (i + k) (j + k) (nat_cmp i j) (shifted (nat_cmp i j) i j k (ranks i j)))

pub lex_respects : (a b c : List ℕ) → length a ≡ length c → length b ≡ length c → tuple_cmp (tuple_sum a c) (tuple_sum b c) ≡ tuple_cmp a b
lex_respects [] [] [] l m = refl
lex_respects [] [] (k ∷ c) l m = absurd (omega arith)
lex_respects [] (j ∷ b) [] l m = absurd (omega arith)
lex_respects [] (j ∷ b) (k ∷ c) l m = absurd (omega arith)
lex_respects (i ∷ a) [] c l m = absurd (omega arith)
lex_respects (i ∷ a) (j ∷ b) [] l m = absurd (omega arith)
lex_respects (i ∷ a) (j ∷ b) (k ∷ c) l m = ap₂ ordering_then (nat_cmp_add i j k) (lex_respects a b c (omega arith) (omega arith))

pub lex_order : IsMonomialOrder tuple_cmp
lex_order = record {
  total = nat_list_cmp_total;
  exact = slice_cmp-IsAntisymmetric nat_cmp-IsAntisymmetric;
  respects = lex_respects;
}
