-- Least common multiples have one exponent for each variable.
use Rattle.std.proofs.Common.{ℕ, zero, suc, ◌≡◌, List, [], ◌∷◌, length, OnOk, Result, Ok, Err, sym, ap, ◌∙◌, subst, arith}
use Rattle.std.specs.declared.alloc.AllocError.{AllocError}
use Rattle.fm_tuple.specs.Tuple.{tuple_maximum}
use Rattle.fm_mono.specs.declared.order.Order.{Order}
use Rattle.fm_complete.specs.declared.critical_pair.CriticalPair.{CriticalPair}
use Rattle.fm_complete.specs.Completions.{inserted}
use Rattle.fm_complete.specs.Pairs.{ArePairsOver}
use Rattle.fm_complete.proofs.Standing.{inserted_each}

pub length_maximum : (a b : List ℕ) (n : ℕ) → length a ≡ n → length b ≡ n → length (tuple_maximum a b) ≡ n
length_maximum [] b n e f = e
length_maximum (x ∷ a) [] n e f = absurd (zero_suc (f ∙ sym e))
  where
    zero_suc : 0 ≡ suc (length a) → ⊥
    zero_suc e = omega (arith, e)
length_maximum (x ∷ a) (y ∷ b) zero e f = absurd (omega (arith, e))
length_maximum (x ∷ a) (y ∷ b) (suc n) e f = ap suc (length_maximum a b n (omega (arith, e)) (omega (arith, f)))

pub over_inserted : (n : ℕ) (o : Order) (p : CriticalPair) (pending new : List CriticalPair) (answer : Result (Unit {0}) AllocError) → length p.lcm ≡ n → ArePairsOver n pending → OnOk answer (new ≡ inserted o p pending)
    → OnOk answer (ArePairsOver n new)
over_inserted n o p pending new (Ok x) e w h = subst (ArePairsOver n) (sym h) (inserted_each (λ q. length q.lcm ≡ n) o p pending e w)
over_inserted n o p pending new (Err x) e w h = h
