-- Lists of terms: their order, their meaning, and what a merge does to both
use Rattle.std.proofs.Common.{◌≡◌, ◌<◌, ℕ, List, [], ◌∷◌, ◌++◌, length, refl, ap, sym, ◌∙◌, subst}
use Rattle.std.proofs.lemmas.List.{map-append}
use Rattle.std.specs.declared.cmp.Ordering.{Ordering}
use Rattle.std.specs.declared.cmp.Ordering.TheVariants.{Less}
use Rattle.fm_mono.specs.declared.order.Order.{Order}
use Rattle.fm_mono.specs.Orders.{monomial_cmp}
use Rattle.fm_mono.proofs.OrderLaws.{monomial_cmp_total, monomial_cmp_exact, monomial_cmp_sum, monomial_cmp_trans}
use Rattle.fm_gfp.specs.Primes.{prime_value}
use Rattle.fm_gfp.specs.declared.prime.Prime.{Prime}
use Rattle.fm_algebra.specs.Heads.{IsMonomialOrder, AllLess, IsFalling}
use Rattle.fm_algebra.specs.Polynomials.{polynomial_zero, polynomial_sum, polynomial_term, polynomial_of, AreListedTerms}
use Rattle.fm_algebra.proofs.TermWords.{of_append}
use Rattle.fm_poly.specs.declared.ring.Ring.{Ring}
use Rattle.fm_poly.specs.declared.term.Term.{Term}
use Rattle.fm_poly.specs.Polys.{pairs, meaning, IsCanonical}

-- the three orders are monomial orders
pub monomial_order : (o : Order) → IsMonomialOrder (monomial_cmp o)
monomial_order o = record { total = monomial_cmp_total o; exact = monomial_cmp_exact o; respects = monomial_cmp_sum o }

-- ---- falling lists
module _ (o : Order) where
  abbrev R : List ℕ → List ℕ → Ordering
  R = monomial_cmp o

  abbrev pub Below : List ℕ → List Term → Type 0
  Below a ts = AllLess (monomial_cmp o) a (pairs ts)

  abbrev pub Falls : List Term → Type 0
  Falls ts = IsFalling (monomial_cmp o) (pairs ts)

  pub below_trans : (a b : List ℕ) (ts : List Term) → R b a ≡ Less → Below b ts → Below a ts
  below_trans a b [] h w = tt
  below_trans a b (t ∷ ts) h w = (monomial_cmp_trans o t.mono b a w.0 h, below_trans a b ts h w.1)

  below_inserted : (a : List ℕ) (out : List Term) (x : Term) (fs g : List Term) → Below a (out ++ x ∷ fs) → Below a (out ++ g) → Below a (out ++ x ∷ g)
  below_inserted a [] x fs g w v = (w.0, v)
  below_inserted a (u ∷ out) x fs g w v = (w.0, below_inserted a out x fs g w.1 v.1)

  -- what is above all of g may come before g
  pub falls_inserted : (out : List Term) (x : Term) (fs g : List Term) → Falls (out ++ x ∷ fs) → Falls (out ++ g) → Below x.mono g → Falls (out ++ x ∷ g)
  falls_inserted [] x fs g w v b = (b, v)
  falls_inserted (u ∷ out) x fs g w v b = (below_inserted u.mono out x fs g w.0 v.0, falls_inserted out x fs g w.1 v.1 b)

  below_removed : (a : List ℕ) (out : List Term) (x : Term) (fs : List Term) → Below a (out ++ x ∷ fs) → Below a (out ++ fs)
  below_removed a [] x fs w = w.1
  below_removed a (u ∷ out) x fs w = (w.0, below_removed a out x fs w.1)

  pub falls_removed : (out : List Term) (x : Term) (fs : List Term) → Falls (out ++ x ∷ fs) → Falls (out ++ fs)
  falls_removed [] x fs w = w.1
  falls_removed (u ∷ out) x fs w = (below_removed u.mono out x fs w.0, falls_removed out x fs w.1)

  below_renamed : (a : List ℕ) (out : List Term) (x z : Term) (fs : List Term) → z.mono ≡ x.mono → Below a (out ++ x ∷ fs) → Below a (out ++ z ∷ fs)
  below_renamed a [] x z fs e w = (ap (λ m. R m a) e ∙ w.0, w.1)
  below_renamed a (u ∷ out) x z fs e w = (w.0, below_renamed a out x z fs e w.1)

  -- another coefficient changes no order
  pub falls_renamed : (out : List Term) (x z : Term) (fs : List Term) → z.mono ≡ x.mono → Falls (out ++ x ∷ fs) → Falls (out ++ z ∷ fs)
  falls_renamed [] x z fs e w = (subst (λ m. Below m fs) (sym e) w.0, w.1)
  falls_renamed (u ∷ out) x z fs e w = (below_renamed u.mono out x z fs e w.0, falls_renamed out x z fs e w.1)

  pub falls_back : (out fs : List Term) → Falls (out ++ fs) → Falls fs
  falls_back [] fs w = w
  falls_back (u ∷ out) fs w = falls_back out fs w.1

  below_front : (a : List ℕ) (out fs : List Term) → Below a (out ++ fs) → Below a out
  below_front a [] fs w = tt
  below_front a (u ∷ out) fs w = (w.0, below_front a out fs w.1)

  pub falls_front : (out fs : List Term) → Falls (out ++ fs) → Falls out
  falls_front [] fs w = tt
  falls_front (u ∷ out) fs w = (below_front u.mono out fs w.0, falls_front out fs w.1)

-- ---- listed terms
module _ (p : Prime) (n : ℕ) where
  abbrev pub Listed : List Term → Type 0
  Listed ts = AreListedTerms p n (pairs ts)

  pub listed_append : (ts us : List Term) → Listed ts → Listed us → Listed (ts ++ us)
  listed_append [] us w v = v
  listed_append (t ∷ ts) us w v = (w.0, w.1, w.2, listed_append ts us w.3 v)

  pub listed_back : (ts us : List Term) → Listed (ts ++ us) → Listed us
  listed_back [] us w = w
  listed_back (t ∷ ts) us w = listed_back ts us w.3

  pub listed_front : (ts us : List Term) → Listed (ts ++ us) → Listed ts
  listed_front [] us w = tt
  listed_front (t ∷ ts) us w = (w.0, w.1, w.2, listed_front ts us w.3)

-- ---- pieces of a canonical list
module _ (r : Ring) where
  pub canonical_front : (ts us : List Term) → IsCanonical r (ts ++ us) → IsCanonical r ts
  canonical_front ts us c = record { listed = listed_front r.prime r.vars ts us c.listed; falls = falls_front r.order ts us c.falls }

  pub canonical_back : (ts us : List Term) → IsCanonical r (ts ++ us) → IsCanonical r us
  canonical_back ts us c = record { listed = listed_back r.prime r.vars ts us c.listed; falls = falls_back r.order ts us c.falls }

  pub canonical_empty : IsCanonical r []
  canonical_empty = record { listed = tt; falls = tt }

  pub canonical_one : (t : Term) → length t.mono ≡ r.vars → 0 < t.coeff → t.coeff < prime_value r.prime → IsCanonical r (t ∷ [])
  canonical_one t l positive below = record { listed = (l, positive, below, tt); falls = (tt, tt) }

  -- ---- the meaning of lists
  pub meaning_append : (ts us : List Term) → meaning r (ts ++ us) ≡ polynomial_sum r.prime r.vars (meaning r ts) (meaning r us)
  unfolding meaning
  meaning_append ts us = ap (polynomial_of r.prime r.vars) (map-append (λ t. (t.mono, t.coeff)) ts us) ∙ of_append r.prime r.vars (pairs ts) (pairs us)

  pub meaning_empty : meaning r [] ≡ polynomial_zero r.prime r.vars
  unfolding meaning polynomial_of
  meaning_empty = refl

  pub meaning_cons : (t : Term) (ts : List Term) → meaning r (t ∷ ts) ≡ polynomial_sum r.prime r.vars (polynomial_term r.prime r.vars t.coeff t.mono) (meaning r ts)
  unfolding meaning polynomial_of
  meaning_cons t ts = refl
