-- The quotients of a division that ends are within the bound on exponents, where the dividend is
use Rattle.std.proofs.Common.{ℕ, zero, suc, ◌+◌, ◌-◌, ◌%◌, ◌==◌, ◌≡◌, if◌then◌else◌, nat_le, Bool, true, false, List, [], ◌∷◌, ◌++◌, Option, Some, None, Result, Ok, Err, refl, sym, ap, subst, arith}
use Rattle.std.proofs.lemmas.Bool.{and_parts, and_from}
use Rattle.std.proofs.lemmas.Bool.Decides.{nat_tests}
use Rattle.std.specs.declared.cmp.Ordering.{Ordering}
use Rattle.std.specs.declared.cmp.Ordering.TheVariants.{Less, Equal, Greater}
use Rattle.fm_tuple.specs.Tuple.{tuple_difference}
use Rattle.fm_gfp.specs.Primes.{prime_value}
use Rattle.fm_mono.specs.Bounded.{exponent_bound, is_bounded}
use Rattle.fm_poly.specs.declared.ring.Ring.{Ring}
use Rattle.fm_poly.specs.Polys.{pairs}
use Rattle.fm_poly.specs.Bounds.{AreWithinBound}
use Rattle.fm_term.specs.declared.vterm.VTerm.{VTerm}
use Rattle.fm_term.specs.Places.{term_cmp}
use Rattle.fm_term.specs.Multiples.{multiple_term, twisted}
use Rattle.fm_vec.specs.Multiples.{negated, put, put_at, plus_multiple, multiple_fits, twist_fits}
use Rattle.fm_complete.specs.declared.step.Step.{Step}
use Rattle.fm_run.specs.Runs.{Halt}
use Rattle.fm_run.specs.Runs.{Budget, Exponent}
use Rattle.fm_run.specs.Runs.{Ended}
use Rattle.fm_complete.specs.Divisors.{first_step}
use Rattle.fm_complete.specs.Reductions.{Reduced, cancelled, stepped, without_units, with_unit, reduced, divided}
use Rattle.fm_complete.specs.Divisions.{quotient_terms}
use Rattle.fm_complete.specs.Within.{AllBounded}
use Rattle.fm_complete.proofs.Heads.{found}

pub twist_bounded : (q : ℕ) (ts : List VTerm) → twist_fits q ts ≡ true → AllBounded (twisted q ts)
twist_bounded q [] h = tt
twist_bounded q (t ∷ ts) h = let h = and_parts _ _ h in (h.0, twist_bounded q ts h.1)

difference_bounded : (a b : List ℕ) → is_bounded a ≡ true → is_bounded (tuple_difference a b) ≡ true
difference_bounded [] b h = refl
difference_bounded (i ∷ a) [] h = refl
difference_bounded (i ∷ a) (j ∷ b) h = let h = and_parts _ _ h in and_from _ _ (less i j h.0) (difference_bounded a b h.1)
  where
    less : (i j : ℕ) → nat_le i exponent_bound ≡ true → nat_le (i - j) exponent_bound ≡ true
    less i j h = grind (arith, nat_tests)

module _ (r : Ring) where
  pub put_bounded : (t : VTerm) (us : List VTerm) → is_bounded t.mono ≡ true → AllBounded us → AllBounded (put r t us)
  put_bounded t [] h w = (h, tt)
  put_bounded t (u ∷ us) h w = go (term_cmp r.order u t) (put_bounded t us h w.1)
    where
      summed : (b : Bool) → AllBounded ((if b then [] else record { component = t.component; mono = t.mono; coeff = (u.coeff + t.coeff) % prime_value r.prime } ∷ []) ++ us)
      summed true = w.1
      summed false = (h, w.1)

      go : (c : Ordering) → AllBounded (put r t us) → AllBounded (put_at r t u us (put r t us) c)
      go Less later = (h, w)
      go Equal later = summed ((u.coeff + t.coeff) % prime_value r.prime == 0)
      go Greater later = (w.0, later)

  pub plus_bounded : (d : ℕ) (m : List ℕ) (g f : List VTerm) → multiple_fits m g ≡ true → AllBounded f → AllBounded (plus_multiple r d m g f)
  plus_bounded d m [] f h w = w
  plus_bounded d m (t ∷ g) f h w = let h = and_parts _ _ h in put_bounded (multiple_term r.prime d m t) (plus_multiple r d m g f) h.0 (plus_bounded d m g f h.1 w)

  module _ (members : List (List VTerm)) where
    -- the quotients of a run that ends
    abbrev Within : Result Reduced Halt → Type 0
    Within (Ok x) = (number : ℕ) → AreWithinBound (pairs (quotient_terms number x.steps))
    Within (Err e) = Unit {0}

    within_stepped : (s : Step) (d : Ended Reduced) → is_bounded s.mono ≡ true → Within d.end → Within (stepped s d).end
    within_stepped s d b h = go d.end h
      where
        go : (e : Result Reduced Halt) → Within e → Within (stepped s (record { end = e; left = d.left })).end
        go (Err e) h = tt
        go (Ok x) h = λ number. more number (s.number == number) (h number)
          where
            more : (number : ℕ) (c : Bool) → AreWithinBound (pairs (quotient_terms number x.steps))
                → AreWithinBound (pairs (if c then record { mono = s.mono; coeff = s.coeff } ∷ quotient_terms number x.steps else quotient_terms number x.steps))
            more number true w = (b, w)
            more number false w = w

    step_bounded : (t : VTerm) (s : Step) (g : List VTerm) → first_step r 1 members t ≡ Some (s, g) → is_bounded t.mono ≡ true → is_bounded s.mono ≡ true
    step_bounded t s g e h =
        let f = found r members t s g e in
        subst (λ (x : Step). is_bounded x.mono ≡ true) (sym f.step) (difference_bounded t.mono f.head.mono h)

    turned : (u : ℕ) (t : VTerm) (ts : List VTerm) (p : Step × List VTerm) → AllBounded (t ∷ ts) → first_step r 1 members t ≡ Some p
        → ((v : List VTerm) → AllBounded v → Within (reduced r members u v).end) → (b : Bool) → multiple_fits p.0.mono p.1 ≡ b
        → Within (if b then stepped p.0 (reduced r members u (cancelled r p (t ∷ ts))) else record { end = Err Exponent; left = u }).end
    turned u t ts p w e later false fits = tt
    turned u t ts p w e later true fits =
        within_stepped p.0 (reduced r members u (cancelled r p (t ∷ ts))) (step_bounded t p.0 p.1 e w.0)
        (later (cancelled r p (t ∷ ts)) (plus_bounded (negated r p.0.coeff) p.0.mono p.1 (t ∷ ts) fits w))

    within : (u : ℕ) (v : List VTerm) → AllBounded v → Within (reduced r members u v).end
    within zero [] w = λ number. tt
    within (suc u) [] w = λ number. tt
    within zero (t ∷ ts) w = go (first_step r 1 members t)
      where
        go : (o : Option (Step × List VTerm)) → Within (without_units (t ∷ ts) o).end
        go None = λ number. tt
        go (Some p) = tt
    within (suc u) (t ∷ ts) w = go (first_step r 1 members t) refl (λ v x. within u v x)
      where
        go : (o : Option (Step × List VTerm)) → first_step r 1 members t ≡ o → ((v : List VTerm) → AllBounded v → Within (reduced r members u v).end)
            → Within (with_unit r u (t ∷ ts) (λ x. reduced r members u x) o).end
        go None e later = λ number. tt
        go (Some p) e later = turned u t ts p w e later (multiple_fits p.0.mono p.1) refl

    pub quotients_bounded : (u left : ℕ) (v : List VTerm) (x : Reduced) → AllBounded v → divided r members u v ≡ record { end = Ok x; left = left }
        → (number : ℕ) → AreWithinBound (pairs (quotient_terms number x.steps))
    quotients_bounded zero left v x w e = absurd (stopped_first (ap (λ (d : Ended Reduced). d.end) e))
      where
        stopped_first : ◌≡◌ {A = Result Reduced Halt} (Err Budget) (Ok x) → ⊥
        stopped_first h = cc
    quotients_bounded (suc u) left v x w e = subst Within (ap (λ (d : Ended Reduced). d.end) e) (within u v w)
