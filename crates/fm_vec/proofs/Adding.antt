-- How a multiple is added to a falling list: the term put in, and the pieces that a merge writes
use Rattle.std.proofs.Common.{ℕ, zero, suc, ◌*◌, ◌&&◌, ◌+◌, ◌%◌, ◌==◌, ◌≡◌, Bool, true, false, if◌then◌else◌, List, [], ◌∷◌, ◌++◌, take, drop, length, refl, sym, ap, ap₂, ◌∙◌, subst, append_assoc, append-nil, arith}
use Rattle.std.specs.declared.cmp.Ordering.{Ordering}
use Rattle.std.specs.declared.cmp.Ordering.TheVariants.{Less, Equal, Greater}
use Rattle.std.specs.Ordering.{ordering_reverse}
use Rattle.fm_mono.specs.declared.order.Order.{Order}
use Rattle.fm_tuple.specs.Tuple.{tuple_sum}
use Rattle.fm_mono.specs.Bounded.{is_bounded}
use Rattle.fm_gfp.specs.Primes.{prime_value}
use Rattle.fm_poly.specs.declared.ring.Ring.{Ring}
use Rattle.fm_term.specs.declared.vterm.VTerm.{VTerm}
use Rattle.fm_term.specs.Places.{term_cmp, AllBelow, Falls}
use Rattle.fm_term.specs.Multiples.{multiple_term, multiple}
use Rattle.fm_vec.specs.Multiples.{sum_term, put_at, put, plus_multiple, multiple_fits}
use Rattle.fm_term.specs.Falling.{IsTerm, AreTerms}
use Rattle.fm_vec.specs.Steps.{count_at, count_above, top_at, top_part, under_at, under_part}
use Rattle.fm_term.proofs.Falling.{below_trans}
use Rattle.fm_term.proofs.Places.{place_total, place_turned, place_shift}

-- what a loop has written once nothing is left
pub all_written : (f : List VTerm → List VTerm) (out rest all : List VTerm) → f [] ≡ [] → length rest ≡ 0 → out ++ f rest ≡ f all → out ≡ f all
all_written f out [] all none e whole = sym (append-nil out) ∙ ap (λ z. out ++ z) (sym none) ∙ whole
all_written f out (x ∷ rest) all none e whole = absurd (omega arith)

-- ---- lists below a term
-- a term of the same place
pub below_same : (o : Order) (t u : VTerm) (us : List VTerm) → term_cmp o t u ≡ Equal → AllBelow o u us → AllBelow o t us
below_same o t u [] e w = tt
below_same o t u (v ∷ us) e w =
    ((place_total o).antisymm v t ∙ ap ordering_reverse ((place_total o).congr t u v e) ∙ sym ((place_total o).antisymm v u) ∙ w.0, below_same o t u us e w.1)

place_flip : (o : Order) (t u : VTerm) → term_cmp o u t ≡ Less → term_cmp o t u ≡ Greater
place_flip o t u h = (place_total o).antisymm t u ∙ ap ordering_reverse h

below_drop : (o : Order) (t : VTerm) (n : ℕ) (us : List VTerm) → AllBelow o t us → AllBelow o t (drop n us)
below_drop o t zero us w = w
below_drop o t (suc n) [] w = tt
below_drop o t (suc n) (u ∷ us) w = below_drop o t n us w.1

falls_drop : (o : Order) (n : ℕ) (us : List VTerm) → Falls o us → Falls o (drop n us)
falls_drop o zero us w = w
falls_drop o (suc n) [] w = tt
falls_drop o (suc n) (u ∷ us) w = falls_drop o n us w.1

falls_under : (o : Order) (t : VTerm) (us : List VTerm) → Falls o us → Falls o (under_part o t us)
falls_under o t [] w = tt
falls_under o t (u ∷ us) w = go (term_cmp o u t)
  where
    go : (c : Ordering) → Falls o (under_at u us c)
    go Less = w
    go Equal = w.1
    go Greater = w

pub terms_drop : (r : Ring) (n : ℕ) (us : List VTerm) → AreTerms r.prime r.vars us → AreTerms r.prime r.vars (drop n us)
terms_drop r zero us w = w
terms_drop r (suc n) [] w = tt
terms_drop r (suc n) (u ∷ us) w = terms_drop r n us w.1

terms_under : (r : Ring) (t : VTerm) (us : List VTerm) → AreTerms r.prime r.vars us → AreTerms r.prime r.vars (under_part r.order t us)
terms_under r t [] w = tt
terms_under r t (u ∷ us) w = go (term_cmp r.order u t)
  where
    go : (c : Ordering) → AreTerms r.prime r.vars (under_at u us c)
    go Less = w
    go Equal = w.1
    go Greater = w

module _ (r : Ring) where
  abbrev o : Order
  o = r.order

  -- ---- a term put in
  put_top : (t : VTerm) (us : List VTerm) → AllBelow o t us → put r t us ≡ t ∷ us
  put_top t [] w = refl
  put_top t (u ∷ us) w = ap (put_at r t u us (put r t us)) w.0

  put_pass : (t u : VTerm) (us : List VTerm) → term_cmp o u t ≡ Greater → put r t (u ∷ us) ≡ u ∷ put r t us
  put_pass t u us h = ap (put_at r t u us (put r t us)) h

  pub put_tie : (t u : VTerm) (us : List VTerm) → term_cmp o u t ≡ Equal → put r t (u ∷ us) ≡ sum_term r u t ++ us
  put_tie t u us h = ap (put_at r t u us (put r t us)) h

  below_sum : (x t u : VTerm) (us : List VTerm) → term_cmp o t x ≡ Less → AllBelow o x us → AllBelow o x (sum_term r u t ++ us)
  below_sum x t u us h w = go ((u.coeff + t.coeff) % prime_value r.prime == 0)
    where
      go : (b : Bool)
          → AllBelow o x ((if b then [] else record { component = t.component; mono = t.mono; coeff = (u.coeff + t.coeff) % prime_value r.prime } ∷ []) ++ us)
      go true = w
      go false = (h, w)

  -- what is above t and us is above us with t
  below_put : (x t : VTerm) (us : List VTerm) → term_cmp o t x ≡ Less → AllBelow o x us → AllBelow o x (put r t us)
  below_put x t [] h w = (h, tt)
  below_put x t (u ∷ us) h w = go (term_cmp o u t) (below_put x t us h w.1)
    where
      go : (c : Ordering) → AllBelow o x (put r t us) → AllBelow o x (put_at r t u us (put r t us) c)
      go Less later = (h, w)
      go Equal later = below_sum x t u us h w.1
      go Greater later = (w.0, later)

  falls_sum : (t u : VTerm) (us : List VTerm) → term_cmp o u t ≡ Equal → Falls o (u ∷ us) → Falls o (sum_term r u t ++ us)
  falls_sum t u us e w = go ((u.coeff + t.coeff) % prime_value r.prime == 0)
    where
      tied : term_cmp o t u ≡ Equal
      tied = (place_total o).antisymm t u ∙ ap ordering_reverse e

      go : (b : Bool)
          → Falls o ((if b then [] else record { component = t.component; mono = t.mono; coeff = (u.coeff + t.coeff) % prime_value r.prime } ∷ []) ++ us)
      go true = w.1
      go false = (below_same o t u us tied w.0, w.1)

  pub put_falls : (t : VTerm) (us : List VTerm) → Falls o us → Falls o (put r t us)
  put_falls t [] w = (tt, tt)
  put_falls t (u ∷ us) w = go (term_cmp o u t) refl (put_falls t us w.1)
    where
      go : (c : Ordering) → term_cmp o u t ≡ c → Falls o (put r t us) → Falls o (put_at r t u us (put r t us) c)
      go Less e later = ((e, below_trans o t u us e w.0), w)
      go Equal e later = falls_sum t u us e w
      go Greater e later = (below_put u t us (place_turned o t u e) w.0, later)

  -- ---- multiples
  module _ (d : ℕ) (m : List ℕ) where
    pub below_plus : (x : VTerm) (g f : List VTerm) → AllBelow o x (multiple r.prime d m g) → AllBelow o x f → AllBelow o x (plus_multiple r d m g f)
    below_plus x [] f w v = v
    below_plus x (y ∷ g) f w v = below_put x (multiple_term r.prime d m y) (plus_multiple r d m g f) w.0 (below_plus x g f w.1 v)

    pub plus_falls : (g f : List VTerm) → Falls o f → Falls o (plus_multiple r d m g f)
    plus_falls [] f w = w
    plus_falls (y ∷ g) f w = put_falls (multiple_term r.prime d m y) (plus_multiple r d m g f) (plus_falls g f w)

    -- a first term above the multiple stays first
    pub plus_pass : (u : VTerm) (g us : List VTerm) → AllBelow o u (multiple r.prime d m g) → plus_multiple r d m g (u ∷ us) ≡ u ∷ plus_multiple r d m g us
    plus_pass u [] us w = refl
    plus_pass u (y ∷ g) us w =
        ap (put r (multiple_term r.prime d m y)) (plus_pass u g us w.1) ∙ put_pass (multiple_term r.prime d m y) u (plus_multiple r d m g us) (place_flip o u (multiple_term r.prime d m y) w.0)

    pub below_multiple : (y : VTerm) (g : List VTerm) → length m ≡ r.vars → IsTerm r.prime r.vars y → AreTerms r.prime r.vars g → AllBelow o y g
        → AllBelow o (multiple_term r.prime d m y) (multiple r.prime d m g)
    below_multiple y [] l term terms w = tt
    below_multiple y (x ∷ g) l term terms w = (
      place_shift o m x y ((d * x.coeff) % prime_value r.prime) ((d * y.coeff) % prime_value r.prime) (terms.0.fits ∙ sym l) (term.fits ∙ sym l) ∙ w.0,
      below_multiple y g l term terms.1 w.1,
    )

    pub multiple_falls : (g : List VTerm) → length m ≡ r.vars → AreTerms r.prime r.vars g → Falls o g → Falls o (multiple r.prime d m g)
    multiple_falls [] l terms w = tt
    multiple_falls (y ∷ g) l terms w = (below_multiple y g l terms.0 terms.1 w.0, multiple_falls g l terms.1 w.1)

    -- ---- the pieces of a merge
    -- what is left of the list once t is written
    abbrev pub left_over : VTerm → List VTerm → List VTerm
    left_over t f = under_part o t (drop (count_above o t f) f)

    split : (t : VTerm) (g f : List VTerm) → Falls o f → AllBelow o t (multiple r.prime d m g)
        → put r t (plus_multiple r d m g f)
        ≡ take (count_above o t f) f ++ (top_part r t (drop (count_above o t f) f) ++ plus_multiple r d m g (left_over t f))
    split t g [] w v = put_top t (plus_multiple r d m g []) (below_plus t g [] v tt)
    split t g (u ∷ us) w v = go (term_cmp o u t) refl (split t g us w.1 v)
      where
        go : (c : Ordering) → term_cmp o u t ≡ c
            → put r t (plus_multiple r d m g us) ≡ take (count_above o t us) us ++ (top_part r t (drop (count_above o t us) us) ++ plus_multiple r d m g (left_over t us))
            → put r t (plus_multiple r d m g (u ∷ us))
            ≡ take (count_at (count_above o t us) c) (u ∷ us)
            ++ (top_part r t (drop (count_at (count_above o t us) c) (u ∷ us)) ++ plus_multiple r d m g (under_part o t (drop (count_at (count_above o t us) c) (u ∷ us))))
        go Less e later =
            put_top t (plus_multiple r d m g (u ∷ us)) (below_plus t g (u ∷ us) v (e, below_trans o t u us e w.0))
            ∙ ap₂ (λ x y. top_at r t u x ++ plus_multiple r d m g (under_at u us y)) (sym e) (sym e)
        go Equal e later =
            ap (put r t) (plus_pass u g us (below_same o u t (multiple r.prime d m g) e v))
            ∙ put_tie t u (plus_multiple r d m g us) e
            ∙ ap₂ (λ x y. top_at r t u x ++ plus_multiple r d m g (under_at u us y)) (sym e) (sym e)
        go Greater e later =
            ap (put r t) (plus_pass u g us (below_trans o u t (multiple r.prime d m g) (place_turned o t u e) v))
            ∙ put_pass t u (plus_multiple r d m g us) e ∙ ap (λ z. u ∷ z) later

    -- ---- the merge: what is written, and what is left of both lists
    pub record Adding (all_g all_f begun out g f : List VTerm) : Type 0 where
      pub falls_g : Falls o g
      pub falls_f : Falls o f
      pub terms_g : AreTerms r.prime r.vars g
      pub terms_f : AreTerms r.prime r.vars f
      pub whole : out ++ plus_multiple r d m g f ≡ begun ++ plus_multiple r d m all_g all_f
      pub fit : multiple_fits m g ≡ multiple_fits m all_g

    turn_at : (all_g all_f begun out f : List VTerm) (y : VTerm) (ys : List VTerm) → length m ≡ r.vars → is_bounded (tuple_sum m y.mono) ≡ true
        → Adding all_g all_f begun out (y ∷ ys) f
        → Adding all_g all_f begun ((out ++ take (count_above o (multiple_term r.prime d m y) f) f) ++ top_part r (multiple_term r.prime d m y) (drop (count_above o (multiple_term r.prime d m y) f) f))
        ys (left_over (multiple_term r.prime d m y) f)
    turn_at all_g all_f begun out f y ys l fits a = record {
      falls_g = a.falls_g.1;
      falls_f = falls_under o t (drop (count_above o t f) f) (falls_drop o (count_above o t f) f a.falls_f);
      terms_g = a.terms_g.1;
      terms_f = terms_under r t (drop (count_above o t f) f) (terms_drop r (count_above o t f) f a.terms_f);
      whole = append_assoc (out ++ take (count_above o t f) f) (top_part r t (drop (count_above o t f) f)) (plus_multiple r d m ys (left_over t f))
          ∙ append_assoc out (take (count_above o t f) f) (top_part r t (drop (count_above o t f) f) ++ plus_multiple r d m ys (left_over t f))
          ∙ ap (λ z. out ++ z) (sym (split t ys f a.falls_f (below_multiple y ys l a.terms_g.0 a.terms_g.1 a.falls_g.0))) ∙ a.whole;
      fit = ap (λ b. b && multiple_fits m ys) (sym fits) ∙ a.fit;
    }
      where
        t : VTerm
        t = multiple_term r.prime d m y

    pub turn : (all_g all_f begun : List VTerm) {out out' out'' g f f' f'' : List VTerm} {y t : VTerm} {ys : List VTerm} → length m ≡ r.vars
        → g ≡ y ∷ ys → is_bounded (tuple_sum m y.mono) ≡ true → t ≡ multiple_term r.prime d m y
        → out' ≡ out ++ take (count_above o t f) f → f' ≡ drop (count_above o t f) f
        → out'' ≡ out' ++ top_part r t f' → f'' ≡ under_part o t f'
        → Adding all_g all_f begun out g f → Adding all_g all_f begun out'' ys f''
    turn all_g all_f begun {out} {out'} {out''} {g} {f} {f'} {f''} {y} {t} {ys} l eg fits et eo ef eo2 ef2 a =
        subst (λ z. Adding all_g all_f begun z ys f'') (sym (eo2 ∙ ap₂ (λ x z. x ++ top_part r t z) eo ef ∙ ap (λ x. (out ++ take (count_above o x f) f) ++ top_part r x (drop (count_above o x f) f)) et))
        (subst (λ z. Adding all_g all_f begun ((out ++ take (count_above o (multiple_term r.prime d m y) f) f) ++ top_part r (multiple_term r.prime d m y) (drop (count_above o (multiple_term r.prime d m y) f) f)) ys z)
        (sym (ef2 ∙ ap (under_part o t) ef ∙ ap (λ x. under_part o x (drop (count_above o x f) f)) et))
        (turn_at all_g all_f begun out f y ys l fits (subst (λ z. Adding all_g all_f begun out z f) eg a)))
