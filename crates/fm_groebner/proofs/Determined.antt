-- A log determines its members: reductions, kept rests and runs have one outcome.
use Rattle.std.proofs.Common.{◌≡◌, ℕ, ◌*◌, ◌%◌, ◌<◌, Bool, List, [], ◌∷◌, ◌++◌, Contains, refl, sym, ap, ap₂, ◌∙◌, subst, mod-eq_of_lt}
use Rattle.fm_gfp.specs.Primes.{prime_value}
use Rattle.fm_gfp.specs.declared.prime.Prime.{Prime}
use Rattle.fm_tuple.specs.Tuple.{tuple_difference}
use Rattle.fm_mono.specs.declared.order.Order.{Order}
use Rattle.fm_algebra.specs.Gf.{gf}
use Rattle.fm_algebra.proofs.Gf.{gf_laws}
use Rattle.fm_term.specs.declared.vterm.VTerm.{VTerm}
use Rattle.fm_term.specs.Falling.{IsFalling, AreFalling, IsMonic}
use Rattle.fm_term.specs.Multiples.{multiple, scaled}
use Rattle.fm_term.specs.Meanings.{vector_of}
use Rattle.fm_groebner.specs.Logs.{IsNumber, ReducesBy, no_more, one_more, IsKept, dropped, kept, IsSVector, Input, Pair, Skip, Entry, FreeRun, begin, take_input, take_pair, skip_pair}
use Rattle.fm_groebner.proofs.Setting.{shift}
use Rattle.fm_groebner.proofs.Monomials.{Monomial, difference, maximum}
use Rattle.fm_groebner.proofs.Numbers.{number_same, number_of_in, in_of_contains, contains_of_in, in_of_number}
use Rattle.fm_groebner.proofs.TermValues.{space, list_value, number, fits_of, all_fit, number_nonzero, number_times}
use Rattle.fm_groebner.proofs.MonicLists.{AllMonic, taken_away, reduces_falling}
use Rattle.fm_groebner.proofs.Bases.{inverse_of}
use Rattle.fm_groebner.proofs.NormalForms.{same_terms}
use Rattle.fm_groebner.proofs.Logs.{members_of_run}

heads : {A : Type 0} {x y : A} {u v : List A} → x ∷ u ≡ y ∷ v → x ≡ y
heads e = cc

tails : {A : Type 0} {x y : A} {u v : List A} → x ∷ u ≡ y ∷ v → u ≡ v
tails e = cc

module _ (p : Prime) (n m : ℕ) (o : Order) where
  -- the factor that cancels a head is determined modulo p
  same_factor : (c d t s : ℕ) → 0 < t → t < prime_value p → (c * t) % prime_value p ≡ s → (d * t) % prime_value p ≡ s → number p n m o c ≡ number p n m o d
  same_factor c d t s pos h e f =
      let i = inverse_of p n m o (number p n m o t) (number_nonzero p n m o t pos h) in
      let back : (x : ℕ) → (x * t) % prime_value p ≡ s → number p n m o x ≡ (gf p).mul (number p n m o s) i.0 =
      λ x q. sym (ap (λ z. (gf p).mul z i.0) (sym (ap (number p n m o) q) ∙ number_times p n m o x t)
      ∙ (gf_laws p).mul_assoc (number p n m o x) (number p n m o t) i.0
      ∙ ap ((gf p).mul (number p n m o x)) ((gf_laws p).mul_comm (number p n m o t) i.0 ∙ i.1)
      ∙ (gf_laws p).mul_comm (number p n m o x) (gf p).one ∙ (gf_laws p).one_mul (number p n m o x)) in
      back c e ∙ sym (back d f)

  -- the falling list of a vector with a multiple taken away
  same_taken : (w g v u : List VTerm) (c d : ℕ) (a : Monomial n) → IsFalling p n m o g → IsFalling p n m o v → IsFalling p n m o u → number p n m o c ≡ number p n m o d
      → vector_of p n m (v ++ multiple p c a.exponents g) ≡ vector_of p n m w → vector_of p n m (u ++ multiple p d a.exponents g) ≡ vector_of p n m w → v ≡ u
  same_taken w g v u c d a fg fv fu e q r = same_terms p n m o v u fv fu (λ b.
      taken_away p n m o v w g c a (all_fit p n m o g fg) q b
      ∙ ap (λ x. (gf p).add ((gf p).mul ((gf p).neg x) (shift (space p n m o) a (list_value p n m o g) b)) (list_value p n m o w b)) e
      ∙ sym (taken_away p n m o u w g d a (all_fit p n m o g fg) r b))

  module _ (ms : List (List VTerm)) (falling : AreFalling p n m o ms) where
    step_unique : {k : ℕ} (s : VTerm) {t u : VTerm} (vs : List VTerm) {ts us v w : List VTerm} (c d : ℕ) → IsFalling p n m o (s ∷ vs) → IsNumber ms k (t ∷ ts) → IsNumber ms k (u ∷ us)
        → (c * t.coeff) % prime_value p ≡ s.coeff → (d * u.coeff) % prime_value p ≡ s.coeff → IsFalling p n m o v → IsFalling p n m o w
        → vector_of p n m (v ++ multiple p c (tuple_difference s.mono t.mono) (t ∷ ts)) ≡ vector_of p n m (s ∷ vs)
        → vector_of p n m (w ++ multiple p d (tuple_difference s.mono u.mono) (u ∷ us)) ≡ vector_of p n m (s ∷ vs) → v ≡ w
    step_unique {k} s {t} {u} vs {ts} {us} {v} {w} c d f i j e e' fv fw q r =
        let same = number_same i j in
        let g = falling (t ∷ ts) (contains_of_in (in_of_number i)) in
        let ft = fits_of p n m o t g in
        let fs = fits_of p n m o s f in
        let at : Monomial n = record { exponents = t.mono; fits = ft.exponents } in
        let of : Monomial n = record { exponents = s.mono; fits = fs.exponents } in
        let e'' : (d * t.coeff) % prime_value p ≡ s.coeff = ap (λ x. (d * x.coeff) % prime_value p) (heads same) ∙ e' in
        same_taken (s ∷ vs) (t ∷ ts) v w c d (difference of at) g fv fw (same_factor c d t.coeff s.coeff g.proper.0.positive g.proper.0.below e e'') q
        (ap₂ (λ x xs. vector_of p n m (w ++ multiple p d (tuple_difference s.mono x.mono) (x ∷ xs))) (heads same) (tails same) ∙ r)

    pub reduction_unique : {bound : List ℕ → Bool} → {by : List ℕ} {v r r' : List VTerm} → ReducesBy p n m o bound ms by v r → ReducesBy p n m o bound ms by v r' → IsFalling p n m o v → r ≡ r'
    reduction_unique no_more no_more f = refl
    reduction_unique {bound = bound} {r' = r'} (one_more {by = by} {s = s} {vs = vs} c i dv e fv w q red) (one_more c' i' dv' e' fv' w' q' red') f =
        reduction_unique red (subst (λ z. ReducesBy p n m o bound ms by z r') (sym (step_unique s vs c c' f i i' e e' fv fv' q q')) red') fv

    -- a reduction may be continued
    pub reduction_more : {bound : List ℕ → Bool} → {by more : List ℕ} {v u r : List VTerm} → ReducesBy p n m o bound ms by v u → ReducesBy p n m o bound ms more u r → ReducesBy p n m o bound ms (by ++ more) v r
    reduction_more no_more red' = red'
    reduction_more (one_more c i d e f w q red) red' = one_more c i d e f w q (reduction_more red red')

  -- ---- kept rests
  scaled_same : (c d : ℕ) → number p n m o c ≡ number p n m o d → (ts : List VTerm) → scaled p c ts ≡ scaled p d ts
  scaled_same c d e [] = refl
  scaled_same c d e (t ∷ ts) = ap₂ (λ x xs. record { component = t.component; mono = t.mono; coeff = x } ∷ xs) coefficients (scaled_same c d e ts)
    where
      coefficients : (c * t.coeff) % prime_value p ≡ (d * t.coeff) % prime_value p
      coefficients = sym (mod-eq_of_lt (number p n m o (c * t.coeff)).below)
          ∙ ap (λ x. x.number) (number_times p n m o c t.coeff ∙ ap (λ x. (gf p).mul x (number p n m o t.coeff)) e ∙ sym (number_times p n m o d t.coeff))
          ∙ mod-eq_of_lt (number p n m o (d * t.coeff)).below

  pub kept_unique : {ms more more' : List (List VTerm)} {keep : Bool} {r : List VTerm} → IsFalling p n m o r → IsKept p ms keep r more → IsKept p ms keep r more' → more ≡ more'
  kept_unique f dropped dropped = refl
  kept_unique {ms} f (kept {s = s} {r = r} c e) (kept d e') = ap (λ x. ms ++ x ∷ []) (scaled_same c d (same_factor c d s.coeff 1 f.proper.0.positive f.proper.0.below e e') (s ∷ r))

  -- ---- runs
  snoc_same : {A : Type 0} (xs ys : List A) (x y : A) → xs ++ x ∷ [] ≡ ys ++ y ∷ [] → (xs ≡ ys) × (x ≡ y)
  snoc_same [] [] x y e = (refl, heads e)
  snoc_same [] (z ∷ []) x y e = absurd (cc (tails e))
  snoc_same [] (z ∷ w ∷ ys) x y e = absurd (cc (tails e))
  snoc_same (z ∷ []) [] x y e = absurd (cc (tails e))
  snoc_same (z ∷ w ∷ xs) [] x y e = absurd (cc (tails e))
  snoc_same (z ∷ xs) (w ∷ ys) x y e = let r = snoc_same xs ys x y (tails e) in (ap₂ (λ a b. a ∷ b) (heads e) r.0, r.1)

  empty_snoc : {A : Type 0} (xs : List A) (x : A) → ¬ ([] ≡ xs ++ x ∷ [])
  empty_snoc [] x e = cc e
  empty_snoc (y ∷ xs) x e = cc e

  SVectorOf : (List ℕ → Bool) → List VTerm → List VTerm → List VTerm → Type 0
  SVectorOf bound [] y v = ⊥
  SVectorOf bound (t ∷ ts) [] v = ⊥
  SVectorOf bound (t ∷ ts) (u ∷ us) v = IsSVector p n m o bound t u ts us v

  s_vector_unique : {bound : List ℕ → Bool} → (t u : VTerm) (ts us v w : List VTerm) → IsFalling p n m o (t ∷ ts) → IsFalling p n m o (u ∷ us) → IsSVector p n m o bound t u ts us v → IsSVector p n m o bound t u ts us w → v ≡ w
  s_vector_unique t u ts us v w f g a b =
      let ft = fits_of p n m o t f in
      let fu = fits_of p n m o u g in
      let at : Monomial n = record { exponents = t.mono; fits = ft.exponents } in
      let au : Monomial n = record { exponents = u.mono; fits = fu.exponents } in
      same_taken (multiple p 1 (difference (maximum at au) at).exponents (t ∷ ts)) (u ∷ us) v w 1 1 (difference (maximum at au) au) g a.falls b.falls refl a.is b.is

  same_member : {ms ms' : List (List VTerm)} {a a' : ℕ} {x y : List VTerm} → ms ≡ ms' → a ≡ a' → IsNumber ms a x → IsNumber ms' a' y → x ≡ y
  same_member {ms} {ms'} {a} {a'} {x} {y} e f i j = number_same i (subst (λ z. IsNumber z a y) (sym e) (subst (λ z. IsNumber ms' z y) (sym f) j))

  pair_vector : {bound : List ℕ → Bool} → {ms ms' : List (List VTerm)} {a a' b b' : ℕ} {t t' u u' : VTerm} {ts ts' us us' v w : List VTerm} → AllMonic p n m o ms → ms ≡ ms' → (a ≡ a') × (b ≡ b')
      → IsNumber ms a (t ∷ ts) → IsNumber ms b (u ∷ us) → IsSVector p n m o bound t u ts us v → IsNumber ms' a' (t' ∷ ts') → IsNumber ms' b' (u' ∷ us') → IsSVector p n m o bound t' u' ts' us' w → v ≡ w
  unfolding SVectorOf
  pair_vector {bound = bound} {a = a} {b = b} {t = t} {t' = t'} {u = u} {u' = u'} {ts = ts} {ts' = ts'} {us = us} {us' = us'} {v = v} {w = w} well e f i j sv i' j' sv' =
      s_vector_unique t u ts us v w (well a (t ∷ ts) i).0 (well b (u ∷ us) j).0 sv
      (subst (λ z. SVectorOf bound z (u ∷ us) w) (sym (same_member e f.0 i i')) (subst (λ z. SVectorOf bound (t' ∷ ts') z w) (sym (same_member e f.1 j j')) sv'))

  after_unique : {bound : List ℕ → Bool} → {ms ms' more more' : List (List VTerm)} {by by' : List ℕ} {keep keep' : Bool} {v v' r r' : List VTerm} → AllMonic p n m o ms → IsFalling p n m o v
      → ms ≡ ms' → by ≡ by' → keep ≡ keep' → v ≡ v' → ReducesBy p n m o bound ms by v r → ReducesBy p n m o bound ms' by' v' r' → IsKept p ms keep r more → IsKept p ms' keep' r' more' → more ≡ more'
  after_unique {bound} {ms} {ms'} {more} {more'} {by} {by'} {keep} {keep'} {v} {v'} {r} {r'} well f a b c d red red' ke ke' =
      let same_rest : r ≡ r' = reduction_unique ms (λ x i. (well_of x i).0) red
      (subst (λ z. ReducesBy p n m o bound z by v r') (sym a) (subst (λ z. ReducesBy p n m o bound ms' z v r') (sym b) (subst (λ z. ReducesBy p n m o bound ms' by' z r') (sym d) red'))) f in
      kept_unique (reduces_falling p n m o red f) ke (subst (λ z. IsKept p z keep r more') (sym a) (subst (λ z. IsKept p ms' z r more') (sym c) (subst (λ z. IsKept p ms' keep' z more') (sym same_rest) ke')))
    where
      well_of : (x : List VTerm) → Contains ms x → IsFalling p n m o x × IsMonic x
      well_of x i = let k = number_of_in (in_of_contains ms x i) in well k.0 x k.1

  -- what an entry says
  starts : {e f : Entry} → e ≡ f → e.start ≡ f.start
  starts q = ap (λ x. x.start) q

  same_input : {k l : ℕ} → Input k ≡ Input l → k ≡ l
  same_input e = cc

  same_pair : {a b c d : ℕ} → Pair a b ≡ Pair c d → (a ≡ c) × (b ≡ d)
  same_pair e = (cc, cc)

  same_skip : {a b k c d l : ℕ} → Skip a b k ≡ Skip c d l → (a ≡ c) × (b ≡ d)
  same_skip e = (cc, cc)

  input_not_pair : {k a b : ℕ} → ¬ (Input k ≡ Pair a b)
  input_not_pair e = cc e

  input_not_skip : {k a b c : ℕ} → ¬ (Input k ≡ Skip a b c)
  input_not_skip e = cc e

  pair_not_skip : {a b c d k : ℕ} → ¬ (Pair a b ≡ Skip c d k)
  pair_not_skip e = cc e

  module _ (inputs : List (List VTerm)) where
    Same : List (List VTerm) → List (List VTerm) → List ℕ → List ℕ → List (ℕ × ℕ) → List (ℕ × ℕ) → Type 0
    Same ms ms' ta ta' tr tr' = (ms ≡ ms') × (ta ≡ ta') × (tr ≡ tr')

    with_treated : {a b c d : ℕ} {tr tr' : List (ℕ × ℕ)} → (a ≡ c) × (b ≡ d) → tr ≡ tr' → ◌≡◌ {A = List (ℕ × ℕ)} ((a, b) ∷ tr) ((c, d) ∷ tr')
    with_treated {a} {b} {c} {d} e f = let pair : ◌≡◌ {A = ℕ × ℕ} (a, b) (c, d) = λ i. (e.0 i, e.1 i) in ap₂ (λ x y. x ∷ y) pair f

    run_same : {bound : List ℕ → Bool} → {log log' : List Entry} {ms ms' : List (List VTerm)} {ta ta' : List ℕ} {tr tr' : List (ℕ × ℕ)} → FreeRun p n m o bound inputs log ms ta tr → FreeRun p n m o bound inputs log' ms' ta' tr' → log ≡ log' → Same ms ms' ta ta' tr tr'
    unfolding Same
    run_same begin begin e = (refl, refl, refl)
    run_same begin (take_input run k by new i f red ke) e = absurd (empty_snoc _ _ e)
    run_same begin (take_pair run a b by l new i j sv red ke) e = absurd (empty_snoc _ _ e)
    run_same begin (skip_pair run a b k l x y new i j q d ak kb) e = absurd (empty_snoc _ _ e)
    run_same (take_input run k by new i f red ke) begin e = absurd (empty_snoc _ _ (sym e))
    run_same (take_input run k by new i f red ke) (take_input run' k' by' new' i' f' red' ke') e =
        let parts = snoc_same _ _ _ _ e in
        let ih = run_same run run' parts.0 in
        let number = same_input (starts parts.1) in (
          after_unique (members_of_run p n m o inputs run).0 f ih.0 (ap (λ x. x.by) parts.1) (ap (λ x. x.keep) parts.1) (same_member refl number i i') red red' ke ke',
          ap₂ (λ x y. x ∷ y) number ih.1,
          ih.2,
        )
    run_same (take_input run k by new i f red ke) (take_pair run' a b by' l new' i' j sv red' ke') e = absurd (input_not_pair (starts (snoc_same _ _ _ _ e).1))
    run_same (take_input run k by new i f red ke) (skip_pair run' a b k' l x y new' i' j q d ak kb) e = absurd (input_not_skip (starts (snoc_same _ _ _ _ e).1))
    run_same (take_pair run a b by l new i j sv red ke) begin e = absurd (empty_snoc _ _ (sym e))
    run_same (take_pair run a b by l new i j sv red ke) (take_input run' k by' new' i' f red' ke') e = absurd (input_not_pair (sym (starts (snoc_same _ _ _ _ e).1)))
    run_same (take_pair run a b by l new i j sv red ke) (take_pair run' a' b' by' l' new' i' j' sv' red' ke') e =
        let parts = snoc_same _ _ _ _ e in
        let ih = run_same run run' parts.0 in
        let pair = same_pair (starts parts.1) in
        let well = (members_of_run p n m o inputs run).0 in (
          after_unique well sv.falls ih.0 (ap (λ x. x.by) parts.1) (ap (λ x. x.keep) parts.1) (pair_vector well ih.0 pair i j sv i' j' sv') red red' ke ke',
          ih.1,
          with_treated pair ih.2,
        )
    run_same (take_pair run a b by l new i j sv red ke) (skip_pair run' a' b' k' l' x y new' i' j' q d ak kb) e = absurd (pair_not_skip (starts (snoc_same _ _ _ _ e).1))
    run_same (skip_pair run a b k l x y new i j q d ak kb) begin e = absurd (empty_snoc _ _ (sym e))
    run_same (skip_pair run a b k l x y new i j q d ak kb) (take_input run' k' by' new' i' f red' ke') e = absurd (input_not_skip (sym (starts (snoc_same _ _ _ _ e).1)))
    run_same (skip_pair run a b k l x y new i j q d ak kb) (take_pair run' a' b' by' l' new' i' j' sv red' ke') e = absurd (pair_not_skip (sym (starts (snoc_same _ _ _ _ e).1)))
    run_same (skip_pair run a b k l x y new i j q d ak kb) (skip_pair run' a' b' k' l' x' y' new' i' j' q' d' ak' kb') e =
        let parts = snoc_same _ _ _ _ e in
        let ih = run_same run run' parts.0 in
        (ih.0, ih.1, with_treated (same_skip (starts parts.1)) ih.2)

    -- a log determines its members, the inputs taken and the pairs treated
    pub run_unique : {bound : List ℕ → Bool} → {log : List Entry} {ms ms' : List (List VTerm)} {ta ta' : List ℕ} {tr tr' : List (ℕ × ℕ)} → FreeRun p n m o bound inputs log ms ta tr → FreeRun p n m o bound inputs log ms' ta' tr'
        → (ms ≡ ms') × (ta ≡ ta') × (tr ≡ tr')
    unfolding Same
    run_unique run run' = run_same run run' refl

    Front : (List ℕ → Bool) → List Entry → Type 0
    Front bound log = (ms : List (List VTerm)) × (ta : List ℕ) × (tr : List (ℕ × ℕ)) × FreeRun p n m o bound inputs log ms ta tr

    front_of : {bound : List ℕ → Bool} → {whole : List Entry} {ms : List (List VTerm)} {ta : List ℕ} {tr : List (ℕ × ℕ)} → FreeRun p n m o bound inputs whole ms ta tr → (log : List Entry) (e : Entry) → whole ≡ log ++ e ∷ [] → Front bound log
    unfolding Front
    front_of begin log e q = absurd (empty_snoc log e q)
    front_of {bound} (take_input {members = ms} {taken = ta} {treated = tr} run k by new i f red ke) log e q = let parts = snoc_same _ log _ e q in (ms, ta, tr, subst (λ z. FreeRun p n m o bound inputs z ms ta tr) parts.0 run)
    front_of {bound} (take_pair {members = ms} {taken = ta} {treated = tr} run a b by l new i j sv red ke) log e q = let parts = snoc_same _ log _ e q in (ms, ta, tr, subst (λ z. FreeRun p n m o bound inputs z ms ta tr) parts.0 run)
    front_of {bound} (skip_pair {members = ms} {taken = ta} {treated = tr} run a b k l x y new i j g d ak kb) log e q = let parts = snoc_same _ log _ e q in (ms, ta, tr, subst (λ z. FreeRun p n m o bound inputs z ms ta tr) parts.0 run)

    -- the front of a log of free steps is one
    pub run_front : {bound : List ℕ → Bool} → (log : List Entry) (e : Entry) {ms : List (List VTerm)} {ta : List ℕ} {tr : List (ℕ × ℕ)} → FreeRun p n m o bound inputs (log ++ e ∷ []) ms ta tr
        → (ms' : List (List VTerm)) × (ta' : List ℕ) × (tr' : List (ℕ × ℕ)) × FreeRun p n m o bound inputs log ms' ta' tr'
    unfolding Front
    run_front log e run = front_of run log e refl
