-- Monic members as a family of vectors with heads, and reduction by them.
use Rattle.std.proofs.Common.{◌≡◌, inl, inr, ℕ, suc, ◌-◌, ◌*◌, ◌%◌, ◌<◌, ◌≤◌, Bool, List, [], ◌∷◌, ◌++◌, length, refl, sym, ap, ◌∙◌, subst, arith}
use Rattle.fm_gfp.specs.Primes.{prime_value}
use Rattle.fm_gfp.specs.declared.prime.Prime.{Prime}
use Rattle.fm_mono.specs.declared.order.Order.{Order}
use Rattle.fm_algebra.specs.Gf.{gf}
use Rattle.fm_algebra.proofs.Gf.{gf_laws}
use Rattle.fm_algebra.proofs.Algebra.{add_zero, mul_zero, neg_mul, add_left_comm}
use Rattle.fm_term.specs.declared.vterm.VTerm.{VTerm}
use Rattle.fm_term.specs.Places.{AllBelow}
use Rattle.fm_term.specs.Falling.{IsFalling, IsMonic}
use Rattle.fm_term.specs.Multiples.{multiple, scaled_term, scaled}
use Rattle.fm_term.specs.Meanings.{vector_of}
use Rattle.fm_groebner.specs.Logs.{IsNumber, ReducesBy, no_more, one_more, IsKept, dropped, kept}
use Rattle.fm_groebner.proofs.Setting as setting
use Rattle.fm_groebner.proofs.Setting.{Setting, Vect, Family, Lin, lin_zero, lin_gen, lin_comb, shift, Representation, Low, Anywhere, IsNil, Reduces, done, step}
use Rattle.fm_groebner.proofs.Differences.{scale_only}
use Rattle.fm_groebner.proofs.Span.{lin_nil, rep_member, below_segment, place_in, shift_one}
use Rattle.fm_groebner.proofs.Buchberger.{low_of_kept}
use Rattle.fm_groebner.proofs.Monomials.{Monomial, same_monomial, one, ◌·◌, difference, times_comm, times_difference}
use Rattle.fm_groebner.proofs.Places.{same_place}
use Rattle.fm_groebner.proofs.Numbers.{number_same, number_left, number_last, number_cases}
use Rattle.fm_groebner.proofs.TermValues.{space, list_value, vector_value, list_value, number, fits_of, place_of, AllFit, all_fit, val_nil, val_append, val_multiple, val_scaled, val_head, head_of_terms, number_nonzero, number_times}
use Rattle.fm_term.proofs.Falling.{later, nothing_falls, with_greater}

module _ (p : Prime) (n m : ℕ) (o : Order) where
  abbrev X : Setting
  X = space p n m o

  abbrev num : ℕ → (gf p).Carrier
  num c = number p n m o c

  -- the place of the head of a falling list
  abbrev pub head_place : (x : List VTerm) → IsFalling p n m o x → ℕ × Monomial n
  head_place [] f = (0, one)
  head_place (t ∷ ts) f = place_of p n m o t (fits_of p n m o t f)

  pub head_place_same : (x : List VTerm) (f g : IsFalling p n m o x) → head_place x f ≡ head_place x g
  head_place_same [] f g = refl
  head_place_same (t ∷ ts) f g = same_place refl (same_monomial (head_place (t ∷ ts) f).1 (head_place (t ∷ ts) g).1 refl)

  -- the member k of a list of monic falling lists, as a vector with its head
  pub data MemberAt (ms : List (List VTerm)) (k : ℕ) : Vect X → ℕ × Monomial n → Type 0 where
    member_at : {x : List VTerm} (f : IsFalling p n m o x) → IsMonic x → IsNumber ms k x → MemberAt ms k (list_value p n m o x) (head_place x f)

  abbrev pub Members : List (List VTerm) → Family X
  Members ms g h = (k : ℕ) × MemberAt ms k g h

  pub at_number : {ms : List (List VTerm)} {k : ℕ} {x : List VTerm} → IsNumber ms k x → (f : IsFalling p n m o x) → (P : Vect X → ℕ × Monomial n → Type 0)
      → P (list_value p n m o x) (head_place x f) → {g : Vect X} {h : ℕ × Monomial n} → MemberAt ms k g h → P g h
  at_number {x = x} i f P base (member_at {x = y} f' mo j) =
      subst (λ z. (u : IsFalling p n m o z) → P (list_value p n m o z) (head_place z u)) (number_same i j) (λ u. subst (P (list_value p n m o x)) (head_place_same x f u) base) f'

  -- each member is falling and monic
  abbrev pub AllMonic : List (List VTerm) → Type 0
  AllMonic ms = (k : ℕ) (x : List VTerm) → IsNumber ms k x → IsFalling p n m o x × IsMonic x

  monic_list : (x : List VTerm) (f : IsFalling p n m o x) → IsMonic x → (list_value p n m o x (head_place x f) ≡ (gf p).one) × ((b : ℕ × Monomial n) → X.Less (head_place x f) b → list_value p n m o x b ≡ (gf p).zero)
  monic_list [] f mo = absurd mo
  monic_list (t ∷ ts) f mo = (val_head p n m o t ts f ∙ ap num mo, (head_of_terms p n m o t ts f).1)

  pub members_monic : (ms : List (List VTerm)) → setting.IsMonic X (Members ms)
  members_monic ms g h (k, member_at f mo i) = monic_list _ f mo

  -- ---- reduction
  less_sum : (x y z : (gf p).Carrier) → (gf p).add x y ≡ z → x ≡ (gf p).add ((gf p).neg y) z
  less_sum x y z e = sym (ap ((gf p).add ((gf p).neg y)) (sym e) ∙ add_left_comm (gf_laws p) ((gf p).neg y) x y ∙ ap ((gf p).add x) ((gf_laws p).neg_add y) ∙ add_zero (gf_laws p) x)

  -- where v + c * x^a * g = w: v is w with c * x^a * g taken away
  pub taken_away : (v w g : List VTerm) (c : ℕ) (a : Monomial n) → AllFit p n m o g → vector_of p n m (v ++ multiple p c a.exponents g) ≡ vector_of p n m w
      → (b : ℕ × Monomial n) → list_value p n m o v b ≡ (gf p).add ((gf p).mul ((gf p).neg (num c)) (shift X a (list_value p n m o g) b)) (list_value p n m o w b)
  taken_away v w g c a f e b = less_sum (list_value p n m o v b) ((gf p).mul (num c) (shift X a (list_value p n m o g) b)) (list_value p n m o w b)
      (sym (val_append p n m o v (multiple p c a.exponents g) b ∙ ap ((gf p).add (list_value p n m o v b)) (val_multiple p n m o c a g f b)) ∙ ap (λ u. vector_value p n m o u b) e)
      ∙ ap (λ x. (gf p).add x (list_value p n m o w b)) (sym (neg_mul (gf_laws p) (num c) (shift X a (list_value p n m o g) b)))

  pub reduces_falling : {bound : List ℕ → Bool} → {ms : List (List VTerm)} {by : List ℕ} {v r : List VTerm} → ReducesBy p n m o bound ms by v r → IsFalling p n m o v → IsFalling p n m o r
  reduces_falling no_more f = f
  reduces_falling (one_more c i d e f' b q red) f = reduces_falling red f'

  pub reduces_of_by : {bound : List ℕ → Bool} → {ms : List (List VTerm)} → AllMonic ms → {by : List ℕ} {v r : List VTerm} → ReducesBy p n m o bound ms by v r → IsFalling p n m o v → Reduces X (Members ms) (list_value p n m o v) (list_value p n m o r)
  reduces_of_by well no_more f = done (λ b. refl)
  reduces_of_by well (one_more {k = k} {s = s} {t = t} {vs = vs} {ts = ts} {v = v} c i d e f' b q red) f =
      let w = well k (t ∷ ts) i in
      let ft = fits_of p n m o t w.0 in
      let fs = fits_of p n m o s f in
      let at : Monomial n = record { exponents = t.mono; fits = ft.exponents } in
      let of : Monomial n = record { exponents = s.mono; fits = fs.exponents } in
      let a = difference of at in
      let meets : ◌≡◌ {A = ℕ × Monomial n} (m - t.component, a · at) (m - s.component, of) = same_place (ap (λ x. m - x) d.0) (times_comm a at ∙ times_difference at of d.1) in
      step (num c) a (list_value p n m o (t ∷ ts)) (place_of p n m o t ft) (k, member_at w.0 w.1 i)
      (λ z. number_nonzero p n m o s.coeff f.proper.0.positive f.proper.0.below (sym (val_head p n m o s vs f) ∙ ap (list_value p n m o (s ∷ vs)) (sym meets) ∙ z))
      (taken_away v (s ∷ vs) (t ∷ ts) c a (all_fit p n m o (t ∷ ts) w.0) q)
      (reduces_of_by well red f')

  -- ---- keeping a rest
  -- the product of an invertible number and one that is not zero is not zero
  scaled_positive : (c s d : ℕ) → (c * s) % prime_value p ≡ 1 → 0 < d → d < prime_value p → 0 < (c * d) % prime_value p
  scaled_positive c s d e pos h = positive (λ z. number_nonzero p n m o d pos h (
      sym ((gf_laws p).one_mul (num d))
      ∙ ap (λ x. (gf p).mul x (num d)) (sym (ap num e) ∙ number_times p n m o c s)
      ∙ ap (λ x. (gf p).mul x (num d)) ((gf_laws p).mul_comm (num c) (num s))
      ∙ (gf_laws p).mul_assoc (num s) (num c) (num d)
      ∙ ap ((gf p).mul (num s)) (sym (number_times p n m o c d) ∙ ap num z)
      ∙ mul_zero (gf_laws p) (num s)))
    where
      positive : ¬ ((c * d) % prime_value p ≡ 0) → 0 < (c * d) % prime_value p
      positive w = omega arith

  scaled_above : (c : ℕ) (t : VTerm) (ts : List VTerm) → AllBelow o t ts → AllBelow o (scaled_term p c t) (scaled p c ts)
  scaled_above c t [] a = tt
  scaled_above c t (s ∷ ts) a = (a.0, scaled_above c t ts a.1)

  pub scaled_falling : (c s : ℕ) → (c * s) % prime_value p ≡ 1 → (ts : List VTerm) → IsFalling p n m o ts → IsFalling p n m o (scaled p c ts)
  scaled_falling c s e [] f = nothing_falls
  scaled_falling c s e (t ∷ ts) f =
      let i = f.proper.0 in
      with_greater f.within.0 f.within.1
      (record { fits = i.fits; positive = scaled_positive c s t.coeff e i.positive i.below; below = (num (c * t.coeff)).below })
      (scaled_above c t ts f.falls.0) (scaled_falling c s e ts (later f))

  pub kept_number : {ms more : List (List VTerm)} {keep : Bool} {r : List VTerm} → IsKept p ms keep r more → {k : ℕ} {x : List VTerm} → IsNumber ms k x → IsNumber more k x
  kept_number dropped i = i
  kept_number (kept c e) i = number_left _ i

  pub kept_length : {ms more : List (List VTerm)} {keep : Bool} {r : List VTerm} → IsKept p ms keep r more → length ms ≤ length more
  kept_length dropped = omega arith
  kept_length (kept {s = s} {r = r} c e) = longer _ _
    where
      longer : (ms : List (List VTerm)) (x : List VTerm) → length ms ≤ length (ms ++ x ∷ [])
      longer [] x = omega arith
      longer (y ∷ ms) x = let h = longer ms x in omega (arith, h)

  pub kept_old : {ms more : List (List VTerm)} {keep : Bool} {r : List VTerm} → IsKept p ms keep r more → {k : ℕ} {x : List VTerm} → k ≤ length ms → IsNumber more k x → IsNumber ms k x
  kept_old dropped h i = i
  kept_old (kept c e) h i = elim (number_cases _ _ i) [ inl j ↦ j | inr q ↦ let l = q.0 in absurd (omega (arith, h, l)) ]

  pub kept_member : {ms more : List (List VTerm)} {keep : Bool} {r : List VTerm} → IsKept p ms keep r more → (k : ℕ) (g : Vect X) (h : ℕ × Monomial n) → MemberAt ms k g h → MemberAt more k g h
  kept_member ke k g h (member_at f mo i) = member_at f mo (kept_number ke i)

  pub kept_monic : {ms more : List (List VTerm)} {keep : Bool} {r : List VTerm} → IsKept p ms keep r more → IsFalling p n m o r → AllMonic ms → AllMonic more
  kept_monic dropped f well k x i = well k x i
  kept_monic (kept {s = s} {r = r} c e) f well k x i = elim (number_cases _ _ i) [
    | inl j ↦ well k x j
    | inr q ↦ subst (λ z. IsFalling p n m o z × IsMonic z) (sym q.1) (scaled_falling c s.coeff e (s ∷ r) f, e)
  ]

  -- the rest is a multiple of the new member
  back_of : (c : ℕ) (s : VTerm) (r : List VTerm) → (c * s.coeff) % prime_value p ≡ 1 → IsFalling p n m o (s ∷ r) → (b : ℕ × Monomial n)
      → list_value p n m o (s ∷ r) b ≡ (gf p).mul (num s.coeff) (list_value p n m o (scaled p c (s ∷ r)) b)
  back_of c s r e f b = sym (
      ap ((gf p).mul (num s.coeff)) (val_scaled p n m o c (s ∷ r) (all_fit p n m o (s ∷ r) f) b)
      ∙ sym ((gf_laws p).mul_assoc (num s.coeff) (num c) (list_value p n m o (s ∷ r) b))
      ∙ ap (λ x. (gf p).mul x (list_value p n m o (s ∷ r) b)) ((gf_laws p).mul_comm (num s.coeff) (num c) ∙ sym (number_times p n m o c s.coeff) ∙ ap num e)
      ∙ (gf_laws p).one_mul (list_value p n m o (s ∷ r) b))

  pub kept_rep : {ms more : List (List VTerm)} {keep : Bool} {r : List VTerm} → IsKept p ms keep r more → IsFalling p n m o r → Representation X (Members more) (Anywhere X) (list_value p n m o r)
  kept_rep dropped f = lin_zero (val_nil p n m o)
  kept_rep (kept {s = s} {r = r} c e) f =
      lin_comb (num s.coeff)
      (rep_member X X.one (list_value p n m o (scaled p c (s ∷ r))) (head_place (scaled p c (s ∷ r)) (scaled_falling c s.coeff e (s ∷ r) f))
      (suc (length _), member_at (scaled_falling c s.coeff e (s ∷ r) f) e (number_last _ (scaled p c (s ∷ r)))) tt)
      (lin_nil X)
      (λ b. scale_only (gf_laws p) (num s.coeff) (shift X X.one (list_value p n m o (scaled p c (s ∷ r))) b) (list_value p n m o (s ∷ r) b)
      (back_of c s r e f b ∙ ap ((gf p).mul (num s.coeff)) (sym (shift_one X (list_value p n m o (scaled p c (s ∷ r))) b))))

  pub kept_low : {ms more : List (List VTerm)} {keep : Bool} {r : List VTerm} → IsKept p ms keep r more → IsFalling p n m o r
      → (a : ℕ × Monomial n) → ((b : ℕ × Monomial n) → ¬ (X.Less b a) → list_value p n m o r b ≡ (gf p).zero) → Low X (Members more) a (list_value p n m o r)
  kept_low dropped f a z = lin_zero (val_nil p n m o)
  kept_low (kept {s = s} {r = r} c e) f a z =
      low_of_kept X (list_value p n m o (scaled p c (s ∷ r))) (head_place (scaled p c (s ∷ r)) (scaled_falling c s.coeff e (s ∷ r) f))
      (suc (length _), member_at (scaled_falling c s.coeff e (s ∷ r) f) e (number_last _ (scaled p c (s ∷ r)))) a
      (place_in X (below_segment X a) (list_value p n m o (s ∷ r)) z (head_place (s ∷ r) f) (head_of_terms p n m o s r f).0)
      (num s.coeff) (list_value p n m o (s ∷ r)) (back_of c s r e f)
