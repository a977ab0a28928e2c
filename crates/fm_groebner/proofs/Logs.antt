-- The members of a complete log of free steps are a Gröbner basis of the span of the inputs.
use Rattle.std.proofs.Common.{◌≡◌, inl, inr, ℕ, ◌-◌, ◌<◌, ◌≤◌, Bool, List, [], ◌∷◌, length, Contains, refl, sym, ap, ◌∙◌, subst, arith}
use native.Mathlib.Decide.{ℕ_discrete, dec_lt}
use Rattle.fm_gfp.specs.declared.prime.Prime.{Prime}
use Rattle.fm_mono.specs.declared.order.Order.{Order}
use Rattle.fm_algebra.specs.Gf.{gf, gf_is_zero}
use Rattle.fm_algebra.proofs.Gf.{gf_laws}
use Rattle.fm_term.specs.declared.vterm.VTerm.{VTerm}
use Rattle.fm_term.specs.Falling.{IsFalling, IsMonic}
use Rattle.fm_term.specs.Multiples.{multiple, scaled}
use Rattle.fm_term.specs.Meanings.{vector_of, vectors_of}
use Rattle.fm_groebner.specs.Logs.{IsNumber, Entry, ReducesBy, IsKept, dropped, kept, IsSVector, IsTreated, DividesLcm, FreeRun, begin, take_input, take_pair, skip_pair, IsComplete}
use Rattle.fm_groebner.proofs.Setting as setting
use Rattle.fm_groebner.proofs.Setting.{Vect, Family, In, in_map, lin_zero, lin_comb, shift, Representation, Low, Anywhere, Span, IsGroebner, Reduces, done, step, IsLcm, Good}
use Rattle.fm_groebner.proofs.Differences.{scale_only}
use Rattle.fm_groebner.proofs.Span.{lin_eq, lin_nil, rep_member, shift_one, span_shift, span_member, rep_more, all_segment, below_segment}
use Rattle.fm_groebner.proofs.Buchberger.{divides_common, good_self, good_sym, good_apart, good_chain, good_of_reduces, reduces_rep, reduces_in, s_vector_below}
use Rattle.fm_groebner.proofs.Basis.{groebner_of_good_pairs, rest_of_span}
use Rattle.fm_groebner.proofs.Monomials.{Monomial, one, difference, maximum, times_comm, times_difference, lcm_left}
use Rattle.fm_groebner.proofs.Places.{same_place, place_lcm, place_apart}
use Rattle.fm_groebner.proofs.Ordered.{ordered}
use Rattle.fm_groebner.proofs.Images.{Values}
use Rattle.fm_groebner.proofs.Numbers.{number_same, number_within, number_cases, contains_cases, in_of_number, in_of_map, number_of_in}
use Rattle.fm_groebner.proofs.TermValues.{space, list_value, vector_value, number, Fits, fits_of, all_fit, val_scaled, val_multiple}
use Rattle.fm_groebner.proofs.MonicLists.{head_place, MemberAt, member_at, Members, at_number, AllMonic, members_monic, taken_away, reduces_falling, reduces_of_by, kept_number, kept_length, kept_old, kept_member, kept_monic, kept_rep, kept_low}

module _ (p : Prime) (n m : ℕ) (o : Order) (inputs : List (List VTerm)) where
  abbrev X : setting.Setting
  X = space p n m o

  -- the vectors of the inputs
  abbrev pub Inputs : Vect X → Type 0
  Inputs = Values (ordered o n) (gf p) (gf_laws p) (gf_is_zero p) m (vectors_of p n m inputs)

  -- the pair of the members a and b is good
  abbrev GoodAt : List (List VTerm) → ℕ → ℕ → Type 0
  GoodAt ms a b = (g : Vect X) (h : ℕ × Monomial n) (g' : Vect X) (h' : ℕ × Monomial n) → MemberAt p n m o ms a g h → MemberAt p n m o ms b g' h' → Good X (Members p n m o ms) g h g' h'

  -- what holds after each step
  record Invariant (ms : List (List VTerm)) (taken : List ℕ) (treated : List (ℕ × ℕ)) : Type 0 where
    well : AllMonic p n m o ms
    members : (g : Vect X) (h : ℕ × Monomial n) → Members p n m o ms g h → Span X Inputs g
    covered : (k : ℕ) (v : List VTerm) → Contains taken k → IsNumber inputs k v → Representation X (Members p n m o ms) (Anywhere X) (list_value p n m o v)
    good : (a b : ℕ) → Contains treated (a, b) → (a ≤ length ms) × (b ≤ length ms) × GoodAt ms a b

  pub input_span : {k : ℕ} {v : List VTerm} → IsNumber inputs k v → Span X Inputs (list_value p n m o v)
  input_span {k} {v} i = span_member X (vector_of p n m v, in_map (vector_of p n m) (in_of_number i), λ b. refl)

  reduces_from : {G : Family X} {u v r : Vect X} → ((b : ℕ × Monomial n) → u b ≡ v b) → Reduces X G v r → Reduces X G u r
  reduces_from e (done f) = done (λ b. e b ∙ f b)
  reduces_from {u = u} e (step {v = v} c a g h i nz f red) = step c a g h i (λ z. nz (sym (e _) ∙ z)) (λ b. f b ∙ ap ((gf p).add ((gf p).mul ((gf p).neg c) (shift X a g b))) (sym (e b))) red

  old_member : {ms more : List (List VTerm)} {keep : Bool} {r : List VTerm} → IsKept p ms keep r more → (k : ℕ) → k ≤ length ms → {g : Vect X} {h : ℕ × Monomial n} → MemberAt p n m o more k g h → MemberAt p n m o ms k g h
  old_member ke k l (member_at f mo i) = member_at f mo (kept_old p n m o ke l i)

  -- a kept rest of the span keeps the members in the span
  kept_span : {ms more : List (List VTerm)} {keep : Bool} {r : List VTerm} → IsKept p ms keep r more → IsFalling p n m o r → Span X Inputs (list_value p n m o r)
      → ((g : Vect X) (h : ℕ × Monomial n) → Members p n m o ms g h → Span X Inputs g) → (g : Vect X) (h : ℕ × Monomial n) → Members p n m o more g h → Span X Inputs g
  kept_span dropped f s old g h i = old g h i
  kept_span (kept {s = s} {r = r} c e) f sp old g h (k, member_at fx mo i) = elim (number_cases _ _ i) [
    | inl j ↦ old g h (k, member_at fx mo j)
    | inr q ↦ subst (λ z. Span X Inputs (list_value p n m o z)) (sym q.1) (lin_comb (number p n m o c) sp (lin_nil X)
        (λ b. scale_only (gf_laws p) (number p n m o c) (list_value p n m o (s ∷ r) b) (list_value p n m o (scaled p c (s ∷ r)) b) (val_scaled p n m o c (s ∷ r) (all_fit p n m o (s ∷ r) f) b)))
  ]

  good_more : {ms more : List (List VTerm)} {keep : Bool} {r : List VTerm} → IsKept p ms keep r more → (a b : ℕ) → (a ≤ length ms) × (b ≤ length ms) × GoodAt ms a b
      → (a ≤ length more) × (b ≤ length more) × GoodAt more a b
  good_more ke a b q = (
    omega (arith, kept_length p n m o ke, q.0),
    omega (arith, kept_length p n m o ke, q.1),
    λ g h g' h' i i' x y e. rep_more X (λ u k j. (j.0, kept_member p n m o ke j.0 u k j.1)) (q.2 g h g' h' (old_member ke a q.0 i) (old_member ke b q.1 i') x y e),
  )

  -- the vector that is taken up is a sum of multiples of the new members, and the rest is in the span
  module _ {bound : List ℕ → Bool} {ms more : List (List VTerm)} {by : List ℕ} {keep : Bool} {v r : List VTerm} (well : AllMonic p n m o ms)
      (red : ReducesBy p n m o bound ms by v r) (falls : IsFalling p n m o v) (ke : IsKept p ms keep r more) where
    taken_rep : Representation X (Members p n m o more) (Anywhere X) (list_value p n m o v)
    taken_rep = reduces_rep X (members_monic p n m o ms) (all_segment X) (λ g h i. (i.0, kept_member p n m o ke i.0 g h i.1)) (reduces_of_by p n m o well red falls)
        (λ b w. absurd (w tt)) (kept_rep p n m o ke (reduces_falling p n m o red falls))

    rest_span : ((g : Vect X) (h : ℕ × Monomial n) → Members p n m o ms g h → Span X Inputs g) → Span X Inputs (list_value p n m o v) → Span X Inputs (list_value p n m o r)
    rest_span members s = rest_of_span X members (reduces_of_by p n m o well red falls) s

  good_at : {ms : List (List VTerm)} {a b : ℕ} {x y : List VTerm} → IsNumber ms a x → (f : IsFalling p n m o x) → IsNumber ms b y → (f' : IsFalling p n m o y)
      → Good X (Members p n m o ms) (list_value p n m o x) (head_place p n m o x f) (list_value p n m o y) (head_place p n m o y f') → GoodAt ms a b
  good_at {ms} {x = x} i f j f' base g h g' h' mi mj =
      at_number p n m o i f (λ u k. Good X (Members p n m o ms) u k g' h')
      (at_number p n m o j f' (λ u k. Good X (Members p n m o ms) (list_value p n m o x) (head_place p n m o x f) u k) base mj) mi

  abbrev monomial_of : (t : VTerm) → Fits p n m o t → Monomial n
  monomial_of t f = record { exponents = t.mono; fits = f.exponents }

  module _ (t u : VTerm) (ts us : List VTerm) (ft : IsFalling p n m o (t ∷ ts)) (fu : IsFalling p n m o (u ∷ us)) (e : t.component ≡ u.component) where
    abbrev left : Monomial n
    left = monomial_of t (fits_of p n m o t ft)

    abbrev right : Monomial n
    right = monomial_of u (fits_of p n m o u fu)

    heads_lcm : IsLcm X (head_place p n m o (t ∷ ts) ft) (head_place p n m o (u ∷ us) fu) (difference (maximum left right) left) (difference (maximum left right) right)
    heads_lcm = place_lcm (ordered o n) (gf p) (gf_laws p) (gf_is_zero p) (head_place p n m o (t ∷ ts) ft) (head_place p n m o (u ∷ us) fu) (ap (λ x. m - x) e)

    abbrev s_vector : Vect X
    s_vector b = (gf p).add ((gf p).mul ((gf p).neg (gf p).one) (shift X (difference (maximum left right) right) (list_value p n m o (u ∷ us)) b)) (shift X (difference (maximum left right) left) (list_value p n m o (t ∷ ts)) b)

    s_vector_is : {bound : List ℕ → Bool} → (v : List VTerm) → IsSVector p n m o bound t u ts us v → (b : ℕ × Monomial n) → s_vector b ≡ list_value p n m o v b
    s_vector_is v sv b = sym (
        taken_away p n m o v (multiple p 1 (difference (maximum left right) left).exponents (t ∷ ts)) (u ∷ us) 1 (difference (maximum left right) right) (all_fit p n m o (u ∷ us) fu) sv.is b
        ∙ ap ((gf p).add ((gf p).mul ((gf p).neg (gf p).one) (shift X (difference (maximum left right) right) (list_value p n m o (u ∷ us)) b)))
        (val_multiple p n m o 1 (difference (maximum left right) left) (t ∷ ts) (all_fit p n m o (t ∷ ts) ft) b
        ∙ (gf_laws p).one_mul (shift X (difference (maximum left right) left) (list_value p n m o (t ∷ ts)) b)))

    -- a pair whose S-vector was taken up is good
    pair_good : {bound : List ℕ → Bool} → {ms more : List (List VTerm)} {by : List ℕ} {keep : Bool} {v r : List VTerm} {a b : ℕ} → AllMonic p n m o ms → IsMonic (t ∷ ts) → IsMonic (u ∷ us)
        → IsNumber ms a (t ∷ ts) → IsNumber ms b (u ∷ us) → IsSVector p n m o bound t u ts us v → ReducesBy p n m o bound ms by v r → IsKept p ms keep r more
        → Good X (Members p n m o more) (list_value p n m o (t ∷ ts)) (head_place p n m o (t ∷ ts) ft) (list_value p n m o (u ∷ us)) (head_place p n m o (u ∷ us) fu)
    pair_good {ms} {r = r} {a = a} {b = b} well mt mu i j sv by_red ke =
        let red = reduces_from (s_vector_is _ sv) (reduces_of_by p n m o well by_red sv.falls) in
        good_of_reduces X (members_monic p n m o ms) (λ g h k. (k.0, kept_member p n m o ke k.0 g h k.1))
        (list_value p n m o (t ∷ ts)) (head_place p n m o (t ∷ ts) ft) (list_value p n m o (u ∷ us)) (head_place p n m o (u ∷ us) fu)
        (difference (maximum left right) left) (difference (maximum left right) right) (list_value p n m o r) (a, member_at ft mt i) (b, member_at fu mu j) heads_lcm red
        (kept_low p n m o ke (reduces_falling p n m o by_red sv.falls) (X.◌•◌ (difference (maximum left right) left) (head_place p n m o (t ∷ ts) ft))
        (reduces_in X (members_monic p n m o ms) (below_segment X (X.◌•◌ (difference (maximum left right) left) (head_place p n m o (t ∷ ts) ft))) red
        (s_vector_below X (members_monic p n m o ms) (list_value p n m o (t ∷ ts)) (head_place p n m o (t ∷ ts) ft) (list_value p n m o (u ∷ us)) (head_place p n m o (u ∷ us) fu)
        (difference (maximum left right) left) (difference (maximum left right) right) (a, member_at ft mt i) (b, member_at fu mu j) heads_lcm.meets)))

    -- the S-vector lies in the span
    pub s_vector_span : {bound : List ℕ → Bool} → {ms : List (List VTerm)} {v : List VTerm} {a b : ℕ} → ((g : Vect X) (h : ℕ × Monomial n) → Members p n m o ms g h → Span X Inputs g) → IsMonic (t ∷ ts) → IsMonic (u ∷ us)
        → IsNumber ms a (t ∷ ts) → IsNumber ms b (u ∷ us) → IsSVector p n m o bound t u ts us v → Span X Inputs (list_value p n m o v)
    s_vector_span {v = v} {a = a} {b = b} members mt mu i j sv =
        lin_comb ((gf p).neg (gf p).one)
        (span_shift X (difference (maximum left right) right) (members (list_value p n m o (u ∷ us)) (head_place p n m o (u ∷ us) fu) (b, member_at fu mu j)))
        (span_shift X (difference (maximum left right) left) (members (list_value p n m o (t ∷ ts)) (head_place p n m o (t ∷ ts) ft) (a, member_at ft mt i)))
        (λ c. sym (s_vector_is v sv c))

    -- what divides the least common multiple of two heads divides each common multiple
    lcm_divided : (f : VTerm) (fs : List VTerm) (ff : IsFalling p n m o (f ∷ fs)) → DividesLcm f t u → (a b : Monomial n)
        → X.◌•◌ a (head_place p n m o (t ∷ ts) ft) ≡ X.◌•◌ b (head_place p n m o (u ∷ us) fu) → (i : Monomial n) × (X.◌•◌ i (head_place p n m o (f ∷ fs) ff) ≡ X.◌•◌ a (head_place p n m o (t ∷ ts) ft))
    lcm_divided f fs ff d = divides_common X {d = difference (maximum left right) (monomial_of f (fits_of p n m o f ff))} heads_lcm
        (same_place (ap (λ x. m - x) d.1)
        (times_comm (difference (maximum left right) (monomial_of f (fits_of p n m o f ff))) (monomial_of f (fits_of p n m o f ff))
        ∙ times_difference (monomial_of f (fits_of p n m o f ff)) (maximum left right) d.2 ∙ sym (lcm_left left right)))

  -- ---- the steps
  start_invariant : Invariant [] [] []
  start_invariant = record {
    well = λ k x i. elim i [ ];
    members = λ g h (k, i). elim (no_member i) [ ];
    covered = λ k v c i. absurd (no_element c);
    good = λ a b c. absurd (no_element c);
  }
    where
      no_element : {A : Type 0} {x : A} → ¬ (Contains [] x)
      no_element c = absurd (omega (arith, c.1))

      no_member : {k : ℕ} {g : Vect X} {h : ℕ × Monomial n} → MemberAt p n m o [] k g h → ⊥
      no_member (member_at f mo i) = elim i [ ]

  after_input : {bound : List ℕ → Bool} → {ms more : List (List VTerm)} {taken : List ℕ} {treated : List (ℕ × ℕ)} {by : List ℕ} {keep : Bool} {v r : List VTerm} → Invariant ms taken treated → (k : ℕ)
      → IsNumber inputs k v → IsFalling p n m o v → ReducesBy p n m o bound ms by v r → IsKept p ms keep r more → Invariant more (k ∷ taken) treated
  after_input {ms} {more} {taken} {v = v} inv k i f red ke = record {
    well = kept_monic p n m o ke (reduces_falling p n m o red f) inv.well;
    members = kept_span ke (reduces_falling p n m o red f) (rest_span inv.well red f ke inv.members (input_span i)) inv.members;
    covered = λ j w c i'. elim (contains_cases k taken j c) [
      | inl e ↦ subst (λ z. Representation X (Members p n m o more) (Anywhere X) (list_value p n m o z)) (number_same i (subst (λ x. IsNumber inputs x w) (sym e) i')) (taken_rep inv.well red f ke)
      | inr d ↦ rep_more X (λ g h q. (q.0, kept_member p n m o ke q.0 g h q.1)) (inv.covered j w d i')
    ];
    good = λ a b c. good_more ke a b (inv.good a b c);
  }

  with_pair : {ms : List (List VTerm)} (treated : List (ℕ × ℕ)) (a b : ℕ) → (a ≤ length ms) × (b ≤ length ms) × GoodAt ms a b
      → ((c d : ℕ) → Contains treated (c, d) → (c ≤ length ms) × (d ≤ length ms) × GoodAt ms c d)
      → (c d : ℕ) → Contains ((a, b) ∷ treated) (c, d) → (c ≤ length ms) × (d ≤ length ms) × GoodAt ms c d
  with_pair {ms} treated a b new old c d i = elim (contains_cases (a, b) treated (c, d) i) [
    | inl e ↦ subst (λ q. (q.0 ≤ length ms) × (q.1 ≤ length ms) × GoodAt ms q.0 q.1) e new
    | inr j ↦ old c d j
  ]

  after_pair : {bound : List ℕ → Bool} → {ms more : List (List VTerm)} {taken : List ℕ} {treated : List (ℕ × ℕ)} {by : List ℕ} {keep : Bool} {t u : VTerm} {ts us v r : List VTerm} → Invariant ms taken treated → (a b : ℕ)
      → IsNumber ms a (t ∷ ts) → IsNumber ms b (u ∷ us) → IsSVector p n m o bound t u ts us v → ReducesBy p n m o bound ms by v r → IsKept p ms keep r more → Invariant more taken ((a, b) ∷ treated)
  after_pair {ms} {more} {taken} {treated} {t = t} {u = u} {ts = ts} {us = us} {v = v} inv a b i j sv red ke =
      let wt = inv.well a (t ∷ ts) i in
      let wu = inv.well b (u ∷ us) j in
      record {
        well = kept_monic p n m o ke (reduces_falling p n m o red sv.falls) inv.well;
        members = kept_span ke (reduces_falling p n m o red sv.falls)
            (rest_span inv.well red sv.falls ke inv.members (s_vector_span t u ts us wt.0 wu.0 sv.one_component inv.members wt.1 wu.1 i j sv)) inv.members;
        covered = λ k w c i'. rep_more X (λ g h q. (q.0, kept_member p n m o ke q.0 g h q.1)) (inv.covered k w c i');
        good = with_pair treated a b (
          omega (arith, kept_length p n m o ke, number_within i),
          omega (arith, kept_length p n m o ke, number_within j),
          good_at (kept_number p n m o ke i) wt.0 (kept_number p n m o ke j) wu.0 (pair_good t u ts us wt.0 wu.0 sv.one_component inv.well wt.1 wu.1 i j sv red ke),
        )
            (λ c d k. good_more ke c d (inv.good c d k));
      }

  treated_good : {ms : List (List VTerm)} {taken : List ℕ} {treated : List (ℕ × ℕ)} → Invariant ms taken treated → (a b : ℕ) → IsTreated treated a b → GoodAt ms a b
  treated_good inv a b (inl c) = (inv.good a b c).2
  treated_good inv a b (inr c) = λ g h g' h' i j. good_sym X g' h' g h ((inv.good b a c).2 g' h' g h j i)

  after_skip : {ms : List (List VTerm)} {taken : List ℕ} {treated : List (ℕ × ℕ)} {t u f : VTerm} {ts us fs : List VTerm} → Invariant ms taken treated → (a b k : ℕ)
      → IsNumber ms a (t ∷ ts) → IsNumber ms b (u ∷ us) → IsNumber ms k (f ∷ fs) → DividesLcm f t u → IsTreated treated a k → IsTreated treated k b
      → Invariant ms taken ((a, b) ∷ treated)
  after_skip {ms} {taken} {treated} {t} {u} {f} {ts} {us} {fs} inv a b k i j l d ak kb =
      let wt = inv.well a (t ∷ ts) i in
      let wu = inv.well b (u ∷ us) j in
      let wf = inv.well k (f ∷ fs) l in
      record {
        well = inv.well;
        members = inv.members;
        covered = inv.covered;
        good = with_pair treated a b (
          number_within i,
          number_within j,
          good_at i wt.0 j wu.0 (good_chain X (list_value p n m o (t ∷ ts)) (head_place p n m o (t ∷ ts) wt.0) (list_value p n m o (u ∷ us)) (head_place p n m o (u ∷ us) wu.0) (list_value p n m o (f ∷ fs)) (head_place p n m o (f ∷ fs) wf.0)
              (lcm_divided t u ts us wt.0 wu.0 d.0 f fs wf.0 d)
              (treated_good inv a k ak (list_value p n m o (t ∷ ts)) (head_place p n m o (t ∷ ts) wt.0) (list_value p n m o (f ∷ fs)) (head_place p n m o (f ∷ fs) wf.0) (member_at wt.0 wt.1 i) (member_at wf.0 wf.1 l))
              (treated_good inv k b kb (list_value p n m o (f ∷ fs)) (head_place p n m o (f ∷ fs) wf.0) (list_value p n m o (u ∷ us)) (head_place p n m o (u ∷ us) wu.0) (member_at wf.0 wf.1 l) (member_at wu.0 wu.1 j))),
        )
            inv.good;
      }

  invariant_of_run : {bound : List ℕ → Bool} → {log : List Entry} {ms : List (List VTerm)} {taken : List ℕ} {treated : List (ℕ × ℕ)} → FreeRun p n m o bound inputs log ms taken treated → Invariant ms taken treated
  invariant_of_run begin = start_invariant
  invariant_of_run (take_input run k by new i f red ke) = after_input (invariant_of_run run) k i f red ke
  invariant_of_run (take_pair run a b by l new i j sv red ke) = after_pair (invariant_of_run run) a b i j sv red ke
  invariant_of_run (skip_pair run a b k l ka kb new i j f d ak kb') = after_skip (invariant_of_run run) a b k i j f d ak kb'

  -- ---- the end
  lower_good : {ms : List (List VTerm)} → ((a b : ℕ) (t u : VTerm) (ts us : List VTerm) → a < b → IsNumber ms a (t ∷ ts) → IsNumber ms b (u ∷ us) → t.component ≡ u.component → GoodAt ms a b)
      → (a b : ℕ) → a < b → (x y : List VTerm) (f : IsFalling p n m o x) (f' : IsFalling p n m o y) → IsMonic x → IsMonic y → IsNumber ms a x → IsNumber ms b y
      → Good X (Members p n m o ms) (list_value p n m o x) (head_place p n m o x f) (list_value p n m o y) (head_place p n m o y f')
  lower_good good a b l [] y f f' mo mo' i j = absurd mo
  lower_good good a b l (t ∷ ts) [] f f' mo mo' i j = absurd mo'
  lower_good good a b l (t ∷ ts) (u ∷ us) f f' mo mo' i j = elim (ℕ_discrete t.component u.component) [
    | yes e ↦ good a b t u ts us l i j e (list_value p n m o (t ∷ ts)) (head_place p n m o (t ∷ ts) f) (list_value p n m o (u ∷ us)) (head_place p n m o (u ∷ us) f') (member_at f mo i) (member_at f' mo' j)
    | no w ↦ good_apart X (list_value p n m o (t ∷ ts)) (head_place p n m o (t ∷ ts) f) (list_value p n m o (u ∷ us)) (head_place p n m o (u ∷ us) f')
        (place_apart (ordered o n) (gf p) (gf_laws p) (gf_is_zero p) (head_place p n m o (t ∷ ts) f) (head_place p n m o (u ∷ us) f') (apart w))
  ]
    where
      apart : ¬ (t.component ≡ u.component) → ¬ (m - t.component ≡ m - u.component)
      apart w e = let a = f.within.1 in let b = f'.within.1 in absurd (w (omega (arith, a, b, e)))

  -- where the pairs with heads in one component are good, all are
  module _ {ms : List (List VTerm)} (good : (a b : ℕ) (t u : VTerm) (ts us : List VTerm) → a < b → IsNumber ms a (t ∷ ts) → IsNumber ms b (u ∷ us) → t.component ≡ u.component → GoodAt ms a b) where
    ordered_good : (a b : ℕ) → a < b → (g : Vect X) (h : ℕ × Monomial n) (g' : Vect X) (h' : ℕ × Monomial n) → MemberAt p n m o ms a g h → MemberAt p n m o ms b g' h' → Good X (Members p n m o ms) g h g' h'
    ordered_good a b l g h g' h' (member_at f mo i) (member_at f' mo' j) = lower_good good a b l _ _ f f' mo mo' i j

    self_good : (a : ℕ) (g : Vect X) (h : ℕ × Monomial n) (g' : Vect X) (h' : ℕ × Monomial n) → MemberAt p n m o ms a g h → MemberAt p n m o ms a g' h' → Good X (Members p n m o ms) g h g' h'
    self_good a g h g' h' (member_at {x = x} f mo i) j = at_number p n m o i f (λ u k. Good X (Members p n m o ms) (list_value p n m o x) (head_place p n m o x f) u k) (good_self X (list_value p n m o x) (head_place p n m o x f)) j

    pairs_good : (g : Vect X) (h : ℕ × Monomial n) (g' : Vect X) (h' : ℕ × Monomial n) → Members p n m o ms g h → Members p n m o ms g' h' → Good X (Members p n m o ms) g h g' h'
    pairs_good g h g' h' (a, i) (b, j) = elim (dec_lt a b) [
      | yes l ↦ ordered_good a b l g h g' h' i j
      | no w ↦ elim (dec_lt b a) [
        | yes l ↦ good_sym X g' h' g h (ordered_good b a l g' h' g h j i)
        | no w' ↦ let e : b ≡ a = omega arith in self_good a g h g' h' i (subst (λ k. MemberAt p n m o ms k g' h') e j)
      ]
    ]

  inputs_covered : {ms : List (List VTerm)} {taken : List ℕ} {treated : List (ℕ × ℕ)} → Invariant ms taken treated → IsComplete inputs ms taken treated
      → (g : Vect X) → Inputs g → Representation X (Members p n m o ms) (Anywhere X) g
  inputs_covered inv complete g (v, i, e) =
      let x = in_of_map (vector_of p n m) inputs i in
      let k = number_of_in x.1 in
      lin_eq X (inv.covered k.0 x.0 (complete.all_taken k.0 x.0 k.1) k.1) (λ b. e b ∙ ap (λ u. vector_value p n m o u b) (sym x.2))

  -- the members of any log are monic and lie in the span of the inputs
  pub members_of_run : {bound : List ℕ → Bool} → {log : List Entry} {ms : List (List VTerm)} {taken : List ℕ} {treated : List (ℕ × ℕ)} → FreeRun p n m o bound inputs log ms taken treated
      → AllMonic p n m o ms × ((g : Vect X) (h : ℕ × Monomial n) → Members p n m o ms g h → Span X Inputs g)
  members_of_run run = let inv = invariant_of_run run in (inv.well, inv.members)

  -- the members of a complete log are monic, and a Gröbner basis of the span of the inputs
  pub groebner_of_log : {bound : List ℕ → Bool} → {log : List Entry} {ms : List (List VTerm)} {taken : List ℕ} {treated : List (ℕ × ℕ)} → FreeRun p n m o bound inputs log ms taken treated → IsComplete inputs ms taken treated
      → AllMonic p n m o ms × IsGroebner X (Members p n m o ms) Inputs
  groebner_of_log run complete =
      let inv = invariant_of_run run in
      (inv.well, groebner_of_good_pairs X (members_monic p n m o _) (pairs_good (λ a b t u ts us l i j e. (inv.good a b (complete.all_treated a b t u ts us l i j e)).2)) inv.members (inputs_covered inv complete))

-- Buchberger's criterion: where the S-vectors of all pairs with heads in one component reduce to zero, monic members are a Gröbner basis of what they span
module _ {bound : List ℕ → Bool} (p : Prime) (n m : ℕ) (o : Order) {ms : List (List VTerm)} (well : AllMonic p n m o ms)
    (reduces : (a b : ℕ) (t u : VTerm) (ts us : List VTerm) → a < b → IsNumber ms a (t ∷ ts) → IsNumber ms b (u ∷ us) → t.component ≡ u.component
    → (v : List VTerm) × (by : List ℕ) × IsSVector p n m o bound t u ts us v × ReducesBy p n m o bound ms by v []) where
  pub groebner_of_s_vectors : IsGroebner (space p n m o) (Members p n m o ms) (Inputs p n m o ms)
  groebner_of_s_vectors = groebner_of_good_pairs (space p n m o) (members_monic p n m o ms) (pairs_good p n m o ms good) members covered
    where
      good : (a b : ℕ) (t u : VTerm) (ts us : List VTerm) → a < b → IsNumber ms a (t ∷ ts) → IsNumber ms b (u ∷ us) → t.component ≡ u.component → GoodAt p n m o ms ms a b
      good a b t u ts us l i j e =
          let wt = well a (t ∷ ts) i in
          let wu = well b (u ∷ us) j in
          let s = reduces a b t u ts us l i j e in
          good_at p n m o ms i wt.0 j wu.0 (pair_good p n m o ms t u ts us wt.0 wu.0 e well wt.1 wu.1 i j s.2 s.3 dropped)

      member_span : (k : ℕ) (g : Vect (space p n m o)) (h : ℕ × Monomial n) → MemberAt p n m o ms k g h → Span (space p n m o) (Inputs p n m o ms) g
      member_span k g h (member_at f mo i) = input_span p n m o ms i

      members : (g : Vect (space p n m o)) (h : ℕ × Monomial n) → Members p n m o ms g h → Span (space p n m o) (Inputs p n m o ms) g
      members g h i = member_span i.0 g h i.1

      covered : (g : Vect (space p n m o)) → Inputs p n m o ms g → Representation (space p n m o) (Members p n m o ms) (Anywhere (space p n m o)) g
      covered g (v, i, e) =
          let x = in_of_map (vector_of p n m) ms i in
          let k = number_of_in x.1 in
          let w = well k.0 x.0 k.1 in
          lin_eq (space p n m o) (rep_member (space p n m o) one (list_value p n m o x.0) (head_place p n m o x.0 w.0) (k.0, member_at w.0 w.1 k.1) tt)
          (λ b. e b ∙ ap (λ u. vector_value p n m o u b) (sym x.2) ∙ sym (shift_one (space p n m o) (list_value p n m o x.0) b))
