-- The run of generators, over the numbers of the syzygies that are kept.
use mathlib.Core.List.{map-map}
use Rattle.std.proofs.Common.{ℕ, zero, suc, ◌-◌, ◌≡◌, Bool, true, false, cond, if◌then◌else◌, Result, Ok, Err, List, [], ◌∷◌, ◌++◌, length, map, take, drop, get_or, refl, sym, ap, ap₂, ◌∙◌, subst, arith}
use Rattle.std.specs.Prelude.{IsErr, IsErrAnd}
use Rattle.std.specs.List.{filter}
use Rattle.fm_algebra.specs.Matrix.{picked}
use Rattle.fm_algebra.specs.PolynomialMatrices.{matrix_picked}
use Rattle.fm_poly.specs.declared.ring.Ring.{Ring}
use Rattle.fm_run.specs.declared.stop.Stop.{Stop}
use Rattle.fm_run.specs.declared.stop.Stop.TheVariants as stops
use Rattle.fm_run.specs.Runs.{Halt, Ended, Work, Spends, ended_with, ready, next_of, ◌>>=◌, Follows, halt_of}
use Rattle.fm_run.proofs.Following.{after_value}
use Rattle.fm_run.proofs.Spending.{then_spends}
use Rattle.fm_run.proofs.Calls.{follows_part, row_stops, row_goes, row_wants, wanted}
use Rattle.fm_graphs.specs.Listing.{VectorOf}
use Rattle.fm_graphs.specs.Graphs.{MatrixOf, Graph, graph_run, syzygies, lifted}
use Rattle.fm_graphs.specs.Trims.{is_nonzero, spanned, trimmed_after, trimmed, Preimage, part, generating}
use Rattle.fm_graphs.proofs.Spending.{graph_spends, lifted_spends, trim_spends}
use Rattle.fm_mat.specs.Matrices.{MatrixValue, matrix_meaning}
use Rattle.fm_mat.proofs.Steps.{map_length}
use Rattle.fm_syz.specs.Numbers.{numbers_from, column_at}
use Rattle.fm_syz.proofs.Numbering.{read_map, all_numbered}

-- ---- lists that are mapped
module _ {X Y : Type 0} (f : X → Y) where
  map_append : (xs ys : List X) → map f (xs ++ ys) ≡ map f xs ++ map f ys
  map_append [] ys = refl
  map_append (x ∷ xs) ys = ap (λ zs. f x ∷ zs) (map_append xs ys)

  filter_map : (P : Y → Bool) (xs : List X) → filter P (map f xs) ≡ map f (filter (λ x. P (f x)) xs)
  filter_map P [] = refl
  filter_map P (x ∷ xs) = ap (λ ys. cond (P (f x)) (f x ∷ ys) ys) (filter_map P xs) ∙ go (P (f x))
    where
      go : (b : Bool) → cond b (f x ∷ map f (filter (λ x. P (f x)) xs)) (map f (filter (λ x. P (f x)) xs)) ≡ map f (cond b (x ∷ filter (λ x. P (f x)) xs) (filter (λ x. P (f x)) xs))
      go true = refl
      go false = refl

-- ---- a value passes through a function
module _ {A B C : Type 0} where
  part_first : (f : A → B) (F : B → Work C) (d : Ended A) → next_of F (ended_with f d).end (ended_with f d).left ≡ next_of (λ x. F (f x)) d.end d.left
  part_first f F d = go d.end d.left
    where
      go : (e : Result A Halt) (k : ℕ) → next_of F (ended_with f (record { end = e; left = k })).end (ended_with f (record { end = e; left = k })).left ≡ next_of (λ x. F (f x)) e k
      go (Ok x) k = refl
      go (Err e) k = refl

  part_last : (F : A → Work B) (G : A → Work C) (g : B → C) → ((x : A) (units : ℕ) → G x units ≡ ended_with g (F x units)) → (d : Ended A) → next_of G d.end d.left ≡ ended_with g (next_of F d.end d.left)
  part_last F G g same d = go d.end d.left
    where
      go : (e : Result A Halt) (k : ℕ) → next_of G e k ≡ ended_with g (next_of F e k)
      go (Ok x) k = same x k
      go (Err e) k = refl

-- a trim of things that are named by others
module _ (r : Ring) {X Y : Type 0} (f : X → Y) (column : Y → VectorOf r) where
  kept_or_not : (inside : Bool) (kept : List X) (x : X) → (if inside then map f kept else f x ∷ map f kept) ≡ map f (if inside then kept else x ∷ kept)
  kept_or_not true kept x = refl
  kept_or_not false kept x = refl

  after_named : (former later : List X) (units : ℕ) → trimmed_after r column (map f former) (map f later) units ≡ ended_with (map f) (trimmed_after r (λ x. column (f x)) former later units)
  after_named former [] units = refl
  after_named former (x ∷ later) units =
      let test = λ (kept : List Y). spanned r (map column (map f former ++ kept)) (column (f x)) >>= λ yes. ready (if yes then kept else f x ∷ kept) in
      let test' = λ (kept : List X). spanned r (map (λ x. column (f x)) (former ++ kept)) (column (f x)) >>= λ yes. ready (if yes then kept else x ∷ kept) in
      let d = trimmed_after r (λ x. column (f x)) (former ++ x ∷ []) later units in
      ap (λ fs. (trimmed_after r column fs (map f later) >>= test) units) (sym (map_append f former (x ∷ [])))
      ∙ ap (λ (e : Ended (List Y)). next_of test e.end e.left) (after_named (former ++ x ∷ []) later units)
      ∙ part_first (map f) test d
      ∙ part_last test' (λ kept. test (map f kept)) (map f) (λ kept u.
      ap (λ vs. (spanned r vs (column (f x)) >>= λ yes. ready (if yes then map f kept else f x ∷ map f kept)) u) (ap (map column) (sym (map_append f former kept)) ∙ map-map column f (former ++ kept))
      ∙ part_last (λ yes. ready (if yes then kept else x ∷ kept)) (λ yes. ready (if yes then map f kept else f x ∷ map f kept)) (map f)
      (λ yes v. ap (λ ks. record { end = Ok ks; left = v }) (kept_or_not yes kept x)) (spanned r (map (λ x. column (f x)) (former ++ kept)) (column (f x)) u)) d

  pub trimmed_named : (xs : List X) (units : ℕ) → trimmed r column (map f xs) units ≡ ended_with (map f) (trimmed r (λ x. column (f x)) xs units)
  unfolding trimmed
  trimmed_named xs units = after_named [] xs units

module _ (r : Ring) (a b : ℕ) (G : Graph r) where
  abbrev S : List (VectorOf r)
  S = (syzygies r G).columns

  abbrev at : ℕ → VectorOf r
  at k = get_or S (k - 1) []

  -- the first parts of the syzygies, and the others
  abbrev pub U : MatrixOf r
  U = part r a (take a) S

  abbrev pub L : MatrixOf r
  L = part r b (drop a) S

  abbrev pub nonzero_numbers : List ℕ
  nonzero_numbers = filter (λ k. is_nonzero r (column_at r U k)) (numbers_from 1 (length U.columns))

  -- the trim of the first parts, as a matrix has them
  pub run_at : (M : MatrixValue) → matrix_meaning r M ≡ U → (units : ℕ)
      → trimmed r (column_at r (matrix_meaning r M)) (filter (λ k. is_nonzero r (column_at r (matrix_meaning r M) k)) (numbers_from 1 (length M.columns))) units ≡ trimmed r (column_at r U) nonzero_numbers units
  run_at M is units =
      ap (λ n. trimmed r (column_at r (matrix_meaning r M)) (filter (λ k. is_nonzero r (column_at r (matrix_meaning r M) k)) (numbers_from 1 n)) units) (sym (map_length _ M.columns))
      ∙ ap (λ (A : MatrixOf r). trimmed r (column_at r A) (filter (λ k. is_nonzero r (column_at r A k)) (numbers_from 1 (length A.columns))) units) is

  take_none : (a : ℕ) → ◌≡◌ {A = VectorOf r} (take a []) []
  take_none zero = refl
  take_none (suc a) = refl

  drop_none : (a : ℕ) → ◌≡◌ {A = VectorOf r} (drop a []) []
  drop_none zero = refl
  drop_none (suc a) = refl

  upper_at : ◌≡◌ {A = ℕ → VectorOf r} (λ k. column_at r U k) (λ k. take a (at k))
  upper_at = λ i k. (ap (get_or (map (take a) S) (k - 1)) (sym (take_none a)) ∙ read_map (take a) S (k - 1) []) i

  lower_at : ◌≡◌ {A = ℕ → VectorOf r} (λ k. column_at r L k) (λ k. drop a (at k))
  lower_at = λ i k. (ap (get_or (map (drop a) S) (k - 1)) (sym (drop_none a)) ∙ read_map (drop a) S (k - 1) []) i

  abbrev candidates : List (VectorOf r)
  candidates = filter (λ v. is_nonzero r (take a v)) S

  candidates_are : candidates ≡ map at nonzero_numbers
  candidates_are =
      ap (filter (λ v. is_nonzero r (take a v))) (sym (all_numbered S []) ∙ ap (λ n. map at (numbers_from 1 n)) (sym (map_length (take a) S)))
      ∙ filter_map at (λ v. is_nonzero r (take a v)) (numbers_from 1 (length U.columns))
      ∙ ap (λ (c : ℕ → VectorOf r). map at (filter (λ k. is_nonzero r (c k)) (numbers_from 1 (length U.columns)))) (sym upper_at)

  abbrev first : Work (List (VectorOf r))
  first = trimmed r (take a) candidates

  first_is : (units : ℕ) → first units ≡ ended_with (map at) (trimmed r (column_at r U) nonzero_numbers units)
  first_is units =
      ap (λ vs. trimmed r (take a) vs units) candidates_are ∙ trimmed_named r at (take a) nonzero_numbers units
      ∙ ap (λ (c : ℕ → VectorOf r). ended_with (map at) (trimmed r c nonzero_numbers units)) (sym upper_at)

  first_spends : Spends first
  unfolding trimmed
  first_spends = trim_spends r (take a) [] candidates

  -- what follows the trim, where found and x are picked
  abbrev lifting : (M X : MatrixOf r) → Graph r → Work (Preimage r)
  lifting M X h = lifted r h U.columns >>= λ w. ready (record { whole = G; found = M; x = X; w = w; graph = h })

  abbrev pub completing : (M X : MatrixOf r) → Work (Preimage r)
  completing M X = graph_run r M >>= lifting M X

  abbrev after : List (VectorOf r) → Work (Preimage r)
  after kept = completing (part r a (take a) kept) (part r b (drop a) kept)

  lifting_spends : (M X : MatrixOf r) (h : Graph r) → Spends (lifting M X h)
  lifting_spends M X h = then_spends (lifted r h U.columns) (λ w. ready (record { whole = G; found = M; x = X; w = w; graph = h })) (lifted_spends r h U.columns) (λ w units. omega arith)

  after_spends : (kept : List (VectorOf r)) → Spends (after kept)
  after_spends kept = then_spends (graph_run r (part r a (take a) kept)) (lifting (part r a (take a) kept) (part r b (drop a) kept)) (graph_spends r (part r a (take a) kept)) (lifting_spends (part r a (take a) kept) (part r b (drop a) kept))

  module _ {Y : Type 0} (view : Y → Preimage r) (old new : ℕ) where
    pub trim_stops : (stop : Stop) → Follows (λ (ks : List ℕ). ks) (Err stop) old new (trimmed r (column_at r U) nonzero_numbers old) → Follows view (Err stop) old new (generating r a b G old)
    unfolding generating
    trim_stops stop h =
        row_stops first after old new (λ (vs : List (VectorOf r)). vs) view halt_of stop after_spends
        (subst (λ d. Follows {X = List (VectorOf r)} (λ vs. vs) (Err stop) old new d) (sym (first_is old))
        (follows_part (map at) old new (trimmed r (column_at r U) nonzero_numbers old) (λ (ks : List ℕ). ks) (λ (vs : List (VectorOf r)). vs) halt_of stop h))

  -- ---- after the trim
  module _ (old mid : ℕ) (ks : List ℕ) (e : trimmed r (column_at r U) nonzero_numbers old ≡ record { end = Ok ks; left = mid }) where
    first_ends : first old ≡ record { end = Ok (map at ks); left = mid }
    first_ends = first_is old ∙ ap (ended_with (map at)) e

    pub found_is : (M : MatrixOf r) → M ≡ matrix_picked r.prime r.vars U (map (λ k. k - 1) ks) → M ≡ part r a (take a) (map at ks)
    unfolding matrix_picked picked
    found_is M is =
        is ∙ ap (λ vs. record { rows = a; columns = vs }) (map-map (λ j. get_or (map (take a) S) j []) (λ k. k - 1) ks ∙ ap (λ (c : ℕ → VectorOf r). map c ks) upper_at ∙ sym (map-map (take a) at ks))

    pub x_is : (X : MatrixOf r) → X ≡ matrix_picked r.prime r.vars L (map (λ k. k - 1) ks) → X ≡ part r b (drop a) (map at ks)
    unfolding matrix_picked picked
    x_is X is =
        is ∙ ap (λ vs. record { rows = b; columns = vs }) (map-map (λ j. get_or (map (drop a) S) j []) (λ k. k - 1) ks ∙ ap (λ (c : ℕ → VectorOf r). map c ks) lower_at ∙ sym (map-map (drop a) at ks))

    module _ {Y : Type 0} (view : Y → Preimage r) where
      pub trim_wants : (answer : Result Y Stop) → IsErr answer × IsErrAnd answer (λ s. s ≡ stops.Memory) → Follows view answer old mid (generating r a b G old)
      unfolding generating
      trim_wants answer h =
          let w = row_wants first after old mid first_spends after_spends (ap (λ (d : Ended (List (VectorOf r))). d.left) first_ends) in
          wanted view answer old mid (generating r a b G old) h w.0 w.1

      module _ (M X : MatrixOf r) (found : M ≡ part r a (take a) (map at ks)) (x : X ≡ part r b (drop a) (map at ks)) where
        after_is : (units : ℕ) → completing M X units ≡ after (map at ks) units
        after_is units = ap₂ (λ m n. completing m n units) found x

        -- the run goes on
        goes : (answer : Result Y Stop) (new : ℕ) → Follows view answer mid new (completing M X mid) → Follows view answer old new (generating r a b G old)
        unfolding generating
        goes answer new h =
            row_goes first after old new (map at ks) mid first_ends first_spends view halt_of answer (subst (λ d. Follows view answer mid new d) (after_is mid) h)

        pub graph_stops : {Z : Type 0} (seen : Z → Graph r) (stop : Stop) (new : ℕ) → Follows seen (Err stop) mid new (graph_run r M mid) → Follows view (Err stop) old new (generating r a b G old)
        graph_stops seen stop new h = goes (Err stop) new (row_stops (graph_run r M) (lifting M X) mid new seen view halt_of stop (lifting_spends M X) h)

        module _ (h : Graph r) (next : ℕ) (made : graph_run r M mid ≡ record { end = Ok h; left = next }) where
          later : (answer : Result Y Stop) (new : ℕ) → Follows view answer next new (lifting M X h next) → Follows view answer old new (generating r a b G old)
          later answer new w = goes answer new (row_goes (graph_run r M) (lifting M X) mid new h next made (graph_spends r M) view halt_of answer w)

          pub lift_stops : {Z : Type 0} (seen : Z → MatrixOf r) (stop : Stop) (new : ℕ) → Follows seen (Err stop) next new (lifted r h U.columns next) → Follows view (Err stop) old new (generating r a b G old)
          lift_stops seen stop new w =
              later (Err stop) new (row_stops (lifted r h U.columns) (λ w. ready (record { whole = G; found = M; x = X; w = w; graph = h })) next new seen view halt_of stop (λ w units. omega arith) w)

          pub all_end : (W : MatrixOf r) (new : ℕ) → lifted r h U.columns next ≡ record { end = Ok W; left = new } → (y : Y) → view y ≡ record { whole = G; found = M; x = X; w = W; graph = h }
              → generating r a b G old ≡ record { end = Ok (view y); left = new }
          all_end W new w y is =
              later (Ok y) new
              (after_value (lifted r h U.columns) (λ w. ready (record { whole = G; found = M; x = X; w = w; graph = h })) next new W w ∙ ap (λ p. record { end = Ok p; left = new }) (sym is))
