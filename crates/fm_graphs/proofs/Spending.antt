-- Runs spend units and make none; a turn that goes on has spent one.
use Rattle.std.proofs.Common.{ℕ, suc, ◌<◌, ◌≡◌, if◌then◌else◌, Bool, true, false, List, [], ◌∷◌, ap, arith}
use Rattle.fm_poly.specs.declared.ring.Ring.{Ring}
use Rattle.fm_run.specs.Runs.{Ended}
use Rattle.fm_complete.specs.Reductions.{Reduced, divided}
use Rattle.fm_run.specs.Runs.{ready, ◌>>=◌, each}
use Rattle.std.proofs.Common.{◌++◌, map, length, take, drop, subst}
use Rattle.std.specs.List.{filter}
use Rattle.fm_algebra.specs.PolynomialMatrices.{matrix_beside, matrix_twist}
use Rattle.fm_groebner.specs.Graphs.{graph, zero_vector}
use Rattle.fm_complete.specs.Completions.{numbers, completed}
use Rattle.fm_graphs.specs.Listing.{VectorOf, terms_of}
use Rattle.fm_graphs.specs.Graphs.{MatrixOf, Graph, Outside, Inside, all_inside, first_outside, width, graph_run, syzygies, lift_run, is_inside, solution, lifted, with_solution, inside_from}
use Rattle.fm_graphs.specs.Bounds.{twisted_matrix}
use Rattle.fm_mat.specs.Bounds.{entries_fit}
use Rattle.fm_run.specs.Runs.{Spends}
use Rattle.fm_complete.proofs.CompletionSpending.{completed_spends}
use Rattle.fm_run.proofs.Spending.{ready_spends, then_spends, each_spends, bounded_spends}
use Rattle.fm_complete.proofs.Spending.{divided_run_spends, divided_spends}
use Rattle.fm_run.proofs.Ends.{Ends, same_value, bound}
use Rattle.fm_graphs.specs.Trims.{is_zero, spanned, trimmed_after, trimmed, is_nonzero, part, generating, preimage_run}

module _ (r : Ring) where
  pub graph_spends : (A : MatrixOf r) → Spends (graph_run r A)
  unfolding graph_run
  graph_spends A = then_spends (completed r (map (terms_of r) (graph r.prime r.vars A).columns)) (λ c. ready (record { matrix = A; members = c.members; log = c.log }))
      (completed_spends r (map (terms_of r) (graph r.prime r.vars A).columns)) (λ c units. omega arith)

  pub lift_spends : (g : Graph r) (v : VectorOf r) → Spends (lift_run r g v)
  unfolding lift_run
  lift_spends g v = divided_run_spends r g.members (terms_of r (v ++ zero_vector r.prime r.vars (width r g)))

  pub lifted_spends : (g : Graph r) (vs : List (VectorOf r)) → Spends (lifted r g vs)
  unfolding lifted
  lifted_spends g vs = then_spends (each (λ v. lift_run r g v >>= λ x. ready (solution r g x)) vs) (λ ws. ready (record { rows = width r g; columns = ws }))
      (each_spends (λ v. lift_run r g v >>= λ x. ready (solution r g x)) (λ v. then_spends (lift_run r g v) (λ x. ready (solution r g x)) (lift_spends g v) (λ x. ready_spends (solution r g x))) vs) (λ ws units. omega arith)

  pub spanned_spends : (vs : List (VectorOf r)) (v : VectorOf r) → Spends (spanned r vs v)
  spanned_spends vs v = then_spends (completed r (map (terms_of r) vs)) (λ c. (λ units. divided r c.members units (terms_of r v)) >>= λ x. ready (is_zero x.rest)) (completed_spends r (map (terms_of r) vs))
      (λ c. then_spends (λ units. divided r c.members units (terms_of r v)) (λ x. ready (is_zero x.rest)) (divided_run_spends r c.members (terms_of r v)) (λ x. ready_spends (is_zero x.rest)))

  pub trim_spends : {X : Type 0} (column : X → VectorOf r) (former later : List X) → Spends (trimmed_after r column former later)
  trim_spends column former [] = λ units. omega arith
  trim_spends column former (x ∷ later) =
      then_spends (trimmed_after r column (former ++ x ∷ []) later) (λ kept. spanned r (map column (former ++ kept)) (column x) >>= λ yes. ready (if yes then kept else x ∷ kept)) (trim_spends column (former ++ x ∷ []) later)
      (λ kept. then_spends (spanned r (map column (former ++ kept)) (column x)) (λ yes. ready (if yes then kept else x ∷ kept)) (spanned_spends (map column (former ++ kept)) (column x)) (λ yes units. omega arith))

  pub generating_spends : (a b : ℕ) (g : Graph r) → Spends (generating r a b g)
  unfolding generating trimmed
  generating_spends a b g =
      let S = (syzygies r g).columns in
      let lifting = λ (kept : List (VectorOf r)) (h : Graph r). lifted r h (map (take a) S) >>= λ w. ready (record { whole = g; found = part r a (take a) kept; x = part r b (drop a) kept; w = w; graph = h }) in
      then_spends (trimmed r (take a) (filter (λ v. is_nonzero r (take a v)) S)) (λ kept. graph_run r (part r a (take a) kept) >>= lifting kept) (trim_spends (take a) [] (filter (λ v. is_nonzero r (take a v)) S))
      (λ kept. then_spends (graph_run r (part r a (take a) kept)) (lifting kept) (graph_spends (part r a (take a) kept))
      (λ h. then_spends (lifted r h (map (take a) S)) (λ w. ready (record { whole = g; found = part r a (take a) kept; x = part r b (drop a) kept; w = w; graph = h })) (lifted_spends h (map (take a) S)) (λ w units. omega arith)))

  pub preimage_spends : (A B : MatrixOf r) → Spends (preimage_run r A B)
  unfolding preimage_run
  preimage_spends A B = then_spends (graph_run r (matrix_beside r.prime r.vars A B)) (generating r (length A.columns) (length B.columns)) (graph_spends (matrix_beside r.prime r.vars A B)) (λ g. generating_spends (length A.columns) (length B.columns) g)

  pub twist_spends : (e : ℕ) (A : MatrixOf r) → Spends (twisted_matrix r.prime r.vars e A)
  unfolding twisted_matrix
  twist_spends e A = bounded_spends (entries_fit r.prime r.vars e A) (matrix_twist r.prime r.vars e A)

  -- a column that stays outside was divided
  not_outside : (ws : List (VectorOf r)) (o : Outside) → ◌≡◌ {A = Inside r} (all_inside ws) (first_outside o) → ⊥
  not_outside ws o e = cc

  still_outside : (w : VectorOf r) (y : Inside r) (o : Outside) → with_solution r w y ≡ first_outside o → y ≡ first_outside o
  still_outside w (all_inside ws) o e = absurd (not_outside (w ∷ ws) o e)
  still_outside w (first_outside o') o e = e

  pub outside_spends : (g : Graph r) (k : ℕ) (vs : List (VectorOf r)) (units left : ℕ) (o : Outside) → Ends (inside_from r g k vs units) (first_outside o) left → left < units
  unfolding lift_run
  outside_spends g k [] units left o e = absurd (not_outside [] o (same_value (all_inside []) (first_outside o) units left e))
  outside_spends g k (v ∷ vs) units left o e =
      let after = λ (x : Reduced). if is_inside r g x then (inside_from r g (suc k) vs >>= λ y. ready (with_solution r (solution r g x) y)) else ready (first_outside (record { column = k; by = numbers x.steps; rest = x.rest })) in
      let b = bound (lift_run r g v) after units left (first_outside o) e in
      let paid = divided_spends r g.members (terms_of r (v ++ zero_vector r.prime r.vars (width r g))) units b.between b.value b.first in
      go (is_inside r g b.value) b.value b.between paid b.second (λ units left o. outside_spends g (suc k) vs units left o)
    where
      go : (i : Bool) (x : Reduced) (u : ℕ) → u < units
          → Ends ((if i then (inside_from r g (suc k) vs >>= λ y. ready (with_solution r (solution r g x) y)) else ready (first_outside (record { column = k; by = numbers x.steps; rest = x.rest }))) u) (first_outside o) left
          → ((units left : ℕ) (o : Outside) → Ends (inside_from r g (suc k) vs units) (first_outside o) left → left < units) → left < units
      go true x u paid e later =
          let d = bound (inside_from r g (suc k) vs) (λ y. ready (with_solution r (solution r g x) y)) u left (first_outside o) e in
          let same = still_outside (solution r g x) d.value o (same_value (with_solution r (solution r g x) d.value) (first_outside o) d.between left d.second) in
          let h = later u d.between o (subst (λ y. Ends (inside_from r g (suc k) vs u) y d.between) same d.first) in
          let rest : d.between ≡ left = ap (λ (q : Ended (Inside r)). q.left) d.second in
          omega (arith, paid, h, rest)
      go false x u paid e later = let rest : u ≡ left = ap (λ (q : Ended (Inside r)). q.left) e in omega (arith, paid, rest)
