-- A log that was replayed without a fault and is whole at its end gives a Gröbner basis of the graph.
use Rattle.std.proofs.Common.{◌≡◌, ℕ, suc, ◌+◌, ◌<◌, Bool, true, false, ◌&&◌, ◌||◌, not, nat_lt, List, [], ◌∷◌, map, length, Contains, Ok, refl, sym, ap, ◌∙◌, subst, arith}
use Rattle.std.proofs.lemmas.Bool.{and_parts, eq-eqb, false≢true}
use Rattle.std.proofs.lemmas.Bool.Decides.{nat_tests}
use Rattle.fm_mono.specs.Bounded.{is_bounded}
use Rattle.fm_algebra.specs.PolynomialMatrices.{HasShape}
use Rattle.fm_poly.specs.declared.ring.Ring.{Ring}
use Rattle.fm_term.specs.declared.vterm.VTerm.{VTerm}
use Rattle.fm_term.specs.Meanings.{vectors_of}
use Rattle.fm_groebner.specs.Bases.{IsGroebnerBasis}
use Rattle.fm_groebner.specs.Graphs.{graph, graph_rows}
use Rattle.fm_groebner.specs.Logs.{Entry, IsNumber, first, next, IsComplete}
use Rattle.fm_groebner.specs.Syzygies.{IsBasisOfGraph}
use Rattle.fm_groebner.proofs.Consequences.{basis_of_log}
use Rattle.fm_complete.specs.Combinations.{AreVectors}
use Rattle.fm_graphs.specs.Graphs.{MatrixOf}
use Rattle.fm_graphs.specs.Listing.{terms_of}
use Rattle.fm_graphs.proofs.Graphs.{inputs_vectors, inputs_mean, graph_long}
use Rattle.fm_parts.specs.Replays.{graph_inputs, Replay, nothing_replayed, replay_entry, is_taken, is_treated, in_one_component, is_done, is_paired, all_paired_from, all_taken_from, is_whole, replayed}
use Rattle.fm_parts.proofs.Replaying.{taken_in, treated_in, IsReplayed, nothing_is_replayed, entry_replayed, monic, log_replayed}

-- the input with this number was taken
taken_number : (k : ℕ) (vs : List (List VTerm)) (taken : List ℕ) (j : ℕ) (v : List VTerm) → all_taken_from (suc k) vs taken ≡ true → IsNumber vs j v → is_taken taken (k + j) ≡ true
taken_number k [] taken j v e n = elim n [ ]
taken_number k (x ∷ vs) taken j v e first = let q : suc k ≡ k + 1 = omega arith in
    subst (λ y. is_taken taken y ≡ true) q (and_parts (is_taken taken (suc k)) (all_taken_from (suc (suc k)) vs taken) e).0
taken_number k (x ∷ vs) taken j v e (next {k = h} n) = let q : suc k + h ≡ k + suc h = omega arith in
    subst (λ y. is_taken taken y ≡ true) q (taken_number (suc k) vs taken h v (and_parts (is_taken taken (suc k)) (all_taken_from (suc (suc k)) vs taken) e).1 n)

paired_number : (a : ℕ) (fs : List (List VTerm)) (treated : List (ℕ × ℕ)) (g : List VTerm) (b i : ℕ) (f : List VTerm) → is_paired fs treated g b (suc a) ≡ true → IsNumber fs i f → is_done treated f g (a + i) b ≡ true
paired_number a [] treated g b i f e n = elim n [ ]
paired_number a (x ∷ fs) treated g b i f e first = let q : suc a ≡ a + 1 = omega arith in
    subst (λ y. is_done treated x g y b ≡ true) q (and_parts (is_done treated x g (suc a) b) (is_paired fs treated g b (suc (suc a))) e).0
paired_number a (x ∷ fs) treated g b i f e (next {k = h} n) = let q : suc a + h ≡ a + suc h = omega arith in
    subst (λ y. is_done treated f g y b ≡ true) q (paired_number (suc a) fs treated g b h f (and_parts (is_done treated x g (suc a) b) (is_paired fs treated g b (suc (suc a))) e).1 n)

all_paired_number : (b : ℕ) (members gs : List (List VTerm)) (treated : List (ℕ × ℕ)) (j : ℕ) (g : List VTerm) → all_paired_from (suc b) members gs treated ≡ true → IsNumber gs j g → is_paired members treated g (b + j) 1 ≡ true
all_paired_number b members [] treated j g e n = elim n [ ]
all_paired_number b members (x ∷ gs) treated j g e first = let q : suc b ≡ b + 1 = omega arith in
    subst (λ y. is_paired members treated x y 1 ≡ true) q (and_parts (is_paired members treated x (suc b) 1) (all_paired_from (suc (suc b)) members gs treated) e).0
all_paired_number b members (x ∷ gs) treated j g e (next {k = h} n) = let q : suc b + h ≡ b + suc h = omega arith in
    subst (λ y. is_paired members treated g y 1 ≡ true) q (all_paired_number (suc b) members gs treated h g (and_parts (is_paired members treated x (suc b) 1) (all_paired_from (suc (suc b)) members gs treated) e).1 n)

done_treated : (l one treated : Bool) → l ≡ true → one ≡ true → (not (l && one) || treated) ≡ true → treated ≡ true
done_treated true true x p q e = e
done_treated true false x p q e = absurd (false≢true q)
done_treated false one x p q e = absurd (false≢true p)

is_less : (a b : ℕ) → a < b → nat_lt a b ≡ true
is_less a b l = grind (arith, nat_tests)

pair_treated : (members : List (List VTerm)) (treated : List (ℕ × ℕ)) (a b : ℕ) (t u : VTerm) (ts us : List VTerm) → all_paired_from 1 members members treated ≡ true → a < b → IsNumber members a (t ∷ ts) → IsNumber members b (u ∷ us)
    → t.component ≡ u.component → Contains treated (a, b)
pair_treated members treated a b t u ts us e l i j c =
    let none_a : 0 + a ≡ a = omega arith in
    let none_b : 0 + b ≡ b = omega arith in
    let p = subst (λ z. is_paired members treated (u ∷ us) z 1 ≡ true) none_b (all_paired_number 0 members members treated b (u ∷ us) e j) in
    let q = subst (λ z. is_done treated (t ∷ ts) (u ∷ us) z b ≡ true) none_a (paired_number 0 members treated (u ∷ us) b a (t ∷ ts) p i) in
    treated_in a b treated (done_treated (nat_lt a b) (in_one_component (t ∷ ts) (u ∷ us)) (is_treated treated a b) (is_less a b l) (eq-eqb t.component u.component c) q)

pub whole_is_complete : (inputs : List (List VTerm)) (s : Replay) → is_whole inputs s ≡ true → IsComplete inputs s.members s.taken s.treated
unfolding is_whole
whole_is_complete inputs s e =
    let tests = and_parts (all_taken_from 1 inputs s.taken) (all_paired_from 1 s.members s.members s.treated) e in
    record {
      all_taken = λ k v i. let none : 0 + k ≡ k = omega arith in taken_in k s.taken (subst (λ z. is_taken s.taken z ≡ true) none (taken_number 0 inputs s.taken k v tests.0 i));
      all_treated = λ a b t u ts us l i j c. pair_treated s.members s.treated a b t u ts us tests.1 l i j c;
    }

module _ (r : Ring) (A : MatrixOf r) (shape : HasShape r.prime r.vars A.rows (length A.columns) A) where
  abbrev pub size : ℕ
  size = graph_rows r.prime r.vars A

  pub input_vectors : AreVectors r size (graph_inputs r A)
  unfolding graph_inputs
  input_vectors = inputs_vectors r size (graph r.prime r.vars A).columns (graph_long r A shape)

  input_means : vectors_of r.prime r.vars size (graph_inputs r A) ≡ (graph r.prime r.vars A).columns
  unfolding graph_inputs
  input_means = inputs_mean r size (graph r.prime r.vars A).columns (graph_long r A shape)

  -- a log of the graph, replayed so far
  abbrev pub IsOpen : Replay → Type 0
  IsOpen s = IsReplayed r size (graph_inputs r A) input_vectors s

  pub open_begins : IsOpen nothing_replayed
  open_begins = nothing_is_replayed r size (graph_inputs r A) input_vectors

  pub open_goes_on : (s t : Replay) (e : Entry) → IsOpen s → replay_entry r (graph_inputs r A) s e ≡ Ok t → IsOpen t
  open_goes_on s t e p h = entry_replayed r size (graph_inputs r A) input_vectors s p e t h

  pub open_ends : (s : Replay) → IsOpen s → is_whole (graph_inputs r A) s ≡ true → IsBasisOfGraph r.prime r.vars r.order A s.members
  open_ends s p w = record {
    falling = λ ts c. (monic r size (graph_inputs r A) input_vectors s p ts c).0;
    basis = subst (IsGroebnerBasis r.prime r.vars size r.order (vectors_of r.prime r.vars size s.members)) input_means
        (basis_of_log r.prime r.vars size r.order p.1 (whole_is_complete (graph_inputs r A) s w));
  }

  pub graph_completed : (entries : List Entry) (s : Replay) → replayed r (graph_inputs r A) entries ≡ Ok s → is_whole (graph_inputs r A) s ≡ true → IsBasisOfGraph r.prime r.vars r.order A s.members
  graph_completed entries s e w = open_ends s (log_replayed r size (graph_inputs r A) input_vectors entries s e) w
