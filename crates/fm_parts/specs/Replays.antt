-- Logs of completions of graphs, replayed entry by entry.
use Rattle.std.specs.Prelude.{ℕ, suc, Bool, true, false, ◌&&◌, ◌||◌, not, nat_eq, nat_lt, nat_le, List, [], ◌∷◌, ◌++◌, map, length, Result, Ok, Err}
use Rattle.std.specs.List.{list_all, list_any}
use Rattle.fm_tuple.specs.Tuple.{tuple_maximum}
use Rattle.fm_words.specs.Steps.{◌>>=◌, steps}
use Rattle.fm_poly.specs.declared.ring.Ring.{Ring}
use Rattle.fm_term.specs.declared.vterm.VTerm.{VTerm}
use Rattle.fm_groebner.specs.Graphs.{graph}
use Rattle.fm_groebner.specs.Logs.{Entry, Start, Input, Pair, Skip}
use Rattle.fm_vec.specs.Multiples.{multiple_fits, s_vector_of, s_vector_fits, monic_of}
use Rattle.fm_complete.specs.Divisors.{tuple_divides, term_divides, step_for}
use Rattle.fm_complete.specs.Reductions.{cancelled}
use Rattle.fm_complete.specs.Trails.{member_at}
use Rattle.fm_graphs.specs.Listing.{terms_of}
use Rattle.fm_graphs.specs.Graphs.{MatrixOf}

-- why a line is bad
pub data Reason : Type 0 where
  Truncated Form Exponents Reference Shape Depth Value BadEntry BadLog Reduction : Reason

-- nothing more, where the test holds
abbrev pub needs : Bool → Reason → Result (Unit {0}) Reason
needs true why = Ok tt
needs false why = Err why

-- k is the number of an element; numbers count from 1
abbrev pub is_number : {A : Type 0} → List A → ℕ → Bool
is_number xs k = nat_lt 0 k && nat_le k (length xs)

abbrev pub are_numbers : {A : Type 0} → List A → List ℕ → Bool
are_numbers xs ks = list_all (is_number xs) ks

-- ---- reductions

-- one head reduction by the member with number k, whose head has to divide the head of the vector
abbrev pub reduce_once : Ring → Reason → ℕ → List VTerm → List VTerm → Result (List VTerm) Reason
reduce_once r why k [] v = Err why
reduce_once r why k (t ∷ ts) [] = Err why
reduce_once r why k (t ∷ ts) (s ∷ vs) =
    needs (term_divides t s) why >>= λ _. needs (multiple_fits (step_for r k t s).mono (t ∷ ts)) Exponents >>= λ _.
    Ok (cancelled r (step_for r k t s, t ∷ ts) (s ∷ vs))

-- each number in turn is that of a member whose head divides the head of the current vector
abbrev pub reduce_by : Ring → Reason → List (List VTerm) → List ℕ → List VTerm → Result (List VTerm) Reason
reduce_by r why members [] v = Ok v
reduce_by r why members (k ∷ ks) v = reduce_once r why k (member_at members k) v >>= λ w. reduce_by r why members ks w

-- ---- logs

-- what a log completes: the columns of the graph of a matrix
unfoldable pub graph_inputs : (r : Ring) → MatrixOf r → List (List VTerm)
graph_inputs r A = map (terms_of r) (graph r.prime r.vars A).columns

-- the members so far, the inputs that were taken, and the pairs that were formed or skipped
pub record Replay : Type 0 where
  pub members : List (List VTerm)
  pub taken : List ℕ
  pub treated : List (ℕ × ℕ)

unfoldable pub nothing_replayed : Replay
nothing_replayed = record { members = []; taken = []; treated = [] }

abbrev pub is_taken : List ℕ → ℕ → Bool
is_taken ks k = list_any (nat_eq k) ks

abbrev pub same_pair : ℕ × ℕ → ℕ × ℕ → Bool
same_pair p q = nat_eq p.0 q.0 && nat_eq p.1 q.1

abbrev pub is_treated : List (ℕ × ℕ) → ℕ → ℕ → Bool
is_treated pairs a b = list_any (same_pair (a, b)) pairs

-- in either order
abbrev pub is_settled : List (ℕ × ℕ) → ℕ → ℕ → Bool
is_settled pairs a b = is_treated pairs a b || is_treated pairs b a

-- heads in one component
abbrev pub in_one_component : List VTerm → List VTerm → Bool
in_one_component [] g = false
in_one_component (t ∷ ts) [] = false
in_one_component (t ∷ ts) (u ∷ us) = nat_eq t.component u.component

-- the head of h is in the component of the heads of f and g, and divides their least common multiple
abbrev pub divides_lcm : List VTerm → List VTerm → List VTerm → Bool
divides_lcm [] f g = false
divides_lcm (s ∷ ss) [] g = false
divides_lcm (s ∷ ss) (t ∷ ts) [] = false
divides_lcm (s ∷ ss) (t ∷ ts) (u ∷ us) = nat_eq s.component t.component && tuple_divides s.mono (tuple_maximum t.mono u.mono)

-- a rest that isn't zero is kept, made monic; one that is zero is told to be so
abbrev pub with_rest : Ring → Bool → List VTerm → Replay → Result Replay Reason
with_rest r true [] s = Err BadEntry
with_rest r true (t ∷ ts) s = Ok (record s { members = s.members ++ monic_of r (t ∷ ts) ∷ [] })
with_rest r false [] s = Ok s
with_rest r false (t ∷ ts) s = Err BadEntry

-- a pair that may be treated: a is below b, their heads are in one component, and it wasn't treated
abbrev pub is_open_pair : Replay → ℕ → ℕ → Bool
is_open_pair s a b = nat_lt a b && (in_one_component (member_at s.members a) (member_at s.members b) && not (is_treated s.treated a b))

-- the chain criterion: k is another member, whose head divides the least common multiple, and both pairs with it were treated
abbrev pub may_skip : Replay → ℕ → ℕ → ℕ → Bool
may_skip s a b k =
    not (nat_eq k a) && (not (nat_eq k b) && (divides_lcm (member_at s.members k) (member_at s.members a) (member_at s.members b)
    && (is_settled s.treated a k && is_settled s.treated k b)))

abbrev pub with_pair : Replay → ℕ → ℕ → Replay
with_pair s a b = record s { treated = (a, b) ∷ s.treated }

module _ (r : Ring) (inputs : List (List VTerm)) where
  -- input k exists and wasn't taken
  abbrev pub take_input : Replay → ℕ → List ℕ → Bool → Result Replay Reason
  take_input s k by keep =
      needs (are_numbers s.members by) Reference >>= λ _.
      needs (is_number inputs k && not (is_taken s.taken k)) BadEntry >>= λ _.
      reduce_by r BadEntry s.members by (member_at inputs k) >>= λ w.
      with_rest r keep w (record s { taken = k ∷ s.taken })

  abbrev pub take_pair : Replay → ℕ → ℕ → List ℕ → Bool → Result Replay Reason
  take_pair s a b by keep =
      needs (are_numbers s.members (a ∷ b ∷ by)) Reference >>= λ _.
      needs (is_open_pair s a b) BadEntry >>= λ _.
      needs (s_vector_fits (member_at s.members a) (member_at s.members b)) Exponents >>= λ _.
      reduce_by r BadEntry s.members by (s_vector_of r (member_at s.members a) (member_at s.members b)) >>= λ w.
      with_rest r keep w (with_pair s a b)

  abbrev pub skip_pair : Replay → (a b k : ℕ) → Result Replay Reason
  skip_pair s a b k =
      needs (are_numbers s.members (a ∷ b ∷ k ∷ [])) Reference >>= λ _.
      needs (is_open_pair s a b && may_skip s a b k) BadEntry >>= λ _.
      Ok (with_pair s a b)

  abbrev pub start_entry : Replay → Start → List ℕ → Bool → Result Replay Reason
  start_entry s (Input k) by keep = take_input s k by keep
  start_entry s (Pair a b) by keep = take_pair s a b by keep
  start_entry s (Skip a b k) by keep = skip_pair s a b k

  -- one entry; or why it is no free step
  unfoldable pub replay_entry : Replay → Entry → Result Replay Reason
  replay_entry s e = start_entry s e.start e.by e.keep

  -- the entries of a log, one after the other
  abbrev pub replayed : List Entry → Result Replay Reason
  replayed entries = steps replay_entry nothing_replayed entries

-- ---- the end of a log

abbrev pub all_taken_from : ℕ → List (List VTerm) → List ℕ → Bool
all_taken_from k [] taken = true
all_taken_from k (v ∷ vs) taken = is_taken taken k && all_taken_from (suc k) vs taken

-- the pair of two members is treated where it has to be
abbrev pub is_done : List (ℕ × ℕ) → (f g : List VTerm) → (a b : ℕ) → Bool
is_done treated f g a b = not (nat_lt a b && in_one_component f g) || is_treated treated a b

-- member g, with number b, has been paired with those from number a on
abbrev pub is_paired : List (List VTerm) → List (ℕ × ℕ) → List VTerm → ℕ → ℕ → Bool
is_paired [] treated g b a = true
is_paired (f ∷ fs) treated g b a = is_done treated f g a b && is_paired fs treated g b (suc a)

abbrev pub all_paired_from : ℕ → List (List VTerm) → List (List VTerm) → List (ℕ × ℕ) → Bool
all_paired_from b members [] treated = true
all_paired_from b members (g ∷ gs) treated = is_paired members treated g b 1 && all_paired_from (suc b) members gs treated

-- all inputs were taken, and all pairs of members with heads in one component were treated
unfoldable pub is_whole : List (List VTerm) → Replay → Bool
is_whole inputs s = all_taken_from 1 inputs s.taken && all_paired_from 1 s.members s.members s.treated
