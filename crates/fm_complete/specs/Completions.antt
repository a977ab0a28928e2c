-- The standard completion (Buchberger's algorithm for submodules) as a run, with its log.
use Rattle.std.specs.Prelude.{ℕ, zero, suc, ◌==◌, ◌&&◌, ◌||◌, not, if◌then◌else◌, Bool, true, false, List, [], ◌∷◌, ◌++◌, map, length, Option, Some, None, Err}
use Rattle.std.specs.List.{list_any}
use Rattle.std.specs.Ordering.{nat_cmp, then_cmp, on}
use Rattle.std.specs.declared.cmp.Ordering.{Ordering}
use Rattle.std.specs.declared.cmp.Ordering.TheVariants.{Less, Equal, Greater}
use Rattle.fm_tuple.specs.Tuple.{tuple_maximum}
use Rattle.fm_mono.specs.declared.order.Order.{Order}
use Rattle.fm_term.specs.Places.{place_cmp}
use Rattle.fm_groebner.specs.Logs.{Entry, Start, Input, Pair, Skip}
use Rattle.fm_poly.specs.declared.ring.Ring.{Ring}
use Rattle.fm_term.specs.declared.vterm.VTerm.{VTerm}
use Rattle.fm_vec.specs.Multiples.{monic_of, s_vector_of, s_vector_fits}
use Rattle.fm_complete.specs.declared.step.Step.{Step}
use Rattle.fm_complete.specs.declared.critical_pair.CriticalPair.{CriticalPair}
use Rattle.fm_run.specs.Runs.{Budget, Exponent}
use Rattle.fm_complete.specs.Divisors.{tuple_divides}
use Rattle.fm_complete.specs.Trails.{member_at}
use Rattle.fm_complete.specs.Reductions.{Reduced, reduced, divided}
use Rattle.fm_run.specs.Runs.{Work, ready, ◌>>=◌}
use Rattle.fm_run.specs.Turns.{Turn, last, again, repeated}

-- ---- pairs
-- which pair is taken up first: that with the least multiple, then with the smaller numbers
abbrev pub pair_cmp : Order → CriticalPair → CriticalPair → Ordering
pair_cmp o = then_cmp (λ a b. place_cmp o a.component a.lcm b.component b.lcm) (then_cmp (on (λ (a : CriticalPair). a.later) nat_cmp) (on (λ (a : CriticalPair). a.earlier) nat_cmp))

abbrev pub insert_at : CriticalPair → CriticalPair → List CriticalPair → List CriticalPair → Ordering → List CriticalPair
insert_at p q qs more Less = p ∷ q ∷ qs
insert_at p q qs more Equal = p ∷ q ∷ qs
insert_at p q qs more Greater = q ∷ more

-- a pair put into its place
abbrev pub inserted : Order → CriticalPair → List CriticalPair → List CriticalPair
inserted o p [] = p ∷ []
inserted o p (q ∷ qs) = insert_at p q qs (inserted o p qs) (pair_cmp o p q)

abbrev pub pair_of : ℕ → VTerm → ℕ → VTerm → CriticalPair
pair_of later t earlier u = record { component = t.component; lcm = tuple_maximum u.mono t.mono; later = later; earlier = earlier }

abbrev pub with_pair : Order → ℕ → VTerm → ℕ → List VTerm → List CriticalPair → List CriticalPair
with_pair o later t earlier [] pending = pending
with_pair o later t earlier (u ∷ us) pending = if u.component == t.component then inserted o (pair_of later t earlier u) pending else pending

-- the pending pairs with those of a new member, of head t, and each of the members, numbered from the given one
abbrev pub with_pairs : Order → ℕ → VTerm → ℕ → List (List VTerm) → List CriticalPair → List CriticalPair
with_pairs o later t earlier [] pending = pending
with_pairs o later t earlier (g ∷ gs) pending = with_pair o later t earlier g (with_pairs o later t (suc earlier) gs pending)

-- ---- the chain criterion
-- the pair of i and j is pending
abbrev pub is_pending : List CriticalPair → ℕ → ℕ → Bool
is_pending pending i j = list_any (λ (p : CriticalPair). (p.earlier == i && p.later == j) || (p.earlier == j && p.later == i)) pending

abbrev pub divides_pair : List VTerm → CriticalPair → Bool
divides_pair [] p = false
divides_pair (f ∷ fs) p = f.component == p.component && tuple_divides f.mono p.lcm

-- The member k lets the pair be skipped: its head divides the least common multiple, and neither pair of it with the two is pending.
abbrev pub lets_skip : List CriticalPair → CriticalPair → ℕ → List VTerm → Bool
lets_skip pending p k g =
    not (k == p.earlier) && (not (k == p.later) && (divides_pair g p && (not (is_pending pending p.earlier k) && not (is_pending pending k p.later))))

-- the least number of such a member, where the members are numbered from k
abbrev pub skipper : List CriticalPair → CriticalPair → ℕ → List (List VTerm) → Option ℕ
skipper pending p k [] = None
skipper pending p k (g ∷ gs) = if lets_skip pending p k g then Some k else skipper pending p (suc k) gs

-- ---- completions
-- a completion under way: the members, the pending pairs in their order, and the log
pub record Completion : Type 0 where
  pub members : List (List VTerm)
  pub pending : List CriticalPair
  pub log : List Entry

abbrev pub skipped_by : CriticalPair → List CriticalPair → List (List VTerm) → List Entry → Completion → Option ℕ → Completion
skipped_by p ps members log more (Some k) = more
skipped_by p ps members log more None = record { members = members; pending = p ∷ ps; log = log }

abbrev pub skip_entry : CriticalPair → Option ℕ → List Entry
skip_entry p (Some k) = record { start = Skip p.earlier p.later k; by = []; keep = false } ∷ []
skip_entry p None = []

-- pairs are skipped up to the first that has to be formed
abbrev pub skipping : List (List VTerm) → List Entry → List CriticalPair → Completion
skipping members log [] = record { members = members; pending = []; log = log }
skipping members log (p ∷ ps) =
    let k = skipper ps p 1 members in
    skipped_by p ps members log (skipping members (log ++ skip_entry p k) ps) k

abbrev pub numbers : List Step → List ℕ
numbers steps = map (λ (s : Step). s.number) steps

module _ (r : Ring) where
  -- a rest that is zero is dropped; another, made monic, is the next member
  abbrev pub kept : Start → List ℕ → List VTerm → Completion → Completion
  kept start by [] c = record { members = c.members; pending = c.pending; log = c.log ++ record { start = start; by = by; keep = false } ∷ [] }
  kept start by (t ∷ ts) c = record {
    members = c.members ++ monic_of r (t ∷ ts) ∷ [];
    pending = with_pairs r.order (suc (length c.members)) t 1 c.members c.pending;
    log = c.log ++ record { start = start; by = by; keep = true } ∷ [];
  }

  -- a division, and its rest kept
  abbrev pub taken_up : Start → Completion → Work Reduced → Work Completion
  taken_up start c run = run >>= λ x. ready (kept start (numbers x.steps) x.rest c)

  -- the inputs, numbered from k, one after the other
  abbrev pub with_inputs : ℕ → List (List VTerm) → Completion → Work Completion
  with_inputs k [] c = ready c
  with_inputs k (v ∷ vs) c = taken_up (Input k) c (λ units. divided r c.members units v) >>= with_inputs (suc k) vs

  -- the division of an S-vector, whose unit is spent before it is formed
  abbrev pub s_divided : List (List VTerm) → List VTerm → List VTerm → Work Reduced
  s_divided members f g zero = record { end = Err Budget; left = zero }
  s_divided members f g (suc units) = if s_vector_fits f g then reduced r members units (s_vector_of r f g) else record { end = Err Exponent; left = units }

  abbrev pub pair_formed : CriticalPair → Completion → Work Completion
  pair_formed p c = taken_up (Pair p.earlier p.later) c (s_divided c.members (member_at c.members p.earlier) (member_at c.members p.later))

  -- the first pair that isn't skipped is formed; where there is none, the completion is done
  abbrev pub pair_turn : List (List VTerm) → List Entry → List CriticalPair → Work (Turn Completion Completion)
  pair_turn members log [] = ready (last (record { members = members; pending = []; log = log }))
  pair_turn members log (p ∷ ps) = pair_formed p (record { members = members; pending = ps; log = log }) >>= λ c. ready (again c)

  abbrev pub next_pair : Completion → Work (Turn Completion Completion)
  next_pair c = let s = skipping c.members c.log c.pending in pair_turn s.members s.log s.pending

  -- the completion of the inputs
  unfoldable pub completed : List (List VTerm) → Work Completion
  completed inputs = with_inputs 1 inputs (record { members = []; pending = []; log = [] }) >>= repeated Budget next_pair
