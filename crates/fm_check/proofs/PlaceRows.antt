-- What the row of a place does, by what it claims.
use Rattle.std.proofs.Common.{◌≡◌, ℕ, suc, ◌-◌, Bool, true, false, nat_eq, nat_lt, List, length, map, Option, Some, None, option_map, Result, Ok, Err, refl, sym, ap, ap₂, ◌∙◌, subst}
use Rattle.std.specs.Prelude.{is_some}
use Rattle.fm_words.specs.declared.mark.Mark.TheVariants.{Blank}
use Rattle.fm_words.specs.Parts.{parts as words}
use Rattle.fm_words.specs.Options.{where_so}
use Rattle.fm_words.specs.Steps.{◌>>=◌}
use Rattle.fm_poly.specs.declared.ring.Ring.{Ring}
use Rattle.fm_problem.specs.declared.problem.Problem.{Problem}
use Rattle.fm_cert.specs.Fields.{Values}
use Rattle.fm_cert.specs.Kinds.{Kind, row}
use Rattle.fm_cert.specs.Kinds as kinds
use Rattle.fm_cert.specs.Lines as lines
use Rattle.fm_cert.specs.Lines.{Line}
use Rattle.fm_report.specs.Parts.{Part}
use Rattle.fm_report.specs.Sheets.{Block, Sheet, numbered, ring_in, say}
use Rattle.fm_parts.specs.Replays.{Reason, Form, Reference}
use Rattle.fm_parts.specs.Conditions.{Log, Condition, judged}
use Rattle.fm_judge.specs.Goals.{Goal}
use Rattle.fm_judge.specs.Places.{Place}
use Rattle.fm_judge.specs.Places as places
use Rattle.fm_judge.specs.Claims.{Claim, claim, of_part}
use Rattle.fm_judge.specs.Judging.{State, block_at, in_certificate, judged_at, judged_line, moved_to, place_line, stage_at}
use Rattle.fm_lines.specs.Rows.{row_line}
use Rattle.fm_lines.specs.declared.ending.Ending.{Ending}
use Rattle.fm_lines.specs.declared.ending.Ending.TheVariants as endings
use Rattle.fm_lines.specs.declared.row.Row.{Row}
use Rattle.fm_lines.specs.declared.row.Row.TheVariants as rows
use Rattle.fm_pres.specs.Blocks.{block_of}
use Rattle.fm_pres.specs.Tables.{TableValue, parts_in}
use Rattle.fm_conditions.specs.Meanings.{logs_of}
use Rattle.fm_conditions.specs.Reasons.{Judges}
use Rattle.fm_conditions.specs.declared.why.Refused.{Refused}
use Rattle.fm_conditions.specs.declared.why.Refused.TheVariants.{Memory, Bad}
use Rattle.fm_conditions.specs.Meanings.{condition_of}
use Rattle.fm_conditions.specs.declared.condition.Condition.{Condition as Conditioned}
use Rattle.fm_conditions.specs.declared.kept_log.KeptLog.{KeptLog}
use Rattle.fm_claims.specs.declared.claimed.Claim as claims
use Rattle.fm_claims.specs.declared.claimed.Claimed.{Claimed}
use Rattle.fm_claims.specs.declared.claimed.Claimed.TheVariants as outcomes
use Rattle.fm_places.specs.declared.place.Place as next
use Rattle.fm_places.specs.Meanings.{goal_of, place_of}
use Rattle.fm_claims.specs.Views.{IsClaim, claim_on, conditions_of}
use Rattle.fm_asked.specs.Beginnings.{IsSaid}
use Rattle.fm_asked.specs.Naming.{is_naming, with_named}
use Rattle.fm_asked.specs.States.{SaysAsked, with_sheet}
use Rattle.fm_check.specs.Standings.{Goes, Leads, StandsIn, StandsWith, certificate_on, is_end, is_placed, parts_of}
use Rattle.fm_asked.specs.declared.asked.Asked.{Asked}
use Rattle.fm_check.specs.declared.certificate.Certificate.{Certificate}
use Rattle.fm_check.proofs.PartRows.{in_place, says_staged}

-- ---- whether a line has a form doesn't rest on the matrices of the block at hand

so_some : (t : Bool) (x y : Claim) → is_some (where_so t (Some x)) ≡ is_some (where_so t (Some y))
so_some true x y = refl
so_some false x y = refl

both_some : (t u : Bool) (x y : Claim) → is_some (where_so t (where_so u (Some x))) ≡ is_some (where_so t (where_so u (Some y)))
both_some true u x y = so_some u x y
both_some false u x y = refl

module _ (r : Ring) (g : Goal) (b c : Block) (parts : List Part) (logs : List Log) where
  part_some : (o : Option Part) (f h : Part → Option Claim) → ((x : Part) → is_some (f x) ≡ is_some (h x)) → is_some (of_part r g b parts logs o f) ≡ is_some (of_part r g c parts logs o h)
  part_some None f h e = refl
  part_some (Some x) f h e = e x

  so_part : (t : Bool) (o : Option Part) (f h : Part → Option Claim) → ((x : Part) → is_some (f x) ≡ is_some (h x))
      → is_some (where_so t (of_part r g b parts logs o f)) ≡ is_some (where_so t (of_part r g c parts logs o h))
  so_part true o f h e = part_some o f h e
  so_part false o f h e = refl

  same_form : (p : Place) (kind : Kind) (v : Values (row kind)) → is_some (claim r g b parts logs p kind v) ≡ is_some (claim r g c parts logs p kind v)
  unfolding claim
  same_form (places.differential j) kinds.D (n, (k, u)) = so_some (nat_eq n (suc j)) _ _
  same_form (places.exactness j) kinds.Exact (i, (n, (x, (w, u)))) = so_some (nat_eq i (suc j)) _ _
  same_form (places.lift j) kinds.Theta (n, (k, u)) = so_some (nat_eq n j) _ _
  same_form (places.chain s) kinds.Chain (i, (k, (n, (x, (w, u))))) = so_some (nat_eq i (suc s)) _ _
  same_form (places.turn s) kinds.Grows (i, (n, (x, (by, u)))) = so_some (nat_eq i s) _ _
  same_form (places.turn s) kinds.Stable (i, (w, u)) = so_some (nat_eq i s) _ _
  same_form (places.coordinates t) kinds.Coordinates (k, u) = part_some (numbered parts k) _ _ (λ x. refl)
  same_form (places.lives w t k) kinds.Lives (i, (n, (by, u))) = so_some (nat_eq i k) _ _
  same_form (places.dies w t m) kinds.Dies (i, (x, u)) = so_some (nat_eq i m) _ _
  same_form (places.lives_on w t) kinds.Lives (i, (n, (by, u))) = so_some (nat_eq i t) _ _
  same_form (places.colon f t found) kinds.Colon (i, (k, (n, (x, (w, u))))) = so_part (nat_eq i (suc (length found))) (numbered parts k) _ _ (λ x. refl)
  same_form (places.colon f t found) kinds.Settles (i, (w, u)) = both_some (nat_lt 0 (length found)) (nat_eq i (length found)) _ _
  same_form (places.lambda t identity) kinds.Lambda (i, (k, u)) = so_part (nat_eq i (length identity)) (numbered parts k) _ _ (λ x. refl)
  same_form (places.phi t identity) kinds.Phi (k, u) = part_some (numbered parts k) _ _ (λ x. refl)
  same_form (places.fibre t Phi) kinds.Fibre (k, (n, (x, (w, u)))) = part_some (numbered parts k) _ _ (λ x. refl)
  same_form (places.link t Phi found) kinds.Link (i, (k, (n, (x, (w, u))))) = so_part (nat_eq i (suc (length found))) (numbered parts k) _ _ (λ x. refl)
  same_form (places.open_link t Phi found) kinds.Link (i, (k, (n, (x, (w, u))))) = so_part (nat_eq i (suc (length found))) (numbered parts k) _ _ (λ x. refl)
  same_form (places.open_link t Phi found) kinds.Closes (i, (w, u)) = both_some (nat_lt 0 (length found)) (nat_eq i (length found - 1)) _ _
  same_form (places.short t Phi found) kinds.Short (i, (n, (x, (by, u)))) = so_some (nat_eq i (length found - 1)) _ _
  same_form (places.onto t Phi found) kinds.Onto (i, (w, u)) = so_some (nat_eq i (length found)) _ _
  same_form (places.never_onto t Phi found) kinds.Short (i, (n, (x, (by, u)))) = so_some (nat_eq i (length found - 1)) _ _
  same_form places.ideal_row kinds.D (n, (k, u)) = so_part (nat_eq n 1) (numbered parts k) _ _ (λ x. refl)
  same_form places.cocycles kinds.Cocycles v = refl
  same_form places.relations kinds.Relations v = refl
  same_form places.morphism kinds.Morphism v = refl
  same_form (places.whole t) kinds.Whole v = refl
  same_form (places.proper t) kinds.Proper v = refl
  same_form (places.power f t k) kinds.Power v = refl
  same_form (places.least f t k) kinds.Least v = refl
  same_form (places.proper_colon t found) kinds.Proper v = refl
  same_form (places.annihilator ideal t) kinds.Annihilator v = refl
  same_form (places.null t Phi) kinds.Null v = refl
  same_form (places.nonnull t Phi) kinds.NonNull v = refl
  same_form (places.one t Phi C) kinds.One v = refl
  same_form (places.notone t Phi C) kinds.NotOne v = refl
  same_form (places.cofactors d) kinds.Cofactors v = refl
  same_form (places.foreign d) kinds.Foreign v = refl
  same_form p kind v = refl

  pub form_same : (p : Place) (l : Line) → is_some (claim_on r g b parts logs p l) ≡ is_some (claim_on r g c parts logs p l)
  form_same p (lines.Row kind v) = same_form p kind v
  form_same p (lines.Head statement) = refl
  form_same p (lines.Question k statement) = refl

-- ---- rows of places

abbrev pub place_on : State → Goal → Place → Line → Result State Reason
place_on s g p (lines.Row kind v) = place_line s g p kind v
place_on s g p (lines.Head statement) = Err Form
place_on s g p (lines.Question k statement) = Err Form

pub placed_so : (s : State) (g : Goal) (p : Place) (row : Row) → is_placed row ≡ true → certificate_on s g p (row_line row) ≡ place_on s g p (row_line row)
placed_so s g p (rows.Ended ending) h = absurd (cc h)
placed_so s g p (rows.Part number form) h = absurd (cc h)
placed_so s g p (rows.Log number part) h = absurd (cc h)
placed_so s g p (rows.Datum name degree) h = absurd (cc h)
placed_so s g p (rows.Done number) h = absurd (cc h)
placed_so s g p row h = refl

pub placed_names : (row : Row) → is_placed row ≡ true → is_naming row ≡ true
placed_names (rows.Ended ending) h = absurd (cc h)
placed_names (rows.Part number form) h = absurd (cc h)
placed_names (rows.Log number part) h = absurd (cc h)
placed_names (rows.Datum name degree) h = absurd (cc h)
placed_names (rows.Done number) h = absurd (cc h)
placed_names row h = refl

module _ (s : State) (g : Goal) (p : Place) where
  -- what a line claims where this is the sheet
  abbrev pub claimed_on : Sheet → Line → Option Claim
  claimed_on sheet l = claim_on (ring_in s.sheet.head) g (block_at sheet.block) sheet.parts s.logs p l

  pub has_no_form : (l : Line) → is_some (claimed_on s.sheet l) ≡ false → place_on s g p l ≡ Err Form
  has_no_form (lines.Row kind v) h = rw h refl
  has_no_form (lines.Head statement) h = refl
  has_no_form (lines.Question k statement) h = refl

  pub is_unsaid : (l : Line) → is_some (claimed_on s.sheet l) ≡ true → say s.sheet l ≡ None → place_on s g p l ≡ Err Reference
  is_unsaid (lines.Row kind v) h e = rw (h, e) refl
  is_unsaid (lines.Head statement) h e = absurd (cc h)
  is_unsaid (lines.Question k statement) h e = absurd (cc h)

  module _ (t : Sheet) where
    pub is_missing : (l : Line) (c : Claim) → is_some (claimed_on s.sheet l) ≡ true → say s.sheet l ≡ Some t → claimed_on t l ≡ Some c → c.conditions ≡ None
        → place_on s g p l ≡ Err Reference
    is_missing (lines.Row kind v) c h e is w = rw (h, e, is, w) refl
    is_missing (lines.Head statement) c h e is w = absurd (cc h)
    is_missing (lines.Question k statement) c h e is w = absurd (cc h)

    pub is_judged : (l : Line) (cs : List Condition) (next : Place) → is_some (claimed_on s.sheet l) ≡ true → say s.sheet l ≡ Some t
        → claimed_on t l ≡ Some (record { conditions = Some cs; next = next })
        → place_on s g p l ≡ (judged (ring_in s.sheet.head) cs >>= λ _. Ok (moved_to s t (stage_at g next)))
    is_judged (lines.Row kind v) cs next h e is = rw (h, e, is) refl
    is_judged (lines.Head statement) cs next h e is = absurd (cc h)
    is_judged (lines.Question k statement) cs next h e is = absurd (cc h)

-- ---- by what the program keeps

-- after the row was said; a is what was kept before it
module _ (q : Problem) (a b : Asked) (c : Certificate) (s : State) (head : s.sheet.head ≡ Some q) (w : SaysAsked b (with_sheet s (with_named s.sheet (parts_of a) b.block b.identity.items)))
    (same : b.table ≡ a.table) (row : Row) (h : is_placed row ≡ true) (none : c.log ≡ None) where
  abbrev ps : List Part
  ps = parts_of b

  abbrev ls : List Log
  ls = logs_of ps b.logs.items

  abbrev g : Goal
  g = goal_of q ps c.goal

  abbrev p : Place
  p = place_of q.ring ps c.goal.aim c.place

  abbrev l : Line
  l = row_line row

  abbrev named : Sheet
  named = with_named s.sheet (parts_of a) b.block b.identity.items

  -- what it claims in a place
  abbrev claim_in : next.Place → Option Claim
  claim_in x = claim_on q.ring g (block_at (option_map (block_of ps) b.block)) ps ls (place_of q.ring ps c.goal.aim x) l

  claims_then : claimed_on s g p named l ≡ claim_in c.place
  claims_then =
      ap₂ (λ o bl. claim_on (ring_in o) g (block_at bl) s.sheet.parts s.logs p l) head w.block
      ∙ ap₂ (λ xs ys. claim_on q.ring g (block_at (option_map (block_of ps) b.block)) xs ys p l) w.parts w.logs

  form_now : is_some (claimed_on s g p s.sheet l) ≡ is_some (claim_in c.place)
  form_now = form_same (ring_in s.sheet.head) g (block_at s.sheet.block) (block_at named.block) s.sheet.parts s.logs p l ∙ ap is_some claims_then

  form_refused : claim_in c.place ≡ None → certificate_on s g p l ≡ Err Form
  form_refused e = placed_so s g p row h ∙ has_no_form s g p l (form_now ∙ ap is_some e)

  unsaid_refused : (x : Claim) → claim_in c.place ≡ Some x → say s.sheet l ≡ None → certificate_on s g p l ≡ Err Reference
  unsaid_refused x e n = placed_so s g p row h ∙ is_unsaid s g p l (form_now ∙ ap is_some e) n

  missing_refused : (x : Claim) → claim_in c.place ≡ Some x → say s.sheet l ≡ Some named → x.conditions ≡ None → certificate_on s g p l ≡ Err Reference
  missing_refused x e said n = placed_so s g p row h ∙ is_missing s g p named l x (form_now ∙ ap is_some e) said (claims_then ∙ e) n

  judged_is : (cs : List Condition) (n : next.Place) → claim_in c.place ≡ Some (record { conditions = Some cs; next = place_of q.ring ps c.goal.aim n }) → say s.sheet l ≡ Some named
      → certificate_on s g p l ≡ (judged q.ring cs >>= λ _. Ok (moved_to s named (stage_at g (place_of q.ring ps c.goal.aim n))))
  judged_is cs n e said =
      placed_so s g p row h
      ∙ is_judged s g p named l cs (place_of q.ring ps c.goal.aim n) (form_now ∙ ap is_some e) said (claims_then ∙ e)
      ∙ ap (λ o. judged (ring_in o) cs >>= λ _. Ok (moved_to s named (stage_at g (place_of q.ring ps c.goal.aim n)))) head

  -- the state after it
  after : (n : next.Place) → Goes q b (record c { place = n }) s (moved_to s named (stage_at g (place_of q.ring ps c.goal.aim n)))
  after n = record {
    says = record { head = head; asked = says_staged b (with_sheet s named) (stage_at g (place_of q.ring ps c.goal.aim n)) w };
    stands = subst (λ o. StandsWith g (place_of q.ring ps c.goal.aim n) ps o (stage_at g (place_of q.ring ps c.goal.aim n))) (sym none) refl;
    version = refl;
    count = refl;
    verdicts = refl;
    passed = refl;
  }

  place_leads : {X : Type 0} (T : TableValue) (cs : List Condition) (n : next.Place) (result : Result X Refused) → T ≡ b.table
      → claim_in c.place ≡ Some (record { conditions = Some cs; next = place_of q.ring ps c.goal.aim n }) → say s.sheet l ≡ Some named
      → Judges (λ _. tt) result (judged q.ring cs) → Leads q (record b { table = T }) (record c { place = n }) s result (certificate_on s g p l)
  place_leads T cs n (Ok x) e at said j = (
    moved_to s named (stage_at g (place_of q.ring ps c.goal.aim n)),
    judged_is cs n at said ∙ ap (λ r. r >>= λ _. Ok (moved_to s named (stage_at g (place_of q.ring ps c.goal.aim n)))) j,
    subst (λ (t : TableValue). Goes q (record b { table = t }) (record c { place = n }) s (moved_to s named (stage_at g (place_of q.ring ps c.goal.aim n)))) (sym e) (after n),
  )
  place_leads T cs n (Err (Bad why)) e at said j =
      judged_is cs n at said ∙ ap (λ r. r >>= λ _. Ok (moved_to s named (stage_at g (place_of q.ring ps c.goal.aim n)))) j
  place_leads T cs n (Err Memory) e at said j = tt

  -- ---- by what is found, in the place before

  abbrev judged_before : TableValue → Result State Reason
  judged_before t = certificate_on s (goal_of q (parts_in t) c.goal) (place_of q.ring (parts_in t) c.goal.aim c.place) l

  module _ (x : next.Place) (e : x ≡ c.place) (found : Claimed) (claimed : IsClaim q.ring ps ls c.goal.aim found (claim_in x)) where
    in_its_place : (f : Claimed) → found ≡ f → IsClaim q.ring ps ls c.goal.aim f (claim_in c.place)
    in_its_place f is = subst (λ y. IsClaim q.ring ps ls c.goal.aim f (claim_in y)) e (subst (λ f. IsClaim q.ring ps ls c.goal.aim f (claim_in x)) is claimed)

    pub form_leads : found ≡ outcomes.Form → judged_before a.table ≡ Err Form
    form_leads is = subst (λ (t : TableValue). judged_before t ≡ Err Form) same (form_refused (in_its_place outcomes.Form is))

    lost : (said : Bool) (o : Option Claim) → IsSaid said named (say s.sheet l) → claim_in c.place ≡ o → IsClaim q.ring ps ls c.goal.aim outcomes.Reference o
        → judged_before b.table ≡ Err Reference
    lost said None m at w = absurd w
    lost true (Some y) m at w = missing_refused y at m w
    lost false (Some y) m at w = unsaid_refused y at m

    pub reference_leads : found ≡ outcomes.Reference → (said : Bool) → IsSaid said named (say s.sheet l) → judged_before a.table ≡ Err Reference
    reference_leads is said m = subst (λ (t : TableValue). judged_before t ≡ Err Reference) same (lost said (claim_in c.place) m refl (in_its_place outcomes.Reference is))

    module _ (k : claims.Claim) (is : found ≡ outcomes.Claim k) (said : Bool) (m : IsSaid said named (say s.sheet l)) where
      pub unsaid_leads : said ≡ false → judged_before a.table ≡ Err Reference
      unsaid_leads f =
          subst (λ (t : TableValue). judged_before t ≡ Err Reference) same
          (unsaid_refused _ (in_its_place (outcomes.Claim k) is) (subst (λ b. IsSaid b named (say s.sheet l)) f m))

      pub judged_leads : {X : Type 0} → said ≡ true → (T : TableValue) (result : Result X Refused) (r : Ring) (xs : List KeptLog) (cs : List Conditioned) → T ≡ b.table → r ≡ q.ring
          → xs ≡ b.logs.items → cs ≡ k.conditions.items → Judges (λ _. tt) result (judged r (map (condition_of r ps (logs_of ps xs)) cs))
          → Leads q (record b { table = T }) (record c { place = k.next }) s result (judged_before a.table)
      judged_leads f T result r xs cs there over logs conditions j =
          subst (λ (t : TableValue). Leads q (record b { table = T }) (record c { place = k.next }) s result (judged_before t)) same
          (place_leads T (conditions_of q.ring ps ls k.conditions.items) k.next result there (in_its_place (outcomes.Claim k) is) (subst (λ b. IsSaid b named (say s.sheet l)) f m)
          (subst (λ zs. Judges (λ _. tt) result (judged q.ring (map (condition_of q.ring ps ls) zs))) conditions
          (subst (λ ys. Judges (λ _. tt) result (judged q.ring (map (condition_of q.ring ps (logs_of ps ys)) cs))) logs
          (subst (λ t. Judges (λ _. tt) result (judged t (map (condition_of t ps (logs_of ps xs)) cs))) over j))))

-- ---- ends of queries stand in no place

module _ (r : Ring) (g : Goal) (b : Block) (parts : List Part) (logs : List Log) where
  no_end : (p : Place) (kind : kinds.EndKind) (v : Values (kinds.end_row kind)) → claim r g b parts logs p (kinds.Ended kind) v ≡ None
  unfolding claim
  no_end places.datum kind v = refl
  no_end p kind v = refl

  pub no_done : (p : Place) (k : ℕ) → claim_on r g b parts logs p (row_line (rows.Done k)) ≡ None
  unfolding claim
  no_done places.datum k = refl
  no_done p k = refl

  pub no_ending : (p : Place) (ending : Ending) → claim_on r g b parts logs p (row_line (rows.Ended ending)) ≡ None
  no_ending p (endings.Zero is_zero stable) = no_end p kinds.Zero (is_zero, (stable, tt))
  no_ending p (endings.Class stage) = no_end p kinds.Class (stage, tt)
  no_ending p (endings.Invert power) = no_end p kinds.Invert (power, tt)
  no_ending p (endings.Support ideal) = no_end p kinds.Support (ideal.items, tt)
  no_ending p (endings.Root rank stable) = no_end p kinds.Root (rank, (stable, tt))
  no_ending p (endings.Ranks ranks) = no_end p kinds.Ranks (ranks.items, tt)
  no_ending p (endings.ExtOf generators relations) = no_end p kinds.ExtOf (generators, (relations, tt))
  no_ending p (endings.Map is_zero is_one onto) = no_end p kinds.Map (is_zero, (is_one, (onto, tt)))
  no_ending p (endings.Member is_member) = no_end p kinds.Member (is_member, tt)
  no_ending p (endings.Budget task) = no_end p kinds.Budget (words Blank task.now, tt)
  no_ending p (endings.Exponents task) = no_end p kinds.Exponents (words Blank task.now, tt)
  no_ending p (endings.WrongLength found needed) = no_end p kinds.WrongLength (found, (needed, tt))
  no_ending p (endings.NotCocycle component) = no_end p kinds.NotCocycle (component, tt)
  no_ending p (endings.NotContained generator) = no_end p kinds.NotContained (generator, tt)

module _ (s : State) (g : Goal) (p : Place) where
  pub done_refused : (k : ℕ) → certificate_on s g p (row_line (rows.Done k)) ≡ Err Form
  done_refused k = has_no_form s g p (row_line (rows.Done k)) (ap is_some (no_done (ring_in s.sheet.head) g (block_at s.sheet.block) s.sheet.parts s.logs p k))

  ended_on : (ending : Ending) → certificate_on s g p (row_line (rows.Ended ending)) ≡ place_on s g p (row_line (rows.Ended ending))
  ended_on (endings.Zero is_zero stable) = refl
  ended_on ending = refl

  pub ending_refused : (ending : Ending) → certificate_on s g p (row_line (rows.Ended ending)) ≡ Err Form
  ending_refused ending =
      ended_on ending ∙ has_no_form s g p (row_line (rows.Ended ending)) (ap is_some (no_ending (ring_in s.sheet.head) g (block_at s.sheet.block) s.sheet.parts s.logs p ending))

  judged_there : (line : Line) → judged_at s (in_certificate g p) line ≡ certificate_on s g p line
  judged_there (lines.Row kind v) = refl
  judged_there (lines.Head statement) = refl
  judged_there (lines.Question k statement) = refl

  pub judged_placed : (line : Line) → s.stage ≡ in_certificate g p → judged_line s line ≡ certificate_on s g p line
  unfolding judged_line
  judged_placed line e = ap (λ stage. judged_at s stage line) e ∙ judged_there line

-- a row of a certificate is judged in the place where the certificate stands
module _ (q : Problem) (a : Asked) (c : Certificate) (s : State) (none : c.log ≡ None) (at : is_end c.place ≡ false) (stands : StandsIn q (parts_of a) c s.stage) where
  judged_here : (line : Line) → judged_line s line ≡ certificate_on s (goal_of q (parts_of a) c.goal) (place_of q.ring (parts_of a) c.goal.aim c.place) line
  judged_here line =
      let there = subst (λ o. StandsWith (goal_of q (parts_of a) c.goal) (place_of q.ring (parts_of a) c.goal.aim c.place) (parts_of a) o s.stage) none stands in
      judged_placed s (goal_of q (parts_of a) c.goal) (place_of q.ring (parts_of a) c.goal.aim c.place) line
      (there ∙ in_place q.ring (parts_of a) c.goal.aim c.place (goal_of q (parts_of a) c.goal) at)

  pub leads_here : {X : Type 0} (b : Asked) (d : Certificate) (result : Result X Refused) (row other : Row) → other ≡ row
      → Leads q b d s result (certificate_on s (goal_of q (parts_of a) c.goal) (place_of q.ring (parts_of a) c.goal.aim c.place) (row_line other))
      → Leads q b d s result (judged_line s (row_line row))
  leads_here b d result row other is h =
      subst (Leads q b d s result) (sym (judged_here (row_line row)))
      (subst (λ x. Leads q b d s result (certificate_on s (goal_of q (parts_of a) c.goal) (place_of q.ring (parts_of a) c.goal.aim c.place) (row_line x))) is h)

  pub ended_here : (row : Row) (ending : Ending) → row ≡ rows.Ended ending → judged_line s (row_line row) ≡ Err Form
  ended_here row ending is =
      judged_here (row_line row) ∙ ap (λ x. certificate_on s (goal_of q (parts_of a) c.goal) (place_of q.ring (parts_of a) c.goal.aim c.place) (row_line x)) is
      ∙ ending_refused s (goal_of q (parts_of a) c.goal) (place_of q.ring (parts_of a) c.goal.aim c.place) ending

  pub done_here : (row : Row) (k : ℕ) → row ≡ rows.Done k → judged_line s (row_line row) ≡ Err Form
  done_here row k is =
      judged_here (row_line row) ∙ ap (λ x. certificate_on s (goal_of q (parts_of a) c.goal) (place_of q.ring (parts_of a) c.goal.aim c.place) (row_line x)) is
      ∙ done_refused s (goal_of q (parts_of a) c.goal) (place_of q.ring (parts_of a) c.goal.aim c.place) k
