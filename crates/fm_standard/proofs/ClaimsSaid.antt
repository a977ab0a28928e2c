-- The lines of a certificate are said: before each claim's line stand the parts and the logs that it names.
use Rattle.std.proofs.Common.{◌≡◌, ℕ, List, [], ◌∷◌, ◌++◌, length, refl, sym, ◌∙◌, subst}
use Rattle.fm_poly.specs.declared.ring.Ring.{Ring}
use Rattle.fm_words.specs.Words.{AreNames}
use Rattle.fm_problem.specs.declared.problem.Problem.{Problem}
use Rattle.fm_problem.specs.declared.query.Query.{Query}
use Rattle.fm_report.specs.Parts.{Part}
use Rattle.fm_report.specs.Sheets.{Answer}
use Rattle.fm_standard.specs.Small.{AreSmallLines}
use Rattle.fm_standard.specs.Writing.{Shelf, Written, part_written, log_written, Reference, part, log, Claim, Numbered, Page, reference_written, references_written, claim_written, claims_written}
use Rattle.fm_standard.specs.Said.{IsNamed, AreNamed, IsWritableReference, AreWritableReferences, AreWritableClaims, Laid, Puts, AllPut}
use Rattle.fm_standard.proofs.SmallLines.{small_append, small_line}
use Rattle.fm_standard.proofs.Steps.{Leads, leads_nowhere, leads_append, plain_leads}
use Rattle.fm_standard.proofs.Forms.{IsGrown, not_grown, grown_on, still_numbered}
use Rattle.fm_standard.proofs.Shelves.{IsShelf}
use Rattle.fm_standard.proofs.PartsSaid.{part_named}
use Rattle.fm_standard.proofs.LogsSaid.{log_said}

-- ---- numbers of what is named
still_named : (ps qs : List Part) → IsGrown ps qs → (x : Reference) (n : ℕ) → IsNamed ps x n → IsNamed qs x n
still_named ps qs g (part a) n e = still_numbered ps qs g n a e
still_named ps qs g (log a entries) n e = tt

module _ (q : Problem) (k : ℕ) (z : Query) (answer : Answer) where
  pub puts_append : (xs ys : List Claim) (c d e : Laid) → AllPut q k z answer xs c d → AllPut q k z answer ys d e → AllPut q k z answer (xs ++ ys) c e
  puts_append [] ys c d e p r = subst (λ x. AllPut q k z answer ys x e) (sym p) r
  puts_append (x ∷ xs) ys c d e (m, put, rest) r = (m, put, puts_append xs ys m d e rest r)

  pub put_one : (x : Claim) (c d : Laid) → Puts q k z answer x c d → AllPut q k z answer (x ∷ []) c d
  put_one x c d p = (d, p, refl)

pub claims_writable_append : (r : Ring) (xs ys : List Claim) → AreWritableClaims r xs → AreWritableClaims r ys → AreWritableClaims r (xs ++ ys)
claims_writable_append r [] ys v w = w
claims_writable_append r (x ∷ xs) ys v w = (v.0, claims_writable_append r xs ys v.1 w)

module _ (q : Problem) (h : AreNames q.vars) (l : length q.vars ≡ q.ring.vars) (z : Query) (k : ℕ) (answer : Answer) where
  -- ---- what is named
  record Referred (ps : List Part) (w : Written) (x : Reference) : Type 0 where
    parts : List Part
    grown : IsGrown ps parts
    shelf : IsShelf q h l z w.shelf parts
    here : IsNamed parts x w.number
    leads : (c : Laid) → Leads q h l k z answer ps c w.lines parts c

  reference_said : (x : Reference) (s : Shelf) (ps : List Part) → IsWritableReference q.ring x → IsShelf q h l z s ps → AreSmallLines (reference_written q.vars x s).lines
      → Referred ps (reference_written q.vars x s) x
  reference_said (part a) s ps w i small =
      let n = part_named q h l z k answer a s ps w i small in
      record { parts = n.parts; grown = n.grown; shelf = n.shelf; here = n.here; leads = n.leads }
  reference_said (log a entries) s ps w i small =
      let first = part_written q.vars a s in
      let second = log_written entries first.number first.shelf in
      let each = small_append first.lines second.lines small in
      let n = part_named q h l z k answer a s ps w i each.0 in
      let m = log_said q h l z k answer entries first.number first.shelf each.1 in
      record {
        parts = n.parts;
        grown = n.grown;
        shelf = record { forms = n.shelf.forms; texts = m.forms ∙ n.shelf.texts; made = n.shelf.made };
        here = tt;
        leads = λ c. leads_append q h l k z answer ps n.parts n.parts c c c first.lines second.lines (n.leads c) (m.leads n.parts c);
      }

  record AllReferred (ps : List Part) (w : Numbered) (xs : List Reference) : Type 0 where
    parts : List Part
    grown : IsGrown ps parts
    shelf : IsShelf q h l z w.shelf parts
    here : AreNamed parts xs w.numbers
    leads : (c : Laid) → Leads q h l k z answer ps c w.lines parts c

  references_said : (xs : List Reference) (s : Shelf) (ps : List Part) → AreWritableReferences q.ring xs → IsShelf q h l z s ps → AreSmallLines (references_written q.vars xs s).lines
      → AllReferred ps (references_written q.vars xs s) xs
  references_said [] s ps w i small = record { parts = ps; grown = not_grown ps; shelf = i; here = tt; leads = λ c. leads_nowhere q h l k z answer ps c }
  references_said (x ∷ xs) s ps w i small =
      let first = reference_written q.vars x s in
      let second = references_written q.vars xs first.shelf in
      let each = small_append first.lines second.lines small in
      let n = reference_said x s ps w.0 i each.0 in
      let m = references_said xs first.shelf n.parts w.1 n.shelf each.1 in
      record {
        parts = m.parts;
        grown = grown_on ps n.parts m.parts n.grown m.grown;
        shelf = m.shelf;
        here = (still_named n.parts m.parts m.grown x first.number n.here, m.here);
        leads = λ c. leads_append q h l k z answer ps n.parts m.parts c c c first.lines second.lines (n.leads c) (m.leads c);
      }

  -- ---- claims
  -- the lines lead from what is laid down to more; before them the parts ps have numbers, and after them these
  pub record Claimed (ps : List Part) (p : Page) (c d : Laid) : Type 0 where
    pub parts : List Part
    pub grown : IsGrown ps parts
    pub shelf : IsShelf q h l z p.shelf parts
    pub leads : Leads q h l k z answer ps c p.lines parts d

  claim_said : (x : Claim) (s : Shelf) (ps : List Part) (c d : Laid) → IsShelf q h l z s ps → AreWritableReferences q.ring x.names → AreSmallLines (claim_written q.vars x s).lines → Puts q k z answer x c d
      → Claimed ps (claim_written q.vars x s) c d
  unfolding claim_written
  claim_said x s ps c d i w small put =
      let named = references_written q.vars x.names s in
      let each = small_append named.lines (x.line named.numbers ∷ []) small in
      let n = references_said x.names s ps w i each.0 in
      let own = (small_line (x.line named.numbers) [] each.1).0 in
      record {
        parts = n.parts;
        grown = n.grown;
        shelf = n.shelf;
        leads = leads_append q h l k z answer ps n.parts n.parts c c d named.lines (x.line named.numbers ∷ []) (n.leads c)
            (plain_leads q h l k z answer n.parts n.parts c d (x.line named.numbers) (put.writable n.parts named.numbers n.here own) (put.said n.parts named.numbers n.here) (put.holds n.parts named.numbers n.here));
      }

  pub claims_said : (xs : List Claim) (s : Shelf) (ps : List Part) (c d : Laid) → IsShelf q h l z s ps → AreWritableClaims q.ring xs → AreSmallLines (claims_written q.vars xs s).lines → AllPut q k z answer xs c d
      → Claimed ps (claims_written q.vars xs s) c d
  claims_said [] s ps c d i w small put = record { parts = ps; grown = not_grown ps; shelf = i; leads = subst (Leads q h l k z answer ps c [] ps) put (leads_nowhere q h l k z answer ps c) }
  claims_said (x ∷ xs) s ps c d i w small (e, put, rest) =
      let first = claim_written q.vars x s in
      let second = claims_written q.vars xs first.shelf in
      let each = small_append first.lines second.lines small in
      let n = claim_said x s ps c e i w.0 each.0 put in
      let m = claims_said xs first.shelf n.parts e d n.shelf w.1 each.1 rest in
      record {
        parts = m.parts;
        grown = grown_on ps n.parts m.parts n.grown m.grown;
        shelf = m.shelf;
        leads = leads_append q h l k z answer ps n.parts m.parts c e d first.lines second.lines n.leads m.leads;
      }
