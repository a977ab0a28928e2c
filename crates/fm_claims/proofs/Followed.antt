-- When what is found follows the table.
use Rattle.std.proofs.Common.{◌≡◌, ℕ, suc, true, List, [], ◌∷◌, Option, Some, None, option_map, Result, ◌⊎◌, inl, inr, sym, ap, ap₂, subst}
use Rattle.std.specs.Prelude.{IfOk}
use Rattle.fm_words.specs.Options.{◌>>=◌}
use Rattle.fm_poly.specs.declared.ring.Ring.{Ring}
use Rattle.fm_report.specs.Parts.{Part}
use Rattle.fm_report.specs.Sheets.{numbered}
use Rattle.fm_report.specs.Sheets as sheets
use Rattle.fm_problem.specs.declared.problem.Problem.{Problem}
use Rattle.fm_parts.specs.Conditions.{Log, Condition, equal}
use Rattle.fm_parts.specs.Replays.{are_numbers}
use Rattle.fm_judge.specs.Claims.{codifferential, excluded}
use Rattle.fm_judge.specs.Goals as goals
use Rattle.fm_judge.specs.Places as places
use Rattle.fm_pres.specs.Blocks.{block_of, parts_at}
use Rattle.fm_pres.specs.declared.block.Block.{Block}
use Rattle.fm_lines.specs.Rows.{row_line}
use Rattle.fm_lines.specs.declared.row.Row.{Row}
use Rattle.fm_conditions.specs.Meanings.{logs_of}
use Rattle.fm_conditions.specs.declared.kept_log.KeptLog.{KeptLog}
use Rattle.fm_claims.specs.declared.claimed.Claimed.{Claimed}
use Rattle.fm_claims.specs.declared.claimed.Claimed.TheVariants.{Form, Reference}
use Rattle.fm_places.specs.declared.place.Place.{Place}
use Rattle.fm_places.specs.declared.place.Place.TheVariants as program
use Rattle.fm_places.specs.Meanings.{goal_of, place_of}
use Rattle.fm_places.specs.declared.goal.Goal.{Goal}
use Rattle.fm_claims.specs.Following.{Follows, FollowsIn, claim_in}
use Rattle.fm_claims.proofs.Rows.{not_datum, not_datum_beyond, not_end}

-- ---- what there is, and what there isn't
pub some_then : {A B : Type 0} (x : Option A) (a : A) (f : A → Option B) → x ≡ Some a → (x >>= f) ≡ f a
some_then x a f e = ap (λ o. o >>= f) e

pub none_then : {A B : Type 0} (x : Option A) (f : A → Option B) → x ≡ None → (x >>= f) ≡ None
none_then x f e = ap (λ o. o >>= f) e

pub some_mapped : {A B : Type 0} (x : Option A) (a : A) (f : A → B) → x ≡ Some a → option_map f x ≡ Some (f a)
some_mapped x a f e = ap (option_map f) e

pub none_mapped : {A B : Type 0} (x : Option A) (f : A → B) → x ≡ None → option_map f x ≡ None
none_mapped x f e = ap (option_map f) e

-- what has a number in one list has it in the same list
pub numbered_in : (ps : List Part) (xs ys : List ℕ) (n : ℕ) (o : Option Part) → xs ≡ ys → numbered (parts_at ps xs) n ≡ o → numbered (parts_at ps ys) n ≡ o
numbered_in ps xs ys n o e h = subst (λ zs. numbered (parts_at ps zs) n ≡ o) e h

pub numbered_moved : (ps : List Part) (xs ys : List ℕ) (m k : ℕ) (o : Option Part) → xs ≡ ys → m ≡ k → numbered (parts_at ps xs) (suc m) ≡ o → numbered (parts_at ps ys) (suc k) ≡ o
numbered_moved ps xs ys m k o e n h = subst (λ i. numbered (parts_at ps ys) (suc i) ≡ o) n (numbered_in ps xs ys (suc m) o e h)

pub numbers_in : (ps : List Part) (xs ys : List ℕ) → xs ≡ ys → are_numbers ps ys ≡ true → are_numbers ps xs ≡ true
numbers_in ps xs ys e h = subst (λ zs. are_numbers ps zs ≡ true) (sym e) h

pub excluded_in : (r : Ring) (G : goals.Goal) (B : sheets.Block) (ps : List Part) (L : List Log) (e : ℕ) (A V : Part) (n k : ℕ) (xs ys : List ℕ) (o : Option (List Condition))
    → xs ≡ ys → excluded r G B ps L e A V n k xs ≡ o → excluded r G B ps L e A V n k ys ≡ o
excluded_in r G B ps L e A V n k xs ys o h x = subst (λ zs. excluded r G B ps L e A V n k zs ≡ o) h x

pub codifferential_in : (r : Ring) (ps : List Part) (xs ys : List ℕ) (n : ℕ) (o : Option Part) → xs ≡ ys → codifferential r (parts_at ps xs) n ≡ o → codifferential r (parts_at ps ys) n ≡ o
codifferential_in r ps xs ys n o e h = subst (λ zs. codifferential r (parts_at ps zs) n ≡ o) e h

-- an equation of equal sides
pub equal_sides : (a b c d : Part) → a ≡ b → c ≡ d → ◌≡◌ {A = Option (List Condition)} (Some (equal a c ∷ [])) (Some (equal b d ∷ []))
equal_sides a b c d e f = ap₂ (λ x y. Some (equal x y ∷ [])) e f

pub equal_sides_of : (a b c d : Part) → a ≡ b → c ≡ d → equal a c ≡ equal b d
equal_sides_of a b c d e f = ap₂ equal e f

module _ (q : Problem) (ps : List Part) (ls : List KeptLog) (g : Goal) (b : Block) (p : Place) (row line : Row) (is : row ≡ line) where
  -- another line stands there
  pub misplaced : claim_in q ps ls g b (place_of q.ring ps g.aim p) line ≡ None → FollowsIn q ps ls g b p row Form
  misplaced e = rw is (record { claim = e; sound = tt })

  module _ (conditions : Option (List Condition)) (next : places.Place) (says : claim_in q ps ls g b (place_of q.ring ps g.aim p) line ≡ Some (record { conditions = conditions; next = next })) where
    -- what the line names isn't there
    pub unnamed : conditions ≡ None → FollowsIn q ps ls g b p row Reference
    unnamed e = rw is (subst (λ x. Follows q.ring ps ls g.aim x Reference) (sym says) (record { claim = e; sound = tt }))

    -- the conditions of the line
    pub claimed : {E : Type 0} (found : Result Claimed E) (cs : List Condition) (place : Place)
        → IfOk found (Follows q.ring ps ls g.aim (Some (record { conditions = Some cs; next = place_of q.ring ps g.aim place })))
        → conditions ≡ Some cs → place_of q.ring ps g.aim place ≡ next → IfOk found (FollowsIn q ps ls g b p row)
    claimed found cs place h c n =
        rw is (subst (λ x. IfOk found (Follows q.ring ps ls g.aim x)) (sym says)
        (subst (λ x. IfOk found (Follows q.ring ps ls g.aim (Some (record { conditions = x; next = next })))) (sym c)
        (subst (λ x. IfOk found (Follows q.ring ps ls g.aim (Some (record { conditions = Some cs; next = x })))) n h)))

-- what follows the table in a place does so in the same place
pub follows_so : (q : Problem) (ps : List Part) (ls : List KeptLog) (g : Goal) (b : Block) (p s : Place) (row line : Row) {E : Type 0} (found : Result Claimed E)
    → p ≡ s → row ≡ line → IfOk found (FollowsIn q ps ls g b s line) → IfOk found (FollowsIn q ps ls g b p row)
follows_so q ps ls g b p s row line found e is h =
    subst (λ x. IfOk found (FollowsIn q ps ls g b x row)) (sym e) (subst (λ x. IfOk found (FollowsIn q ps ls g b s x)) (sym is) h)

-- places in which no row stands
pub no_row_there : (q : Problem) (ps : List Part) (ls : List KeptLog) (g : Goal) (b : Block) (place : Place) (row : Row)
    → (place ≡ program.Datum) ⊎ (((t : ℕ) × (place ≡ program.DatumBeyond t)) ⊎ (place ≡ program.End)) → FollowsIn q ps ls g b place row Form
no_row_there q ps ls g b place row h =
    let G = goal_of q ps g in let B = block_of ps b in let L = logs_of ps ls in
    elim h [
      | inl e ↦ subst (λ x. FollowsIn q ps ls g b x row Form) (sym e) (record { claim = not_datum q.ring G B ps L (row_line row); sound = tt })
      | inr s ↦ elim s [
        | inl w ↦ subst (λ x. FollowsIn q ps ls g b x row Form) (sym w.1) (record { claim = not_datum_beyond q.ring G B ps L w.0 (row_line row); sound = tt })
        | inr e ↦ subst (λ x. FollowsIn q ps ls g b x row Form) (sym e) (record { claim = not_end q.ring G B ps L (row_line row); sound = tt })
      ]
    ]
